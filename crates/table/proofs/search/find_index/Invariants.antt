use Rattle.std.proofs.Common.{ℕ, ◌+◌, ◌-◌, ◌<◌, ◌≤◌, map, length}
use Rattle.region.specs.Grounds.{Ascending, range_at}
use Rattle.table.proofs.search.find_index.Given as goal

-- what lies below `low` ends at or below the address, and what lies from `high` on starts above it
abbrev pub invariant-loop-low : goal.invariant-loop-low
invariant-loop-low g l =
    let xs = map g.R.AddressRange.range l.table in
    (l.low ≤ l.high) × (l.high ≤ length l.table)
    × (Ascending xs (length l.table) → ((k : ℕ) → k < l.low → (range_at xs k).start + (range_at xs k).len ≤ l.addr.0) × ((k : ℕ) → l.high ≤ k → k < length l.table → l.addr.0 < (range_at xs k).start))

abbrev pub decreases-loop-low : goal.decreases-loop-low
decreases-loop-low g l = l.high - l.low
