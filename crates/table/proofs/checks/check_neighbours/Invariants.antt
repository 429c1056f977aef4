use Rattle.std.proofs.Common.{◌≡◌, map, length, drop}
use Rattle.table.specs.Questions.{neighbours}
use Rattle.table.proofs.checks.check_neighbours.Given as goal

-- the pairs from here on are refused for what the whole table is refused for
abbrev pub invariant-loop-left : goal.invariant-loop-left
invariant-loop-left g l =
    let xs = map g.R.AddressRange.range l.table in
    neighbours (drop (length l.yielded) xs) ≡ neighbours xs
