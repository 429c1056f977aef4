-- What a backend means: a host length and its regions. Cited by the crates above. Assumes nothing.
use Rattle.std.specs.Prelude.{◌≡◌, ℕ, ◌+◌, ◌^◌, ◌<◌, ◌≤◌, true, List, map, length, find, None, Option, slice_index_or}
use Rattle.region.specs.Ranges.{Range, covers}
use Rattle.region.specs.Regions.{Region, range_of, sound}

-- the host buffer's stated length, and the regions in ascending order
pub record Ground : Type 0 where
  pub host : ℕ
  pub regions : List Region

-- one range ends before the other starts
abbrev pub Apart : Range → Range → Type 0
Apart r s = r.start + r.len ≤ s.start

-- the range, and the region, at an index
abbrev pub range_at : List Range → ℕ → Range
range_at xs k = slice_index_or xs k (record { start = 0; len = 0 })

abbrev pub region_at : List Region → ℕ → Region
region_at xs k = slice_index_or xs k (record { start = 0; len = 0; place = None })

-- each of the first n ranges ends before the next starts
abbrev pub Ascending : List Range → ℕ → Type 0
Ascending xs n = (k : ℕ) → k + 1 < n → Apart (range_at xs k) (range_at xs (k + 1))

-- each of the first n regions is sound
abbrev pub AllSound : ℕ → List Region → ℕ → Type 0
AllSound host xs n = (k : ℕ) → k < n → sound host (region_at xs k) ≡ true

-- a backend keeps its meaning: its regions are sound for its host length, and each ends before the
-- next starts, so that no two share an address
abbrev pub KeepsMeaning : Ground → Type 0
KeepsMeaning g =
    (g.host < 2 ^ 64)
    × AllSound g.host g.regions (length g.regions)
    × Ascending (map range_of g.regions) (length g.regions)

-- the region that holds an address, or none
abbrev pub holding : List Region → ℕ → Option Region
holding rs a = find (λ r. covers (range_of r) a) rs
