-- The questions that a table of regions is put, in their order. Assumes nothing.
use Rattle.std.specs.Prelude.{ℕ, ◌+◌, cond, not, List, [], ◌∷◌, map, Some, None, Option, nat_lt, option_map, position}
use Rattle.std.specs.Option.{option_or}
use Rattle.region.specs.Ranges.{Range, covers}
use Rattle.region.specs.Regions.{Region, range_of, sound}
use Rattle.table.specs.declared.error.GuestRegionCollectionError.{GuestRegionCollectionError}
use Rattle.table.specs.declared.error.GuestRegionCollectionError.TheVariants.{UnsortedMemoryRegions, MemoryRegionOverlap, BadRegion}

-- does the left of a pair start no later than the right? does it end before the right starts?
abbrev pub pair_fault : Range → Range → Option GuestRegionCollectionError
pair_fault l r = cond (nat_lt r.start l.start) (Some UnsortedMemoryRegions) (cond (nat_lt r.start (l.start + l.len)) (Some MemoryRegionOverlap) None)

-- the neighbouring pairs from the left, the first no
abbrev pub neighbours : List Range → Option GuestRegionCollectionError
neighbours [] = None
neighbours (x ∷ []) = None
neighbours (x ∷ y ∷ rest) = option_or (pair_fault x y) (neighbours (y ∷ rest))

-- the index of the first unsound region
abbrev pub first_unsound : ℕ → List Region → Option ℕ
first_unsound host rs = position (λ r. not (sound host r)) rs

-- the index of the range that holds an address, or none
abbrev pub holder : List Range → ℕ → Option ℕ
holder rs a = position (λ r. covers r a) rs

-- an unsound region is refused with its index
abbrev pub bad_region : Option ℕ → Option GuestRegionCollectionError
bad_region = option_map BadRegion

-- is every region sound? is every neighbouring pair in order and apart?
abbrev pub table_fault : ℕ → List Region → Option GuestRegionCollectionError
table_fault host rs = option_or (bad_region (first_unsound host rs)) (neighbours (map range_of rs))
