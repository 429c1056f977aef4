-- What a collection means, and what its makers answer. Assumes nothing.
use Rattle.std.specs.Prelude.{ℕ, max, cond, List, [], ◌∷◌, map, length, take, Some, Option, ◌==◌, nat_lt}
use Rattle.region.specs.Ranges.{last_address}
use Rattle.region.specs.Regions.{Region, range_of, shown}
use Rattle.region.specs.Grounds.{Ground}
use Rattle.region.specs.declared.region.AddressRange as ranges
use Rattle.region.specs.declared.region.GuestMemoryRegion as places
use Rattle.table.specs.Questions.{table_fault}
use Rattle.table.specs.declared.error.GuestRegionCollectionError.{GuestRegionCollectionError}
use Rattle.table.specs.declared.error.GuestRegionCollectionError.TheVariants.{NoMemoryRegion, NoRoom}
use Rattle.collection.specs.declared.collection.GuestRegionCollection.{GuestRegionCollection}

-- the regions of a collection: the first `count` of its table
abbrev pub items : {R : Type 0} {m : places.Ghosts R} {a : ranges.Ghosts R} → GuestRegionCollection R m a → List R
items c = take c.count c.table.now

-- what a collection means as a backend; `lawful`, a ghost field of each, says that it keeps its meaning
abbrev pub ground_of : {R : Type 0} {m : places.Ghosts R} {a : ranges.Ghosts R} → GuestRegionCollection R m a → Ground
ground_of {m = m} {a = a} c = record { host = c.host_len; regions = map (shown a.range m.place) (items c) }

-- making a collection: has its whole table an entry? then the questions of a table
abbrev pub make_fault : ℕ → List Region → Option GuestRegionCollectionError
make_fault host rs = cond (length rs == 0) (Some NoMemoryRegion) (table_fault host rs)

-- making one from the first `count` entries of an edited table, none included: are there as many?
abbrev pub edited_fault : ℕ → ℕ → List Region → Option GuestRegionCollectionError
edited_fault host count rs = cond (nat_lt (length rs) count) (Some NoRoom) (table_fault host (take count rs))

-- the highest address of any region; 0 where there is none
abbrev pub highest : List Region → ℕ
highest [] = 0
highest (r ∷ rs) = max (last_address (range_of r)) (highest rs)
