-- What inserting and removing a region asks, and the table it makes. Assumes nothing.
use Rattle.std.specs.Prelude.{◌≡◌, ℕ, ◌+◌, ◌-◌, ◌<◌, Bool, true, false, cond, not, ◌&&◌, List, ◌++◌, map, length, take, drop, Some, None, Ok, Err, Option, Result, ◌==◌, nat_lt, slice_index_or, position}
use Rattle.std.specs.List.{insert, remove, list_all, position_or_len}
use Rattle.region.specs.Ranges.{Range}
use Rattle.region.specs.Regions.{Region, range_of, shown, sound}
use Rattle.region.specs.Grounds.{Apart, KeepsMeaning, range_at}
use Rattle.table.specs.declared.error.GuestRegionCollectionError.{GuestRegionCollectionError}
use Rattle.table.specs.declared.error.GuestRegionCollectionError.TheVariants.{NoMemoryRegion, MemoryRegionOverlap, BadRegion, NoRoom}

-- two ranges that are not empty share an address
abbrev pub clashes : Range → Range → Bool
clashes r s = nat_lt s.start (r.start + r.len) && nat_lt r.start (s.start + s.len)

-- a range is clear of the others
abbrev pub clear : List Range → Range → Bool
clear rs s = list_all (λ r. not (clashes r s)) rs

-- inserting: has the destination an entry more? is the region sound? is it clear of the others?
abbrev pub insert_fault : ℕ → ℕ → List Region → Region → Option GuestRegionCollectionError
insert_fault host room rs new =
    cond (nat_lt room (length rs + 1)) (Some NoRoom)
    (cond (sound host new) (cond (clear (map range_of rs) (range_of new)) None (Some MemoryRegionOverlap)) (Some (BadRegion 0)))

-- a range's place in the order: in front of the first that starts above it
abbrev pub place_in : List Range → Range → ℕ
place_in rs s = position_or_len (λ r. nat_lt s.start r.start) rs

-- the answer to where a range fits: none where it is not clear of the others, else its place in the
-- order, those before it ending before it starts and it ending before the next one starts
abbrev pub Fitted : List Range → Range → Option ℕ → Type 0
Fitted rs s None = clear rs s ≡ false
Fitted rs s (Some i) =
    (clear rs s ≡ true) × (i ≡ place_in rs s)
    × ((k : ℕ) → k < i → Apart (range_at rs k) s)
    × (i < length rs → Apart s (range_at rs i))

-- a range has exactly this start and length
abbrev pub exactly : ℕ → ℕ → Range → Bool
exactly start len r = r.start == start && r.len == len

-- the index of the range with exactly this start and length, or none
abbrev pub exact_index : List Range → ℕ → ℕ → Option ℕ
exact_index rs start len = position (exactly start len) rs

-- removing: is there such a region? has the destination an entry for each other?
abbrev pub room_fault : ℕ → ℕ → Option ℕ → Option GuestRegionCollectionError
room_fault room count None = Some NoMemoryRegion
room_fault room count (Some i) = cond (nat_lt room (count - 1)) (Some NoRoom) None

abbrev pub remove_fault : ℕ → List Range → ℕ → ℕ → Option GuestRegionCollectionError
remove_fault room rs start len = room_fault room (length rs) (exact_index rs start len)

-- what inserting answers and leaves: xs are the regions, and the second table goes from `before` to
-- `after`, whose further entries keep their values
abbrev pub Inserts : {R : Type 0} → (R → Range) → (R → Option ℕ) → ℕ → List R → R → List R → List R → Result ℕ GuestRegionCollectionError → Type 0
Inserts range place host xs new before after (Ok n) =
    (insert_fault host (length before) (map (shown range place) xs) (shown range place new) ≡ None)
    × (n ≡ length xs + 1)
    × (after ≡ insert xs (place_in (map range xs) (range new)) new ++ drop n before)
    × KeepsMeaning (record { host = host; regions = map (shown range place) (take n after) })
Inserts range place host xs new before after (Err e) =
    (insert_fault host (length before) (map (shown range place) xs) (shown range place new) ≡ Some e) × (after ≡ before)

-- what removing answers and leaves, likewise, with the removed region
abbrev pub Removes : {R : Type 0} → (R → Range) → (R → Option ℕ) → ℕ → List R → ℕ → ℕ → List R → List R → Result (ℕ × R) GuestRegionCollectionError → Type 0
Removes range place host xs start len before after (Ok p) =
    (remove_fault (length before) (map range xs) start len ≡ None)
    × (p.0 + 1 ≡ length xs)
    × ((i : ℕ) × (exact_index (map range xs) start len ≡ Some i) × (p.1 ≡ slice_index_or xs i p.1) × (after ≡ remove xs i ++ drop p.0 before))
    × KeepsMeaning (record { host = host; regions = map (shown range place) (take p.0 after) })
Removes range place host xs start len before after (Err e) =
    (remove_fault (length before) (map range xs) start len ≡ Some e) × (after ≡ before)
