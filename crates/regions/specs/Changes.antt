-- Regions with one more or one less: which are left, and what is refused. Assumes nothing.
use Rattle.std.specs.Prelude.{◌≡◌, ℕ, List, map, Some, None, Ok, Err, vec_items, Result, Vec, slice_index_or}
use Rattle.std.specs.List.{insert, remove}
use Rattle.std.specs.declared.alloc.Global.{Global}
use Rattle.region.specs.Regions.{shown}
use Rattle.region.specs.Slots.{slot_range, slot_place}
use Rattle.region.specs.declared.slot.SlotRegion.{SlotRegion}
use Rattle.table.specs.Questions.{table_fault}
use Rattle.table.specs.Edits.{insert_fault, remove_fault, place_in, exact_index}
use Rattle.table.specs.declared.error.GuestRegionCollectionError.{GuestRegionCollectionError}
use Rattle.regions.specs.declared.error.EditError.{EditError}
use Rattle.regions.specs.declared.error.EditError.TheVariants.{Refused, Alloc}

-- what holds of what an edit comes to, its value or its refusal; nothing where memory is wanting
abbrev pub ComesTo : {X : Type 0} → Result X EditError → (Result X GuestRegionCollectionError → Type 0) → Type 0
ComesTo (Ok x) P = P (Ok x)
ComesTo (Err (Refused e)) P = P (Err e)
ComesTo (Err (Alloc e)) P = Unit {0}

-- the regions with one more in its place in the order, which again pass the questions of a table
abbrev pub Insertion : ℕ → ℕ → List SlotRegion → SlotRegion → Result (Vec SlotRegion Global) GuestRegionCollectionError → Type 0
Insertion host room xs new (Ok v) =
    (insert_fault host room (map (shown slot_range slot_place) xs) (shown slot_range slot_place new) ≡ None)
    × (vec_items v ≡ insert xs (place_in (map slot_range xs) (slot_range new)) new)
    × (table_fault host (map (shown slot_range slot_place) (vec_items v)) ≡ None)
Insertion host room xs new (Err e) = insert_fault host room (map (shown slot_range slot_place) xs) (shown slot_range slot_place new) ≡ Some e

-- the regions without the one of exactly this start and length, likewise, and that one
abbrev pub Removal : ℕ → ℕ → List SlotRegion → ℕ → ℕ → Result (Vec SlotRegion Global × SlotRegion) GuestRegionCollectionError → Type 0
Removal host room xs start len (Ok p) =
    (remove_fault room (map slot_range xs) start len ≡ None)
    × ((i : ℕ) × (exact_index (map slot_range xs) start len ≡ Some i) × (p.1 ≡ slice_index_or xs i p.1) × (vec_items p.0 ≡ remove xs i))
    × (table_fault host (map (shown slot_range slot_place) (vec_items p.0)) ≡ None)
Removal host room xs start len (Err e) = remove_fault room (map slot_range xs) start len ≡ Some e
