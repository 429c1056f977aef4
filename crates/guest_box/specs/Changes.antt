-- Inserting and removing a region of the box: its answer and the regions it leaves. Assumes nothing.
use Rattle.std.specs.Prelude.{ℕ, ◌+◌, ◌-◌, List, map, length, Some, None, Option}
use Rattle.std.specs.List.{insert, remove}
use Rattle.region.specs.Regions.{Region, shown}
use Rattle.region.specs.Grounds.{region_at}
use Rattle.answers.specs.declared.Answer.{Answer}
use Rattle.answers.specs.declared.Answer.TheVariants.{Error, Refused, Removed}
use Rattle.table.specs.Refused.{table_refusal}
use Rattle.guest_box.specs.Memories.{Held, absent, over, framed, counted_or_refused, held_if}
use Rattle.region.specs.Slots.{slot_range, slot_place}
use Rattle.region.specs.declared.slot.SlotRegion.{SlotRegion}
use Rattle.table.specs.Edits.{insert_fault, remove_fault, place_in, exact_index}
use Rattle.table.specs.declared.error.GuestRegionCollectionError.{GuestRegionCollectionError}

-- what inserting into the memory of the box answers: an error where it is no collection
abbrev pub insert_answer : ℕ → ℕ → Held → SlotRegion → Answer
insert_answer host room absent new = Error
insert_answer host room (framed base vs) new = Error
insert_answer host room (over xs) new = counted_or_refused (length xs + 1) (insert_fault host room (map (shown slot_range slot_place) xs) (shown slot_range slot_place new))

-- the memory that it leaves
abbrev pub insert_held : ℕ → ℕ → Held → SlotRegion → Held
insert_held host room absent new = absent
insert_held host room (framed base vs) new = framed base vs
insert_held host room (over xs) new = held_if (insert_fault host room (map (shown slot_range slot_place) xs) (shown slot_range slot_place new)) (over (insert xs (place_in (map slot_range xs) (slot_range new)) new)) (over xs)

-- the region at an index, as it is told
abbrev pub region_told : ℕ → Region → Answer
region_told count r = Removed count (record { start = r.start; len = r.len }) r.place

-- removing answers the number of regions left with the removed one, or the refusal
abbrev pub removed_or_refused : List SlotRegion → Option ℕ → Option GuestRegionCollectionError → Answer
removed_or_refused xs i (Some e) = Refused (table_refusal e)
removed_or_refused xs None None = Error
removed_or_refused xs (Some i) None = region_told (length xs - 1) (region_at (map (shown slot_range slot_place) xs) i)

abbrev pub without : List SlotRegion → Option ℕ → List SlotRegion
without xs None = xs
without xs (Some i) = remove xs i

abbrev pub remove_answer : ℕ → Held → ℕ → ℕ → Answer
remove_answer room absent start len = Error
remove_answer room (framed base vs) start len = Error
remove_answer room (over xs) start len = removed_or_refused xs (exact_index (map slot_range xs) start len) (remove_fault room (map slot_range xs) start len)

abbrev pub remove_held : ℕ → Held → ℕ → ℕ → Held
remove_held room absent start len = absent
remove_held room (framed base vs) start len = framed base vs
remove_held room (over xs) start len = held_if (remove_fault room (map slot_range xs) start len) (over (without xs (exact_index (map slot_range xs) start len))) (over xs)
