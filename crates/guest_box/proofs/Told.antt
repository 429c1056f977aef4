-- What a removal comes to, as an answer and as the box that is left.
use Rattle.std.proofs.Common.{◌≡◌, ℕ, true, List, map, length, Ok, Err, None, vec_items, vec_len, Vec, Result, arith}
use Rattle.std.proofs.lemmas.Grind.{common_steps}
use Rattle.std.proofs.lemmas.List.Edits.{length-remove}
use Rattle.std.specs.declared.alloc.Global.{Global}
use Rattle.region.specs.Regions.{shown}
use Rattle.region.specs.Slots.{slot_range, slot_place}
use Rattle.region.specs.declared.slot.SlotRegion.{SlotRegion}
use Rattle.table.specs.Questions.{table_fault}
use Rattle.table.specs.declared.error.GuestRegionCollectionError.{GuestRegionCollectionError}
use Rattle.table.proofs.Tables.{region_read}
use Rattle.answers.specs.Failures.{Settles}
use Rattle.regions.specs.Changes.{ComesTo, Removal}
use Rattle.regions.specs.Failures.{edit_failure}
use Rattle.regions.specs.declared.error.EditError.{EditError}
use Rattle.regions.specs.declared.error.EditError.TheVariants.{Refused, Alloc}
use Rattle.regions.proofs.Edited.{index_within}
use Rattle.guest_box.specs.Memories.{BoxState, with_memory, passes, over}
use Rattle.guest_box.specs.Changes.{remove_answer, remove_held, region_told}

-- a memory that passes its questions is made of a table that passes
kept_table : (host : ℕ) (xs : List SlotRegion) → passes host (over xs) ≡ true → table_fault host (map (shown slot_range slot_place) xs) ≡ None
kept_table host xs e = grind (arith, common_steps)

module _ (b : BoxState) (room start len : ℕ) (xs : List SlotRegion) (is : b.memory ≡ over xs) (kept : passes (length b.host) b.memory ≡ true) where
  -- what a removal from the kept regions came to
  abbrev pub Came : Result (Vec SlotRegion Global × SlotRegion) GuestRegionCollectionError → Type 0
  Came x = table_fault (length b.host) (map (shown slot_range slot_place) xs) ≡ None → Removal (length b.host) room xs start len x

  pub not_removed : (e : EditError) → ComesTo (Err e) Came →
      Settles (Err (edit_failure e)) (λ x. (x ≡ remove_answer room b.memory start len) × (b ≡ with_memory b (remove_held room b.memory start len)))
  not_removed (Refused e) came =
      let q = came (kept_table (length b.host) xs (rw is at kept)) in
      grind (arith, common_steps)
  not_removed (Alloc e) came = tt

  pub removed : (w : Vec SlotRegion Global) (x : SlotRegion) → Came (Ok (w, x)) →
      (region_told (vec_len w) (shown slot_range slot_place x) ≡ remove_answer room b.memory start len) × (with_memory b (over (vec_items w)) ≡ with_memory b (remove_held room b.memory start len))
  removed w x came =
      let q = came (kept_table (length b.host) xs (rw is at kept)) in
      let i = q.1.0 in
      let h = index_within xs start len i q.1.1 in
      let k = length-remove xs i h in
      let r = region_read (shown slot_range slot_place) xs i x h q.1.2 in
      let o = w.ok.0 in
      grind (arith, common_steps)
