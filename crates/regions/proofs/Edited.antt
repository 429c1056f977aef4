-- A table that keeps its meaning passes the questions of a table; and room beyond what is of use
-- changes no answer.
use Rattle.std.proofs.Common.{◌≡◌, ℕ, ◌+◌, ◌<◌, ◌≤◌, min, not, List, [], ◌∷◌, ◌++◌, map, length, take, drop, Some, None, Ok, vec_items, Vec, sym, ap, ◌∙◌, arith}
use Rattle.std.specs.List.{insert, remove}
use Rattle.std.proofs.lemmas.List.{length-map, take_at}
use Rattle.std.proofs.lemmas.List.Edits.{length-insert, length-remove}
use Rattle.std.proofs.lemmas.Bool.Decides.{nat_tests}
use Rattle.std.specs.Option.{option_or}
use Rattle.std.proofs.lemmas.List.Quantifiers.{position-Some}
use Rattle.region.specs.Ranges.{Range}
use Rattle.std.specs.declared.alloc.Global.{Global}
use Rattle.region.specs.Regions.{Region, range_of, shown, sound}
use Rattle.region.specs.Slots.{slot_range, slot_place}
use Rattle.region.specs.declared.slot.SlotRegion.{SlotRegion}
use Rattle.regions.specs.Changes.{Insertion, Removal}
use Rattle.region.specs.Grounds.{KeepsMeaning, Apart, range_at}
use Rattle.table.specs.Questions.{bad_region, first_unsound, neighbours, pair_fault, table_fault}
use Rattle.table.specs.Edits.{insert_fault, remove_fault, exactly, exact_index, place_in, Inserts, Removes}
use Rattle.table.proofs.Tables.{first_none, no_bad_pair}

apart_pair : (l r : Range) → Apart l r → pair_fault l r ≡ None
apart_pair l r h = grind (arith, nat_tests)

kept_passes : (host : ℕ) (rs : List Region) → KeepsMeaning (record { host = host; regions = rs }) → table_fault host rs ≡ None
kept_passes host rs k =
    let m = length-map rs range_of in
    let u : first_unsound host rs ≡ None = first_none (λ (r : Region). not (sound host r)) (record { start = 0; len = 0; place = None }) rs (λ i h. ap not (k.1 i h)) in
    let n : neighbours (map range_of rs) ≡ None = no_bad_pair (map range_of rs) (λ i h. apart_pair (range_at (map range_of rs) i) (range_at (map range_of rs) (i + 1)) (k.2 i (omega arith))) in
    λ i. option_or (bad_region (u i)) (n i)

-- what a Vec holds after its part was written and cut off
pub cut_off : {X : Type 0} (n m : ℕ) (a r : List X) → length a ≡ m → take n (take m (a ++ r)) ≡ take n a
cut_off n m a r e = ap (take n) (take_at a r m e)

place_le : (rs : List Range) (s : Range) → place_in rs s ≤ length rs
place_le [] s = omega arith
place_le (r ∷ rs) s = grind (arith, nat_tests, place_le rs s)

pub index_within : (xs : List SlotRegion) (start len i : ℕ) → exact_index (map slot_range xs) start len ≡ Some i → i < length xs
index_within xs start len i e = let m = length-map xs slot_range in omega (arith, (position-Some (exactly start len) (map slot_range xs) i (record { start = 0; len = 0 }) e).0)

module _ (host room : ℕ) (xs : List SlotRegion) where
  abbrev f : SlotRegion → Region
  f = shown slot_range slot_place

  -- a table with as much of the room as is of use asks as one with all of it
  same_insert : (new : SlotRegion) (before : List SlotRegion) → length before ≡ min room (length xs + 1) → insert_fault host (length before) (map f xs) (f new) ≡ insert_fault host room (map f xs) (f new)
  same_insert new before l = let m = length-map xs f in grind (arith, nat_tests)

  pub insertion_made : (new : SlotRegion) (before after : List SlotRegion) (n : ℕ) (v : Vec SlotRegion Global) → length before ≡ min room (length xs + 1) → Inserts slot_range slot_place host xs new before after (Ok n) → vec_items v ≡ take n after → Insertion host room xs new (Ok v)
  insertion_made new before after n v l q e =
      let m = length-map xs slot_range in
      let k = place_le (map slot_range xs) (slot_range new) in
      let i = length-insert xs (place_in (map slot_range xs) (slot_range new)) new (omega arith) in (
        sym (same_insert new before l) ∙ q.0,
        e ∙ ap (take n) q.2 ∙ take_at (insert xs (place_in (map slot_range xs) (slot_range new)) new) (drop n before) n (i ∙ sym q.1),
        rw e (kept_passes host (map f (take n after)) q.3),
      )

  same_remove : (start len : ℕ) (before : List SlotRegion) → length before ≡ min room (length xs) → remove_fault (length before) (map slot_range xs) start len ≡ remove_fault room (map slot_range xs) start len
  same_remove start len before l = let m = length-map xs slot_range in grind (arith, nat_tests)

  pub removal_made : (start len : ℕ) (before after : List SlotRegion) (n : ℕ) (x : SlotRegion) (v : Vec SlotRegion Global) → length before ≡ min room (length xs) → Removes slot_range slot_place host xs start len before after (Ok (n, x)) → vec_items v ≡ take n after → Removal host room xs start len (Ok (v, x))
  removal_made start len before after n x v l q e =
      let i = q.2.0 in
      let c = length-remove xs i (index_within xs start len i q.2.1) in (
        sym (same_remove start len before l) ∙ q.0,
        (i, q.2.1, q.2.2, e ∙ ap (take n) q.2.3 ∙ take_at (remove xs i) (drop n before) n (omega (arith, q.1))),
        rw e (kept_passes host (map f (take n after)) q.3),
      )
