-- What insertion and removal answer, by the facts that the code has at each way out.
use Rattle.std.proofs.Common.{◌≡◌, ℕ, ◌+◌, ◌-◌, ◌<◌, ◌≤◌, Bool, true, false, cond, ltb, List, ◌++◌, map, length, get_or, take, drop, Some, None, Ok, Err, Option, sym, refl, ap, ◌∙◌, subst, ⊎_elim, arith}
use Rattle.std.specs.Bool.{then_some}
use Rattle.std.specs.List.{insert, remove}
use Rattle.std.proofs.lemmas.Option.{same_Some}
use Rattle.std.proofs.lemmas.List.Edits.{length-insert, length-remove}
use Rattle.std.proofs.lemmas.List.{length-map, take_at}
use Rattle.std.proofs.lemmas.Bool.{lt-ltb, le-ltb, cases_eq}
use Rattle.std.proofs.lemmas.Bool.Decides.{nat_tests}
use Rattle.region.specs.Ranges.{Range, covers}
use Rattle.region.specs.Regions.{Region, shown, sound}
use Rattle.region.specs.Grounds.{KeepsMeaning, range_at, region_at}
use Rattle.table.specs.Questions.{holder}
use Rattle.table.specs.Edits.{clear, insert_fault, remove_fault, room_fault, exactly, exact_index, Fitted, Inserts, Removes}
use Rattle.table.specs.declared.error.GuestRegionCollectionError.TheVariants.{NoMemoryRegion, MemoryRegionOverlap, BadRegion, NoRoom}
use Rattle.table.proofs.Tables.{range_read, first_at, first_none, none_first, found_at}
use Rattle.table.proofs.Made.{ranges, at_range, not_empty}
use Rattle.table.proofs.Found.{ascending}
use Rattle.table.proofs.Kept.{kept_inserted, kept_removed, map_inserted, map_removed}

module _ {R : Type 0} (range : R → Range) (place : R → Option ℕ) (host : ℕ) (xs before : List R) where
  abbrev f : R → Region
  f = shown range place

  -- the answer to each of the three questions gives the refusal
  asked : (new : R) (b s c : Bool) → ltb (length before) (length xs + 1) ≡ b → sound host (f new) ≡ s → clear (map range xs) (range new) ≡ c →
      insert_fault host (length before) (map f xs) (f new) ≡ cond b (Some NoRoom) (cond s (cond c None (Some MemoryRegionOverlap)) (Some (BadRegion 0)))
  asked new b s c p q r = rw (length-map xs f, ranges range place xs, p, q, r) refl

  pub overlapping : (new : R) → length xs < length before → sound host (f new) ≡ true → clear (map range xs) (range new) ≡ false → Inserts range place host xs new before before (Err MemoryRegionOverlap)
  overlapping new h e c = (asked new false true false (le-ltb (length before) (length xs + 1) (omega arith)) e c, refl)

  pub insertion : (new : R) (after : List R) (i : ℕ) → length xs < length before → i ≤ length xs → sound host (f new) ≡ true → Fitted (map range xs) (range new) (Some i) → KeepsMeaning (record { host = host; regions = map f xs }) →
      after ≡ insert xs i new ++ drop (length xs + 1) before → Inserts range place host xs new before after (Ok (length xs + 1))
  insertion new after i h le e fit k a =
      let n = length-map xs f in
      let m = length-map xs range in
      let t : take (length xs + 1) after ≡ insert xs i new = rw a (take_at (insert xs i new) (drop (length xs + 1) before) (length xs + 1) (length-insert xs i new le)) in
      let whole : KeepsMeaning (record { host = host; regions = insert (map f xs) i (f new) }) =
      kept_inserted host (map f xs) i (f new) (omega arith) k e
      (λ j l. rw (ranges range place xs) (fit.2 j l)) (λ l. rw (ranges range place xs) (fit.3 (omega arith))) in (
        asked new false true true (le-ltb (length before) (length xs + 1) (omega arith)) e fit.0,
        refl,
        a ∙ ap (λ (j : ℕ). insert xs j new ++ drop (length xs + 1) before) fit.1,
        rw (t, map_inserted f xs i new) whole,
      )

  some_len : KeepsMeaning (record { host = host; regions = map f xs }) → (k : ℕ) → k < length xs → 0 < (range_at (map range xs) k).len
  some_len q k h =
      let n = length-map xs f in
      rw (← ranges range place xs, at_range (map f xs) k) (not_empty host (region_at (map f xs) k) (q.1 k (omega arith)))

  -- none but the one that the search found holds the address
  alone : KeepsMeaning (record { host = host; regions = map f xs }) → (a i k : ℕ) → Some i ≡ holder (map range xs) a → k < length xs → (k ≡ i → ⊥) → covers (range_at (map range xs) k) a ≡ false
  alone q a i k n h other = go (covers (range_at (map range xs) k) a) refl
    where
      go : (b : Bool) → covers (range_at (map range xs) k) a ≡ b → covers (range_at (map range xs) k) a ≡ false
      go false e = e
      go true e = absurd (other (same_Some k i (sym (found_at (map range xs) (length xs) (length-map xs range) (ascending range place xs host q) k a h e) ∙ sym n)))

  -- a range that is not empty and does not hold the start does not start there
  not_exactly : (start len : ℕ) (r : Range) → 0 < r.len → covers r start ≡ false → exactly start len r ≡ false
  not_exactly start len r h e = grind (arith, nat_tests)

  -- none holds the start: none has exactly this start and length
  pub index_none : KeepsMeaning (record { host = host; regions = map f xs }) → (start len : ℕ) → None ≡ holder (map range xs) start → None ≡ exact_index (map range xs) start len
  index_none q start len n =
      let m = length-map xs range in
      sym (first_none (exactly start len) _ (map range xs) (λ k h. not_exactly start len (range_at (map range xs) k) (some_len q k (omega arith)) (none_first (λ r. covers r start) _ (map range xs) (sym n) k h)))

  -- the one that holds the start has exactly this start and length, or none has
  pub index_some : KeepsMeaning (record { host = host; regions = map f xs }) → (start len i : ℕ) (x : R) (b : Bool) → i < length xs → x ≡ get_or xs i x → Some i ≡ holder (map range xs) start → b ≡ exactly start len (range x) → then_some b i ≡ exact_index (map range xs) start len
  index_some q start len i x b h e n t = go b (ap (exactly start len) (range_read range xs i x h e) ∙ sym t)
    where
      other : (k : ℕ) → k < length xs → (k ≡ i → ⊥) → exactly start len (range_at (map range xs) k) ≡ false
      other k l d = not_exactly start len (range_at (map range xs) k) (some_len q k l) (alone q start i k n l d)

      go : (c : Bool) → exactly start len (range_at (map range xs) i) ≡ c → then_some c i ≡ exact_index (map range xs) start len
      go true u = let m = length-map xs range in sym (first_at (exactly start len) _ (map range xs) i (λ k l. other k (omega arith) (λ d. omega arith)) (omega arith) u)
      go false u =
          let m = length-map xs range in
          sym (first_none (exactly start len) _ (map range xs) (λ k l. ⊎_elim (λ (d : k ≡ i). subst (λ j. exactly start len (range_at (map range xs) j) ≡ false) (sym d) u) (λ (d : k ≡ i → ⊥). other k (omega arith) d) (cases_eq k i)))

  removal_asked : (start len : ℕ) (o : Option ℕ) → exact_index (map range xs) start len ≡ o → remove_fault (length before) (map range xs) start len ≡ room_fault (length before) (length xs) o
  removal_asked start len o e =
      ap (room_fault (length before) (length (map range xs))) e ∙ ap (λ (n : ℕ). room_fault (length before) n o) (length-map xs range)

  pub no_region : (start len : ℕ) → exact_index (map range xs) start len ≡ None → Removes range place host xs start len before before (Err NoMemoryRegion)
  no_region start len e = (removal_asked start len None e, refl)

  pub no_place : (start len i : ℕ) → exact_index (map range xs) start len ≡ Some i → length before < length xs - 1 → Removes range place host xs start len before before (Err NoRoom)
  no_place start len i e h = (removal_asked start len (Some i) e ∙ ap (λ (b : Bool). cond b (Some NoRoom) None) (lt-ltb (length before) (length xs - 1) h), refl)

  pub removal : (start len i : ℕ) (x : R) (after : List R) → exact_index (map range xs) start len ≡ Some i → i < length xs → length xs - 1 ≤ length before → x ≡ get_or xs i x → KeepsMeaning (record { host = host; regions = map f xs }) →
      after ≡ remove xs i ++ drop (length xs - 1) before → Removes range place host xs start len before after (Ok (length xs - 1, x))
  removal start len i x after e lt h q k a =
      let n = length-map xs f in
      let c = length-remove xs i lt in
      let t : take (length xs - 1) after ≡ remove xs i = rw a (take_at (remove xs i) (drop (length xs - 1) before) (length xs - 1) (omega arith)) in (
        removal_asked start len (Some i) e ∙ ap (λ (b : Bool). cond b (Some NoRoom) None) (le-ltb (length before) (length xs - 1) h),
        omega arith,
        (i, e, q, a),
        rw (t, map_removed f xs i) (kept_removed host (map f xs) i (omega arith) k),
      )
