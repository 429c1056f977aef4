-- Where a range fits into an ascending table: after those that end before it, before the rest.
use Rattle.std.proofs.Common.{◌≡◌, ℕ, ◌+◌, ◌<◌, ◌≤◌, Bool, true, false, not, List, [], ◌∷◌, length, map, ltb, leb, leb-true, Bor, Some, None, Option, MatchOption, sym, ap, ◌∙◌, subst, ⊎_elim, arith}
use Rattle.std.proofs.lemmas.Bool.{cases_lt, false≢true, lt-ltb, le-ltb}
use Rattle.std.proofs.lemmas.Bool.Decides.{nat_tests}
use Rattle.region.specs.Ranges.{Range}
use Rattle.region.specs.Grounds.{Apart, Ascending, range_at}
use Rattle.table.specs.Edits.{clashes, Fitted}
use Rattle.std.specs.Bool.{then_some}
use Rattle.std.specs.List.{prefix_len, HoldsAt}
use Rattle.std.proofs.lemmas.List.{length-map, get_or-map}
use Rattle.std.proofs.lemmas.List.Sums.{list_all-from_AllPass, position_or_len_is, prefix_len-le-length, prefix_len_passes, prefix_len_stops}
use Rattle.std.proofs.lemmas.List.Folds.{list_all_at}
use Rattle.std.proofs.lemmas.List.Elements.{All-from_get_or}
use Rattle.table.proofs.Tables.{far, range_read}

left_of : (r s : Range) → Apart r s → clashes r s ≡ false
left_of r s h = grind (arith, nat_tests)

right_of : (r s : Range) → Apart s r → clashes r s ≡ false
right_of r s h = grind (arith, nat_tests)

-- those below i end before s, s ends before the one at i: then s fits at i
pub fits : (xs : List Range) (s : Range) (i : ℕ) → Ascending xs (length xs) → 0 < s.len → i ≤ length xs → ((k : ℕ) → k < i → Apart (range_at xs k) s) → (i < length xs → Apart s (range_at xs i)) → Fitted xs s (Some i)
fits xs s i asc n l lo hi = (
  list_all-from_AllPass (λ r. not (clashes r s)) xs (All-from_get_or (λ r. not (clashes r s) ≡ true) xs (record { start = 0; len = 0 }) (λ k h.
      ap not (⊎_elim (λ (q : k < i). left_of (range_at xs k) s (lo k q)) (λ (q : i ≤ k). right_of (range_at xs k) s (after k q h)) (cases_lt k i)))),
  sym (position_or_len_is (λ r. ltb s.start r.start) xs i (record { start = 0; len = 0 }) l (λ k h. le-ltb _ _ (omega (arith, lo k h))) (λ h. lt-ltb _ _ (omega (arith, hi h)))),
  lo,
  hi,
)
  where
    after : (k : ℕ) → i ≤ k → k < length xs → Apart s (range_at xs k)
    after k q h =
        ⊎_elim
        (λ (m : i < k). omega (arith, hi (omega arith), far xs (length xs) asc i k m h))
        (λ (m : k ≤ i). let e : i ≡ k = omega arith in subst (λ j. Apart s (range_at xs j)) e (hi (omega arith)))
        (cases_lt i k)

-- neither ends before the other starts: they share an address
shared : (r s : Range) → leb (r.start + r.len) s.start ≡ false → leb (s.start + s.len) r.start ≡ false → clashes r s ≡ true
shared r s h l = grind (arith, nat_tests)

module _ {R : Type 0} (f : R → Range) (s : Range) where
  abbrev pub ahead : R → Bool
  ahead x = leb ((f x).start + (f x).len) s.start

  -- those in front end before s starts
  in_front : (xs : List R) (k : ℕ) → k < prefix_len ahead xs → Apart (range_at (map f xs) k) s
  in_front [] k h = absurd (omega arith)
  in_front (x ∷ xs) k h =
      let n = prefix_len-le-length ahead (x ∷ xs) in
      subst (λ r. Apart r s) (sym (get_or-map f (x ∷ xs) k x _ (omega arith))) (leb-true _ _ (prefix_len_passes ahead (x ∷ xs) k x h))

  -- s fits after those in front where it ends before the next one starts, and else is not clear of that one
  pub placed : (xs : List R) (i : ℕ) (o : Option (Bor R)) (b : Bool) → Ascending (map f xs) (length xs) → 0 < s.len → i ≡ prefix_len ahead xs → MatchOption o (length xs ≤ i) (λ x. (i < length xs) × HoldsAt (λ y. x.now ≡ y) xs i) → MatchOption o (b ≡ true) (λ x. b ≡ leb (s.start + s.len) (f x.now).start) → Fitted (map f xs) s (then_some b i)
  placed xs i None false asc n p at c = absurd (false≢true c)
  placed xs i None true asc n p at c =
      let m = length-map xs f in
      let le = prefix_len-le-length ahead xs in
      fits (map f xs) s i (rw m asc) n (omega arith) (λ k h. in_front xs k (omega arith)) (λ h. absurd (omega arith))
  placed xs i (Some x) true asc n p at c =
      let m = length-map xs f in
      fits (map f xs) s i (rw m asc) n (omega arith) (λ k h. in_front xs k (omega arith)) (λ h. subst (Apart s) (sym (range_read f xs i x.now at.0 (at.1 x.now))) (leb-true _ _ (sym c)))
  placed xs i (Some x) false asc n p at c =
      let m = length-map xs f in
      let stop : ahead x.now ≡ false = rw (at.1 x.now, p) (prefix_len_stops ahead xs x.now (omega arith)) in
      list_all_at (λ r. not (clashes r s)) (map f xs) i (record { start = 0; len = 0 }) (omega arith) (ap (λ r. not (clashes r s)) (range_read f xs i x.now at.0 (at.1 x.now)) ∙ ap not (shared (f x.now) s stop (sym c)))
