-- The region that holds an address is the one at the index that the search finds.
use Rattle.std.proofs.Common.{◌≡◌, ℕ, ◌+◌, ◌<◌, Bool, true, false, cond, not, ltb, List, [], ◌∷◌, map, length, Some, None, Option, slice_get, find, position, option_map, option_and_then, sym, refl, ap, ◌∙◌, subst, arith}
use Rattle.std.specs.List.{position_or_len}
use Rattle.std.proofs.lemmas.List.Folds.{find_at}
use Rattle.std.proofs.lemmas.Option.{slice_get-map, slice_get_past, slice_get_within, get_or_from_slice_get}
use Rattle.std.proofs.lemmas.List.Sums.{passes_at_first}
use Rattle.std.proofs.lemmas.Grind.{common_steps}
use Rattle.std.proofs.lemmas.List.{length-map}
use Rattle.region.specs.Ranges.{Range, covers}
use Rattle.region.specs.Regions.{Region, range_of, shown}
use Rattle.region.specs.Grounds.{KeepsMeaning, Ascending, holding, region_at}
use Rattle.table.specs.Questions.{holder}
use Rattle.table.proofs.Made.{ranges}

module _ {X Y : Type 0} (f : X → Y) (p : Y → Bool) where
  first_map : (xs : List X) → position_or_len p (map f xs) ≡ position_or_len (λ x. p (f x)) xs
  first_map [] = refl
  first_map (x ∷ xs) = λ i. cond (not (p (f x))) (1 + first_map xs i) 0

  pub find_map : (xs : List X) → find p (map f xs) ≡ option_map f (find (λ x. p (f x)) xs)
  find_map xs =
      find_at p (map f xs)
      ∙ ap (slice_get (map f xs)) (first_map xs)
      ∙ slice_get-map f xs (position_or_len (λ x. p (f x)) xs)
      ∙ ap (option_map f) (sym (find_at (λ x. p (f x)) xs))

  -- the first element whose image passes stands at the first index at which an image passes
  pub find_place : (xs : List X) → find (λ x. p (f x)) xs ≡ option_and_then (slice_get xs) (position p (map f xs))
  find_place xs =
      let n = position_or_len (λ x. p (f x)) xs in
      find_at (λ x. p (f x)) xs ∙ sym (rw (first_map xs, length-map xs f) (at n (ltb n (length xs)) refl))
    where
      at : (n : ℕ) (b : Bool) → ltb n (length xs) ≡ b → option_and_then (slice_get xs) (cond b (Some n) None) ≡ slice_get xs n
      at n true e = refl
      at n false e = sym (slice_get_past xs n (grind (arith, common_steps)))

-- the region that holds an address is one of the regions, and it covers the address
pub held_at : (rs : List Region) (a : ℕ) (r : Region) → holding rs a ≡ Some r → (k : ℕ) × (k < length rs) × (region_at rs k ≡ r) × (covers (range_of r) a ≡ true)
held_at rs a r e =
    let q : Region → Bool = λ x. covers (range_of x) a in
    let d : Region = record { start = 0; len = 0; place = None } in
    let i = position_or_len q rs in
    let at : slice_get rs i ≡ Some r = sym (find_at q rs) ∙ e in
    let l = slice_get_within rs i r at in
    let same = get_or_from_slice_get rs i r d at in
    (i, l, same, ap q (sym same) ∙ passes_at_first q rs d l)

module _ {R : Type 0} (range : R → Range) (place : R → Option ℕ) (xs : List R) where
  -- in a collection that keeps its meaning the ranges ascend
  pub ascending : (host : ℕ) → KeepsMeaning (record { host = host; regions = map (shown range place) xs }) → Ascending (map range xs) (length xs)
  ascending host k = rw (ranges range place xs, length-map xs (shown range place)) at k.2

  -- and so they do in a table that holds its regions
  pub ascending_as : (ys : List R) (host : ℕ) → xs ≡ ys → KeepsMeaning (record { host = host; regions = map (shown range place) ys }) → Ascending (map range xs) (length xs)
  ascending_as ys host e k = ascending host (subst (λ (zs : List R). KeepsMeaning (record { host = host; regions = map (shown range place) zs })) (sym e) k)

  -- the region that holds an address is what the entry at the holder's index shows
  pub holding_shown : (a : ℕ) → holding (map (shown range place) xs) a ≡ option_map (shown range place) (option_and_then (slice_get xs) (holder (map range xs) a))
  holding_shown a =
      find_map (shown range place) (λ r. covers (range_of r) a) xs
      ∙ ap (option_map (shown range place)) (find_place range (λ r. covers r a) xs)
