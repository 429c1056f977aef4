-- The makers of a collection, and its highest address.
use Rattle.std.proofs.Common.{◌≡◌, ℕ, suc, ◌-◌, ◌<◌, ◌≤◌, max, Bool, cond, List, [], ◌∷◌, map, length, get_or, take, Some, Option, sym, ap, ◌∙◌, subst, arith}
use Rattle.std.proofs.lemmas.List.{length-map, take-map}
use Rattle.std.proofs.lemmas.Bool.{le-ltb}
use Rattle.region.specs.Ranges.{Range, last_address}
use Rattle.region.specs.Regions.{Region, range_of, shown}
use Rattle.region.specs.Grounds.{KeepsMeaning, Ascending, AllSound, Apart, range_at, region_at}
use Rattle.table.specs.Questions.{table_fault}
use Rattle.collection.specs.Collections.{edited_fault, highest}
use Rattle.table.specs.declared.error.GuestRegionCollectionError.TheVariants.{NoRoom}
use Rattle.table.specs.declared.error.GuestRegionCollectionError.{GuestRegionCollectionError}
use Rattle.table.proofs.Tables.{far, asc_tail, region_read}
use Rattle.table.proofs.Made.{at_range, not_empty}

pub edited_some : (host n : ℕ) (rs : List Region) → n ≤ length rs → edited_fault host n rs ≡ table_fault host (take n rs)
edited_some host n rs h = ap (λ (b : Bool). cond b (Some NoRoom) (table_fault host (take n rs))) (le-ltb (length rs) n h)

-- the questions of the entries that are of use are those of a collection made from them
pub edited_checked : {R : Type 0} (f : R → Region) (host n : ℕ) (xs : List R) {o : Option GuestRegionCollectionError} → n ≤ length xs → o ≡ table_fault host (map f (take n xs)) → edited_fault host n (map f xs) ≡ o
edited_checked f host n xs h e = let m = length-map xs f in edited_some host n (map f xs) (omega arith) ∙ ap (table_fault host) (take-map f n xs) ∙ sym e

-- in an ascending list of regions the last one has the highest address
pub highest_last : (host : ℕ) (rs : List Region) → AllSound host rs (length rs) → Ascending (map range_of rs) (length rs) → 0 < length rs → highest rs ≡ last_address (range_of (region_at rs (length rs - 1)))
highest_last host [] s a h = absurd (omega arith)
highest_last host (x ∷ []) s a h = omega arith
highest_last host (x ∷ y ∷ rest) s a h =
    let n : ℕ = length rest in
    let last : Region = region_at (y ∷ rest) (suc n - 1) in
    let ih : highest (y ∷ rest) ≡ last_address (range_of last) = highest_last host (y ∷ rest) (λ k l. s (suc k) (omega arith)) (asc_tail (range_of x) (map range_of (y ∷ rest)) (suc n) a) (omega arith) in
    let j : suc (suc n) - 1 ≡ suc (suc n - 1) = omega arith in
    let z : region_at (x ∷ y ∷ rest) (suc (suc n) - 1) ≡ last = ap (region_at (x ∷ y ∷ rest)) j in
    let f : Apart (range_of x) (range_at (map range_of (x ∷ y ∷ rest)) (suc (suc n - 1))) = far (map range_of (x ∷ y ∷ rest)) (suc (suc n)) a 0 (suc (suc n - 1)) (omega arith) (omega arith) in
    let g : Apart (range_of x) (range_of last) = subst (Apart (range_of x)) (at_range (x ∷ y ∷ rest) (suc (suc n - 1))) f in
    let some : 0 < x.len = not_empty host x (s 0 (omega arith)) in
    let top : max (last_address (range_of x)) (last_address (range_of last)) ≡ last_address (range_of last) = omega arith in
    rw (ih, z) top

module _ {R : Type 0} (range : R → Range) (place : R → Option ℕ) where
  -- the last region that is read has the highest address of all
  pub last_highest : (host : ℕ) (xs : List R) → KeepsMeaning (record { host = host; regions = map (shown range place) xs }) → 0 < length xs → (x : R) → x ≡ get_or xs (length xs - 1) x → last_address (range x) ≡ highest (map (shown range place) xs)
  last_highest host xs k h x e =
      let m = length-map xs (shown range place) in
      let at : region_at (map (shown range place) xs) (length xs - 1) ≡ shown range place x = region_read (shown range place) xs (length xs - 1) x (omega arith) e in
      let q = highest_last host (map (shown range place) xs) k.1 k.2 (omega arith) in
      sym (rw (m, at) at q)
