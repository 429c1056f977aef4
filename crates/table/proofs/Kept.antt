-- Insertion and removal keep what holds of each entry and of each pair of neighbours.
use Rattle.std.proofs.Common.{◌≡◌, ℕ, suc, ◌+◌, ◌-◌, ◌<◌, ◌≤◌, true, List, map, ◌∷◌, length, get_or, take, drop, All, AllPairs, sym, ap, ◌∙◌, subst, subst₂, ⊎_elim, arith}
use Rattle.std.specs.List.{insert, remove}
use Rattle.std.proofs.lemmas.List.Edits.{length-insert, get_or-insert_below, get_or-insert_at, get_or-insert_above, length-remove}
use Rattle.std.proofs.lemmas.List.{map-append, length-map, take-map, drop-map, get_or_default}
use Rattle.std.proofs.lemmas.List.Elements.{All-append, All-cons, All-drop, All-from_get_or, All-take}
use Rattle.std.proofs.lemmas.List.Quantifiers.{all_pairs_remove}
use Rattle.std.proofs.lemmas.Bool.{cases_lt, cases_order}
use Rattle.region.specs.Ranges.{Range}
use Rattle.region.specs.Regions.{Region, range_of, sound}
use Rattle.region.specs.Grounds.{KeepsMeaning, Ascending, Apart, range_at}
use Rattle.table.proofs.Tables.{far}

module _ {X : Type 0} (d : X) (xs : List X) (i : ℕ) (y : X) (le : i ≤ length xs) where
  at_i : (k : ℕ) → k ≡ i → get_or (insert xs i y) k d ≡ y
  at_i k e = ap (λ j. get_or (insert xs i y) j d) e ∙ get_or-insert_at xs i y d le

  pub pairs_inserted : (Q : X → X → Type 0) → ((k : ℕ) → k + 1 < length xs → Q (get_or xs k d) (get_or xs (k + 1) d)) → ((k : ℕ) → k < i → Q (get_or xs k d) y) → (i < length xs → Q y (get_or xs i d)) → (k : ℕ) → k + 1 < length xs + 1 → Q (get_or (insert xs i y) k d) (get_or (insert xs i y) (k + 1) d)
  pairs_inserted Q a lo hi k h =
      ⊎_elim
      (λ (e : k ≡ i). rw (at_i k e, get_or-insert_above xs i y d k (omega arith) le, e) (hi (omega arith)))
      (⊎_elim
      (λ (l : k < i).
      ⊎_elim
      (λ (m : k + 1 < i). rw (get_or-insert_below xs i y d k l le, get_or-insert_below xs i y d (k + 1) m le) (a k (omega arith)))
      (λ (m : i ≤ k + 1). rw (get_or-insert_below xs i y d k l le, at_i (k + 1) (omega arith)) (lo k l))
      (cases_lt (k + 1) i))
      (λ (g : i < k).
      let e : k - 1 + 1 ≡ k = omega arith in
      let u : get_or (insert xs i y) k d ≡ get_or xs (k - 1) d = ap (λ j. get_or (insert xs i y) j d) (sym e) ∙ get_or-insert_above xs i y d (k - 1) (omega arith) le in
      rw (u, get_or-insert_above xs i y d k (omega arith) le) (rw e at (a (k - 1) (omega arith)))))
      (cases_order k i)

pub map_inserted : {X Y : Type 0} (f : X → Y) (xs : List X) (i : ℕ) (x : X) → map f (insert xs i x) ≡ insert (map f xs) i (f x)
map_inserted f xs i x = simp (map-append, take-map, drop-map)

pub map_removed : {X Y : Type 0} (f : X → Y) (xs : List X) (i : ℕ) → map f (remove xs i) ≡ remove (map f xs) i
map_removed f xs i = simp (map-append, take-map, drop-map)

abbrev Sound : ℕ → Region → Type 0
Sound host r = sound host r ≡ true

-- in an ascending list each range ends before any later one starts
apart_pairs : (xs : List Range) → Ascending xs (length xs) → AllPairs Apart xs
apart_pairs xs asc i j d l h = subst₂ Apart (get_or_default xs i _ d (omega arith)) (get_or_default xs j _ d h) (far xs (length xs) asc i j l h)

pub kept_inserted : (host : ℕ) (rs : List Region) (i : ℕ) (s : Region) → i ≤ length rs → KeepsMeaning (record { host = host; regions = rs }) → sound host s ≡ true → ((k : ℕ) → k < i → Apart (range_at (map range_of rs) k) (range_of s)) → (i < length rs → Apart (range_of s) (range_at (map range_of rs) i)) → KeepsMeaning (record { host = host; regions = insert rs i s })
kept_inserted host rs i s le k b lo hi =
    let m = length-map rs range_of in
    let n : length (insert rs i s) ≡ length rs + 1 = length-insert rs i s le in
    let all : All (Sound host) rs = All-from_get_or (Sound host) rs _ k.1 in (
      k.0,
      (λ j h. All-append (Sound host) (take i rs) (s ∷ drop i rs) (All-take (Sound host) i rs all) (All-cons (Sound host) s (drop i rs) b (All-drop (Sound host) i rs all)) j _ h),
      subst (λ (xs : List Range). Ascending xs (length (insert rs i s))) (sym (map_inserted range_of rs i s))
          (λ j h. pairs_inserted (record { start = 0; len = 0 }) (map range_of rs) i (range_of s) (omega arith) Apart (λ q l. k.2 q (omega arith)) lo (λ l. hi (omega arith)) j (omega arith)),
    )

pub kept_removed : (host : ℕ) (rs : List Region) (i : ℕ) → i < length rs → KeepsMeaning (record { host = host; regions = rs }) → KeepsMeaning (record { host = host; regions = remove rs i })
kept_removed host rs i lt k =
    let m = length-map rs range_of in
    let n : length (remove rs i) + 1 ≡ length rs = length-remove rs i lt in
    let c = length-remove (map range_of rs) i (omega arith) in
    let all : All (Sound host) rs = All-from_get_or (Sound host) rs _ k.1 in (
      k.0,
      (λ j h. All-append (Sound host) (take i rs) (drop (suc i) rs) (All-take (Sound host) i rs all) (All-drop (Sound host) (suc i) rs all) j _ h),
      subst (λ (xs : List Range). Ascending xs (length (remove rs i))) (sym (map_removed range_of rs i))
          (λ j h. all_pairs_remove Apart (map range_of rs) i (omega arith) (apart_pairs (map range_of rs) (subst (Ascending (map range_of rs)) (sym m) k.2)) j (j + 1) _ (omega arith) (omega arith)),
    )
