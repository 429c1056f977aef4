-- Facts about the entries of a table, by index, as the loops over it find them; and what they say
-- of the definitions, which go by the list.
use Rattle.std.proofs.Common.{◌≡◌, ℕ, zero, suc, ◌+◌, ◌<◌, ◌≤◌, Bool, true, false, not, List, [], ◌∷◌, map, length, get_or, drop, add_comm, Some, None, Option, sym, refl, ap, ◌∙◌, subst, ⊎_elim, add-one, arith}
use Rattle.std.specs.List.{zip, position, position_or_len}
use Rattle.std.specs.Option.{option_or}
use Rattle.std.proofs.lemmas.List.{get_or-map, length-map, length-drop, get_or-drop, at_drop_more, at_drop_all}
use Rattle.std.proofs.lemmas.List.Sums.{position_or_len_is, fails_before_first}
use Rattle.std.proofs.lemmas.Grind.{common_steps}
use Rattle.std.proofs.lemmas.Slice.Zip.{length-zip, get_or-zip}
use Rattle.std.proofs.lemmas.Bool.{cases_lt, lt-ltb, le-ltb, not-false}
use Rattle.std.proofs.lemmas.Option.{none-some}
use Rattle.std.proofs.lemmas.Bool.Decides.{nat_tests}
use Rattle.region.specs.Ranges.{Range, covers}
use Rattle.region.specs.Regions.{Region, sound}
use Rattle.region.specs.Grounds.{Apart, Ascending, AllSound, range_at, region_at}
use Rattle.table.specs.Questions.{pair_fault, neighbours, first_unsound, holder}
use Rattle.table.specs.declared.error.GuestRegionCollectionError.{GuestRegionCollectionError}

-- what is seen of an element that was read
at_read : {R B : Type 0} (f : R → B) (d : B) (xs : List R) (i : ℕ) (x : R) → i < length xs → x ≡ get_or xs i x → get_or (map f xs) i d ≡ f x
at_read f d xs i x h e = get_or-map f xs i x d h ∙ ap f (sym e)

pub range_read : {R : Type 0} (f : R → Range) (xs : List R) (i : ℕ) (x : R) → i < length xs → x ≡ get_or xs i x → range_at (map f xs) i ≡ f x
range_read f xs i x h e = at_read f (record { start = 0; len = 0 }) xs i x h e

-- the start and the length that an element was asked for
pub start_read : {R : Type 0} (f : R → Range) (xs : List R) (i : ℕ) (x : R) → i < length xs → x ≡ get_or xs i x → (s : ℕ) → s ≡ (f x).start → (range_at (map f xs) i).start ≡ s
start_read f xs i x h e s q = ap (λ (r : Range). r.start) (range_read f xs i x h e) ∙ sym q

pub len_read : {R : Type 0} (f : R → Range) (xs : List R) (i : ℕ) (x : R) → i < length xs → x ≡ get_or xs i x → (n : ℕ) → n ≡ (f x).len → (range_at (map f xs) i).len ≡ n
len_read f xs i x h e n q = ap (λ (r : Range). r.len) (range_read f xs i x h e) ∙ sym q

pub region_read : {R : Type 0} (f : R → Region) (xs : List R) (i : ℕ) (x : R) → i < length xs → x ≡ get_or xs i x → region_at (map f xs) i ≡ f x
region_read f xs i x h e = at_read f (record { start = 0; len = 0; place = None }) xs i x h e

-- the first entry that a test picks

pub first_at : {X : Type 0} (p : X → Bool) (d : X) (xs : List X) (i : ℕ) → ((k : ℕ) → k < i → p (get_or xs k d) ≡ false) → i < length xs → p (get_or xs i d) ≡ true → position p xs ≡ Some i
first_at p d xs i a h e = rw (position_or_len_is p xs i d (omega arith) a (λ l. e), lt-ltb i (length xs) h) refl

pub first_none : {X : Type 0} (p : X → Bool) (d : X) (xs : List X) → ((k : ℕ) → k < length xs → p (get_or xs k d) ≡ false) → position p xs ≡ None
first_none p d xs a = rw (position_or_len_is p xs (length xs) d (omega arith) a (λ l. absurd (omega arith)), le-ltb (length xs) (length xs) (omega arith)) refl

pub none_first : {X : Type 0} (p : X → Bool) (d : X) (xs : List X) → position p xs ≡ None → (k : ℕ) → k < length xs → p (get_or xs k d) ≡ false
none_first p d xs e k h = let none : length xs ≤ position_or_len p xs = grind (arith, common_steps) in fails_before_first p xs k d (omega arith)

pub all_sound : (host : ℕ) (xs : List Region) → first_unsound host xs ≡ None → AllSound host xs (length xs)
all_sound host xs e k h = not-false (sound host (region_at xs k)) (none_first (λ r. not (sound host r)) _ xs e k h)

-- the first bad pair of neighbours

abbrev pub Paired : List Range → ℕ → Type 0
Paired xs n = (k : ℕ) → k + 1 < n → pair_fault (range_at xs k) (range_at xs (k + 1)) ≡ None

pub first_no_none : (o p : Option GuestRegionCollectionError) → option_or o p ≡ None → (o ≡ None) × (p ≡ None)
first_no_none None p e = (refl, e)
first_no_none (Some x) p e = absurd (none-some x (sym e))

pub next : (x : Range) (xs : List Range) (k : ℕ) → range_at (x ∷ xs) (suc k + 1) ≡ range_at xs (k + 1)
next x xs k = let e : suc k + 1 ≡ suc (k + 1) = omega arith in ap (range_at (x ∷ xs)) e

pub asc_tail : (x : Range) (xs : List Range) (n : ℕ) → Ascending (x ∷ xs) (suc n) → Ascending xs n
asc_tail x xs n a k h = subst (Apart (range_at xs k)) (next x xs k) (a (suc k) (omega arith))

pub second : (x y : Range) (rest : List Range) → range_at (x ∷ y ∷ rest) (0 + 1) ≡ y
second x y rest = let e : ◌≡◌ {A = ℕ} (0 + 1) (suc 0) = omega arith in ap (range_at (x ∷ y ∷ rest)) e

-- the pair at n is refused, or else the pairs after it are asked
pub pair_turn : {R : Type 0} (f : R → Range) (xs : List R) (n : ℕ) (l r : R) (o : Option GuestRegionCollectionError) → (n < length (zip xs (drop 1 xs))) × ((l, r) ≡ get_or (zip xs (drop 1 xs)) n (l, r)) → o ≡ pair_fault (f l) (f r) → neighbours (drop n (map f xs)) ≡ option_or o (neighbours (drop (n + 1) (map f xs)))
pair_turn f xs n l r o t a =
    let ys = map f xs in
    let m = length-zip xs (drop 1 xs) in
    let d = length-drop 1 xs in
    let k = length-map xs f in
    let lt : n + 1 < length xs = omega arith in
    let e = t.1 ∙ get_or-zip xs (drop 1 xs) n (l, r) (omega arith) (omega arith) in
    let p = range_read f xs n l (omega arith) (ap (λ (q : _ × _). q.0) e) in
    let q = range_read f xs (n + 1) r lt (rw (get_or-drop 1 xs n r, add_comm 1 n) at (ap (λ (q : _ × _). q.1) e)) in
    at_drop_more neighbours ys n _ (omega arith)
    ∙ at_drop_more (λ zs. neighbours (range_at ys n ∷ zs)) ys (n + 1) _ (omega arith)
    ∙ ap (option_or (pair_fault (range_at ys n) (range_at ys (n + 1)))) (sym (at_drop_more neighbours ys (n + 1) _ (omega arith)))
    ∙ rw (p, q, ← a) refl

pub pairs_end : (xs : List Range) (n : ℕ) → length xs ≤ n + 1 → neighbours (drop n xs) ≡ None
pairs_end xs n h =
    ⊎_elim
    (λ (l : n < length xs). at_drop_more neighbours xs n _ l ∙ at_drop_all (λ zs. neighbours (range_at xs n ∷ zs)) xs (n + 1) h)
    (λ (l : length xs ≤ n). at_drop_all neighbours xs n l)
    (cases_lt n (length xs))

pub no_bad_pair : (xs : List Range) → Paired xs (length xs) → neighbours xs ≡ None
no_bad_pair [] a = refl
no_bad_pair (x ∷ []) a = refl
no_bad_pair (x ∷ y ∷ rest) a =
    let q : pair_fault x y ≡ None = rw (second x y rest) at (a 0 (omega arith)) in
    rw q (no_bad_pair (y ∷ rest) (λ j l. rw (next x (y ∷ rest) j) at (a (suc j) (omega arith))))

pair_apart : (l r : Range) → pair_fault l r ≡ None → Apart l r
pair_apart l r e = grind (arith, nat_tests)

pub ascends : (xs : List Range) → neighbours xs ≡ None → Ascending xs (length xs)
ascends [] e k h = absurd (omega arith)
ascends (x ∷ []) e k h = absurd (omega arith)
ascends (x ∷ y ∷ rest) e zero h = rw (second x y rest) (pair_apart x y (first_no_none (pair_fault x y) (neighbours (y ∷ rest)) e).0)
ascends (x ∷ y ∷ rest) e (suc k) h = rw (next x (y ∷ rest) k) (ascends (y ∷ rest) (first_no_none (pair_fault x y) (neighbours (y ∷ rest)) e).1 k (omega arith))

-- the search in an ascending table

-- what lies further on starts after the end of each before it
pub far : (xs : List Range) (n : ℕ) → Ascending xs n → (j k : ℕ) → j < k → k < n → Apart (range_at xs j) (range_at xs k)
far xs n asc j zero l h = absurd (omega arith)
far xs n asc j (suc k) l h =
    let step : Apart (range_at xs k) (range_at xs (suc k)) = subst (λ m. Apart (range_at xs k) (range_at xs m)) (add-one k) (asc k (omega arith)) in
    ⊎_elim
    (λ (lt : j < k). let ih : Apart (range_at xs j) (range_at xs k) = far xs n asc j k lt (omega arith) in omega arith)
    (λ (ge : k ≤ j). let e : k ≡ j = omega arith in subst (λ m. Apart (range_at xs m) (range_at xs (suc k))) e step)
    (cases_lt j k)

pub above : (xs : List Range) (n : ℕ) → Ascending xs n → (a m : ℕ) → a < (range_at xs m).start → (k : ℕ) → m ≤ k → k < n → a < (range_at xs k).start
above xs n asc a m h k le lt =
    ⊎_elim
    (λ (l : m < k). omega (arith, far xs n asc m k l lt))
    (λ (g : k ≤ m). let e : m ≡ k = omega arith in subst (λ i. a < (range_at xs i).start) e h)
    (cases_lt m k)

pub below : (xs : List Range) (n : ℕ) → Ascending xs n → (a m : ℕ) → m < n → (range_at xs m).start ≤ a → (range_at xs m).start + (range_at xs m).len ≤ a → (k : ℕ) → k < m + 1 → (range_at xs k).start + (range_at xs k).len ≤ a
below xs n asc a m lt s h k l =
    ⊎_elim
    (λ (kl : k < m). omega (arith, far xs n asc k m kl lt))
    (λ (g : m ≤ k). let e : m ≡ k = omega arith in subst (λ i. (range_at xs i).start + (range_at xs i).len ≤ a) e h)
    (cases_lt k m)

covers_ends : (r : Range) (a : ℕ) → r.start + r.len ≤ a → covers r a ≡ false
covers_ends r a h = grind (arith, nat_tests)

covers_starts : (r : Range) (a : ℕ) → a < r.start → covers r a ≡ false
covers_starts r a h = grind (arith, nat_tests)

pub covers_here : (r : Range) (a : ℕ) → r.start ≤ a → a < r.start + r.len → covers r a ≡ true
covers_here r a h l = grind (arith, nat_tests)

pub covers_parts : (r : Range) (a : ℕ) → covers r a ≡ true → (r.start ≤ a) × (a < r.start + r.len)
covers_parts r a e = (grind (arith, nat_tests), grind (arith, nat_tests))

-- the range at i holds the address: it is the one that the search is to find
pub found_at : (xs : List Range) (n : ℕ) → length xs ≡ n → Ascending xs n → (i a : ℕ) → i < n → covers (range_at xs i) a ≡ true → holder xs a ≡ Some i
found_at xs n m asc i a h c =
    let p = covers_parts (range_at xs i) a c in
    first_at (λ (r : Range). covers r a) _ xs i (λ k l. covers_ends (range_at xs k) a (omega (arith, far xs n asc k i l h))) (omega arith) c

-- what lies below m ends at or below the address, and the rest starts above it: none holds it
pub found_none : (xs : List Range) (m a : ℕ) → ((k : ℕ) → k < m → (range_at xs k).start + (range_at xs k).len ≤ a) → ((k : ℕ) → m ≤ k → k < length xs → a < (range_at xs k).start) → holder xs a ≡ None
found_none xs m a lo hi =
    first_none (λ (r : Range). covers r a) (record { start = 0; len = 0 }) xs (λ k l.
    ⊎_elim (λ (q : k < m). covers_ends (range_at xs k) a (lo k q)) (λ (q : m ≤ k). covers_starts (range_at xs k) a (hi k q l)) (cases_lt k m))
