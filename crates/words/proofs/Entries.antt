-- Entries read word by word: all of them, or one that a word does not write.
use Rattle.std.proofs.Common.{◌≡◌, ℕ, zero, suc, ◌+◌, ◌≤◌, List, [], ◌∷◌, ◌++◌, length, ◌==◌, Ok, Err, Result, Some, None, Option, refl, sym, ap, ◌∙◌, subst, ◌⊎◌, inl, inr, append_assoc, append-nil, arith}
use denote.Ref.{Bor}
use denote.Param.Members.{Mut}
use Rattle.std.specs.declared.alloc.AllocError.{AllocError}
use Rattle.std.specs.declared.iter.Map.{Map}
use Rattle.std.specs.declared.vec.Vec.{Vec}
use Rattle.std.specs.Fn.{Called}
use Rattle.std.specs.Iterator.{Yields, AlwaysYields, TryCollects}
use Rattle.std.specs.Iterator.Adapters.{map_source, map_callee}
use Rattle.std.specs.Iterator.Runs.{SomeRun, EndsAtFirstErr, YieldsRun}
use Rattle.std.specs.List.{FoldsTo, slice_get, slice_split}
use Rattle.std.specs.Option.{IsSomeAnd, SomeIff, MatchOption, ok_or}
use Rattle.std.specs.Result.{IfOk, IfErr}
use Rattle.std.specs.Vec.{vec_items, vec_len, vec_capacity}
use Rattle.std.proofs.lemmas.Iterator.{maps, YieldsList}
use Rattle.numerals.specs.Numbers.{IsNumber, number}
use Rattle.words.specs.declared.LineError.{LineError}
use Rattle.words.specs.declared.LineError.TheVariants.{Malformed, Alloc}
use Rattle.words.specs.Lines.{IfRead}
use Rattle.words.specs.Parts.{Fill, listed}
use Rattle.words.specs.Words.{words}
use Rattle.words.proofs.Cuts.{words_split}

-- w writes an entry
abbrev pub Entry : List ℕ → Type 0
Entry w = IsNumber w × (number w ≤ 0xffff_ffff)

-- r is the entry that w writes
abbrev pub Answers : Result ℕ LineError → List ℕ → Type 0
Answers r w = IfRead r (λ o. SomeIff o (Entry w) (number w))

none_some : {A : Type 0} {x : A} → ◌≡◌ {A = Option A} None (Some x) → ⊥
none_some h = cc

some_same : {A : Type 0} {x y : A} → ◌≡◌ {A = Option A} (Some x) (Some y) → x ≡ y
some_same h = cc

other_error : {full : AllocError} → Malformed ≡ Alloc full → ⊥
other_error h = cc

at_some : {A : Type 0} (o : Option A) (P : A → Type 0) → IsSomeAnd o P → (x : A) × (o ≡ Some x) × P x
at_some None P h = absurd h
at_some (Some x) P h = (x, refl, h)

-- where an option is asked for, and none of it is `Malformed`
pub answered : (o : Option ℕ) (w : List ℕ) (r : Result ℕ LineError) → SomeIff o (Entry w) (number w) → r ≡ ok_or o Malformed → Answers r w
answered None w r h e = subst (λ (q : Result ℕ LineError). Answers q w) (sym e) h
answered (Some n) w r h e = subst (λ (q : Result ℕ LineError). Answers q w) (sym e) h

-- what `extend` of a `Vec` and `collect` into one say
module _ {A : Type 0} where
  abbrev pub Extends : Vec ℕ A → List ℕ → Vec ℕ A → Type 0
  Extends v xs w = (vec_items w ≡ vec_items v ++ xs) × (vec_len w ≡ vec_len v + length xs) × (vec_capacity v ≤ vec_capacity w)

  abbrev pub Collects : List ℕ → Vec ℕ A → Type 0
  Collects xs v = (vec_items v ≡ xs) × (vec_len v ≡ length xs)

module _ {S F : Type 0} (source : S → Option (Bor (List ℕ)) → S → Type 0) (g : Mut F (Bor (List ℕ) × Unit {0}) (Result ℕ LineError)) (f : F)
    (calls : (x : Bor (List ℕ)) (r : Result ℕ LineError) (q : F) → Called g f (x, tt) r q → (q ≡ f) × Answers r x.now) where
  called : (x : Bor (List ℕ)) (r : Result ℕ LineError) (p q : F) → p ≡ f → Called g p (x, tt) r q → (q ≡ f) × Answers r x.now
  called x r p q e k = calls x r q (subst (λ h. Called g h (x, tt) r q) e k)

  refused : (ws : List (List ℕ)) (s t : Map S F) (xs : List (Result ℕ LineError)) (i : ℕ) → map_callee s ≡ f → AlwaysYields source (λ x. x.now) (map_source s) ws
      → Yields (maps source g) s xs t → slice_get xs i ≡ Some (Err Malformed) → (es : List ℕ) → Fill (listed es) ws → ⊥
  refused ws s t [] i e a y h es l = absurd (none_some h)
  refused [] s t (x ∷ xs) i e a y h es l = a y.1.0 (map_source y.0) y.1.1
  refused (w ∷ ws) s t (x ∷ xs) i e a y h [] l = l
  refused (w ∷ ws) s t (x ∷ xs) zero e a y h (n ∷ es) l =
      let call = called y.1.0 x (map_callee s) (map_callee y.0) e y.1.2 in
      let at = a.1 y.1.0 (map_source y.0) y.1.1 in
      subst (λ (q : Result ℕ LineError). Answers q y.1.0.now) (some_same h) call.1 (subst Entry (sym at.0) (l.0.0, omega (arith, l.0.1, l.0.2)))
  refused (w ∷ ws) s t (x ∷ xs) (suc i) e a y h (n ∷ es) l =
      refused ws y.0 t xs i (called y.1.0 x (map_callee s) (map_callee y.0) e y.1.2).0 (a.1 y.1.0 (map_source y.0) y.1.1).1 y.2 h es l.1

  -- what `err` of `try_collect` says of `Malformed`
  malformed : (ws : List (List ℕ)) (s : Map S F) → map_callee s ≡ f → AlwaysYields source (λ x. x.now) (map_source s) ws
      → ((full : AllocError) × (Malformed ≡ Alloc full)) ⊎ SomeRun (maps source g) s (λ p. EndsAtFirstErr p (λ x y. y ≡ x) Malformed)
      → (es : List ℕ) → Fill (listed es) ws → ⊥
  unfolding YieldsRun
  malformed ws s e a (inl k) es l = other_error k.1
  malformed ws s e a (inr k) es l =
      let hit = at_some _ _ k.2.2 in
      let run = k.0.gave.0 in
      refused ws s run.0 k.0.items k.2.0 e a (subst (λ (j : Map S F). Yields (maps source g) j k.0.items run.0) k.1 run.1) (sym (k.0.gave.1 k.2.0) ∙ hit.1 ∙ ap (λ (x : Result ℕ LineError). Some x) (sym hit.2)) es l

  module _ {A : Type 0} where
    collected : (ws : List (List ℕ)) (s t u : Map S F) (xs : List (Result ℕ LineError)) (b v : Vec ℕ A) → map_callee s ≡ f → AlwaysYields source (λ x. x.now) (map_source s) ws
        → Yields (maps source g) s xs t → maps source g t None u → FoldsTo (λ p x q. (y : ℕ) × (Ok y ≡ x) × Extends p (y ∷ []) q) b xs v
        → (ys : List ℕ) × (vec_items v ≡ vec_items b ++ ys) × Fill (listed ys) ws
    collected [] s t u [] b v e a y n c = ([], ap vec_items (sym c) ∙ sym (append-nil (vec_items b)), tt)
    collected [] s t u (x ∷ xs) b v e a y n c = absurd (a y.1.0 (map_source y.0) y.1.1)
    collected (w ∷ ws) s t u [] b v e a y n c = absurd (a.0 (map_source u) (subst (λ k. source (map_source k) None (map_source u)) (sym y) n.0))
    collected (w ∷ ws) s t u (x ∷ xs) b v e a y n c =
        let call = called y.1.0 x (map_callee s) (map_callee y.0) e y.1.2 in
        let at = a.1 y.1.0 (map_source y.0) y.1.1 in
        let read = subst (λ (k : List ℕ). Answers (Ok c.1.0) k) at.0 (subst (λ (q : Result ℕ LineError). Answers q y.1.0.now) (sym c.1.1) call.1) in
        let more = collected ws y.0 t u xs c.0 v call.0 at.1 y.2 n c.2 in
        (c.1.0 ∷ more.0, more.1 ∙ ap (λ (l : List ℕ). l ++ more.0) c.1.2.0 ∙ append_assoc (vec_items b) (c.1.0 ∷ []) more.0, ((read.0.0, read.1, omega (arith, read.0.1, read.1)), more.2))

    read_words : (ws : List (List ℕ)) (s : Map S F) → map_callee s ≡ f → AlwaysYields source (λ x. x.now) (map_source s) ws
        → (r : Result (Vec ℕ A) LineError) → IfOk r (TryCollects (maps source g) (λ x y. y ≡ x) Collects Extends s)
        → IfErr r (λ d. ((full : AllocError) × (d ≡ Alloc full)) ⊎ SomeRun (maps source g) s (λ p. EndsAtFirstErr p (λ x y. y ≡ x) d))
        → IfRead r (λ o. MatchOption o ((es : List ℕ) → Fill (listed es) ws → ⊥) (λ v. Fill (listed (vec_items v)) ws))
    read_words ws s e a (Ok v) h k =
        let all = collected ws s h.2.1.0 h.2.0 h.0 h.1 v e a h.2.1.1 h.2.1.2 h.4 in
        subst (λ (es : List ℕ). Fill (listed es) ws) (sym (all.1 ∙ ap (λ (l : List ℕ). l ++ all.0) h.3.0)) all.2
    read_words ws s e a (Err Malformed) h k = malformed ws s e a k
    read_words ws s e a (Err (Alloc d)) h k = tt

    -- `split(' ')`, `map` and `try_collect`
    pub read_of : (bs : List ℕ) (s : Map S F) → map_callee s ≡ f → YieldsList source (λ x. x.now) (map_source s) (slice_split (λ b. b == 32) bs)
        → (r : Result (Vec ℕ A) LineError) → IfOk r (TryCollects (maps source g) (λ x y. y ≡ x) Collects Extends s)
        → IfErr r (λ d. ((full : AllocError) × (d ≡ Alloc full)) ⊎ SomeRun (maps source g) s (λ p. EndsAtFirstErr p (λ x y. y ≡ x) d))
        → IfRead r (λ o. MatchOption o ((es : List ℕ) → Fill (listed es) (words bs) → ⊥) (λ v. Fill (listed (vec_items v)) (words bs)))
    read_of bs s e a = read_words (words bs) s e (subst (AlwaysYields source (λ x. x.now) (map_source s)) (sym (words_split bs)) a.runs)
