-- The words of a text are the parts that `split` gives, and those of one cut at its first blank.
use Rattle.std.proofs.Common.{◌≡◌, ℕ, ◌<◌, Bool, true, false, cond, ◌==◌, List, [], ◌∷◌, length, IfSome, Some, None, Option, sym, refl, ap, ◌∙◌, subst, ⊎_elim, arith, lit<, length-append, Bor, ne_eqb, MatchOption}
use Rattle.std.specs.List.{join_with_byte, slice_split, before_first, after_first, onto_first, AllByRecursion}
use Rattle.std.proofs.lemmas.Bool.{cases_eq}
use Rattle.std.proofs.lemmas.List.Elements.{All-from_get_or}
use Rattle.std.proofs.lemmas.List.Recursion.{same_from_clauses}
use Rattle.std.proofs.lemmas.List.Splits.{slice_split_none, slice_split_first, join_with_byte-slice_split}
use Rattle.std.proofs.lemmas.Str.Pattern.{IsSplitOnceResult, split_parts, split_once_first}
use Rattle.words.specs.Words.{words, onto, Unbroken, Spaced}

abbrev is_blank : ℕ → Bool
is_blank b = b == 32

onto_same : (c : ℕ) (ws : List (List ℕ)) → onto c ws ≡ onto_first c ws
onto_same c [] = refl
onto_same c (w ∷ ws) = refl

pub words_split : (s : List ℕ) → words s ≡ slice_split is_blank s
words_split = same_from_clauses words (slice_split is_blank) (λ c ws. cond (c == 32) ([] ∷ ws) (onto c ws)) refl (λ _ _. refl)
    (λ c cs. ap (λ (l : List (List ℕ)). cond (c == 32) ([] ∷ slice_split is_blank cs) l) (sym (onto_same c (slice_split is_blank cs))))

pub words_cut : (bs : List ℕ) (r : Option (Bor (List ℕ) × Bor (List ℕ))) → IsSplitOnceResult 32 bs r → MatchOption r (words bs ≡ bs ∷ []) (λ x. words bs ≡ x.0.now ∷ words x.1.now)
words_cut bs None h = words_split bs ∙ slice_split_none is_blank bs (All-from_get_or (λ b. is_blank b ≡ false) bs 0 (λ i l. ne_eqb _ 32 (split_parts 32 bs None h (lit< tt) i l)))
words_cut bs (Some x) h =
    let p = split_once_first 32 bs (Some x) h (lit< tt) in
    words_split bs ∙ slice_split_first is_blank bs 0 p.0 ∙ sym ((λ i. p.1 i ∷ words (p.2 i)) ∙ ap (λ (l : List (List ℕ)). before_first is_blank bs ∷ l) (words_split (after_first is_blank bs)))

pub less_cut : (bs : List ℕ) (r : Option (Bor (List ℕ) × Bor (List ℕ))) → IsSplitOnceResult 32 bs r → IfSome r (λ x. length x.1.now < length bs)
less_cut bs None h = tt
less_cut bs (Some x) h = omega (arith, simp length-append at (ap length (split_parts 32 bs (Some x) h (lit< tt)).0))

abbrev pub SomeWord : List (List ℕ) → Type 0
SomeWord ws = (w : List ℕ) × (more : List (List ℕ)) × (ws ≡ w ∷ more)

onto_some : (c : ℕ) (ws : List (List ℕ)) → SomeWord (onto c ws)
onto_some c [] = (c ∷ [], [], refl)
onto_some c (w ∷ ws) = (c ∷ w, ws, refl)

-- every text has a word
pub words_some : (s : List ℕ) → SomeWord (words s)
words_some [] = ([], [], refl)
words_some (c ∷ cs) = elim (c == 32) as (λ b. SomeWord (cond b ([] ∷ words cs) (onto c (words cs)))) [ true ↦ ([], words cs, refl) | false ↦ onto_some c (words cs) ]

onto_unbroken : (c : ℕ) (ws : List (List ℕ)) → (c ≡ 32 → ⊥) → AllByRecursion Unbroken ws → AllByRecursion Unbroken (onto c ws)
onto_unbroken c [] n h = ((n, tt), tt)
onto_unbroken c (w ∷ ws) n h = ((n, h.0), h.1)

unbroken : (s : List ℕ) → AllByRecursion Unbroken (words s)
unbroken [] = (tt, tt)
unbroken (c ∷ cs) =
    ⊎_elim
    (λ (e : c ≡ 32). subst (λ (d : ℕ). AllByRecursion Unbroken (cond (d == 32) ([] ∷ words cs) (onto d (words cs)))) (sym e) (tt, unbroken cs))
    (λ (n : c ≡ 32 → ⊥). subst (λ (b : Bool). AllByRecursion Unbroken (cond b ([] ∷ words cs) (onto c (words cs)))) (sym (ne_eqb c 32 n)) (onto_unbroken c (words cs) n (unbroken cs)))
    (cases_eq c 32)

pub words_spaced : (s : List ℕ) → Spaced s (words s)
words_spaced s = (ap (join_with_byte 32) (words_split s) ∙ join_with_byte-slice_split 32 s, unbroken s)
