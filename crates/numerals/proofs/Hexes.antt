-- The digits that `{:x}` writes are the figures.
use Rattle.std.proofs.Common.{◌≡◌, ℕ, zero, suc, ◌/◌, ◌%◌, ◌^◌, ◌<◌, Bool, false, cond, List, [], ◌∷◌, ◌++◌, map, sym, refl, ap, ◌∙◌, ⊎_elim, append_assoc, append-nil, arith, eq-eqb, ne_eqb}
use mathlib.Core.List.{map-append}
use native.Mathlib.Nat.{pow-suc}
use Rattle.std.specs.Fmt.{digits, digits_onto}
use Rattle.std.specs.Int.Digits.{digits_of}
use Rattle.std.proofs.lemmas.Bool.{cases_eq}
use Rattle.std.proofs.lemmas.Int.Digits.{digits_of_step}
use Rattle.numerals.specs.Hexes.{figure, figures}

nonzero : (n : ℕ) → 0 < n → figures n ≡ map figure (digits_of 16 n)
nonzero n h = ap (λ (b : Bool). cond b (48 ∷ []) (map figure (digits_of 16 n))) (ne_eqb n 0 (omega arith))

stepped : (n : ℕ) → 0 < n → figures n ≡ map figure (digits_of 16 (n / 16)) ++ (figure (n % 16) ∷ [])
stepped n h = nonzero n h ∙ ap (map figure) (digits_of_step 16 n (omega arith) h) ∙ map-append figure (digits_of 16 (n / 16)) (n % 16 ∷ [])

more : (n : ℕ) → (n / 16 ≡ 0 → ⊥) → figures n ≡ figures (n / 16) ++ (figure (n % 16) ∷ [])
more n h = stepped n (omega arith) ∙ ap (λ (l : List ℕ). l ++ (figure (n % 16) ∷ [])) (sym (nonzero (n / 16) (omega arith)))

one : (n : ℕ) → n / 16 ≡ 0 → figures n ≡ figure (n % 16) ∷ []
one zero h = refl
one (suc k) h = stepped (suc k) (omega arith) ∙ ap (λ (q : ℕ). map figure (digits_of 16 q) ++ (figure (suc k % 16) ∷ [])) h

left : (k n : ℕ) → n < 16 ^ suc k → (n / 16 ≡ 0 → ⊥) → 0 < k
left zero n h e = absurd (e (omega arith))
left (suc k) n h e = omega arith

-- k digits are enough
onto : (k n : ℕ) (acc : List ℕ) → n < 16 ^ k → 0 < k → digits_onto k 16 false n acc ≡ figures n ++ acc
onto zero n acc h some = absurd (omega arith)
onto (suc k) n acc h some =
    ⊎_elim
    (λ (e : n / 16 ≡ 0). ap (λ (b : Bool). cond b (figure (n % 16) ∷ acc) (digits_onto k 16 false (n / 16) (figure (n % 16) ∷ acc))) (eq-eqb _ 0 e) ∙ sym (ap (λ (l : List ℕ). l ++ acc) (one n e)))
    (λ (e : n / 16 ≡ 0 → ⊥). ap (λ (b : Bool). cond b (figure (n % 16) ∷ acc) (digits_onto k 16 false (n / 16) (figure (n % 16) ∷ acc))) (ne_eqb _ 0 e) ∙ onto k (n / 16) (figure (n % 16) ∷ acc) (omega (arith, pow-suc 16 k)) (left k n h e) ∙ sym (ap (λ (l : List ℕ). l ++ acc) (more n e) ∙ append_assoc (figures (n / 16)) (figure (n % 16) ∷ []) acc))
    (cases_eq (n / 16) 0)

pub digits_figures : (n : ℕ) → n < 2 ^ 64 → digits 16 false n ≡ figures n
unfolding digits
digits_figures n h = onto 64 n [] (omega arith) (omega arith) ∙ append-nil (figures n)
