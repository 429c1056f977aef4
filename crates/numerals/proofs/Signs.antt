-- No digits begin with a plus, and a word that `0x` does not begin is not marked.
use Rattle.std.proofs.Common.{◌≡◌, ℕ, ◌<◌, ◌≤◌, Bool, false, ◌&&◌, eqb, List, [], ◌∷◌, get_or, refl, ap, subst, ⊎_elim, arith, eq-eqb, ne_eqb}
use Rattle.std.proofs.lemmas.Bool.{cases_eq}
use Rattle.std.specs.Str.Pattern.{LacksTextAt}
use Rattle.std.specs.Str.Parse.{IsNumeral}
use Rattle.std.specs.Char.{digit_value}
use Rattle.numerals.specs.Numbers.{marked}

pub no_plus : (radix : ℕ) (ds : List ℕ) → radix ≤ 36 → get_or ds 0 0 ≡ 43 → IsNumeral radix ds → ⊥
no_plus radix [] h e n = omega (arith, n.0)
no_plus radix (d ∷ ds) h e n = let x : digit_value 43 < radix = subst (λ (k : ℕ). digit_value k < radix) e n.1.0 in omega (arith, x)

pub unmarked : (w : List ℕ) → LacksTextAt (48 ∷ 120 ∷ []) w 0 → marked w ≡ false
unmarked [] h = refl
unmarked (a ∷ []) h = ⊎_elim (λ (e : a ≡ 48). ap (λ (b : Bool). b && false) (eq-eqb a 48 e)) (λ (n : a ≡ 48 → ⊥). ap (λ (b : Bool). b && false) (ne_eqb a 48 n)) (cases_eq a 48)
unmarked (a ∷ b ∷ w) h =
    ⊎_elim
    (λ (e : a ≡ 48). ⊎_elim
    (λ (f : b ≡ 120). absurd (h w (λ i. e i ∷ f i ∷ w)))
    (λ (n : b ≡ 120 → ⊥). λ i. eq-eqb a 48 e i && ne_eqb b 120 n i)
    (cases_eq b 120))
    (λ (n : a ≡ 48 → ⊥). ap (λ (x : Bool). x && eqb b 120) (ne_eqb a 48 n))
    (cases_eq a 48)
