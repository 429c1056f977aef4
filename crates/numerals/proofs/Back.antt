-- What is written of a number is read as that number.
use Rattle.std.proofs.Common.{◌≡◌, ℕ, ◌^◌, ◌<◌, List, Some, None, Option, false, ap, ◌∙◌, subst, arith}
use Rattle.std.specs.Option.{SomeIff}
use Rattle.std.specs.Str.Parse.{IsNumeral, digits_value}
use Rattle.std.proofs.lemmas.Fmt.{digits_is_IsNumeral}
use Rattle.numerals.specs.Hexes.{figures, hex}
use Rattle.numerals.specs.Numbers as word
use Rattle.numerals.proofs.Hexes.{digits_figures}

figures_numeral : (n : ℕ) → n < 2 ^ 64 → IsNumeral 16 (figures n) × (digits_value 16 (figures n) ≡ n)
figures_numeral n h = subst (λ (ds : List ℕ). IsNumeral 16 ds × (digits_value 16 ds ≡ n)) (digits_figures n h) (digits_is_IsNumeral 16 false (omega arith) (omega arith) n (omega arith))

same : (r : Option ℕ) (P : Type 0) (v n : ℕ) → P → v ≡ n → SomeIff r P v → r ≡ Some n
same None P v n p e h = absurd (h p)
same (Some x) P v n p e h = ap (λ (m : ℕ). Some m) (h.1 ∙ e)

-- the word is what was written of n, and r what was read of it
pub read_back : (w : List ℕ) (r : Option ℕ) → SomeIff r (word.IsNumber w) (word.number w) → (n : ℕ) → n < 2 ^ 64 → w ≡ hex n → r ≡ Some n
read_back w r h n small e =
    let f = figures_numeral n small in
    same r (word.IsNumber (hex n)) (digits_value 16 (figures n)) n (f.0, omega (arith, f.1)) f.1 (subst (λ (v : List ℕ). SomeIff r (word.IsNumber v) (word.number v)) e h)
