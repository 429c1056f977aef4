-- Blanks and the first byte of a comment.
use Rattle.std.proofs.Common.{◌≡◌, ℕ, Bool, true, false, ◌&&◌, ◌==◌, List, [], ◌∷◌, get_or, Decides, sym, refl, arith, eq-eqb, ne_eqb}
use mathlib.Core.Bool.{false≢true}
use Rattle.std.specs.List.{list_all}
use Rattle.std.proofs.lemmas.List.Recursion.{same_from_clauses}
use Rattle.words.specs.Words.{blank, comment}

pub blank_is : (s : List ℕ) → blank s ≡ list_all (λ b. b == 32) s
blank_is = same_from_clauses blank (list_all (λ b. b == 32)) (λ b r. b == 32 && r) refl (λ _ _. refl) (λ _ _. refl)

-- the first byte decides whether it is a comment
pub comment_is : (s : List ℕ) (b : Bool) → Decides b (get_or s 0 0 ≡ 35) → b ≡ comment s
comment_is [] true h = absurd (omega (arith, h.0 refl))
comment_is [] false h = refl
comment_is (c ∷ cs) true h = sym (eq-eqb c 35 (h.0 refl))
comment_is (c ∷ cs) false h = sym (ne_eqb c 35 (λ e. false≢true (h.1 e)))
