-- But for `frames`, no command has seven words.
use Rattle.std.proofs.Common.{◌≡◌, ℕ, List, ◌∷◌, codes, subst, rules}
use Rattle.words.specs.Words.{words}
use Rattle.words.proofs.Cuts.{words_some}
use Rattle.commands.specs.declared.Command.{Command}
use Rattle.commands.specs.Commands.{Writes}

seven : (m : Command) (w a b c d e f : List ℕ) (more : List (List ℕ)) → (w ≡ codes "frames" → ⊥) → Writes m (w ∷ a ∷ b ∷ c ∷ d ∷ e ∷ f ∷ more) → ⊥
seven m w a b c d e f more n h = search rules

-- five words were cut off `rest`, and something is left
pub too_long :
    (w rest a b c d e ra rb rc rd re : List ℕ) → (w ≡ codes "frames" → ⊥)
    → words rest ≡ a ∷ words ra → words ra ≡ b ∷ words rb → words rb ≡ c ∷ words rc → words rc ≡ d ∷ words rd → words rd ≡ e ∷ words re
    → (m : Command) → Writes m (w ∷ words rest) → ⊥
too_long w rest a b c d e ra rb rc rd re n pa pb pc pd pe m h =
    let last = words_some re in
    let all : words rest ≡ a ∷ b ∷ c ∷ d ∷ e ∷ last.0 ∷ last.1 = cc last.2 in
    seven m w a b c d e last.0 last.1 n (subst (λ (ws : List (List ℕ)). Writes m (w ∷ ws)) all h)
