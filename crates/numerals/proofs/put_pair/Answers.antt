-- One figure after the other, each of them one ASCII byte.
use Rattle.std.proofs.Common.{ℕ, [], ◌∷◌, refl, ap, ◌∙◌}
use Rattle.std.proofs.Output.{has_written_append, has_written_of_eq}
use Rattle.std.proofs.lemmas.Str.{encode_ascii}
use Rattle.numerals.proofs.put_pair.Goals as goal

pub returns : goal.returns
returns g c plain ok =
    let high = has_written_of_eq _ _ _ _ _ (encode_ascii _ c.figure_of.ensures.ascii ∙ ap (λ (d : ℕ). d ∷ []) c.figure_of.ensures.value) (c.in_ok-write_char.ensures.writes plain refl) in
    let low = has_written_of_eq _ _ _ _ _ (encode_ascii _ c.figure_of-2.ensures.ascii ∙ ap (λ (d : ℕ). d ∷ []) c.figure_of-2.ensures.value) (c.write_char-2.ensures.writes high.plain ok) in
    has_written_append _ _ _ _ _ _ high low
