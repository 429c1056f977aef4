-- One span more is written in a turn.
use Rattle.std.proofs.Common.{◌∷◌, sym, refl}
use Rattle.std.proofs.Output.{has_written_append, has_written_of_eq}
use Rattle.numerals.proofs.Joins.{joined_more}
use Rattle.answers.specs.Answers.{piece}
use Rattle.answers.proofs.put_row.Goals as goal

pub loop-span-preserved : goal.loop-span-preserved
loop-span-preserved g c plain =
    let x = c.loop-span.invariant plain in
    has_written_of_eq _ _ _ _ _ (sym (joined_more (λ p. 32 ∷ piece p) c.args.row.now c.loop-span.span-index (record { start = 0; len = 0 }) c.loop-span-test.true)) (has_written_append _ _ _ _ _ _ x (c.in_ok-write.ensures.writes x.plain refl))
