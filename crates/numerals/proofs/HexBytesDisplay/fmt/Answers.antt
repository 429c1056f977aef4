-- One pair more is written in a turn.
use Rattle.std.proofs.Common.{sym, refl}
use Rattle.std.proofs.Output.{has_written_append, has_written_of_eq}
use Rattle.numerals.specs.Hexes.{pair}
use Rattle.numerals.proofs.Joins.{joined_more}
use Rattle.numerals.proofs.HexBytesDisplay.fmt.Goals as goal

pub loop-b-preserved : goal.loop-b-preserved
loop-b-preserved g c plain =
    let before = c.loop-b.invariant plain in
    has_written_of_eq _ _ _ _ _ (sym (joined_more pair c.args.self.now.0.now c.loop-b.b-index 0 c.loop-b-test.true)) (has_written_append _ _ _ _ _ _ before (c.in_ok-put_pair.ensures before.plain refl))
