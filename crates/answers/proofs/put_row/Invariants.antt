-- The spans so far are written.
use Rattle.std.proofs.Common.{take}
use Rattle.std.specs.Fmt.{IsPlainFormatter, HasWritten}
use Rattle.answers.specs.Answers.{each, piece}
use Rattle.answers.proofs.put_row.Given as goal

abbrev pub invariant-loop-span : goal.invariant-loop-span
invariant-loop-span g l = IsPlainFormatter l.initial.f → HasWritten g.W.Write.write_str_gives l.initial.f (each piece (take l.span-index l.row)) l.f
