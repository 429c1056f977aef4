-- The digits are the figures.
use Rattle.std.proofs.Common.{arith}
use Rattle.numerals.proofs.Hexes.{digits_figures}
use Rattle.numerals.proofs.HexDisplay.fmt.Goals as goal

pub returns-clause-writes : goal.returns-clause-writes
returns-clause-writes g c = grind (arith, digits_figures)
