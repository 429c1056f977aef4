-- No digits begin with a plus.
use Rattle.std.proofs.Common.{rules}
use Rattle.numerals.proofs.Signs.{no_plus}
use Rattle.numerals.proofs.unsigned.Goals as goal

pub returns-then-starts_with : goal.returns-then-starts_with
returns-then-starts_with c = search (rules, no_plus)
