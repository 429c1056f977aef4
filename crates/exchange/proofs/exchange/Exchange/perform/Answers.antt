-- The arms with a box and without one meet before they are settled, so each is shown by itself.
use Rattle.std.proofs.Common.{arith}
use Rattle.std.proofs.lemmas.Grind.{common_steps}
use Rattle.exchange.proofs.exchange.Exchange.perform.Goals as goal
use Rattle.exchange.proofs.exchange.Exchange.perform.Goals.{in-Some, in-None}

pub returns-after-self-3 : goal.returns-after-self-3
returns-after-self-3 c = elim c.match-self-3.branch [
  | in-Some w ↦ grind (arith, common_steps)
  | in-None w ↦ grind (arith, common_steps)
]
