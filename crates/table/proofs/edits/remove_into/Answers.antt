use Rattle.std.proofs.Common.{arith, rules}
use Rattle.std.proofs.lemmas.List.{places, same_lists}
use Rattle.table.proofs.edits.remove_into.Goals as goal

pub returns : goal.returns
returns g c = same_lists _ _ (search (rules, places)) (λ k d h. grind (arith, places))
