use Rattle.std.proofs.Common.{◌≡◌, Bool, Decides, ◌+◌, leb, ◌∙◌, arith, rules}
use Rattle.std.proofs.lemmas.Iterator.{YieldsList-from_slice}
use Rattle.std.proofs.lemmas.Iterator.Search.{YieldsList-from_take_while}
use Rattle.std.proofs.lemmas.Iterator.Consumers.{count_from_yields_List}
use Rattle.std.proofs.lemmas.List.Folds.{length-prefix_len}
use Rattle.std.proofs.lemmas.Bool.Decides.{nat_tests}
use Rattle.region.specs.Ranges.{Range}
use Rattle.region.specs.Grounds.{Apart}
use Rattle.table.proofs.Places.{ahead, placed}
use Rattle.table.proofs.edits.free_place.Goals as goal

apart_is : (b : Bool) (r s : Range) → Decides b (Apart r s) → b ≡ leb (r.start + r.len) s.start
apart_is b r s d = grind (arith, nat_tests)

pub returns-clause-exact : goal.returns-clause-exact
returns-clause-exact g c = λ asc some.
    let f = g.R.AddressRange.range in
    let xs = c.args.table.now in
    let s : Range = f c.args.new.now in
    let n = count_from_yields_List c.take_while.result c.count-i.result c.count-i.ensures.ran (YieldsList-from_take_while _ (ahead f s) (YieldsList-from_slice xs cc) c.take_while.ensures.closure c.take_while.ensures.done (λ x b q k. search (rules, apart_is))) ∙ length-prefix_len _ xs in
    rw c.then_some.ensures (placed f s xs c.count-i.result c.get.result c.is_none_or-clear.result asc some n c.get.ensures.lookup.3 (search (rules, apart_is)))
