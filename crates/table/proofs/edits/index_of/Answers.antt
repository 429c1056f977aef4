use Rattle.table.proofs.Found.{ascending}
use Rattle.table.proofs.Changed.{index_none, index_some}
use Rattle.table.proofs.edits.index_of.Goals as goal

pub returns-in_err-i-clause-exact : goal.returns-in_err-i-clause-exact
returns-in_err-i-clause-exact g c = λ host k.
    let range = g.R.AddressRange.range in
    let place = g.R.GuestMemoryRegion.place in
    rw c.from_residual.ensures (index_none range place host c.args.table.now c.args.table.now k c.args.start.0 c.args.len (c.in_err-i.ensures.exact (ascending range place c.args.table.now host k)))

pub returns-clause-exact : goal.returns-clause-exact
returns-clause-exact g c = λ host k.
    let range = g.R.AddressRange.range in
    let place = g.R.GuestMemoryRegion.place in
    let xs = c.args.table.now in
    rw c.then_some.ensures (index_some range place host xs xs k c.args.start.0 c.args.len c.in_ok-i.i c.index-table-i.result c.is_exactly.result c.in_ok-i.ensures.within c.index-table-i.is (c.in_ok-i.ensures.exact (ascending range place xs host k)) c.is_exactly.ensures)
