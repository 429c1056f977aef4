use Rattle.std.proofs.Common.{◌≡◌, ℕ, Err, Result, sym, ◌∙◌, rules}
use Rattle.table.specs.declared.error.GuestRegionCollectionError.{GuestRegionCollectionError}
use Rattle.table.specs.declared.error.GuestRegionCollectionError.TheVariants.{NoMemoryRegion}
use Rattle.table.proofs.Changed.{no_region, no_place, removal}
use Rattle.table.proofs.edits.remove.Goals as goal

pub returns-in_err-i-clause-exact : goal.returns-in_err-i-clause-exact
returns-in_err-i-clause-exact g c = λ host k.
    let r : ◌≡◌ {A = Result (ℕ × g.row.R.Denot) GuestRegionCollectionError} c.from_residual.result (Err NoMemoryRegion) = search rules in
    rw r (no_region g.R.AddressRange.range g.R.GuestMemoryRegion.place host c.args.table.now c.args.dest.now c.args.start.0 c.args.len (sym (c.index_of.ensures.exact host k) ∙ c.in_err-i.ensures.ok_part))

pub returns-then-dest-table-clause-exact : goal.returns-then-dest-table-clause-exact
returns-then-dest-table-clause-exact g c = λ host k.
    no_place g.R.AddressRange.range g.R.GuestMemoryRegion.place host c.args.table.now c.args.dest.now c.args.start.0 c.args.len c.in_ok-i.i (sym (c.index_of.ensures.exact host k) ∙ c.in_ok-i.ensures.ok_part) c.if-dest-table.true

pub returns-clause-exact : goal.returns-clause-exact
returns-clause-exact g c = λ host k.
    removal g.R.AddressRange.range g.R.GuestMemoryRegion.place host c.args.table.now c.args.dest.now c.args.start.0 c.args.len c.in_ok-i.i c.index-table-i.result c.remove_into.new.dest
    (sym (c.index_of.ensures.exact host k) ∙ c.in_ok-i.ensures.ok_part) (rw c.in_ok-i.ensures.ok_part at c.index_of.ensures.within) c.if-dest-table.false c.index-table-i.is k c.remove_into.ensures
