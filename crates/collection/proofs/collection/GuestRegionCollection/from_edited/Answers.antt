use Rattle.std.proofs.Common.{map, take, sym, refl, arith}
use Rattle.std.proofs.lemmas.Result.{err_from_is_err_and}
use Rattle.region.specs.Regions.{shown}
use Rattle.table.proofs.Made.{lawful_made}
use Rattle.collection.proofs.Counted.{edited_checked}
use Rattle.collection.proofs.collection.GuestRegionCollection.from_edited.Goals as goal

pub returns-in_err-check_table : goal.returns-in_err-check_table
returns-in_err-check_table g c =
    let p = err_from_is_err_and c.from_residual.result c.from_residual.ensures.1 in
    rw (p.1, p.2) (record { answer = edited_checked (shown g.R.AddressRange.range g.R.GuestMemoryRegion.place) c.args.host_len c.args.count c.args.table.now (omega arith) c.in_err-check_table.ensures })

pub invariant_of-result : goal.invariant_of-result
invariant_of-result g c = record { counted = omega arith; lawful = lawful_made c.args.host_len (map (shown g.R.AddressRange.range g.R.GuestMemoryRegion.place) (take c.args.count c.args.table.now)) (omega arith) (sym c.in_ok-check_table.ensures) }

pub returns : goal.returns
returns g c = record { answer = (edited_checked (shown g.R.AddressRange.range g.R.GuestMemoryRegion.place) c.args.host_len c.args.count c.args.table.now (omega arith) c.in_ok-check_table.ensures, refl, refl) }
