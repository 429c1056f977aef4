use Rattle.std.proofs.Common.{map, length, sym, arith}
use Rattle.std.proofs.lemmas.List.{take_all}
use Rattle.region.specs.Regions.{shown}
use Rattle.table.proofs.Made.{lawful_made}
use Rattle.collection.proofs.collection.GuestRegionCollection.from_regions.Goals as goal

pub invariant_of-result : goal.invariant_of-result
invariant_of-result g c =
    let xs = c.args.table.now in
    record { counted = omega arith; lawful = rw (take_all (length xs) xs (omega arith)) (lawful_made c.args.host_len (map (shown g.R.AddressRange.range g.R.GuestMemoryRegion.place) xs) (omega arith) (sym c.in_ok-check_table.ensures)) }
