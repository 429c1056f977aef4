-- The table that is handed on holds the regions of the collection.
use Rattle.std.proofs.Common.{List, map, subst}
use Rattle.region.specs.Regions.{shown}
use Rattle.region.specs.Grounds.{KeepsMeaning}
use Rattle.table.specs.Edits.{Removes}
use Rattle.collection.proofs.collection.GuestRegionCollection.remove_region.Goals as goal

pub returns-clause-exact : goal.returns-clause-exact
returns-clause-exact g c =
    let h = c.args.self.now.host_len in
    let range = g.R.AddressRange.range in
    let place = g.R.GuestMemoryRegion.place in
    subst (λ (ys : List g.row.R.Denot). KeepsMeaning (record { host = h; regions = map (shown range place) ys }) → Removes range place h ys c.args.start.0 c.args.len c.args.dest.now c.remove.new.dest c.remove.result)
    c.regions-table.ensures (c.remove.ensures.exact h) c.args.self.now.lawful
