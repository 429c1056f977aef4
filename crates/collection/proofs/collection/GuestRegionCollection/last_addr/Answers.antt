use Rattle.std.proofs.Common.{◌<◌, List, map, length, sym, ap, ◌∙◌, subst, rules}
use Rattle.region.specs.Regions.{shown}
use Rattle.region.specs.Grounds.{KeepsMeaning}
use Rattle.collection.specs.Collections.{highest}
use Rattle.collection.proofs.Counted.{last_highest}
use Rattle.collection.proofs.collection.GuestRegionCollection.last_addr.Goals as goal

pub returns-in-Some : goal.returns-in-Some
returns-in-Some g c =
    let range = g.R.AddressRange.range in
    let place = g.R.GuestMemoryRegion.place in
    let host = c.args.self.now.host_len in
    let xs = c.regions.result.now in
    let some : 0 < length xs = search rules in
    c.last_addr.ensures
    ∙ last_highest range place host xs (subst (λ (ys : List g.row.R.Denot). KeepsMeaning (record { host = host; regions = map (shown range place) ys })) (sym c.regions.ensures) c.args.self.now.lawful) some c.in-Some.region.now c.in-Some.ensures.item.1
    ∙ ap (λ (ys : List g.row.R.Denot). highest (map (shown range place) ys)) c.regions.ensures
