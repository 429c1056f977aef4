use Rattle.std.proofs.Common.{◌≡◌, ℕ, List, map, length, slice_get, Some, None, Option, option_map, option_and_then, sym, refl, ap, ◌∙◌}
use Rattle.std.proofs.lemmas.Option.{slice_get_read}
use Rattle.region.specs.Ranges.{Range}
use Rattle.region.specs.Regions.{shown}
use Rattle.region.specs.Grounds.{KeepsMeaning, Ascending, holding}
use Rattle.table.specs.Questions.{holder}
use Rattle.collection.specs.Collections.{items}
use Rattle.table.proofs.Found.{ascending_as, holding_shown}
use Rattle.collection.proofs.collection.GuestRegionCollection.find_region.Goals as goal

-- what the index that the search answers gives, in a table that holds the regions ys
item_at : {R : Type 0} (range : R → Range) (place : R → Option ℕ) (host : ℕ) (xs ys : List R) (a : ℕ) (o : Option ℕ) (x : Option R) → xs ≡ ys → KeepsMeaning (record { host = host; regions = map (shown range place) ys }) → (Ascending (map range xs) (length xs) → o ≡ holder (map range xs) a) → x ≡ option_and_then (slice_get xs) o →
    (x ≡ option_and_then (slice_get ys) (holder (map range ys) a)) × (option_map (shown range place) x ≡ holding (map (shown range place) ys) a)
item_at range place host xs ys a o x e k found r =
    let i = r ∙ ap (option_and_then (slice_get xs)) (found (ascending_as range place xs ys host e k)) ∙ ap (λ (zs : List _). option_and_then (slice_get zs) (holder (map range zs) a)) e in
    (i, ap (option_map (shown range place)) i ∙ sym (holding_shown range place ys a))

pub returns : goal.returns
returns g c =
    let xs = c.regions-table.result.now in
    let q = c.in_ok-i.ensures in
    let p = item_at g.R.AddressRange.range g.R.GuestMemoryRegion.place c.args.self.now.host_len xs (items c.args.self.now) c.args.addr.0 (Some c.in_ok-i.i) (Some c.index-table-i.result) c.regions-table.ensures c.args.self.now.lawful q.exact
    (sym (slice_get_read xs _ c.in_ok-i.i c.index-table-i.result refl q.within c.index-table-i.is)) in
    record { item = p.0; region = p.1 }

pub returns-in_err-i : goal.returns-in_err-i
returns-in_err-i g c =
    let p = item_at g.R.AddressRange.range g.R.GuestMemoryRegion.place c.args.self.now.host_len c.regions-table.result.now (items c.args.self.now) c.args.addr.0 None None c.regions-table.ensures c.args.self.now.lawful c.in_err-i.ensures.exact refl in
    rw c.from_residual.ensures (record { item = p.0; region = p.1 })
