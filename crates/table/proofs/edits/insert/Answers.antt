use Rattle.std.proofs.Common.{◌≡◌, ℕ, Err, Result, sym, ◌∙◌, arith, rules}
use Rattle.region.specs.Regions.{shown}
use Rattle.table.specs.declared.error.GuestRegionCollectionError.{GuestRegionCollectionError}
use Rattle.table.specs.declared.error.GuestRegionCollectionError.TheVariants.{MemoryRegionOverlap}
use Rattle.table.proofs.Changed.{overlapping, insertion}
use Rattle.table.proofs.Made.{not_empty}
use Rattle.table.proofs.Found.{ascending}
use Rattle.table.proofs.edits.insert.Goals as goal

pub returns-in_err-i-clause-exact : goal.returns-in_err-i-clause-exact
returns-in_err-i-clause-exact g c = λ k.
    let range = g.R.AddressRange.range in
    let place = g.R.GuestMemoryRegion.place in
    let xs = c.args.table.now in
    let e = sym c.is_sound.ensures ∙ c.if-not-is_sound.false in
    let q = rw c.in_err-i.ensures.ok_part at (c.free_place.ensures.exact (ascending range place xs c.args.host_len k) (not_empty c.args.host_len (shown range place c.args.region) e)) in
    let r : ◌≡◌ {A = Result ℕ GuestRegionCollectionError} c.from_residual.result (Err MemoryRegionOverlap) = search rules in
    rw r (overlapping range place c.args.host_len xs c.args.dest.now c.args.region (omega arith) e q)

pub returns-clause-exact : goal.returns-clause-exact
returns-clause-exact g c = λ k.
    let range = g.R.AddressRange.range in
    let place = g.R.GuestMemoryRegion.place in
    let xs = c.args.table.now in
    let e = sym c.is_sound.ensures ∙ c.if-not-is_sound.false in
    let q = rw c.in_ok-i.ensures.ok_part at (c.free_place.ensures.exact (ascending range place xs c.args.host_len k) (not_empty c.args.host_len (shown range place c.args.region) e)) in
    insertion range place c.args.host_len xs c.args.dest.now c.args.region c.insert_into.new.dest c.in_ok-i.i (omega arith) (rw c.in_ok-i.ensures.ok_part at c.free_place.ensures.within) e q k c.insert_into.ensures
