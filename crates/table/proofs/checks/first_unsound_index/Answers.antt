use Rattle.std.proofs.Common.{not, map, sym, ap, ◌∙◌, arith, below_more}
use Rattle.std.proofs.lemmas.List.{length-map}
use Rattle.region.specs.Regions.{Region, shown, sound}
use Rattle.table.proofs.Tables.{region_read, first_at, first_none}
use Rattle.table.proofs.checks.first_unsound_index.Goals as goal

pub returns-then-not-is_sound : goal.returns-then-not-is_sound
returns-then-not-is_sound g c =
    let f = shown g.R.AddressRange.range g.R.GuestMemoryRegion.place in
    let xs = c.args.table.now in
    let m = length-map xs f in
    let e = region_read f xs _ _ c.loop-i-test.true c.index-table-i.is in
    sym (first_at (λ (r : Region). not (sound c.args.host_len r)) _ (map f xs) c.loop-i.i
    (λ k l. ap not (c.loop-i.invariant k l))
    (omega arith)
    (ap not (ap (sound c.args.host_len) e ∙ sym c.is_sound.ensures ∙ c.if-not-is_sound.true)))

pub loop-i-preserved : goal.loop-i-preserved
loop-i-preserved g c =
    let f = shown g.R.AddressRange.range g.R.GuestMemoryRegion.place in
    let e = region_read f c.args.table.now _ _ c.loop-i-test.true c.index-table-i.is in
    below_more _ _ c.loop-i.invariant (ap (sound c.args.host_len) e ∙ sym c.is_sound.ensures ∙ c.if-not-is_sound.false)

pub returns : goal.returns
returns g c =
    let f = shown g.R.AddressRange.range g.R.GuestMemoryRegion.place in
    let m = length-map c.args.table.now f in
    sym (first_none (λ (r : Region). not (sound c.args.host_len r)) _ (map f c.args.table.now) (λ k l. ap not (c.loop-i.invariant k (omega arith))))
