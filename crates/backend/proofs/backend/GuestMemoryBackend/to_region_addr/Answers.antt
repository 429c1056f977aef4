use Rattle.std.proofs.Common.{ℕ, ◌-◌, Some, option_map, sym, ap, ◌∙◌}
use Rattle.region.specs.Regions.{Region, shown}
use Rattle.region.specs.Slots.{slot_range, slot_place}
use Rattle.backend.proofs.Held.{held, inside, offset_is}
use Rattle.backend.proofs.backend.GuestMemoryBackend.to_region_addr.Goals as goal

pub returns-in_err-offset : goal.returns-in_err-offset
returns-in_err-offset g c l =
    let m = g.Self.GuestMemoryBackend.meant c.args.self.now in
    let r : Region = shown slot_range slot_place c.in_ok-region.region in
    let h = held m.host m.regions c.args.addr.0 r (g.Self.GuestMemoryBackend.keeps c.args.self.now l).1 (sym (c.in_ok-region.ensures l)) in
    absurd (inside r c.args.addr.0 h.1 c.in_err-offset.ensures)

pub returns : goal.returns
returns g c l =
    let m = g.Self.GuestMemoryBackend.meant c.args.self.now in
    let r : Region = shown slot_range slot_place c.in_ok-region.region in
    let h = held m.host m.regions c.args.addr.0 r (g.Self.GuestMemoryBackend.keeps c.args.self.now l).1 (sym (c.in_ok-region.ensures l)) in
    ap (λ (d : ℕ). Some (r, d)) (offset_is r c.args.addr.0 c.in_ok-offset.offset.0 h.1 c.in_ok-offset.ensures)
    ∙ ap (option_map (λ (x : Region). (x, c.args.addr.0 - x.start))) (c.in_ok-region.ensures l)
