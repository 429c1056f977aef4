use Rattle.std.proofs.Common.{rules}
use Rattle.region.specs.Regions.{shown}
use Rattle.region.specs.Slots.{slot_range, slot_place}
use Rattle.backend.proofs.Held.{resolved_at}
use Rattle.backend.proofs.backend.GuestMemoryBackend.resolve.Goals as goal

pub returns : goal.returns
returns g c h =
    let b = c.args.self.now in
    let place = rw c.host_place.ensures at c.and_then-place.ensures in
    resolved_at (g.Self.GuestMemoryBackend.meant b) (g.Self.GuestMemoryBackend.keeps b h) c.args.addr.0 c.in_ok-region.offset.0 (shown slot_range slot_place c.in_ok-region.region) c.and_then-place.result
    (c.in_ok-region.ensures h) place (λ p w. search rules)
