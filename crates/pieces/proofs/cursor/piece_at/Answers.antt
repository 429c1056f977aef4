-- In a backend that keeps its meaning the guards do not refuse.
use Rattle.std.proofs.Common.{◌+◌, ◌≤◌, sym, ◌∙◌, arith}
use Rattle.std.proofs.lemmas.Bool.{both_ways}
use Rattle.region.specs.Regions.{Region, shown}
use Rattle.region.specs.Slots.{slot_range, slot_place}
use Rattle.backend.proofs.Held.{inside, offset_is}
use Rattle.pieces.proofs.Drawn.{found, ends}
use Rattle.pieces.proofs.cursor.piece_at.Goals as goal

pub returns-in_err-offset-clause-exact : goal.returns-in_err-offset-clause-exact
returns-in_err-offset-clause-exact g c h =
    let b = c.args.memory.now in
    let r : Region = shown slot_range slot_place c.in_ok-region.region in
    let q = found (g.M.GuestMemoryBackend.meant b) (g.M.GuestMemoryBackend.keeps b h) c.args.addr.0 r (rw c.in_ok-region.ensures.ok_part at (c.region_at.ensures h)) in
    absurd (inside r c.args.addr.0 q.cover (rw c.in_err-offset.ensures.ok_part at c.to_region_addr.ensures))

pub returns-then-not-ends_within-clause-exact : goal.returns-then-not-ends_within-clause-exact
returns-then-not-ends_within-clause-exact g c h =
    let b = c.args.memory.now in
    let r : Region = shown slot_range slot_place c.in_ok-region.region in
    let q = found (g.M.GuestMemoryBackend.meant b) (g.M.GuestMemoryBackend.keeps b h) c.args.addr.0 r (rw c.in_ok-region.ensures.ok_part at (c.region_at.ensures h)) in
    let o = offset_is r c.args.addr.0 c.in_ok-offset.field-0.0 q.cover (rw c.in_ok-offset.ensures.ok_part at c.to_region_addr.ensures) in
    let e = ends (g.M.GuestMemoryBackend.meant b) c.args.addr.0 r q c.in_ok-place.place (sym c.host_place.ensures ∙ c.in_ok-place.ensures.ok_part) in
    let fits : c.in_ok-place.place + c.in_ok-offset.field-0.0 + c.min-len.result ≤ c.host_len.result = omega (arith, e, o, c.in_ok-offset.offset-is, q.low, q.high, c.min-len.ensures, c.len.ensures, c.host_len.ensures) in
    absurd (both_ways c.ends_within.result c.if-not-ends_within.true (c.ends_within.ensures.1 fits))
