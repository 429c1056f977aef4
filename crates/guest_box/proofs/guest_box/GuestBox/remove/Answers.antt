-- The removal is from the regions that the memory keeps, which pass their questions.
use Rattle.std.proofs.lemmas.Grind.{common_steps}
use Rattle.std.proofs.Common.{arith, ◌≡◌, vec_len, ap, ◌∙◌}
use Rattle.std.proofs.lemmas.Result.{err_from_is_err_and}
use Rattle.region.specs.Regions.{shown}
use Rattle.region.specs.Slots.{slot_range, slot_place}
use Rattle.answers.specs.declared.Answer.TheVariants.{Removed}
use Rattle.guest_box.specs.Memories.{held}
use Rattle.guest_box.specs.Changes.{region_told}
use Rattle.guest_box.specs.contracts.guest_box.GuestBox.{the_view}
use Rattle.guest_box.proofs.Told.{not_removed, removed}
use Rattle.guest_box.proofs.guest_box.GuestBox.remove.Goals as goal

pub returns-in_err-left-clause-answer : goal.returns-in_err-left-clause-answer
returns-in_err-left-clause-answer c =
    let p = err_from_is_err_and c.from_residual.result c.from_residual.ensures.1 in
    let len = rw (← c.self.view_is) at c.host_len.ensures.answer in
    let came = rw (c.as_slice.ensures.value, len) at c.in_err-left.ensures in
    rw (p.1, p.2, ← c.self.view_is) (not_removed (the_view c.self.inside) c.args.room c.args.start c.args.len _ (ap held c.in-Regions.is) c.self.invariant c.in_err-left.field-0.0 came)

pub returns-clause-answer : goal.returns-clause-answer
returns-clause-answer c =
    let len = rw (← c.self.view_is) at c.host_len.ensures.answer in
    let came = rw (c.as_slice.ensures.value, len) at c.in_ok-left.ensures in
    let t = removed (the_view c.self.inside) c.args.room c.args.start c.args.len _ (ap held c.in-Regions.is) c.self.invariant c.in_ok-left.left c.in_ok-left.removed came in
    let told : Removed c.len-count.result c.span_of.result c.host_place.result ≡ region_told (vec_len c.in_ok-left.left) (shown slot_range slot_place c.in_ok-left.removed) =
    λ i. Removed (c.len-count.ensures i) (c.span_of.ensures i) (c.host_place.ensures i) in
    rw (← c.self.view_is) (told ∙ t.0, t.1)

pub invariant_of-self : goal.invariant_of-self
invariant_of-self c =
    let len = rw (← c.self.view_is) at c.host_len.ensures.answer in
    grind (arith, common_steps)
