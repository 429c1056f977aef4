-- The invariant of the memory made is about the fields, the length asked for about the value.
use Rattle.std.proofs.Common.{arith}
use Rattle.std.proofs.lemmas.Grind.{common_steps}
use Rattle.guest_box.proofs.guest_box.GuestBox.try_frame.Goals as goal

pub invariant_of-self : goal.invariant_of-self
invariant_of-self c =
    let h = rw (← c.self.view_is) at c.host_len-host_len.ensures.answer in
    grind (arith, common_steps)
