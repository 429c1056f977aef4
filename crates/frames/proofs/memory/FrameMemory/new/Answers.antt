use Rattle.std.proofs.Common.{sym, ◌∙◌, arith}
use Rattle.frames.proofs.Framed.{frames_kept}
use Rattle.frames.proofs.memory.FrameMemory.new.Goals as goal

pub invariant_of-result : goal.invariant_of-result
invariant_of-result c =
    let w = sym c.is_well_shaped.ensures ∙ c.if-not-is_well_shaped.false in
    record { shape = w; lawful = frames_kept c.args.host_len c.args.base.0 c.args.entries.now (omega arith) w (sym c.in-None.ensures) }
