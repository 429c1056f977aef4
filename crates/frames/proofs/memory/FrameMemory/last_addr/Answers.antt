use Rattle.std.proofs.Common.{sym}
use Rattle.frames.proofs.Framed.{highest_none, highest_frame, ends_by_top}
use Rattle.frames.proofs.memory.FrameMemory.last_addr.Goals as goal

pub returns-in-Some : goal.returns-in-Some
returns-in-Some c =
    let m = c.args.self.now in
    let e = c.in-Some.ensures in
    sym (highest_frame m.base.0 m.entries.now c.in-Some.n (ends_by_top m.base.0 m.entries.now m.shape) e.0 e.1 e.2)

pub returns-in-None : goal.returns-in-None
returns-in-None c = sym (highest_none c.args.self.now.base.0 c.args.self.now.entries.now c.in-None.ensures)
