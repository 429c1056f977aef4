use Rattle.pieces.proofs.Drawn.{pieced}
use Rattle.pieces.proofs.piece.PhysicalCursor.draw.Goals as goal

pub returns-in-Ok-clause-longest : goal.returns-in-Ok-clause-longest
returns-in-Ok-clause-longest g c h = let b = c.args.memory.now in pieced (g.M.GuestMemoryBackend.meant b) (g.M.GuestMemoryBackend.keeps b h) c.args.self.now.addr.0 c.args.self.now.count c.in-Ok.piece (c.in-Ok.ensures.exact h)
