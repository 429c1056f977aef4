use Rattle.std.proofs.Common.{List, ◌++◌, vec_items, Option}
use Rattle.refusal.specs.declared.Refusal.{Refusal}
use Rattle.answers.specs.declared.Span.{Span}
use Rattle.asks.specs.Asked.{Draws}
use Rattle.asks.proofs.memory.slices.Given as goal

-- whatever the rest of the range draws, it goes on from what was drawn
abbrev pub invariant-loop-piece : goal.invariant-loop-piece
invariant-loop-piece g l =
    g.M.GuestMemoryBackend.lawful l.memory →
    (ps : List Span) (end : Option Refusal) →
    Draws (g.M.GuestMemoryBackend.meant l.memory) l.cursor.addr.0 l.cursor.count ps end →
    Draws (g.M.GuestMemoryBackend.meant l.memory) l.address l.count (vec_items l.pieces ++ ps) end

abbrev pub decreases-loop-piece : goal.decreases-loop-piece
decreases-loop-piece g l = l.cursor.count
