use Rattle.std.proofs.Common.{[], Some, None, Ok, Option, sym, ap, ◌∙◌, append-nil, rules}
use Rattle.pieces.specs.declared.piece.Piece.{Piece}
use Rattle.asks.proofs.memory.slices.Goals as goal

pub returns-in-Ok-None : goal.returns-in-Ok-None
returns-in-Ok-None g c h =
    let ended = ap (λ (o : Option Piece). Ok o) (sym c.in-Ok-None.field-0-is) ∙ c.in-Ok-None.ensures.answer h in
    (search rules, rw append-nil at (c.loop-piece.invariant h [] None (sym ended)))

pub returns-in-Err : goal.returns-in-Err
returns-in-Err g c h =
    (search rules, rw append-nil at (c.loop-piece.invariant h [] (Some c.into.result) (c.in-Err.error, sym (c.in-Err.ensures.answer h), c.into.ensures)))
