-- What was read of a line: what the clauses on `LineError` cite. Assumes nothing.
use Rattle.std.specs.Prelude.{Ok, Err, Result, Some, None, Option}
use Rattle.words.specs.declared.LineError.{LineError}
use Rattle.words.specs.declared.LineError.TheVariants.{Malformed, Alloc}

-- P of what was read, and of none where nothing of the kind stands there; where memory ran out it says nothing
abbrev pub IfRead : {T : Type 0} → Result T LineError → (Option T → Type 0) → Type 0
IfRead (Ok x) P = P (Some x)
IfRead (Err Malformed) P = P None
IfRead (Err (Alloc e)) P = Unit {0}
