-- What a line of a script is answered, and the box that it leaves. Assumes nothing.
use Rattle.std.specs.Prelude.{◌≡◌, ℕ, List, Some, None, Option, Ok, Err, Result}
use Rattle.answers.specs.declared.Answer.{Answer}
use Rattle.answers.specs.declared.Answer.TheVariants.{Error}
use Rattle.commands.specs.Commands.{Tells}
use Rattle.commands.specs.declared.Command.{Command}
use Rattle.guest_box.specs.Memories.{BoxState}
use Rattle.commands.specs.declared.LineError.{LineError}
use Rattle.commands.specs.declared.LineError.TheVariants.{Malformed, Alloc}
use Rattle.exchange.specs.Performs.{Performs}

-- a line that asks for nothing is not answered, one that is no command is an error, a command is
-- performed, and want of memory is no answer
abbrev pub AnswersReading : Result (Option Command) LineError → Option BoxState → Option Answer → Option BoxState → Type 0
AnswersReading (Ok None) before o after = (o ≡ None) × (after ≡ before)
AnswersReading (Err Malformed) before o after = (o ≡ Some Error) × (after ≡ before)
AnswersReading (Ok (Some c)) before (Some x) after = Performs before c x after
AnswersReading (Ok (Some c)) before None after = ⊥
AnswersReading (Err (Alloc e)) before o after = ⊥

-- what the line is read as, and the answer to that
abbrev pub AnswersLine : List ℕ → Option BoxState → Option Answer → Option BoxState → Type 0
AnswersLine line before o after = (reading : Result (Option Command) LineError) × Tells reading line × AnswersReading reading before o after
