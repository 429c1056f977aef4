-- What is answered where a question has no answer of its own. Assumes nothing.
use Rattle.std.specs.Prelude.{IfOk, Ok, Err, Result}
use Rattle.std.specs.declared.alloc.AllocError.{AllocError}
use Rattle.answers.specs.declared.Answer.{Answer}
use Rattle.answers.specs.declared.Answer.TheVariants as answer
use Rattle.answers.specs.declared.failure.Failure.{Failure}
use Rattle.answers.specs.declared.failure.Failure.TheVariants.{Error, Refused, Alloc}

-- a refusal and an error are answers too; want of memory has none
abbrev pub settled : Result Answer Failure → Result Answer AllocError
settled (Ok x) = Ok x
settled (Err Error) = Ok answer.Error
settled (Err (Refused r)) = Ok (answer.Refused r)
settled (Err (Alloc e)) = Err e

-- what holds of the answer, that of a refusal or an error included, if there is one
abbrev pub Settles : Result Answer Failure → (Answer → Type 0) → Type 0
Settles r P = IfOk (settled r) P
