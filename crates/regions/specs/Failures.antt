-- What a failed edit of the regions is told as. Assumes nothing.
use Rattle.table.specs.Refused.{table_refusal}
use Rattle.answers.specs.declared.failure.Failure.{Failure}
use Rattle.answers.specs.declared.failure.Failure.TheVariants as failure
use Rattle.regions.specs.declared.error.EditError.{EditError}
use Rattle.regions.specs.declared.error.EditError.TheVariants.{Refused, Alloc}

-- a refusal as it is listed, and want of memory
abbrev pub edit_failure : EditError → Failure
edit_failure (Refused e) = failure.Refused (table_refusal e)
edit_failure (Alloc e) = failure.Alloc e
