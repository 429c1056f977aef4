-- What a question to a memory is answered. Assumes nothing.
use Rattle.std.specs.Prelude.{◌≡◌, length, Some, None, Option}
use Rattle.region.specs.Grounds.{Ground}
use Rattle.collection.specs.Collections.{highest}
use Rattle.answers.specs.declared.Answer.{Answer}
use Rattle.answers.specs.declared.Answer.TheVariants.{Number, Error}
use Rattle.asks.specs.Asked.{found, Sliced}
use Rattle.survey.specs.declared.question.Question.{Question}
use Rattle.survey.specs.declared.question.Question.TheVariants.{Count, Find, Last, Slices}

-- what a memory answers, by its meaning
abbrev pub Answers : Ground → Question → Answer → Type 0
Answers g Count x = x ≡ Number (length g.regions)
Answers g (Find a) x = x ≡ found g a
Answers g Last x = x ≡ Number (highest g.regions)
Answers g (Slices a n access) x = Sliced g a n access x

-- where there is no memory yet, the answer is an error
abbrev pub AnswersTo : Option Ground → Question → Answer → Type 0
AnswersTo None q x = x ≡ Error
AnswersTo (Some g) q x = Answers g q x
