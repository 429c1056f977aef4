-- By what `split_once` gives at a blank.
use Rattle.words.proofs.Cuts.{words_cut, words_spaced, less_cut}
use Rattle.words.proofs.cut.Goals as goal

pub returns : goal.returns
returns c = record { words = words_cut _ _ c.split_once.ensures.cases; spaced = words_spaced _; less = less_cut _ _ c.split_once.ensures.cases }
