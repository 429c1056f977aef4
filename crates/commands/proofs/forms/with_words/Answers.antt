-- A sixth word and more after it are too many.
use Rattle.commands.proofs.Lengths.{too_long}
use Rattle.commands.proofs.forms.with_words.Goals as goal

pub returns-in-Some-cut-4 : goal.returns-in-Some-cut-4
returns-in-Some-cut-4 c =
    too_long _ c.args.rest.now _ _ _ _ _ c.in-Some.rest.now c.in-Some-cut.rest.now c.in-Some-cut-2.rest.now c.in-Some-cut-3.rest.now c.in-Some-cut-4.field-0.1.now c.requires
    c.in-Some.ensures.words c.in-Some-cut.ensures.words c.in-Some-cut-2.ensures.words c.in-Some-cut-3.ensures.words c.in-Some-cut-4.ensures.words
