-- A text is idle where each byte is a blank, or where it begins with `#`.
use Rattle.std.proofs.Common.{◌==◌, Bool, ◌||◌, sym, ap, ◌∙◌, lit<, rules, tests}
use Rattle.std.proofs.lemmas.Iterator.Adapters.{YieldsList-from_bytes}
use Rattle.std.proofs.lemmas.Iterator.Search.{all_from_yields_List}
use Rattle.std.proofs.lemmas.Str.Pattern.{starts_char}
use Rattle.words.specs.Words.{comment}
use Rattle.words.proofs.Blanks.{blank_is, comment_is}
use Rattle.words.proofs.is_idle.Goals as goal

pub returns-then-all : goal.returns-then-all
returns-then-all c =
    let s = c.args.text.now in
    let all = all_from_yields_List (λ b. b == 32) _ _ _ c.all.ensures.ran (YieldsList-from_bytes s cc) (λ x b q k. search (rules, tests)) in
    c.if-all.true ∙ sym (ap (λ (b : Bool). b || comment s) (blank_is s ∙ sym all ∙ c.if-all.true))

pub returns-else-all : goal.returns-else-all
returns-else-all c =
    let s = c.args.text.now in
    let all = all_from_yields_List (λ b. b == 32) _ _ _ c.all.ensures.ran (YieldsList-from_bytes s cc) (λ x b q k. search (rules, tests)) in
    comment_is s _ (starts_char 35 s _ c.starts_with.ensures.cases (lit< tt) (lit< tt)) ∙ sym (ap (λ (b : Bool). b || comment s) (blank_is s ∙ sym all ∙ c.if-all.false))
