-- The parts of the text are its words, and each is an entry or none.
use Rattle.std.proofs.Common.{lit<, rules}
use Rattle.std.proofs.lemmas.Iterator.Consumers.{YieldsList-at}
use Rattle.std.proofs.lemmas.Iterator.Splits.{YieldsList-from_str_split}
use Rattle.words.proofs.Entries.{read_of, answered}
use Rattle.words.proofs.parse_entries.Goals as goal

pub returns : goal.returns
returns c =
    let parts = YieldsList-from_str_split 32 c.args.text.now (lit< tt) c.split.ensures.text c.split.ensures.has_more c.split.ensures.pattern in
    read_of _ _ _ (λ x r q k. search (rules, answered)) c.args.text.now _ c.map.ensures.closure (YieldsList-at c.map.ensures.source parts) _ c.try_collect.ensures.ran c.try_collect.ensures.err
