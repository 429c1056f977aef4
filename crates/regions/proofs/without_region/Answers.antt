-- The collection is made from the whole table, and the new regions are what is left in the second one.
use Rattle.std.proofs.Common.{◌≡◌, min, length, drop, vec_len, ◌∙◌, arith}
use Rattle.std.proofs.lemmas.List.{take_all}
use Rattle.regions.proofs.Edited.{cut_off, removal_made}
use Rattle.regions.proofs.without_region.Goals as goal

pub returns : goal.returns
returns c h =
    let xs = c.args.table.now in
    let made = c.in_ok-collection.ensures in
    let before = c.as_mut_slice.result.now in
    let after = c.remove_region.new.dest in
    let n : length before ≡ min c.args.room (length xs) = c.as_mut_slice.ensures.len ∙ c.in_ok-dest.ensures in
    let q = rw (made.answer.1, take_all (length xs) xs (omega arith), made.answer.2) at c.in_ok-count.ensures.exact in
    let k : length after ≡ vec_len c.in_ok-dest.dest = c.remove_region.auto.dest ∙ c.as_mut_slice.ensures.len in
    removal_made c.args.host_len c.args.room xs c.args.start c.args.len before after c.in_ok-count.count c.in_ok-count.removed c.truncate.new.self n q
    (c.truncate.ensures.items ∙ cut_off c.in_ok-count.count (vec_len c.in_ok-dest.dest) after (drop (length after) c.in_ok-dest.dest.items) k)
