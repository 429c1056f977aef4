use Rattle.std.proofs.Common.{◌≡◌, List, length, drop, Iter, Some, None, sym, ◌∙◌, arith}
use Rattle.std.specs.List.{zip}
use Rattle.std.specs.Slice.Iter.{iter_rest}
use Rattle.std.specs.declared.iter.Zip.{Zip}
use Rattle.std.specs.declared.iter.Skip.{Skip}
use Rattle.std.specs.Iterator.Adapters.{zip_first, zip_second, skip_source, skip_count, skip_steps}
use Rattle.std.proofs.iter.Yields.{fronts}
use Rattle.std.proofs.lemmas.Iterator.{YieldsList, YieldsList-from_slice, YieldsList-from_zip, zips}
use Rattle.std.proofs.lemmas.Iterator.Adapters.{YieldsList-from_skip}
use Rattle.std.proofs.lemmas.Iterator.Consumers.{YieldsList-turn, YieldsList-end}
use Rattle.std.proofs.lemmas.List.{length-map, length-drop, length_push}
use Rattle.std.proofs.lemmas.Result.{err_from_is_err_and}
use Rattle.std.proofs.lemmas.Slice.Zip.{length-zip}
use Rattle.table.proofs.Tables.{pair_turn, pairs_end}
use Rattle.table.proofs.checks.check_neighbours.Goals as goal

pairs : {X : Type 0} (xs : List X) {s : Zip (Iter X) (Skip (Iter X))} → iter_rest (zip_first s) ≡ xs → iter_rest (skip_source (zip_second s)) ≡ xs → skip_count (zip_second s) ≡ 1 → YieldsList (zips fronts (skip_steps fronts)) (λ p. (p.0.now, p.1.now)) s (zip xs (drop 1 xs))
pairs xs a b n = YieldsList-from_zip (YieldsList-from_slice xs a) (YieldsList-from_skip 1 (YieldsList-from_slice xs b) n)

pub loop-left-preserved : goal.loop-left-preserved
loop-left-preserved g c =
    let xs = c.args.table.now in
    let t = YieldsList-turn (pairs xs (cc) (cc) (cc)) c.loop-left.yielded c.loop-left.left-iterator c.loop-left.yielded_by _ c.next.new.self (c.in-Some.left, c.in-Some.right) c.in-Some.is c.next.ensures.steps in
    rw (length_push c.loop-left.yielded (c.in-Some.left, c.in-Some.right)) (sym (pair_turn g.R.AddressRange.range xs _ _ _ None t c.in_ok-check_pair.ensures) ∙ c.loop-left.invariant)

pub returns-in_err-check_pair : goal.returns-in_err-check_pair
returns-in_err-check_pair g c =
    let xs = c.args.table.now in
    let t = YieldsList-turn (pairs xs (cc) (cc) (cc)) c.loop-left.yielded c.loop-left.left-iterator c.loop-left.yielded_by _ c.next.new.self (c.in-Some.left, c.in-Some.right) c.in-Some.is c.next.ensures.steps in
    let p = err_from_is_err_and c.from_residual.result c.from_residual.ensures.1 in
    rw (p.1, p.2) (sym (pair_turn g.R.AddressRange.range xs _ _ _ (Some c.in_err-check_pair.field-0.0) t c.in_err-check_pair.ensures) ∙ c.loop-left.invariant)

pub returns : goal.returns
returns g c =
    let xs = c.args.table.now in
    let t = YieldsList-end (pairs xs (cc) (cc) (cc)) c.loop-left.yielded c.loop-left.left-iterator c.loop-left.yielded_by _ c.next.new.self c.in-None.is c.next.ensures.steps in
    let n = length-map xs g.R.AddressRange.range in
    let d = length-drop 1 xs in
    let z = length-zip xs (drop 1 xs) in
    sym (pairs_end _ (length c.loop-left.yielded) (omega (arith, t.1))) ∙ c.loop-left.invariant
