-- One present frame more is one more, and a count is no more than the entries.
use Rattle.std.proofs.Common.{◌≡◌, ℕ, ◌+◌, ◌<◌, not, eqb, length, get_or, take, sym, ap, ◌∙◌, arith, rules, eq-eqb, ne_eqb}
use Rattle.std.specs.List.{count_by}
use Rattle.std.proofs.lemmas.List.{take_all, length-take-le}
use Rattle.std.proofs.lemmas.List.Sums.{count_by-le-length, count_by_more_yes, count_by_more_no}
use Rattle.frames.proofs.Framed.{length_frames}
use Rattle.frames.proofs.memory.FrameMemory.num_regions.Goals as goal
use Rattle.frames.proofs.memory.FrameMemory.num_regions.Goals.{then-entry-ne0, else-entry-ne0}

pub overflow_add-count : goal.overflow_add-count
overflow_add-count c =
    let vs = c.args.self.now.entries.now in
    let i = c.loop-entry.entry-index in
    let l = count_by-le-length (λ v. not (eqb v 0)) (take i vs) in
    let t = length-take-le i vs c.loop-entry.auto.entry-index-end in
    let e : c.loop-entry.count ≡ count_by (λ v. not (eqb v 0)) (take i vs) = c.loop-entry.invariant in
    let b : c.loop-entry.count < length vs = omega arith in
    search rules

pub loop-entry-preserved : goal.loop-entry-preserved
loop-entry-preserved c =
    let vs = c.args.self.now.entries.now in
    let i = c.loop-entry.entry-index in
    elim c.if-entry-ne0.branch [
      | then-entry-ne0 w ↦
          w.count-is ∙ ap (λ (n : ℕ). n + 1) c.loop-entry.invariant ∙ sym (count_by_more_yes (λ v. not (eqb v 0)) vs i 0 c.loop-entry-test.true (ap not (ne_eqb (get_or vs i 0) 0 w.if-entry-ne0.true)))
      | else-entry-ne0 w ↦
          w.count-is ∙ c.loop-entry.invariant ∙ sym (count_by_more_no (λ v. not (eqb v 0)) vs i 0 c.loop-entry-test.true (ap not (eq-eqb (get_or vs i 0) 0 w.if-entry-ne0.false)))
    ]

pub returns : goal.returns
returns c =
    let vs = c.args.self.now.entries.now in
    c.loop-entry.invariant ∙ ap (count_by (λ v. not (eqb v 0))) (take_all c.loop-entry.entry-index vs c.loop-entry-test.false) ∙ length_frames c.args.self.now.base.0 vs
