use Rattle.std.proofs.Common.{◌≡◌, ℕ, ◌-◌, ◌*◌, ◌/◌, ◌%◌, ◌≤◌, Bool, cond, length, None, Some, sym, ap, ◌∙◌, arith, rules, ne_eqb}
use Rattle.std.proofs.lemmas.Bool.Decides.{nat_tests}
use Rattle.frames.specs.Frames.{frame}
use Rattle.frames.proofs.Framed.{below_frames, past_entries, at_entry, below_base}
use Rattle.frames.proofs.frames.FrameMemoryGuestMemoryBackend.region_at.Goals as goal

pub returns-in_err-offset : goal.returns-in_err-offset
returns-in_err-offset c _ =
    let m = c.args.self.now in
    rw c.from_residual.ensures (sym (below_frames m.base.0 m.entries.now c.args.addr.0 (below_base c.args.addr.0 m.base.0 c.in_err-offset.ensures)))

pub returns-in_err-entry : goal.returns-in_err-entry
returns-in_err-entry c _ =
    let m = c.args.self.now in
    let l : length m.entries.now ≤ c.in_ok-offset.offset / 4096 = grind (arith, nat_tests, c.in_err-entry.ensures.lookup) in
    rw c.from_residual-in_err-entry.ensures (sym (past_entries m.base.0 m.entries.now c.args.addr.0 c.in_ok-offset.offset c.in_ok-offset.ensures l))

pub returns-then-entry-eq0 : goal.returns-then-entry-eq0
returns-then-entry-eq0 c _ =
    let m = c.args.self.now in
    sym (at_entry m.base.0 m.entries.now c.args.addr.0 c.in_ok-offset.offset 0 c.in_ok-offset.ensures (search rules) (search rules))

pub returns : goal.returns
returns c _ =
    let m = c.args.self.now in
    let v = c.in_ok-entry.field-0.now in
    let start : ℕ = c.args.addr.0 - c.in_ok-offset.offset % 4096 in
    let p : 4096 * (v - 1) ≡ c.host_end.result - 4096 = omega arith in
    sym (at_entry m.base.0 m.entries.now c.args.addr.0 c.in_ok-offset.offset v c.in_ok-offset.ensures (search rules) (search rules)
    ∙ ap (λ (b : Bool). cond b None (Some (frame start v))) (ne_eqb v 0 c.if-entry-eq0.false)
    ∙ ap (λ (q : ℕ). Some (record { start = start; len = 4096; place = Some q })) p)
