-- The frames present so far are counted.
use Rattle.std.proofs.Common.{◌≡◌, not, eqb, take}
use Rattle.std.specs.List.{count_by}
use Rattle.frames.proofs.memory.FrameMemory.num_regions.Given as goal

abbrev pub invariant-loop-entry : goal.invariant-loop-entry
invariant-loop-entry l = l.count ≡ count_by (λ v. not (eqb v 0)) (take l.entry-index l.self.entries.now)
