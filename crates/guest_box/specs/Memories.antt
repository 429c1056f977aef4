-- What the memory of a box means. Assumes nothing.
use Rattle.std.specs.Prelude.{◌≡◌, ℕ, Bool, true, not, List, map, length, is_some, Some, None, vec_items, Option}
use Rattle.region.specs.Regions.{shown}
use Rattle.region.specs.Slots.{slot_range, slot_place}
use Rattle.region.specs.Grounds.{Ground}
use Rattle.table.specs.declared.error.GuestRegionCollectionError.{GuestRegionCollectionError}
use Rattle.collection.specs.Collections.{edited_fault, make_fault}
use Rattle.frames.specs.Frames.{frames, frames_fault}
use Rattle.region.specs.declared.slot.SlotRegion.{SlotRegion}
use Rattle.table.specs.Refused.{table_refusal}
use Rattle.answers.specs.declared.Answer.{Answer}
use Rattle.answers.specs.declared.Answer.TheVariants.{Number, Refused}
use Rattle.guest_box.specs.declared.memory.Memory.{Memory}
use Rattle.guest_box.specs.declared.memory.Memory.TheVariants.{Absent, Regions, Frames}

-- the parts of a memory, as lists
pub data Held : Type 0 where
  absent : Held
  over : List SlotRegion → Held
  framed : ℕ → List ℕ → Held

abbrev pub held : Memory → Held
held Absent = absent
held (Regions rs) = over (vec_items rs)
held (Frames base vs) = framed base.0 (vec_items vs)

-- a box: its host bytes, the regions to collect, and the parts of its memory
pub record BoxState : Type 0 where
  pub host : List ℕ
  pub pending : List SlotRegion
  pub memory : Held

-- the box with this memory in the place of its own
abbrev pub with_memory : BoxState → Held → BoxState
with_memory b memory = record { host = b.host; pending = b.pending; memory = memory }

-- what collecting the regions is refused for
abbrev pub collect_fault : BoxState → Option GuestRegionCollectionError
collect_fault b = make_fault (length b.host) (map (shown slot_range slot_place) b.pending)

-- what making the memory anew is refused for
abbrev pub memory_fault : ℕ → Held → Option GuestRegionCollectionError
memory_fault host absent = None
memory_fault host (over rs) = edited_fault host (length rs) (map (shown slot_range slot_place) rs)
memory_fault host (framed base vs) = frames_fault host base vs

-- the memory passes the questions that making it anew asks
abbrev pub passes : ℕ → Held → Bool
passes host m = not (is_some (memory_fault host m))

-- what every box carries: its memory passed its questions when it was made, so it does so again
abbrev pub Kept : BoxState → Type 0
Kept b = passes (length b.host) b.memory ≡ true

-- its meaning as a backend
abbrev pub ground_held : ℕ → Held → Option Ground
ground_held host absent = None
ground_held host (over rs) = Some (record { host = host; regions = map (shown slot_range slot_place) rs })
ground_held host (framed base vs) = Some (record { host = host; regions = frames base vs })

-- the number of regions, or the refusal
abbrev pub counted_or_refused : ℕ → Option GuestRegionCollectionError → Answer
counted_or_refused n None = Number n
counted_or_refused n (Some e) = Refused (table_refusal e)

-- a refusal leaves the memory that was there
abbrev pub held_if : Option GuestRegionCollectionError → Held → Held → Held
held_if None new old = new
held_if (Some e) new old = old
