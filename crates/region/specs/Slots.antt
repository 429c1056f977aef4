-- What RAM and a slot mean, cited by src/slot.rt. Assumes nothing.
use Rattle.std.specs.Prelude.{ℕ, Some, None, Option}
use Rattle.region.specs.Ranges.{Range}
use Rattle.region.specs.declared.slot.RamRegion.{RamRegion}
use Rattle.region.specs.declared.slot.SlotRegion.{SlotRegion}
use Rattle.region.specs.declared.slot.SlotRegion.TheVariants.{Ram, Window}

-- RAM: its addresses, and its place in the host buffer, which it always has
abbrev pub ram_range : RamRegion → Range
ram_range r = record { start = r.start.0; len = r.len }

abbrev pub ram_place : RamRegion → Option ℕ
ram_place r = Some r.place

-- a slot is RAM or a window
abbrev pub slot_range : SlotRegion → Range
slot_range (Ram r) = ram_range r
slot_range (Window start len) = record { start = start.0; len = len }

-- a window has no host memory
abbrev pub slot_place : SlotRegion → Option ℕ
slot_place (Ram r) = ram_place r
slot_place (Window start len) = None
