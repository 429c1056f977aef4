use Rattle.std.proofs.Common.{map}
use Rattle.region.specs.Regions.{shown}
use Rattle.region.specs.Grounds.{AllSound}
use Rattle.table.proofs.checks.first_unsound_index.Given as goal

abbrev pub invariant-loop-i : goal.invariant-loop-i
invariant-loop-i g l = AllSound l.host_len (map (shown g.R.AddressRange.range g.R.GuestMemoryRegion.place) l.table) l.i
