use Rattle.std.proofs.Common.{map, sym, ap, ◌∙◌}
use Rattle.region.specs.Regions.{shown}
use Rattle.table.specs.Questions.{neighbours}
use Rattle.table.proofs.Made.{ranges, fault_none}
use Rattle.table.proofs.checks.check_table.Goals as goal

pub returns-in-None : goal.returns-in-None
returns-in-None g c =
    let range = g.R.AddressRange.range in
    let place = g.R.GuestMemoryRegion.place in
    fault_none _ (map (shown range place) c.args.table.now) _ c.in-None.ensures (c.check_neighbours.ensures ∙ ap neighbours (sym (ranges range place c.args.table.now)))
