-- Each turn looks at the middle range: its start and its end tell which half is left.
use Rattle.std.proofs.Common.{ℕ, ◌+◌, ◌-◌, ◌/◌, ◌<◌, map, length, sym, arith}
use Rattle.std.proofs.lemmas.List.{length-map}
use Rattle.region.specs.Grounds.{range_at}
use Rattle.table.proofs.Tables.{start_read, len_read, above, below, covers_here, found_at, found_none}
use Rattle.table.proofs.search.find_index.Goals as goal

pub loop-low-preserved-then-addr-start : goal.loop-low-preserved-then-addr-start
loop-low-preserved-then-addr-start g c =
    let f = g.R.AddressRange.range in
    let xs = map f c.args.table.now in
    let mid : ℕ = c.loop-low.low + (c.loop-low.high - c.loop-low.low) / 2 in
    let lt : mid < length c.args.table.now = omega arith in
    let s = start_read f c.args.table.now mid c.index-table-mid.result lt c.index-table-mid.is c.start_addr-start.result.0 c.start_addr-start.ensures in
    (omega arith, omega arith, λ q. ((c.loop-low.invariant.2 q).0, above xs (length c.args.table.now) q c.args.addr.0 mid (omega arith)))

pub returns-then-addr-start-2 : goal.returns-then-addr-start-2
returns-then-addr-start-2 g c =
    let f = g.R.AddressRange.range in
    let xs = map f c.args.table.now in
    let mid : ℕ = c.loop-low.low + (c.loop-low.high - c.loop-low.low) / 2 in
    let lt : mid < length c.args.table.now = omega arith in
    let s = start_read f c.args.table.now mid c.index-table-mid.result lt c.index-table-mid.is c.start_addr-start.result.0 c.start_addr-start.ensures in
    let n = len_read f c.args.table.now mid c.index-table-mid.result lt c.index-table-mid.is c.len.result c.len.ensures in
    let m = length-map c.args.table.now f in
    record { within = omega arith; exact = λ q. sym (found_at xs (length c.args.table.now) m q mid c.args.addr.0 lt (covers_here (range_at xs mid) c.args.addr.0 (omega arith) (omega arith))) }

pub loop-low-preserved : goal.loop-low-preserved
loop-low-preserved g c =
    let f = g.R.AddressRange.range in
    let xs = map f c.args.table.now in
    let mid : ℕ = c.loop-low.low + (c.loop-low.high - c.loop-low.low) / 2 in
    let lt : mid < length c.args.table.now = omega arith in
    let s = start_read f c.args.table.now mid c.index-table-mid.result lt c.index-table-mid.is c.start_addr-start.result.0 c.start_addr-start.ensures in
    let n = len_read f c.args.table.now mid c.index-table-mid.result lt c.index-table-mid.is c.len.result c.len.ensures in
    (omega arith, omega arith, λ q. (below xs (length c.args.table.now) q c.args.addr.0 mid (omega arith) (omega arith) (omega arith), (c.loop-low.invariant.2 q).1))

pub returns : goal.returns
returns g c =
    let xs = map g.R.AddressRange.range c.args.table.now in
    let m = length-map c.args.table.now g.R.AddressRange.range in
    record { within = tt; exact = λ q. sym (found_none xs c.loop-low.low c.args.addr.0 (c.loop-low.invariant.2 q).0 (λ k h l. (c.loop-low.invariant.2 q).1 k (omega arith) (omega arith))) }
