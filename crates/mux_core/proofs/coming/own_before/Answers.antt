use Rattle.std.proofs.Common.{◌≡◌, ◌+◌, ◌*◌, ◌/◌, arith}
use Rattle.own_slots.specs.Slots.{own_before}
use Rattle.own_slots.specs.Period.{own}
use Rattle.slot_plan.specs.Items.{marks}
use Rattle.mux_core.proofs.ComingTables.{own_before_split, own_before_small}
use Rattle.mux_core.proofs.coming.own_before.Goals as goal

pub overflow_add-result : goal.overflow_add-result
overflow_add-result c =
    let whole : c.args.until / c.len-period.result * c.own_count.result + c.own_among.result ≡ own_before (own (marks c.args.item c.args.slots.now)) c.args.until =
    rw (c.own_among.ensures, c.own_count.ensures.count, c.len-period.ensures) (own_before_split c.args.item c.args.slots.now c.args.until c.requires) in
    record { fits = omega (arith, whole, own_before_small (own (marks c.args.item c.args.slots.now)) c.args.until, c.ranges.until.fits) }

pub returns : goal.returns
returns c = rw (c.own_among.ensures, c.own_count.ensures.count, c.len-period.ensures) (own_before_split c.args.item c.args.slots.now c.args.until c.requires)
