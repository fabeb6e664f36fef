use Rattle.std.proofs.Common.{◌<◌, length, arith}
use Rattle.line_ups.proofs.Numbers.{has_room}
use Rattle.line_ups.proofs.names.slot_pids.Goals as goal

pub push-requires : goal.push-requires
push-requires c =
    let more : c.loop-number.number < 451 = omega (arith, c.loop-number-test.true, c.slot_count-number-end.ensures.few) in
    let room : length c.loop-number.pids.items < 451 =
    has_room c.args.description.now c.loop-number.pids.items c.loop-number.number c.loop-number.invariant more in
    (omega arith, room)
