use Rattle.line_ups.proofs.Numbers.{number_within}
use Rattle.line_ups.proofs.names.slot_with.Goals as goal

pub numbered_slot-requires : goal.numbered_slot-requires
numbered_slot-requires c =
    number_within c.args.description.now c.args.pids.now c.args.pid c.in-Some.number c.number_with.result c.requires c.number_with.ensures c.in-Some.is
