use Rattle.std.proofs.Common.{List, [], ◌∷◌}
use Rattle.slot_plan.specs.Entries.{Entry}
use Rattle.slot_plan.specs.Conditions.{main_buffer_entry, frame_entries}
use Rattle.plan_checker.proofs.FailingSearch.{then_next}
use Rattle.plan_checker.proofs.main_buffers.main_rooms.Goals as goal

pub returns : goal.returns
returns g c =
    let s = c.args.stream.now in
    let whole : List Entry = main_buffer_entry c.args.plans.now.description.now c.args.plans.now.plan.now c.args.i s ∷ [] in
    then_next _ _ _ whole (frame_entries c.args.plans.now.description.now c.args.plans.now.plan.now c.args.i s s.framing) c.main_room.ensures
    c.frame_rooms.ensures
