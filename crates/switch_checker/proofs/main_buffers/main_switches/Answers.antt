use Rattle.std.proofs.Common.{List, [], ◌∷◌}
use Rattle.slot_plan.specs.Entries.{Entry}
use Rattle.slot_plan.specs.SwitchConditions.{main_switch_entry, frame_switch_entries}
use Rattle.plan_checker.proofs.FailingSearch.{then_next}
use Rattle.switch_checker.proofs.main_buffers.main_switches.Goals as goal

pub returns : goal.returns
returns g c =
    let s = c.args.stream.now in
    let pair = c.args.plans.now in
    let whole : List Entry = main_switch_entry pair.description.now pair.first.now pair.second.now c.args.i s ∷ [] in
    then_next _ _ _ whole (frame_switch_entries pair.description.now pair.first.now pair.second.now c.args.i s s.framing) c.main_switch.ensures
    c.frame_switches.ensures
