use Rattle.std.proofs.Common.{List, [], ◌∷◌}
use Rattle.slot_plan.specs.Entries.{Entry}
use Rattle.slot_plan.specs.SwitchConditions.{stream_work_entry, stream_emptied_switch_entries}
use Rattle.plan_checker.proofs.FailingSearch.{then_next}
use Rattle.switch_checker.proofs.work.stream_works.Goals as goal

pub returns : goal.returns
returns g c =
    let s = c.args.stream.now in
    let pair = c.args.plans.now in
    let work : List Entry = stream_work_entry pair.description.now pair.first.now pair.second.now c.args.i s ∷ [] in
    then_next _ _ _ work (stream_emptied_switch_entries pair.description.now pair.first.now pair.second.now c.args.i s s.multiplexing)
    c.stream_work.ensures c.stream_emptied.ensures
