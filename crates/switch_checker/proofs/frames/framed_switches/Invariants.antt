use Rattle.std.proofs.Common.{◌≡◌, ◌+◌, ◌-◌}
use Rattle.slot_plan.specs.Conditions.{entries_from}
use Rattle.slot_plan.specs.SwitchConditions.{frame_switch_entry}
use Rattle.plan_checker.specs.Failing.{after, search_of}
use Rattle.switch_checker.proofs.frames.framed_switches.Given as goal

abbrev pub invariant-loop-before : goal.invariant-loop-before
invariant-loop-before g l =
    let entry = frame_switch_entry l.plans.description.now l.plans.first.now l.plans.second.now l.i l.stream l.framing in
    after (search_of l.fn.search) (entries_from entry 1 (l.framing.frames - 1))
    ≡ after (search_of l.search) (entries_from entry (l.before + 1) (l.framing.frames - 1 - l.before))
