use Rattle.std.proofs.Common.{◌≡◌, ◌+◌, ◌-◌}
use Rattle.slot_plan.specs.Conditions.{entries_from, frame_entry}
use Rattle.plan_checker.specs.Failing.{after, search_of}
use Rattle.plan_checker.proofs.frames.framed_rooms.Given as goal

abbrev pub invariant-loop-before : goal.invariant-loop-before
invariant-loop-before g l =
    let entry = frame_entry l.plans.description.now l.plans.plan.now l.i l.stream l.framing in
    after (search_of l.fn.search) (entries_from entry 1 (l.framing.frames - 1))
    ≡ after (search_of l.search) (entries_from entry (l.before + 1) (l.framing.frames - 1 - l.before))
