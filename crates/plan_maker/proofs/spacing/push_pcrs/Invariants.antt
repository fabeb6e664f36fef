use Rattle.std.proofs.Common.{◌≡◌, ◌++◌, take}
use Rattle.slot_plan.specs.Numbered.{numbered}
use Rattle.plan_maker.specs.Spacings.{spaced_clock}
use Rattle.plan_maker.proofs.spacing.push_pcrs.Given as goal

abbrev pub invariant-loop-i : goal.invariant-loop-i
invariant-loop-i g l =
    l.items.items ≡ l.initial.items.items ++ numbered (spaced_clock l.description) 0 (take l.i l.description.programs)
