use Rattle.std.proofs.Common.{◌≡◌, ◌++◌, take}
use Rattle.slot_plan.specs.Numbered.{numbered}
use Rattle.plan_maker.specs.Reasons.{pcr_reason}
use Rattle.plan_maker.proofs.reason.push_pcrs.Given as goal

abbrev pub invariant-loop-i : goal.invariant-loop-i
invariant-loop-i g l = l.reasons.items ≡ l.initial.reasons.items ++ numbered (pcr_reason l.description) 0 (take l.i l.description.programs)
