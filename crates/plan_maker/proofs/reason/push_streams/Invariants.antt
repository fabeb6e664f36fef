use Rattle.std.proofs.Common.{◌≡◌, ◌++◌, take}
use Rattle.slot_plan.specs.Numbered.{numbered}
use Rattle.plan_maker.specs.Reasons.{stream_reason}
use Rattle.plan_maker.proofs.reason.push_streams.Given as goal

abbrev pub invariant-loop-i : goal.invariant-loop-i
invariant-loop-i g l = l.reasons.items ≡ l.initial.reasons.items ++ numbered (stream_reason l.description) 0 (take l.i l.description.streams)
