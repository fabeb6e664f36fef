use Rattle.std.proofs.Common.{◌≡◌, ◌++◌, take}
use Rattle.description_parts.specs.Tables.{table_kinds}
use Rattle.slot_plan.specs.Numbered.{numbered}
use Rattle.plan_maker.specs.Reasons.{table_reason}
use Rattle.plan_maker.proofs.reason.push_tables.Given as goal

abbrev pub invariant-loop-t : goal.invariant-loop-t
invariant-loop-t g l = l.reasons.items ≡ l.initial.reasons.items ++ numbered (λ t _. table_reason l.description t) 0 (take l.t (table_kinds l.description))
