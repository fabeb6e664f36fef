use Rattle.std.proofs.Common.{◌≡◌, None}
use Rattle.plan_maker.specs.FirstNumbers.{first_of}
use Rattle.plan_maker.specs.PlainPlan.{is_free}
use Rattle.plan_maker.proofs.free_slots.first_free.Given as goal

abbrev pub invariant-loop-first : goal.invariant-loop-first
invariant-loop-first l = first_of l.first (is_free l.slots l.spacing) ≡ None
