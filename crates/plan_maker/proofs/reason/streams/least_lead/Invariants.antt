use Rattle.std.proofs.Common.{◌≡◌, ◌+◌}
use Rattle.own_slots.specs.Extremes.{greatest}
use Rattle.plan_maker.specs.Reasons.{units_lead}
use Rattle.plan_maker.proofs.reason.streams.least_lead.Given as goal

abbrev pub invariant-loop-before : goal.invariant-loop-before
invariant-loop-before l = l.least ≡ greatest l.before (λ before. units_lead l.description l.stream (before + 1))
