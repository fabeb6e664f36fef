use Rattle.std.proofs.Common.{◌≡◌, ◌++◌, map}
use Rattle.job_inputs.specs.RenumberedInputs.{event_with}
use Rattle.job_inputs.proofs.renumbered_inputs.push_events.Given as goal

abbrev pub invariant-loop-event : goal.invariant-loop-event
invariant-loop-event l =
    (goal.iterator-loop-event).can_next l.event-iterator ×
    (goal.iterator-loop-event).is_finite l.event-iterator ×
    (l.events.items ++ map (event_with l.numbers) l.event-iterator.rest.items ≡ l.initial.events.items ++ map (event_with l.numbers) l.fn.found.items)
