use Rattle.std.proofs.Common.{◌≡◌, ◌++◌}
use Rattle.analysis.specs.Analysis.{all_untimed}
use Rattle.analysis.proofs.analyser.push_untimed.Given as goal

abbrev pub invariant-loop-event : goal.invariant-loop-event
invariant-loop-event l =
    (goal.iterator-loop-event).can_next l.event-iterator ×
    (goal.iterator-loop-event).is_finite l.event-iterator ×
    (l.events.items ++ all_untimed l.event-iterator.rest.items ≡ l.fn.events.items ++ all_untimed l.fn.found.items)
