use Rattle.std.proofs.Common.{◌++◌}
use Rattle.analysis.specs.Analysis.{AnalysisState, IsAnalysed, all_timed, with_events}
use Rattle.analysis.proofs.Analysed.{Going}
use Rattle.analysis.proofs.analyser.Analyser.take_events.Given as goal

abbrev pub invariant-loop-event : goal.invariant-loop-event
invariant-loop-event l =
    (goal.iterator-loop-event).can_next l.event-iterator ×
    (goal.iterator-loop-event).is_finite l.event-iterator ×
    ((s : AnalysisState) → IsAnalysed l.fn.self s →
    Going l.self l.event-iterator.rest.items l.events.items (with_events s l.fn.found.items) (l.fn.events.items ++ all_timed s l.fn.found.items))
