use Rattle.std.proofs.Common.{◌≡◌, ◌++◌, map, flat_map}
use Rattle.pid_findings.specs.Shown.{finding_view}
use Rattle.job_units.specs.WireStreams.{carried_stream, carried_streams, left_out_warnings}
use Rattle.job_units.proofs.wire_streams.carried_streams.Given as goal

abbrev pub invariant-loop-stream : goal.invariant-loop-stream
invariant-loop-stream l =
    (goal.iterator-loop-stream).can_next l.stream-iterator ×
    (goal.iterator-loop-stream).is_finite l.stream-iterator ×
    (carried_streams l.options (map finding_view l.findings) l.fn.selected.items
    ≡ l.streams.items ++ flat_map (carried_stream l.options (map finding_view l.findings)) l.stream-iterator.rest.items) ×
    (l.fn.warnings.items ++ flat_map (left_out_warnings l.options l.count (map finding_view l.findings)) l.fn.selected.items
    ≡ l.warnings.items ++ flat_map (left_out_warnings l.options l.count (map finding_view l.findings)) l.stream-iterator.rest.items)
