use Rattle.std.proofs.Common.{◌≡◌, All, map}
use Rattle.pid_findings.specs.Shown.{finding_view}
use Rattle.job_programs.specs.Answers.{each}
use Rattle.job_units.specs.Moments.{moved_by, timed_stream}
use Rattle.job_programs.proofs.Each.{after}
use Rattle.job_units.proofs.moved_streams.each_moved.Given as goal
use Rattle.job_programs.specs.FoundUnits.{IsCarried, IsMoved}

abbrev pub invariant-loop-stream : goal.invariant-loop-stream
invariant-loop-stream l =
    (goal.iterator-loop-stream).can_next l.stream-iterator ×
    (goal.iterator-loop-stream).is_finite l.stream-iterator ×
    All (IsCarried l.make_dts (map finding_view l.findings)) l.stream-iterator.rest.items ×
    All (IsMoved l.make_dts (map finding_view l.findings)) (map (timed_stream (map finding_view l.findings)) l.moved.items) ×
    (each (moved_by (map finding_view l.findings) l.earliest l.programs l.firsts) l.fn.streams.items
    ≡ after (map (timed_stream (map finding_view l.findings)) l.moved.items)
    (each (moved_by (map finding_view l.findings) l.earliest l.programs l.firsts) l.stream-iterator.rest.items))
