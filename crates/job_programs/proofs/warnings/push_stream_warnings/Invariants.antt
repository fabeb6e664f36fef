use Rattle.std.proofs.Common.{◌≡◌, ◌++◌, drop, map, flat_map}
use Rattle.pid_findings.specs.Shown.{finding_view}
use Rattle.job_programs.specs.Warnings.{pid_warnings}
use Rattle.job_programs.proofs.warnings.push_stream_warnings.Given as goal

abbrev pub invariant-loop-stream : goal.invariant-loop-stream
invariant-loop-stream l =
    l.fn.warnings.items ++ flat_map (λ s. pid_warnings l.count (map finding_view l.findings) s.pid) l.streams
    ≡ l.warnings.items ++ flat_map (λ s. pid_warnings l.count (map finding_view l.findings) s.pid) (drop l.stream-index l.streams)
