use Rattle.std.proofs.Common.{◌≡◌, ◌++◌, List, map, drop}
use Rattle.pid_findings.specs.Views.{FindingView}
use Rattle.stream_programs.specs.PesCounts.{AreCounts}
use Rattle.job_programs.specs.Warnings.{stray_warning}
use Rattle.job_programs.proofs.warnings.push_strays.Given as goal

abbrev pub invariant-loop-pid : goal.invariant-loop-pid
invariant-loop-pid l =
    (findings : List FindingView) → AreCounts l.counts findings →
    l.warnings.items ++ map (stray_warning findings) (drop l.pid-index l.pids) ≡ l.initial.warnings.items ++ map (stray_warning findings) l.pids
