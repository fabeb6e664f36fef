use Rattle.std.proofs.Common.{◌≡◌, length, map}
use Rattle.pid_findings.specs.Shown.{finding_view}
use Rattle.es_units.specs.PidPlaces.{pids_in}
use Rattle.job_units.proofs.TakenStreams.{OthersLeft, Taken, pids_of}
use Rattle.job_units.proofs.timed_streams.timed_streams.Given as goal
use Rattle.job_units.specs.Moments.{timed_stream}

abbrev pub invariant-streams : goal.invariant-streams
invariant-streams l = record {
  taken : Taken (map finding_view l.fn.findings) (map finding_view l.findings) l.later l.left.items
      (map (timed_stream (map finding_view l.fn.findings)) l.initial.left.items) l.timed.items;
  others : OthersLeft (pids_of l.initial.left.items) l.later (map finding_view l.fn.findings) (map finding_view l.findings);
  pids : pids_in (map finding_view l.findings) ≡ pids_in (map finding_view l.fn.findings);
}

abbrev pub decreases-streams : goal.decreases-streams
decreases-streams l = length l.left.items
