use Rattle.std.proofs.Common.{◌≡◌, drop, map}
use Rattle.pid_findings.specs.Shown.{finding_view}
use Rattle.joined_parts.specs.MapStreams.{maps_after, no_maps}
use Rattle.joined_parts.proofs.known_maps.recording_maps.Given as goal

abbrev pub invariant-loop-finding : goal.invariant-loop-finding
invariant-loop-finding l =
    maps_after no_maps (map finding_view l.findings) ≡ maps_after l.maps (map finding_view (drop l.finding-index l.findings))
