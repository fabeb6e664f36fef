use Rattle.std.proofs.Common.{◌≡◌, ◌∙◌, rules}
use Rattle.pid_findings.specs.Shown.{finding_view}
use Rattle.joined_parts.specs.MapStreams.{with_finding}
use Rattle.joined_parts.proofs.MapLists.{maps_all, maps_next}
use Rattle.joined_parts.proofs.known_maps.recording_maps.Goals as goal

pub loop-finding-preserved : goal.loop-finding-preserved
loop-finding-preserved c =
    let x = c.finding-item.result in
    let made : c.take.new.self ≡ with_finding c.loop-finding.maps (finding_view x) = search rules in
    c.loop-finding.invariant
    ∙ maps_next finding_view c.loop-finding.maps c.take.new.self c.args.findings.now c.loop-finding.finding-index x c.loop-finding-test.true c.finding-item.is
    made

pub returns : goal.returns
returns c =
    maps_all finding_view c.loop-finding.maps _ c.args.findings.now c.loop-finding.finding-index c.loop-finding-test.false c.loop-finding.invariant
