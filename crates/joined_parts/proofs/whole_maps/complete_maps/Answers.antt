use Rattle.std.proofs.Common.{◌∙◌, ap, map, sym, arith}
use Rattle.pid_findings.specs.Shown.{finding_view}
use Rattle.joined_parts.specs.WholeMaps.{with_whole_map}
use Rattle.stamp_repair.proofs.ChangedFindings.{changed_more, changed_whole}
use Rattle.joined_parts.proofs.whole_maps.complete_maps.Goals as goal

pub loop-finding-preserved : goal.loop-finding-preserved
loop-finding-preserved c =
    changed_more finding_view (with_whole_map c.args.maps.now) c.loop-finding.findings c.loop-finding.finding-index c.finding-item.result
    c.complete_map.new.finding (map (with_whole_map c.args.maps.now) (map finding_view c.args.findings.now)) (omega arith) c.finding-item.is
    (c.in_ok-complete_map.ensures ∙ ap (λ (f : _). with_whole_map c.args.maps.now (finding_view f)) (sym c.finding-item.is)) c.loop-finding.invariant

pub returns : goal.returns
returns c =
    changed_whole finding_view (with_whole_map c.args.maps.now) c.loop-finding.findings c.loop-finding.finding-index
    (map (with_whole_map c.args.maps.now) (map finding_view c.args.findings.now))
    (omega (arith, c.loop-finding-test.false, c.loop-finding.auto.finding-index-end)) c.loop-finding.invariant
