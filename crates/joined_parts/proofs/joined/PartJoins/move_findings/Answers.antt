use Rattle.std.proofs.Common.{◌∙◌, ap, map, sym, arith}
use Rattle.pid_findings.specs.Shown.{finding_view}
use Rattle.joined_parts.specs.Joined.{all_moved, moved}
use Rattle.stamp_repair.proofs.ChangedFindings.{changed_more, changed_whole}
use Rattle.joined_parts.proofs.joined.PartJoins.move_findings.Goals as goal

pub loop-finding-preserved : goal.loop-finding-preserved
loop-finding-preserved c =
    changed_more finding_view (moved c.args.self.now) c.loop-finding.findings c.loop-finding.finding-index c.finding-item.result c.move_finding.new.finding
    (all_moved c.args.self.now (map finding_view c.args.findings.now)) (omega arith) c.finding-item.is
    (c.move_finding.ensures ∙ ap (λ (f : _). moved c.args.self.now (finding_view f)) (sym c.finding-item.is)) c.loop-finding.invariant

pub returns : goal.returns
returns c =
    changed_whole finding_view (moved c.args.self.now) c.loop-finding.findings c.loop-finding.finding-index
    (all_moved c.args.self.now (map finding_view c.args.findings.now))
    (omega (arith, c.loop-finding-test.false, c.loop-finding.auto.finding-index-end)) c.loop-finding.invariant
