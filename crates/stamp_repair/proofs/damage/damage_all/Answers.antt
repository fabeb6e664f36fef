use Rattle.std.proofs.Common.{◌∙◌, ap, map, sym, arith}
use Rattle.pid_findings.specs.Shown.{finding_view}
use Rattle.stamp_repair.specs.LoneStamps.{damaged}
use Rattle.stamp_repair.proofs.ChangedFindings.{changed_more, changed_whole}
use Rattle.stamp_repair.proofs.damage.damage_all.Goals as goal

pub loop-finding-preserved : goal.loop-finding-preserved
loop-finding-preserved c =
    changed_more finding_view (damaged c.args.lone.now) c.loop-finding.findings c.loop-finding.finding-index c.finding-item.result
    c.damage.new.finding (map (damaged c.args.lone.now) (map finding_view c.args.findings.now)) (omega arith) c.finding-item.is
    (c.damage.ensures ∙ ap (λ (f : _). damaged c.args.lone.now (finding_view f)) (sym c.finding-item.is)) c.loop-finding.invariant

pub returns : goal.returns
returns c =
    changed_whole finding_view (damaged c.args.lone.now) c.loop-finding.findings c.loop-finding.finding-index
    (map (damaged c.args.lone.now) (map finding_view c.args.findings.now))
    (omega (arith, c.loop-finding-test.false, c.loop-finding.auto.finding-index-end)) c.loop-finding.invariant
