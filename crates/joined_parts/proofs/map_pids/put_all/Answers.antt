use Rattle.std.proofs.Common.{◌∙◌, ap, map, sym, arith}
use Rattle.pid_findings.specs.Shown.{finding_view}
use Rattle.joined_parts.specs.MapPids.{with_own_pid}
use Rattle.stamp_repair.proofs.ChangedFindings.{changed_more, changed_whole}
use Rattle.joined_parts.proofs.map_pids.put_all.Goals as goal

pub loop-finding-preserved : goal.loop-finding-preserved
loop-finding-preserved c =
    changed_more finding_view (with_own_pid c.args.pids.now.entries) c.loop-finding.findings c.loop-finding.finding-index c.finding-item.result
    c.put_on_own.new.finding (map (with_own_pid c.args.pids.now.entries) (map finding_view c.args.findings.now)) (omega arith) c.finding-item.is
    (c.put_on_own.ensures ∙ ap (λ (f : _). with_own_pid c.args.pids.now.entries (finding_view f)) (sym c.finding-item.is)) c.loop-finding.invariant

pub returns : goal.returns
returns c =
    changed_whole finding_view (with_own_pid c.args.pids.now.entries) c.loop-finding.findings c.loop-finding.finding-index
    (map (with_own_pid c.args.pids.now.entries) (map finding_view c.args.findings.now))
    (omega (arith, c.loop-finding-test.false, c.loop-finding.auto.finding-index-end)) c.loop-finding.invariant
