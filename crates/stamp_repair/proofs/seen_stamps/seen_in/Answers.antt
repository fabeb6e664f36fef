use Rattle.std.proofs.Common.{◌≡◌, ◌∙◌, rules}
use Rattle.pid_findings.specs.Shown.{finding_view}
use Rattle.stamp_repair.specs.DataTimes.{data_pts, seen_by}
use Rattle.stamp_repair.proofs.PassedFindings.{seen_all, seen_next}
use Rattle.stamp_repair.proofs.seen_stamps.seen_in.Goals as goal

pub loop-finding-preserved : goal.loop-finding-preserved
loop-finding-preserved c =
    let x = c.finding-item.result in
    let made : c.take.new.self ≡ seen_by c.loop-finding.seen (finding_view x).pid (data_pts (finding_view x).what) = search rules in
    c.loop-finding.invariant
    ∙ seen_next finding_view c.loop-finding.seen c.take.new.self c.args.findings.now c.loop-finding.finding-index x c.loop-finding-test.true c.finding-item.is
    made

pub returns : goal.returns
returns c =
    seen_all finding_view c.loop-finding.seen _ c.args.findings.now c.loop-finding.finding-index c.loop-finding-test.false c.loop-finding.invariant
