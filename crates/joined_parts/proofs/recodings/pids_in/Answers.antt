use Rattle.std.proofs.Common.{◌≡◌, ◌∙◌, rules}
use Rattle.pid_findings.specs.Shown.{finding_view}
use Rattle.joined_parts.specs.Recodings.{with_pids_of}
use Rattle.joined_parts.proofs.MapLists.{pids_all, pids_next}
use Rattle.joined_parts.proofs.recodings.pids_in.Goals as goal

pub loop-finding-preserved : goal.loop-finding-preserved
loop-finding-preserved c =
    let x = c.finding-item.result in
    let made : c.add_pids_of.new.pids ≡ with_pids_of c.loop-finding.pids (finding_view x) = search rules in
    c.loop-finding.invariant
    ∙ pids_next finding_view c.loop-finding.pids c.add_pids_of.new.pids c.args.findings.now c.loop-finding.finding-index x c.loop-finding-test.true
    c.finding-item.is made

pub returns : goal.returns
returns c =
    pids_all finding_view c.loop-finding.pids _ c.args.findings.now c.loop-finding.finding-index c.loop-finding-test.false c.loop-finding.invariant
