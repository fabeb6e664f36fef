use Rattle.std.proofs.Common.{◌≡◌, ◌∙◌, rules}
use Rattle.pid_findings.specs.Shown.{finding_view}
use Rattle.stamp_repair.specs.LoneStamps.{with_finding}
use Rattle.stamp_repair.proofs.SearchSteps.{search_all, search_next}
use Rattle.stamp_repair.proofs.search.searched.Goals as goal

pub loop-finding-preserved : goal.loop-finding-preserved
loop-finding-preserved c =
    let x = c.finding-item.result in
    let made : c.take.new.self ≡ with_finding c.loop-finding.search (finding_view x) = search rules in
    c.loop-finding.invariant
    ∙ search_next finding_view c.loop-finding.search c.take.new.self c.args.findings.now c.loop-finding.finding-index x c.loop-finding-test.true
    c.finding-item.is made

pub returns : goal.returns
returns c =
    search_all finding_view c.loop-finding.search _ c.args.findings.now c.loop-finding.finding-index c.loop-finding-test.false c.loop-finding.invariant
