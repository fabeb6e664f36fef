use Rattle.std.proofs.Common.{◌∙◌, sym}
use Rattle.pid_findings.specs.Shown.{finding_view}
use Rattle.stream_programs.proofs.StrayPids.{strays_more, strays_end}
use Rattle.stream_programs.proofs.strays.push_strays.Goals as goal

pub loop-finding-preserved : goal.loop-finding-preserved
loop-finding-preserved g c =
    c.loop-finding.invariant
    ∙ strays_more (finding_view {A = g.row.A.Denot}) c.args.known.now c.loop-finding.finding-index c.args.findings.now c.finding-item.result
    c.loop-finding.found c.push_stray.new.found c.loop-finding-test.true c.finding-item.is c.in_ok-push_stray.ensures

pub returns : goal.returns
returns g c =
    sym (c.loop-finding.invariant
    ∙ strays_end (finding_view {A = g.row.A.Denot}) c.args.known.now c.loop-finding.finding-index c.args.findings.now c.loop-finding.found
    c.loop-finding-test.false)
