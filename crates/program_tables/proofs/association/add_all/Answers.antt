use Rattle.std.proofs.Common.{◌∙◌, sym}
use Rattle.pid_findings.specs.Shown.{finding_view}
use Rattle.program_tables.proofs.AssociationSteps.{entries_more, entries_end}
use Rattle.program_tables.proofs.association.add_all.Goals as goal

pub loop-finding-preserved : goal.loop-finding-preserved
loop-finding-preserved g c =
    c.loop-finding.invariant
    ∙ entries_more (finding_view {A = g.row.A.Denot}) c.args.version c.loop-finding.finding-index c.args.findings.now c.finding-item.result
    c.loop-finding.programs c.add_version.new.programs c.loop-finding-test.true c.finding-item.is c.in_ok-add_version.ensures

pub returns : goal.returns
returns g c =
    sym (c.loop-finding.invariant
    ∙ entries_end (finding_view {A = g.row.A.Denot}) c.args.version c.loop-finding.finding-index c.args.findings.now c.loop-finding.programs
    c.loop-finding-test.false)
