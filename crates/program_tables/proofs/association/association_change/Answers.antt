use Rattle.std.proofs.Common.{◌≡◌, ◌∙◌, sym, true, false, rules}
use Rattle.pid_findings.specs.Shown.{finding_view}
use Rattle.program_tables.proofs.AssociationSteps.{change_later, change_here, change_end}
use Rattle.program_tables.proofs.association.association_change.Goals as goal

pub loop-finding-preserved : goal.loop-finding-preserved
loop-finding-preserved g c =
    let stays : c.is_other.result ≡ false = search rules in
    c.loop-finding.invariant
    ∙ change_later (finding_view {A = g.row.A.Denot}) c.args.association.now c.loop-finding.finding-index c.args.findings.now c.finding-item.result
    c.loop-finding-test.true c.finding-item.is (sym c.is_other.ensures ∙ stays)

pub returns-then-is_other : goal.returns-then-is_other
returns-then-is_other g c =
    let changes : c.is_other.result ≡ true = search rules in
    sym (c.loop-finding.invariant
    ∙ change_here (finding_view {A = g.row.A.Denot}) c.args.association.now c.loop-finding.finding-index c.args.findings.now c.finding-item.result
    c.loop-finding-test.true c.finding-item.is (sym c.is_other.ensures ∙ changes))

pub returns : goal.returns
returns g c =
    sym (c.loop-finding.invariant ∙ change_end (finding_view {A = g.row.A.Denot}) c.args.association.now c.loop-finding.finding-index c.args.findings.now
    c.loop-finding-test.false)
