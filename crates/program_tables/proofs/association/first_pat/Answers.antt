use Rattle.std.proofs.Common.{◌≡◌, ◌∙◌, ◌+◌, Option, None, option_map, map, drop, sym, ap, rules}
use Rattle.std.specs.Option.{option_or}
use Rattle.psi_tables.specs.ProgramAssociation.{PatView, pat_view}
use Rattle.pid_findings.specs.Shown.{finding_view}
use Rattle.program_tables.specs.Association.{first_pat}
use Rattle.program_tables.proofs.AssociationSteps.{first_more, first_end}
use Rattle.program_tables.proofs.association.first_pat.Goals as goal

pub loop-finding-preserved : goal.loop-finding-preserved
loop-finding-preserved g c =
    let i = c.loop-finding.finding-index in
    let fs = c.args.findings.now in
    let none : c.pat_found.result ≡ None = search rules in
    c.loop-finding.invariant
    ∙ first_more (finding_view {A = g.row.A.Denot}) i fs c.finding-item.result c.loop-finding-test.true c.finding-item.is
    ∙ ap (λ (o : Option PatView). option_or o (first_pat (map (finding_view {A = g.row.A.Denot}) (drop (i + 1) fs))))
    (sym c.pat_found.ensures ∙ ap (option_map pat_view) none)

pub returns-in-Some : goal.returns-in-Some
returns-in-Some g c =
    let i = c.loop-finding.finding-index in
    let fs = c.args.findings.now in
    sym (c.loop-finding.invariant
    ∙ first_more (finding_view {A = g.row.A.Denot}) i fs c.finding-item.result c.loop-finding-test.true c.finding-item.is
    ∙ ap (λ (o : Option PatView). option_or o (first_pat (map (finding_view {A = g.row.A.Denot}) (drop (i + 1) fs))))
    (sym c.pat_found.ensures ∙ ap (option_map pat_view) c.in-Some.is))

pub returns : goal.returns
returns g c =
    sym (c.loop-finding.invariant ∙ first_end (finding_view {A = g.row.A.Denot}) c.loop-finding.finding-index c.args.findings.now c.loop-finding-test.false)
