use Rattle.std.proofs.Common.{◌≡◌, ◌∙◌, sym, true, false, Global, map, List, rules}
use Rattle.psi_tables.specs.declared.pat.programs.Program.{Program}
use Rattle.pid_findings.specs.Shown.{finding_view}
use Rattle.pid_findings.specs.Views.{FindingView}
use Rattle.ts_tables.proofs.MappedPrograms.{mapped_more, mapped_all, not_all}
use Rattle.ts_tables.proofs.mapped.mapped_from.Goals as goal

pub loop-at-preserved : goal.loop-at-preserved
loop-at-preserved c =
    let found : List FindingView = map (finding_view {A = Global}) c.args.findings.now in
    let none : Program = record { program_number = 0; pid = 0 } in
    let has : c.has_map.result ≡ true = search rules in
    mapped_more found c.args.programs.now c.loop-at.at none c.loop-at-test.true (sym c.has_map.ensures ∙ has) c.loop-at.invariant

pub returns-then-not-has_map : goal.returns-then-not-has_map
returns-then-not-has_map c =
    let found : List FindingView = map (finding_view {A = Global}) c.args.findings.now in
    let none : Program = record { program_number = 0; pid = 0 } in
    let has : c.has_map.result ≡ false = search rules in
    not_all found c.args.programs.now c.loop-at.at none c.loop-at-test.true (sym c.has_map.ensures ∙ has) c.loop-at.invariant

pub returns : goal.returns
returns c = mapped_all (map (finding_view {A = Global}) c.args.findings.now) c.args.programs.now c.loop-at.at c.loop-at-test.false c.loop-at.invariant
