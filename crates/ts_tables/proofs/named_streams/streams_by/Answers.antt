use Rattle.std.proofs.Common.{◌≡◌, ◌∙◌, Global, map, List, Some, ap, sym, true, false, rules}
use Rattle.psi_tables.specs.declared.pat.programs.Program.{Program}
use Rattle.pid_findings.specs.Shown.{finding_view}
use Rattle.pid_findings.specs.Views.{FindingView}
use Rattle.stream_programs.specs.Programs.{FoundProgramsView, programs_of}
use Rattle.ts_tables.proofs.MappedPrograms.{known_streams}
use Rattle.ts_tables.proofs.named_streams.streams_by.Goals as goal

pub returns-then-not-is_known : goal.returns-then-not-is_known
returns-then-not-is_known c =
    let found : List FindingView = map (finding_view {A = Global}) c.args.findings.now in
    let t : c.is_known.result ≡ false = search rules in
    known_streams c.args.last c.args.tables.now found c.args.mapped c.requires.tables.known c.requires.all false (sym t ∙ c.is_known.ensures)

pub returns : goal.returns
returns c =
    let found : List FindingView = map (finding_view {A = Global}) c.args.findings.now in
    let t : c.is_known.result ≡ true = search rules in
    ap (λ (streams : FoundProgramsView). Some streams)
    (c.in_ok-found_programs.ensures ∙ ap (λ (ps : List Program). programs_of ps found) c.programs.ensures)
    ∙ known_streams c.args.last c.args.tables.now found c.args.mapped c.requires.tables.known c.requires.all true (sym t ∙ c.is_known.ensures)
