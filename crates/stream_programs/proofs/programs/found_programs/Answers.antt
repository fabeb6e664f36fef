use Rattle.std.proofs.Common.{◌∙◌, sym, map}
use Rattle.pid_findings.specs.Shown.{finding_view}
use Rattle.stream_programs.specs.Programs.{programs_of}
use Rattle.stream_programs.proofs.ProgramSteps.{programs_more, programs_end}
use Rattle.stream_programs.proofs.programs.found_programs.Goals as goal

pub loop-program-preserved : goal.loop-program-preserved
loop-program-preserved g c =
    c.loop-program.invariant
    ∙ programs_more c.loop-program.gathered _ c.loop-program.program-index c.args.named.now _
    (map (finding_view {A = g.row.A.Denot}) c.args.findings.now)
    c.loop-program-test.true c.in_ok-note.ensures

pub returns : goal.returns
unfolding programs_of
returns g c =
    c.into_found.ensures ∙ sym (c.loop-program.invariant
    ∙ programs_end c.loop-program.gathered c.loop-program.program-index c.args.named.now (map (finding_view {A = g.row.A.Denot}) c.args.findings.now)
    c.loop-program-test.false)
