use Rattle.std.proofs.Common.{rules, ◌≡◌, Ok, map, subst}
use Rattle.pid_findings.specs.Shown.{finding_view}
use Rattle.other_tables.specs.OtherTables.{other_tables}
use Rattle.job_programs.specs.Answers.{Answers}
use Rattle.job_inputs.specs.JobInput.{job_input, AreStreams}
use Rattle.job_programs.specs.JobOptions.{JobOptionsView}
use Rattle.job_run.proofs.StreamFiles.{is_taken_of}
use Rattle.job_run.proofs.stream_files.taken_or_refused.Goals as goal

pub returns-in-Ok : goal.returns-in-Ok
returns-in-Ok c =
    let findings = map finding_view c.args.findings.items in
    let m = c.in-Ok.input in
    let found : c.deref-in-Ok.result.now ≡ other_tables findings = search rules in
    is_taken_of c.args.arguments.now c.args.notes.now c.args.count findings m _
    (subst (λ (w : JobOptionsView). Answers (job_input w c.args.count findings) (Ok m)) c.options.ensures c.in-Ok.ensures.value)
    (subst (λ (w : JobOptionsView). AreStreams w.make_dts findings m) c.options.ensures c.in-Ok.ensures.streams)
    c.in_ok-taken-in-Ok.ensures.input (c.in_ok-taken-in-Ok.ensures.lines findings found) (c.in_ok-taken-in-Ok.ensures.less findings found)
