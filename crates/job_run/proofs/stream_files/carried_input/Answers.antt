use Rattle.job_run.proofs.StreamFiles.{carried_is_input}
use Rattle.job_run.proofs.stream_files.carried_input.Goals as goal

pub returns : goal.returns
returns c = λ bytes so none.
    carried_is_input c.args.arguments.now bytes _ _ _ _ _ _ _ _ _ c.in_ok-taken.taken (c.in_ok-notes.ensures bytes so none) c.into_findings.ensures.found
    none c.options-options.ensures c.in_ok-marked.ensures c.in_ok-notes-2.ensures.notes c.in_ok-notes-2.ensures.findings c.in_ok-taken.ensures
