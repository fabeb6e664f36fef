use Rattle.std.proofs.Common.{sym}
use Rattle.job_run.proofs.StreamFiles.{form_is_input}
use Rattle.job_run.proofs.stream_files.read_input.Goals as goal

pub returns-in_ok-no_stream_outcome-in-Some : goal.returns-in_ok-no_stream_outcome-in-Some
returns-in_ok-no_stream_outcome-in-Some c = λ bytes so.
    form_is_input c.args.arguments.now bytes c.in-Some.form c.in_ok-no_stream_outcome-in-Some.field-0 (c.in-Some.ensures bytes so)
    c.in_ok-no_stream_outcome-in-Some.ensures

pub returns-in_ok-carried_input-in-None : goal.returns-in_ok-carried_input-in-None
returns-in_ok-carried_input-in-None c = λ bytes so. c.in_ok-carried_input-in-None.ensures bytes so (sym (c.in-None.ensures bytes so))
