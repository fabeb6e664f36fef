use Rattle.std.proofs.Common.{◌∙◌, string_bytes, sym}
use Rattle.explained_jobs.proofs.Explained.{no_job, with_one, with_second}
use Rattle.explained_jobs.proofs.explaining.rest_text.Goals as goal

pub returns-in-Err-Fault : goal.returns-in-Err-Fault
returns-in-Err-Fault c =
    no_job c.args.bytes.now (string_bytes c.new.result) c.in-Err-Fault.field-0-0 (rw c.in-Err-Fault.field-0-is at c.in-Err-Fault.ensures) c.new.ensures.bytes

pub returns-then-begins_plan : goal.returns-then-begins_plan
returns-then-begins_plan c =
    with_second c.args.bytes.now (string_bytes c.in_ok-text.text) c.in-Ok.job c.in-Ok.ensures (sym c.begins_plan.ensures ∙ c.if-begins_plan.true)
    c.in_ok-text.ensures

pub returns : goal.returns
returns c =
    with_one c.args.bytes.now (string_bytes c.in_ok-text-2.text) c.in-Ok.job c.in-Ok.ensures (sym c.begins_plan.ensures ∙ c.if-begins_plan.false)
    c.in_ok-text-2.ensures
