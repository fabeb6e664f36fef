use Rattle.std.proofs.Common.{string_bytes}
use Rattle.changed_texts.specs.Reading.{description_in}
use Rattle.explained_jobs.proofs.NextFronts.{error_refused}
use Rattle.explained_jobs.proofs.next_fronts.front_after.Goals as goal

pub returns-in_ok-refused_text-in-Err-Refused : goal.returns-in_ok-refused_text-in-Err-Refused
returns-in_ok-refused_text-in-Err-Refused c =
    error_refused c.args.old.now c.args.texts.now (description_in c.args.texts.now) c.in-Err-Refused.field-0 c.in-Err-Refused.fault
    (string_bytes c.in_ok-refused_text-in-Err-Refused.field-0) c.in-Err-Refused.field-0-is c.in-Err-Refused.ensures
    c.in_ok-refused_text-in-Err-Refused.ensures
