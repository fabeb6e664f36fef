use Rattle.std.proofs.Common.{string_bytes}
use Rattle.explained_jobs.proofs.NextFronts.{has_fault}
use Rattle.explained_jobs.proofs.next_fronts.front_for.Goals as goal

pub returns-in_ok-fault_text-in-Some : goal.returns-in_ok-fault_text-in-Some
returns-in_ok-fault_text-in-Some c =
    has_fault c.args.old.now c.description.result.now c.args.new.now c.args.texts.now (string_bytes c.in_ok-fault_text-in-Some.field-0) c.in-Some.fault
    c.description.ensures.description c.in-Some.ensures c.in_ok-fault_text-in-Some.ensures
