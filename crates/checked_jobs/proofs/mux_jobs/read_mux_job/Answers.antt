use Rattle.std.proofs.Common.{◌∙◌, Bool, List, ℕ, [], ap, refl, subst, sym}
use Rattle.checked_jobs.specs.JobFaults.{fault_view}
use Rattle.checked_jobs.specs.Jobs.{job_of}
use Rattle.checked_jobs.specs.UnitList.{TakesRecords}
use Rattle.checked_jobs.specs.declared.unit_list.UnitList.{UnitList}
use Rattle.checked_jobs.proofs.JobTaking.{none_came}
use Rattle.checked_jobs.proofs.MuxJobs.{job_unread}
use Rattle.checked_jobs.proofs.UnitLists.{none_come}
use Rattle.checked_jobs.proofs.mux_jobs.read_mux_job.Goals as goal

pub take_input-requires-clause-start : goal.take_input-requires-clause-start
take_input-requires-clause-start g c =
    let list = c.new-taker.result.rest in
    none_came (λ (after : List ℕ). TakesRecords after list.units.items list.record list.fault) c.new-taker.result.switch c.new-taker.result.switch
    c.new-taker.result.text.items
    c.new-taker.result.state refl c.new-taker.ensures.text c.new-taker.ensures.state
    (subst (λ (l : UnitList). TakesRecords [] l.units.items l.record l.fault) (sym c.new-taker.ensures.rest)
    (none_come c.new.result.units.items c.new.result.record c.new.result.fault c.new.ensures.units c.new.ensures.open c.new.ensures.come c.new.ensures.fault))

pub returns-in-Err-Fault : goal.returns-in-Err-Fault
returns-in-Err-Fault g c =
    let t = c.in_default.ensures in
    record {
      bytes = t.bytes;
      read = t.read;
      is = job_unread c.args.switch t.bytes (fault_view c.in-Err-Fault.fault)
          ((rw c.in-Err-Fault.field-0-is at c.in-Err-Fault.ensures) c.new-taker.result.switch t.bytes t.taken
          ∙ ap (λ (b : Bool). job_of b t.bytes) c.new-taker.ensures.switch);
    }
