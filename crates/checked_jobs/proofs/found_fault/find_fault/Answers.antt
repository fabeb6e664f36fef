use Rattle.std.proofs.Common.{◌∙◌, Bool, ap}
use Rattle.checked_jobs.specs.FoundFaults.{fault_in}
use Rattle.checked_jobs.specs.Jobs.{job_of}
use Rattle.checked_jobs.proofs.found_fault.find_fault.Goals as goal

pub returns-in-Err-Fault : goal.returns-in-Err-Fault
returns-in-Err-Fault g c =
    let t = c.in_ok-take_input.ensures in
    record {
      bytes = t.bytes;
      read = t.read;
      is = ap fault_in
          ((rw c.in-Err-Fault.field-0-is at c.in-Err-Fault.ensures) c.new-taker.result.switch t.bytes t.taken
          ∙ ap (λ (b : Bool). job_of b t.bytes) c.new-taker.ensures.switch);
    }
