use Rattle.std.proofs.Common.{false, ◌∙◌}
use Rattle.mux_core.specs.WholeJobs.{job_history, output_of}
use Rattle.es_units.specs.CarriedUnits.{wire_units, apart_wire_units}
use Rattle.es_units.proofs.KeptDeclarations.{units_kept}
use Rattle.laws_job.specs.Laws.{schedule_for}
use Rattle.laws_job.proofs.AcceptedUnits.{all_kept}
use Rattle.laws_job.proofs.PrivateData.{units_sixteen}
use Rattle.laws_job.proofs.FoundUnits.{again, same_stamps}
use Rattle.laws_job.proofs.laws.found_again.Goals as goal

pub returns-clause-moved : goal.returns-clause-moved
returns-clause-moved c = λ d p findings units n k s base ranges serving are few is moved due.
    let line = schedule_for d p in
    let kept = (all_kept units_kept false line findings units ranges are).kept k s is in
    let back = (c.carried.ensures d p findings units n ranges serving are few).given_back in
    let sixteen = units_sixteen false findings d units are k s is in
    again base line (apart_wire_units s.pid findings) units n k s (output_of false line (job_history units n)) (c.accepted_plan.ensures d p ranges serving) is
    kept sixteen moved due back

pub returns-clause-own : goal.returns-clause-own
returns-clause-own c = λ d p findings units n k s base ranges serving are few is moved due.
    let line = schedule_for d p in
    let kept = (all_kept units_kept false line findings units ranges are).kept k s is in
    let back = (c.carried.ensures d p findings units n ranges serving are few).given_back in
    let sixteen = units_sixteen false findings d units are k s is in
    again base line (wire_units s.pid findings) units n k s (output_of false line (job_history units n)) (c.accepted_plan.ensures d p ranges serving) is kept
    sixteen moved due back

pub returns-clause-same : goal.returns-clause-same
returns-clause-same c = λ d p findings units n k s ranges serving are few is moved due stamps.
    let line = schedule_for d p in
    let kept = (all_kept units_kept false line findings units ranges are).kept k s is in
    let back = (c.carried.ensures d p findings units n ranges serving are few).given_back in
    let sixteen = units_sixteen false findings d units are k s is in
    again d.base0 line (apart_wire_units s.pid findings) units n k s (output_of false line (job_history units n)) (c.accepted_plan.ensures d p ranges serving)
    is kept sixteen moved due back
    ∙ same_stamps d.base0 (apart_wire_units s.pid findings) stamps
