-- `mux` refuses nothing of a written job if all packets are requested.
use Rattle.std.proofs.Common.{◌≡◌, ◌≤◌, ℕ, ◌+◌, ◌*◌, ◌/◌, ◌^◌, min, Bool, if◌then◌else◌, List, [], Option, Some, None, refl, ap, ◌∙◌, arith, unwrap_or}
use Rattle.std.proofs.lemmas.Bool.{le-ltb}
use Rattle.pid_findings.specs.Views.{FindingView}
use Rattle.description_parts.specs.Ranges.{IsInRange}
use Rattle.mux_core.specs.WholeJobs.{capacity_for, first_refused, or_cause, slots_cause}
use Rattle.mux_core.specs.declared.multiplexing.MuxError.{MuxError}
use Rattle.mux_core.specs.declared.multiplexing.MuxError.TheVariants.{TooManySlots}
use Rattle.stream_jobs.specs.Jobs.{AreUnits}
use Rattle.laws_job.specs.Laws.{AcceptedLaw, schedule_for}
use Rattle.checked_jobs.specs.JobSchedules.{schedule_by}
use Rattle.checked_jobs.specs.declared.multiplexing.MuxOptions.{MuxOptions}
use Rattle.checked_jobs.specs.MuxJobs.{MuxJobView, default_slots, greatest_dts}
use Rattle.checked_jobs.specs.Multiplexing.{cause_of, range_cause, range_cause_of, first_of, periods_of, schedule_of, slots_of}

default_of : (given : Option ℕ) (n : ℕ) → given ≡ None → unwrap_or given n ≡ n
default_of None n e = refl
default_of (Some k) n e = absurd cc

-- If no number of slots is requested, the run has the default number.
pub all_slots : (o : MuxOptions) (j : MuxJobView) → o.slots ≡ None → slots_of o j ≡ default_slots j.description.rate j.units
all_slots o j all = default_of o.slots (default_slots j.description.rate j.units) all

few_slots : (n m : ℕ) → n ≡ min m (2 ^ 40) → slots_cause n ≡ None
few_slots n m e =
    let within : n ≤ 2 ^ 40 = omega (arith, e) in
    ap (λ (b : Bool). if b then Some TooManySlots else None) (le-ltb (2 ^ 40) n within)

none_early : (early next : Option MuxError) → early ≡ None → or_cause early next ≡ next
unfolding or_cause
none_early None next e = refl
none_early (Some cause) next e = absurd cc

one_plan : (o : MuxOptions) (j : MuxJobView) → j.second ≡ None → range_cause o j ≡ slots_cause (slots_of o j)
one_plan o j e = ap (λ second. range_cause_of (first_of j) second (periods_of o) (slots_of o j)) e

-- Nothing is refused if all packets are requested and no unit is refused under its plan.
pub no_cause : (o : MuxOptions) (j : MuxJobView) → j.second ≡ None → o.slots ≡ None →
    first_refused (schedule_for j.description j.plan) (capacity_for j.units) [] j.units ≡ None →
    cause_of o j ≡ None
no_cause o j second all accepted =
    let few = one_plan o j second ∙ few_slots (slots_of o j) ((greatest_dts j.units * j.description.rate + 135359999) / 135360000) (all_slots o j all) in
    let same : schedule_of o j ≡ schedule_for j.description j.plan = ap (λ x. schedule_by (first_of j) x (periods_of o)) second in
    none_early (range_cause o j) (first_refused (schedule_of o j) (capacity_for j.units) [] j.units) few
    ∙ ap (λ x. first_refused x (capacity_for j.units) [] j.units) same ∙ accepted

pub none_refused : AcceptedLaw → (made : Bool) (findings : List FindingView) (o : MuxOptions) (j : MuxJobView) → j.second ≡ None → o.slots ≡ None →
    IsInRange j.description →
    AreUnits made findings j.description j.units → cause_of o j ≡ None
none_refused law made findings o j second all ranges are = no_cause o j second all (law made (schedule_for j.description j.plan) findings j.units ranges are)
