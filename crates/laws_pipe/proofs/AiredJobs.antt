-- A run over a job that `mux` takes.
use Rattle.std.proofs.Common.{◌≡◌, ◌≤◌, ◌+◌, ◌-◌, ◌*◌, ◌/◌, ◌^◌, ℕ, min, Bool, true, false, List, [], ◌∷◌, ◌++◌, length, Option, Some, None, Ok, Err, refl, sym}
use Rattle.std.proofs.Common.{ap, ap₂, ◌∙◌, subst, arith, inl, inr, append_assoc}
use Rattle.std.specs.Prelude.{if◌then◌else◌, is_some, nat_lt, not, unwrap_or}
use Rattle.std.proofs.lemmas.List.Elements.{filter-append}
use Rattle.std.proofs.lemmas.Bool.{false≢true, lt-ltb}
use Rattle.std.specs.Io.KnownBytes.{Consumes}
use Rattle.pes_packet.specs.AccessUnits.{AccessUnit}
use Rattle.unit_records.specs.Records.{record_at}
use Rattle.unit_records.specs.declared.reading.UnitFileError.{UnitFileError}
use Rattle.unit_records.specs.declared.reading.UnitFileError.TheVariants.{Cut, Size, Device as AtReader, Memory}
use Rattle.mux_core.specs.RecordRuns.{after_records}
use Rattle.mux_core.specs.Scheduled.{Scheduled}
use Rattle.mux_core.specs.WholeJobs.{capacity_for, first_refused, job_history, or_cause, output_of}
use Rattle.mux_core.specs.declared.multiplexing.MuxError.{MuxError}
use Rattle.description_parts.specs.Described.{Described}
use Rattle.slot_plan.specs.Planned.{Planned}
use Rattle.plan_checker.specs.Served.{Served}
use Rattle.devices.specs.Devices.{Device, Port, Takes, between}
use Rattle.checked_jobs.specs.Jobs.{JobView, job_of}
use Rattle.checked_jobs.specs.FaultLines.{record_outcome}
use Rattle.checked_jobs.specs.JobSchedules.{schedule_by}
use Rattle.checked_jobs.proofs.LongerJobs.{job_kept}
use Rattle.on_air.specs.declared.answers.Ending.{Ending}
use Rattle.on_air.specs.declared.answers.Ending.TheVariants.{Input, Unread, Slots, Records, TextsMemory}
use Rattle.on_air.specs.declared.refusals.AirRefusal.{AirRefusal}
use Rattle.on_air.specs.Airing.{Run, HasRoom, is_tick, last_at, last_by, last_of, slots_or}
use Rattle.on_air.specs.Courses.{Course, course_ended, heard, output_at}
use Rattle.on_air.specs.Laws.{ComeInOrder, greatest_of, records_of, without_ticks}
use Rattle.on_air.proofs.AsMultiplexed.{aired_as_multiplexed, first_taken}
use Rattle.on_air.proofs.InOrder.{aired_in_order}
use Rattle.checked_jobs.specs.UnitList.{Units, units_in}
use Rattle.checked_jobs.specs.declared.multiplexing.MuxOptions.{MuxOptions}
use Rattle.checked_jobs.specs.MuxJobs.{MuxJobView, default_slots, mux_job_of, served, with_records, with_units}
use Rattle.checked_jobs.specs.Multiplexing.{cause_of, packets_of, range_cause, schedule_of, slots_of}
use Rattle.tsair_cli.specs.declared.arguments.AirOptions.{AirOptions}
use Rattle.tsair_cli.specs.AirRuns.{Begins, EndsRun, GoesOnAir, run_of}
use Rattle.tsair_cli.specs.Endings.{end_outcome, lost_status, slots_outcome, why_outcome}
use Rattle.tsair_cli.specs.States.{Saving}
use Rattle.tsair_cli.specs.Fronts.{front_outcome}
use Rattle.tsair_cli.specs.declared.front.FrontError.{FrontError}
use Rattle.tsair_cli.specs.declared.front.FrontError.TheVariants.{Fault, Stopped}
use Rattle.tsair_cli.specs.declared.front.FrontFault.TheVariants.{Job, Unended}
use Rattle.devices.specs.declared.halt.Halt.TheVariants as halt
use Rattle.laws_pipe.specs.AiredAsMuxed.{AirsWhatMuxWrites, AskTheSame, RefusesNone, TakesJob, units_alone}
use Rattle.laws_pipe.proofs.WholeJobs.{all_records, first_records}

-- The bytes after the plans

-- The front of known bytes was read, and the rest is left.
record LeftOf (bytes front : List ℕ) (left : Option (List ℕ)) : Type 0 where
  rest : List ℕ
  left_is : left ≡ Some rest
  joined : bytes ≡ front ++ rest

left_of : (before left : Option (List ℕ)) (bytes front : List ℕ) → before ≡ Some bytes → Consumes before left front → LeftOf bytes front left
left_of None left bytes front e c = absurd cc
left_of (Some xs) None bytes front e c = absurd c
left_of (Some xs) (Some rest) bytes front e c =
    let same : xs ≡ bytes = cc in
    record { rest = rest; left_is = refl; joined = sym same ∙ c }

-- The job that `mux` takes has these plans, and its units are the records after them.
record IsOf (job : JobView) (rest : List ℕ) (j : MuxJobView) : Type 0 where
  units : units_in rest ≡ Ok j.units
  is : j ≡ served job j.units

of_units : (job : JobView) (rest : List ℕ) (j : MuxJobView) (found : Units) → units_in rest ≡ found →
    with_units (record job { rest = rest }) found ≡ Ok j → IsOf job rest j
unfolding with_units
of_units job rest j (Ok units) e w =
    let same : served job units ≡ j = cc in
    let mine : units ≡ j.units = ap (λ (x : MuxJobView). x.units) same in
    record { units = e ∙ ap Ok mine; is = sym same ∙ ap (served job) mine }
of_units job rest j (Err at) e w = absurd cc

goes_on : (switch : Bool) (front rest : List ℕ) (job : JobView) → Ok job ≡ job_of switch front → job.rest ≡ [] →
    job_of switch (front ++ rest) ≡ Ok (record job { rest = rest })
goes_on switch front rest job e none =
    (job_kept switch front job (sym e)).more rest ∙ ap (λ (x : List ℕ). Ok (record job { rest = x ++ rest })) none

is_of : (m : MuxOptions) (o : AirOptions) (bytes : List ℕ) (j : MuxJobView) (before left : Port) (job : JobView) (b : Begins o before left job) →
    o.periods ≡ m.periods →
    mux_job_of (is_some m.periods) bytes ≡ Ok j → (l : LeftOf bytes b.front left.bytes) → IsOf job l.rest j
unfolding with_records
is_of m o bytes j before left job b same taken l =
    let switch : job_of (is_some o.periods) bytes ≡ Ok (record job { rest = l.rest }) =
    ap (job_of (is_some o.periods)) l.joined ∙ goes_on (is_some o.periods) b.front l.rest job b.job_is b.no_rest in
    let whole : job_of (is_some m.periods) bytes ≡ Ok (record job { rest = l.rest }) = ap (λ p. job_of (is_some p) bytes) (sym same) ∙ switch in
    of_units job l.rest j (units_in l.rest) refl (sym (ap with_records whole) ∙ taken)

-- The same run

none_early : (early next : Option MuxError) → or_cause early next ≡ None → next ≡ None
unfolding or_cause
none_early None next e = e
none_early (Some cause) next e = absurd cc

scheduled_same : (m : MuxOptions) (o : AirOptions) (job : JobView) (j : MuxJobView) → AskTheSame m o → j ≡ served job j.units →
    (run_of o job).scheduled ≡ schedule_of m j
scheduled_same m o job j same is =
    ap (λ p. schedule_by (record { description = job.description; plan = job.plan }) job.second (unwrap_or p 0)) same.periods
    ∙ ap (λ (x : MuxJobView). schedule_of m x) (sym is)

-- If `mux` takes the job, no unit is refused.
pub none_of_job : (m : MuxOptions) (o : AirOptions) (job : JobView) (j : MuxJobView) → AskTheSame m o → j ≡ served job j.units → cause_of m j ≡ None →
    first_refused (run_of o job).scheduled (capacity_for j.units) [] j.units ≡ None
none_of_job m o job j same is taken =
    ap (λ (d : Scheduled). first_refused d (capacity_for j.units) [] j.units) (scheduled_same m o job j same is) ∙ none_early (range_cause m j) _ taken

all_slots : (rate : ℕ) (slots : Option ℕ) (units : List (ℕ × AccessUnit)) → slots ≡ None →
    last_by rate (slots_or (2 ^ 40) slots) (greatest_of units) slots ≡ default_slots rate units
unfolding last_by slots_or
all_slots rate None units e =
    let same : greatest_of units - 0 ≡ greatest_of units = omega arith in
    ap (λ (x : ℕ). min ((x * rate + 135359999) / 135360000) (2 ^ 40)) same
all_slots rate (Some n) units e = absurd cc

default_slots_of : (given : Option ℕ) (n : ℕ) → given ≡ None → unwrap_or given n ≡ n
default_slots_of None n e = refl
default_slots_of (Some k) n e = absurd cc

plans_description : (d : Served) (second : Option Planned) (periods : ℕ) → (schedule_by d second periods).description ≡ d.description
plans_description d None periods = refl
plans_description d (Some second) periods = refl

described_same : (o : AirOptions) (job : JobView) → (run_of o job).scheduled.description ≡ job.description
described_same o job = plans_description (record { description = job.description; plan = job.plan }) job.second (unwrap_or o.periods 0)

-- The output of the whole job
same_output_of : (m : MuxOptions) (o : AirOptions) (job : JobView) (j : MuxJobView) → AskTheSame m o → j ≡ served job j.units →
    output_of (run_of o job).hex (run_of o job).scheduled (job_history j.units (last_at (run_of o job) (greatest_of j.units))) ≡ packets_of m j
same_output_of m o job j same is =
    let d = scheduled_same m o job j same is in
    let slots : last_at (run_of o job) (greatest_of j.units) ≡ slots_of m j =
    ap (λ (x : Scheduled). last_of x.description.rate o.terms (greatest_of j.units)) d
    ∙ all_slots (schedule_of m j).description.rate o.terms.slots j.units same.all_slots
    ∙ ap (λ (x : Scheduled). default_slots x.description.rate j.units) (sym d) ∙ ap (λ (x : Described). default_slots x.rate j.units) (described_same o job)
    ∙ ap (λ (x : MuxJobView). default_slots x.description.rate j.units) (sym is)
    ∙ sym (default_slots_of m.slots (default_slots j.description.rate j.units) same.slots) in
    ap (λ (hex : Bool). output_of hex (run_of o job).scheduled (job_history j.units (last_at (run_of o job) (greatest_of j.units)))) same.hex
    ∙ ap₂ (λ (x : Scheduled) (n : ℕ). output_of m.hex x (job_history j.units n)) d slots

-- The end of the run

-- The run ended at the end of the input, and no record was refused.
record Finished (why : Option Ending) (refused : Bool) : Type 0 where
  is : why ≡ Some Input
  none : refused ≡ false

not_quiet : (refused : Bool) → ◌≡◌ {A = ℕ} (if refused then 1 else 0) 0 → refused ≡ false
not_quiet false e = refl
not_quiet true e = absurd cc

unread_status : (index : ℕ) (fault : UnitFileError) → (record_outcome index fault).status ≡ 0 → ⊥
unfolding record_outcome
unread_status index Cut e = cc
unread_status index Size e = cc
unread_status index AtReader e = cc
unread_status index Memory e = cc

finished : (records : ℕ) (refused : Bool) (why : Option Ending) → (why ≡ None → refused ≡ true) → (why_outcome None records refused why).status ≡ 0 →
    Finished why refused
unfolding why_outcome slots_outcome
finished records refused None stopped e = absurd (let none : refused ≡ false = not_quiet refused e in let some : refused ≡ true = stopped refl in cc)
finished records refused (Some Input) stopped e = record { is = refl; none = not_quiet refused e }
finished records refused (Some (Unread fault)) stopped e = absurd (unread_status records fault e)
finished records refused (Some Slots) stopped e = absurd cc
finished records refused (Some Records) stopped e = absurd cc
finished records refused (Some TextsMemory) stopped e = absurd (unread_status records Memory e)

-- If the number of refused records is 0, no record was refused.
none_in : (refused : List (ℕ × AirRefusal)) → nat_lt 0 (length refused) ≡ false → refused ≡ []
none_in [] e = refl
none_in (r ∷ rs) e = absurd (false≢true (sym e ∙ lt-ltb 0 (length (r ∷ rs)) (omega arith)))

-- The run read n records and refused none, and no record follows.
record HeardWhole (run : Run) (rest : List ℕ) (n : ℕ) : Type 0 where
  none_refused : (heard run n rest).air.refused ≡ []
  none_left : record_at (after_records n rest) ≡ Ok None

status_0 : (status : ℕ) → status ≡ 1 → status ≡ 0 → ⊥
status_0 status a b = cc

-- A status 0 is that of a run whose versions are not lost.
not_lost : (lost : Bool) (status : ℕ) → 0 ≡ lost_status lost status → 0 ≡ status
not_lost false status e = e
not_lost true status e = absurd (let no : 0 ≡ 3 = e in cc)

heard_of : (saving : Saving) (o : AirOptions) (run : Run) (input output faults : Device) (rest : List ℕ) (e : EndsRun saving o run input output faults 0) → o.terms.slots ≡ None →
    input.before.bytes ≡ Some rest →
    HeardWhole run rest e.airs.heard_is.count
unfolding end_outcome
heard_of saving o run input output faults rest e slots bytes =
    let reported = e.airs.heard_is.heard_is.known rest bytes in
    let by_none = rw slots at
    (not_lost e.end.has_lost (why_outcome o.terms.slots e.airs.came.air.records e.end.has_refused e.end.why).status e.status_is) in
    let stopped : e.end.why ≡ None → e.end.has_refused ≡ true = λ w. e.refused ∙ ((rw w at e.ends).1).0 in
    let f = finished e.airs.came.air.records e.end.has_refused e.end.why stopped (sym by_none) in
    let last = rw f.is at e.ends in
    record {
      none_refused = ap (λ (c : Course). c.air.refused) (sym reported.0) ∙ none_in e.airs.came.air.refused (sym e.refused ∙ f.none);
      none_left = (last (after_records e.airs.heard_is.count rest) reported.1).0;
    }

ended_output : (m : MuxOptions) (saving : Saving) (o : AirOptions) (bytes : List ℕ) (j : MuxJobView) (input output faults : Device) → AskTheSame m o → TakesJob m bytes j →
    input.before.bytes ≡ Some bytes →
    (air : GoesOnAir saving o input output faults 0) → EndsRun saving o (run_of o air.job) (between air.left input.after) output faults 0 → Takes output (packets_of m j)
ended_output m saving o bytes j input output faults same takes known air e =
    let run = run_of o air.job in
    let l = left_of input.before.bytes air.left.bytes bytes air.begins.front known air.begins.read in
    let n = e.airs.heard_is.count in
    let of = is_of m o bytes j input.before air.left air.job air.begins same.periods takes.job l in
    let whole = heard_of saving o (run_of o air.job) (between air.left input.after) output faults l.rest e same.all_slots l.left_is in
    let units : records_of e.airs.heard_is.count l.rest ≡ j.units = all_records l.rest j.units e.airs.heard_is.count of.units whole.none_left in
    let none = none_of_job m o air.job j same of.is takes.taken in
    let none_here : first_refused (run_of o air.job).scheduled (capacity_for j.units) [] (records_of e.airs.heard_is.count l.rest) ≡ None =
    ap (λ us. first_refused (run_of o air.job).scheduled (capacity_for j.units) [] us) units ∙ none in
    let reported = e.airs.heard_is.heard_is.known l.rest l.left_is in
    let here : output_at (course_ended e.airs.came) ≡ packets_of m j =
    ap (λ (c : Course). output_at (course_ended c)) reported.0
    ∙ aired_as_multiplexed (run_of o air.job) (capacity_for j.units) e.airs.heard_is.count l.rest none_here whole.none_refused
    ∙ ap (λ us. output_of (run_of o air.job).hex (run_of o air.job).scheduled (job_history us (last_at (run_of o air.job) (greatest_of us)))) units
    ∙ same_output_of m o air.job j same of.is in
    subst (λ (xs : List ℕ). Takes output xs) here e.written

front_status : (e : FrontError) → (front_outcome e).status ≡ 0 → ⊥
unfolding front_outcome
front_status (Fault (Job fault)) e = cc
front_status (Fault Unended) e = cc
front_status (Stopped halt.Read) e = cc
front_status (Stopped halt.Write) e = cc
front_status (Stopped halt.Memory) e = cc

pub airs_what_mux_writes : AirsWhatMuxWrites
airs_what_mux_writes m saving o bytes j input output faults same takes known (inl air) = elim air.records [
  | inl e ↦ ended_output m saving o bytes j input output faults same takes known air e
  | inr f ↦ absurd (let no : 0 ≡ 3 = f.status_is in cc)
]
airs_what_mux_writes m saving o bytes j input output faults same takes known (inr (inl front)) = absurd (front_status front.error (sym front.status_is))
airs_what_mux_writes m saving o bytes j input output faults same takes known (inr (inr (inl periods))) = absurd (let no : 0 ≡ 1 = periods.status_is in cc)
airs_what_mux_writes m saving o bytes j input output faults same takes known (inr (inr (inr memory))) = absurd (let no : 0 ≡ 3 = memory.status_is in cc)

-- Records in order

has_room : (o : AirOptions) (job : JobView) (j : MuxJobView) → j ≡ served job j.units →
    HasRoom (run_of o job) j.description.streams → HasRoom (run_of o job) (run_of o job).scheduled.description.streams
has_room o job j is le =
    let same : j.description ≡ (run_of o job).scheduled.description = ap (λ (x : MuxJobView). x.description) is ∙ sym (described_same o job) in
    subst (λ d. HasRoom (run_of o job) d.streams) same le

first_in_order : (run : Run) (units more : List (ℕ × AccessUnit)) → ComeInOrder run (units ++ more) → ComeInOrder run units
first_in_order run units more order before after entry is =
    order before (after ++ more) entry (ap (λ (l : List (ℕ × AccessUnit)). l ++ more) is ∙ append_assoc before (entry ∷ after) more)

pub refuses_none : RefusesNone
refuses_none m saving o bytes j input output faults status same takes known air order e =
    let l = left_of input.before.bytes air.left.bytes bytes air.begins.front known air.begins.read in
    let of = is_of m o bytes j input.before air.left air.job air.begins same.periods takes.job l in
    let n = e.airs.heard_is.count in
    let d = (run_of o air.job).scheduled in
    let other = capacity_for (without_ticks j.units) in
    let first = first_records l.rest j.units e.airs.heard_is.count of.units in
    let records = records_of e.airs.heard_is.count l.rest in
    let none = none_of_job m o air.job (units_alone j) same (ap units_alone of.is) takes.taken in
    let split : without_ticks j.units ≡ without_ticks (records_of e.airs.heard_is.count l.rest) ++ without_ticks first.0 =
    ap without_ticks first.1 ∙ filter-append (λ entry. not (is_tick entry)) (records_of e.airs.heard_is.count l.rest) first.0 in
    let none_here = first_taken d other [] (without_ticks records) (without_ticks first.0) (ap (λ us. first_refused d other [] us) (sym split) ∙ none) in
    let comes = first_in_order (run_of o air.job) (records_of e.airs.heard_is.count l.rest) first.0
    (subst (ComeInOrder (run_of o air.job)) first.1 order.in_order) in
    let taken = aired_in_order (run_of o air.job) (capacity_for (without_ticks j.units)) e.airs.heard_is.count l.rest (record {
      promises = air.promises;
      room = has_room o air.job j of.is order.room;
      accepted = none_here;
      in_order = comes;
    }) in
    let reported = e.airs.heard_is.heard_is.known l.rest l.left_is in
    e.refused ∙ ap (λ (c : Course). nat_lt 0 (length c.air.refused)) reported.0 ∙ ap (λ (r : List (ℕ × AirRefusal)). nat_lt 0 (length r)) taken.refused
