-- What the records and the end of a run leave
use Rattle.std.proofs.Common.{◌≡◌, ◌⊎◌, ℕ, Bool, List, [], ◌++◌, Option, Some, None, Ok, refl, sym, ap, ◌∙◌, subst, inl, inr, append-nil}
use Rattle.std.specs.Prelude.{is_some}
use Rattle.std.specs.Io.KnownBytes.{Appends}
use Rattle.counted_io.specs.Device.{Failed}
use Rattle.mux_core.specs.Buffer.{waiting_of, Buffered, IsOutput}
use Rattle.devices.specs.Devices.{Device, IsUntouched, Port, between}
use Rattle.devices.specs.Lines.{Reports}
use Rattle.devices.specs.Outcomes.{halt_line}
use Rattle.devices.specs.declared.halt.Halt.TheVariants.{Write}
use Rattle.checked_jobs.specs.Jobs.{JobView, job_of}
use Rattle.mux_core.specs.NewMux.{Judges}
use Rattle.mux_core.specs.declared.done.NewError.{NewError}
use Rattle.mux_core.specs.declared.done.NewError.TheVariants.{Capacity, Periods, Memory as NoRoom}
use Rattle.checked_jobs.specs.JobFaults.{plans_view}
use Rattle.checked_jobs.specs.declared.jobs.JobPlans.{JobPlans}
use Rattle.checked_jobs.specs.declared.jobs.JobPlans.TheVariants.{One, Two}
use Rattle.on_air.specs.Airing.{Run, ended}
use Rattle.on_air.specs.AirStates.{AirState, IsOnAir}
use Rattle.on_air.specs.Courses.{course_ended, output_at}
use Rattle.on_air.specs.Hearing.{Fails}
use Rattle.tsair_cli.specs.declared.arguments.AirOptions.{AirOptions}
use Rattle.tsair_cli.specs.declared.hearing.RecordsEnd.{RecordsEnd}
use Rattle.tsair_cli.specs.AirRuns.{AirsJob, AirsRecords, Begins, begin_cause, begin_outcome, run_of}
use Rattle.tsair_cli.specs.Endings.{end_outcome}
use Rattle.tsair_cli.specs.Fronts.{ReadsPlans}
use Rattle.tsair_cli.specs.HeardRecords.{EndsRecords, FailsRecords}
use Rattle.devices.specs.declared.files.FileFault.{FileFault}
use Rattle.tsair_cli.specs.States.{Saving, saving_of}
use Rattle.tsair_cli.proofs.HeardRecords.{stopped_at_most}

-- If no packet waits, all packets are written.
whole_output : (start now : Option (List ℕ)) (packets : Buffered) (all : List ℕ) → waiting_of packets ≡ [] → IsOutput start now packets all →
    Appends start now all
whole_output start now packets all none o =
    subst (λ (bytes : List ℕ). Appends start now bytes) (sym (o.is ∙ ap (λ (l : List ℕ). o.written ++ l) none ∙ append-nil o.written)) o.taken

pub records_failed : (saving : Saving) (o : AirOptions) (run : Run) (input output : Device) (before so_far after : Port) (sent status : ℕ) →
    FailsRecords saving run o.stop output.before.bytes input output (between before so_far) sent → Reports (between so_far after) (halt_line Write) → status ≡ 3 →
    AirsRecords saving o run input output (between before after) status
records_failed saving o run input output before so_far after sent status f r s = inr (record {
  rest = input.after.bytes;
  so_far = so_far;
  airs = f.airs;
  stops = f.stops;
  course = f.airs.came;
  course_is = inl refl;
  sent = sent;
  fails = f.fails;
  failed = f.failed;
  reports = r;
  status_is = s;
})

pub run_ended : (saving : Saving) (o : AirOptions) (run : Run) (input : Device) (begin mid end before so_far after : Port) (why : RecordsEnd) (s t : AirState)
    (records status : ℕ)
    (e : EndsRecords saving run o.stop begin.bytes input (between begin mid) (between before so_far) why s) →
    IsOnAir e.airs.came.run (ended e.airs.came.run e.airs.came.air) begin.bytes end.bytes t → waiting_of t.packets ≡ [] → end.failed ≡ mid.failed →
    records ≡ t.records → Reports (between so_far after) (end_outcome o.terms.slots records why).report →
    status ≡ (end_outcome o.terms.slots records why).status →
    AirsRecords saving o run input (between begin end) (between before after) status
run_ended saving o run input begin mid end before so_far after why s t records status e h none clean n r st =
    let count : records ≡ e.airs.came.air.records = n ∙ h.records in
    inl (record {
      rest = e.rest;
      so_far = so_far;
      airs = e.airs;
      end = why;
      ends = e.ends;
      stops = e.stops;
      lines = e.lines;
      changed = e.changed;
      refused = e.refused;
      lost = e.lost;
      reader = e.reader;
      written = whole_output begin.bytes end.bytes t.packets (output_at (course_ended e.airs.came)) none h.output;
      clean = clean ∙ e.clean;
      line_ups = h.line_ups;
      headline = h.headline;
      reports = subst (λ (m : ℕ). Reports (between so_far after) (end_outcome o.terms.slots m why).report) count r;
      status_is = st ∙ ap (λ (m : ℕ). (end_outcome o.terms.slots m why).status) count;
    })

pub end_failed : (saving : Saving) (o : AirOptions) (run : Run) (input : Device) (begin mid end before so_far after : Port) (why : RecordsEnd) (s : AirState) (sent status : ℕ)
    (e : EndsRecords saving run o.stop begin.bytes input (between begin mid) (between before so_far) why s) →
    Fails e.airs.came.run (ended e.airs.came.run e.airs.came.air) begin.bytes end.bytes sent → Failed mid.failed end.failed →
    Reports (between so_far after) (halt_line Write) → status ≡ 3 → AirsRecords saving o run input (between begin end) (between before after) status
end_failed saving o run input begin mid end before so_far after why s sent status e f failed r st = inr (record {
  rest = e.rest;
  so_far = so_far;
  airs = e.airs;
  stops = λ on. stopped_at_most e.airs.came why.why (e.stops on);
  course = course_ended e.airs.came;
  course_is = inr refl;
  sent = sent;
  fails = f;
  failed = subst (λ (n : ℕ). Failed n end.failed) e.clean failed;
  reports = r;
  status_is = st;
})

no_rest : (plans : JobPlans) → (plans_view plans []).rest ≡ []
no_rest (One c) = refl
no_rest (Two c) = refl

pub begun : (o : AirOptions) (before left : Port) (plans : JobPlans) (switch : Bool) → switch ≡ is_some o.periods →
    ReadsPlans switch (between before left) plans →
    Begins o before left (plans_view plans [])
begun o before left plans switch is r = record {
  front = r.front;
  read = r.has_read.read;
  clean = r.has_read.clean;
  job_is = r.plans_are ∙ ap (λ (b : Bool). job_of b r.front) is;
  no_rest = no_rest plans;
}

-- If the answer is `Periods`, the cause is too many periods.
periods_judged : (wanted : Option NewError) → Judges wanted (Some Periods) → wanted ≡ Some Periods
periods_judged None j = absurd (not_memory j)
  where
    not_memory : (◌≡◌ {A = Option NewError} (Some Periods) None) ⊎ (◌≡◌ {A = Option NewError} (Some Periods) (Some NoRoom)) → ⊥
    not_memory (inl e) = cc
    not_memory (inr e) = cc
periods_judged (Some cause) j = sym j

-- No run began, and the report gives the cause.
pub not_begun : (saving : Saving) (o : AirOptions) (input output faults : Device) (status : ℕ) (job : JobView) (cause : NewError) → Begins o input.before input.after job →
    Judges (begin_cause o job) (Some cause) → IsUntouched output → Reports faults (begin_outcome cause).report → status ≡ (begin_outcome cause).status →
    AirsJob saving o input output faults status
not_begun saving o input output faults status job Periods b j u r s =
    inr (inr (inl (record { job = job; begins = b; cause = periods_judged (begin_cause o job) j; unwritten = u; reports = r; status_is = s })))
not_begun saving o input output faults status job Capacity b j u r s = inr (inr (inr (record { clean = b.clean; unwritten = u; reports = r; status_is = s })))
not_begun saving o input output faults status job NoRoom b j u r s = inr (inr (inr (record { clean = b.clean; unwritten = u; reports = r; status_is = s })))

-- The run is that of the options that the words give, with the file that they name.
same_options : (x y : AirOptions) → ◌≡◌ {A = Option AirOptions} (Some x) (Some y) → x ≡ y
same_options x y e = cc

pub aired : (creates : List ℕ → Option (Option FileFault)) (keeps : List ℕ → Option Bool) (shown name : Option (List ℕ)) (options o : AirOptions)
    (wanted : Option AirOptions) (input output faults : Device) (status : ℕ) → shown ≡ name → Some options ≡ wanted → wanted ≡ Some o →
    AirsJob (saving_of creates keeps shown) options input output faults status → AirsJob (saving_of creates keeps name) o input output faults status
aired creates keeps shown name options o wanted input output faults status named is given airs =
    subst (λ (n : Option (List ℕ)). AirsJob (saving_of creates keeps n) o input output faults status) named
    (subst (λ (x : AirOptions). AirsJob (saving_of creates keeps shown) x input output faults status) (same_options options o (is ∙ given)) airs)
