-- The output of an answer, and the outcome of the input that was read.
use Rattle.std.proofs.Common.{◌≡◌, ◌∙◌, ◌+◌, ◌++◌, ◌∷◌, ◌/◌, ◌==◌, ◌&&◌, ℕ, suc, Bool, true, false, List, [], length, refl, sym, ap, ap₂, subst, append-nil}
use Rattle.std.proofs.Common.{Option, Some, None, is_some, Result, Ok, Err, IfOk, IsUtf8, All, inl, inr, arith}
use Rattle.std.specs.List.{AllZip}
use Rattle.std.proofs.lemmas.Bool.Decides.{nat_tests}
use Rattle.pes_packet.specs.AccessUnits.{AccessUnit}
use Rattle.pes_packet.specs.declared.marks.Marks.{Marks}
use Rattle.description_parts.specs.Described.{Described}
use Rattle.slot_plan.specs.Conditions.{IsServing}
use Rattle.slot_plan.specs.Planned.{Planned, plan_error}
use Rattle.slot_plan.specs.Text.{plan_text}
use Rattle.job_programs.specs.Answers.{Answers, Refuses}
use Rattle.stamp_repair.specs.References.{references_in}
use Rattle.packet_pcr.specs.declared.pcr_reading.FoundPcr.{FoundPcr}
use Rattle.job_inputs.specs.AskedMarks.{as_asked}
use Rattle.stream_jobs.specs.Jobs.{AllAgree, AreUnits, IsDescription, IsJob}
use Rattle.job_inputs.specs.JoinedInputs.{AreStreamsIn, AreUnitsIn, IsFoundIn, JoinedInputsView}
use Rattle.job_inputs.specs.JobInput.{JobInputView, job_input, AreStreams}
use Rattle.stream_jobs.specs.WhyNoJob.{IsWhyNoDescription, IsWhyNoReasons}
use Rattle.job_programs.specs.JobOptions.{JobOptionsView}
use Rattle.job_programs.specs.declared.refusal.JobError.{JobError}
use Rattle.job_programs.specs.declared.refusal.JobError.TheVariants.{Memory, Refused}
use Rattle.job_programs.specs.declared.refusal.JobRefusal.{JobRefusal}
use Rattle.pid_findings.specs.Views.{FindingView}
use Rattle.devices.specs.Devices.{Device, IsUntouched}
use Rattle.devices.specs.Outcomes.{halt_line, Outcome, reported}
use Rattle.devices.specs.Lines.{Reports}
use Rattle.devices.specs.declared.halt.Halt.TheVariants as halt
use Rattle.devices.proofs.Performances.{no_room, performed, unwritten}
use Rattle.job_run.specs.declared.job_arguments.Subcommand.{Subcommand}
use Rattle.job_run.specs.declared.job_arguments.Subcommand.TheVariants.{Whole, Describe, Units, Why}
use Rattle.job_run.specs.JobArguments.{JobArgumentsView}
use Rattle.packet_sync.specs.NoStreams.{searched, no_stream}
use Rattle.packet_sync.specs.declared.file_form.FileForm.{FileForm}
use Rattle.job_run.specs.SlipLines.{no_stream_line}
use Rattle.job_run.specs.Outcomes.{BytesLead, FindingsLead, Gives, GivesJob, GivesReasons, GivesUnits, IsFound, IsReasonOutput, IsWritten, Leads, InputLeads}
use Rattle.job_run.specs.Outcomes.{LeadsWhole, PerformsJob, ReportsRefusal, ReportsWhy, Withholds, found_line}
use Rattle.std.specs.Int.{bytes_high_first}
use Rattle.unit_records.specs.Records.{private_bytes, private_size, record_head, word_of}
use Rattle.es_feed.specs.Records.{records_of, written}
use Rattle.job_run.specs.SeveralInputs.{GivesJobIn}
use Rattle.job_run.specs.Streams.{IsOfStream, IsRead, PacketNotesView, ReadingView, ReadsStream, asked_findings, findings_by, findings_for, in_step, notes_by}
use Rattle.job_run.specs.Streams.{notes_for}
use Rattle.job_run.proofs.Readings.{form_stays}
use Rattle.job_programs.specs.FoundUnits.{FitsQueue}

-- 1. The output of a subcommand

-- A text without a plan and without units
pub text_alone : (text plan : List ℕ) (units : List (ℕ × AccessUnit)) → plan ≡ [] → units ≡ [] → written text plan units ≡ text
text_alone text plan units p u =
    ap (λ (x : List ℕ). written text x units) p ∙ (ap (λ (x : List (ℕ × AccessUnit)). written text [] x) u ∙ (append-nil (text ++ []) ∙ append-nil text))

-- A list with an element is not empty.
suc_is_not : (n : ℕ) → (suc n == 0) ≡ false
suc_is_not n = grind (arith, nat_tests)

cons_is_not : {A : Type 0} (x : A) (xs : List A) → (length (x ∷ xs) == 0) ≡ false
cons_is_not x xs = suc_is_not (length xs)

record_is_not : (stream size : ℕ) (marks : Marks) (dts pts : ℕ) (unit more : List ℕ) →
    (length ((record_head stream marks size dts pts ++ unit) ++ more) == 0) ≡ false
unfolding record_head
record_is_not stream size marks dts pts unit more =
    cons_is_not stream
    (((bytes_high_first 4 (word_of marks (private_size marks + size))
    ++ (bytes_high_first 8 dts ++ (bytes_high_first 8 pts ++ private_bytes marks.private_data))) ++ unit) ++ more)

-- Nothing is written exactly if there is no text, no plan and no unit.
pub nothing_written : (text plan : List ℕ) (units : List (ℕ × AccessUnit)) →
    ((length text == 0) && ((length plan == 0) && (length units == 0))) ≡ (length (written text plan units) == 0)
nothing_written [] [] [] = refl
nothing_written [] [] (u ∷ units) = cons_is_not u units ∙ sym (record_is_not u.0 (length u.1.bytes) u.1.marks u.1.dts u.1.pts u.1.bytes (records_of units))
nothing_written [] (p ∷ plan) units = rw (cons_is_not p plan) (sym (cons_is_not p (plan ++ records_of units)))
nothing_written (t ∷ text) plan units = rw (cons_is_not t text) (sym (cons_is_not t ((text ++ plan) ++ records_of units)))

pub given_job : (w : JobOptionsView) (findings : List FindingView) (m : JobInputView) (text plan : List ℕ) (d : Described) (p q : Planned)
    (units : List (ℕ × AccessUnit)) →
    IsJob w m d text units → AreUnits w.make_dts findings d units → AllAgree w.clock d m → IsServing d p → IsUtf8 text → plan_error q.slots q.certificate ≡ None →
    plan ≡ plan_text q → q ≡ p →
    GivesJob w findings m (written text plan units)
given_job w findings m text plan d p q units j u a s utf8 within e f = record {
  description = d;
  text = text;
  plan = p;
  units = units;
  job = j;
  found = u;
  agree = a;
  serving = s;
  utf8 = utf8;
  within = subst (λ (x : Planned). plan_error x.slots x.certificate ≡ None) f within;
  is = ap (λ (x : List ℕ). written text x units) (e ∙ ap plan_text f);
}

-- A job of joined inputs is given.
pub given_job_in : (w : JobOptionsView) (inputs : List (List FindingView)) (j : JoinedInputsView) (m : JobInputView) (text plan : List ℕ) (d : Described)
    (p q : Planned) (units : List (ℕ × AccessUnit)) →
    j.input ≡ m → IsJob w m d text units → AreUnitsIn w.make_dts inputs j.origins d units → AllAgree w.clock d m → IsServing d p → IsUtf8 text →
    plan_error q.slots q.certificate ≡ None → plan ≡ plan_text q → q ≡ p →
    GivesJobIn w inputs j (written text plan units)
given_job_in w inputs j m text plan d p q units same job u a s utf8 within e f = record {
  description = d;
  text = text;
  plan = p;
  units = units;
  job = subst (λ (x : JobInputView). IsJob w x d text units) (sym same) job;
  found = u;
  agree = subst (λ (x : JobInputView). AllAgree w.clock d x) (sym same) a;
  serving = s;
  utf8 = utf8;
  within = subst (λ (x : Planned). plan_error x.slots x.certificate ≡ None) f within;
  is = ap (λ (x : List ℕ). written text x units) (e ∙ ap plan_text f);
}

-- The streams of the joined inputs are the streams of the input.
pub found_in_input : (made : Bool) (inputs : List (List FindingView)) (j : JoinedInputsView) (m : JobInputView) → j.input ≡ m → AreStreamsIn made inputs j →
    AllZip (IsFoundIn made inputs) j.origins m.streams × All FitsQueue m.streams
found_in_input made inputs j m same streams = (
  subst (λ (x : JobInputView). AllZip (IsFoundIn made inputs) j.origins x.streams) same streams.found,
  subst (λ (x : JobInputView). All FitsQueue x.streams) same streams.fits,
)

-- A property of an input is a property of the joined inputs if they are this input.
pub described_in : (w : JobOptionsView) (j : JoinedInputsView) (m : JobInputView) (output : List ℕ) → j.input ≡ m → IsDescription w m output →
    IsDescription w j.input output
described_in w j m output same is = subst (λ (x : JobInputView). IsDescription w x output) (sym same) is

pub units_given_in : (j : JoinedInputsView) (m : JobInputView) (output : List ℕ) → j.input ≡ m → GivesUnits m output → GivesUnits j.input output
units_given_in j m output same is = subst (λ (x : JobInputView). GivesUnits x output) (sym same) is

pub reasons_given_in : (w : JobOptionsView) (j : JoinedInputsView) (m : JobInputView) (output : List ℕ) → j.input ≡ m → GivesReasons w m output →
    GivesReasons w j.input output
reasons_given_in w j m output same is = subst (λ (x : JobInputView). GivesReasons w x output) (sym same) is

-- A whole job is given if it is requested.
pub whole_given : (subcommand : Subcommand) (w v : JobOptionsView) (findings : List FindingView) (m : JobInputView) (r : Result (List ℕ) JobError) →
    subcommand ≡ Whole → w ≡ v →
    ((all : List FindingView) → AreStreams w.make_dts all m → IfOk r (λ p. GivesJob w all m p)) → AreStreams v.make_dts findings m →
    IfOk r (λ p. Gives subcommand v findings m p)
whole_given subcommand w v findings m r is same given streams =
    subst (λ (x : Subcommand). IfOk r (λ p. Gives x v findings m p)) (sym is)
    (subst (λ (x : JobOptionsView). IfOk r (λ p. GivesJob x findings m p)) same
    (given findings (subst (λ (x : JobOptionsView). AreStreams x.make_dts findings m) (sym same) streams)))

-- Four texts, one after another
pub four_texts : (a b c d first second third fourth : List ℕ) → a ≡ first → b ≡ a ++ second → c ≡ b ++ third → d ≡ c ++ fourth →
    d ≡ first ++ second ++ third ++ fourth
four_texts a b c d first second third fourth e f h k =
    k ∙ ap (λ (x : List ℕ). x ++ fourth) (h ∙ ap (λ (x : List ℕ). x ++ third) (f ∙ ap (λ (x : List ℕ). x ++ second) e))

-- The reasons, and the rate found by trial
pub reported_nothing : (w : JobOptionsView) (m : JobInputView) (lines output : List ℕ) → (length lines == 0) ≡ true → output ≡ lines →
    IsReasonOutput (length lines == 0) w m lines output
reported_nothing w m lines output e h = subst (λ (b : Bool). IsReasonOutput b w m lines output) (sym e) h

pub reported_found : (w : JobOptionsView) (m : JobInputView) (lines output : List ℕ) (found : Option ℕ) → (length lines == 0) ≡ false →
    IsFound w m found → output ≡ lines ++ found_line found → IsReasonOutput (length lines == 0) w m lines output
reported_found w m lines output found e f h =
    subst (λ (b : Bool). IsReasonOutput b w m lines output) (sym e) (record { found = found; tried = f; is = h })

-- 2. The outcome of a job input

undescribed : (rate : Option ℕ) (w : JobOptionsView) (m : JobInputView) → IsWhyNoDescription rate w m Memory
undescribed (Some arguments) w m = refl
undescribed None w m = tt

unreasoned : (rate : Option ℕ) (w : JobOptionsView) (m : JobInputView) → IsWhyNoReasons rate w m Memory
unreasoned (Some arguments) w m = tt
unreasoned None w m = tt

-- There is no memory for the output of a subcommand.
pub no_memory : (subcommand : Subcommand) (w : JobOptionsView) (m : JobInputView) (error : JobError) → error ≡ Memory → Withholds subcommand w m error
no_memory Whole w m error e = subst (λ (x : JobError). Withholds Whole w m x) (sym e) tt
no_memory Describe w m error e = subst (λ (x : JobError). Withholds Describe w m x) (sym e) (undescribed w.rate w m)
no_memory Units w m error e = e
no_memory Why w m error e = subst (λ (x : JobError). Withholds Why w m x) (sym e) (unreasoned w.rate w m)

pub withheld : (arguments : JobArgumentsView) (notes : PacketNotesView) (findings : List FindingView) (m : JobInputView) (error : JobError) (o : Outcome) →
    Withholds arguments.subcommand arguments.options m error → ReportsWhy error o → InputLeads arguments notes findings (Ok m) o
withheld arguments notes findings m Memory o h t = absurd t
withheld arguments notes findings m (Refused refusal) o h t = inr (record { refusal = refusal; holds = h; is = t })

-- There is a job input.
answered : (r : Result JobInputView JobRefusal) (m : JobInputView) → Answers r (Ok m) → r ≡ Ok m
unfolding Answers
answered r m a = a

pub with_input : (arguments : JobArgumentsView) (notes : PacketNotesView) (count : ℕ) (findings : List FindingView) (m : JobInputView) (o : Outcome) →
    Answers (job_input arguments.options count findings) (Ok m) → InputLeads arguments notes findings (Ok m) o → FindingsLead arguments notes count findings o
with_input arguments notes count findings m o a l =
    subst (λ (r : Result JobInputView JobRefusal). InputLeads arguments notes findings r o) (sym (answered (job_input arguments.options count findings) m a)) l

-- There is no job input.
refused : (arguments : JobArgumentsView) (notes : PacketNotesView) (findings : List FindingView) (r : Result JobInputView JobRefusal) (error : JobError)
    (o : Outcome) →
    Answers r (Err error) → ReportsRefusal notes.falling error o → InputLeads arguments notes findings r o
unfolding Answers Refuses
refused arguments notes findings r Memory o a t = absurd t
refused arguments notes findings r (Refused refusal) o a t = subst (λ (r : Result JobInputView JobRefusal). InputLeads arguments notes findings r o) (sym a) t

pub without_input : (arguments : JobArgumentsView) (notes : PacketNotesView) (count : ℕ) (findings : List FindingView) (error : JobError) (o : Outcome) →
    Answers (job_input arguments.options count findings) (Err error) → ReportsRefusal notes.falling error o → FindingsLead arguments notes count findings o
without_input arguments notes count findings error o a t = refused arguments notes findings (job_input arguments.options count findings) error o a t

-- 3. The outcome of the bytes that were read

-- A stream that was read
pub carried_lead : (arguments : JobArgumentsView) (bytes : List ℕ) (notes said : PacketNotesView) (references : List FoundPcr) (size : ℕ)
    (at_times marked findings found : List FindingView) (w : JobOptionsView) (o : Outcome) →
    IsOfStream bytes notes references found size → findings ≡ found → w ≡ arguments.options → marked ≡ as_asked w findings →
    said ≡ notes_by w.joined references marked notes → at_times ≡ findings_by w references marked → FindingsLead arguments said (size / 188) at_times o →
    BytesLead arguments bytes None o
carried_lead arguments bytes notes said references size at_times marked findings found w o t f asked marks reports times l =
    let asked_are : marked ≡ asked_findings arguments.options bytes =
    marks ∙ ap (λ (x : JobOptionsView). as_asked x findings) asked ∙ ap (λ (x : List FindingView). as_asked arguments.options x) (f ∙ t.found_is) in
    let all : at_times ≡ findings_for arguments.options bytes =
    times ∙ ap (λ (x : JobOptionsView). findings_by x references marked) asked
    ∙ ap₂ (λ (r : List FoundPcr) (x : List FindingView). findings_by arguments.options r x) t.references_are asked_are in
    let notes_are : said ≡ notes_for arguments.options bytes =
    reports ∙ ap (λ (x : JobOptionsView). notes_by x.joined references marked notes) asked
    ∙ ap₂ (λ (r : List FoundPcr) (x : List FindingView). notes_by arguments.options.joined r x notes) t.references_are asked_are
    ∙ ap (λ (n : PacketNotesView). notes_by arguments.options.joined (references_in (in_step bytes)) (asked_findings arguments.options bytes) n) t.notes_are in
    subst (λ (x : PacketNotesView). FindingsLead arguments x (length (in_step bytes) / 188) (findings_for arguments.options bytes) o) notes_are
    (subst (λ (x : List FindingView). FindingsLead arguments said (length (in_step bytes) / 188) x o) all
    (subst (λ (n : ℕ). FindingsLead arguments said (n / 188) at_times o) t.size_is l))

pub none_lead : (arguments : JobArgumentsView) (bytes : List ℕ) (o : Outcome) → None ≡ no_stream bytes → BytesLead arguments bytes None o →
    Leads arguments bytes o
none_lead arguments bytes o e l = subst (λ (x : Option FileForm). BytesLead arguments bytes x o) e l

pub form_lead : (arguments : JobArgumentsView) (bytes : List ℕ) (form : FileForm) (o : Outcome) → Some form ≡ no_stream bytes →
    o ≡ reported (no_stream_line form) → Leads arguments bytes o
form_lead arguments bytes form o e l = subst (λ (x : Option FileForm). BytesLead arguments bytes x o) e l

-- The first 4 MiB show that bytes are no stream, whatever bytes follow.
leads_on : (arguments : JobArgumentsView) (front more : List ℕ) (w : Option FileForm) (o : Outcome) → length front ≡ searched →
    no_stream front ≡ w → is_some w ≡ true → BytesLead arguments front w o → Leads arguments (front ++ more) o
leads_on arguments front more None o size e some l = absurd cc
leads_on arguments front more (Some form) o size e some l =
    subst (λ (x : Option FileForm). BytesLead arguments (front ++ more) x o) (sym (form_stays front more size ∙ e)) l

pub outcome_written : (arguments : JobArgumentsView) (r : ReadingView) (o : Outcome) (input output faults : Device) (status : ℕ) → ReadsStream input (Ok r) →
    ((bytes : List ℕ) → IsRead bytes r → Leads arguments bytes o) → IsWritten o output faults status → PerformsJob arguments input output faults status
outcome_written arguments r o input output faults status (inl s) l (inl w) =
    inl (performed (LeadsWhole arguments) s.bytes o input output faults status s.read (l s.bytes s.is.0, s.is.1) w.0 w.1 w.2 w.3)
outcome_written arguments r o input output faults status (inl s) l (inr w) =
    inl (unwritten (LeadsWhole arguments) s.bytes o input output faults status s.read (l s.bytes s.is.0, s.is.1) w.0 w.1 w.2 w.3)
outcome_written arguments r o input output faults status (inr f) l w = inr (record {
  front = f.front;
  size_is = f.has.size_is;
  read = f.has.read;
  clean = f.has.clean;
  outcome = o;
  leads = λ more. leads_on arguments f.front more (no_stream f.front) o f.has.size_is refl f.form (l f.front f.has.is);
  written = w;
})

pub no_memory_left : (arguments : JobArgumentsView) (r : ReadingView) (input output faults : Device) (status : ℕ) → ReadsStream input (Ok r) →
    IsUntouched output → Reports faults (halt_line halt.Memory) → status ≡ 3 → PerformsJob arguments input output faults status
no_memory_left arguments r input output faults status (inl s) u m e =
    inl (no_room (LeadsWhole arguments) s.bytes input output faults status s.read u m e)
no_memory_left arguments r input output faults status (inr f) u m e =
    inl (inr (inr (inl (record { clean = f.has.clean; unwritten = u; reports = m; status_is = e }))))
