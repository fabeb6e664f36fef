-- `tsjob` and then `tsmux`, if `tsjob` reads its streams from files.
use Rattle.std.proofs.Common.{◌≡◌, ◌<◌, ℕ, ◌+◌, ◌-◌, ◌/◌, ◌^◌, ◌==◌, Bool, true, false, if◌then◌else◌, List, [], ◌∷◌, length, take, take_all, is_some, Option}
use Rattle.std.proofs.Common.{Some, None, Result, Ok, Err, All, refl, sym, ap, ◌∙◌, subst, arith, inl, inr}
use Rattle.std.specs.Prelude.{is_ok}
use Rattle.std.specs.List.{AllZip}
use Rattle.clap.specs.Words.{Text}
use Rattle.pid_findings.specs.Views.{FindingView}
use Rattle.packet_sync.specs.NoStreams.{no_stream}
use Rattle.packet_sync.specs.declared.file_form.FileForm.{FileForm}
use Rattle.es_units.proofs.KeptDeclarations.{units_kept}
use Rattle.job_inputs.specs.JobInput.{JobInputView, job_input}
use Rattle.job_programs.specs.JobOptions.{JobOptionsView}
use Rattle.job_inputs.specs.JoinedInputs.{AreMovedByOne, AreUnitsIn, IsMovedIn, JoinedInputsView}
use Rattle.job_programs.specs.declared.program_clock.ProgramClock.{ProgramClock}
use Rattle.job_programs.specs.declared.refusal.JobRefusal.{JobRefusal}
use Rattle.job_inputs.proofs.JoinedStreams.{constants_kept}
use Rattle.unit_records.proofs.RecordBytes.{records_are_read}
use Rattle.laws_job.specs.JoinedLaws.{JoinedAcceptedLaw, JoinedAgainLaw}
use Rattle.laws_job.specs.Laws.{schedule_for}
use Rattle.laws_job.proofs.AcceptedUnits.{all_kept_in}
use Rattle.devices.specs.Devices.{Device}
use Rattle.devices.specs.Files.{Files}
use Rattle.devices.specs.Outcomes.{Outcome}
use Rattle.job_run.specs.declared.job_arguments.Subcommand.{Subcommand}
use Rattle.job_run.specs.JobArguments.{JobArgumentsView}
use Rattle.job_run.specs.Outcomes.{IsWritten}
use Rattle.job_run.specs.SeveralInputs.{GivesIn, GivesJobIn, InputsLead, JoinedLead, NamedStream, all_findings, all_joined, input_or_line, packets_input}
use Rattle.job_run.specs.SeveralInputs.{stream_input, stream_inputs, with_first}
use Rattle.job_run.specs.StreamFiles.{FilesLead, HasRead, IsStop, PerformsFiles, headed_outcome}
use Rattle.job_run.specs.Streams.{findings_for, in_step, notes_for}
use Rattle.tsjob_cli.specs.Arguments.{arguments_in}
use Rattle.tsjob_cli.specs.FileWords.{file_arguments, file_words, option_words, unless_streamed}
use Rattle.checked_jobs.specs.declared.multiplexing.MuxOptions.{MuxOptions}
use Rattle.checked_jobs.specs.MuxJobs.{mux_job_of}
use Rattle.laws_pipe.specs.PipedFiles.{FilesGoThrough, JoinedIsRead, TakesInput, TheFilePipe, as_joined_job, wire_units_in}
use Rattle.laws_pipe.specs.PipedJobs.{MuxesAll}
use Rattle.laws_pipe.proofs.DescriptionLines.{PlainInformation, description_passes}
use Rattle.laws_pipe.proofs.JoinedConstants.{constants_for}
use Rattle.laws_pipe.proofs.JoinedInformation.{all_are_plain, each_plain}
use Rattle.laws_pipe.proofs.JoinedUnitsAgain.{joined_units_again, moved_in}
use Rattle.laws_pipe.proofs.PipedRuns.{muxed, none_written, taken}
use Rattle.laws_pipe.proofs.PlainLines.{Passes}
use Rattle.laws_pipe.proofs.PlainNames.{else_some, options_plain}
use Rattle.laws_pipe.proofs.ReadJobs.{job_again, text_in_range}
use Rattle.laws_pipe.proofs.TakenJobs.{no_cause}
use Rattle.laws_job.proofs.PrivateData.{units_sixteen_in}
use Rattle.laws_pipe.proofs.WrittenRecords.{Fits, records_read, units_fit}

-- 1. The reader accepts the text that the writer writes

not_streamed : (o : Option JobArgumentsView) (a : JobArgumentsView) → unless_streamed o ≡ Some a → o ≡ Some a
unfolding unless_streamed
not_streamed None a e = absurd cc
not_streamed (Some b) a e = else_some (is_some b.stream) (Some b) a e

-- The words before the names
its_words : (words : List Text) (a : JobArgumentsView) → file_arguments words ≡ Some a → arguments_in (option_words words) ≡ Some a
unfolding file_arguments
its_words words a e =
    not_streamed (arguments_in (option_words words)) a (else_some (length (file_words words) == 0) (unless_streamed (arguments_in (option_words words))) a e)

fits : (w : JobOptionsView) (inputs : List (List FindingView)) (j : JoinedInputsView) (output : List ℕ) (job : GivesJobIn w inputs j output) →
    All Fits job.units
fits w inputs j output job =
    let ranges = text_in_range job.description job.text job.job.read in
    units_fit (schedule_for job.description job.plan) job.units ranges
    (all_kept_in units_kept w.make_dts (schedule_for job.description job.plan) inputs j.origins job.units ranges job.found)
    (units_sixteen_in w.make_dts inputs j.origins job.description job.units job.found) job.found.numbered

read_with : (w : JobOptionsView) (inputs : List (List FindingView)) (j : JoinedInputsView) (output : List ℕ) → PlainInformation j.input.information →
    (job : GivesJobIn w inputs j output) →
    mux_job_of false output ≡ Ok (as_joined_job job)
read_with w inputs j output plain job =
    ap (mux_job_of false) job.is
    ∙ job_again job.description job.plan job.text job.units
    (subst Passes (sym job.job.described.text_is) (description_passes w j.input job.job.described.rate plain)) job.utf8 job.job.read job.serving job.within
    (records_read records_are_read job.units (fits w inputs j output job))

pub joined_is_read : JoinedIsRead
joined_is_read words a inputs ms j output asked takes is job =
    let plain = options_plain (option_words words) a (its_words words a asked) in
    read_with a.options inputs j output (all_are_plain ms j is (each_plain a.options inputs ms plain takes)) job

-- 2. The input that a job takes from the streams

its_input : (falling : List ℕ) (r : Result JobInputView JobRefusal) (m : JobInputView) → input_or_line falling r ≡ Ok m → r ≡ Ok m
unfolding input_or_line
its_input falling (Ok x) m e = let same : x ≡ m = cc in ap (λ (y : JobInputView). Ok y) same
its_input falling (Err refusal) m e = absurd cc

of_packets : (w : JobOptionsView) (bytes : List ℕ) (p : Option FileForm) (m : JobInputView) → packets_input w bytes p ≡ Ok m →
    job_input w (length (in_step bytes) / 188) (findings_for w bytes) ≡ Ok m
unfolding packets_input
of_packets w bytes (Some form) m e = absurd cc
of_packets w bytes None m e = its_input (notes_for w bytes).falling (job_input w (length (in_step bytes) / 188) (findings_for w bytes)) m e

its_findings : (w : JobOptionsView) (bytes : List ℕ) (m : JobInputView) → stream_input w bytes ≡ Ok m → TakesInput w (findings_for w bytes) m
its_findings w bytes m e = record { count = length (in_step bytes) / 188; is = of_packets w bytes (no_stream bytes) m e }

record FirstOf (r : Result JobInputView (List ℕ)) (rest : Result (List JobInputView) (List ℕ)) (ms : List JobInputView) : Type 0 where
  first : JobInputView
  first_is : r ≡ Ok first
  more : List JobInputView
  more_are : rest ≡ Ok more
  are : first ∷ more ≡ ms

first_of_all : (number : ℕ) (name : List ℕ) (r : Result JobInputView (List ℕ)) (rest : Result (List JobInputView) (List ℕ)) (ms : List JobInputView) →
    with_first number name r rest ≡ Ok ms →
    FirstOf r rest ms
unfolding with_first
first_of_all number name (Err line) rest ms e = absurd cc
first_of_all number name (Ok m) (Err lines) ms e = absurd cc
first_of_all number name (Ok m) (Ok more) ms e =
    let same : m ∷ more ≡ ms = cc in record { first = m; first_is = refl; more = more; more_are = refl; are = same }

takes_each : (w : JobOptionsView) (number : ℕ) (streams : List NamedStream) (ms : List JobInputView) → stream_inputs w number streams ≡ Ok ms →
    AllZip (TakesInput w) (all_findings w streams) ms
unfolding stream_inputs
takes_each w number [] ms e = let same : [] ≡ ms = cc in subst (AllZip (TakesInput w) []) same tt
takes_each w number (s ∷ streams) ms e =
    let all = first_of_all number s.name (stream_input w s.bytes) (stream_inputs w (number + 1) streams) ms e in
    subst (λ (l : List JobInputView). AllZip (TakesInput w) (all_findings w (s ∷ streams)) l) all.are
    (its_findings w s.bytes all.first all.first_is, takes_each w (number + 1) streams all.more all.more_are)

-- 3. The output of `tsjob`

record JoinedOf (a : JobArgumentsView) (streams : List NamedStream) (ms : List JobInputView) (o : Outcome) : Type 0 where
  joined : JoinedInputsView
  is : all_joined ms ≡ Ok joined
  gives : GivesIn a.subcommand a.options (all_findings a.options streams) joined o.output

joined_by : (a : JobArgumentsView) (streams : List NamedStream) (ms : List JobInputView) (o : Outcome) (r : Result JoinedInputsView JobRefusal) →
    all_joined ms ≡ r →
    JoinedLead a streams ms r o → 0 < length o.output → JoinedOf a streams ms o
joined_by a streams ms o (Err refusal) e leads some = absurd (none_written o _ leads some)
joined_by a streams ms o (Ok j) e (inl given) some = record { joined = j; is = e; gives = given.gives }
joined_by a streams ms o (Ok j) e (inr refused) some = absurd (none_written o _ refused.is some)

record InputsOf (a : JobArgumentsView) (streams : List NamedStream) (o : Outcome) : Type 0 where
  inputs : List JobInputView
  are : stream_inputs a.options 0 streams ≡ Ok inputs
  of : JoinedOf a streams inputs o

inputs_by : (a : JobArgumentsView) (streams : List NamedStream) (o : Outcome) (r : Result (List JobInputView) (List ℕ)) →
    stream_inputs a.options 0 streams ≡ r → InputsLead a streams r o →
    0 < length o.output → InputsOf a streams o
inputs_by a streams o (Err lines) e leads some = absurd (none_written o _ leads some)
inputs_by a streams o (Ok ms) e leads some = record { inputs = ms; are = e; of = joined_by a streams ms o (all_joined ms) refl leads some }

-- A file that can't be opened or read leads to no output.
none_stopped : (files : Files) (o alone : Outcome) (number : ℕ) (name : List ℕ) → o ≡ headed_outcome number name alone → IsStop files name alone →
    0 < length o.output → ⊥
none_stopped files o alone number name outcome_is (inl e) some =
    let none : length o.output ≡ 0 = ap (λ (x : Outcome). length x.output) outcome_is ∙ ap (λ (x : Outcome). length x.output) e.0 in
    absurd (omega (arith, none, some))
none_stopped files o alone number name outcome_is (inr e) some =
    let none : length o.output ≡ 0 = ap (λ (x : Outcome). length x.output) outcome_is ∙ ap (λ (x : Outcome). length x.output) e.0 in
    absurd (omega (arith, none, some))

record StreamsOf (a : JobArgumentsView) (files : Files) (names : List Text) (o : Outcome) : Type 0 where
  streams : List NamedStream
  read : AllZip (HasRead files) names streams
  of : InputsOf a streams o

streams_by : (a : JobArgumentsView) (files : Files) (names : List Text) (o : Outcome) → FilesLead a files names o → 0 < length o.output →
    StreamsOf a files names o
streams_by a files names o (inl stop) some = absurd (none_stopped files o stop.alone stop.number stop.name stop.outcome_is stop.is some)
streams_by a files names o (inr led) some =
    let of = inputs_by a led.streams o (stream_inputs a.options 0 led.streams) refl led.leads some in
    let size = led.all (ap (λ (r : Result (List JobInputView) (List ℕ)). is_ok r) of.are) in
    let whole : take (length led.streams) names ≡ names = take_all (length led.streams) names (omega (arith, size)) in
    record { streams = led.streams; read = subst (λ (l : List Text). AllZip (HasRead files) l led.streams) whole led.read; of = of }

record LedTo (a : JobArgumentsView) (files : Files) (names : List Text) (output : List ℕ) : Type 0 where
  outcome : Outcome
  leads : FilesLead a files names outcome
  same : outcome.output ≡ output

written_by : (a : JobArgumentsView) (files : Files) (names : List Text) (output : List ℕ) (job faults : Device) (status : ℕ) (o : Outcome) →
    FilesLead a files names o →
    IsWritten o job faults status → status < 3 → job.before.bytes ≡ Some [] → job.after.bytes ≡ Some output → LedTo a files names output
written_by a files names output job faults status o leads (inl takes) ended empty is =
    record { outcome = o; leads = leads; same = taken job.before.bytes job.after.bytes o.output output empty is takes.0 }
written_by a files names output job faults status o leads (inr failed) ended empty is = absurd (let no : ⊥ = omega (arith, failed.3, ended) in no)

led_to : (a : JobArgumentsView) (files : Files) (names : List Text) (output : List ℕ) (job faults : Device) (status : ℕ) →
    PerformsFiles a files names job faults status → status < 3 →
    job.before.bytes ≡ Some [] → job.after.bytes ≡ Some output → LedTo a files names output
led_to a files names output job faults status (inl ends) ended empty is =
    written_by a files names output job faults status ends.outcome ends.leads ends.written ended empty is
led_to a files names output job faults status (inr lacks) ended empty is = absurd (let no : ⊥ = omega (arith, lacks.status_is, ended) in no)

-- 4. Both programs

-- Each clock of each input keeps its constant.
moved_each : (made : Bool) (inputs : List (List FindingView)) (ms : List JobInputView) (j : JoinedInputsView) (constant : ℕ → ProgramClock → ℕ) →
    all_joined ms ≡ Ok j →
    AreMovedByOne made inputs constant 0 ms → AllZip (IsMovedIn made inputs constant) j.origins j.input.streams
unfolding all_joined
moved_each made inputs [] j constant is moved = absurd cc
moved_each made inputs (m ∷ ms) j constant is moved = constants_kept made inputs constant m ms j moved is

through : JoinedAcceptedLaw → JoinedAgainLaw →
    (words : List Text) (a : JobArgumentsView) (o : MuxOptions) (files : Files) (output : List ℕ) (read_again packets faults : Device) (status : ℕ) →
    file_arguments words ≡ Some a → MuxesAll o output read_again packets faults status → (streams : List NamedStream) →
    AllZip (HasRead files) (file_words words) streams →
    (ms : List JobInputView) → stream_inputs a.options 0 streams ≡ Ok ms → (j : JoinedInputsView) → all_joined ms ≡ Ok j →
    GivesJobIn a.options (all_findings a.options streams) j output →
    FilesGoThrough a o files (file_words words) output packets faults status
through accepted again words a o files output read_again packets faults status asked m streams streams_are ms ms_are j j_is job =
    let inputs = all_findings a.options streams in
    let takes = takes_each a.options 0 streams ms ms_are in
    let ranges = text_in_range job.description job.text job.job.read in
    let read = joined_is_read words a inputs ms j output asked takes j_is job in
    let all_taken = accepted a.options.make_dts (schedule_for job.description job.plan) inputs j.origins job.units ranges job.found in
    let none = no_cause o (as_joined_job job) refl m.all_slots all_taken in
    let done = muxed o output (as_joined_job job) read_again packets faults status m read none in
    let constants = constants_for a.options inputs ms takes in
    let moved = moved_each a.options.make_dts inputs ms j constants.constant j_is constants.moved in
    record {
      streams = streams;
      streams_are = streams_are;
      inputs = ms;
      inputs_are = ms_are;
      joined = j;
      joined_is = j_is;
      job = job;
      read = read;
      good = done.good;
      silent = done.silent;
      written = done.written;
      kept = done.kept;
      origins = job.found.same;
      time = λ number clock. job.description.base0 + 2 ^ 33 - constants.constant number clock;
      units = λ own bytes_out short k s from is at keep.
          joined_units_again again inputs j.origins o (as_joined_job job) (constants.constant from.input from.clock) refl m.all_slots bytes_out ranges
          job.serving (subst (λ (made : Bool). AreUnitsIn made inputs j.origins job.description job.units) own job.found) short k s
          (wire_units_in inputs from) is
          (moved_in a.options.make_dts inputs constants.constant job.description j job.units own moved job.agree job.job.merged k s from is at keep);
    }

pub the_file_pipe : JoinedAcceptedLaw → JoinedAgainLaw → TheFilePipe
the_file_pipe accepted again words a o files output input job outcome_is job_status read_again packets faults status w m =
    let names = file_words words in
    let led = led_to a files names output job outcome_is job_status w.reads.performs w.ended w.empty w.output_is in
    let read = streams_by a files names led.outcome led.leads (subst (λ (xs : List ℕ). 0 < length xs) (sym led.same) w.some) in
    let all = read.of in
    let gives = subst (λ (word : Subcommand). GivesIn word a.options (all_findings a.options read.streams) all.of.joined output) w.whole
    (subst (λ (xs : List ℕ). GivesIn a.subcommand a.options (all_findings a.options read.streams) all.of.joined xs) led.same all.of.gives) in
    through accepted again words a o files output read_again packets faults status w.asked m read.streams read.read all.inputs all.are all.of.joined
    all.of.is gives
