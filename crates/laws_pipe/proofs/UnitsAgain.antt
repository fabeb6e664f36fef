-- In the packets of a written job a demultiplexer finds the units of the stream.
use Rattle.std.proofs.Common.{◌≡◌, ◌≤◌, ℕ, ◌+◌, ◌-◌, ◌*◌, ◌/◌, ◌^◌, ◌==◌, min, max, Bool, false, List, [], ◌∷◌, filter, fold, map, slice_get, Some, None, All}
use Rattle.std.proofs.Common.{ap, subst, ◌∙◌, arith, mul-le-mul, mul-le-mul_right}
use Rattle.std.proofs.lemmas.List.Elements.{All-nil, All-cons, All-filter, All-map, All-weaker}
use Rattle.pes_packet.specs.AccessUnits.{AccessUnit}
use Rattle.pes_packet.specs.Units.{units_of}
use Rattle.description_parts.specs.Described.{Described, DescribedStream}
use Rattle.description_parts.specs.Ranges.{IsInRange}
use Rattle.pid_findings.specs.Views.{FindingView}
use Rattle.slot_plan.specs.Conditions.{IsServing}
use Rattle.mux_core.specs.WholeJobs.{job_history, output_of}
use Rattle.es_units.specs.CarriedUnits.{wire_units, apart_wire_units}
use Rattle.es_moments.specs.Merging.{AreMerged}
use Rattle.job_inputs.specs.ClockConstants.{HasConstants, IsMovedBy, clock_of}
use Rattle.job_programs.specs.FoundUnits.{AreMoved, KeepDts, source_of}
use Rattle.job_programs.proofs.KeptDts.{kept_moved}
use Rattle.job_inputs.specs.JobInput.{JobInputView}
use Rattle.job_programs.specs.JobOptions.{JobOptionsView}
use Rattle.job_programs.specs.JobPrograms.{JobProgramView, clock_in}
use Rattle.stream_jobs.specs.Jobs.{AllAgree, AreUnits, IsEntry}
use Rattle.job_programs.specs.JobStreams.{TimedStreamView}
use Rattle.job_programs.specs.declared.program_clock.ProgramClock.{ProgramClock}
use Rattle.stream_jobs.proofs.JobUnits.{unit_stream_of}
use Rattle.laws_job.specs.Laws.{AllDue, FoundAgainLaw, schedule_for}
use Rattle.checked_jobs.specs.JobSchedules.{schedule_by}
use Rattle.job_run.specs.Streams.{findings_of}
use Rattle.checked_jobs.specs.declared.multiplexing.MuxOptions.{MuxOptions}
use Rattle.checked_jobs.specs.MuxJobs.{MuxJobView, greatest_dts}
use Rattle.checked_jobs.specs.Multiplexing.{first_of, packets_of, periods_of, schedule_of, slots_of}
use Rattle.laws_pipe.specs.PipedJobs.{AreLater}
use Rattle.laws_pipe.proofs.TakenJobs.{all_slots}

-- 1. A run ends no earlier than the DTS of each unit

abbrev later_dts : ℕ → ℕ × AccessUnit → ℕ
later_dts greatest entry = max greatest entry.1.dts

no_less : (units : List (ℕ × AccessUnit)) (from : ℕ) → from ≤ fold later_dts from units
no_less [] from = omega arith
no_less (entry ∷ units) from = omega (arith, no_less units (max from entry.1.dts))

all_below : (units : List (ℕ × AccessUnit)) (from : ℕ) → All (λ e. e.1.dts ≤ fold later_dts from units) units
all_below [] from = All-nil (λ e. e.1.dts ≤ from)
all_below (entry ∷ units) from =
    All-cons (λ e. e.1.dts ≤ fold later_dts (max from entry.1.dts) units) entry units (omega (arith, no_less units (max from entry.1.dts)))
    (all_below units (max from entry.1.dts))

stream_below : (k : ℕ) (units : List (ℕ × AccessUnit)) → All (λ u. u.dts ≤ greatest_dts units) (units_of k units)
stream_below k units =
    All-map (λ u. u.dts ≤ greatest_dts units) (λ u. u.1) (filter (λ u. u.0 == k) units)
    (All-filter (λ u. u.0 == k) (λ e. e.1.dts ≤ greatest_dts units) units (all_below units 0))

whole_slots : (x : ℕ) → x ≤ (x + 135359999) / 135360000 * 135360000
whole_slots x = omega arith

due_within : (dts greatest rate n : ℕ) → n ≡ min ((greatest * rate + 135359999) / 135360000) (2 ^ 40) → dts ≤ greatest → greatest ≤ 2 ^ 40 → rate ≤ 100000000 →
    dts * rate ≤ n * 135360000
due_within dts greatest rate n e below short slow =
    let last : dts * rate ≤ greatest * rate = mul-le-mul_right rate below in
    let under : rate ≤ 135360000 = omega (arith, slow) in
    let most : greatest * rate ≤ 2 ^ 40 * 135360000 = mul-le-mul short under in
    let slots = whole_slots (greatest * rate) in
    omega (arith, e, last, most, slots)

pub all_due : (o : MuxOptions) (j : MuxJobView) (k : ℕ) → o.slots ≡ None → IsInRange j.description → greatest_dts j.units ≤ 2 ^ 40 →
    AllDue j.description.rate (slots_of o j) (units_of k j.units)
all_due o j k all ranges short =
    All-weaker (λ u. u.dts ≤ greatest_dts j.units) (λ u. u.dts * j.description.rate ≤ slots_of o j * 135360000)
    (λ u below. due_within u.dts (greatest_dts j.units) j.description.rate (slots_of o j) (all_slots o j all) below short ranges.most_rate)
    (units_of k j.units) (stream_below k j.units)

-- 2. The units

-- The units of a stream are moved by the constant of the clock of its program.
those_moved : (findings : List FindingView) (programs : List JobProgramView) (constant : ProgramClock → ℕ) (s : DescribedStream) (us : List AccessUnit)
    (t : TimedStreamView) → IsEntry s t →
    us ≡ t.units → KeepDts s.pid findings → IsMovedBy false findings (constant (clock_of programs t)) t →
    AreMoved (apart_wire_units s.pid findings) (constant (clock_in programs s.program)) us
those_moved findings programs constant s us t entry same keep moved =
    let there : AreMoved (map (λ u. u.unit) (source_of false s.pid findings)) (constant (clock_in programs s.program)) us =
    rw (same, entry.pid, entry.program) moved in
    kept_moved s.pid findings (constant (clock_in programs s.program)) us keep there

pub moved_units : (options : JobOptionsView) (findings : List FindingView) (d : Described) (input : JobInputView) (units : List (ℕ × AccessUnit))
    (constants : HasConstants options findings input) →
    options.make_dts ≡ false → AllAgree options.clock d input → AreMerged (map (λ t. t.units) input.streams) units → (k : ℕ) (s : DescribedStream) →
    slice_get d.streams k ≡ Some s → KeepDts s.pid findings →
    AreMoved (apart_wire_units s.pid findings) (constants.constant (clock_in input.programs s.program)) (units_of k units)
moved_units options findings d input units constants own agree merged k s is keep =
    let unit_stream = unit_stream_of d input units (λ t. IsMovedBy options.make_dts findings (constants.constant (clock_of input.programs t)) t) agree merged
    constants.streams k s is in
    let moved = subst (λ (made : Bool). IsMovedBy made findings (constants.constant (clock_of input.programs unit_stream.stream)) unit_stream.stream) own
    unit_stream.holds in
    those_moved findings input.programs constants.constant s (units_of k units) unit_stream.stream unit_stream.agrees.entry unit_stream.units_are keep moved

-- The packets belong to a run over the plan of the job.
pub packets_are : (o : MuxOptions) (j : MuxJobView) → j.second ≡ None → o.hex ≡ false →
    packets_of o j ≡ output_of false (schedule_for j.description j.plan) (job_history j.units (slots_of o j))
packets_are o j second bytes =
    ap (λ (hex : Bool). output_of hex (schedule_of o j) (job_history j.units (slots_of o j))) bytes
    ∙ ap (λ x. output_of false (schedule_by (first_of j) x (periods_of o)) (job_history j.units (slots_of o j))) second

pub slots_within : (o : MuxOptions) (j : MuxJobView) → o.slots ≡ None → slots_of o j ≤ 2 ^ 40
slots_within o j all = omega (arith, all_slots o j all)

pub units_again : FoundAgainLaw → (findings : List FindingView) (o : MuxOptions) (j : MuxJobView) (base : ℕ) → j.second ≡ None → o.slots ≡ None →
    o.hex ≡ false → IsInRange j.description →
    IsServing j.description j.plan → AreUnits false findings j.description j.units → greatest_dts j.units ≤ 2 ^ 40 →
    (k : ℕ) (s : DescribedStream) → slice_get j.description.streams k ≡ Some s → AreMoved (apart_wire_units s.pid findings) base (units_of k j.units) →
    AreLater (j.description.base0 + 2 ^ 33 - base) (apart_wire_units s.pid findings) (wire_units s.pid (findings_of (packets_of o j)))
units_again law findings o j base second all bytes ranges serving are short k s is moved =
    ap (λ (xs : List ℕ). wire_units s.pid (findings_of xs)) (packets_are o j second bytes)
    ∙ law j.description j.plan findings j.units (slots_of o j) k s base ranges serving are (slots_within o j all) is moved (all_due o j k all ranges short)
