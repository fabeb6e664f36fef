-- In the packets of a job of several streams a demultiplexer finds the units of these streams.
use Rattle.std.proofs.Common.{◌≡◌, ◌≤◌, ◌<◌, ℕ, ◌+◌, ◌-◌, ◌^◌, Bool, false, List, length, map, slice_get, option_map, Some, None, ap, subst, ◌∙◌, arith}
use Rattle.std.specs.List.{AllZip}
use Rattle.std.proofs.lemmas.Option.{slice_get-map, slice_get_within}
use Rattle.pes_packet.specs.AccessUnits.{AccessUnit}
use Rattle.pes_packet.specs.Units.{units_of}
use Rattle.description_parts.specs.Described.{Described, DescribedStream}
use Rattle.description_parts.specs.Ranges.{IsInRange}
use Rattle.pid_findings.specs.Views.{FindingView}
use Rattle.slot_plan.specs.Conditions.{IsServing}
use Rattle.es_units.specs.CarriedUnits.{wire_units}
use Rattle.es_moments.specs.Merging.{AreMerged}
use Rattle.job_programs.specs.FoundUnits.{AreMoved, KeepDts, source_of}
use Rattle.job_programs.proofs.KeptDts.{kept_moved}
use Rattle.job_programs.specs.JobStreams.{TimedStreamView}
use Rattle.given_values.specs.declared.clock_sharing.ClockSharing.{ClockSharing}
use Rattle.stream_jobs.specs.Jobs.{AllAgree}
use Rattle.job_inputs.specs.JoinedInputs.{AreUnitsIn, IsMovedIn, JoinedInputsView, findings_in}
use Rattle.job_inputs.specs.declared.joined_inputs.Origin.{Origin}
use Rattle.job_programs.specs.declared.program_clock.ProgramClock.{ProgramClock}
use Rattle.stream_jobs.proofs.JoinedUnits.{at_place}
use Rattle.laws_job.specs.JoinedLaws.{JoinedAgainLaw}
use Rattle.laws_job.proofs.AcceptedUnits.{stream_there}
use Rattle.job_run.specs.Streams.{findings_of}
use Rattle.checked_jobs.specs.declared.multiplexing.MuxOptions.{MuxOptions}
use Rattle.checked_jobs.specs.MuxJobs.{MuxJobView, greatest_dts}
use Rattle.checked_jobs.specs.Multiplexing.{packets_of, slots_of}
use Rattle.laws_pipe.specs.PipedFiles.{wire_units_in}
use Rattle.laws_pipe.specs.PipedJobs.{AreLater}
use Rattle.laws_pipe.proofs.UnitsAgain.{all_due, packets_are, slots_within}

-- The units of a stream are moved by the constant of its clock in its input.
those_moved : (inputs : List (List FindingView)) (constant : ℕ → ProgramClock → ℕ) (o : Origin) (t : TimedStreamView) (us : List AccessUnit) → us ≡ t.units →
    KeepDts o.pid (findings_in inputs o.input) → IsMovedIn false inputs constant o t → AreMoved (wire_units_in inputs o) (constant o.input o.clock) us
those_moved inputs constant o t us same keep moved =
    let there : AreMoved (map (λ u. u.unit) (source_of false o.pid (findings_in inputs o.input))) (constant o.input o.clock) us = rw same moved in
    kept_moved o.pid (findings_in inputs o.input) (constant o.input o.clock) us keep there

pub moved_in : {by : ClockSharing} (made : Bool) (inputs : List (List FindingView)) (constant : ℕ → ProgramClock → ℕ) (d : Described) (j : JoinedInputsView)
    (units : List (ℕ × AccessUnit)) → made ≡ false →
    AllZip (IsMovedIn made inputs constant) j.origins j.input.streams → AllAgree by d j.input → AreMerged (map (λ t. t.units) j.input.streams) units →
    (k : ℕ) (s : DescribedStream) (o : Origin) → slice_get d.streams k ≡ Some s → slice_get j.origins k ≡ Some o →
    KeepDts o.pid (findings_in inputs o.input) → AreMoved (wire_units_in inputs o) (constant o.input o.clock) (units_of k units)
moved_in made inputs constant d j units own moved agree merged k s o is from keep =
    let lt : k < length j.input.streams = omega (arith, slice_get_within d.streams k s is, agree.same) in
    let t = stream_there j.input.streams k lt in
    let same : units_of k units ≡ t.0.units = merged.each k t.0.units (slice_get-map (λ t. t.units) j.input.streams k ∙ ap (option_map (λ t. t.units)) t.1) in
    those_moved inputs constant o t.0 (units_of k units) same keep
    (subst (λ (b : Bool). IsMovedIn b inputs constant o t.0) own (at_place (IsMovedIn made inputs constant) j.origins j.input.streams k o t.0 moved from t.1))

pub joined_units_again : JoinedAgainLaw → (inputs : List (List FindingView)) (origins : List Origin) (o : MuxOptions) (j : MuxJobView) (base : ℕ) →
    j.second ≡ None → o.slots ≡ None → o.hex ≡ false →
    IsInRange j.description → IsServing j.description j.plan → AreUnitsIn false inputs origins j.description j.units → greatest_dts j.units ≤ 2 ^ 40 →
    (k : ℕ) (s : DescribedStream) (wire : List AccessUnit) → slice_get j.description.streams k ≡ Some s → AreMoved wire base (units_of k j.units) →
    AreLater (j.description.base0 + 2 ^ 33 - base) wire (wire_units s.pid (findings_of (packets_of o j)))
joined_units_again law inputs origins o j base second all bytes ranges serving are short k s wire is moved =
    ap (λ (xs : List ℕ). wire_units s.pid (findings_of xs)) (packets_are o j second bytes)
    ∙ law j.description j.plan inputs origins j.units (slots_of o j) k s wire base ranges serving are (slots_within o j all) is moved
    (all_due o j k all ranges short)
