-- The units of a job are the units of its streams.
use Rattle.std.proofs.Common.{◌≡◌, ◌<◌, ℕ, Bool, Some, List, [], All, length, map, slice_get, get_or, ap, subst, ◌∙◌, arith}
use Rattle.std.specs.Prelude.{option_map}
use Rattle.std.proofs.lemmas.List.{length-map}
use Rattle.std.proofs.lemmas.Option.{slice_get_within, slice_get-get_or, slice_get-map}
use Rattle.pes_packet.specs.AccessUnits.{AccessUnit}
use Rattle.pes_packet.specs.Units.{units_of}
use Rattle.pid_findings.specs.Views.{FindingView}
use Rattle.description_parts.specs.Described.{Described, DescribedStream}
use Rattle.es_moments.specs.Merging.{AreMerged}
use Rattle.given_values.specs.declared.clock_sharing.ClockSharing.{ClockSharing}
use Rattle.stream_jobs.specs.Jobs.{Agrees, AllAgree, AreUnits, IsStream}
use Rattle.job_inputs.specs.JobInput.{JobInputView}
use Rattle.job_programs.specs.JobStreams.{TimedStreamView}
use Rattle.job_programs.specs.FoundUnits.{FitsQueue, IsMoved}

none : TimedStreamView
none = record { program = 0; pid = 0; stream_type = 0; stream_id = 0; descriptors = []; shared_with = []; units = [] }

-- The stream of the input in place k agrees with the stream s of the description, has its units and satisfies P.
pub record IsUnitStream (d : Described) (units : List (ℕ × AccessUnit)) (P : TimedStreamView → Type 0) (k : ℕ) (s : DescribedStream) : Type 0 where
  pub stream : TimedStreamView
  pub agrees : Agrees d s stream
  pub units_are : units_of k units ≡ stream.units
  pub holds : P stream

pub unit_stream_of : {by : ClockSharing} (d : Described) (input : JobInputView) (units : List (ℕ × AccessUnit)) (P : TimedStreamView → Type 0) → AllAgree by d input →
    AreMerged (map (λ t. t.units) input.streams) units →
    All P input.streams → (k : ℕ) (s : DescribedStream) → slice_get d.streams k ≡ Some s → IsUnitStream d units P k s
unit_stream_of d input units P agree merged all k s at =
    let lt : k < length input.streams = omega (arith, slice_get_within d.streams k s at, agree.same) in
    let t = get_or input.streams k none in
    let here : slice_get input.streams k ≡ Some t = slice_get-get_or input.streams k none lt in
    record {
      stream = t;
      agrees = agree.each k s t at here;
      units_are = merged.each k t.units (slice_get-map (λ t. t.units) input.streams k ∙ ap (option_map (λ t. t.units)) here);
      holds = all k none lt;
    }

is_stream : (made : Bool) (findings : List FindingView) (d : Described) (s : DescribedStream) (us : List AccessUnit) (t u : TimedStreamView) →
    Agrees d s t → us ≡ t.units → IsMoved made findings t → us ≡ u.units → FitsQueue u → IsStream made findings d s us
is_stream made findings d s us t u agrees same moved also fits = record {
  found = rw (same, agrees.entry.pid) moved;
  declares = rw same agrees.declares;
  fits = rw also fits;
}

stream_of : {by : ClockSharing} (made : Bool) (findings : List FindingView) (d : Described) (input : JobInputView) (units : List (ℕ × AccessUnit)) →
    All (IsMoved made findings) input.streams → All FitsQueue input.streams → AllAgree by d input → AreMerged (map (λ t. t.units) input.streams) units →
    (k : ℕ) (s : DescribedStream) → slice_get d.streams k ≡ Some s → IsStream made findings d s (units_of k units)
stream_of made findings d input units moved fits agree merged k s at =
    let one = unit_stream_of d input units (IsMoved made findings) agree merged moved k s at in
    let other = unit_stream_of d input units FitsQueue agree merged fits k s at in
    is_stream made findings d s (units_of k units) one.stream other.stream one.agrees one.units_are one.holds other.units_are other.holds

pub job_units : {by : ClockSharing} (made : Bool) (findings : List FindingView) (d : Described) (input : JobInputView) (units : List (ℕ × AccessUnit)) →
    All (IsMoved made findings) input.streams → All FitsQueue input.streams → AllAgree by d input → AreMerged (map (λ t. t.units) input.streams) units →
    AreUnits made findings d units
job_units made findings d input units moved fits agree merged = record {
  streams = stream_of made findings d input units moved fits agree merged;
  numbered = subst (λ n. All (λ e. e.0 < n) units) (length-map input.streams (λ t. t.units) ∙ agree.same) merged.numbered;
}
