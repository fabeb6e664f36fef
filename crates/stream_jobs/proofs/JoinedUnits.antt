-- The units of a job of joined inputs are the units of its streams.
use Rattle.std.proofs.Common.{◌≡◌, ◌<◌, ℕ, zero, suc, Bool, Some, List, [], ◌∷◌, All, length, map, slice_get, get_or, refl, ap, subst, ◌∙◌, arith}
use Rattle.std.specs.Prelude.{option_map}
use Rattle.std.specs.List.{AllZip}
use Rattle.std.proofs.lemmas.List.{length-map}
use Rattle.std.proofs.lemmas.Option.{same_Some, slice_get_within, slice_get-get_or, slice_get-map}
use Rattle.pes_packet.specs.AccessUnits.{AccessUnit}
use Rattle.pes_packet.specs.Units.{units_of}
use Rattle.pid_findings.specs.Views.{FindingView}
use Rattle.description_parts.specs.Described.{Described, DescribedStream}
use Rattle.es_moments.specs.Merging.{AreMerged}
use Rattle.given_values.specs.declared.clock_sharing.ClockSharing.{ClockSharing}
use Rattle.stream_jobs.specs.Jobs.{Agrees, AllAgree}
use Rattle.job_inputs.specs.JobInput.{JobInputView}
use Rattle.job_programs.specs.JobStreams.{TimedStreamView}
use Rattle.job_inputs.specs.JoinedInputs.{AreUnitsIn, IsFoundIn, IsStreamIn}
use Rattle.job_inputs.specs.declared.joined_inputs.Origin.{Origin}
use Rattle.job_programs.specs.FoundUnits.{FitsQueue}

-- A stream in its place, with its origin
pub at_place : (P : Origin → TimedStreamView → Type 0) (os : List Origin) (ts : List TimedStreamView) (k : ℕ) (o : Origin) (t : TimedStreamView) →
    AllZip P os ts →
    slice_get os k ≡ Some o → slice_get ts k ≡ Some t → P o t
at_place P [] [] k o t all one other = absurd (let no : ⊥ = cc in no)
at_place P [] (u ∷ ts) k o t all one other = absurd all
at_place P (p ∷ os) [] k o t all one other = absurd all
at_place P (p ∷ os) (u ∷ ts) zero o t all one other =
    subst (λ (x : Origin). P x t) (same_Some p o one) (subst (λ (x : TimedStreamView). P p x) (same_Some u t other) all.0)
at_place P (p ∷ os) (u ∷ ts) (suc k) o t all one other = at_place P os ts k o t all.1 one other

as_many : (P : Origin → TimedStreamView → Type 0) (os : List Origin) (ts : List TimedStreamView) → AllZip P os ts → length os ≡ length ts
as_many P [] [] all = refl
as_many P [] (t ∷ ts) all = absurd all
as_many P (o ∷ os) [] all = absurd all
as_many P (o ∷ os) (t ∷ ts) all = ap suc (as_many P os ts all.1)

none : TimedStreamView
none = record { program = 0; pid = 0; stream_type = 0; stream_id = 0; descriptors = []; shared_with = []; units = [] }

is_stream : (made : Bool) (inputs : List (List FindingView)) (o : Origin) (d : Described) (s : DescribedStream) (us : List AccessUnit) (t : TimedStreamView) →
    IsFoundIn made inputs o t → Agrees d s t → us ≡ t.units → FitsQueue t → IsStreamIn made inputs o d s us
is_stream made inputs o d s us t found agrees same fits = record {
  found = rw same found;
  declares = rw same agrees.declares;
  fits = rw same fits;
}

stream_of : {by : ClockSharing} (made : Bool) (inputs : List (List FindingView)) (origins : List Origin) (d : Described) (input : JobInputView) (units : List (ℕ × AccessUnit)) →
    AllZip (IsFoundIn made inputs) origins input.streams → All FitsQueue input.streams → AllAgree by d input → AreMerged (map (λ t. t.units) input.streams) units →
    (k : ℕ) (o : Origin) (s : DescribedStream) → slice_get origins k ≡ Some o → slice_get d.streams k ≡ Some s → IsStreamIn made inputs o d s (units_of k units)
stream_of made inputs origins d input units found fits agree merged k o s from at =
    let lt : k < length input.streams = omega (arith, slice_get_within d.streams k s at, agree.same) in
    let t = get_or input.streams k none in
    let here : slice_get input.streams k ≡ Some t = slice_get-get_or input.streams k none lt in
    is_stream made inputs o d s (units_of k units) t (at_place (IsFoundIn made inputs) origins input.streams k o t found from here) (agree.each k s t at here)
    (merged.each k t.units (slice_get-map (λ t. t.units) input.streams k ∙ ap (option_map (λ t. t.units)) here)) (fits k none lt)

pub joined_units : {by : ClockSharing} (made : Bool) (inputs : List (List FindingView)) (origins : List Origin) (d : Described) (input : JobInputView)
    (units : List (ℕ × AccessUnit)) →
    AllZip (IsFoundIn made inputs) origins input.streams → All FitsQueue input.streams → AllAgree by d input → AreMerged (map (λ t. t.units) input.streams) units →
    AreUnitsIn made inputs origins d units
joined_units made inputs origins d input units found fits agree merged = record {
  same = as_many (IsFoundIn made inputs) origins input.streams found ∙ agree.same;
  streams = stream_of made inputs origins d input units found fits agree merged;
  numbered = subst (λ n. All (λ e. e.0 < n) units) (length-map input.streams (λ t. t.units) ∙ agree.same) merged.numbered;
}
