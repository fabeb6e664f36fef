-- The inputs of a job as one: their programs and streams one after another.
use Rattle.std.specs.Prelude.{◌≡◌, ◌≤◌, ◌<◌, ⊤, ℕ, zero, suc, ◌+◌, ◌-◌, ◌^◌, min, ◌==◌, ◌&&◌, ◌||◌, not, nat_lt, Bool, true, false, if◌then◌else◌, List, []}
use Rattle.std.specs.Prelude.{◌∷◌, ◌++◌, length, map, take, slice_get, ok_or, Option, Some, None, Result, Ok, All}
use Rattle.std.specs.List.{AllZip}
use Rattle.std.specs.Str.{bytes_eq}
use Rattle.pes_packet.specs.AccessUnits.{AccessUnit}
use Rattle.pes_packet.specs.Units.{units_of}
use Rattle.description_parts.specs.Described.{Described, DescribedStream}
use Rattle.dvb_tables.specs.TransportStreams.{TransportStreamView}
use Rattle.pid_findings.specs.Views.{FindingView}
use Rattle.job_text.specs.DescriptionParts.{NetworkPartView}
use Rattle.job_programs.specs.Answers.{and_then, unless}
use Rattle.job_inputs.specs.ClockConstants.{IsMovedBy, clock_of}
use Rattle.job_units.specs.Declarations.{too_many}
use Rattle.job_programs.specs.FoundUnits.{AreFound, AreMoved, Declares, source_of, FitsQueue}
use Rattle.job_programs.specs.Information.{JobInformationView}
use Rattle.job_inputs.specs.JobInput.{JobInputView, AreStreams}
use Rattle.job_programs.specs.JobPrograms.{JobProgramView}
use Rattle.job_programs.specs.JobStreams.{TimedStreamView}
use Rattle.job_programs.specs.OtherStreams.{is_same_stream}
use Rattle.job_inputs.specs.NewNumbers.{others}
use Rattle.job_inputs.specs.RenumberedInputs.{RenumberingView, found_pids, program_numbers, renumbered, renumbering_of}
use Rattle.job_inputs.specs.declared.new_numbers.NewNumber.{NewNumber}
use Rattle.job_programs.specs.declared.program_clock.ProgramClock.{ProgramClock}
use Rattle.job_inputs.specs.declared.joined_inputs.InputNote.{InputNote}
use Rattle.job_inputs.specs.declared.joined_inputs.NoteCause.{NoteCause}
use Rattle.job_inputs.specs.declared.joined_inputs.NoteCause.TheVariants.{Events, Network, Pid, Program, Time}
use Rattle.job_inputs.specs.declared.joined_inputs.Origin.{Origin}
use Rattle.job_programs.specs.declared.refusal.JobRefusal.{JobRefusal}
use Rattle.job_programs.specs.declared.refusal.JobRefusal.TheVariants as refusals

-- the programs and streams of all inputs so far; for each stream where it was found; and the notes on the inputs after the first
pub record JoinedInputsView : Type 0 where
  pub input : JobInputView
  pub origins : List Origin
  pub notes : List InputNote

-- 1. Two inputs as one

-- a description has as many events at most
abbrev pub most_events : ℕ
most_events = 1024

-- the information of the first input; for programs, a service description table and the events of both inputs, up to the greatest number
unfoldable pub information_joined : JobInformationView → JobInformationView → JobInformationView
information_joined a b = record {
  transport_stream_id = a.transport_stream_id;
  original_network_id = a.original_network_id;
  start = a.start;
  tdt = a.tdt;
  sdt = a.sdt || b.sdt;
  network = a.network;
  events = take most_events (a.events ++ b.events);
  services = a.services ++ b.services;
}

-- the system clock begins as the first one's does
unfoldable pub joined : JobInputView → JobInputView → JobInputView
joined a b = record {
  information = information_joined a.information b.information;
  base0 = a.base0;
  programs = a.programs ++ b.programs;
  tables = a.tables ++ b.tables;
  streams = a.streams ++ b.streams;
  unit_counts = a.unit_counts ++ b.unit_counts;
  choices = a.choices ++ b.choices;
  warnings = a.warnings ++ b.warnings;
}

-- 2. Notes on an input after the first

abbrev pub note : ℕ → NoteCause → InputNote
note input cause = record { input = input; cause = cause }

-- two descriptor loops are one, or both networks have their names alone
unfoldable pub is_same_loop : Option (List ℕ) → Option (List ℕ) → Bool
is_same_loop None None = true
is_same_loop (Some a) (Some b) = bytes_eq a b
is_same_loop _ _ = false

-- the transport streams of a network are those of another one, in their order
unfoldable pub are_same_streams : List TransportStreamView → List TransportStreamView → Bool
are_same_streams [] ts = length ts == 0
are_same_streams (s ∷ ss) [] = false
are_same_streams (s ∷ ss) (t ∷ ts) = is_same_stream s t && are_same_streams ss ts

-- two networks are one
abbrev pub has_same_loops : NetworkPartView → NetworkPartView → Bool
has_same_loops a b = is_same_loop a.network_descriptors b.network_descriptors && bytes_eq a.descriptors b.descriptors

unfoldable pub is_same_network : NetworkPartView → NetworkPartView → Bool
is_same_network a b = a.id == b.id && (bytes_eq a.name b.name && (has_same_loops a b && are_same_streams a.streams b.streams))

-- whether the network of an input differs from the job's network
unfoldable pub is_other_network : Option NetworkPartView → Option NetworkPartView → Bool
is_other_network a None = false
is_other_network None (Some n) = true
is_other_network (Some m) (Some n) = not (is_same_network m n)

-- a note, if a thing is so
unfoldable pub note_if : Bool → ℕ → NoteCause → List InputNote
note_if is_so input cause = if is_so then note input cause ∷ [] else []

abbrev pub program_note : ℕ → NewNumber → InputNote
program_note input n = note input (Program n)

abbrev pub pid_note : ℕ → NewNumber → InputNote
pid_note input n = note input (Pid n)

-- new numbers of programs, and new PIDs
unfoldable pub number_notes : RenumberingView → JobInputView → List InputNote
number_notes r m = map (program_note r.input) (others r.programs (program_numbers m)) ++ map (pid_note r.input) (others r.pids (found_pids m))

-- the number of events beyond the most that a description may have
abbrev pub surplus : JobInformationView → JobInformationView → ℕ
surplus a b = min (length a.events + length b.events) (2 ^ 64 - 1) - most_events

-- all notes on an input, as it was, beside the inputs before it; a job has the network and the time of the first input
unfoldable pub input_notes : RenumberingView → JobInputView → JobInputView → List InputNote
input_notes r a m =
    ((number_notes r m ++ note_if (is_other_network a.information.network m.information.network) r.input Network)
    ++ note_if m.information.tdt r.input Time)
    ++ note_if (nat_lt 0 (surplus a.information m.information)) r.input (Events (surplus a.information m.information))

-- 3. All inputs as one

-- each stream was found on its PID in an input, and counts by the clock of its program there
unfoldable pub origin_in : ℕ → List JobProgramView → TimedStreamView → Origin
origin_in input programs s = record { input = input; pid = s.pid; clock = clock_of programs s }

abbrev pub origins_in : ℕ → JobInputView → List Origin
origins_in input m = map (origin_in input m.programs) m.streams

unfoldable pub first_input : JobInputView → JoinedInputsView
first_input m = record { input = m; origins = origins_in 0 m; notes = [] }

-- the inputs so far and one more, with its new numbers
unfoldable pub with_renumbered : JoinedInputsView → JobInputView → RenumberingView → JoinedInputsView
with_renumbered j m r = record {
  input = joined j.input (renumbered r m);
  origins = j.origins ++ origins_in r.input m;
  notes = j.notes ++ input_notes r j.input m;
}

unfoldable pub within_limits : JoinedInputsView → Result JoinedInputsView JobRefusal
within_limits j = unless (too_many (length j.input.programs) (length j.input.streams)) (Ok j)

-- one more, if there are numbers for it, and programs and streams are no more than a description may have
unfoldable pub with_input : ℕ → JoinedInputsView → JobInputView → Result JoinedInputsView JobRefusal
with_input number j m = and_then (λ r. within_limits (with_renumbered j m r)) (ok_or (renumbering_of number j.input m) refusals.Pids)

-- further ones, numbered from `number` on
unfoldable pub with_inputs : ℕ → JoinedInputsView → List JobInputView → Result JoinedInputsView JobRefusal
with_inputs number j [] = Ok j
with_inputs number j (m ∷ ms) = and_then (λ more. with_inputs (number + 1) more ms) (with_input number j m)

-- the first input joined with the inputs after it
abbrev pub joined_inputs : JobInputView → List JobInputView → Result JoinedInputsView JobRefusal
joined_inputs first more = with_inputs 1 (first_input first) more

-- 4. What stays true of them

-- the findings of an input by its number; none where there is no such input
unfoldable pub findings_in : List (List FindingView) → ℕ → List FindingView
findings_in [] number = []
findings_in (f ∷ fs) zero = f
findings_in (f ∷ fs) (suc n) = findings_in fs n

-- the units of a stream are the units found on its PID in its input, at moments by one constant
abbrev pub IsFoundIn : Bool → List (List FindingView) → Origin → TimedStreamView → Type 0
IsFoundIn made inputs o t = AreFound made (findings_in inputs o.input) o.pid t.units

-- inputs numbered from `number` on are each made of the findings of their number
unfoldable pub AreMadeOf : Bool → List (List FindingView) → ℕ → List JobInputView → Type 0
AreMadeOf made inputs number [] = ⊤
AreMadeOf made inputs number (m ∷ ms) = AreStreams made (findings_in inputs number) m × AreMadeOf made inputs (number + 1) ms

-- streams are found so, and fit in a description and in the queues of a multiplexer
pub record AreStreamsIn (made : Bool) (inputs : List (List FindingView)) (j : JoinedInputsView) : Type 0 where
  pub found : AllZip (IsFoundIn made inputs) j.origins j.input.streams
  pub fits : All FitsQueue j.input.streams
  pub stream_count : length j.input.streams ≤ 254

-- the streams of joined inputs have such units
abbrev pub JoinedAreStreams : Type 0
JoinedAreStreams = (made : Bool) (inputs : List (List FindingView)) (first : JobInputView) (more : List JobInputView) (j : JoinedInputsView) →
    AreMadeOf made inputs 0 (first ∷ more) → joined_inputs first more ≡ Ok j → AreStreamsIn made inputs j

-- 5. Clocks

-- the units that are found of a stream where it was found
abbrev pub found_in : Bool → List (List FindingView) → Origin → List AccessUnit
found_in made inputs o = map (λ u. u.unit) (source_of made o.pid (findings_in inputs o.input))

-- the units of a stream are moved by the constant of its clock in its input
abbrev pub IsMovedIn : Bool → List (List FindingView) → (ℕ → ProgramClock → ℕ) → Origin → TimedStreamView → Type 0
IsMovedIn made inputs constant o t = AreMoved (found_in made inputs o) (constant o.input o.clock) t.units

-- the same in the input of this number, by one of these constants
abbrev pub IsMovedByOne : Bool → List (List FindingView) → (ℕ → ProgramClock → ℕ) → ℕ → JobInputView → TimedStreamView → Type 0
IsMovedByOne made inputs constant number m t = IsMovedBy made (findings_in inputs number) (constant number (clock_of m.programs t)) t

-- the same for all streams of inputs numbered from `number` on
unfoldable pub AreMovedByOne : Bool → List (List FindingView) → (ℕ → ProgramClock → ℕ) → ℕ → List JobInputView → Type 0
AreMovedByOne made inputs constant number [] = ⊤
AreMovedByOne made inputs constant number (m ∷ ms) =
    All (IsMovedByOne made inputs constant number m) m.streams × AreMovedByOne made inputs constant (number + 1) ms

-- each clock of each input keeps its constant
abbrev pub JoinedKeepConstants : Type 0
JoinedKeepConstants = (made : Bool) (inputs : List (List FindingView)) (constant : ℕ → ProgramClock → ℕ) (first : JobInputView) (more : List JobInputView)
    (j : JoinedInputsView) →
    AreMovedByOne made inputs constant 0 (first ∷ more) → joined_inputs first more ≡ Ok j → AllZip (IsMovedIn made inputs constant) j.origins j.input.streams

-- 6. The units of a job of joined inputs

-- the units of a stream are found on its PID in its input, and are within the description's declaration
pub record IsStreamIn (made : Bool) (inputs : List (List FindingView)) (o : Origin) (d : Described) (s : DescribedStream) (us : List AccessUnit) : Type 0 where
  pub found : AreFound made (findings_in inputs o.input) o.pid us
  pub declares : Declares d s us
  pub fits : length us ≤ 1_048_576

-- all streams of the description have such units, in the order in which the streams were found
pub record AreUnitsIn (made : Bool) (inputs : List (List FindingView)) (origins : List Origin) (d : Described) (units : List (ℕ × AccessUnit)) : Type 0 where
  pub same : length origins ≡ length d.streams
  pub streams : (k : ℕ) (o : Origin) (s : DescribedStream) → slice_get origins k ≡ Some o → slice_get d.streams k ≡ Some s →
      IsStreamIn made inputs o d s (units_of k units)
  pub numbered : All (λ e. e.0 < length d.streams) units
