-- Whether a description has the status of services, and the descriptors of services, events and the network, that an input has.
use Rattle.std.specs.Prelude.{◌≡◌, ℕ, ◌==◌, ◌&&◌, Bool, true, false, if◌then◌else◌, List, [], ◌∷◌, length, map, filter, slice_get, Option, Some, None}
use Rattle.std.specs.Str.{bytes_eq}
use Rattle.dvb_tables.specs.RunningStates.{status_code, status_of}
use Rattle.dvb_tables.specs.TransportStreams.{TransportStreamView}
use Rattle.description_parts.specs.Described.{Described, DescribedEvent, DescribedNetwork, DescribedProgram, network_stream_view}
use Rattle.description_parts.specs.declared.network_stream.NetworkStream.{NetworkStream}
use Rattle.job_text.specs.DescriptionParts.{EventPartView, NetworkPartView}
use Rattle.job_programs.specs.Events.{event_loop}
use Rattle.job_programs.specs.GivenLoops.{is_loop}
use Rattle.job_programs.specs.Information.{JobInformationView, NamedServiceView, network_loop, service_loop}
use Rattle.job_programs.specs.OtherStreams.{is_same_stream}

-- 1. Services: of the programs, in their order

unfoldable pub is_service : DescribedProgram → NamedServiceView → Bool
is_service p s = status_code (status_of p.running_status) == status_code s.running_status && is_loop p.service_descriptors (service_loop s)

unfoldable pub are_services : List DescribedProgram → List NamedServiceView → Bool
are_services (p ∷ ps) (s ∷ ss) = is_service p s && are_services ps ss
are_services _ _ = true

-- 2. Events: those of a program, in their order

unfoldable pub is_event : DescribedEvent → EventPartView → Bool
is_event d e = d.id == e.id && (d.duration == e.duration && is_loop d.descriptors (event_loop e))

-- the declared events after this one, if it is the first of them
unfoldable pub past_event : List DescribedEvent → EventPartView → Option (List DescribedEvent)
past_event [] e = None
past_event (d ∷ ds) e = if is_event d e then Some ds else None

-- the same if it is of this program; an event of another program leaves all
unfoldable pub after_event : ℕ → List DescribedEvent → EventPartView → Option (List DescribedEvent)
after_event number ds e = if e.program == number then past_event ds e else Some ds

-- no declared event is left after these
unfoldable pub are_from : ℕ → Option (List DescribedEvent) → List EventPartView → Bool
are_from number None es = false
are_from number (Some ds) [] = length ds == 0
are_from number (Some ds) (e ∷ es) = are_from number (after_event number ds e) es

abbrev pub are_events : ℕ → List DescribedEvent → List EventPartView → Bool
are_events number ds es = are_from number (Some ds) es

unfoldable pub have_events : List DescribedProgram → List EventPartView → Bool
have_events [] es = true
have_events (p ∷ ps) es = are_events p.number p.events es && have_events ps es

-- 3. The network: its other transport streams in their order, its descriptors, and this transport stream's

unfoldable pub are_streams : List NetworkStream → List TransportStreamView → Bool
are_streams [] ts = length ts == 0
are_streams (d ∷ ds) [] = false
are_streams (d ∷ ds) (t ∷ ts) = is_same_stream (network_stream_view d) t && are_streams ds ts

abbrev pub has_network_loops : DescribedNetwork → NetworkPartView → Bool
has_network_loops d n = is_loop d.network_descriptors (network_loop n) && bytes_eq d.descriptors n.descriptors

abbrev pub is_same_network : DescribedNetwork → NetworkPartView → Bool
is_same_network d n = d.id == n.id && (has_network_loops d n && are_streams d.streams n.streams)

unfoldable pub is_network : Option DescribedNetwork → Option NetworkPartView → Bool
is_network None None = true
is_network (Some d) (Some n) = is_same_network d n
is_network _ _ = false

-- 4. All of it, as a test and as facts

unfoldable pub has_loops : Described → JobInformationView → Bool
has_loops d i = are_services d.programs i.services && (have_events d.programs i.events && is_network d.network i.network)

-- the events of a program
abbrev pub events_of : ℕ → List EventPartView → List EventPartView
events_of number es = filter (λ e. e.program == number) es

pub record NetworkIs (d : DescribedNetwork) (n : NetworkPartView) : Type 0 where
  pub id : d.id ≡ n.id
  pub network : network_loop n ≡ Some d.network_descriptors
  pub stream : d.descriptors ≡ n.descriptors
  pub others : map network_stream_view d.streams ≡ n.streams

pub record ServiceIs (p : DescribedProgram) (s : NamedServiceView) : Type 0 where
  pub status : status_of p.running_status ≡ s.running_status
  pub descriptors : service_loop s ≡ Some p.service_descriptors

pub record HasLoops (d : Described) (i : JobInformationView) : Type 0 where
  pub services : (k : ℕ) (p : DescribedProgram) (s : NamedServiceView) → slice_get d.programs k ≡ Some p → slice_get i.services k ≡ Some s →
      ServiceIs p s
  pub events : (k : ℕ) (p : DescribedProgram) → slice_get d.programs k ≡ Some p → map event_loop (events_of p.number i.events) ≡ map (λ e. Some e.descriptors) p.events
  pub network : (a : DescribedNetwork) (n : NetworkPartView) → d.network ≡ Some a → i.network ≡ Some n → NetworkIs a n
