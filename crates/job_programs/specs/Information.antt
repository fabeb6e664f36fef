-- What the description of a job says of the transport stream as a whole: its network, its events and its services (EN 300 468).
use Rattle.std.specs.Prelude.{ℕ, ◌||◌, Bool, List, [], map, is_some, unwrap_or, Option, Some, None, option_map}
use Rattle.std.specs.Option.{option_or}
use Rattle.std.specs.List.{list_any}
use Rattle.pid_findings.specs.Views.{FindingView}
use Rattle.job_text.specs.DescriptionParts.{EventPartView, NetworkPartView}
use Rattle.dvb_tables.specs.declared.running_status.RunningStatus.{RunningStatus}
use Rattle.dvb_tables.specs.declared.running_status.RunningStatus.TheVariants.{Running}
use Rattle.dvb_tables.specs.TransportStreams.{TransportStreamView}
use Rattle.ts_services.specs.NetworkInformation.{FoundNetworkView, stream_network}
use Rattle.ts_services.specs.Networks.{network}
use Rattle.ts_services.specs.Services.{FoundServiceView, service}
use Rattle.dvb_texts.specs.Texts.{decode_text}
use Rattle.service_information.specs.StreamTime.{stream_time}
use Rattle.job_programs.specs.Events.{event_parts, job_events, start_of}
use Rattle.given_values.specs.GivenNames.{NetworkNameView, ServiceNameView}
use Rattle.job_programs.specs.GivenLoops.{given_network, given_service, kept_loop}
use Rattle.job_programs.specs.GivenNames.{name_given, original_given}
use Rattle.job_programs.specs.JobOptions.{JobOptionsView}
use Rattle.job_programs.specs.JobPrograms.{JobProgramView}
use Rattle.job_programs.specs.OtherStreams.{other_streams}

-- a service: its status, the texts that it has, and all of its descriptors if these do not give exactly these
pub record NamedServiceView : Type 0 where
  pub running_status : RunningStatus
  pub service_type : ℕ
  pub provider : List ℕ
  pub name : List ℕ
  pub descriptors : Option (List ℕ)

-- the descriptors that a description with these texts has of the service
abbrev pub service_loop : NamedServiceView → Option (List ℕ)
service_loop s = option_or s.descriptors (given_service s.service_type s.provider s.name)

-- the moment of the first slot as its characters; whether there are a time and date table and a service description table; and of each
-- program its service, in the order of the programs
pub record JobInformationView : Type 0 where
  pub transport_stream_id : ℕ
  pub original_network_id : ℕ
  pub start : List ℕ
  pub tdt : Bool
  pub sdt : Bool
  pub network : Option NetworkPartView
  pub events : List EventPartView
  pub services : List NamedServiceView

-- 1. The service description table

-- whether the service of a program is described, or is given a name
unfoldable pub has_service : List ServiceNameView → List FindingView → ℕ → Bool
has_service names findings number = is_some (service number findings) || is_some (name_given number names)

unfoldable pub has_services : List ServiceNameView → List FindingView → List JobProgramView → Bool
has_services names findings programs = list_any (λ p. has_service names findings p.number) programs

-- 2. The network

-- original_network_id: the given one, otherwise the services', otherwise the network information table's
unfoldable pub original_of : Option NetworkNameView → ℕ → List FindingView → Option ℕ
original_of given id findings = option_or (option_or (original_given given) (network findings)) (option_map (λ n. n.original) (stream_network id findings))

-- the network that is given
unfoldable pub network_of : NetworkNameView → NetworkPartView
network_of n = record { id = n.id; name = n.name; network_descriptors = None; descriptors = []; streams = [] }

-- the stream's network with its other transport streams, its name with at most 200 bytes
unfoldable pub network_with : List TransportStreamView → FoundNetworkView → List ℕ → NetworkPartView
network_with others n name = record {
  id = n.id;
  name = name;
  network_descriptors = kept_loop 700 (given_network name) n.network_descriptors;
  descriptors = n.descriptors;
  streams = others;
}

abbrev pub network_found : List TransportStreamView → FoundNetworkView → NetworkPartView
network_found others n = network_with others n (decode_text 200 n.name)

unfoldable pub network_or : Option NetworkNameView → Option FoundNetworkView → List TransportStreamView → Option NetworkPartView
network_or None found others = option_map (network_found others) found
network_or (Some n) found others = Some (network_of n)

-- the descriptors that a description with this name has of the network
abbrev pub network_loop : NetworkPartView → Option (List ℕ)
network_loop n = option_or n.network_descriptors (given_network n.name)

abbrev pub network_part : JobOptionsView → ℕ → List FindingView → Option NetworkPartView
network_part options id findings = network_or options.network (stream_network id findings) (other_streams id findings)

-- 3. The service of a program

-- its status, and the texts with at most 100 bytes each; without a service, a running digital television service without a name
-- (EN 300 468, tables 6 and 87)
unfoldable pub service_by : FoundServiceView → List ℕ → List ℕ → NamedServiceView
service_by s provider name = record {
  running_status = s.running_status;
  service_type = s.service_type;
  provider = provider;
  name = name;
  descriptors = kept_loop 1004 (given_service s.service_type provider name) s.descriptors;
}

unfoldable pub named_service : Option FoundServiceView → NamedServiceView
named_service (Some s) = service_by s (decode_text 100 s.provider) (decode_text 100 s.name)
named_service None = record { running_status = Running; service_type = 1; provider = []; name = []; descriptors = None }

-- with the name that is given to it, and the provider if that is given too: these texts give its descriptors
unfoldable pub renamed : ServiceNameView → NamedServiceView → NamedServiceView
renamed n s = record {
  running_status = s.running_status;
  service_type = s.service_type;
  provider = unwrap_or n.provider s.provider;
  name = n.name;
  descriptors = None;
}

unfoldable pub service_with : Option ServiceNameView → NamedServiceView → NamedServiceView
service_with None s = s
service_with (Some n) s = renamed n s

abbrev pub service_of : List ServiceNameView → List FindingView → ℕ → NamedServiceView
service_of names findings number = service_with (name_given number names) (named_service (service number findings))

abbrev pub service_for : List ServiceNameView → List FindingView → JobProgramView → NamedServiceView
service_for names findings p = service_of names findings p.number

abbrev pub services_of : List ServiceNameView → List FindingView → List JobProgramView → List NamedServiceView
services_of names findings programs = map (service_for names findings) programs

-- 4. All of it: where nothing says original_network_id it is one for private use (ETSI TS 101 162), and there is a time and date table if
-- the stream has one

unfoldable pub information_of : JobOptionsView → ℕ → List FindingView → List JobProgramView → JobInformationView
information_of options id findings programs = record {
  transport_stream_id = id;
  original_network_id = unwrap_or (original_of options.network id findings) 0xFF01;
  start = start_of options.start (job_events findings programs) findings;
  tdt = is_some (stream_time findings);
  sdt = has_services options.names findings programs;
  network = network_part options id findings;
  events = event_parts (job_events findings programs);
  services = services_of options.names findings programs;
}
