-- The services of a stream, by its service description table (EN 300 468, 5.2.3 and 6.2.33).
use Rattle.std.specs.Prelude.{ℕ, ◌==◌, nat_lt, if◌then◌else◌, List, [], ◌∷◌, length, take, drop, Option, Some, None, option_map, option_and_then}
use Rattle.std.specs.Option.{option_or}
use Rattle.dvb_tables.specs.Services.{ServiceView}
use Rattle.dvb_tables.specs.declared.running_status.RunningStatus.{RunningStatus}
use Rattle.pid_findings.specs.Views.{FindingView}
use Rattle.descriptor_loops.specs.Descriptors.{DescriptorView, descriptors_in}
use Rattle.ts_services.specs.ServiceDescriptions.{sdt_found}
use Rattle.ts_services.specs.declared.services.FoundService.{FoundService}

-- the fields of a service descriptor, with its texts as they are coded there, and the status and all descriptors of the service
pub record FoundServiceView : Type 0 where
  pub running_status : RunningStatus
  pub service_type : ℕ
  pub provider : List ℕ
  pub name : List ℕ
  pub descriptors : List ℕ

abbrev pub found_service_view : FoundService → FoundServiceView
found_service_view s = record {
  running_status = s.running_status;
  service_type = s.service_type;
  provider = s.provider.now;
  name = s.name.now;
  descriptors = s.descriptors.now;
}

-- the bytes after a byte with their number, and the bytes that follow them
unfoldable pub length_prefixed : List ℕ → Option (List ℕ × List ℕ)
length_prefixed [] = None
length_prefixed (size ∷ rest) = if nat_lt (length rest) size then None else Some (take size rest, drop size rest)

unfoldable pub with_provider : ServiceView → ℕ → Option (List ℕ × List ℕ) → Option FoundServiceView
with_provider s service_type provider =
    option_and_then (λ p. option_map (λ name. record {
      running_status = s.running_status;
      service_type = service_type;
      provider = p.0;
      name = name.0;
      descriptors = s.descriptors;
    }) (length_prefixed p.1)) provider

-- by an entry and the body of a service descriptor: service_type, and the texts of provider and service, each after its length
unfoldable pub service_in : ServiceView → List ℕ → Option FoundServiceView
service_in s [] = None
service_in s (service_type ∷ rest) = with_provider s service_type (length_prefixed rest)

-- a service descriptor
unfoldable pub of_descriptor : ServiceView → DescriptorView → Option FoundServiceView
of_descriptor s d = if d.tag == 0x48 then service_in s d.body else None

-- the first one
unfoldable pub in_descriptors : ServiceView → List DescriptorView → Option FoundServiceView
in_descriptors s [] = None
in_descriptors s (d ∷ ds) = option_or (of_descriptor s d) (in_descriptors s ds)

-- the service by an entry
abbrev pub service_by : ServiceView → Option FoundServiceView
service_by s = in_descriptors s (descriptors_in s.descriptors)

-- the service by the entry with this service_id, which is a program's program_number
unfoldable pub of_entry : ℕ → ServiceView → Option FoundServiceView
of_entry number s = if s.service_id == number then service_by s else None

unfoldable pub in_entries : ℕ → List ServiceView → Option FoundServiceView
in_entries number [] = None
in_entries number (s ∷ ss) = option_or (of_entry number s) (in_entries number ss)

-- the service by the table that a finding has
unfoldable pub service_found : ℕ → FindingView → Option FoundServiceView
service_found number finding = option_and_then (λ sdt. in_entries number sdt.services) (sdt_found finding)

-- the service by the last table of a stream that describes it
unfoldable pub service : ℕ → List FindingView → Option FoundServiceView
service number [] = None
service number (finding ∷ findings) = option_or (service number findings) (service_found number finding)
