-- A service in a service description section (EN 300 468, 5.2.3).
use Rattle.std.specs.Prelude.{◌≡◌, ℕ, ◌+◌, ◌*◌, ◌/◌, ◌%◌, ◌^◌, ◌<◌, if◌then◌else◌, Bool, is_some, Result, Ok, Err, List, [], ◌∷◌, ◌++◌, length, slice_index}
use Rattle.std.specs.Prelude.{map, flat_map}
use Rattle.bit_fields.specs.Fields.{number, fields, bit, flag}
use Rattle.psi_tables.specs.Loops.{EntryView, loop_at, entries_in}
use Rattle.psi_tables.specs.declared.error.SectionError.{SectionError}
use Rattle.psi_tables.specs.declared.error.SectionError.TheVariants.{Body}
use Rattle.dvb_tables.specs.RunningStates.{status_code, status_of}
use Rattle.dvb_tables.specs.declared.running_status.RunningStatus.{RunningStatus}
use Rattle.dvb_tables.specs.declared.service.Service.{Service}
use Rattle.dvb_tables.specs.declared.service.Services.{Services}
use Rattle.dvb_tables.specs.declared.service_loop.ServiceLoop.{ServiceLoop}

-- the content of a service
pub record ServiceView : Type 0 where
  pub service_id : ℕ
  pub eit_schedule : Bool
  pub eit_present_following : Bool
  pub running_status : RunningStatus
  pub free_ca_mode : Bool
  pub descriptors : List ℕ

-- a service, its descriptors as a list of bytes
abbrev pub service_view : Service → ServiceView
service_view s = record {
  service_id = s.service_id;
  eit_schedule = s.eit_schedule;
  eit_present_following = s.eit_present_following;
  running_status = s.running_status;
  free_ca_mode = s.free_ca_mode;
  descriptors = s.descriptors.now;
}

-- five bytes and the descriptors: service_id, six reserved bits, EIT_schedule_flag, EIT_present_following_flag,
-- running_status, free_CA_mode, descriptors_loop_length
pub record IsService (bytes : List ℕ) (s : ServiceView) : Type 0 where
  pub head : List ℕ
  pub is : bytes ≡ head ++ s.descriptors
  pub len : length head ≡ 5
  pub reserved : ℕ
  pub spelled : number head ≡ fields ((16, s.service_id) ∷ (6, reserved) ∷ (1, bit s.eit_schedule) ∷ (1, bit s.eit_present_following)
      ∷ (3, status_code s.running_status) ∷ (1, bit s.free_ca_mode) ∷ (12, length s.descriptors) ∷ [])
  pub service_id : s.service_id < 2 ^ 16
  pub six_bits : reserved < 2 ^ 6
  pub descriptors_loop_length : length s.descriptors < 2 ^ 12

-- the service that an entry of a loop encodes
unfoldable pub service_of : EntryView → ServiceView
service_of e = record {
  service_id = slice_index e.head 0 * 256 + slice_index e.head 1;
  eit_schedule = flag (slice_index e.head 2) 2;
  eit_present_following = flag (slice_index e.head 2) 1;
  running_status = status_of (slice_index e.head 3 / 32);
  free_ca_mode = flag (slice_index e.head 3) 16;
  descriptors = e.descriptors;
}

-- the services of a whole loop
unfoldable pub services_in : List ℕ → List ServiceView
services_in bytes = map service_of (entries_in 5 bytes)

-- the services of a loop; Body if it ends within an entry
unfoldable pub services_at : List ℕ → Result (List ServiceView) SectionError
services_at bytes = if is_some (loop_at 5 bytes) then Ok (services_in bytes) else Err Body

-- the remaining services of an iterator over a loop
unfoldable pub services_of : Services → List ServiceView
services_of s = services_in s.bytes.now

-- the services that a loop holds
unfoldable pub service_loop_of : ServiceLoop → List ServiceView
service_loop_of l = services_in l.bytes.items

-- the five bytes before the descriptors, as they are written: reserved bits 1
unfoldable pub service_front : ServiceView → List ℕ
service_front s = (s.service_id / 256) ∷ (s.service_id % 256) ∷ (0xFC + (bit s.eit_schedule * 2 + bit s.eit_present_following))
    ∷ ((status_code s.running_status * 2 + bit s.free_ca_mode) * 16 + length s.descriptors / 256) ∷ (length s.descriptors % 256) ∷ []

-- a service as it is written
unfoldable pub service_bytes : ServiceView → List ℕ
service_bytes s = service_front s ++ s.descriptors

-- services as they are written
unfoldable pub services_bytes : List ServiceView → List ℕ
services_bytes ss = flat_map service_bytes ss
