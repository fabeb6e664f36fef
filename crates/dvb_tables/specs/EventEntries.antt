-- An event in an event information section (EN 300 468, 5.2.4).
use Rattle.std.specs.Prelude.{◌≡◌, ℕ, ◌+◌, ◌*◌, ◌/◌, ◌%◌, ◌^◌, ◌<◌, if◌then◌else◌, is_some, Result, Ok, Err, Bool, List, [], ◌∷◌, ◌++◌, length, take, drop}
use Rattle.std.specs.Prelude.{slice_index, map, flat_map}
use Rattle.bit_fields.specs.Fields.{number, fields, bit, flag}
use Rattle.psi_tables.specs.Loops.{EntryView, loop_at, entries_in}
use Rattle.psi_tables.specs.declared.error.SectionError.{SectionError}
use Rattle.psi_tables.specs.declared.error.SectionError.TheVariants.{Body}
use Rattle.dvb_tables.specs.RunningStates.{status_code, status_of}
use Rattle.dvb_tables.specs.declared.running_status.RunningStatus.{RunningStatus}
use Rattle.dvb_tables.specs.declared.event_entry.EventEntry.{EventEntry}
use Rattle.dvb_tables.specs.declared.event_entry.EventEntries.{EventEntries}

-- the content of an event; start_time and duration as the bytes that they are
pub record EventView : Type 0 where
  pub event_id : ℕ
  pub start_time : List ℕ
  pub duration : List ℕ
  pub running_status : RunningStatus
  pub free_ca_mode : Bool
  pub descriptors : List ℕ

-- an event, its descriptors as a list of bytes
abbrev pub event_view : EventEntry → EventView
event_view e = record {
  event_id = e.event_id;
  start_time = e.start_time;
  duration = e.duration;
  running_status = e.running_status;
  free_ca_mode = e.free_ca_mode;
  descriptors = e.descriptors.now;
}

-- twelve bytes and the descriptors: event_id, start_time (5 bytes), duration (3 bytes), then running_status, free_CA_mode
-- and descriptors_loop_length
pub record IsEvent (bytes : List ℕ) (e : EventView) : Type 0 where
  pub id : List ℕ
  pub status : List ℕ
  pub is : bytes ≡ id ++ e.start_time ++ e.duration ++ status ++ e.descriptors
  pub id_len : length id ≡ 2
  pub start_time_len : length e.start_time ≡ 5
  pub duration_len : length e.duration ≡ 3
  pub status_len : length status ≡ 2
  pub id_spelled : number id ≡ fields ((16, e.event_id) ∷ [])
  pub status_spelled : number status ≡ fields ((3, status_code e.running_status) ∷ (1, bit e.free_ca_mode) ∷ (12, length e.descriptors) ∷ [])
  pub event_id : e.event_id < 2 ^ 16
  pub descriptors_loop_length : length e.descriptors < 2 ^ 12

-- the event that an entry of a loop encodes
unfoldable pub event_of : EntryView → EventView
event_of e = record {
  event_id = slice_index e.head 0 * 256 + slice_index e.head 1;
  start_time = take 5 (drop 2 e.head);
  duration = take 3 (drop 7 e.head);
  running_status = status_of (slice_index e.head 10 / 32);
  free_ca_mode = flag (slice_index e.head 10) 16;
  descriptors = e.descriptors;
}

-- the events of a whole loop
unfoldable pub events_in : List ℕ → List EventView
events_in bytes = map event_of (entries_in 12 bytes)

-- the events of a loop; Body if it ends within an entry
unfoldable pub events_at : List ℕ → Result (List EventView) SectionError
events_at bytes = if is_some (loop_at 12 bytes) then Ok (events_in bytes) else Err Body

-- the remaining events of an iterator over a loop
unfoldable pub events_of : EventEntries → List EventView
events_of e = events_in e.bytes.now

-- the two bytes before the descriptors
unfoldable pub event_status : EventView → List ℕ
event_status e = ((status_code e.running_status * 2 + bit e.free_ca_mode) * 16 + length e.descriptors / 256) ∷ (length e.descriptors % 256) ∷ []

-- an event as it is written
unfoldable pub event_bytes : EventView → List ℕ
event_bytes e = ((e.event_id / 256) ∷ (e.event_id % 256) ∷ []) ++ e.start_time ++ e.duration ++ event_status e ++ e.descriptors

-- events as they are written
unfoldable pub events_bytes : List EventView → List ℕ
events_bytes es = flat_map event_bytes es
