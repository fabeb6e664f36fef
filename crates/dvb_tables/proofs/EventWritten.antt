-- An event as it is written
use Rattle.std.proofs.Common.{◌≡◌, ℕ, ◌+◌, ◌*◌, ◌/◌, ◌%◌, ◌^◌, ◌<◌, refl, [], ◌∷◌, length, ◌∙◌, arith}
use Rattle.bit_fields.specs.Fields.{number, fields, bit}
use Rattle.psi_tables.specs.Loops.{entry_bytes}
use Rattle.dvb_tables.specs.RunningStates.{status_code}
use Rattle.dvb_tables.specs.EventEntries.{EventView, IsEvent, event_of, event_bytes, event_status}
use Rattle.dvb_tables.specs.Fits.{EventFits}
use Rattle.dvb_tables.proofs.Heads.{bit_below, code_below}
use Rattle.dvb_tables.proofs.EventFields.{numbers, said, head_of, head_says}
use Rattle.dvb_tables.proofs.EntrySequences.{Says}

status_spelled : (status ca n : ℕ) → status < 8 → ca < 2 → n < 2 ^ 12
    → number (((status * 2 + ca) * 16 + n / 256) ∷ (n % 256) ∷ []) ≡ fields ((3, status) ∷ (1, ca) ∷ (12, n) ∷ [])
status_spelled status ca n a b c = omega arith

-- The bytes that are written for an event are an event.
pub event_written : (e : EventView) → EventFits e → IsEvent (event_bytes e) e
unfolding event_bytes event_status
event_written e h = record {
  id = (e.event_id / 256) ∷ (e.event_id % 256) ∷ [];
  status = event_status e;
  is = refl;
  id_len = refl;
  start_time_len = h.start_time;
  duration_len = h.duration;
  status_len = refl;
  id_spelled = omega (arith, h.event_id);
  status_spelled = status_spelled (status_code e.running_status) (bit e.free_ca_mode) (length e.descriptors) (code_below e.running_status)
      (bit_below e.free_ca_mode) h.descriptors;
  event_id = h.event_id;
  descriptors_loop_length = h.descriptors;
}

-- The bytes that are written for an event are an entry that encodes it.
pub event_said : (e : EventView) → EventFits e → Says 12 event_of (event_bytes e) e
unfolding event_bytes event_status entry_bytes head_of event_written
event_said e h =
    let r = bit_below e.free_ca_mode in
    let t = code_below e.running_status in
    let id = h.event_id in
    let n = h.descriptors in
    let written = event_written e h in
    let whole = numbers (e.event_id / 256) (e.event_id % 256) ((status_code e.running_status * 2 + bit e.free_ca_mode) * 16 + length e.descriptors / 256)
    (length e.descriptors % 256) e
    (omega (arith, id)) (omega arith) (omega (arith, r, t, n)) (omega arith) id n written.id_spelled written.status_spelled in
    let says = head_says (e.event_id / 256) (e.event_id % 256) e.start_time e.duration
    ((status_code e.running_status * 2 + bit e.free_ca_mode) * 16 + length e.descriptors / 256) (length e.descriptors % 256) h.start_time h.duration in
    record {
      said = record {
        head = head_of (e.event_id / 256) (e.event_id % 256) e.start_time e.duration
            ((status_code e.running_status * 2 + bit e.free_ca_mode) * 16 + length e.descriptors / 256) (length e.descriptors % 256);
        descriptors = e.descriptors;
      };
      is = refl;
      entry = record { head_length = says.len; named = says.count ∙ whole.count };
      value = said _ _ _ _ e whole says;
    }
