-- A service as it is written
use Rattle.std.proofs.Common.{◌≡◌, ℕ, ◌+◌, ◌*◌, ◌/◌, ◌%◌, ◌^◌, ◌<◌, refl, [], ◌∷◌, length, arith}
use Rattle.bit_fields.specs.Fields.{number, fields, bit}
use Rattle.psi_tables.specs.Loops.{EntryView, entry_bytes, descriptors_length}
use Rattle.dvb_tables.specs.RunningStates.{status_code}
use Rattle.dvb_tables.specs.Services.{ServiceView, IsService, service_of, service_front, service_bytes}
use Rattle.dvb_tables.specs.Fits.{ServiceFits}
use Rattle.dvb_tables.proofs.Heads.{bit_below, code_below}
use Rattle.dvb_tables.proofs.ServiceFields.{numbers, said}
use Rattle.dvb_tables.proofs.EntrySequences.{Says}

spelled : (id sched pf status ca n : ℕ) → id < 2 ^ 16 → sched < 2 → pf < 2 → status < 8 → ca < 2 → n < 2 ^ 12
    → number ((id / 256) ∷ (id % 256) ∷ (0xFC + (sched * 2 + pf)) ∷ ((status * 2 + ca) * 16 + n / 256) ∷ (n % 256) ∷ [])
    ≡ fields ((16, id) ∷ (6, 63) ∷ (1, sched) ∷ (1, pf) ∷ (3, status) ∷ (1, ca) ∷ (12, n) ∷ [])
spelled id sched pf status ca n a b c d e f = omega arith

-- The bytes that are written for a service are a service.
pub service_written : (s : ServiceView) → ServiceFits s → IsService (service_bytes s) s
unfolding service_bytes service_front
service_written s h = record {
  head = service_front s;
  is = refl;
  len = refl;
  reserved = 63;
  spelled = spelled s.service_id (bit s.eit_schedule) (bit s.eit_present_following) (status_code s.running_status) (bit s.free_ca_mode) (length s.descriptors)
      h.service_id (bit_below s.eit_schedule) (bit_below s.eit_present_following) (code_below s.running_status) (bit_below s.free_ca_mode) h.descriptors;
  service_id = h.service_id;
  six_bits = omega arith;
  descriptors_loop_length = h.descriptors;
}

-- The entry that is written for a service
pub service_entry : ServiceView → EntryView
service_entry s = record { head = service_front s; descriptors = s.descriptors }

-- The bytes that are written for a service are an entry that encodes it.
pub service_said : (s : ServiceView) → ServiceFits s → Says 5 service_of (service_bytes s) s
unfolding service_bytes service_front service_entry entry_bytes descriptors_length service_written
service_said s h =
    let p = bit_below s.eit_schedule in
    let q = bit_below s.eit_present_following in
    let r = bit_below s.free_ca_mode in
    let t = code_below s.running_status in
    let id = h.service_id in
    let n = h.descriptors in
    let whole = numbers (s.service_id / 256) (s.service_id % 256) (0xFC + (bit s.eit_schedule * 2 + bit s.eit_present_following))
    ((status_code s.running_status * 2 + bit s.free_ca_mode) * 16 + length s.descriptors / 256) (length s.descriptors % 256) 63 s
    (omega (arith, id)) (omega arith) (omega (arith, p, q)) (omega (arith, r, t, n)) (omega arith) id (omega arith) n (service_written s h).spelled in
    record { said = service_entry s; is = refl; entry = record { head_length = refl; named = whole.count }; value = said _ _ _ _ _ s whole }
