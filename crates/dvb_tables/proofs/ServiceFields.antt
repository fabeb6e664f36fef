-- The fields of a service: from the bytes of an entry, and back
use Rattle.std.proofs.Common.{◌≡◌, ℕ, ◌+◌, ◌*◌, ◌/◌, ◌%◌, ◌^◌, ◌<◌, refl, List, [], ◌∷◌, ◌++◌, length, sym, ap, ◌∙◌, subst, arith, length-append}
use Rattle.std.specs.Prelude.{slice_index}
use Rattle.bit_fields.specs.Fields.{number, fields, bit, flag, IsBytes}
use Rattle.bit_fields.proofs.ByteLists.{IsBytes-append_left}
use Rattle.bit_fields.proofs.Fields.{test_bit}
use Rattle.psi_tables.specs.Loops.{EntryView, IsEntry, entry_bytes, descriptors_length}
use Rattle.dvb_tables.specs.RunningStates.{status_code, status_of}
use Rattle.dvb_tables.specs.Services.{ServiceView, IsService, service_of, service_front, service_bytes}
use Rattle.dvb_tables.proofs.Heads.{five, flag_bit, bit_below, code_below, status_again, code_again}
use Rattle.dvb_tables.proofs.EntrySequences.{Says}

spelled : (a b c d f : ℕ) → a < 256 → b < 256 → c < 256 → d < 256 → f < 256
    → number (a ∷ b ∷ c ∷ d ∷ f ∷ []) ≡ fields ((16, a * 256 + b) ∷ (6, c / 4) ∷ (1, bit (flag c 2)) ∷ (1, bit (flag c 1))
    ∷ (3, status_code (status_of (d / 32))) ∷ (1, bit (flag d 16)) ∷ (12, d % 16 * 256 + f) ∷ [])
spelled a b c d f ha hb hc hd hf =
    let p : bit (flag c 2) ≡ c / 2 % 2 = flag_bit c 2 in
    let q : bit (flag c 1) ≡ c / 1 % 2 = flag_bit c 1 in
    let r : bit (flag d 16) ≡ d / 16 % 2 = flag_bit d 16 in
    let s : status_code (status_of (d / 32)) ≡ d / 32 = code_again (d / 32) (omega arith) in
    omega (arith, p, q, r, s)

here : (a b c d f : ℕ) (descriptors : List ℕ) → a < 256 → b < 256 → c < 256 → d < 256 → f < 256 → d % 16 * 256 + f ≡ length descriptors
    → IsService ((a ∷ b ∷ c ∷ d ∷ f ∷ []) ++ descriptors) (service_of (record { head = a ∷ b ∷ c ∷ d ∷ f ∷ []; descriptors = descriptors }))
unfolding service_of
here a b c d f descriptors ha hb hc hd hf n = record {
  head = a ∷ b ∷ c ∷ d ∷ f ∷ [];
  is = refl;
  len = refl;
  reserved = c / 4;
  spelled = spelled a b c d f ha hb hc hd hf ∙ ap (λ (n : ℕ). fields ((16, a * 256 + b) ∷ (6, c / 4) ∷ (1, bit (flag c 2)) ∷ (1, bit (flag c 1))
      ∷ (3, status_code (status_of (d / 32))) ∷ (1, bit (flag d 16)) ∷ (12, n) ∷ [])) n;
  service_id = omega arith;
  six_bits = omega arith;
  descriptors_loop_length = omega (arith, n);
}

-- An entry encodes a service.
pub service_found : (e : EntryView) → IsEntry 5 e → IsBytes (entry_bytes e) → IsService (entry_bytes e) (service_of e)
unfolding entry_bytes descriptors_length
service_found e entry fits =
    let h = five e.head entry.head_length in
    let head : IsBytes e.head = IsBytes-append_left e.head e.descriptors fits in
    let n : descriptors_length (slice_index e.head 0 ∷ slice_index e.head 1 ∷ slice_index e.head 2 ∷ slice_index e.head 3 ∷ slice_index e.head 4 ∷ []) ≡ length
    e.descriptors
    = sym (ap descriptors_length h) ∙ entry.named in
    subst (λ (h : List ℕ). IsService (h ++ e.descriptors) (service_of (record { head = h; descriptors = e.descriptors }))) (sym h)
    (here (slice_index e.head 0) (slice_index e.head 1) (slice_index e.head 2) (slice_index e.head 3) (slice_index e.head 4) e.descriptors
    (head 0) (head 1) (head 2) (head 3) (head 4) n)

-- The numbers that five bytes of a service spell
pub record Numbers (a b c d f : ℕ) (s : ServiceView) : Type 0 where
  pub id : a * 256 + b ≡ s.service_id
  pub schedule : c / 2 % 2 ≡ bit s.eit_schedule
  pub present_following : c / 1 % 2 ≡ bit s.eit_present_following
  pub status : d / 32 ≡ status_code s.running_status
  pub scrambled : d / 16 % 2 ≡ bit s.free_ca_mode
  pub count : d % 16 * 256 + f ≡ length s.descriptors

pub numbers : (a b c d f reserved : ℕ) (s : ServiceView) → a < 256 → b < 256 → c < 256 → d < 256 → f < 256
    → s.service_id < 2 ^ 16 → reserved < 2 ^ 6 → length s.descriptors < 2 ^ 12
    → number (a ∷ b ∷ c ∷ d ∷ f ∷ []) ≡ fields ((16, s.service_id) ∷ (6, reserved) ∷ (1, bit s.eit_schedule) ∷ (1, bit s.eit_present_following)
    ∷ (3, status_code s.running_status) ∷ (1, bit s.free_ca_mode) ∷ (12, length s.descriptors) ∷ [])
    → Numbers a b c d f s
numbers a b c d f reserved s ha hb hc hd hf hi hr hn e =
    let p = bit_below s.eit_schedule in
    let q = bit_below s.eit_present_following in
    let r = bit_below s.free_ca_mode in
    let t = code_below s.running_status in
    record {
      id = omega (arith, p, q, r, t);
      schedule = omega (arith, p, q, r, t);
      present_following = omega (arith, p, q, r, t);
      status = omega (arith, p, q, r, t);
      scrambled = omega (arith, p, q, r, t);
      count = omega (arith, p, q, r, t);
    }

pub said : (a b c d f : ℕ) (s : ServiceView) → Numbers a b c d f s → service_of (record { head = a ∷ b ∷ c ∷ d ∷ f ∷ []; descriptors = s.descriptors }) ≡ s
unfolding service_of
said a b c d f s n =
    let i : a * 256 + b ≡ s.service_id = n.id in
    let p : flag c 2 ≡ s.eit_schedule = test_bit s.eit_schedule (c / 2 % 2) n.schedule in
    let q : flag c 1 ≡ s.eit_present_following = test_bit s.eit_present_following (c / 1 % 2) n.present_following in
    let r : status_of (d / 32) ≡ s.running_status = ap status_of n.status ∙ status_again s.running_status in
    let t : flag d 16 ≡ s.free_ca_mode = test_bit s.free_ca_mode (d / 16 % 2) n.scrambled in
    let whole : service_of (record { head = a ∷ b ∷ c ∷ d ∷ f ∷ []; descriptors = s.descriptors }) ≡ record {
      service_id = s.service_id;
      eit_schedule = s.eit_schedule;
      eit_present_following = s.eit_present_following;
      running_status = s.running_status;
      free_ca_mode = s.free_ca_mode;
      descriptors = s.descriptors;
    } = cc in
    whole

-- The bytes of a service are an entry that encodes it.
pub service_only : (bytes : List ℕ) (s : ServiceView) → IsService bytes s → IsBytes bytes → Says 5 service_of bytes s
unfolding entry_bytes descriptors_length
service_only bytes s h fits =
    let l = five h.head h.len in
    let head : IsBytes h.head = IsBytes-append_left h.head s.descriptors (subst IsBytes h.is fits) in
    let n = numbers (slice_index h.head 0) (slice_index h.head 1) (slice_index h.head 2) (slice_index h.head 3) (slice_index h.head 4) h.reserved s
    (head 0) (head 1) (head 2) (head 3) (head 4) h.service_id h.six_bits h.descriptors_loop_length (ap number (sym l) ∙ h.spelled) in
    record {
      said = record { head = h.head; descriptors = s.descriptors };
      is = h.is;
      entry = record { head_length = h.len; named = ap descriptors_length l ∙ n.count };
      value = ap (λ (head : List ℕ). service_of (record { head = head; descriptors = s.descriptors })) l
          ∙ said (slice_index h.head 0) (slice_index h.head 1) (slice_index h.head 2) (slice_index h.head 3) (slice_index h.head 4) s n;
    }

-- A service is written with five bytes before its descriptors.
pub service_length : (e : EntryView) → IsEntry 5 e → length (service_bytes (service_of e)) ≡ length (entry_bytes e)
unfolding service_bytes service_front entry_bytes service_of
service_length e entry = omega (arith, entry.head_length, length-append e.head e.descriptors)
