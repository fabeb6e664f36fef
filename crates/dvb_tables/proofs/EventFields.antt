-- The fields of an event: from the bytes of an entry, and back
use Rattle.std.proofs.Common.{◌≡◌, ℕ, ◌+◌, ◌*◌, ◌/◌, ◌%◌, ◌^◌, ◌<◌, refl, List, [], ◌∷◌, ◌++◌, length, sym, ap, ap₂, ◌∙◌, subst, arith}
use Rattle.std.specs.Prelude.{slice_index}
use Rattle.bit_fields.specs.Fields.{number, fields, bit, flag, IsBytes}
use Rattle.bit_fields.proofs.ByteLists.{IsBytes-append_left, IsBytes-append_right}
use Rattle.bit_fields.proofs.Fields.{test_bit}
use Rattle.psi_tables.specs.Loops.{EntryView, IsEntry, entry_bytes, descriptors_length}
use Rattle.dvb_tables.specs.RunningStates.{status_code, status_of}
use Rattle.dvb_tables.specs.EventEntries.{EventView, IsEvent, event_of, event_bytes, event_status}
use Rattle.dvb_tables.proofs.Heads.{two, three, five, twelve, flag_bit, bit_below, code_below, status_again, code_again}
use Rattle.dvb_tables.proofs.EntrySequences.{Says}

status_spelled : (f g : ℕ) → f < 256 → g < 256
    → number (f ∷ g ∷ []) ≡ fields ((3, status_code (status_of (f / 32))) ∷ (1, bit (flag f 16)) ∷ (12, f % 16 * 256 + g) ∷ [])
status_spelled f g hf hg =
    let r : bit (flag f 16) ≡ f / 16 % 2 = flag_bit f 16 in
    let s : status_code (status_of (f / 32)) ≡ f / 32 = code_again (f / 32) (omega arith) in
    omega (arith, r, s)

here : (a b s1 s2 s3 s4 s5 d1 d2 d3 f g : ℕ) (descriptors : List ℕ) → a < 256 → b < 256 → f < 256 → g < 256 → f % 16 * 256 + g ≡ length descriptors
    → IsEvent ((a ∷ b ∷ s1 ∷ s2 ∷ s3 ∷ s4 ∷ s5 ∷ d1 ∷ d2 ∷ d3 ∷ f ∷ g ∷ []) ++ descriptors)
    (event_of (record { head = a ∷ b ∷ s1 ∷ s2 ∷ s3 ∷ s4 ∷ s5 ∷ d1 ∷ d2 ∷ d3 ∷ f ∷ g ∷ []; descriptors = descriptors }))
unfolding event_of
here a b s1 s2 s3 s4 s5 d1 d2 d3 f g descriptors ha hb hf hg n = record {
  id = a ∷ b ∷ [];
  status = f ∷ g ∷ [];
  is = refl;
  id_len = refl;
  start_time_len = refl;
  duration_len = refl;
  status_len = refl;
  id_spelled = omega arith;
  status_spelled = status_spelled f g hf hg ∙ ap (λ (n : ℕ). fields ((3, status_code (status_of (f / 32))) ∷ (1, bit (flag f 16)) ∷ (12, n) ∷ [])) n;
  event_id = omega arith;
  descriptors_loop_length = omega (arith, n);
}

-- An entry encodes an event.
pub event_found : (e : EntryView) → IsEntry 12 e → IsBytes (entry_bytes e) → IsEvent (entry_bytes e) (event_of e)
unfolding entry_bytes descriptors_length
event_found e entry fits =
    let h = twelve e.head entry.head_length in
    let head : IsBytes e.head = IsBytes-append_left e.head e.descriptors fits in
    let n : slice_index e.head 10 % 16 * 256 + slice_index e.head 11 ≡ length e.descriptors = sym (ap descriptors_length h) ∙ entry.named in
    subst (λ (h : List ℕ). IsEvent (h ++ e.descriptors) (event_of (record { head = h; descriptors = e.descriptors }))) (sym h)
    (here _ _ _ _ _ _ _ _ _ _ _ _ e.descriptors (head 0) (head 1) (head 10) (head 11) n)

-- Twelve bytes made of the parts of an event
unfoldable pub head_of : ℕ → ℕ → List ℕ → List ℕ → ℕ → ℕ → List ℕ
head_of a b start duration f g = (a ∷ b ∷ []) ++ start ++ duration ++ (f ∷ g ∷ [])

-- The parts of an event in its twelve bytes
pub record HeadSays (a b : ℕ) (start duration : List ℕ) (f g : ℕ) : Type 0 where
  pub len : length (head_of a b start duration f g) ≡ 12
  pub count : descriptors_length (head_of a b start duration f g) ≡ f % 16 * 256 + g
  pub value : (descriptors : List ℕ) → event_of (record { head = head_of a b start duration f g; descriptors = descriptors })
      ≡ record {
        event_id = a * 256 + b;
        start_time = start;
        duration = duration;
        running_status = status_of (f / 32);
        free_ca_mode = flag f 16;
        descriptors =
            descriptors;
      }

pub head_says : (a b : ℕ) (start duration : List ℕ) (f g : ℕ) → length start ≡ 5 → length duration ≡ 3 → HeadSays a b start duration f g
unfolding head_of descriptors_length event_of
head_says a b start duration f g hs hd =
    subst (λ (s : List ℕ). HeadSays a b s duration f g) (sym (five start hs))
    (subst (λ (d : List ℕ). HeadSays a b (slice_index start 0 ∷ slice_index start 1 ∷ slice_index start 2 ∷ slice_index start 3 ∷ slice_index start 4 ∷ []) d f
    g) (sym (three duration hd))
    (record { len = refl; count = refl; value = λ descriptors. refl }))

-- The numbers that four bytes of an event spell
pub record Numbers (a b f g : ℕ) (e : EventView) : Type 0 where
  pub id : a * 256 + b ≡ e.event_id
  pub status : f / 32 ≡ status_code e.running_status
  pub scrambled : f / 16 % 2 ≡ bit e.free_ca_mode
  pub count : f % 16 * 256 + g ≡ length e.descriptors

pub numbers : (a b f g : ℕ) (e : EventView) → a < 256 → b < 256 → f < 256 → g < 256 → e.event_id < 2 ^ 16 → length e.descriptors < 2 ^ 12
    → number (a ∷ b ∷ []) ≡ fields ((16, e.event_id) ∷ [])
    → number (f ∷ g ∷ []) ≡ fields ((3, status_code e.running_status) ∷ (1, bit e.free_ca_mode) ∷ (12, length e.descriptors) ∷ [])
    → Numbers a b f g e
numbers a b f g e ha hb hf hg hi hn i s =
    let r = bit_below e.free_ca_mode in
    let t = code_below e.running_status in
    record { id = omega arith; status = omega (arith, r, t); scrambled = omega (arith, r, t); count = omega (arith, r, t) }

pub said : (a b f g : ℕ) (e : EventView) → Numbers a b f g e → HeadSays a b e.start_time e.duration f g
    → event_of (record { head = head_of a b e.start_time e.duration f g; descriptors = e.descriptors }) ≡ e
said a b f g e n h =
    let i : a * 256 + b ≡ e.event_id = n.id in
    let r : status_of (f / 32) ≡ e.running_status = ap status_of n.status ∙ status_again e.running_status in
    let t : flag f 16 ≡ e.free_ca_mode = test_bit e.free_ca_mode (f / 16 % 2) n.scrambled in
    let v = h.value e.descriptors in
    let whole : event_of (record { head = head_of a b e.start_time e.duration f g; descriptors = e.descriptors }) ≡ record {
      event_id = e.event_id;
      start_time = e.start_time;
      duration = e.duration;
      running_status = e.running_status;
      free_ca_mode = e.free_ca_mode;
      descriptors = e.descriptors;
    } = cc in
    whole

-- The bytes of an event are an entry that encodes it.
pub event_only : (bytes : List ℕ) (e : EventView) → IsEvent bytes e → IsBytes bytes → Says 12 event_of bytes e
unfolding entry_bytes head_of
event_only bytes e h fits =
    let i = two h.id h.id_len in
    let s = two h.status h.status_len in
    let all : IsBytes (h.id ++ e.start_time ++ e.duration ++ h.status ++ e.descriptors) = subst IsBytes h.is fits in
    let head : IsBytes (h.id ++ e.start_time ++ e.duration ++ h.status) =
    IsBytes-append_left (h.id ++ e.start_time ++ e.duration ++ h.status) e.descriptors all in
    let front : IsBytes (h.id ++ e.start_time ++ e.duration) = IsBytes-append_left (h.id ++ e.start_time ++ e.duration) h.status head in
    let status : IsBytes h.status = IsBytes-append_right (h.id ++ e.start_time ++ e.duration) h.status head in
    let id : IsBytes h.id = IsBytes-append_left h.id e.start_time (IsBytes-append_left (h.id ++ e.start_time) e.duration front) in
    let n = numbers (slice_index h.id 0) (slice_index h.id 1) (slice_index h.status 0) (slice_index h.status 1) e (id 0) (id 1) (status 0) (status 1)
    h.event_id h.descriptors_loop_length (ap number (sym i) ∙ h.id_spelled) (ap number (sym s) ∙ h.status_spelled) in
    let says = head_says (slice_index h.id 0) (slice_index h.id 1) e.start_time e.duration (slice_index h.status 0) (slice_index h.status 1) h.start_time_len
    h.duration_len in
    record {
      said = record {
        head = head_of (slice_index h.id 0) (slice_index h.id 1) e.start_time e.duration (slice_index h.status 0) (slice_index h.status 1);
        descriptors = e.descriptors;
      };
      is = h.is ∙ ap₂ (λ (x y : List ℕ). x ++ e.start_time ++ e.duration ++ y ++ e.descriptors) i s;
      entry = record { head_length = says.len; named = says.count ∙ n.count };
      value = said _ _ _ _ e n says;
    }

same : (a b s1 s2 s3 s4 s5 d1 d2 d3 f g : ℕ) (descriptors : List ℕ) → a < 256 → b < 256 → f < 256 → g < 256 → f % 16 * 256 + g ≡ length descriptors
    → event_bytes (event_of (record { head = a ∷ b ∷ s1 ∷ s2 ∷ s3 ∷ s4 ∷ s5 ∷ d1 ∷ d2 ∷ d3 ∷ f ∷ g ∷ []; descriptors = descriptors }))
    ≡ (a ∷ b ∷ s1 ∷ s2 ∷ s3 ∷ s4 ∷ s5 ∷ d1 ∷ d2 ∷ d3 ∷ f ∷ g ∷ []) ++ descriptors
unfolding event_of event_bytes event_status
same a b s1 s2 s3 s4 s5 d1 d2 d3 f g descriptors ha hb hf hg n =
    let r : bit (flag f 16) ≡ f / 16 % 2 = flag_bit f 16 in
    let s : status_code (status_of (f / 32)) ≡ f / 32 = code_again (f / 32) (omega arith) in
    let p : (a * 256 + b) / 256 ≡ a = omega arith in
    let q : (a * 256 + b) % 256 ≡ b = omega arith in
    let t : (status_code (status_of (f / 32)) * 2 + bit (flag f 16)) * 16 + length descriptors / 256 ≡ f = omega (arith, r, s, n) in
    let u : length descriptors % 256 ≡ g = omega (arith, n) in
    cc

-- Writing an entry's event yields the entry, because no bit is reserved.
pub event_same : (e : EntryView) → IsEntry 12 e → IsBytes (entry_bytes e) → event_bytes (event_of e) ≡ entry_bytes e
unfolding entry_bytes descriptors_length
event_same e entry fits =
    let h = twelve e.head entry.head_length in
    let head : IsBytes e.head = IsBytes-append_left e.head e.descriptors fits in
    let n : slice_index e.head 10 % 16 * 256 + slice_index e.head 11 ≡ length e.descriptors = sym (ap descriptors_length h) ∙ entry.named in
    subst (λ (h : List ℕ). event_bytes (event_of (record { head = h; descriptors = e.descriptors })) ≡ h ++ e.descriptors) (sym h)
    (same _ _ _ _ _ _ _ _ _ _ _ _ e.descriptors (head 0) (head 1) (head 10) (head 11) n)
