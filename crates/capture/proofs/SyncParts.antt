-- The parts of packets of 188 bytes are the carried bytes and the slips of packet_sync; a stream in step is read unchanged.
use Rattle.std.proofs.Common.{◌≡◌, ◌≤◌, ◌<◌, ◌⊎◌, inl, inr, ℕ, zero, suc, ◌+◌, ◌*◌, ◌-◌, ◌/◌, ◌%◌, ◌&&◌, nat_lt, Bool, true, false, refl, sym, ap, ap₂, subst}
use Rattle.std.proofs.Common.{arith, ◌∙◌, List, [], ◌∷◌, ◌++◌, length, length-append, length-drop, length-take-le, map, take, drop, get_or, slice_get, Option}
use Rattle.std.proofs.Common.{None, Some, append_assoc, append-nil, drop-drop}
use Rattle.std.proofs.lemmas.List.{take-append-drop}
use Rattle.std.proofs.lemmas.Option.{slice_get_cases, slice_get_past}
use Rattle.packet_sync.specs.declared.file_form.FileForm.{FileForm}
use Rattle.packet_sync.specs.Laws.{IsInStep}
use Rattle.packet_sync.specs.OtherPackets.{other_packets}
use Rattle.packet_sync.specs.Slips.{are_apart, carried, goes_on, is_in_step, is_next, is_sync, slip_by, slip_size, slips, slips_from}
use Rattle.packet_sync.specs.declared.slip.Slip.{Slip}
use Rattle.packet_sync.proofs.SlipSteps.{at_end, one_packet, one_slip}
use Rattle.packet_sync.proofs.Stretches.{Steady, carried_few, carried_packet, carried_slip, slip_later, slip_some}
use Rattle.ts_packet.specs.PidList.{cut_packets}
use Rattle.ts_packet.proofs.Listing.{first_cut}
use Rattle.capture.specs.Captures.{Capture, IsPacket, Part, after_packets, capture_from, capture_of, first_place, no_parts, size_parts, slip_at, with_parts}
use Rattle.packet_sync.specs.FrontForms.{form_of}
use Rattle.capture.specs.Laws.{CarriedAndSlips, InStepAsItIs, IsOfSync, IsReadAsItIs, packet_bytes, slips_among}
use Rattle.capture.specs.declared.place.Place.{Place}
use Rattle.capture.proofs.Parts.{none_before, packet_first, plain_few, slip_first}
use Rattle.capture.proofs.SettledParts.{steady_parts}

-- 1. Carried bytes

-- The bytes of packets, and the bytes after the last packet
abbrev held : Capture → List ℕ
held c = packet_bytes c.parts ++ c.rest

held_packet : (bytes : List ℕ) (c : Capture) → held (with_parts (IsPacket bytes ∷ []) c) ≡ bytes ++ held c
unfolding packet_bytes
held_packet bytes c = append_assoc bytes (packet_bytes c.parts) c.rest

held_slip : (size : ℕ) (p : Place) (c : Capture) → held (with_parts (slip_at size p ∷ []) c) ≡ held c
unfolding packet_bytes
held_slip size p c = refl

held_none : (form : FileForm) (bs : List ℕ) → held (no_parts form bs) ≡ bs
unfolding packet_bytes
held_none form bs = refl

carried_step : (n : ℕ) (form : FileForm) (p : Place) (bs : List ℕ) → length bs ≤ suc n → 188 ≤ length bs → (o : Option ℕ) → slip_size bs 0 ≡ o →
    ((p : Place) (bs : List ℕ) → length bs ≤ n → held (capture_from form None p bs) ≡ carried bs) → held (capture_from form None p bs) ≡ carried bs
carried_step n form p bs some long None is rest =
    let fewer : length (drop 188 bs) ≤ n = omega (arith, length-drop 188 bs, some, long) in
    ap held (packet_first form p bs long is) ∙ held_packet (take 188 bs) (capture_from form None (after_packets 188 p) (drop 188 bs))
    ∙ ap (λ (r : List ℕ). take 188 bs ++ r) (rest (after_packets 188 p) (drop 188 bs) fewer) ∙ sym (carried_packet bs long is)
carried_step n form p bs some long (Some size) is rest =
    let least = slip_some bs 0 size is in
    let fewer : length (drop size bs) ≤ n = omega (arith, length-drop size bs, some, long, least) in
    let q : Place = record { packet = p.packet; start = p.start + size } in
    ap held (slip_first form p bs size long is) ∙ held_slip size p (capture_from form None q (drop size bs)) ∙ rest q (drop size bs) fewer
    ∙ sym (carried_slip bs size long is)

carried_by : (n : ℕ) (form : FileForm) (p : Place) (bs : List ℕ) → length bs ≤ suc n → (b : Bool) → nat_lt (length bs) 188 ≡ b →
    ((p : Place) (bs : List ℕ) → length bs ≤ n → held (capture_from form None p bs) ≡ carried bs) → held (capture_from form None p bs) ≡ carried bs
carried_by n form p bs some true is rest =
    let short : length bs < 188 = search (arith, is) in ap held (plain_few form p bs short) ∙ held_none form bs ∙ sym (carried_few bs short)
carried_by n form p bs some false is rest =
    let long : 188 ≤ length bs = search (arith, is) in carried_step n form p bs some long (slip_size bs 0) refl rest

carried_in : (n : ℕ) (form : FileForm) (p : Place) (bs : List ℕ) → length bs ≤ n → held (capture_from form None p bs) ≡ carried bs
carried_in zero form p bs some =
    let short : length bs < 188 = omega (arith, some) in ap held (plain_few form p bs short) ∙ held_none form bs ∙ sym (carried_few bs short)
carried_in (suc n) form p bs some = carried_by n form p bs some (nat_lt (length bs) 188) refl (carried_in n form)

-- 2. Slips

among_packet : (bytes : List ℕ) (c : Capture) → slips_among (with_parts (IsPacket bytes ∷ []) c).parts ≡ slips_among c.parts
unfolding slips_among
among_packet bytes c = refl

among_slip : (size : ℕ) (p : Place) (c : Capture) →
    slips_among (with_parts (slip_at size p ∷ []) c).parts ≡ record { packet = p.packet; start = p.start; size = size } ∷ slips_among c.parts
unfolding slips_among
among_slip size p c = refl

among_none : (form : FileForm) (bs : List ℕ) → slips_among (no_parts form bs).parts ≡ []
unfolding slips_among
among_none form bs = refl

abbrev place : ℕ → ℕ → Place
place i j = record { packet = i; start = j }

abbrev SameSlips : FileForm → List ℕ → ℕ → Type 0
SameSlips form bs n = (packet at : ℕ) → length bs ≤ n + at →
    slips_among (capture_from form None (place packet at) (drop at bs)).parts ≡ slips_from n bs packet at

slips_step : (n : ℕ) (form : FileForm) (bs : List ℕ) (packet at : ℕ) → length bs ≤ suc n + at → at + 188 ≤ length bs → (o : Option ℕ) → slip_size bs at ≡ o →
    SameSlips form bs n →
    slips_among (capture_from form None (place packet at) (drop at bs)).parts ≡ slips_from (suc n) bs packet at
slips_step n form bs packet at some long None is rest =
    let many : 188 ≤ length (drop at bs) = omega (arith, length-drop at bs, long) in
    let e : at + 0 ≡ at = omega arith in
    let here : slip_size (drop at bs) 0 ≡ None = sym (slip_later bs at 0) ∙ subst (λ (i : ℕ). slip_size bs i ≡ None) (sym e) is in
    let one : packet + 188 / 188 ≡ packet + 1 = omega arith in
    ap (λ (c : Capture). slips_among c.parts) (packet_first form (place packet at) (drop at bs) many here)
    ∙ among_packet (take 188 (drop at bs)) (capture_from form None (after_packets 188 (place packet at)) (drop 188 (drop at bs)))
    ∙ ap₂ (λ (i : ℕ) (r : List ℕ). slips_among (capture_from form None (place i (at + 188)) r).parts) one (drop-drop 188 at bs)
    ∙ rest (packet + 1) (at + 188) (omega (arith, some))
    ∙ sym (one_packet n bs packet at long is)
slips_step n form bs packet at some long (Some size) is rest =
    let many : 188 ≤ length (drop at bs) = omega (arith, length-drop at bs, long) in
    let e : at + 0 ≡ at = omega arith in
    let here : slip_size (drop at bs) 0 ≡ Some size = sym (slip_later bs at 0) ∙ subst (λ (i : ℕ). slip_size bs i ≡ Some size) (sym e) is in
    let least = slip_some bs at size is in
    ap (λ (c : Capture). slips_among c.parts) (slip_first form (place packet at) (drop at bs) size many here)
    ∙ among_slip size (place packet at) (capture_from form None (place packet (at + size)) (drop size (drop at bs)))
    ∙ ap (λ (ss : List Slip). record { packet = packet; start = at; size = size } ∷ ss)
    (ap (λ (r : List ℕ). slips_among (capture_from form None (place packet (at + size)) r).parts) (drop-drop size at bs)
    ∙ rest packet (at + size) (omega (arith, some, least)))
    ∙ sym (one_slip n bs packet at size long is)

slips_short : (n : ℕ) (form : FileForm) (bs : List ℕ) (packet at : ℕ) → length bs < at + 188 →
    slips_among (capture_from form None (place packet at) (drop at bs)).parts ≡ slips_from n bs packet at
slips_short n form bs packet at short =
    let few : length (drop at bs) < 188 = omega (arith, length-drop at bs, short) in
    ap (λ (c : Capture). slips_among c.parts) (plain_few form (place packet at) (drop at bs) few) ∙ among_none form (drop at bs)
    ∙ sym (at_end n bs packet at short)

slips_by : (n : ℕ) (form : FileForm) (bs : List ℕ) (packet at : ℕ) → length bs ≤ suc n + at → (b : Bool) → nat_lt (length bs) (at + 188) ≡ b →
    SameSlips form bs n →
    slips_among (capture_from form None (place packet at) (drop at bs)).parts ≡ slips_from (suc n) bs packet at
slips_by n form bs packet at some true is rest = let short : length bs < at + 188 = search (arith, is) in slips_short (suc n) form bs packet at short
slips_by n form bs packet at some false is rest =
    let long : at + 188 ≤ length bs = search (arith, is) in slips_step n form bs packet at some long (slip_size bs at) refl rest

slips_in : (n : ℕ) (form : FileForm) (bs : List ℕ) → SameSlips form bs n
slips_in zero form bs packet at some = slips_short zero form bs packet at (omega (arith, some))
slips_in (suc n) form bs packet at some = slips_by n form bs packet at some (nat_lt (length bs) (at + 188)) refl (slips_in n form bs)

-- 3. A whole input

plain_of : (bs : List ℕ) → other_packets bs ≡ None → capture_of bs ≡ capture_from (form_of bs) None first_place bs
unfolding size_parts
plain_of bs e = rw e refl

pub carried_and_slips_are : CarriedAndSlips
unfolding slips
carried_and_slips_are bs e = record {
  carried_is = ap held (plain_of bs e) ∙ carried_in (length bs) (form_of bs) first_place bs (omega arith);
  slips_are = ap (λ (c : Capture). slips_among c.parts) (plain_of bs e) ∙ slips_in (length bs) (form_of bs) bs 0 0 (omega arith);
}

-- 4. A stream in step

next_begins : (bs : List ℕ) (i : ℕ) → IsInStep bs →
    ((x : ℕ) × (i * 188 + 188 < length bs) × (slice_get bs (i * 188 + 188) ≡ Some x) × (get_or bs (i * 188 + 188) x ≡ x)) ⊎
    ((length bs ≤ i * 188 + 188) × (slice_get bs (i * 188 + 188) ≡ None)) →
    is_next bs (i * 188 + 188) ≡ true
unfolding is_next
next_begins bs i step (inl one) =
    let e : (i + 1) * 188 ≡ i * 188 + 188 = omega arith in
    let within : (i + 1) * 188 < length bs = omega (arith, one.1) in
    let is : slice_get bs (i * 188 + 188) ≡ Some 71 = subst (λ (k : ℕ). slice_get bs k ≡ Some 71) e (step (i + 1) within) in
    rw is refl
next_begins bs i step (inr none) = rw none.1 refl

no_slip : (bs : List ℕ) (at : ℕ) → is_next bs (at + 188) ≡ true → slip_size bs at ≡ None
unfolding slip_by goes_on
no_slip bs at e = rw e refl

steady_in_step : (bs : List ℕ) (size : ℕ) → IsInStep bs → Steady bs size
steady_in_step bs size step = λ k less.
    let e : k * 188 ≡ 188 * k = omega arith in
    subst (λ (i : ℕ). slip_size bs i ≡ None) e (no_slip bs (k * 188) (next_begins bs k step (slice_get_cases bs (k * 188 + 188)).1))

-- In step, each packet begins with a sync byte, unless the stream ends before it.
sync_at : (bs : List ℕ) (i : ℕ) → IsInStep bs → i * 188 < length bs → is_sync bs (i * 188) ≡ true
unfolding is_sync
sync_at bs i step within = rw (step i within) refl

no_sync : (bs : List ℕ) (at : ℕ) → length bs ≤ at → is_sync bs at ≡ false
unfolding is_sync
no_sync bs at past = rw (slice_get_past bs at past) refl

last_false : (a b c : Bool) → c ≡ false → (a && b && c) ≡ false
last_false true true c e = e
last_false true false c e = refl
last_false false true c e = refl
last_false false false c e = refl

not_in_step : (bs : List ℕ) → length bs ≤ 376 → is_in_step bs 0 ≡ false
unfolding are_apart
not_in_step bs short = last_false (is_sync bs 0) (is_sync bs (0 + 188)) (is_sync bs (0 + 376)) (no_sync bs (0 + 376) short)

not_apart : (bs : List ℕ) (at size : ℕ) → length bs ≤ at + 2 * size → are_apart bs at size ≡ false
unfolding are_apart
not_apart bs at size short = last_false (is_sync bs at) (is_sync bs (at + size)) (is_sync bs (at + 2 * size)) (no_sync bs (at + 2 * size) short)

in_step_front : (bs : List ℕ) → IsInStep bs → 376 < length bs → is_in_step bs 0 ≡ true
unfolding are_apart
in_step_front bs step long = rw (sync_at bs 0 step (omega (arith, long)), sync_at bs 1 step (omega (arith, long)), sync_at bs 2 step (omega (arith, long))) refl

in_step_by : (bs : List ℕ) → IsInStep bs → (b : Bool) → nat_lt 376 (length bs) ≡ b → other_packets bs ≡ None
unfolding other_packets
in_step_by bs step true is =
    let long : 376 < length bs = search (arith, is) in
    rw (in_step_front bs step long) refl
in_step_by bs step false is =
    let short : length bs ≤ 376 = search (arith, is) in
    rw (not_in_step bs short, not_apart bs 4 192 (omega (arith, short)), not_apart bs 0 204 (omega (arith, short))) refl

pub in_step_plain : (bs : List ℕ) → IsInStep bs → other_packets bs ≡ None
in_step_plain bs step = in_step_by bs step (nat_lt 376 (length bs)) refl

-- All whole packets, and fewer bytes than a packet has
cut_short : (bs : List ℕ) → length bs < 188 → cut_packets bs ≡ []
cut_short bs short = let e : length bs / 188 ≡ 0 = omega (arith, short) in rw e refl

cut_both : (k : ℕ) (bytes more : List ℕ) → length bytes ≡ 188 * k → cut_packets (bytes ++ more) ≡ cut_packets bytes ++ cut_packets more
cut_both zero [] more e = refl
cut_both zero (x ∷ bytes) more e = absurd (omega arith)
cut_both (suc k) bytes more e =
    let front = take 188 bytes in
    let back = drop 188 bytes in
    let joined : front ++ back ≡ bytes = take-append-drop 188 bytes in
    let size : length front ≡ 188 = length-take-le 188 bytes (omega arith) in
    let left : length back ≡ 188 * k = omega (arith, length-drop 188 bytes) in
    ap (λ (x : List ℕ). cut_packets (x ++ more)) (sym joined)
    ∙ ap (λ (x : List ℕ). cut_packets x) (append_assoc front back more)
    ∙ first_cut front (back ++ more) size
    ∙ ap (λ (x : List (List ℕ)). front ∷ x) (cut_both k back more left)
    ∙ ap (λ (x : List (List ℕ)). x ++ cut_packets more) (sym (first_cut front back size))
    ∙ ap (λ (x : List ℕ). cut_packets x ++ cut_packets more) joined

whole_cut : (bs : List ℕ) → cut_packets (take (188 * (length bs / 188)) bs) ≡ cut_packets bs
whole_cut bs =
    let k = length bs / 188 in
    let size : length (take (188 * k) bs) ≡ 188 * k = length-take-le (188 * k) bs (omega arith) in
    let short : length (drop (188 * k) bs) < 188 = omega (arith, length-drop (188 * k) bs) in
    sym (append-nil (cut_packets (take (188 * k) bs)))
    ∙ ap (λ (x : List (List ℕ)). cut_packets (take (188 * k) bs) ++ x) (sym (cut_short (drop (188 * k) bs) short))
    ∙ sym (cut_both k (take (188 * k) bs) (drop (188 * k) bs) size)
    ∙ ap (λ (x : List ℕ). cut_packets x) (take-append-drop (188 * k) bs)

in_step_capture : (bs : List ℕ) → IsInStep bs →
    capture_of bs ≡ with_parts (map IsPacket (cut_packets bs)) (no_parts (form_of bs) (drop (188 * (length bs / 188)) bs))
in_step_capture bs step =
    let k = length bs / 188 in
    let short : length (drop (188 * k) bs) < 188 = omega (arith, length-drop (188 * k) bs) in
    plain_of bs (in_step_plain bs step)
    ∙ steady_parts k (form_of bs) first_place bs (omega arith) (steady_in_step bs (188 * k) step)
    ∙ ap₂ (λ (x : List (List ℕ)) (c : Capture). with_parts (map IsPacket x) c) (whole_cut bs)
    (plain_few (form_of bs) (after_packets (188 * k) first_place) (drop (188 * k) bs) short)

pub in_step_is : InStepAsItIs
in_step_is bs step =
    let e = in_step_capture bs step in
    let size : length (drop (188 * (length bs / 188)) bs) ≡ length bs % 188 = omega (arith, length-drop (188 * (length bs / 188)) bs) in
    record {
      parts = ap (λ (c : Capture). c.parts) e ∙ append-nil (map IsPacket (cut_packets bs));
      rest = ap (λ (c : Capture). length c.rest) e ∙ size;
    }
