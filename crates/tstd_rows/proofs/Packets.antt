-- A packet enters its buffers: its first bytes, the rest of its header, the unit that begins, and its payload, in this order.
use Rattle.std.proofs.Common.{◌≡◌, ◌∙◌, sym, ℕ, ◌+◌, ◌-◌, ◌*◌, ◌≤◌, ◌<◌, max, ◌&&◌, nat_le, nat_lt, Bool, true, false, List, ◌++◌, Option, None, refl, subst}
use Rattle.std.proofs.Common.{ap, arith}
use Rattle.std.proofs.lemmas.Bool.Decides.{nat_tests}
use Rattle.std.specs.Option.{option_to_list}
use Rattle.arrival.specs.declared.arrival.Arrival.{Arrival}
use Rattle.arrival.specs.declared.arrival.Arrival.TheVariants.{Unknown, AtRate, OnLines}
use Rattle.arrival.specs.Arrivals.{has_times}
use Rattle.tstd_rows.specs.declared.excess.Excess.{Excess}
use Rattle.tstd_rows.specs.History.{transport_of}
use Rattle.tstd_rows.specs.Limits.{last_bytes, last_index}
use Rattle.tstd_rows.specs.declared.unit_seen.UnitSeen.{UnitSeen}
use Rattle.tstd_rows.specs.declared.late_causes.VideoUnit.{VideoUnit}
use Rattle.tstd_rows.specs.declared.arriving.Arriving.{Arriving}
use Rattle.tstd_rows.specs.declared.arriving.UnitPart.{UnitPart}
use Rattle.tstd_rows.specs.declared.entered.Entered.{Entered}
use Rattle.tstd_rows.specs.declared.stream_buffers.StreamBuffers.{StreamBuffers}
use Rattle.tstd_rows.specs.Held.{Held, IsHeld, begun, unit_before}
use Rattle.tstd_rows.specs.HeldVideo.{HoldsVideoOf, VideoEnteredView, VideoSizes}
use Rattle.tstd_rows.specs.EnteringVideo.{bytes_video, unit_with, video_first, video_first_of, video_unit_ended, video_unit_of}
use Rattle.tstd_rows.specs.Entering.{EnteredView, after_begin, after_bytes, after_first, after_header, after_lead, after_part, after_unit, bytes_main}
use Rattle.tstd_rows.specs.Entering.{bytes_main_least, bytes_main_most, bytes_transport, bytes_transport_most, ended_first, ended_part, entered_first}
use Rattle.tstd_rows.specs.Entering.{entered_part, entered_view, lead_in, size_of, takes_in, takes_part, unit_ended, with_first}
use Rattle.tstd_rows.proofs.Rows.{bytes_held}

-- Bytes within a range that has times have times.
pub within : (arrival : Arrival) (i j n : ℕ) → has_times arrival i 188 ≡ true → i ≤ j → j + n ≤ i + 188 → has_times arrival j n ≡ true
unfolding has_times
within Unknown i j n e first last = absurd cc
within (AtRate rate) i j n e first last = grind (arith, nat_tests)
within (OnLines lines) i j n e first last = grind (arith, nat_tests)

-- A packet is taken in if its index and its bytes are within the bounds and have times.
pub taken_in : (b : StreamBuffers) (h : Held) (arrival : Arrival) (p : Arriving) → IsHeld b h → p.index < last_index → b.view.transport.bytes ≤ last_bytes →
    has_times arrival (188 * p.index) 188 ≡ true → takes_in h arrival p ≡ true
taken_in b h arrival p k early few times =
    let bytes : (transport_of h.rate h.parts).bytes ≤ last_bytes = omega (arith, bytes_held b h k, few) in
    by_tests p.index last_index (transport_of h.rate h.parts).bytes last_bytes (has_times arrival (188 * p.index) 188) early bytes times
  where
    by_tests : (a b c d : ℕ) (e : Bool) → a < b → c ≤ d → e ≡ true → (nat_lt a b && nat_le c d && e) ≡ true
    by_tests a b c d e lt le is = rw is (grind (arith, nat_tests))

after_in : (h : Held) (arrival : Arrival) (p : Arriving) (count : ℕ) → takes_in h arrival p ≡ true →
    with_first h arrival p (size_of p) (lead_in arrival p) count ≡ after_first h arrival p count
unfolding after_first
after_in h arrival p count e = rw e refl

entered_in : (h : Held) (arrival : Arrival) (p : Arriving) (count : ℕ) → takes_in h arrival p ≡ true →
    ended_first h arrival p (size_of p) (lead_in arrival p) count ≡ entered_first h arrival p count
unfolding entered_first
entered_in h arrival p count e = rw e refl

pub packet_held : (b0 b1 b2 b3 b4 : StreamBuffers) (h : Held) (arrival : Arrival) (p : Arriving) (size lead count : ℕ) → IsHeld b0 h →
    takes_in h arrival p ≡ true →
    size ≡ size_of p → lead ≡ lead_in arrival p →
    ((h : Held) → IsHeld b0 h → IsHeld b1 (after_lead h arrival p lead)) →
    ((h : Held) → IsHeld b1 h → IsHeld b2 (after_bytes h arrival false (188 * p.index + lead) (188 - size - lead))) →
    ((h : Held) → IsHeld b2 h → IsHeld b3 (after_begin h p.begins)) →
    ((h : Held) → IsHeld b3 h → IsHeld b4 (after_bytes h arrival p.enters (188 * p.index + (188 - size)) count)) →
    IsHeld b4 (after_first h arrival p count)
packet_held b0 b1 b2 b3 b4 h arrival p size lead count k takes same same' first header begin payload =
    let led = first h k in
    let passed = header (after_lead h arrival p lead) led in
    let begun = begin (after_header h arrival p size lead) passed in
    let held : IsHeld b4 (with_first h arrival p size lead count) = payload (after_unit h arrival p size lead) begun in
    subst (IsHeld b4) (ap (λ (n : ℕ). with_first h arrival p n lead count) same ∙ ap (λ (n : ℕ). with_first h arrival p (size_of p) n count) same'
    ∙ after_in h arrival p count takes) held

same_view : (e : Entered) (lead header payload main : List Excess) (unit : Option UnitSeen) (most main_most : ℕ) (least : Option ℕ) →
    option_to_list e.lead ≡ lead →
    option_to_list e.header ≡ header → option_to_list e.payload ≡ payload → option_to_list e.main ≡ main → e.unit ≡ unit → e.transport_most ≡ most →
    e.main_most ≡ main_most → e.main_least ≡ least →
    entered_view e ≡ record {
      transport = lead ++ (header ++ payload);
      main = main;
      unit = unit;
      transport_most = most;
      main_most = main_most;
      main_least =
          least;
    }
same_view e lead header payload main unit most main_most least p q r s t u v w = rw (p, q, r, s, t, u, v, w) refl

same_most : (a b c d x y z : ℕ) → d ≡ max (max a b) c → a ≡ x → b ≡ y → c ≡ z → d ≡ max (max x y) z
same_most a b c d x y z is p q r = rw (sym p, sym q, sym r) is

-- The excesses that the parts of a packet have ended, and the most bytes that the buffers have held
pub record Parts (b0 b1 b2 b3 : StreamBuffers) (arrival : Arrival) (p : Arriving) (e : Entered)
    (size front count front_most header_most payload_most : ℕ) : Type 0 where
  pub first : (h : Held) → IsHeld b0 h → IsHeld b1 (after_lead h arrival p front)
  pub lead : (h : Held) → IsHeld b0 h → option_to_list e.lead ≡ bytes_transport h arrival (188 * p.index) front
  pub lead_found : (h : Held) → IsHeld b0 h → front_most ≡ bytes_transport_most h arrival (188 * p.index) front
  pub pass : (h : Held) → IsHeld b1 h → IsHeld b2 (after_bytes h arrival false (188 * p.index + front) (188 - size - front))
  pub header : (h : Held) → IsHeld b1 h → option_to_list e.header ≡ bytes_transport h arrival (188 * p.index + front) (188 - size - front)
  pub header_found : (h : Held) → IsHeld b1 h → header_most ≡ bytes_transport_most h arrival (188 * p.index + front) (188 - size - front)
  pub begin : (h : Held) → IsHeld b2 h → IsHeld b3 (after_begin h p.begins)
  pub unit : (h : Held) → IsHeld b2 h → e.unit ≡ unit_ended h p.begins
  pub transport : (h : Held) → IsHeld b3 h → option_to_list e.payload ≡ bytes_transport h arrival (188 * p.index + (188 - size)) count
  pub main : (h : Held) → IsHeld b3 h → option_to_list e.main ≡ bytes_main h arrival p.enters (188 * p.index + (188 - size)) count
  pub payload_found : (h : Held) → IsHeld b3 h → payload_most ≡ bytes_transport_most h arrival (188 * p.index + (188 - size)) count
  pub main_found : (h : Held) → IsHeld b3 h → e.main_most ≡ bytes_main_most h arrival p.enters (188 * p.index + (188 - size)) count
  pub least_found : (h : Held) → IsHeld b3 h → e.main_least ≡ bytes_main_least h arrival p.enters (188 * p.index + (188 - size)) count
  pub most : e.transport_most ≡ max (max front_most header_most) payload_most

pub packet_entered : (b0 b1 b2 b3 : StreamBuffers) (h : Held) (arrival : Arrival) (p : Arriving) (e : Entered)
    (size lead count lead_most header_most payload_most : ℕ) → IsHeld b0 h →
    takes_in h arrival p ≡ true → size ≡ size_of p → lead ≡ lead_in arrival p →
    Parts b0 b1 b2 b3 arrival p e size lead count lead_most header_most payload_most →
    entered_view e ≡ entered_first h arrival p count
packet_entered b0 b1 b2 b3 h arrival p e size lead count lead_most header_most payload_most k takes same same' parts =
    let led = parts.first h k in
    let passed = parts.pass (after_lead h arrival p lead) led in
    let begun = parts.begin (after_header h arrival p size lead) passed in
    let most = same_most lead_most header_most payload_most e.transport_most _ _ _ parts.most
    (parts.lead_found h k) (parts.header_found (after_lead h arrival p lead) led) (parts.payload_found (after_unit h arrival p size lead) begun) in
    let view : entered_view e ≡ ended_first h arrival p size lead count =
    same_view e _ _ _ _ _ _ _ _ (parts.lead h k) (parts.header (after_lead h arrival p lead) led) (parts.transport (after_unit h arrival p size lead) begun)
    (parts.main (after_unit h arrival p size lead) begun) (parts.unit (after_header h arrival p size lead) passed) most
    (parts.main_found (after_unit h arrival p size lead) begun)
    (parts.least_found (after_unit h arrival p size lead) begun) in
    view ∙ ap (λ (n : ℕ). ended_first h arrival p n lead count) same ∙ ap (λ (n : ℕ). ended_first h arrival p (size_of p) n count) same'
    ∙ entered_in h arrival p count takes

-- The buffers before the payload, including the buffers of video
pub record Steps (b0 b1 b2 b3 : StreamBuffers) (arrival : Arrival) (p : Arriving) (size lead : ℕ) : Type 0 where
  pub first : (h : Held) → IsHeld b0 h → IsHeld b1 (after_lead h arrival p lead)
  pub header : (h : Held) → IsHeld b1 h → IsHeld b2 (after_bytes h arrival false (188 * p.index + lead) (188 - size - lead))
  pub begin : (h : Held) → IsHeld b2 h → IsHeld b3 (after_begin h p.begins)
  pub first_video : (h : Held) (sizes : Option VideoSizes) → IsHeld b0 h → HoldsVideoOf b0 sizes h → HoldsVideoOf b1 sizes (after_lead h arrival p lead)
  pub header_video : (h : Held) (sizes : Option VideoSizes) → IsHeld b1 h → HoldsVideoOf b1 sizes h →
      HoldsVideoOf b2 sizes (after_bytes h arrival false (188 * p.index + lead) (188 - size - lead))
  pub begin_video : (h : Held) (sizes : Option VideoSizes) → IsHeld b2 h → HoldsVideoOf b2 sizes h → HoldsVideoOf b3 sizes (after_begin h p.begins)

-- The buffers of video hold the packet after its payload, if each step of the packet keeps them.
pub packet_video : (b0 b1 b2 b3 b4 : StreamBuffers) (sizes : Option VideoSizes) (h : Held) (arrival : Arrival) (p : Arriving) (size lead count : ℕ) →
    IsHeld b0 h → HoldsVideoOf b0 sizes h →
    takes_in h arrival p ≡ true → size ≡ size_of p → lead ≡ lead_in arrival p → Steps b0 b1 b2 b3 arrival p size lead →
    ((h : Held) (sizes : Option VideoSizes) → IsHeld b3 h → HoldsVideoOf b3 sizes h →
    HoldsVideoOf b4 sizes (after_bytes h arrival p.enters (188 * p.index + (188 - size)) count)) →
    HoldsVideoOf b4 sizes (after_first h arrival p count)
packet_video b0 b1 b2 b3 b4 sizes h arrival p size lead count k v takes same same' steps payload_video =
    let led = steps.first h k in
    let led_video = steps.first_video h sizes k v in
    let passed = steps.header (after_lead h arrival p lead) led in
    let passed_video = steps.header_video (after_lead h arrival p lead) sizes led led_video in
    let begun = steps.begin (after_header h arrival p size lead) passed in
    let begun_video = steps.begin_video (after_header h arrival p size lead) sizes passed passed_video in
    let held : HoldsVideoOf b4 sizes (with_first h arrival p size lead count) = payload_video (after_unit h arrival p size lead) sizes begun begun_video in
    subst (HoldsVideoOf b4 sizes) (ap (λ (n : ℕ). with_first h arrival p n lead count) same ∙ ap (λ (n : ℕ). with_first h arrival p (size_of p) n count) same'
    ∙ after_in h arrival p count takes) held

video_in : (sizes : Option VideoSizes) (h : Held) (arrival : Arrival) (p : Arriving) (count : ℕ) → takes_in h arrival p ≡ true →
    video_first sizes h arrival p (size_of p) (lead_in arrival p) count ≡ video_first_of sizes h arrival p count
unfolding video_first_of
video_in sizes h arrival p count e = rw e refl

unit_in : (sizes : Option VideoSizes) (h : Held) (arrival : Arrival) (p : Arriving) → takes_in h arrival p ≡ true →
    unit_with sizes h arrival p (size_of p) (lead_in arrival p) ≡ video_unit_of sizes h arrival p
unfolding video_unit_of
unit_in sizes h arrival p e = rw e refl

-- The results of the packet in the buffers of video are the results of its payload.
pub packet_video_entered : (b0 b1 b2 b3 : StreamBuffers) (sizes : Option VideoSizes) (h : Held) (arrival : Arrival) (p : Arriving) (size lead count : ℕ)
    (found : VideoEnteredView) → IsHeld b0 h →
    HoldsVideoOf b0 sizes h → takes_in h arrival p ≡ true → size ≡ size_of p → lead ≡ lead_in arrival p → Steps b0 b1 b2 b3 arrival p size lead →
    ((h : Held) (sizes : Option VideoSizes) → IsHeld b3 h → HoldsVideoOf b3 sizes h →
    found ≡ bytes_video sizes h arrival p.enters (188 * p.index + (188 - size)) count) →
    found ≡ video_first_of sizes h arrival p count
packet_video_entered b0 b1 b2 b3 sizes h arrival p size lead count found k v takes same same' steps payload =
    let led = steps.first h k in
    let led_video = steps.first_video h sizes k v in
    let passed = steps.header (after_lead h arrival p lead) led in
    let passed_video = steps.header_video (after_lead h arrival p lead) sizes led led_video in
    let begun = steps.begin (after_header h arrival p size lead) passed in
    let begun_video = steps.begin_video (after_header h arrival p size lead) sizes passed passed_video in
    payload (after_unit h arrival p size lead) sizes begun begun_video
    ∙ ap (λ (n : ℕ). video_first sizes h arrival p n lead count) same ∙ ap (λ (n : ℕ). video_first sizes h arrival p (size_of p) n count) same'
    ∙ video_in sizes h arrival p count takes

pub packet_video_unit : (b0 b1 b2 b3 : StreamBuffers) (sizes : Option VideoSizes) (h : Held) (arrival : Arrival) (p : Arriving) (size lead : ℕ)
    (unit : Option VideoUnit) → IsHeld b0 h →
    HoldsVideoOf b0 sizes h → takes_in h arrival p ≡ true → size ≡ size_of p → lead ≡ lead_in arrival p → Steps b0 b1 b2 b3 arrival p size lead →
    ((h : Held) (sizes : Option VideoSizes) → IsHeld b2 h → HoldsVideoOf b2 sizes h → unit ≡ video_unit_ended sizes h p.begins) →
    unit ≡ video_unit_of sizes h arrival p
packet_video_unit b0 b1 b2 b3 sizes h arrival p size lead unit k v takes same same' steps ends =
    let led = steps.first h k in
    let led_video = steps.first_video h sizes k v in
    let passed = steps.header (after_lead h arrival p lead) led in
    let passed_video = steps.header_video (after_lead h arrival p lead) sizes led led_video in
    ends (after_header h arrival p size lead) sizes passed passed_video
    ∙ ap (λ (n : ℕ). unit_with sizes h arrival p n lead) same ∙ ap (λ (n : ℕ). unit_with sizes h arrival p (size_of p) n) same'
    ∙ unit_in sizes h arrival p takes

-- An access unit that begins within a payload

pub part_taken : (b : StreamBuffers) (h : Held) (arrival : Arrival) (p : UnitPart) → IsHeld b h → p.byte ≤ last_bytes → b.view.transport.bytes ≤ last_bytes →
    p.size ≤ 188 →
    has_times arrival p.byte p.size ≡ true → takes_part h arrival p ≡ true
part_taken b h arrival p k early few short times =
    let bytes : (transport_of h.rate h.parts).bytes ≤ last_bytes = omega (arith, bytes_held b h k, few) in
    by_tests p.byte (transport_of h.rate h.parts).bytes last_bytes p.size (has_times arrival p.byte p.size) early bytes short times
  where
    by_tests : (a b c d : ℕ) (e : Bool) → a ≤ c → b ≤ c → d ≤ 188 → e ≡ true → (nat_le a c && nat_le b c && (nat_le d 188 && e)) ≡ true
    by_tests a b c d e first second third is = rw is (grind (arith, nat_tests))

part_after : (h : Held) (arrival : Arrival) (p : UnitPart) → takes_part h arrival p ≡ true →
    after_bytes (begun h p.due) arrival true p.byte p.size ≡ after_part h arrival p
unfolding after_part
part_after h arrival p e = rw e refl

part_found : (h : Held) (arrival : Arrival) (p : UnitPart) → takes_part h arrival p ≡ true → ended_part h arrival p ≡ entered_part h arrival p
unfolding entered_part
part_found h arrival p e = rw e refl

pub part_held : (b b' b'' : StreamBuffers) (h : Held) (arrival : Arrival) (p : UnitPart) → IsHeld b h → takes_part h arrival p ≡ true →
    ((h : Held) → IsHeld b h → IsHeld b' (begun h p.due)) → ((h : Held) → IsHeld b' h → IsHeld b'' (after_bytes h arrival true p.byte p.size)) →
    IsHeld b'' (after_part h arrival p)
part_held b b' b'' h arrival p k takes begin payload = subst (IsHeld b'') (part_after h arrival p takes) (payload (begun h p.due) (begin h k))

pub part_video : (b b' b'' : StreamBuffers) (sizes : Option VideoSizes) (h : Held) (arrival : Arrival) (p : UnitPart) → IsHeld b h → HoldsVideoOf b sizes h →
    takes_part h arrival p ≡ true →
    ((h : Held) → IsHeld b h → IsHeld b' (begun h p.due)) →
    ((h : Held) (sizes : Option VideoSizes) → IsHeld b h → HoldsVideoOf b sizes h → HoldsVideoOf b' sizes (begun h p.due)) →
    ((h : Held) (sizes : Option VideoSizes) → IsHeld b' h → HoldsVideoOf b' sizes h → HoldsVideoOf b'' sizes (after_bytes h arrival true p.byte p.size)) →
    HoldsVideoOf b'' sizes (after_part h arrival p)
part_video b b' b'' sizes h arrival p k v takes begin begin_video payload =
    subst (HoldsVideoOf b'' sizes) (part_after h arrival p takes) (payload (begun h p.due) sizes (begin h k) (begin_video h sizes k v))

same_part : (lead header payload main : Option Excess) (unit before : Option UnitSeen) (most main_most m n : ℕ) (least l : Option ℕ)
    (transport mains : List Excess) → lead ≡ None → header ≡ None →
    option_to_list payload ≡ transport → option_to_list main ≡ mains → unit ≡ before → most ≡ m → main_most ≡ n → least ≡ l →
    ◌≡◌ {A = EnteredView}
    (record {
      transport = option_to_list lead ++ (option_to_list header ++ option_to_list payload);
      main = option_to_list main;
      unit = unit;
      transport_most =
          most;
      main_most = main_most;
      main_least = least;
    })
    (record { transport = transport; main = mains; unit = before; transport_most = m; main_most = n; main_least = l })
same_part lead header payload main unit before most main_most m n least l transport mains a b c d e f g i = rw (a, b, c, d, e, f, g, i) refl

pub part_entered : (b b' : StreamBuffers) (h : Held) (arrival : Arrival) (p : UnitPart) (lead header payload main : Option Excess) (unit : Option UnitSeen)
    (most main_most : ℕ) (least : Option ℕ) →
    IsHeld b h → takes_part h arrival p ≡ true → lead ≡ None → header ≡ None → ((h : Held) → IsHeld b h → IsHeld b' (begun h p.due)) →
    ((h : Held) → IsHeld b h → unit ≡ unit_before h) → ((h : Held) → IsHeld b' h → option_to_list payload ≡ bytes_transport h arrival p.byte p.size) →
    ((h : Held) → IsHeld b' h → option_to_list main ≡ bytes_main h arrival true p.byte p.size) →
    ((h : Held) → IsHeld b' h → most ≡ bytes_transport_most h arrival p.byte p.size) →
    ((h : Held) → IsHeld b' h → main_most ≡ bytes_main_most h arrival true p.byte p.size) →
    ((h : Held) → IsHeld b' h → least ≡ bytes_main_least h arrival true p.byte p.size) →
    record {
      transport = option_to_list lead ++ (option_to_list header ++ option_to_list payload);
      main = option_to_list main;
      unit = unit;
      transport_most =
          most;
      main_most = main_most;
      main_least = least;
    }
    ≡ entered_part h arrival p
part_entered b b' h arrival p lead header payload main unit most main_most least k takes no_lead no_header begin before transport mains found main_found
    least_found =
    let h' : Held = begun h p.due in
    let k' = begin h k in
    same_part lead header payload main unit (unit_before h) most main_most _ _ least _ _ _ no_lead no_header (transport h' k') (mains h' k') (before h k)
    (found h' k') (main_found h' k') (least_found h' k')
    ∙ part_found h arrival p takes
