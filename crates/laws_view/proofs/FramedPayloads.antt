-- A payload where frames begin, as a walk over frames cuts it
use Rattle.std.proofs.Common.{◌≡◌, ◌∙◌, sym, ℕ, suc, ◌+◌, ◌-◌, ◌*◌, ◌^◌, ◌≤◌, ◌<◌, min, not, Bool, true, false, List, [], ◌∷◌, length, Option, Some, None}
use Rattle.std.proofs.Common.{if◌then◌else◌, refl, ap, subst, arith}
use Rattle.std.specs.Prelude.{slice_get, unwrap_or}
use Rattle.std.proofs.lemmas.List.{length-drop}
use Rattle.ts_packet.specs.Views.{PacketView}
use Rattle.sound_frames.specs.declared.frame_walk.FramePart.{FramePart}
use Rattle.sound_frames.specs.FrameWalks.{WalkView, count_passed, frames_in, parts_from}
use Rattle.arrival.specs.declared.arrival.Arrival.{Arrival}
use Rattle.arrival.specs.declared.arrival.Arrival.TheVariants.{AtRate}
use Rattle.arrival.specs.declared.clock.PcrSample.{PcrSample}
use Rattle.tstd_rows.specs.declared.arriving.Arriving.{Arriving}
use Rattle.tstd_rows.specs.Held.{Held}
use Rattle.tstd_rows.specs.Entering.{after, after_first, size_of}
use Rattle.es_events.specs.declared.view_options.ViewOptions.{ViewOptions}
use Rattle.es_view.specs.EntryFrames.{FramedPayload, count_of, frame_bytes, frames_among, frames_held, front_after, front_count, place_of}
use Rattle.es_view.specs.EntryFrames.{unit_after, unit_in, walk_in}
use Rattle.es_view.specs.Entries.{Framed, arriving, beginning_in, framed_with, is_unread, payload_of}
use Rattle.es_view.proofs.Frames.{held_alone}
use Rattle.es_view.specs.LastPayloads.{LastView, is_repeated}
use Rattle.laws_view.specs.StreamPackets.{most_packets}
use Rattle.laws_view.proofs.FrameRows.{InTurn, count_le, frames_in_turn}
use Rattle.laws_view.proofs.FramedBytes.{base_of, no_frames_held}
use Rattle.laws_view.proofs.FramedPackets.{Together, packet_together, repeat_together}

-- The bytes of frames are bytes of the payload.

unit_after_fewer : (payload : List ℕ) (o : Option ℕ) → length (unit_after payload o) ≤ length payload
unfolding unit_after
unit_after_fewer payload None = omega arith
unit_after_fewer payload (Some n) = omega (arith, length-drop (9 + n) payload)

frame_bytes_fewer : (packet : PacketView) → length (frame_bytes false packet) ≤ length (unwrap_or packet.payload [])
frame_bytes_fewer packet = by packet.header.payload_unit_start_indicator
  where
    by : (w : Bool) → length (if w then unit_in (unwrap_or packet.payload []) else unwrap_or packet.payload []) ≤ length (unwrap_or packet.payload [])
    by true = unit_after_fewer (unwrap_or packet.payload []) (slice_get (unwrap_or packet.payload []) 8)
    by false = omega arith

-- The number of bytes before the first frame that begins

front_is : (before size place n : ℕ) (ps : List FramePart) → InTurn place n ps → before + place + n ≡ size → size ≤ 184 → front_count before size ps ≡ size - n
unfolding front_count InTurn
front_is before size place n [] turn all small = omega (arith, turn)
front_is before size place n (p ∷ ps) turn all small =
    ap (λ (m : ℕ). min (before + m) (2 ^ 64 - 1)) turn.0 ∙ low before place size n all small
  where
    low : (before place size n : ℕ) → before + place + n ≡ size → size ≤ 184 → min (before + place) (2 ^ 64 - 1) ≡ size - n
    low before place size n all small = omega (arith, all, small)

no_frames : (w : WalkView) → frames_in w [] ≡ []
unfolding parts_from
no_frames w = refl

-- One packet that is viewed by access units

-- If a packet repeats another, it has no bytes of frames: all its bytes come before the first frame.
front_repeat : (before size : ℕ) (w : WalkView) → front_count before size (frames_in w []) ≡ size
unfolding front_count
front_repeat before size w = ap (λ (ps : List FramePart). front_count before size ps) (no_frames w)

small_size : (size : ℕ) → size ≤ 184 → min size 184 ≡ size
small_size size small = omega (arith, small)

fewer : (n size : ℕ) → min (size - n) size ≡ size - n
fewer n size = omega arith

base_low : (index size : ℕ) → index < most_packets → size ≤ 184 → min (min (index * 188) (2 ^ 64 - 1) + (188 - size)) (2 ^ 64 - 1) ≡ 188 * index + (188 - size)
base_low index size early small = omega (arith, early, small)

place_low : (base more : ℕ) → base + more < 2 ^ 64 - 1 → min (base + more) (2 ^ 64 - 1) ≡ base + more
place_low base more low = omega (arith, low)

-- What the buffers of a view by access units hold after a packet
abbrev pub held_framed : ViewOptions → ℕ → FramedPayload → Framed → Held
held_framed options limit p f =
    frames_held options (place_of limit p f.tick) (after_first f.held options.arrival p.arriving (min (count_of p f.walk) (size_of p.arriving)))
    (frames_among p f.walk)

pub framed_held : (options : ViewOptions) (index window : ℕ) (clock : Option PcrSample) (limit : ℕ) (last : LastView) (delayed : ℕ) (packet : PacketView)
    (f : Framed) →
    (framed_with options index window clock limit last delayed packet f).held ≡ held_framed options limit
    (payload_of options index f.held.rx last clock packet) f
framed_held options index window clock limit last delayed packet f =
    let p : FramedPayload = payload_of options index f.held.rx last clock packet in
    held_alone options (place_of limit p f.tick) window
    (front_after options window (is_unread (beginning_in last packet)) p.arriving (count_of p f.walk)
    (record { held = f.held; tally = f.tally; delayed = delayed })) (frames_among p f.walk)

-- A packet brings the same bytes to the buffers of both views.
payload_together : (options : ViewOptions) (rate n index rx : ℕ) (clock : Option PcrSample) (limit : ℕ) (last : LastView) (packet : PacketView) (h : Held)
    (f : Framed) →
    options.arrival ≡ AtRate rate → Together rate n h f.held → n ≤ index → index < most_packets → length (unwrap_or packet.payload []) ≤ 184 →
    Together rate (suc index) (after h (AtRate rate) (arriving options index rx last clock packet))
    (held_framed options limit (payload_of options index rx last clock packet) f)
payload_together options rate n index rx clock limit last packet h f is t first early small = by (is_repeated last packet) refl
  where
    p : FramedPayload
    p = payload_of options index rx last clock packet

    q : Arriving
    q = arriving options index rx last clock packet

    size : ℕ
    size = length (unwrap_or packet.payload [])

    w : WalkView
    w = walk_in p f.walk

    size_is : size_of q ≡ size
    size_is = small_size size small

    repeats : is_repeated last packet ≡ true → Together rate (suc index) (after h (AtRate rate) q) (held_framed options limit p f)
    repeats r =
        let none : p.bytes ≡ [] = ap (λ (b : Bool). frame_bytes b packet) r in
        let frames : frames_among p f.walk ≡ [] = ap (λ (bs : List ℕ). frames_in w bs) none ∙ no_frames w in
        let count : count_of p f.walk ≡ size = ap (λ (bs : List ℕ). front_count (size - length bs) size (frames_in w bs)) none
        ∙ front_repeat (size - 0) size w in
        let all : min (count_of p f.walk) (size_of q) ≡ size_of q = omega (arith, count, size_is) in
        let enters : q.enters ≡ false = ap (λ (b : Bool). not b) r in
        let one : Together rate (suc index) (after h (AtRate rate) q) (after_first f.held (AtRate rate) q (size_of q)) =
        repeat_together rate n h f.held q t first early enters in
        subst (λ (ps : List FramePart). Together rate (suc index) (after h (AtRate rate) q)
        (frames_held options (place_of limit p f.tick) (after_first f.held options.arrival q (min (count_of p f.walk) (size_of q))) ps)) (sym frames)
        (subst (λ (m : ℕ). Together rate (suc index) (after h (AtRate rate) q)
        (frames_held options (place_of limit p f.tick) (after_first f.held options.arrival q m) [])) (sym all)
        (subst (λ (a : Arrival). Together rate (suc index) (after h (AtRate rate) q)
        (frames_held options (place_of limit p f.tick) (after_first f.held a q (size_of q)) [])) (sym is)
        (subst (λ (g : Held). Together rate (suc index) (after h (AtRate rate) q) g)
        (sym (no_frames_held options limit p f.tick (after_first f.held (AtRate rate) q (size_of q)))) one)))

    goes_on : is_repeated last packet ≡ false → Together rate (suc index) (after h (AtRate rate) q) (held_framed options limit p f)
    goes_on r =
        let bytes : p.bytes ≡ frame_bytes false packet = ap (λ (b : Bool). frame_bytes b packet) r in
        let many : length p.bytes ≤ size = omega (arith, ap (λ (bs : List ℕ). length bs) bytes, frame_bytes_fewer packet) in
        let c : ℕ = count_passed w p.bytes in
        let left : ℕ = length p.bytes - c in
        let le : c ≤ length p.bytes = count_le w p.bytes in
        let turn : InTurn c left (frames_among p f.walk) = frames_in_turn w p.bytes in
        let count : count_of p f.walk ≡ size - left =
        front_is (size - length p.bytes) size c left (frames_among p f.walk) turn (omega (arith, many, le)) small in
        let front : min (count_of p f.walk) (size_of q) ≡ size - left = omega (arith, count, size_is) in
        let base : p.base ≡ 188 * index + (188 - size) = base_low index size early small in
        let at_base : base_of p ≡ p.base + (size - length p.bytes) = place_low p.base (size - length p.bytes) (omega (arith, base, early, small)) in
        let there : base_of p + c ≡ 188 * index + (188 - size_of q) + (size - left) = omega (arith, at_base, base, size_is, many, le) in
        let enters : q.enters ≡ true = ap (λ (b : Bool). not b) r in
        let rest : size_of q - (size - left) ≡ left = omega (arith, size_is, many, le) in
        let one : Together rate (suc index) (after h (AtRate rate) q)
        (frames_held options (place_of limit p f.tick) (after_first f.held (AtRate rate) q (size - left)) (frames_among p f.walk)) =
        packet_together options limit p f.tick rate n h f.held q (size - left) c (frames_among p f.walk) is t first early enters (omega (arith, size_is))
        (subst (λ (m : ℕ). InTurn c m (frames_among p f.walk)) (sym rest) turn) there in
        subst (λ (m : ℕ). Together rate (suc index) (after h (AtRate rate) q)
        (frames_held options (place_of limit p f.tick) (after_first f.held options.arrival q m) (frames_among p f.walk))) (sym front)
        (subst (λ (a : Arrival). Together rate (suc index) (after h (AtRate rate) q)
        (frames_held options (place_of limit p f.tick) (after_first f.held a q (size - left)) (frames_among p f.walk))) (sym is) one)

    by : (b : Bool) → is_repeated last packet ≡ b → Together rate (suc index) (after h (AtRate rate) q) (held_framed options limit p f)
    by true r = repeats r
    by false r = goes_on r

-- The entry of a stream keeps the buffers `Together`.
pub entry_together : (options : ViewOptions) (rate n index window : ℕ) (clock : Option PcrSample) (limit : ℕ) (last : LastView) (delayed : ℕ)
    (packet : PacketView) (h : Held) (f : Framed) →
    options.arrival ≡ AtRate rate → Together rate n h f.held → n ≤ index → index < most_packets → length (unwrap_or packet.payload []) ≤ 184 →
    Together rate (suc index) (after h options.arrival (arriving options index h.rx last clock packet))
    (framed_with options index window clock limit last delayed packet f).held
entry_together options rate n index window clock limit last delayed packet h f is t first early small =
    let one : Together rate (suc index) (after h (AtRate rate) (arriving options index f.held.rx last clock packet))
    (held_framed options limit (payload_of options index f.held.rx last clock packet) f) =
    payload_together options rate n index f.held.rx clock limit last packet h f is t first early small in
    let two : Together rate (suc index) (after h options.arrival (arriving options index h.rx last clock packet))
    (held_framed options limit (payload_of options index f.held.rx last clock packet) f) =
    subst (λ (a : Arrival). Together rate (suc index) (after h a (arriving options index h.rx last clock packet))
    (held_framed options limit (payload_of options index f.held.rx last clock packet) f)) (sym is)
    (subst (λ (r : ℕ). Together rate (suc index) (after h (AtRate rate) (arriving options index r last clock packet))
    (held_framed options limit (payload_of options index f.held.rx last clock packet) f)) t.alike.rx one) in
    subst (λ (g : Held). Together rate (suc index) (after h options.arrival (arriving options index h.rx last clock packet)) g)
    (sym (framed_held options index window clock limit last delayed packet f)) two
