-- A payload whose frames enter the buffers of a stream.
use Rattle.std.proofs.Common.{◌≡◌, ◌∙◌, ℕ, Bool, List, ◌++◌, Option, refl, sym, ap, subst, append_assoc}
use Rattle.std.specs.Prelude.{min}
use Rattle.sound_frames.specs.declared.frame_walk.FramePart.{FramePart}
use Rattle.sound_frames.specs.FrameWalks.{WalkView}
use Rattle.tstd_rows.specs.Entering.{after_first, size_of}
use Rattle.tstd_rows.specs.Held.{Held}
use Rattle.events.specs.declared.event.Event.{Event}
use Rattle.es_view.specs.declared.counted_buffers.FramePlace.{FramePlace}
use Rattle.es_events.specs.declared.entry_events.Place.{Place}
use Rattle.es_events.specs.declared.view_options.ViewOptions.{ViewOptions}
use Rattle.es_view.specs.EntryFrames.{Counted, FramedPayload, count_of, frames_after, frames_among, frames_events, front_after, front_events, front_held}
use Rattle.es_view.specs.EntryFrames.{payload_after, payload_events, place_of}

pub same_place : (packet limit base base' tick tick' : ℕ) → base ≡ base' → tick ≡ tick' →
    ◌≡◌ {A = FramePlace} (record { packet = packet; limit = limit; base = base; tick = tick })
    (record { packet = packet; limit = limit; base = base'; tick = tick' })
same_place packet limit base base' tick tick' p q = rw (p, q) refl

-- The buffers after the front of a payload and its frames are the buffers after the payload.
pub after_payload : (S : Counted → Type 0) (options : ViewOptions) (window : ℕ) (unread : Bool) (limit : ℕ) (p : FramedPayload) (w : WalkView) (tick : ℕ)
    (c : Counted) (at : FramePlace) (count : ℕ)
    (parts : List FramePart) → at ≡ place_of limit p tick → count ≡ count_of p w → parts ≡ frames_among p w →
    S (frames_after options at window (front_after options window unread p.arriving count c) parts) → S (payload_after options window unread limit p w tick c)
after_payload S options window unread limit p w tick c at count parts is_at is_count are k =
    subst (λ (a : FramePlace). S (frames_after options a window (front_after options window unread p.arriving (count_of p w) c) (frames_among p w))) is_at
    (subst (λ (n : ℕ). S (frames_after options at window (front_after options window unread p.arriving n c) (frames_among p w))) is_count
    (subst (λ (ps : List FramePart). S (frames_after options at window (front_after options window unread p.arriving count c) ps)) are k))

-- The events of the payload
pub payload_written : (options : ViewOptions) (place : Place) (limit : ℕ) (p : FramedPayload) (w : WalkView) (tick : ℕ) (h : Held) (at : FramePlace) (count : ℕ)
    (parts : List FramePart)
    (t0 t1 t2 : List Event) → at ≡ place_of limit p tick → count ≡ count_of p w → parts ≡ frames_among p w →
    t1 ≡ t0 ++ front_events options place p.arriving count h →
    t2 ≡ t1 ++ frames_events options place at (after_first h options.arrival p.arriving (min count (size_of p.arriving))) parts →
    t2 ≡ t0 ++ payload_events options place limit p w tick h
payload_written options place limit p w tick h at count parts t0 t1 t2 is_at is_count are first second =
    let a = front_events options place p.arriving (count_of p w) h in
    let b = frames_events options place (place_of limit p tick) (front_held options p w h) (frames_among p w) in
    let one : t1 ≡ t0 ++ a = first ∙ ap (λ (n : ℕ). t0 ++ front_events options place p.arriving n h) is_count in
    let two : t2 ≡ t1 ++ b =
    second ∙ ap (λ (n : ℕ). t1 ++ frames_events options place at (after_first h options.arrival p.arriving (min n (size_of p.arriving))) parts) is_count
    ∙ ap (λ (x : FramePlace). t1 ++ frames_events options place x (front_held options p w h) parts) is_at
    ∙ ap (λ (ps : List FramePart). t1 ++ frames_events options place (place_of limit p tick) (front_held options p w h) ps) are in
    two ∙ ap (λ (t : List Event). t ++ b) one ∙ append_assoc t0 a b

-- Equal payloads, in equal states, leave equal buffers.
pub alike_after : (S : Counted → Type 0) (options : ViewOptions) (window : ℕ) (unread unread' : Bool) (limit limit' : ℕ) (p p' : FramedPayload)
    (w w' : WalkView) (tick tick' : ℕ) (c : Counted) →
    unread ≡ unread' → limit ≡ limit' → p ≡ p' → w ≡ w' → tick ≡ tick' →
    S (payload_after options window unread limit p w tick c) → S (payload_after options window unread' limit' p' w' tick' c)
alike_after S options window unread unread' limit limit' p p' w w' tick tick' c h1 h2 h3 h4 h5 k =
    subst (λ (x : ℕ). S (payload_after options window unread' limit' p' w' x c)) h5
    (subst (λ (x : WalkView). S (payload_after options window unread' limit' p' x tick c)) h4
    (subst (λ (x : FramedPayload). S (payload_after options window unread' limit' x w tick c)) h3
    (subst (λ (x : ℕ). S (payload_after options window unread' x p w tick c)) h2
    (subst (λ (x : Bool). S (payload_after options window x limit p w tick c)) h1 k))))

-- Equal payloads, in equal states, give equal events.
pub alike_events : (options : ViewOptions) (place : Place) (limit limit' : ℕ) (p p' : FramedPayload) (w w' : WalkView) (tick tick' : ℕ) (h : Held) →
    limit ≡ limit' → p ≡ p' → w ≡ w' → tick ≡ tick' →
    payload_events options place limit p w tick h ≡ payload_events options place limit' p' w' tick' h
alike_events options place limit limit' p p' w w' tick tick' h h1 h2 h3 h4 =
    ap (λ (x : ℕ). payload_events options place x p w tick h) h1
    ∙ ap (λ (x : FramedPayload). payload_events options place limit' x w tick h) h2
    ∙ ap (λ (x : WalkView). payload_events options place limit' p' x tick h) h3
    ∙ ap (λ (x : ℕ). payload_events options place limit' p' w' x h) h4
