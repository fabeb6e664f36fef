use Rattle.std.proofs.Common.{◌≡◌, ◌∙◌, ℕ, ◌+◌, ◌-◌, ◌^◌, List, ap, ap₂, min}
use Rattle.std.specs.Prelude.{unwrap_or}
use Rattle.sound_frames.specs.declared.frame_walk.FramePart.{FramePart}
use Rattle.sound_frames.specs.FrameWalks.{WalkView, frames_in}
use Rattle.tstd_rows.specs.HeldVideo.{HoldsVideoOf}
use Rattle.es_view.specs.declared.counted_buffers.FramePlace.{FramePlace}
use Rattle.es_view.specs.EntryFrames.{AreCounted, Counted, count_of, frames_among, front_after, front_count, header_size, payload_view, place_of}
use Rattle.es_view.proofs.Payloads.{after_payload, payload_written, same_place}
use Rattle.es_view.proofs.entry_frames.EntryFrames.enter.Goals as goal

pub returns-clause-counted : goal.returns-clause-counted
returns-clause-counted c = λ n k.
    let options = c.args.options.now in
    let p = payload_view c.args.payload.now in
    let w = c.args.self.now.walk in
    let tick = c.args.self.now.tick in
    let found : c.in_ok-frames.frames.items ≡ frames_among p w =
    c.in_ok-frames.ensures.parts ∙ ap (λ (x : WalkView). frames_in x p.bytes) c.begin_walk.ensures in
    let before : c.saturating_sub-before.result ≡ header_size p = c.saturating_sub-before.ensures in
    let count : c.front_count-count.result ≡ count_of p w =
    c.front_count-count.ensures ∙ ap₂ (λ (m : ℕ) (ps : List FramePart). front_count m p.arriving.size ps) before (c.deref.ensures.value ∙ found) in
    let are : c.deref-2.result.now ≡ frames_among p w = c.deref-2.ensures.value ∙ found in
    let at : FramePlace = record { packet = p.arriving.index; limit = c.args.limit; base = c.saturating_add.result; tick = c.unwrap_or-tick.result } in
    let is_at : at ≡ place_of c.args.limit p tick =
    same_place p.arriving.index c.args.limit c.saturating_add.result (min (p.base + header_size p) (2 ^ 64 - 1)) c.unwrap_or-tick.result (unwrap_or p.tick tick)
    (c.saturating_add.ensures ∙ ap (λ (m : ℕ). min (p.base + m) (2 ^ 64 - 1)) before) c.unwrap_or-tick.ensures in
    let fronted = front_after options c.args.window c.args.unread p.arriving c.front_count-count.result n in
    after_payload (λ (x : Counted). AreCounted c.enter_frames.new.self x) options c.args.window c.args.unread c.args.limit p w tick n at
    c.front_count-count.result c.deref-2.result.now
    is_at count are (c.in_ok-enter_frames.ensures.counted fronted (c.in_ok-enter_front.ensures.counted n k))

pub returns-clause-video : goal.returns-clause-video
returns-clause-video c = λ n sizes k v.
    let options = c.args.options.now in
    let p = payload_view c.args.payload.now in
    let w = c.args.self.now.walk in
    let tick = c.args.self.now.tick in
    let found : c.in_ok-frames.frames.items ≡ frames_among p w =
    c.in_ok-frames.ensures.parts ∙ ap (λ (x : WalkView). frames_in x p.bytes) c.begin_walk.ensures in
    let before : c.saturating_sub-before.result ≡ header_size p = c.saturating_sub-before.ensures in
    let count : c.front_count-count.result ≡ count_of p w =
    c.front_count-count.ensures ∙ ap₂ (λ (m : ℕ) (ps : List FramePart). front_count m p.arriving.size ps) before (c.deref.ensures.value ∙ found) in
    let are : c.deref-2.result.now ≡ frames_among p w = c.deref-2.ensures.value ∙ found in
    let at : FramePlace = record { packet = p.arriving.index; limit = c.args.limit; base = c.saturating_add.result; tick = c.unwrap_or-tick.result } in
    let is_at : at ≡ place_of c.args.limit p tick =
    same_place p.arriving.index c.args.limit c.saturating_add.result (min (p.base + header_size p) (2 ^ 64 - 1)) c.unwrap_or-tick.result (unwrap_or p.tick tick)
    (c.saturating_add.ensures ∙ ap (λ (m : ℕ). min (p.base + m) (2 ^ 64 - 1)) before) c.unwrap_or-tick.ensures in
    let fronted = front_after options c.args.window c.args.unread p.arriving c.front_count-count.result n in
    after_payload (λ (x : Counted). HoldsVideoOf c.enter_frames.new.self.buffers sizes x.held) options c.args.window c.args.unread c.args.limit p w tick n at
    c.front_count-count.result
    c.deref-2.result.now is_at count are
    (c.in_ok-enter_frames.ensures.video fronted sizes (c.in_ok-enter_front.ensures.counted n k) (c.in_ok-enter_front.ensures.video n sizes k v))

pub returns-clause-found : goal.returns-clause-found
returns-clause-found c = λ n k.
    let options = c.args.options.now in
    let p = payload_view c.args.payload.now in
    let w = c.args.self.now.walk in
    let tick = c.args.self.now.tick in
    let found : c.in_ok-frames.frames.items ≡ frames_among p w =
    c.in_ok-frames.ensures.parts ∙ ap (λ (x : WalkView). frames_in x p.bytes) c.begin_walk.ensures in
    let before : c.saturating_sub-before.result ≡ header_size p = c.saturating_sub-before.ensures in
    let count : c.front_count-count.result ≡ count_of p w =
    c.front_count-count.ensures ∙ ap₂ (λ (m : ℕ) (ps : List FramePart). front_count m p.arriving.size ps) before (c.deref.ensures.value ∙ found) in
    let are : c.deref-2.result.now ≡ frames_among p w = c.deref-2.ensures.value ∙ found in
    let at : FramePlace = record { packet = p.arriving.index; limit = c.args.limit; base = c.saturating_add.result; tick = c.unwrap_or-tick.result } in
    let is_at : at ≡ place_of c.args.limit p tick =
    same_place p.arriving.index c.args.limit c.saturating_add.result (min (p.base + header_size p) (2 ^ 64 - 1)) c.unwrap_or-tick.result (unwrap_or p.tick tick)
    (c.saturating_add.ensures ∙ ap (λ (m : ℕ). min (p.base + m) (2 ^ 64 - 1)) before) c.unwrap_or-tick.ensures in
    let fronted = front_after options c.args.window c.args.unread p.arriving c.front_count-count.result n in
    payload_written options c.args.place.now c.args.limit p w tick n.held at c.front_count-count.result c.deref-2.result.now (c.args.events.now.items)
    (c.enter_front.new.events.items)
    (c.enter_frames.new.events.items) is_at count are (c.in_ok-enter_front.ensures.found n k)
    (c.in_ok-enter_frames.ensures.found fronted (c.in_ok-enter_front.ensures.counted n k))
