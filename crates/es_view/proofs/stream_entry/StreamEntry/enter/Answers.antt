use Rattle.std.proofs.Common.{◌≡◌, ◌∙◌, ℕ, Bool, List, ◌++◌, Option, None, refl, ap, ap₂, subst}
use Rattle.std.specs.Prelude.{unwrap_or}
use Rattle.ts_packet.specs.Views.{packet_view}
use Rattle.sound_frames.specs.FrameWalks.{WalkView, walk_after}
use Rattle.tstd_rows.specs.Entering.{after}
use Rattle.tstd_rows.specs.HeldVideo.{HoldsVideoOf}
use Rattle.tstd_rows.specs.declared.arriving.Arriving.{Arriving}
use Rattle.events.specs.declared.event.Event.{Event}
use Rattle.es_events.specs.declared.video_tally.VideoTally.{VideoTally}
use Rattle.es_view.specs.LastPayloads.{LastView}
use Rattle.es_view.specs.EntryFrames.{AreCounted, Counted, FramedPayload, payload_after, payload_view, video_counted, walk_in, whole_after, whole_events}
use Rattle.es_view.specs.Entries.{arriving, arriving_at, beginning_in, is_unread, payload_at, payload_of}
use Rattle.es_view.proofs.Framings.{counted_of, framed_counted, framed_entered, framed_found, framed_video, has_frames, no_frames, whole_counted, whole_entered}
use Rattle.es_view.proofs.Framings.{whole_found, whole_video}
use Rattle.es_view.proofs.Payloads.{alike_after, alike_events}
use Rattle.es_view.proofs.stream_entry.StreamEntry.enter.Goals as goal

-- A stream that is viewed by PES packets

pub returns-in_ok-enter_whole-in-None-clause-entry : goal.returns-in_ok-enter_whole-in-None-clause-entry
returns-in_ok-enter_whole-in-None-clause-entry c = λ e k.
    let options = c.args.options.now in
    let packet = packet_view c.args.packet.now in
    let clock = c.args.clock.now in
    let index = c.args.index in
    let entry = c.args.self.now in
    let unread : c.is_unread-unread.result ≡ is_unread (beginning_in e.last packet) =
    c.is_unread-unread.ensures ∙ ap is_unread (c.requires ∙ ap (λ (n : LastView). beginning_in n packet) k.last) in
    let none : e.framed ≡ None = no_frames entry.frames e.framed c.in-None.is k.frames in
    let n = counted_of e e.held e.tally in
    let is : AreCounted entry.seen n = whole_counted entry e k none in
    let video : HoldsVideoOf entry.seen.buffers e.video e.held = whole_video entry e k none in
    let a = c.arriving-arriving.result in
    let same : a ≡ arriving_at options index clock e packet =
    c.arriving-arriving.ensures ∙ ap₂ (λ (x : ℕ) (m : LastView). arriving options index x m clock packet) is.held.rx k.last in
    let counted =
    subst (λ (x : Arriving). AreCounted c.enter_whole.new.self (whole_after options c.args.window (is_unread (beginning_in e.last packet)) x n)) same
    (subst (λ (x : Bool). AreCounted c.enter_whole.new.self (whole_after options c.args.window x a n)) unread
    (c.in_ok-enter_whole-in-None.ensures.counted n is)) in
    let holds = subst (λ (x : Arriving). HoldsVideoOf c.enter_whole.new.self.buffers e.video (after e.held options.arrival x)) same
    (c.in_ok-enter_whole-in-None.ensures.video n e.video is video) in
    let tallied = c.in_ok-enter_whole-in-None.ensures.tally n e.video is video
    ∙ ap (λ (t : VideoTally). video_counted t e.video e.held options.arrival a) k.video_tally
    ∙ ap (λ (x : Arriving). video_counted e.video_tally e.video e.held options.arrival x) same in
    whole_entered entry _ options index c.args.window clock e packet k none refl refl refl c.in-None.is refl refl counted holds tallied

pub returns-in_ok-enter_whole-in-None-clause-found : goal.returns-in_ok-enter_whole-in-None-clause-found
returns-in_ok-enter_whole-in-None-clause-found c = λ e k.
    let options = c.args.options.now in
    let packet = packet_view c.args.packet.now in
    let clock = c.args.clock.now in
    let index = c.args.index in
    let entry = c.args.self.now in
    let none : e.framed ≡ None = no_frames entry.frames e.framed c.in-None.is k.frames in
    let n = counted_of e e.held e.tally in
    let is : AreCounted entry.seen n = whole_counted entry e k none in
    let video : HoldsVideoOf entry.seen.buffers e.video e.held = whole_video entry e k none in
    let a = c.arriving-arriving.result in
    let same : a ≡ arriving_at options index clock e packet =
    c.arriving-arriving.ensures ∙ ap₂ (λ (x : ℕ) (m : LastView). arriving options index x m clock packet) is.held.rx k.last in
    let events : List Event = c.args.events.now.items in
    c.in_ok-enter_whole-in-None.ensures.found n e.video is video
    ∙ ap (λ (x : Arriving). events ++ whole_events options c.args.place.now x e.video e.held) same
    ∙ ap (λ (l : List Event). events ++ l) (whole_found options index clock c.args.place.now e packet none)

-- A stream that is viewed by access units

pub returns-in_ok-enter-in-Some-clause-entry : goal.returns-in_ok-enter-in-Some-clause-entry
returns-in_ok-enter-in-Some-clause-entry c = λ e k.
    let options = c.args.options.now in
    let packet = packet_view c.args.packet.now in
    let clock = c.args.clock.now in
    let index = c.args.index in
    let entry = c.args.self.now in
    let unread : c.is_unread-unread.result ≡ is_unread (beginning_in e.last packet) =
    c.is_unread-unread.ensures ∙ ap is_unread (c.requires ∙ ap (λ (n : LastView). beginning_in n packet) k.last) in
    let h = has_frames entry.frames c.in-Some.frames e.framed c.in-Some.is k.frames in
    let f = h.state in
    let n = counted_of e f.held f.tally in
    let is : AreCounted entry.seen n = framed_counted entry e f k h.is in
    let video : HoldsVideoOf entry.seen.buffers e.video f.held = framed_video entry e f k h.is in
    let p = payload_view c.payload_of-payload.result in
    let same : p ≡ payload_at options index clock e.last packet f =
    c.payload_of-payload.ensures ∙ ap₂ (λ (x : ℕ) (m : LastView). payload_of options index x m clock packet) is.held.rx k.last in
    let walk = c.in_ok-enter-in-Some.ensures.walk ∙ ap₂ (λ (x : FramedPayload) (w : WalkView). walk_after (walk_in x w) x.bytes) same h.walk in
    let tick = c.in_ok-enter-in-Some.ensures.tick ∙ ap₂ (λ (x : FramedPayload) (t : ℕ). unwrap_or x.tick t) same h.tick in
    let counted = alike_after (λ (x : Counted). AreCounted c.enter.new.seen x) options c.args.window c.is_unread-unread.result _ entry.limit e.limit p _
    c.in-Some.frames.walk f.walk
    c.in-Some.frames.tick f.tick n unread k.limit same h.walk h.tick (c.in_ok-enter-in-Some.ensures.counted n is) in
    let holds = alike_after (λ (x : Counted). HoldsVideoOf c.enter.new.seen.buffers e.video x.held) options c.args.window c.is_unread-unread.result _
    entry.limit e.limit p _ c.in-Some.frames.walk f.walk
    c.in-Some.frames.tick f.tick n unread k.limit same h.walk h.tick (c.in_ok-enter-in-Some.ensures.video n e.video is video) in
    framed_entered entry _ options index c.args.window clock e packet f c.enter.new.self k h.is refl refl refl refl refl refl refl walk tick counted holds

pub returns-in_ok-enter-in-Some-clause-found : goal.returns-in_ok-enter-in-Some-clause-found
returns-in_ok-enter-in-Some-clause-found c = λ e k.
    let options = c.args.options.now in
    let packet = packet_view c.args.packet.now in
    let clock = c.args.clock.now in
    let index = c.args.index in
    let entry = c.args.self.now in
    let h = has_frames entry.frames c.in-Some.frames e.framed c.in-Some.is k.frames in
    let f = h.state in
    let n = counted_of e f.held f.tally in
    let is : AreCounted entry.seen n = framed_counted entry e f k h.is in
    let video : HoldsVideoOf entry.seen.buffers e.video f.held = framed_video entry e f k h.is in
    let p = payload_view c.payload_of-payload.result in
    let same : p ≡ payload_at options index clock e.last packet f =
    c.payload_of-payload.ensures ∙ ap₂ (λ (x : ℕ) (m : LastView). payload_of options index x m clock packet) is.held.rx k.last in
    let events : List Event = c.args.events.now.items in
    c.in_ok-enter-in-Some.ensures.found n is
    ∙ ap (λ (l : List Event). events ++ l)
    (alike_events options c.args.place.now entry.limit e.limit p _ c.in-Some.frames.walk f.walk c.in-Some.frames.tick f.tick f.held k.limit same h.walk
    h.tick)
    ∙ ap (λ (l : List Event). events ++ l) (framed_found options index clock c.args.place.now e packet f h.is)
