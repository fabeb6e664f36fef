-- Streams that are viewed by access units, and streams that are not.
use Rattle.std.proofs.Common.{◌≡◌, ◌∙◌, sym, ℕ, Bool, List, ◌++◌, Option, Some, None, refl, ap, subst}
use Rattle.std.specs.Prelude.{unwrap_or, is_some, if◌then◌else◌}
use Rattle.sound_frames.specs.declared.frame_headers.FrameKind.{FrameKind}
use Rattle.sound_frames.specs.FrameWalks.{WalkView, walk_after}
use Rattle.ts_packet.specs.Views.{PacketView}
use Rattle.arrival.specs.declared.clock.PcrSample.{PcrSample}
use Rattle.tstd_rows.specs.Held.{Held, IsHeld}
use Rattle.tstd_rows.specs.Entering.{after}
use Rattle.tstd_rows.specs.HeldVideo.{HoldsVideoOf, VideoSizes}
use Rattle.tstd_rows.specs.declared.stream_buffers.StreamBuffers.{StreamBuffers}
use Rattle.events.specs.declared.event.Event.{Event}
use Rattle.es_view.specs.declared.counted_buffers.CountedBuffers.{CountedBuffers}
use Rattle.es_events.specs.declared.entry_events.Place.{Place}
use Rattle.es_view.specs.declared.entry_frames.EntryFrames.{EntryFrames}
use Rattle.es_view.specs.declared.stream_entry.StreamEntry.{StreamEntry}
use Rattle.es_events.specs.declared.tally.Tally.{Tally}
use Rattle.es_events.specs.declared.video_tally.VideoTally.{VideoTally}
use Rattle.es_events.specs.declared.view_options.ViewOptions.{ViewOptions}
use Rattle.es_view.specs.LastPayloads.{kept}
use Rattle.es_view.specs.EntryFrames.{AreCounted, Counted, FramedPayload, frames_among, payload_after, payload_events, place_of, walk_in, whole_after}
use Rattle.es_view.specs.EntryFrames.{whole_events, front_after, count_of, video_counted}
use Rattle.es_view.specs.Entries.{AreFrames, EntryState, Framed, IsEntry, arriving_at, beginning_in, counted_at, entry_after, entry_entered, events_entered}
use Rattle.es_view.specs.Entries.{framed_after, held_after, held_in, is_unread, parts_delayed, payload_at, payload_of, seen_held, seen_tally, tally_in}
use Rattle.es_view.specs.Entries.{unit_stay, video_tally_after}
use Rattle.es_events.specs.MarkTallies.{with_beginning}
use Rattle.es_events.specs.declared.mark_tally.MarkTally.{MarkTally}
use Rattle.es_events.specs.Tallies.{more, none_counted}
use Rattle.es_view.proofs.Frames.{held_alone}

-- Whether the stream is viewed by access units
pub no_frames : (o : Option EntryFrames) (framed : Option Framed) → o ≡ None → AreFrames o framed → framed ≡ None
unfolding AreFrames
no_frames None None is k = refl
no_frames None (Some f) is k = absurd k
no_frames (Some fr) framed is k = absurd cc

pub record HasFrames (fr : EntryFrames) (framed : Option Framed) : Type 0 where
  pub state : Framed
  pub is : framed ≡ Some state
  pub walk : fr.walk ≡ state.walk
  pub tick : fr.tick ≡ state.tick

pub has_frames : (o : Option EntryFrames) (fr : EntryFrames) (framed : Option Framed) → o ≡ Some fr → AreFrames o framed → HasFrames fr framed
unfolding AreFrames
has_frames None fr framed is k = absurd cc
has_frames (Some x) fr None is k = absurd k
has_frames (Some x) fr (Some f) is k =
    let same : x ≡ fr = cc in
    record { state = f; is = refl; walk = ap (λ (y : EntryFrames). y.walk) (sym same) ∙ k.0; tick = ap (λ (y : EntryFrames). y.tick) (sym same) ∙ k.1 }

-- The counts
abbrev pub counted_of : EntryState → Held → Tally → Counted
counted_of e h t = record { held = h; tally = t; delayed = e.delayed }

pub are_counted : (entry : StreamEntry) (e : EntryState) → IsEntry entry e → AreCounted entry.seen (counted_of e (seen_held e) (seen_tally e))
are_counted entry e k = record { held = k.held; tally = k.tally; delayed = k.delayed }

pub whole_counted : (entry : StreamEntry) (e : EntryState) → IsEntry entry e → e.framed ≡ None → AreCounted entry.seen (counted_of e e.held e.tally)
unfolding held_in tally_in
whole_counted entry e k none = record {
  held = subst (λ (o : Option Framed). IsHeld entry.seen.buffers (held_in o e.held)) none k.held;
  tally = k.tally ∙ ap (λ (o : Option Framed). tally_in o e.tally) none;
  delayed = k.delayed;
}

pub whole_video : (entry : StreamEntry) (e : EntryState) → IsEntry entry e → e.framed ≡ None → HoldsVideoOf entry.seen.buffers e.video e.held
unfolding held_in
whole_video entry e k none = subst (λ (o : Option Framed). HoldsVideoOf entry.seen.buffers e.video (held_in o e.held)) none k.video

pub framed_counted : (entry : StreamEntry) (e : EntryState) (f : Framed) → IsEntry entry e → e.framed ≡ Some f →
    AreCounted entry.seen (counted_of e f.held f.tally)
unfolding held_in tally_in
framed_counted entry e f k is = record {
  held = subst (λ (o : Option Framed). IsHeld entry.seen.buffers (held_in o e.held)) is k.held;
  tally = k.tally ∙ ap (λ (o : Option Framed). tally_in o e.tally) is;
  delayed = k.delayed;
}

pub framed_video : (entry : StreamEntry) (e : EntryState) (f : Framed) → IsEntry entry e → e.framed ≡ Some f → HoldsVideoOf entry.seen.buffers e.video f.held
unfolding held_in
framed_video entry e f k is = subst (λ (o : Option Framed). HoldsVideoOf entry.seen.buffers e.video (held_in o e.held)) is k.video

-- A packet has entered the buffers of a stream that is not viewed by access units.
pub whole_entered : (entry entry' : StreamEntry) (options : ViewOptions) (index window : ℕ) (clock : Option PcrSample) (e : EntryState) (packet : PacketView) →
    IsEntry entry e → e.framed ≡ None →
    entry'.pid ≡ entry.pid → entry'.clock_pid ≡ entry.clock_pid → entry'.last ≡ entry.last → entry'.frames ≡ None → entry'.limit ≡ entry.limit →
    entry'.mark_tally ≡ entry.mark_tally →
    AreCounted entry'.seen
    (whole_after options window (is_unread (beginning_in e.last packet)) (arriving_at options index clock e packet) (counted_of e e.held e.tally)) →
    HoldsVideoOf entry'.seen.buffers e.video (after e.held options.arrival (arriving_at options index clock e packet)) →
    entry'.video_tally ≡ video_counted e.video_tally e.video e.held options.arrival (arriving_at options index clock e packet) →
    IsEntry entry' (entry_entered options index window clock e packet)
unfolding held_in tally_in framed_after parts_delayed video_tally_after AreFrames
whole_entered entry entry' options index window clock e packet k none pid clock_pid last absent limit marks counted video videos = record {
  pid = pid ∙ k.pid;
  clock_pid = clock_pid ∙ k.clock_pid;
  last = last ∙ k.last;
  held = rw none counted.held;
  tally = rw none counted.tally;
  video = rw none video;
  video_tally = rw none videos;
  mark_tally = marks ∙ k.mark_tally;
  frames = rw (none, absent) tt;
  limit = limit ∙ k.limit;
  delayed = rw none counted.delayed;
}

pub whole_found : (options : ViewOptions) (index : ℕ) (clock : Option PcrSample) (place : Place) (e : EntryState) (packet : PacketView) → e.framed ≡ None →
    whole_events options place (arriving_at options index clock e packet) e.video e.held ≡ events_entered options index clock place e packet e.framed
unfolding events_entered
whole_found options index clock place e packet none = rw none refl

-- A packet has entered the buffers of a stream that is viewed by access units.
pub framed_entered : (entry entry' : StreamEntry) (options : ViewOptions) (index window : ℕ) (clock : Option PcrSample) (e : EntryState) (packet : PacketView)
    (f : Framed) (fr : EntryFrames) →
    IsEntry entry e → e.framed ≡ Some f → entry'.pid ≡ entry.pid → entry'.clock_pid ≡ entry.clock_pid → entry'.last ≡ entry.last →
    entry'.frames ≡ Some fr →
    entry'.limit ≡ entry.limit → entry'.video_tally ≡ entry.video_tally → entry'.mark_tally ≡ entry.mark_tally →
    fr.walk ≡ walk_after (walk_in (payload_at options index clock e.last packet f) f.walk) (payload_at options index clock e.last packet f).bytes →
    fr.tick ≡ unwrap_or (payload_at options index clock e.last packet f).tick f.tick →
    AreCounted entry'.seen (counted_at options index window clock e.limit e.last e.delayed packet f) →
    HoldsVideoOf entry'.seen.buffers e.video (counted_at options index window clock e.limit e.last e.delayed packet f).held →
    IsEntry entry' (entry_entered options index window clock e packet)
unfolding held_in tally_in framed_after parts_delayed video_tally_after AreFrames
framed_entered entry entry' options index window clock e packet f fr k is pid clock_pid last some limit same marks walk tick counted video = record {
  pid = pid ∙ k.pid;
  clock_pid = clock_pid ∙ k.clock_pid;
  last = last ∙ k.last;
  held = rw is counted.held;
  tally = rw is counted.tally;
  video = rw is video;
  video_tally = rw is (same ∙ k.video_tally);
  mark_tally = marks ∙ k.mark_tally;
  frames = rw (is, some) (walk, tick);
  limit = limit ∙ k.limit;
  delayed = rw is counted.delayed;
}

pub framed_found : (options : ViewOptions) (index : ℕ) (clock : Option PcrSample) (place : Place) (e : EntryState) (packet : PacketView) (f : Framed) →
    e.framed ≡ Some f →
    payload_events options place e.limit (payload_at options index clock e.last packet f) f.walk f.tick f.held ≡ events_entered options index clock place e
    packet e.framed
unfolding events_entered
framed_found options index clock place e packet f is = rw is refl

-- The content of the buffers after the packet entered
pub entered_held : (options : ViewOptions) (index window : ℕ) (clock : Option PcrSample) (e : EntryState) (packet : PacketView) →
    seen_held (entry_entered options index window clock e packet) ≡ held_after options index clock e packet e.framed
unfolding held_in framed_after held_after
entered_held options index window clock e packet = by e.framed
  where
    by : (o : Option Framed) →
        held_in (framed_after options index window clock e.limit e.last e.delayed packet o)
        (after e.held options.arrival (arriving_at options index clock e packet))
        ≡ held_after options index clock e packet o
    by None = refl
    by (Some f) =
        let p = payload_at options index clock e.last packet f in
        held_alone options (place_of e.limit p f.tick) window
        (front_after options window (is_unread (beginning_in e.last packet)) p.arriving (count_of p f.walk) (counted_of e f.held f.tally))
        (frames_among p f.walk)

-- The content of the buffers after the packet was counted
pub entry_counted : (entry entry' : StreamEntry) (options : ViewOptions) (index window : ℕ) (clock : Option PcrSample) (e : EntryState) (packet : PacketView) →
    IsEntry entry (entry_entered options index window clock e packet) → entry'.pid ≡ entry.pid → entry'.clock_pid ≡ entry.clock_pid →
    entry'.last ≡ kept e.last packet → entry'.frames ≡ entry.frames → entry'.limit ≡ entry.limit → entry'.video_tally ≡ entry.video_tally →
    entry'.seen.buffers ≡ entry.seen.buffers → entry'.seen.tally ≡ entry.seen.tally →
    entry'.seen.delayed ≡ more entry.seen.delayed (if is_some (unit_stay options index clock e.limit e.last packet) then 1 else 0) →
    entry'.mark_tally ≡ with_beginning entry.mark_tally (beginning_in e.last packet) packet →
    IsEntry entry' (entry_after options index window clock e packet)
entry_counted entry entry' options index window clock e packet k pid clock_pid last frames limit videos buffers tally delayed marks =
    let s = entry_entered options index window clock e packet in
    record {
      pid = pid ∙ k.pid;
      clock_pid = clock_pid ∙ k.clock_pid;
      last = last;
      held = subst (λ (b : StreamBuffers). IsHeld b (seen_held s)) (sym buffers) k.held;
      tally = tally ∙ k.tally;
      video = subst (λ (b : StreamBuffers). HoldsVideoOf b e.video (seen_held s)) (sym buffers) k.video;
      video_tally = videos ∙ k.video_tally;
      mark_tally = marks ∙ ap (λ (t : MarkTally). with_beginning t (beginning_in e.last packet) packet) k.mark_tally;
      frames = subst (λ (o : Option EntryFrames). AreFrames o s.framed) (sym frames) k.frames;
      limit = limit ∙ k.limit;
      delayed = delayed ∙ ap (λ (n : ℕ). more n (if is_some (unit_stay options index clock e.limit e.last packet) then 1 else 0)) k.delayed;
    }
