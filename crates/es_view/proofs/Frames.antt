-- Frames that enter the buffers of a stream one by one.
use Rattle.std.proofs.Common.{◌≡◌, ◌∙◌, sym, ℕ, List, [], ◌∷◌, ◌++◌, Option, refl, ap, subst, append_assoc, append-nil}
use Rattle.sound_frames.specs.declared.frame_walk.FramePart.{FramePart}
use Rattle.tstd_rows.specs.Held.{Held}
use Rattle.tstd_rows.specs.HeldVideo.{HoldsVideoOf, VideoSizes}
use Rattle.events.specs.declared.event.Event.{Event}
use Rattle.es_view.specs.declared.counted_buffers.CountedBuffers.{CountedBuffers}
use Rattle.es_view.specs.declared.counted_buffers.FramePlace.{FramePlace}
use Rattle.es_events.specs.declared.entry_events.Place.{Place}
use Rattle.es_events.specs.declared.view_options.ViewOptions.{ViewOptions}
use Rattle.es_view.specs.EntryFrames.{AreCounted, Counted, frame_after, frame_events, frames_after, frames_events, frames_held}

-- A frame that is in no list
abbrev pub no_part : FramePart
no_part = record { place = 0; size = 0; ahead = 0 }

-- The content of the buffers after some frames, with the frames that remain and the later events
pub record Settled (options : ViewOptions) (at : FramePlace) (window : ℕ) (place : Place) (b : CountedBuffers) (ps : List FramePart) (events : List Event)
    (last : Counted) (whole : List Event) : Type 0 where
  pub now : Counted
  pub is : AreCounted b now
  pub kept : frames_after options at window now ps ≡ last
  pub rest : events ++ frames_events options place at now.held ps ≡ whole

pub one_entered : (options : ViewOptions) (at : FramePlace) (window : ℕ) (place : Place) (b b' : CountedBuffers) (p : FramePart) (ps : List FramePart)
    (events events' : List Event) (last : Counted)
    (whole : List Event) → ((c : Counted) → AreCounted b c → AreCounted b' (frame_after options at window c p)) →
    ((c : Counted) → AreCounted b c → events' ≡ events ++ frame_events options place at c.held p) →
    Settled options at window place b (p ∷ ps) events last whole → Settled options at window place b' ps events' last whole
unfolding frames_after frames_events
one_entered options at window place b b' p ps events events' last whole takes writes s = record {
  now = frame_after options at window s.now p;
  is = takes s.now s.is;
  kept = s.kept;
  rest = ap (λ (t : List Event). t ++ frames_events options place at (frame_after options at window s.now p).held ps) (writes s.now s.is)
      ∙ append_assoc events (frame_events options place at s.now.held p) (frames_events options place at (frame_after options at window s.now p).held ps)
      ∙ s.rest;
}

pub all_entered : (options : ViewOptions) (at : FramePlace) (window : ℕ) (place : Place) (b : CountedBuffers) (events : List Event) (last : Counted)
    (whole : List Event) →
    Settled options at window place b [] events last whole → AreCounted b last
unfolding frames_after
all_entered options at window place b events last whole s = subst (AreCounted b) s.kept s.is

pub all_written : (options : ViewOptions) (at : FramePlace) (window : ℕ) (place : Place) (b : CountedBuffers) (events : List Event) (last : Counted)
    (whole : List Event) →
    Settled options at window place b [] events last whole → events ≡ whole
unfolding frames_events
all_written options at window place b events last whole s = sym (append-nil events) ∙ s.rest

-- The content of the video buffers after some frames
pub record SettledVideo (options : ViewOptions) (at : FramePlace) (window : ℕ) (b : CountedBuffers) (sizes : Option VideoSizes) (ps : List FramePart)
    (last : Counted) : Type 0 where
  pub now : Counted
  pub is : AreCounted b now
  pub video : HoldsVideoOf b.buffers sizes now.held
  pub kept : frames_after options at window now ps ≡ last

pub one_of_video : (options : ViewOptions) (at : FramePlace) (window : ℕ) (b b' : CountedBuffers) (sizes : Option VideoSizes) (p : FramePart)
    (ps : List FramePart) (last : Counted) →
    ((c : Counted) → AreCounted b c → AreCounted b' (frame_after options at window c p)) →
    ((c : Counted) (sizes : Option VideoSizes) → AreCounted b c → HoldsVideoOf b.buffers sizes c.held →
    HoldsVideoOf b'.buffers sizes (frame_after options at window c p).held) →
    SettledVideo options at window b sizes (p ∷ ps) last → SettledVideo options at window b' sizes ps last
unfolding frames_after
one_of_video options at window b b' sizes p ps last takes holds s = record {
  now = frame_after options at window s.now p;
  is = takes s.now s.is;
  video = holds s.now sizes s.is s.video;
  kept = s.kept;
}

pub all_of_video : (options : ViewOptions) (at : FramePlace) (window : ℕ) (b : CountedBuffers) (sizes : Option VideoSizes) (last : Counted) →
    SettledVideo options at window b sizes [] last →
    HoldsVideoOf b.buffers sizes last.held
unfolding frames_after
all_of_video options at window b sizes last s = subst (λ (c : Counted). HoldsVideoOf b.buffers sizes c.held) s.kept s.video

-- The content of the buffers after frames does not depend on any count.
pub held_alone : (options : ViewOptions) (at : FramePlace) (window : ℕ) (c : Counted) (ps : List FramePart) →
    (frames_after options at window c ps).held ≡ frames_held options at c.held ps
unfolding frames_after frames_held
held_alone options at window c [] = refl
held_alone options at window c (p ∷ ps) = held_alone options at window (frame_after options at window c p) ps
