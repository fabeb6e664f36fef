use Rattle.std.proofs.Common.{◌++◌, Option, drop}
use Rattle.tstd_rows.specs.HeldVideo.{HoldsVideoOf, VideoSizes}
use Rattle.es_view.specs.EntryFrames.{AreCounted, Counted, frames_after, frames_events}
use Rattle.es_view.proofs.Frames.{Settled, SettledVideo}
use Rattle.es_view.proofs.counted_buffers.CountedBuffers.enter_frames.Given as goal

abbrev pub invariant-loop-frame : goal.invariant-loop-frame
invariant-loop-frame l = record {
  settled : (c : Counted) → AreCounted l.fn.self c →
      Settled l.options l.at l.window l.place l.self (drop l.frame-index l.frames) l.events.items (frames_after l.options l.at l.window c l.frames)
      (l.fn.events.items ++ frames_events l.options l.place l.at c.held l.frames);
  video : (c : Counted) (sizes : Option VideoSizes) → AreCounted l.fn.self c → HoldsVideoOf l.fn.self.buffers sizes c.held →
      SettledVideo l.options l.at l.window l.self sizes (drop l.frame-index l.frames) (frames_after l.options l.at l.window c l.frames);
}
