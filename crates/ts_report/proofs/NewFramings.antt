-- A stream before its first packet, viewed by access units or not
use Rattle.std.proofs.Common.{◌≡◌, Option, Some, None, refl}
use Rattle.sound_frames.specs.declared.frame_headers.FrameKind.{FrameKind}
use Rattle.tstd_rows.specs.Held.{Held}
use Rattle.es_view.specs.Entries.{held_in, tally_in}
use Rattle.es_events.specs.Tallies.{none_counted}
use Rattle.ts_report.specs.StreamTables.{new_framed}

pub new_held : (h : Held) (kind : Option FrameKind) → held_in (new_framed h kind) h ≡ h
unfolding held_in new_framed
new_held h None = refl
new_held h (Some kind) = refl

pub new_tally : (h : Held) (kind : Option FrameKind) → tally_in (new_framed h kind) none_counted ≡ none_counted
unfolding tally_in new_framed
new_tally h None = refl
new_tally h (Some kind) = refl
