-- A packet enters the buffers of its stream: its results in the two buffers of video after the transport buffer, if they are viewed (ISO/IEC 13818-1,
-- 2.4.2.3).
use Rattle.std.specs.Prelude.{ℕ, ◌+◌, ◌-◌, ◌*◌, ◌==◌, Bool, if◌then◌else◌, List, Option, Some, None}
use Rattle.arrival.specs.declared.arrival.Arrival.{Arrival}
use Rattle.arrival.specs.Arrivals.{times_at}
use Rattle.tstd_rows.specs.declared.late_causes.VideoUnit.{VideoUnit}
use Rattle.tstd_rows.specs.declared.unit_seen.DueTime.{DueTime}
use Rattle.tstd_rows.specs.Held.{Held}
use Rattle.tstd_rows.specs.HeldVideo.{VideoEnteredView, VideoSizes, nothing_found, video_found, video_unit}
use Rattle.tstd_rows.specs.Entering.{after_header, after_unit, lead_in, size_of, takes_in}
use Rattle.tstd_rows.specs.declared.arriving.Arriving.{Arriving}

-- a payload of `count` bytes: if it enters the multiplexing buffer, its bytes do so as they leave the transport buffer
unfoldable pub payload_video : Option VideoSizes → Held → Bool → ℕ → List ℕ → VideoEnteredView
payload_video sizes h enters count times = if count == 0 then nothing_found else if enters then video_found sizes h.rate h.parts times else nothing_found

abbrev pub bytes_video : Option VideoSizes → Held → Arrival → Bool → ℕ → ℕ → VideoEnteredView
bytes_video sizes h arrival enters i n = payload_video sizes h enters n (times_at arrival h.rx i n)

-- a unit that begins ends the unit before it
unfoldable pub video_unit_ended : Option VideoSizes → Held → Option DueTime → Option VideoUnit
video_unit_ended sizes h None = None
video_unit_ended sizes h (Some due) = video_unit sizes h.rate h.parts

-- a packet
abbrev pub video_first : Option VideoSizes → Held → Arrival → Arriving → ℕ → ℕ → ℕ → VideoEnteredView
video_first sizes h arrival p size lead count = bytes_video sizes (after_unit h arrival p size lead) arrival p.enters (188 * p.index + (188 - size)) count

abbrev pub video_with : Option VideoSizes → Held → Arrival → Arriving → ℕ → ℕ → VideoEnteredView
video_with sizes h arrival p size lead = video_first sizes h arrival p size lead size

unfoldable pub video_of : Option VideoSizes → Held → Arrival → Arriving → VideoEnteredView
video_of sizes h arrival p = if takes_in h arrival p then video_with sizes h arrival p (size_of p) (lead_in arrival p) else nothing_found

unfoldable pub video_first_of : Option VideoSizes → Held → Arrival → Arriving → ℕ → VideoEnteredView
video_first_of sizes h arrival p count = if takes_in h arrival p then video_first sizes h arrival p (size_of p) (lead_in arrival p) count else nothing_found

abbrev pub unit_with : Option VideoSizes → Held → Arrival → Arriving → ℕ → ℕ → Option VideoUnit
unit_with sizes h arrival p size lead = video_unit_ended sizes (after_header h arrival p size lead) p.begins

unfoldable pub video_unit_of : Option VideoSizes → Held → Arrival → Arriving → Option VideoUnit
video_unit_of sizes h arrival p = if takes_in h arrival p then unit_with sizes h arrival p (size_of p) (lead_in arrival p) else None
