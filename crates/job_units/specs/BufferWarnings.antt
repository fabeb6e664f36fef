-- Warnings about the buffers that are declared of the streams of a job.
use Rattle.std.specs.Prelude.{ℕ, ◌*◌, ◌/◌, ◌-◌, ◌^◌, ◌==◌, ◌||◌, ◌++◌, min, nat_lt, if◌then◌else◌, List, [], ◌∷◌, flat_map, zip, Option, Some, None, is_some, option_map}
use Rattle.std.specs.Prelude.{option_to_list}
use Rattle.clock27.specs.Units.{slot_units_at_1bps}
use Rattle.unit_timing.specs.Shares.{parts}
use Rattle.unit_timing.specs.declared.multiplexing_buffer.MultiplexingBuffer.{MultiplexingBuffer}
use Rattle.stream_choice.specs.Frames.{most_waiting}
use Rattle.stream_choice.specs.declared.choice.Choice.{Choice}
use Rattle.stream_choice.specs.declared.frame_counts.FrameCounts.{FrameCounts}
use Rattle.es_buffers.specs.Buffers.{buffers_of, given_buffers}
use Rattle.es_buffers.specs.declared.buffers.PidBuffers.{PidBuffers}
use Rattle.job_units.specs.declared.declarations.StreamChoice.{StreamChoice}
use Rattle.job_programs.specs.declared.warning.Warning.{Warning}
use Rattle.job_programs.specs.declared.warning.Warning.TheVariants as warning
use Rattle.job_units.specs.Declarations.{MeasuredView, UnitCountsView, asked_shares, said_coding, coding_for}

-- 1. A buffer that a stream says of itself

-- the size of the buffer that a stream's first unit declares, and the size that replaces it
abbrev pub said_size : MeasuredView → ℕ
said_size m = (buffers_of (said_coding m)).main

abbrev pub counted_size : MeasuredView → ℕ
counted_size m = (buffers_of (coding_for m)).main

-- they differ, and no buffers are asked for
unfoldable pub header_warning : List PidBuffers → MeasuredView → List Warning
header_warning given m =
    if is_some (given_buffers given m.pid) || said_size m == counted_size m then []
    else warning.HeaderBuffer m.pid (said_size m) m.units.largest (counted_size m) ∷ []

abbrev pub header_warnings : List PidBuffers → List MeasuredView → List Warning
header_warnings given streams = flat_map (header_warning given) streams

-- 2. A multiplexing buffer that nothing keeps

-- the rate of the packets that a choice asks for, in bits a second
unfoldable pub asked_rate : Choice → ℕ
asked_rate c = c.share * slot_units_at_1bps / parts

-- the leak of a multiplexing buffer that a stream has, and does not declare
unfoldable pub unkept_leak : Option MultiplexingBuffer → Option MultiplexingBuffer → Option ℕ
unkept_leak None kept = None
unkept_leak (Some buffer) (Some other) = None
unkept_leak (Some buffer) None = Some buffer.rbx

unfoldable pub leak_warning : MeasuredView × (UnitCountsView × StreamChoice) → Option Warning
leak_warning s = option_map (λ leak. warning.Leak s.0.pid (asked_rate s.1.1.choice) leak) (unkept_leak s.1.0.multiplexing s.1.1.multiplexing)

unfoldable pub leak_warnings_of : MeasuredView × (UnitCountsView × StreamChoice) → List Warning
leak_warnings_of s = option_to_list (leak_warning s)

abbrev pub leak_warnings : List MeasuredView → List UnitCountsView → List StreamChoice → List Warning
leak_warnings streams all chosen = flat_map leak_warnings_of (zip streams (zip all chosen))

-- 3. Frames of sound that leave a main buffer in whole units, where the options do not give it: frames that it does not hold one by one, that would be in
-- the buffers for more than a second, or that cross units

-- the access units of a stream that has several in a unit, and does not declare them
unfoldable pub unkept_frames : Option FrameCounts → Option FrameCounts → Option FrameCounts
unkept_frames None kept = None
unkept_frames (Some f) (Some other) = None
unkept_frames (Some f) None = if nat_lt 1 f.frames then Some f else None

-- the bytes that then wait, with the lead and the share of a choice, in an output whose shares have this sum; as a number of 64 bits
unfoldable pub waiting_of : ℕ → UnitCountsView → Choice → FrameCounts → ℕ
waiting_of sum c choice f = min (most_waiting c.needs f choice.lead choice.share sum) (2 ^ 64 - 1)

-- frames that cross units are not counted
unfoldable pub crossing_warning : MeasuredView → UnitCountsView → Option Warning
crossing_warning m c = elim c.framing [
  | Some f ↦ None
  | None ↦ if m.crossing then Some (warning.CrossingFrames m.pid c.needs.main) else None
]

unfoldable pub whole_warning : ℕ → MeasuredView × (UnitCountsView × StreamChoice) → Option Warning
whole_warning sum s = elim (unkept_frames s.1.0.framing s.1.1.framing) [
  | None ↦ crossing_warning s.0 s.1.0
  | Some f ↦ Some (warning.Frames s.0.pid f.frames s.1.0.needs.main (waiting_of sum s.1.0 s.1.1.choice f))
]

unfoldable pub frame_warning : List PidBuffers → ℕ → MeasuredView × (UnitCountsView × StreamChoice) → Option Warning
frame_warning given sum s = if is_some (given_buffers given s.0.pid) then None else whole_warning sum s

unfoldable pub frame_warnings_of : List PidBuffers → ℕ → MeasuredView × (UnitCountsView × StreamChoice) → List Warning
frame_warnings_of given sum s = option_to_list (frame_warning given sum s)

abbrev pub frame_warnings : List PidBuffers → ℕ → List MeasuredView → List UnitCountsView → List StreamChoice → List Warning
frame_warnings given sum streams all chosen = flat_map (frame_warnings_of given sum) (zip streams (zip all chosen))

-- 4. All of them

abbrev pub buffer_warnings : List PidBuffers → List MeasuredView → List UnitCountsView → List StreamChoice → List Warning
buffer_warnings given streams all chosen =
    (header_warnings given streams ++ leak_warnings streams all chosen) ++ frame_warnings given (asked_shares chosen) streams all chosen
