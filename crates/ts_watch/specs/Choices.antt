-- The streams that are viewed, and their buffers.
use Rattle.std.specs.Prelude.{ℕ, ◌==◌, ◌||◌, is_some, min, Bool, if◌then◌else◌, List, length, Option, Some, None}
use Rattle.std.specs.List.{list_any}
use Rattle.stream_coding.specs.declared.coding.Coding.{Coding}
use Rattle.sound_frames.specs.declared.frame_headers.FrameKind.{FrameKind}
use Rattle.sound_frames.specs.FrameHeaders.{frame_kind}
use Rattle.es_buffers.specs.declared.buffers.Buffers.{Buffers}
use Rattle.es_buffers.specs.declared.buffers.PidBuffers.{PidBuffers}
use Rattle.es_buffers.specs.Buffers.{buffers_of, given_buffers, joined_buffers_of, multiplexing_of}
use Rattle.unit_timing.specs.declared.multiplexing_buffer.MultiplexingBuffer.{MultiplexingBuffer}
use Rattle.tstd_rows.specs.declared.video_buffers.VideoRates.{VideoRates}
use Rattle.stream_programs.specs.Streams.{FoundStreamView}
use Rattle.es_events.specs.declared.view_options.ViewOptions.{ViewOptions}
use Rattle.ts_watch.specs.declared.view_request.ViewSpan.{ViewSpan}

-- the program_numbers to view, all if the list is empty, and buffers given for PIDs
pub record ChoiceView : Type 0 where
  pub programs : List ℕ
  pub buffers : List PidBuffers

-- a choice, the options of the view, the part of the stream, and whether packets of 192 bytes arrive by the stamps before them
pub record RequestView : Type 0 where
  pub options : ViewOptions
  pub choice : ChoiceView
  pub span : ViewSpan
  pub stamps : Bool

unfoldable pub is_among : ℕ → List ℕ → Bool
is_among number numbers = list_any (λ other. other == number) numbers

-- the streams of a program are viewed
abbrev pub takes : ChoiceView → ℕ → Bool
takes choice program = length choice.programs == 0 || is_among program choice.programs

-- a stream, if its program is among these
unfoldable pub chosen : ChoiceView → Option FoundStreamView → Option FoundStreamView
chosen choice None = None
chosen choice (Some stream) = if takes choice stream.program then Some stream else None

-- its buffers: the given buffers, otherwise the buffers of its coding, for video the multiplexing buffer and the elementary stream buffer as one; no
-- rate is beyond 200,000,000 bits a second
unfoldable pub given_or : Option Buffers → Buffers → Buffers
given_or None coded = coded
given_or (Some given) coded = given

abbrev pub up_to_limit : Buffers → Buffers
up_to_limit buffers = record { rx = min buffers.rx 200000000; main = buffers.main }

abbrev pub buffers_for : ChoiceView → ℕ → Coding → Buffers
buffers_for choice pid coding = up_to_limit (given_or (given_buffers choice.buffers pid) (joined_buffers_of coding))

-- the two buffers of video, by its coding: not viewed if the PID's buffers are given, or for another coding
unfoldable pub rates_if : Option MultiplexingBuffer → ℕ → Option VideoRates
rates_if None elementary = None
rates_if (Some m) elementary = Some (record { rbx = m.rbx; multiplexing = m.size; elementary = elementary })

abbrev pub rates_for : ChoiceView → ℕ → Coding → Option VideoRates
rates_for choice pid coding = if is_some (given_buffers choice.buffers pid) then None else rates_if (multiplexing_of coding) (buffers_of coding).main

-- the kind of frames of a stream of sound whose main buffer is viewed by access units: none if the PID's buffers are given
abbrev pub frames_for : ChoiceView → ℕ → ℕ → List ℕ → Option FrameKind
frames_for choice pid stream_type descriptors = if is_some (given_buffers choice.buffers pid) then None else frame_kind stream_type descriptors
