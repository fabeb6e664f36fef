-- What a description declares of the streams of a job.
use Rattle.std.specs.Prelude.{ℕ, ◌+◌, ◌-◌, ◌*◌, ◌/◌, ◌^◌, ◌==◌, ◌&&◌, ◌||◌, min, max, nat_le, nat_lt, Bool, false, if◌then◌else◌, List, [], ◌∷◌, length, map, find}
use Rattle.std.specs.Prelude.{zip, sum_by, unwrap_or, ok_or, Option, Some, None, is_some, option_map, option_and_then, Result, Ok}
use Rattle.std.specs.List.{list_any, range_with_len}
use Rattle.clock27.specs.Units.{slot_units_at_1bps}
use Rattle.clock27.specs.declared.rate.TheConstants.{LEAST_RATE}
use Rattle.pes_packet.specs.AccessUnits.{AccessUnit}
use Rattle.pes_packet.specs.StreamIds.{greatest_size}
use Rattle.unit_timing.specs.Shares.{parts}
use Rattle.unit_timing.specs.declared.multiplexing_buffer.MultiplexingBuffer.{MultiplexingBuffer}
use Rattle.stream_choice.specs.Choices.{groups_choice, preferred}
use Rattle.stream_choice.specs.FramedChoices.{framed_groups}
use Rattle.stream_choice.specs.Frames.{framed_lead, is_framing, keeps_framing}
use Rattle.stream_choice.specs.Paces.{pace_choice}
use Rattle.stream_choice.specs.Ranges.{is_needs, are_max_packets}
use Rattle.stream_choice.specs.Shares.{delay_before, leaking_needs, least_share}
use Rattle.stream_choice.specs.declared.choice.Choice.{Choice}
use Rattle.stream_choice.specs.declared.frame_counts.FrameCounts.{FrameCounts}
use Rattle.stream_choice.specs.declared.needs.Needs.{Needs}
use Rattle.es_buffers.specs.Buffers.{buffers_of, coding_holding, given_buffers, multiplexing_of}
use Rattle.stream_coding.specs.Codings.{coding_of}
use Rattle.sound_frames.specs.FrameHeaders.{frame_kind}
use Rattle.sound_frames.specs.Frames.{no_frames, all_frames}
use Rattle.stream_coding.specs.Profiles.{profile_level}
use Rattle.stream_coding.specs.declared.profiles.ProfileLevel.{ProfileLevel}
use Rattle.sound_frames.specs.declared.frame_headers.FrameKind.{FrameKind}
use Rattle.sound_frames.specs.declared.frames.UnitFrames.{UnitFrames}
use Rattle.stream_coding.specs.declared.coding.Coding.{Coding}
use Rattle.es_buffers.specs.declared.buffers.Buffers.{Buffers}
use Rattle.es_buffers.specs.declared.buffers.PidBuffers.{PidBuffers}
use Rattle.es_moments.specs.UnitRuns.{UnitRunsView, runs_burst}
use Rattle.es_moments.specs.CountedUnits.{CountedUnitsView, counted_units, row_packets}
use Rattle.es_moments.specs.Declaration.{CountedPacketsView}
use Rattle.job_units.specs.declared.declarations.StreamChoice.{StreamChoice}
use Rattle.job_programs.specs.declared.refusal.GreaterBuffers.{GreaterBuffers}
use Rattle.job_programs.specs.declared.refusal.JobRefusal.{JobRefusal}
use Rattle.job_programs.specs.declared.refusal.JobRefusal.TheVariants as refusals
use Rattle.given_values.specs.declared.declare_by.DeclareBy.{DeclareBy}
use Rattle.given_values.specs.declared.declare_by.DeclareBy.TheVariants as by
use Rattle.job_programs.specs.Answers.{and_then, unless, each}
use Rattle.job_programs.specs.JobStreams.{TimedStreamView}
use Rattle.job_units.specs.CrossingFrames.{do_cross}
use Rattle.job_units.specs.FrameRests.{least_rest}

-- 1. What a description can't hold

unfoldable pub too_many : ℕ → ℕ → Option JobRefusal
too_many programs streams =
    if streams == 0 then Some refusals.NoStream
    else (if nat_lt 64 programs then Some (refusals.Programs programs)
    else (if nat_lt 254 streams then Some (refusals.Streams streams) else None))

-- the first stream of more units than a multiplexer may hold
unfoldable pub is_too_long : TimedStreamView → Bool
is_too_long s = nat_lt 1_048_576 (length s.units)

unfoldable pub units_refusal : TimedStreamView → JobRefusal
units_refusal s = refusals.Units s.pid (length s.units)

unfoldable pub too_long : List TimedStreamView → Option JobRefusal
too_long streams = option_map units_refusal (find is_too_long streams)

-- 2. The measures of a stream: its entry in the program map, the bytes of its first unit, the access units of its units, whether frames of sound cross its
-- units, the most bytes of a PES packet header, and the counts of its units

pub record MeasuredView : Type 0 where
  pub pid : ℕ
  pub stream_id : ℕ
  pub stream_type : ℕ
  pub descriptors : List ℕ
  pub first : List ℕ
  pub framing : Option FrameCounts
  pub crossing : Bool
  pub header : ℕ
  pub units : CountedUnitsView

unfoldable pub first_bytes : List AccessUnit → List ℕ
first_bytes [] = []
first_bytes (u ∷ us) = u.bytes

-- what the first unit says of the profile and level of a stream
unfoldable pub said_profile : TimedStreamView → ProfileLevel
said_profile s = profile_level s.stream_type (first_bytes s.units)

-- the access units of a stream's units, if it is sound whose units are whole frames, at most 64 each
unfoldable pub framing_of : ℕ → UnitFrames → Option FrameCounts
framing_of rest c =
    if nat_le c.count 64 && nat_lt c.time (2 ^ 32) then Some (record { frames = c.count; frame = c.time; rest = rest; left = c.left }) else None

-- each frame is the longest time of a frame after the frame before it
abbrev pub framing_by : FrameKind → List AccessUnit → UnitFrames → Option FrameCounts
framing_by kind us c = framing_of (least_rest kind c.time us) c

unfoldable pub framing_for : TimedStreamView → Option FrameCounts
framing_for s = elim (frame_kind s.stream_type s.descriptors) [
  | None ↦ None
  | Some kind ↦ option_and_then (framing_by kind s.units) (all_frames kind no_frames (map (λ u. u.bytes) s.units))
]

-- whether frames of sound cross the units of a stream
unfoldable pub crossing_for : TimedStreamView → Bool
crossing_for s = elim (frame_kind s.stream_type s.descriptors) [ None ↦ false | Some kind ↦ do_cross kind s.units ]

-- the most bytes of a PES packet header (`header_size`): 45 if a unit asks for so many, 17 more than 19 with PES_private_data
unfoldable pub most_header : Bool → Bool → ℕ
most_header long private_data = if long then 45 else (if private_data then 36 else 19)

abbrev pub has_long : AccessUnit → Bool
has_long u = u.marks.long

abbrev pub has_data : AccessUnit → Bool
has_data u = is_some u.marks.private_data

unfoldable pub header_of : List AccessUnit → ℕ
header_of us = most_header (list_any has_long us) (list_any has_data us)

unfoldable pub measured : TimedStreamView → MeasuredView
measured s = record {
  pid = s.pid;
  stream_id = s.stream_id;
  stream_type = s.stream_type;
  descriptors = s.descriptors;
  first = first_bytes s.units;
  framing = framing_for s;
  crossing = crossing_for s;
  header = header_of s.units;
  units = counted_units s.units;
}

abbrev pub all_measured : List TimedStreamView → List MeasuredView
all_measured streams = map measured streams

-- more units than a multiplexer may hold
unfoldable pub length_refusal : MeasuredView → Option JobRefusal
length_refusal m = if nat_lt 1_048_576 m.units.count then Some (refusals.Units m.pid m.units.count) else None

-- 3. Buffers: the buffers that are asked for, otherwise the buffers of the coding, with what the stream declares of them

-- the coding by the first unit
abbrev pub said_coding : MeasuredView → Coding
said_coding m = coding_of m.stream_type m.descriptors m.first

-- a buffer that does not hold the greatest one is none that the stream keeps to
unfoldable pub coding_for : MeasuredView → Coding
coding_for m = coding_holding m.units.largest (said_coding m)

unfoldable pub buffers_for : List PidBuffers → MeasuredView → Buffers
buffers_for given m = unwrap_or (given_buffers given m.pid) (buffers_of (coding_for m))

-- the size of MB as it is declared (2.4.2.3): by the standard the bytes of a PES packet header leave MB at no cost of time, with the first byte of
-- payload after them; here they leave it as payload does. So by the standard MB may hold one header more than is promised of it
-- (`HeadersLaw`), and room for the stream's greatest header is left
unfoldable pub without_header : ℕ → MultiplexingBuffer → MultiplexingBuffer
without_header header b = record { rbx = b.rbx; size = if nat_lt header b.size then b.size - header else b.size }

-- MB of video; there is none beside buffers that are asked for, which are one main buffer
unfoldable pub multiplexing_for : List PidBuffers → MeasuredView → Option MultiplexingBuffer
multiplexing_for given m = if is_some (given_buffers given m.pid) then None else option_map (without_header m.header) (multiplexing_of (coding_for m))

-- 4. The counts of a stream's units: their needs, and the greatest number of packets of 1, 2, .. units in a row

pub record UnitCountsView : Type 0 where
  pub needs : Needs
  pub multiplexing : Option MultiplexingBuffer
  pub framing : Option FrameCounts
  pub max_group_packets : List ℕ

unfoldable pub needs_of : List PidBuffers → MeasuredView → Needs
needs_of given m = record {
  interval = m.units.interval;
  size = m.units.largest;
  rx = (buffers_for given m).rx;
  main = (buffers_for given m).main;
}

-- the packets of groups of up to 64 units, as numbers of 32 bits
unfoldable pub packets_of_group : CountedPacketsView → ℕ → ℕ
packets_of_group packets group = min (row_packets group packets) (2 ^ 32 - 1)

unfoldable pub max_group_packets : MeasuredView → List ℕ
max_group_packets m = map (λ before. packets_of_group m.units.packets (before + 1)) (range_with_len 0 (min m.units.count 64))

unfoldable pub size_refusal : MeasuredView → Option JobRefusal
size_refusal m = if nat_lt (greatest_size m.stream_id) m.units.largest then Some (refusals.Size m.pid m.units.largest) else None

unfoldable pub unit_counts : List PidBuffers → MeasuredView → Result UnitCountsView JobRefusal
unit_counts given m =
    unless (size_refusal m)
    (Ok (record { needs = needs_of given m; multiplexing = multiplexing_for given m; framing = m.framing; max_group_packets = max_group_packets m }))

abbrev pub all_unit_counts : List PidBuffers → List MeasuredView → Result (List UnitCountsView) JobRefusal
all_unit_counts given streams = each (unit_counts given) streams

-- 5. The declaration of each stream: the best declaration that is tried

-- whether a group and a lead can be looked for
unfoldable pub is_countable : Needs → List ℕ → Bool
is_countable needs max_group_packets = is_needs needs && are_max_packets max_group_packets

unfoldable pub share_of : UnitCountsView → ℕ
share_of c = if is_countable c.needs c.max_group_packets then least_share c.needs c.max_group_packets else 0

-- the share of an output of the least rate, in whole parts
abbrev pub least_output : ℕ
least_output = parts * LEAST_RATE / slot_units_at_1bps

-- the least share of the multiplex that all take together by groups, as a number of 64 bits, and no less than that
unfoldable pub shares_of : List UnitCountsView → ℕ
shares_of all = max (min (sum_by share_of all) (2 ^ 64 - 1)) least_output

-- by groups, and by pace; with a multiplexing buffer it is the leak that drains
unfoldable pub groups_of : ℕ → ℕ → Option MultiplexingBuffer → UnitCountsView → Option Choice
groups_of lead sum buffer c =
    if is_countable (leaking_needs buffer c.needs) c.max_group_packets
    then groups_choice (leaking_needs buffer c.needs) c.max_group_packets (delay_before buffer (leaking_needs buffer c.needs) sum) (min lead 90_000)
    else None

-- by groups, where that is asked for
unfoldable pub asked_groups : DeclareBy → ℕ → ℕ → Option MultiplexingBuffer → UnitCountsView → Option Choice
asked_groups by.Pace lead sum buffer c = None
asked_groups by.Groups lead sum buffer c = groups_of lead sum buffer c
asked_groups by.Either lead sum buffer c = groups_of lead sum buffer c

-- the longest lead that is tried first: with it the last access unit of a unit is in the buffers for at most a second
unfoldable pub prompt_lead : ℕ → UnitCountsView → ℕ
prompt_lead lead c = elim c.framing [ None ↦ lead | Some f ↦ min lead (framed_lead f) ]

-- by groups, with the stream's own multiplexing buffer
abbrev pub own_groups : DeclareBy → ℕ → ℕ → UnitCountsView → Option Choice
own_groups declare_by lead sum c = asked_groups declare_by (prompt_lead lead c) sum c.multiplexing c

-- the burst of units at a pace, as a number of 64 bits
abbrev pub burst_of : UnitRunsView → ℕ → ℕ
burst_of units pace = min (runs_burst pace units) (2 ^ 64 - 1)

unfoldable pub pace_of : ℕ → ℕ → Option MultiplexingBuffer → UnitRunsView → UnitCountsView → Option Choice
pace_of lead sum buffer units c =
    if is_needs (leaking_needs buffer c.needs)
    then pace_choice (leaking_needs buffer c.needs) (burst_of units) (delay_before buffer (leaking_needs buffer c.needs) sum) (min lead 90_000)
    else None

-- the declaration that is asked for, otherwise the preferred one
abbrev pub choice_of : DeclareBy → ℕ → ℕ → Option MultiplexingBuffer → UnitRunsView → UnitCountsView → Option Choice
choice_of by.Groups lead sum buffer units c = groups_of lead sum buffer c
choice_of by.Pace lead sum buffer units c = pace_of lead sum buffer units c
choice_of by.Either lead sum buffer units c = preferred (groups_of lead sum buffer c) (pace_of lead sum buffer units c)

-- it, with the multiplexing buffer that it keeps
abbrev pub kept : DeclareBy → ℕ → ℕ → Option MultiplexingBuffer → UnitRunsView → UnitCountsView → Option StreamChoice
kept declare_by lead sum buffer units c =
    option_map (λ choice. record { choice = choice; multiplexing = buffer; framing = None }) (choice_of declare_by lead sum buffer units c)

unfoldable pub first_kept : Option StreamChoice → Option StreamChoice → Option StreamChoice
first_kept (Some choice) other = Some choice
first_kept None other = other

-- something lets its units into one main buffer
unfoldable pub is_declared : DeclareBy → ℕ → ℕ → UnitRunsView → UnitCountsView → Bool
is_declared by.Groups lead sum units c = is_some (groups_of lead sum None c)
is_declared by.Pace lead sum units c = is_some (pace_of lead sum None units c)
is_declared by.Either lead sum units c = is_some (pace_of lead sum None units c) || is_some (groups_of lead sum None c)

-- with these buffers in place of the stream's
abbrev pub greater_needs : GreaterBuffers → Needs → Needs
greater_needs b n = record { interval = n.interval; size = n.size; rx = b.rx; main = b.main }

unfoldable pub with_buffers : GreaterBuffers → UnitCountsView → UnitCountsView
with_buffers b c = record { needs = greater_needs b c.needs; multiplexing = None; framing = None; max_group_packets = c.max_group_packets }

-- the buffers that are tried, and the first of these into which something lets its units
abbrev pub small_buffers : GreaterBuffers
small_buffers = record { rx = 8_000_000; main = 65_536 }

abbrev pub medium_buffers : GreaterBuffers
medium_buffers = record { rx = 40_000_000; main = 1_000_000 }

abbrev pub large_buffers : GreaterBuffers
large_buffers = record { rx = 200_000_000; main = 10_000_000 }

unfoldable pub way_out : DeclareBy → ℕ → ℕ → UnitRunsView → UnitCountsView → Option GreaterBuffers
way_out declare_by lead sum units c =
    if is_declared declare_by lead sum units (with_buffers small_buffers c) then Some small_buffers
    else (if is_declared declare_by lead sum units (with_buffers medium_buffers c) then Some medium_buffers
    else (if is_declared declare_by lead sum units (with_buffers large_buffers c) then Some large_buffers else None))

-- no receiver has a greater buffer for sound
unfoldable pub advised : DeclareBy → ℕ → ℕ → MeasuredView → UnitCountsView → Option GreaterBuffers
advised declare_by lead sum m c = if is_some (frame_kind m.stream_type m.descriptors) then None else way_out declare_by lead sum m.units.runs c

unfoldable pub buffers_refusal : DeclareBy → ℕ → ℕ → MeasuredView → UnitCountsView → JobRefusal
buffers_refusal declare_by lead sum m c = refusals.Buffers m.pid c.needs.size c.needs.rx c.needs.main (advised declare_by lead sum m c)

-- with the stream's multiplexing buffer and a lead that its access units allow, if a choice keeps both; else with one main buffer and any
-- lead. A stream of its level's greatest rate is of the second kind: its packets come faster than the leak by their headers, which the leak
-- is counted with here
unfoldable pub chosen : DeclareBy → ℕ → ℕ → MeasuredView × UnitCountsView → Result StreamChoice JobRefusal
chosen declare_by lead sum s =
    ok_or (first_kept (kept declare_by (prompt_lead lead s.1) sum s.1.multiplexing s.0.units.runs s.1) (kept declare_by lead sum None s.0.units.runs s.1))
    (buffers_refusal declare_by lead sum s.0 s.1)

-- 6. The declarations of all streams. Each is chosen as if the output had the least shares of its streams. Sound with several access units to a unit
-- is chosen once more in an output of the shares of these first choices: the faster an output is, the sooner bytes leave the transport buffer

-- the share of what recurs for one program: clock references each 40 ms, and a section of a PAT and of a PMT each 500 ms
abbrev pub recurring_share : ℕ
recurring_share = parts * 29 / 90_000

-- the sum of the shares of an output with these choices, as a number of 64 bits
unfoldable pub asked_shares : List StreamChoice → ℕ
asked_shares chosen = max (min (min (sum_by (λ s. s.choice.share) chosen) (2 ^ 64 - 1) + recurring_share) (2 ^ 64 - 1)) least_output

-- a choice keeps access units in an output whose shares have this sum
abbrev pub keeps : ℕ → FrameCounts → UnitCountsView → StreamChoice → Bool
keeps sum f c s = keeps_framing c.needs f s.choice.lead s.choice.share sum

-- the choice by groups, with one main buffer, that keeps them and asks for the least share
unfoldable pub framed_by_groups : ℕ → ℕ → FrameCounts → UnitCountsView → Option Choice
framed_by_groups lead sum f c =
    if is_framing c.needs f && is_countable c.needs c.max_group_packets then framed_groups c.needs f c.max_group_packets sum (min lead 90_000) else None

-- the same, if the options allow groups
unfoldable pub framed_of : DeclareBy → ℕ → ℕ → FrameCounts → UnitCountsView → Option Choice
framed_of by.Pace lead sum f c = None
framed_of by.Groups lead sum f c = framed_by_groups lead sum f c
framed_of by.Either lead sum f c = framed_by_groups lead sum f c

-- that choice replaces the first one if it asks for less; or, if the first one does not keep them, for at most twice as much
abbrev pub replaces : Choice → Choice → Bool → Bool
replaces c first first_keeps = if first_keeps then nat_lt c.share first.share else nat_le c.share (2 * first.share)

-- a choice that declares access units. The slots of a plan come more evenly than a share is reckoned with, and most plans serve such a stream with
-- a 16th less: the search for a rate begins there
abbrev pub spared : Choice → Choice
spared c = record { allowance = c.allowance; lead = c.lead; share = c.share - c.share / 16 }

abbrev pub framed_with : FrameCounts → Option MultiplexingBuffer → Choice → StreamChoice
framed_with f buffer c = record { choice = spared c; multiplexing = buffer; framing = Some f }

-- the first choice, with the access units if it keeps them
abbrev pub first_framed : FrameCounts → StreamChoice → Bool → StreamChoice
first_framed f first first_keeps = if first_keeps then framed_with f first.multiplexing first.choice else first

unfoldable pub framed_or : FrameCounts → StreamChoice → Bool → Option Choice → StreamChoice
framed_or f first first_keeps None = first_framed f first first_keeps
framed_or f first first_keeps (Some c) =
    if replaces c first.choice first_keeps then framed_with f None c else first_framed f first first_keeps

-- a stream's choice by its first choice: no stream is refused for its access units
unfoldable pub with_frames : DeclareBy → ℕ → ℕ → UnitCountsView × StreamChoice → StreamChoice
with_frames declare_by lead sum s = elim s.0.framing [
  | None ↦ s.1
  | Some f ↦ framed_or f s.1 (keeps sum f s.0 s.1) (framed_of declare_by lead sum f s.0)
]

abbrev pub all_framed : DeclareBy → ℕ → ℕ → List UnitCountsView → List StreamChoice → List StreamChoice
all_framed declare_by lead sum all first = map (with_frames declare_by lead sum) (zip all first)

unfoldable pub choices : DeclareBy → ℕ → List MeasuredView → List UnitCountsView → Result (List StreamChoice) JobRefusal
choices declare_by lead streams all =
    and_then (λ first. Ok (all_framed declare_by lead (asked_shares first) all first))
    (each (chosen declare_by lead (shares_of all)) (zip streams all))
