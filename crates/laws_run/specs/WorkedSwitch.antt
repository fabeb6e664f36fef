-- A run of two plans in turn with video and sound that meets every premise of the headline, and what the headline says of this run.
use Rattle.std.specs.Prelude.{◌≡◌, ℕ, ◌*◌, ◌≤◌, List, [], ◌∷◌, ◌++◌, map, true, false, None, All}
use Rattle.pes_packet.specs.AccessUnits.{AccessUnit}
use Rattle.pes_packet.specs.Marks.{no_marks, no_flags}
use Rattle.pes_packet.specs.Units.{units_of}
use Rattle.ts_packet.specs.declared.start.Start.TheVariants.{Begins, Access}
use Rattle.slot_contents.specs.Contents.{Content, PayloadContent}
use Rattle.unit_timing.specs.AccessUnits.{FramedPacket, framed_fullness}
use Rattle.unit_timing.specs.EmptyBuffers.{IsEmptyEachSecond}
use Rattle.unit_timing.specs.LongestStay.{WaitsAtMost}
use Rattle.unit_timing.specs.Transport.{slots_of, tb_fullness, pes_left}
use Rattle.unit_timing.specs.VideoBuffers.{multiplexing_fullness}
use Rattle.tstd.specs.Carried.{timed_pes_packets, packets_on}
use Rattle.description_parts.specs.Ranges.{IsInRange}
use Rattle.slot_plan.specs.Conditions.{IsServing}
use Rattle.slot_plan.specs.SwitchConditions.{IsSwitchable}
use Rattle.slot_plan.specs.Promised.{Promised}
use Rattle.slot_plan.specs.Waits.{pes_entered}
use Rattle.mux_core.specs.Scheduled.{Scheduled}
use Rattle.mux_core.specs.Histories.{content_at, bytes_of}
use Rattle.mux_core.specs.FramesKept.{CutsUnits}
use Rattle.mux_core.specs.Headline.{Headline, UnitsKept, VideoKept}
use Rattle.mux_core.specs.MeasuredRuns.{MeasuresWell}
use Rattle.mux_core.specs.DecodedRuns.{IsDue}
use Rattle.mux_core.specs.WholeJobs.{switch_schedule, job_history, capacity_for, first_refused}
use Rattle.laws_run.specs.WorkedVideo.{video_stream, video_buffer, sound_stream, sound_framing, video_service, first_plan, second_plan}

-- ---- the units

-- the first picture, where a decoder may begin: due at 111.1 ms, presented 40 ms later
abbrev pub first_picture : AccessUnit
first_picture = record {
  dts = 10000;
  pts = 13600;
  marks = record { random_access = true; flags = no_flags; long = false; private_data = None };
  bytes = 0x00 ∷ 0x00 ∷ 0x01 ∷ 0xB3 ∷ [];
}

abbrev pub second_picture : AccessUnit
second_picture = record { dts = 17000; pts = 17000; marks = no_marks; bytes = 0x00 ∷ 0x00 ∷ 0x01 ∷ 0x00 ∷ [] }

-- two units of sound, each of two access units of three bytes
abbrev pub first_sound : AccessUnit
first_sound = record { dts = 10000; pts = 10000; marks = no_marks; bytes = 0x0A ∷ 0x0B ∷ 0x0C ∷ 0x14 ∷ 0x15 ∷ 0x16 ∷ [] }

abbrev pub second_sound : AccessUnit
second_sound = record { dts = 17000; pts = 17000; marks = no_marks; bytes = 0x1E ∷ 0x1F ∷ 0x20 ∷ 0x28 ∷ 0x29 ∷ 0x2A ∷ [] }

abbrev pub pictures : List AccessUnit
pictures = first_picture ∷ second_picture ∷ []

abbrev pub sounds : List AccessUnit
sounds = first_sound ∷ second_sound ∷ []

abbrev pub all_units : List (ℕ × AccessUnit)
all_units = (0, first_picture) ∷ (1, first_sound) ∷ (0, second_picture) ∷ (1, second_sound) ∷ []

-- the access units of a unit of sound: three bytes each, the first one after the header of the PES packet of 14 bytes
abbrev pub sound_packet : ℕ → FramedPacket
sound_packet due = record { packet = record { dts = due; size = 20; front = 0 }; access_units = 17 ∷ 3 ∷ [] }

abbrev pub sound_packets : List FramedPacket
sound_packets = sound_packet 10000 ∷ sound_packet 17000 ∷ []

-- ---- the run: one period of the first plan, then the second plan

abbrev pub worked_switch : Scheduled
worked_switch = switch_schedule (record { first = record { description = video_service; plan = first_plan }; second = second_plan }) 1

-- 13 slots
abbrev pub switch_bytes : List ℕ
switch_bytes = bytes_of worked_switch (job_history all_units 13)

-- what slot 2 of the first plan and slot 3 of the second carry: the PES packet of the first picture, with PTS and DTS, and of the second, with a PTS
abbrev pub video_contents : List Content
video_contents =
    PayloadContent 256 0 Access (0x00 ∷ 0x00 ∷ 0x01 ∷ 0xE0 ∷ 0x00 ∷ 0x11 ∷ 0x80 ∷ 0xC0 ∷ 0x0A ∷ 0x31 ∷ 0x00 ∷ 0x01 ∷ 0x6A ∷ 0x41 ∷ 0x11 ∷ 0x00 ∷ 0x01
    ∷ 0x4E ∷ 0x21 ∷ 0x00 ∷ 0x00 ∷ 0x01 ∷ 0xB3 ∷ [])
    ∷ PayloadContent 256 1 Begins (0x00 ∷ 0x00 ∷ 0x01 ∷ 0xE0 ∷ 0x00 ∷ 0x0C ∷ 0x80 ∷ 0x80 ∷ 0x05 ∷ 0x21 ∷ 0x00 ∷ 0x01 ∷ 0x84 ∷ 0xD1
    ∷ 0x00 ∷ 0x00 ∷ 0x01 ∷ 0x00 ∷ []) ∷ []

-- what slot 3 of the first plan and slot 1 of the second carry
abbrev pub sound_contents : List Content
sound_contents =
    PayloadContent 258 0 Begins (0x00 ∷ 0x00 ∷ 0x01 ∷ 0xC0 ∷ 0x00 ∷ 0x0E ∷ 0x80 ∷ 0x80 ∷ 0x05 ∷ 0x21 ∷ 0x00 ∷ 0x01 ∷ 0x4E ∷ 0x21
    ∷ 0x0A ∷ 0x0B ∷ 0x0C ∷ 0x14 ∷ 0x15 ∷ 0x16 ∷ [])
    ∷ PayloadContent 258 1 Begins (0x00 ∷ 0x00 ∷ 0x01 ∷ 0xC0 ∷ 0x00 ∷ 0x0E ∷ 0x80 ∷ 0x80 ∷ 0x05 ∷ 0x21 ∷ 0x00 ∷ 0x01 ∷ 0x84 ∷ 0xD1
    ∷ 0x1E ∷ 0x1F ∷ 0x20 ∷ 0x28 ∷ 0x29 ∷ 0x2A ∷ []) ∷ []

pub record WorkedSwitch : Type 0 where
  -- the premises: a description in its ranges, a plan that serves it and one that may follow, and units that are accepted, as a job and as what
  -- their streams declare
  pub in_range : IsInRange video_service
  pub serving : IsServing video_service first_plan
  pub switchable : IsSwitchable video_service first_plan second_plan
  pub promised : Promised worked_switch.description worked_switch.schedule
  pub accepted : first_refused worked_switch (capacity_for all_units) [] all_units ≡ None
  pub kept : UnitsKept worked_switch (λ k. units_of k all_units)
  -- every unit is due in the run, and is sent in it, of each stream one by the first plan and one by the second
  pub due : All (IsDue video_service 13) (pictures ++ sounds)
  pub video_sent : map (content_at worked_switch (λ k. units_of k all_units)) (2 ∷ 8 ∷ []) ≡ video_contents
  pub sound_sent : map (content_at worked_switch (λ k. units_of k all_units)) (3 ∷ 6 ∷ []) ≡ sound_contents
  -- the access units of sound cut these units as their stream declares
  pub cut : CutsUnits worked_switch sound_stream sound_framing sounds sound_packets
  -- the conclusion, and of it the main buffer of sound at every moment, the buffers of video, which are empty at least once in each second, and when
  -- the bytes of video come into the first of them
  pub headline : Headline worked_switch (λ k. units_of k all_units) 13 switch_bytes
  pub frames : (x : ℕ) → framed_fullness 100000 2000000 x 3500 sound_packets (pes_left 100000 2000000 0 (packets_on 258 switch_bytes)) ≤ 300
  pub video : VideoKept worked_switch video_stream video_buffer pictures 13 switch_bytes
  pub transport_empties : IsEmptyEachSecond 100000 1200000 (λ x. tb_fullness 100000 1200000 x (slots_of (packets_on 256 switch_bytes)))
  pub multiplexing_empties : IsEmptyEachSecond 100000 (1200000 * 1000000)
      (λ x. multiplexing_fullness 100000 1200000 1000000 x (packets_on 256 switch_bytes))
  pub waits : WaitsAtMost 90000 100000 1200000 (timed_pes_packets 224 0 pictures) (pes_entered 1200000 (packets_on 256 switch_bytes))
  pub measured : MeasuresWell worked_switch all_units switch_bytes
