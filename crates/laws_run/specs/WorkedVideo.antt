-- A small service and two plans that serve it in turn: video with a multiplexing buffer and sound in PES packets of two access units,
-- at 100,000 bits a second, where a slot lasts 15.04 ms, and periods of five slots.
use Rattle.std.specs.Prelude.{true, false, [], ◌∷◌, None, Some}
use Rattle.unit_timing.specs.declared.allowance.Allowance.TheVariants.{Groups}
use Rattle.unit_timing.specs.declared.framing.FrameDeclaration.{FrameDeclaration}
use Rattle.unit_timing.specs.declared.framing.LastBytes.TheVariants.{Each}
use Rattle.unit_timing.specs.declared.multiplexing_buffer.MultiplexingBuffer.{MultiplexingBuffer}
use Rattle.description_parts.specs.Described.{Described, DescribedProgram, DescribedStream}
use Rattle.slot_plan.specs.declared.slot.Slot.TheVariants.{Stream, Pcr, Table}
use Rattle.slot_plan.specs.declared.certificate.StreamEntry.{StreamEntry}
use Rattle.slot_plan.specs.declared.certificate.ProgramEntry.{ProgramEntry}
use Rattle.slot_plan.specs.Planned.{Planned}

-- units of at most 100 bytes, a packet each, 77.8 ms apart; a transport buffer, a multiplexing buffer and an elementary stream buffer
abbrev pub video_buffer : MultiplexingBuffer
video_buffer = record { rbx = 1000000; size = 300 }

abbrev pub video_stream : DescribedStream
video_stream = record {
  program = 1;
  pid = 256;
  stream_id = 224;
  stream_type = 2;
  interval = 7000;
  size = 100;
  lead = 10000;
  pts_limit = 90000;
  rx = 1200000;
  main = 400;
  tag = None;
  language = None;
  descriptors = [];
  allowance = Groups 1 1;
  shared_with = [];
  multiplexing = Some video_buffer;
  framing = None;
}

-- units of at most 100 bytes, of two access units each that are at most 38.9 ms apart, the second of at most 40 bytes; the next unit is
-- as far from it
abbrev pub sound_framing : FrameDeclaration
sound_framing = record { frames = 2; frame = 3500; rest = 3500; left = Each 40 }

abbrev pub sound_stream : DescribedStream
sound_stream = record {
  program = 1;
  pid = 258;
  stream_id = 192;
  stream_type = 3;
  interval = 7000;
  size = 100;
  lead = 10000;
  pts_limit = 90000;
  rx = 2000000;
  main = 300;
  tag = None;
  language = None;
  descriptors = [];
  allowance = Groups 1 1;
  shared_with = [];
  multiplexing = None;
  framing = Some sound_framing;
}

abbrev pub video_program : DescribedProgram
video_program = record {
  number = 1;
  pmt_pid = 4096;
  pcr_pid = 257;
  has_clock = true;
  pcr_limit = 100;
  pmt_packets = 1;
  is_on_air = true;
  pmt_version = 0;
  eit_count = 0;
  descriptors = [];
  service_descriptors = 72 ∷ 3 ∷ 1 ∷ 0 ∷ 0 ∷ [];
  running_status = 4;
  free_ca = false;
  eit_schedule = false;
  events = [];
}

abbrev pub video_service : Described
video_service = record {
  rate = 100000;
  start = 0;
  base0 = 0;
  transport_stream_id = 1;
  original_network_id = 1;
  has_sdt = false;
  has_tdt = false;
  is_transponder = false;
  clock_pid = None;
  has_eit = false;
  rooms = record { pat = 1; sdt = 1; nit = 1; eit = 2 };
  versions = record { pat = 0; sdt = 0; nit = 0 };
  network = None;
  programs = video_program ∷ [];
  streams = video_stream ∷ sound_stream ∷ [];
  tables = [];
}

-- what both plans claim of the work in the buffers
abbrev pub video_claim : StreamEntry
video_claim = record { spread = 0; start = 0; peak = 18800000; multiplexing = Some (record { start = 0; peak = 18800000 }) }

abbrev pub sound_claim : StreamEntry
sound_claim = record { spread = 0; start = 0; peak = 18800000; multiplexing = None }

abbrev pub tables_claim : ProgramEntry
tables_claim = record { transport_start = 0; transport_peak = 18800000; system_start = 0; system_peak = 22560000 }

-- the PAT, the PMT, a packet of video, a packet of sound, a clock reference
abbrev pub first_plan : Planned
first_plan = record {
  slots = Table 0 ∷ Table 1 ∷ Stream 0 ∷ Stream 1 ∷ Pcr 0 ∷ [];
  certificate = record { streams = video_claim ∷ sound_claim ∷ []; programs = tables_claim ∷ [] };
}

-- the same in another order
abbrev pub second_plan : Planned
second_plan = record {
  slots = Table 0 ∷ Stream 1 ∷ Table 1 ∷ Stream 0 ∷ Pcr 0 ∷ [];
  certificate = record { streams = video_claim ∷ sound_claim ∷ []; programs = tables_claim ∷ [] };
}
