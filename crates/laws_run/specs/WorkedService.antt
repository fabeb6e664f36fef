-- A small service and a plan that serves it: one stream at 100,000 bits a second, where a slot lasts 15.04 ms, and a period of four slots.
use Rattle.std.specs.Prelude.{true, false, [], ◌∷◌, None}
use Rattle.unit_timing.specs.declared.allowance.Allowance.TheVariants.{Groups}
use Rattle.description_parts.specs.Described.{Described, DescribedProgram, DescribedStream}
use Rattle.slot_plan.specs.declared.slot.Slot.TheVariants.{Stream, Pcr, Table}
use Rattle.slot_plan.specs.Planned.{Planned}

-- units of at most 100 bytes, a packet each, 60.2 ms apart
abbrev pub worked_stream : DescribedStream
worked_stream = record {
  program = 1;
  pid = 256;
  stream_id = 192;
  stream_type = 3;
  interval = 5415;
  size = 100;
  lead = 7000;
  pts_limit = 90000;
  rx = 2000000;
  main = 512;
  tag = None;
  language = None;
  descriptors = [];
  allowance = Groups 1 1;
  shared_with = [];
  multiplexing = None;
  framing = None;
}

abbrev pub worked_program : DescribedProgram
worked_program = record {
  number = 1;
  pmt_pid = 4096;
  pcr_pid = 257;
  has_clock = true;
  pcr_limit = 100;
  pmt_packets = 1;
  is_on_air = true;
  pmt_version = 0;
  eit_count = 0;
  descriptors = [];
  service_descriptors = 72 ∷ 3 ∷ 2 ∷ 0 ∷ 0 ∷ [];
  running_status = 4;
  free_ca = false;
  eit_schedule = false;
  events = [];
}

abbrev pub worked_service : Described
worked_service = record {
  rate = 100000;
  start = 0;
  base0 = 0;
  transport_stream_id = 1;
  original_network_id = 1;
  has_sdt = false;
  has_tdt = false;
  is_transponder = false;
  clock_pid = None;
  has_eit = false;
  rooms = record { pat = 1; sdt = 1; nit = 1; eit = 2 };
  versions = record { pat = 0; sdt = 0; nit = 0 };
  network = None;
  programs = worked_program ∷ [];
  streams = worked_stream ∷ [];
  tables = [];
}

-- the PAT, the PMT, a packet of the stream, a clock reference; and what it claims of the work in its buffers
abbrev pub worked_plan : Planned
worked_plan = record {
  slots = Table 0 ∷ Table 1 ∷ Stream 0 ∷ Pcr 0 ∷ [];
  certificate = record {
    streams = record { spread = 0; start = 0; peak = 18800000; multiplexing = None } ∷ [];
    programs = record { transport_start = 0; transport_peak = 18800000; system_start = 0; system_peak = 22560000 } ∷ [];
  };
}
