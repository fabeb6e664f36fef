-- A small service and its plan, for examples of conditions.
use Rattle.std.specs.Prelude.{ℕ, true, false, List, [], ◌∷◌, ◌++◌, None, Some, codes}
use Rattle.unit_timing.specs.declared.allowance.Allowance.TheVariants.{Groups}
use Rattle.description_parts.specs.Described.{Described, DescribedStream}
use Rattle.slot_plan.specs.declared.slot.Slot.{Slot}
use Rattle.slot_plan.specs.declared.slot.Slot.TheVariants.{Stream, Pcr, Table, Null}
use Rattle.slot_plan.specs.Planned.{Planned, Certified}

-- One audio stream and six tables at 1,504,000 bits a second, which is 1,000 slots a second
abbrev pub base_stream : DescribedStream
base_stream = record {
  program = 1;
  pid = 256;
  stream_id = 192;
  stream_type = 3;
  interval = 2160;
  size = 576;
  lead = 1600;
  pts_limit = 90000;
  rx = 2000000;
  main = 3584;
  tag = None;
  language = None;
  descriptors = [];
  allowance = Groups 1 4;
  shared_with = [];
  multiplexing = None;
  framing = None;
}

abbrev pub base : Described
base = record {
  rate = 1504000;
  start = 750516300;
  base0 = 0;
  transport_stream_id = 1;
  original_network_id = 1;
  has_sdt = true;
  has_tdt = true;
  is_transponder = false;
  clock_pid = None;
  has_eit = false;
  rooms = record { pat = 1; sdt = 1; nit = 1; eit = 2 };
  versions = record { pat = 0; sdt = 0; nit = 0 };
  network = Some (record { id = 1; network_descriptors = 64 ∷ 3 ∷ codes "Net"; descriptors = []; streams = [] });
  programs = (record {
    number = 1;
    pmt_pid = 4096;
    pcr_pid = 257;
    has_clock = true;
    pcr_limit = 40;
    pmt_packets = 1;
    is_on_air = true;
    pmt_version = 0;
    eit_count = 0;
    descriptors = [];
    service_descriptors = 72 ∷ 6 ∷ 2 ∷ 0 ∷ 3 ∷ codes "One";
    running_status = 4;
    free_ca = false;
    eit_schedule = false;
    events = (record {
      id = 7;
      start = 750516300;
      duration = 5400;
      descriptors = 77 ∷ 9 ∷ (codes "eng" ++ (4 ∷ codes "News") ++ 0 ∷ []);
    }) ∷ [];
  }) ∷ [];
  streams = base_stream ∷ [];
  tables = [];
}

abbrev pub every_fourth : ℕ → List Slot
every_fourth n = Stream 0 ∷ Null ∷ Null ∷ Null ∷ []

-- A line of 24 slots after the first line
abbrev pub line : List Slot
line = Stream 0 ∷ Pcr 0 ∷ Null ∷ Null ∷ every_fourth 0 ++ every_fourth 0 ++ every_fourth 0 ++ every_fourth 0 ++ every_fourth 0

abbrev pub first_line : List Slot
first_line = Stream 0 ∷ Pcr 0 ∷ Table 0 ∷ Table 1 ∷ Stream 0 ∷ Table 3 ∷ Table 2 ∷ Table 4 ∷ Stream 0 ∷ Table 5 ∷ Null ∷ Null
    ∷ every_fourth 0 ++ every_fourth 0 ++ every_fourth 0

abbrev pub claims : Certified
claims = record {
  streams = (record { spread = 0; start = 0; peak = 282752000; multiplexing = None }) ∷ [];
  programs = (record { transport_start = 0; transport_peak = 377504000; system_start = 0; system_peak = 550464000 }) ∷ [];
}

abbrev pub base_slots : List Slot
base_slots = first_line ++ line ++ line ++ line ++ line

abbrev pub base_plan : Planned
base_plan = record { slots = base_slots; certificate = claims }
