-- A small stream from which a job is made, and the input of this job: so the laws of jobs are of something.
use Rattle.std.specs.Prelude.{◌≡◌, ℕ, false, true, List, [], ◌∷◌, ◌++◌, replicate, None, Some, Ok, codes}
use Rattle.dvb_tables.specs.declared.running_status.RunningStatus.TheVariants.{Running}
use Rattle.pes_packet.specs.AccessUnits.{AccessUnit}
use Rattle.pes_packet.specs.Marks.{no_flags, no_marks}
use Rattle.pes_packet.specs.declared.reading.PesHeader.{PesHeader}
use Rattle.pes_packet.specs.declared.time_stamps.Stamps.TheVariants.{Pts}
use Rattle.pid_findings.specs.Views.{FindingView, IsPes, IsSection}
use Rattle.pid_findings.specs.declared.finding.Kind.TheVariants.{Pes, Table}
use Rattle.demux.specs.Stream.{finished, pushed, start}
use Rattle.unit_timing.specs.declared.allowance.Allowance.TheVariants.{Groups as UnitGroups}
use Rattle.laws_run.specs.WorkedBytes.{pat_packet, pmt_packet, unit_packet, worked_pat, worked_pmt}
use Rattle.given_values.specs.declared.clock_base.ClockBase.TheVariants.{Lasting}
use Rattle.given_values.specs.declared.clock_sharing.ClockSharing.TheVariants.{WithoutVideo}
use Rattle.given_values.specs.declared.declare_by.DeclareBy.TheVariants.{Groups}
use Rattle.job_programs.specs.JobOptions.{JobOptionsView}
use Rattle.job_programs.specs.JobPrograms.{JobProgramView}
use Rattle.job_programs.specs.JobStreams.{TimedStreamView}
use Rattle.job_programs.specs.Information.{JobInformationView}
use Rattle.job_programs.specs.declared.program_clock.ProgramClock.TheVariants.{References}
use Rattle.job_units.specs.Declarations.{UnitCountsView}
use Rattle.job_units.specs.declared.declarations.StreamChoice.{StreamChoice}
use Rattle.job_inputs.specs.JobInput.{JobInputView, job_input}

-- 1. The stream: packets of a PAT, of a PMT, and of two units of sound, and what a demultiplexer finds in them

-- the second unit: four bytes with a PTS of 12415, 60.2 ms after the first
abbrev pub second_pes : List ℕ
second_pes = 0x00 ∷ 0x00 ∷ 0x01 ∷ 0xC0 ∷ 0x00 ∷ 0x0C ∷ 0x80 ∷ 0x80 ∷ 0x05 ∷ 0x21 ∷ 0x00 ∷ 0x01 ∷ 0x60 ∷ 0xFF ∷ 0x32 ∷ 0x3C ∷ 0x46 ∷ 0x50 ∷ []

abbrev pub second_packet : List ℕ
second_packet = 0x47 ∷ 0x41 ∷ 0x00 ∷ 0x31 ∷ 0xA5 ∷ 0x00 ∷ replicate 164 0xFF ++ second_pes

abbrev pub stream_bytes : List ℕ
stream_bytes = pat_packet 0 ++ (pmt_packet 0 ++ (unit_packet ++ second_packet))

abbrev pub section_found : ℕ → ℕ → ℕ → List ℕ → FindingView
section_found packet pid table_id bytes = record { packet = packet; pid = Some pid; begun = Some (packet, Table table_id); what = IsSection bytes }

-- stream_id 0xC0, 12 bytes after PES_packet_length, and a PTS
abbrev pub header_with : ℕ → PesHeader
header_with pts = record { id = 0xC0; len = 12; stamps = Pts pts; flags = no_flags; data_length = 5; private_data = None }

abbrev pub unit_found : ℕ → ℕ → List ℕ → FindingView
unit_found packet pts bytes =
    record { packet = packet; pid = Some 0x100; begun = Some (packet, Pes true false); what = IsPes (header_with pts) false bytes }

abbrev pub first_bytes : List ℕ
first_bytes = 0x0A ∷ 0x14 ∷ 0x1E ∷ 0x28 ∷ []

abbrev pub second_bytes : List ℕ
second_bytes = 0x32 ∷ 0x3C ∷ 0x46 ∷ 0x50 ∷ []

abbrev pub stream_findings : List FindingView
stream_findings = section_found 0 0x00 0x00 worked_pat ∷ section_found 1 0x1000 0x02 worked_pmt ∷ unit_found 2 7000 first_bytes
    ∷ unit_found 3 12415 second_bytes ∷ []

-- 2. The input of the job

-- units are declared by groups; no other option
abbrev pub worked_options : JobOptionsView
worked_options = record {
  rate = None;
  start = None;
  pcr_limit = 40;
  lead = 90_000;
  declare_by = Groups;
  make_dts = false;
  strict = false;
  lenient = false;
  base = Lasting;
  clock = WithoutVideo;
  network = None;
  names = [];
  programs = [];
  without = [];
  buffers = [];
  mark_access = false;
  aligned = [];
  joined = false;
  frames = None;
}

-- no table of EN 300 468: a moment by default, an original_network_id for private use, and a service of digital television without a name
abbrev pub worked_information : JobInformationView
worked_information = record {
  transport_stream_id = 1;
  original_network_id = 0xFF01;
  start = codes "2000-01-01T00:00:00";
  tdt = false;
  sdt = false;
  network = None;
  events = [];
  services = record { running_status = Running; service_type = 1; provider = []; name = []; descriptors = None } ∷ [];
}

-- program 1, its map and its clock references on the PIDs that they have in the stream
abbrev pub worked_program : JobProgramView
worked_program = record { number = 1; map_pid = 0x1000; pcr_pid = 0x101; clock = References 0x101; descriptors = [] }

-- the first unit is due 2 s after the begin
abbrev pub due_unit : ℕ → List ℕ → AccessUnit
due_unit dts bytes = record { dts = dts; pts = dts; marks = no_marks; bytes = bytes }

-- MPEG-1 audio
abbrev pub worked_stream : TimedStreamView
worked_stream = record {
  program = 1;
  pid = 0x100;
  stream_type = 3;
  stream_id = 0xC0;
  descriptors = [];
  shared_with = [];
  units = due_unit 180_000 first_bytes ∷ due_unit 185_415 second_bytes ∷ [];
}

-- the buffers of sound (ISO/IEC 13818-1, 2.4.2.3), and two units of 4 bytes in a packet each
abbrev pub worked_counts : UnitCountsView
worked_counts = record {
  needs = record { interval = 5_415; size = 4; rx = 2_000_000; main = 3_584 };
  multiplexing = None;
  framing = None;
  max_group_packets = 1 ∷ 2 ∷ [];
}

-- a packet for each unit, at most 167.5 ms before the unit is due
abbrev pub worked_choice : StreamChoice
worked_choice = record { choice = record { allowance = UnitGroups 1 1; lead = 15_076; share = 203_049_239 }; multiplexing = None; framing = None }

-- one program and one stream, without a warning
abbrev pub worked_input : JobInputView
worked_input = record {
  information = worked_information;
  base0 = 0;
  programs = worked_program ∷ [];
  streams = worked_stream ∷ [];
  unit_counts = worked_counts ∷ [];
  choices = worked_choice ∷ [];
  tables = [];
  warnings = [];
}

-- 3. The law

pub record WorkedJob : Type 0 where
  -- the four packets give these findings
  pub found : (finished (pushed start stream_bytes)).found ≡ stream_findings
  -- these findings give this input
  pub input : job_input worked_options 4 stream_findings ≡ Ok worked_input
