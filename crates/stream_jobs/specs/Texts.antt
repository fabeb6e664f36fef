-- The description of a job as text.
use Rattle.std.specs.Prelude.{ℕ, ◌-◌, ◌^◌, ◌==◌, min, if◌then◌else◌, List, ◌++◌, flat_map, length, take, zip, Option, Some, None, option_map}
use Rattle.dvb_tables.specs.RunningStates.{status_code}
use Rattle.dvb_tables.specs.declared.running_status.RunningStatus.{RunningStatus}
use Rattle.job_text.specs.DescriptionParts.{FramingPartView, HeadingView, ProgramPartView, StreamPartView}
use Rattle.job_text.specs.Texts.{heading_text, network_if_any, program_text, stream_text}
use Rattle.job_programs.specs.Information.{NamedServiceView}
use Rattle.stream_choice.specs.declared.frame_counts.FrameCounts.{FrameCounts}
use Rattle.job_units.specs.declared.declarations.StreamChoice.{StreamChoice}
use Rattle.job_units.specs.Declarations.{UnitCountsView, said_profile}
use Rattle.job_programs.specs.JobPrograms.{JobProgramView}
use Rattle.job_inputs.specs.JobInput.{JobInputView}
use Rattle.job_programs.specs.JobOptions.{JobOptionsView}
use Rattle.job_programs.specs.JobTables.{tables_text}
use Rattle.job_programs.specs.JobStreams.{TimedStreamView}
use Rattle.job_units.specs.Moments.{declared_limit}
use Rattle.job_programs.specs.Events.{events_text}
use Rattle.stream_jobs.specs.SharedClocks.{own_clock, shared_clock, sharing}
use Rattle.stream_jobs.specs.Transponders.{is_transponder}

-- 1. The head: at a rate in bits a second, a number of 32 bits; with the PID of the shared clock, if there is one

unfoldable pub heading_of : List ℕ → JobInputView → ℕ → HeadingView
heading_of pids input rate = record {
  rate = min rate (2 ^ 32 - 1);
  start = input.information.start;
  base0 = input.base0;
  transport_stream_id = input.information.transport_stream_id;
  original_network_id = input.information.original_network_id;
  sdt = input.information.sdt;
  tdt = input.information.tdt;
  transponder = is_transponder input;
  clock_pid = shared_clock pids;
}

-- 2. Programs, each with its service; its status, if it is not 4 (running), which a description says without the key

abbrev pub said_status : RunningStatus → Option ℕ
said_status s = if status_code s == 4 then None else Some (status_code s)

unfoldable pub program_with : ℕ → List ℕ → JobProgramView → NamedServiceView → ProgramPartView
program_with pcr_limit pids p s = record {
  number = p.number;
  pmt_pid = p.map_pid;
  pcr_pid = own_clock pids p;
  pcr_limit = pcr_limit;
  descriptors = p.descriptors;
  running_status = said_status s.running_status;
  service_type = s.service_type;
  provider = s.provider;
  name = s.name;
  service_descriptors = s.descriptors;
}

-- beside its service
abbrev pub program_part : ℕ → List ℕ → JobProgramView × NamedServiceView → ProgramPartView
program_part pcr_limit pids p = program_with pcr_limit pids p.0 p.1

-- 3. Streams

-- the access units of a stream's units: sums of the last 1, 2, .. of them, up to all but one
abbrev pub declared_sums : FrameCounts → List ℕ
declared_sums f = take (min (length f.left) (f.frames - 1)) f.left

abbrev pub framing_part : FrameCounts → FramingPartView
framing_part f = record { frames = f.frames; frame = f.frame; rest = f.rest; left = declared_sums f }

unfoldable pub stream_part : TimedStreamView × (UnitCountsView × StreamChoice) → StreamPartView
stream_part s = record {
  program = s.0.program;
  pid = s.0.pid;
  stream_id = s.0.stream_id;
  stream_type = s.0.stream_type;
  interval = s.1.0.needs.interval;
  size = s.1.0.needs.size;
  lead = s.1.1.choice.lead;
  pts_limit = declared_limit s.0.stream_type s.0.descriptors s.0.units;
  rx = s.1.0.needs.rx;
  main = s.1.0.needs.main;
  descriptors = s.0.descriptors;
  allowance = s.1.1.choice.allowance;
  shared_with = s.0.shared_with;
  multiplexing = s.1.1.multiplexing;
  framing = option_map framing_part s.1.1.framing;
  said = said_profile s.0;
}

-- 4. The whole: the lines of private tables (`JobTables` of `job_programs`) come last

abbrev pub program_lines : ℕ → List ℕ → JobProgramView × NamedServiceView → List ℕ
program_lines pcr_limit pids p = program_text (program_part pcr_limit pids p)

abbrev pub programs_text : ℕ → List ℕ → List JobProgramView → List NamedServiceView → List ℕ
programs_text pcr_limit pids programs services = flat_map (program_lines pcr_limit pids) (zip programs services)

abbrev pub stream_lines : TimedStreamView × (UnitCountsView × StreamChoice) → List ℕ
stream_lines s = stream_text (stream_part s)

abbrev pub streams_text : List TimedStreamView → List UnitCountsView → List StreamChoice → List ℕ
streams_text streams unit_counts choices = flat_map stream_lines (zip streams (zip unit_counts choices))

unfoldable pub description_text : JobOptionsView → JobInputView → ℕ → List ℕ
description_text options input rate =
    heading_text (heading_of (sharing options.clock input) input rate)
    ++ (events_text input.information.events
    ++ (network_if_any input.information.network
    ++ (programs_text options.pcr_limit (sharing options.clock input) input.programs input.information.services
    ++ (streams_text input.streams input.unit_counts input.choices ++ tables_text input.streams input.tables))))
