-- An input of a job beside the inputs before it: a program_number or a PID that an earlier input has is replaced by a new one.
use Rattle.std.specs.Prelude.{ℕ, List, ◌++◌, map, Option, option_map, option_and_then}
use Rattle.job_text.specs.DescriptionParts.{EventPartView}
use Rattle.job_programs.specs.Information.{JobInformationView}
use Rattle.job_inputs.specs.JobInput.{JobInputView}
use Rattle.job_programs.specs.JobPrograms.{JobProgramView}
use Rattle.job_programs.specs.JobStreams.{TimedStreamView}
use Rattle.job_programs.specs.JobTables.{JobTableView}
use Rattle.job_inputs.specs.NewNumbers.{becomes, new_numbers}
use Rattle.job_inputs.specs.declared.new_numbers.NewNumber.{NewNumber}

-- the number of an input, from 0 on, and what the numbers of its programs and its PIDs become
pub record RenumberingView : Type 0 where
  pub input : ℕ
  pub programs : List NewNumber
  pub pids : List NewNumber

-- 1. The numbers of an input

abbrev pub program_numbers : JobInputView → List ℕ
program_numbers m = map (λ p. p.number) m.programs

-- the PIDs of maps, of streams and of private sections, which the input had; and the PIDs of clock references, which it was given
abbrev pub found_pids : JobInputView → List ℕ
found_pids m = map (λ p. p.map_pid) m.programs ++ (map (λ s. s.pid) m.streams ++ map (λ t. t.pid) m.tables)

abbrev pub all_pids : JobInputView → List ℕ
all_pids m = found_pids m ++ map (λ p. p.pcr_pid) m.programs

-- the new program_numbers of an input, from 1 on, beside the inputs before it; and its new PIDs, from 32 on
abbrev pub new_programs : JobInputView → JobInputView → Option (List NewNumber)
new_programs before m = new_numbers 1 (program_numbers before) (program_numbers m)

abbrev pub new_pids : JobInputView → JobInputView → Option (List NewNumber)
new_pids before m = new_numbers 32 (all_pids before) (all_pids m)

unfoldable pub renumbering_with : ℕ → List NewNumber → Option (List NewNumber) → Option RenumberingView
renumbering_with input programs pids = option_map (λ p. record { input = input; programs = programs; pids = p }) pids

unfoldable pub renumbering_of : ℕ → JobInputView → JobInputView → Option RenumberingView
renumbering_of input before m = option_and_then (λ programs. renumbering_with input programs (new_pids before m)) (new_programs before m)

-- 2. The input with these

-- a program keeps the clock of its input
unfoldable pub program_with : RenumberingView → JobProgramView → JobProgramView
program_with r p = record {
  number = becomes r.programs p.number;
  map_pid = becomes r.pids p.map_pid;
  pcr_pid = becomes r.pids p.pcr_pid;
  clock = p.clock;
  descriptors = p.descriptors;
}

unfoldable pub stream_with : RenumberingView → TimedStreamView → TimedStreamView
stream_with r s = record {
  program = becomes r.programs s.program;
  pid = becomes r.pids s.pid;
  stream_type = s.stream_type;
  stream_id = s.stream_id;
  descriptors = s.descriptors;
  shared_with = map (becomes r.programs) s.shared_with;
  units = s.units;
}

unfoldable pub table_with : RenumberingView → JobTableView → JobTableView
table_with r t = record {
  program = becomes r.programs t.program;
  pid = becomes r.pids t.pid;
  stream_type = t.stream_type;
  descriptors = t.descriptors;
  sections = t.sections;
  gap = t.gap;
  packets = t.packets;
}

unfoldable pub event_with : RenumberingView → EventPartView → EventPartView
event_with r e = record {
  program = becomes r.programs e.program;
  id = e.id;
  start = e.start;
  duration = e.duration;
  language = e.language;
  name = e.name;
  text = e.text;
  descriptors = e.descriptors;
}

unfoldable pub information_with : RenumberingView → JobInformationView → JobInformationView
information_with r i = record {
  transport_stream_id = i.transport_stream_id;
  original_network_id = i.original_network_id;
  start = i.start;
  tdt = i.tdt;
  sdt = i.sdt;
  network = i.network;
  events = map (event_with r) i.events;
  services = i.services;
}

-- its units, declarations, warnings and sections stay the same
unfoldable pub renumbered : RenumberingView → JobInputView → JobInputView
renumbered r m = record {
  information = information_with r m.information;
  base0 = m.base0;
  programs = map (program_with r) m.programs;
  tables = map (table_with r) m.tables;
  streams = map (stream_with r) m.streams;
  unit_counts = m.unit_counts;
  choices = m.choices;
  warnings = m.warnings;
}
