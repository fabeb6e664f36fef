-- The parts of a service description: numbers, and texts and descriptors as lists.
use Rattle.std.specs.Prelude.{ℕ, Bool, List, Option, option_map, map}
use Rattle.unit_timing.specs.declared.allowance.Allowance.{Allowance}
use Rattle.unit_timing.specs.declared.multiplexing_buffer.MultiplexingBuffer.{MultiplexingBuffer}
use Rattle.dvb_tables.specs.TransportStreams.{TransportStreamView}
use Rattle.stream_coding.specs.declared.profiles.ProfileLevel.{ProfileLevel}
use Rattle.job_text.specs.declared.event_part.EventPart.{EventPart}
use Rattle.job_text.specs.declared.framing_part.FramingPart.{FramingPart}
use Rattle.job_text.specs.declared.heading.Heading.{Heading}
use Rattle.job_text.specs.declared.network_part.NetworkPart.{NetworkPart}
use Rattle.job_text.specs.declared.program_part.ProgramPart.{ProgramPart}
use Rattle.job_text.specs.declared.stream_part.StreamPart.{StreamPart}
use Rattle.job_text.specs.declared.table_part.TablePart.{TablePart}

pub record HeadingView : Type 0 where
  pub rate : ℕ
  pub start : List ℕ
  pub base0 : ℕ
  pub transport_stream_id : ℕ
  pub original_network_id : ℕ
  pub sdt : Bool
  pub tdt : Bool
  pub transponder : Bool
  pub clock_pid : Option ℕ

pub record EventPartView : Type 0 where
  pub program : ℕ
  pub id : ℕ
  pub start : List ℕ
  pub duration : ℕ
  pub language : List ℕ
  pub name : List ℕ
  pub text : List ℕ
  pub descriptors : Option (List ℕ)

pub record NetworkPartView : Type 0 where
  pub id : ℕ
  pub name : List ℕ
  pub network_descriptors : Option (List ℕ)
  pub descriptors : List ℕ
  pub streams : List TransportStreamView

pub record ProgramPartView : Type 0 where
  pub number : ℕ
  pub pmt_pid : ℕ
  pub pcr_pid : Option ℕ
  pub pcr_limit : ℕ
  pub descriptors : List ℕ
  pub running_status : Option ℕ
  pub service_type : ℕ
  pub provider : List ℕ
  pub name : List ℕ
  pub service_descriptors : Option (List ℕ)

pub record FramingPartView : Type 0 where
  pub frames : ℕ
  pub frame : ℕ
  pub rest : ℕ
  pub left : List ℕ

pub record StreamPartView : Type 0 where
  pub program : ℕ
  pub pid : ℕ
  pub stream_id : ℕ
  pub stream_type : ℕ
  pub interval : ℕ
  pub size : ℕ
  pub lead : ℕ
  pub pts_limit : Option ℕ
  pub rx : ℕ
  pub main : ℕ
  pub descriptors : List ℕ
  pub allowance : Allowance
  pub shared_with : List ℕ
  pub multiplexing : Option MultiplexingBuffer
  pub framing : Option FramingPartView
  pub said : ProfileLevel

pub record TablePartView : Type 0 where
  pub pid : ℕ
  pub limit : ℕ
  pub sections : List (List ℕ)
  pub program : ℕ
  pub stream_type : ℕ
  pub descriptors : List ℕ

-- the parts of the code as lists and numbers
abbrev pub heading_view : Heading → HeadingView
heading_view h = record {
  rate = h.rate;
  start = h.start.now;
  base0 = h.base0;
  transport_stream_id = h.transport_stream_id;
  original_network_id = h.original_network_id;
  sdt = h.sdt;
  tdt = h.tdt;
  transponder = h.transponder;
  clock_pid = h.clock_pid;
}

abbrev pub event_view : EventPart → EventPartView
event_view e = record {
  program = e.program;
  id = e.id;
  start = e.start.now;
  duration = e.duration;
  language = e.language.now;
  name = e.name.now;
  text = e.text.now;
  descriptors = option_map (λ b. b.now) e.descriptors;
}

abbrev pub network_view : NetworkPart → NetworkPartView
network_view n = record {
  id = n.id;
  name = n.name.now;
  network_descriptors = option_map (λ b. b.now) n.network_descriptors;
  descriptors = n.descriptors.now;
  streams = n.streams.now;
}

abbrev pub program_view : ProgramPart → ProgramPartView
program_view p = record {
  number = p.number;
  pmt_pid = p.pmt_pid;
  pcr_pid = p.pcr_pid;
  pcr_limit = p.pcr_limit;
  descriptors = p.descriptors.now;
  running_status = p.running_status;
  service_type = p.service_type;
  provider = p.provider.now;
  name = p.name.now;
  service_descriptors = option_map (λ b. b.now) p.service_descriptors;
}

abbrev pub framing_view : FramingPart → FramingPartView
framing_view f = record { frames = f.frames; frame = f.frame; rest = f.rest; left = f.left.now }

abbrev pub stream_view : StreamPart → StreamPartView
stream_view s = record {
  program = s.program;
  pid = s.pid;
  stream_id = s.stream_id;
  stream_type = s.stream_type;
  interval = s.interval;
  size = s.size;
  lead = s.lead;
  pts_limit = s.pts_limit;
  rx = s.rx;
  main = s.main;
  descriptors = s.descriptors.now;
  allowance = s.allowance;
  shared_with = s.shared_with.now;
  multiplexing = s.multiplexing;
  framing = option_map framing_view s.framing;
  said = s.said;
}

abbrev pub table_view : TablePart → TablePartView
table_view t = record {
  pid = t.pid;
  limit = t.limit;
  sections = map (λ s. s.items) t.sections.now;
  program = t.program;
  stream_type = t.stream_type;
  descriptors = t.descriptors.now;
}
