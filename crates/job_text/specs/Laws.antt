-- The laws of this crate.
use Rattle.std.specs.Prelude.{◌≡◌, ◌<◌, ◌^◌, ℕ, true, List, ◌++◌, map, All, IfSome, Option, Some, option_map}
use Rattle.std.specs.List.{flat_map, list_all}
use Rattle.toml.specs.Data.{Data}
use Rattle.toml.specs.Parse.{parse_document}
use Rattle.dvb_tables.specs.TransportStreams.{TransportStreamView}
use Rattle.unit_timing.specs.declared.allowance.Allowance.{Allowance}
use Rattle.unit_timing.specs.declared.allowance.Allowance.TheVariants.{Groups, Pace}
use Rattle.unit_timing.specs.declared.multiplexing_buffer.MultiplexingBuffer.{MultiplexingBuffer}
use Rattle.job_text.specs.DescriptionParts.{EventPartView, FramingPartView, HeadingView, NetworkPartView, ProgramPartView, StreamPartView, TablePartView}
use Rattle.job_text.specs.Notes.{is_named, is_shown, name_note, note_of, type_note}
use Rattle.stream_coding.specs.declared.profiles.ProfileLevel.{ProfileLevel}
use Rattle.job_text.specs.Documents.{document, event_table, network_table, program_table, stream_table, table_table}
use Rattle.job_text.specs.Texts.{event_text, heading_text, network_if_any, program_text, stream_text, table_text}

-- TOML's numbers have 64 bits with a sign
abbrev pub Fits : ℕ → Type 0
Fits n = n < 2 ^ 63

-- the numbers of a heading are TOML's
pub record FitsHeading (h : HeadingView) : Type 0 where
  pub base0 : Fits h.base0
  pub clock_pid : IfSome h.clock_pid Fits
  pub original_network_id : Fits h.original_network_id
  pub rate : Fits h.rate
  pub transport_stream_id : Fits h.transport_stream_id

-- the numbers of an event are TOML's
pub record FitsEvent (e : EventPartView) : Type 0 where
  pub duration : Fits e.duration
  pub id : Fits e.id
  pub program : Fits e.program

-- the numbers of another transport stream of a network are TOML's
pub record FitsNetworkStream (s : TransportStreamView) : Type 0 where
  pub transport_stream_id : Fits s.transport_stream_id
  pub original_network_id : Fits s.original_network_id

-- the numbers of a network, if there is one, are TOML's
pub record FitsNetworkPart (n : NetworkPartView) : Type 0 where
  pub id : Fits n.id
  pub streams : All FitsNetworkStream n.streams

abbrev pub FitsNetwork : Option NetworkPartView → Type 0
FitsNetwork n = IfSome n FitsNetworkPart

-- the numbers of a program are TOML's
pub record FitsProgram (p : ProgramPartView) : Type 0 where
  pub number : Fits p.number
  pub pcr_limit : Fits p.pcr_limit
  pub pcr_pid : IfSome p.pcr_pid Fits
  pub pmt_pid : Fits p.pmt_pid
  pub running_status : IfSome p.running_status Fits
  pub service_type : Fits p.service_type

-- the numbers of a stream's groups or pace are TOML's
abbrev pub FitsAllowance : Allowance → Type 0
FitsAllowance (Groups units packets) = Fits units × Fits packets
FitsAllowance (Pace burst pace) = Fits burst × Fits pace

-- the numbers of its multiplexing buffer are TOML's
abbrev pub FitsMultiplexing : Option MultiplexingBuffer → Type 0
FitsMultiplexing m = IfSome m (λ m. Fits m.rbx × Fits m.size)

-- the numbers of its access units are TOML's
pub record FitsFrames (f : FramingPartView) : Type 0 where
  pub frames : Fits f.frames
  pub frame : Fits f.frame
  pub rest : Fits f.rest
  pub left : All Fits f.left

abbrev pub FitsFraming : Option FramingPartView → Type 0
FitsFraming f = IfSome f FitsFrames

pub record FitsStream (s : StreamPartView) : Type 0 where
  pub allowance : FitsAllowance s.allowance
  pub shared_with : All Fits s.shared_with
  pub multiplexing : FitsMultiplexing s.multiplexing
  pub framing : FitsFraming s.framing
  pub stream_id : Fits s.stream_id
  pub interval : Fits s.interval
  pub lead : Fits s.lead
  pub pts_limit : IfSome s.pts_limit Fits
  pub main : Fits s.main
  pub pid : Fits s.pid
  pub program : Fits s.program
  pub rx : Fits s.rx
  pub size : Fits s.size
  pub stream_type : Fits s.stream_type

-- the numbers of a table are TOML's
pub record FitsTable (t : TablePartView) : Type 0 where
  pub limit : Fits t.limit
  pub pid : Fits t.pid
  pub program : Fits t.program
  pub stream_type : Fits t.stream_type

-- the texts of a heading, of events, of a network, of programs, of streams and of tables are one document
abbrev pub TextsAreRead : Type 0
TextsAreRead =
    (h : HeadingView) (es : List EventPartView) (n : Option NetworkPartView) (ps : List ProgramPartView) (ss : List StreamPartView) (ts : List TablePartView)
    → FitsHeading h → All FitsEvent es → FitsNetwork n → All FitsProgram ps → All FitsStream ss → All FitsTable ts
    → parse_document
    (heading_text h ++ (flat_map event_text es ++ (network_if_any n ++ (flat_map program_text ps ++ (flat_map stream_text ss ++ flat_map table_text ts)))))
    ≡ Some (document h (map event_table es) (option_map network_table n) (map program_table ps) (map stream_table ss) (map table_table ts))

-- the comments beside a value and beside a stream_type are printable ASCII, and those beside descriptors have no control character
abbrev pub NotesAreShown : Type 0
NotesAreShown =
    ((key : List ℕ) (value : Data) → list_all is_shown (note_of key value) ≡ true)
    × ((stream_type : ℕ) (said : ProfileLevel) → list_all is_shown (type_note stream_type said) ≡ true)
    × ((name : List ℕ) → list_all is_named (name_note name) ≡ true)
