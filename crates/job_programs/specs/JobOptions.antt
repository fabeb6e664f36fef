-- The options of a job.
use Rattle.std.specs.Prelude.{ℕ, ◌==◌, ◌||◌, not, Bool, List, length, Option}
use Rattle.std.specs.List.{list_any}
use Rattle.psi_tables.specs.declared.pat.programs.Program.{Program}
use Rattle.stream_programs.specs.Streams.{FoundStreamView}
use Rattle.given_values.specs.GivenNames.{NetworkNameView, ServiceNameView}
use Rattle.given_values.specs.declared.clock_base.ClockBase.{ClockBase}
use Rattle.given_values.specs.declared.clock_sharing.ClockSharing.{ClockSharing}
use Rattle.given_values.specs.declared.declare_by.DeclareBy.{DeclareBy}
use Rattle.es_buffers.specs.declared.buffers.PidBuffers.{PidBuffers}

-- the rate in bits a second, if one is asked for; the moment of the first slot as its characters, if it is given; limits in ms and in units
-- of 90 kHz; how the packets of units are declared; whether DTS are made from PTS; whether a stream that can't be carried refuses the
-- input; whether a program is written without a picture or sound that can't be carried; the system clock at the begin of the run; which
-- programs share a clock; the network and the names of services that replace the stream's; the programs to take, none for all; PIDs to
-- leave out; buffers that replace the buffers by coding; whether units at which a decoder may begin are marked; PIDs whose units are
-- aligned; whether the parts of a joined recording come one after another; and the most frames of sound of a PES packet
pub record JobOptionsView : Type 0 where
  pub rate : Option ℕ
  pub start : Option (List ℕ)
  pub pcr_limit : ℕ
  pub lead : ℕ
  pub declare_by : DeclareBy
  pub make_dts : Bool
  pub strict : Bool
  pub lenient : Bool
  pub base : ClockBase
  pub clock : ClockSharing
  pub network : Option NetworkNameView
  pub names : List ServiceNameView
  pub programs : List ℕ
  pub without : List ℕ
  pub buffers : List PidBuffers
  pub mark_access : Bool
  pub aligned : List ℕ
  pub joined : Bool
  pub frames : Option ℕ

unfoldable pub is_among : ℕ → List ℕ → Bool
is_among number numbers = list_any (λ other. other == number) numbers

-- a program is taken
unfoldable pub is_selected_program : List ℕ → Program → Bool
is_selected_program programs p = length programs == 0 || is_among p.program_number programs

-- a stream is not left out
unfoldable pub is_selected_stream : List ℕ → FoundStreamView → Bool
is_selected_stream without s = not (is_among s.pid without)
