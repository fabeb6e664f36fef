-- The units of streams at the moments of a run.
use Rattle.std.specs.Prelude.{ℕ, ◌+◌, ◌*◌, ◌%◌, ◌^◌, nat_lt, ◌==◌, Bool, is_none, if◌then◌else◌, List, [], ◌∷◌, length, map, filter, sum_by, slice_get, nat_le}
use Rattle.std.specs.Prelude.{unwrap_or, None, option_map, Result, Ok, Option, Some}
use Rattle.std.specs.List.{list_any}
use Rattle.pes_packet.specs.AccessUnits.{AccessUnit}
use Rattle.pid_findings.specs.Views.{FindingView}
use Rattle.es_units.specs.CarriedUnits.{carried_units}
use Rattle.es_moments.specs.MadeDts.{dts_fault, pts_of}
use Rattle.es_moments.specs.Stamps.{constant_of, first_fault, moved}
use Rattle.es_moments.specs.declared.stamps.StampFault.{StampFault}
use Rattle.job_units.specs.declared.moved_streams.FirstDts.{FirstDts}
use Rattle.job_programs.specs.declared.program_clock.ProgramClock.{ProgramClock}
use Rattle.job_programs.specs.declared.refusal.JobRefusal.{JobRefusal}
use Rattle.job_programs.specs.declared.refusal.JobRefusal.TheVariants as refusals
use Rattle.es_buffers.specs.Stays.{longest_stay}
use Rattle.job_programs.specs.Answers.{unless, each}
use Rattle.job_programs.specs.JobPrograms.{JobProgramView, clock_in}
use Rattle.job_programs.specs.JobTables.{JobTableView}
use Rattle.job_programs.specs.JobStreams.{TimedStreamView, WireStreamView, is_stream_of, JobStreamView}
use Rattle.job_programs.specs.ProgramClocks.{is_same_clock}
use Rattle.es_moments.specs.UnitMoments.{units_at}
use Rattle.es_moments.specs.declared.unit_moments.UnitMoment.{UnitMoment}
use Rattle.es_moments.specs.Declaration.{max_pts_after}
use Rattle.es_moments.specs.WireUnits.{CarriedUnit}

-- 1. When the first unit of a clock is due

-- the bytes of a stream in the program map section of a program that has it (ISO/IEC 13818-1, 2.4.4.8): 5 and its descriptors
unfoldable pub entry_size : ℕ → WireStreamView → ℕ
entry_size number s = if is_stream_of number s then 5 + length s.descriptors else 0

-- the same of sections that are carried
unfoldable pub table_size : ℕ → JobTableView → ℕ
table_size number t = if t.program == number then 5 + length t.descriptors else 0

-- the bytes of the section: 16, the program's descriptors, its streams, and its sections
unfoldable pub map_size : List JobTableView → List WireStreamView → JobProgramView → ℕ
map_size tables streams p = 16 + length p.descriptors + sum_by (entry_size p.number) streams + sum_by (table_size p.number) tables

-- it has more than one packet
unfoldable pub is_long_map : List JobTableView → List WireStreamView → JobProgramView → Bool
is_long_map tables streams p = nat_lt 183 (map_size tables streams p)

-- 2 seconds after the first slot, and half a second more where a map has more than one packet, in units of 90 kHz: a unit may
-- be sent a second before it is due, and before that each table that it needs has come
unfoldable pub earliest : List JobProgramView → List JobTableView → List WireStreamView → ℕ
earliest programs tables streams = if list_any (is_long_map tables streams) programs then 225_000 else 180_000

-- 2. What a clock shows at moment 0

unfoldable pub first_dts : List CarriedUnit → ℕ
first_dts [] = 0
first_dts (u ∷ us) = u.unit.dts

-- the first DTS of each stream, beside the clock of its program
unfoldable pub first_dts_of : List JobProgramView → WireStreamView → FirstDts
first_dts_of programs s = record { clock = clock_in programs s.program; dts = first_dts s.units }

abbrev pub firsts : List JobProgramView → List WireStreamView → List FirstDts
firsts programs streams = map (first_dts_of programs) streams

-- whether a first DTS is on a clock
unfoldable pub is_on_clock : ProgramClock → FirstDts → Bool
is_on_clock clock f = is_same_clock f.clock clock

abbrev pub stamps_of : ProgramClock → List FirstDts → List ℕ
stamps_of clock all = map (λ f. f.dts) (filter (is_on_clock clock) all)

unfoldable pub base_for : ℕ → List ℕ → ℕ
base_for due [] = 0
base_for due (first ∷ more) = constant_of due (first % 2 ^ 33) (first ∷ more)

-- the first of its units is due at a moment
unfoldable pub base_of : ℕ → List FirstDts → ProgramClock → ℕ
base_of due all clock = base_for due (stamps_of clock all)

-- the base of the first stream's clock
unfoldable pub base_of_first : ℕ → List FirstDts → ℕ
base_of_first due [] = 0
base_of_first due (f ∷ fs) = base_of due (f ∷ fs) f.clock

unfoldable pub first_base : ℕ → List JobProgramView → List WireStreamView → ℕ
first_base due programs streams = base_of_first due (firsts programs streams)

-- 3. Moments

-- the packet where a unit of a PID begins
unfoldable pub packet_of : List FindingView → ℕ → ℕ → ℕ
packet_of findings pid index = unwrap_or (option_map (λ u. u.packet) (slice_get (carried_units pid findings) index)) 0

-- DTS can be made from the PTS of a PID
unfoldable pub is_mended : List FindingView → ℕ → Bool
is_mended findings pid = is_none (dts_fault (pts_of (carried_units pid findings)))

unfoldable pub stamps_refusal : List FindingView → ℕ → ℕ × StampFault → JobRefusal
stamps_refusal findings pid fault = refusals.Stamps (packet_of findings pid fault.0) pid fault.1 (is_mended findings pid)

-- how long after its DTS a unit of the stream may be presented, in units of 90 kHz: as long as a byte may stay in its decoder
abbrev pub pts_limit_of : ℕ → List ℕ → ℕ
pts_limit_of stream_type descriptors = 90_000 * longest_stay stream_type descriptors

-- the limit that a description has to say of units: where one is presented over a second after its DTS
unfoldable pub declared_limit : ℕ → List ℕ → List AccessUnit → Option ℕ
declared_limit stream_type descriptors us = if nat_le (max_pts_after us) 90_000 then None else Some (pts_limit_of stream_type descriptors)

abbrev pub wire_of : WireStreamView → List AccessUnit
wire_of s = map (λ u. u.unit) s.units

unfoldable pub with_moments : ℕ → WireStreamView → TimedStreamView
with_moments base s = record {
  program = s.program;
  pid = s.pid;
  stream_type = s.stream_type;
  stream_id = s.stream_id;
  descriptors = s.descriptors;
  shared_with = s.shared_with;
  units = moved base None (wire_of s);
}

-- a stream with its units at moments by a constant
unfoldable pub moved_stream : List FindingView → ℕ → WireStreamView → Result TimedStreamView JobRefusal
moved_stream findings base s =
    unless (option_map (stamps_refusal findings s.pid) (first_fault (pts_limit_of s.stream_type s.descriptors) base None 0 (wire_of s)))
    (Ok (with_moments base s))

-- all streams of a clock are moved by one constant
unfoldable pub moved_by : List FindingView → ℕ → List JobProgramView → List FirstDts → WireStreamView → Result TimedStreamView JobRefusal
moved_by findings due programs all s = moved_stream findings (base_of due all (clock_in programs s.program)) s

unfoldable pub moved_streams : List FindingView → ℕ → List JobProgramView → List WireStreamView → Result (List TimedStreamView) JobRefusal
moved_streams findings due programs streams = each (moved_by findings due programs (firsts programs streams)) streams

-- a stream of whose units the moments alone are known
abbrev pub StreamMomentsView : Type 0
StreamMomentsView = JobStreamView UnitMoment

-- with the bytes of units
unfoldable pub with_units : StreamMomentsView → List CarriedUnit → TimedStreamView
with_units s units = record {
  program = s.program;
  pid = s.pid;
  stream_type = s.stream_type;
  stream_id = s.stream_id;
  descriptors = s.descriptors;
  shared_with = s.shared_with;
  units = units_at s.units units;
}

-- the stream with the units found on its PID
abbrev pub timed_stream : List FindingView → StreamMomentsView → TimedStreamView
timed_stream findings s = with_units s (carried_units s.pid findings)
