-- The input of a job: the programs and streams of a transport stream, and the declarations of their units.
use Rattle.std.specs.Prelude.{ℕ, ◌==◌, Bool, true, false, if◌then◌else◌, List, [], ◌∷◌, ◌++◌, length, map, filter, flat_map, ok_or, Option, Some}
use Rattle.std.specs.Prelude.{None, Result, Ok, ◌≤◌, All}
use Rattle.std.specs.List.{list_any}
use Rattle.psi_tables.specs.declared.pat.programs.Program.{Program}
use Rattle.pid_findings.specs.Views.{FindingView}
use Rattle.program_tables.specs.Association.{AssociationView, association}
use Rattle.stream_programs.specs.PidAssignment.{assigned_pids}
use Rattle.stream_programs.specs.Programs.{FoundProgramsView, programs_of}
use Rattle.program_tables.specs.declared.program_map.MapPart.TheVariants.{NamedStreams, Descriptors}
use Rattle.stream_programs.specs.declared.pid_assignment.ProgramPids.{ProgramPids}
use Rattle.job_programs.specs.declared.refusal.JobRefusal.{JobRefusal}
use Rattle.job_programs.specs.declared.refusal.JobRefusal.TheVariants as refusals
use Rattle.job_programs.specs.declared.warning.Warning.{Warning}
use Rattle.job_programs.specs.declared.warning.Warning.TheVariants as warnings
use Rattle.job_programs.specs.Answers.{and_then, unless}
use Rattle.job_programs.specs.ClockBases.{base0_of}
use Rattle.job_units.specs.declared.declarations.StreamChoice.{StreamChoice}
use Rattle.job_units.specs.Declarations.{UnitCountsView, too_many, too_long, all_measured, all_unit_counts, choices}
use Rattle.job_units.specs.BufferWarnings.{buffer_warnings}
use Rattle.job_programs.specs.JobPrograms.{JobProgramView, job_programs, all_program_warnings, numbers_named}
use Rattle.job_programs.specs.ProgramClocks.{is_clock_on}
use Rattle.job_programs.specs.Events.{programs_information}
use Rattle.job_programs.specs.Information.{JobInformationView, information_of}
use Rattle.job_units.specs.Moments.{earliest, first_base, moved_streams}
use Rattle.job_programs.specs.Packets.{no_packets}
use Rattle.job_programs.specs.Warnings.{packet_warnings, association_warnings, all_map_warnings, stray_warnings, option_warnings, network_warnings}
use Rattle.job_programs.specs.Warnings.{pid_warnings}
use Rattle.job_units.specs.WireStreams.{wire_streams, all_left_out_warnings}
use Rattle.job_programs.specs.JobOptions.{JobOptionsView, is_selected_program}
use Rattle.job_programs.specs.JobTables.{JobTableView, job_tables, reported}
use Rattle.job_inputs.specs.LackingPrograms.{stream_refusal}
use Rattle.job_programs.specs.JobStreams.{TimedStreamView, WireStreamView}
use Rattle.job_programs.specs.FoundUnits.{IsMoved, FitsQueue}

-- `information` is about the transport stream as a whole; `base0` is the system clock at the begin of the run; each stream has its counts and
-- its declaration; tables are private sections that do not change; the warnings say what is not taken as it is in the stream
pub record JobInputView : Type 0 where
  pub information : JobInformationView
  pub base0 : ℕ
  pub programs : List JobProgramView
  pub streams : List TimedStreamView
  pub unit_counts : List UnitCountsView
  pub choices : List StreamChoice
  pub tables : List JobTableView
  pub warnings : List Warning

-- its streams are found in a transport stream, and a queue of a multiplexer may hold the units of each
pub record AreStreams (made : Bool) (findings : List FindingView) (input : JobInputView) : Type 0 where
  pub moved : All (IsMoved made findings) input.streams
  pub fits : All FitsQueue input.streams
  pub stream_count : length input.streams ≤ 254

-- a stream of this PID is carried
abbrev pub has_stream : JobInputView → ℕ → Bool
has_stream m pid = list_any (λ s. s.pid == pid) m.streams

-- sections of this PID are carried
abbrev pub carries_table : JobInputView → ℕ → Bool
carries_table m pid = list_any (λ t. t.pid == pid) m.tables

-- the clock of a program comes on this PID
abbrev pub has_clock : JobInputView → ℕ → Bool
has_clock m pid = list_any (λ p. is_clock_on pid p.clock) m.programs

-- 1. Warnings

-- about packets, and tables that change
unfoldable pub change_warnings : JobOptionsView → AssociationView → List Program → List FindingView → List Warning
change_warnings options a named findings =
    ((packet_warnings findings ++ association_warnings options a findings) ++ all_map_warnings NamedStreams findings named)
    ++ all_map_warnings Descriptors findings named

-- these warnings, and warnings about tables left out in part, PES packets of no program, missing things that options name, and the network
unfoldable pub table_warnings : JobOptionsView → AssociationView → List Program → List FindingView → FoundProgramsView → List Warning
table_warnings options a named findings found =
    (((change_warnings options a named findings ++ map warnings.Table found.left_out) ++ stray_warnings options.without a findings)
    ++ option_warnings options.programs options.without options.buffers options.names options.aligned a found.streams)
    ++ network_warnings options.network a.transport_stream_id findings

-- these warnings, and warnings about streams that are not carried
unfoldable pub stream_warnings : JobOptionsView → ℕ → List FindingView → AssociationView → List Program → FoundProgramsView → List Warning
stream_warnings options count findings a named found =
    table_warnings options a named findings found ++ all_left_out_warnings options count findings found.streams

-- these warnings, and warnings about programs, findings of streams that are in no unit, and service information
unfoldable pub job_warnings : JobOptionsView → ℕ → List FindingView → AssociationView → List Program → FoundProgramsView → List ProgramPids →
    List WireStreamView → List Warning
job_warnings options count findings a named found assigned streams =
    ((stream_warnings options count findings a named found ++ all_program_warnings streams found.programs assigned)
    ++ flat_map (λ s. pid_warnings count findings s.pid) streams)
    ++ programs_information findings (job_programs streams found.programs assigned)

-- 2. What it is made of, step by step

-- streams with their units at moments, and the counts of their units
unfoldable pub with_unit_counts : JobOptionsView → (List UnitCountsView → List StreamChoice → JobInputView) → List TimedStreamView →
    Result JobInputView JobRefusal
with_unit_counts options finish streams =
    and_then (λ all. and_then (λ chosen. Ok (finish all chosen)) (choices options.declare_by options.lead (all_measured streams) all))
    (all_unit_counts options.buffers (all_measured streams))

-- the last warnings are about their buffers
unfoldable pub with_moved : JobOptionsView → JobInformationView → ℕ → List JobProgramView → List JobTableView → List Warning → List TimedStreamView →
    Result JobInputView JobRefusal
with_moved options information base programs tables all_warnings streams =
    unless (too_many (length programs) (length streams))
    (unless (too_long streams)
    (with_unit_counts options (λ all chosen. record {
      information = information;
      base0 = base;
      programs = programs;
      streams = streams;
      unit_counts = all;
      choices = chosen;
      tables = tables;
      warnings = all_warnings ++ buffer_warnings options.buffers (all_measured streams) all chosen;
    }) streams))

-- streams with their units as on the wire
unfoldable pub with_streams : JobOptionsView → List FindingView → ℕ → List JobProgramView → List JobTableView → List Warning → List WireStreamView →
    Result JobInputView JobRefusal
with_streams options findings id programs tables all_warnings streams =
    unless (stream_refusal options.strict options.lenient all_warnings streams)
    (and_then (with_moved options (information_of options id findings programs)
    (base0_of options.base (first_base (earliest programs tables streams) programs streams)) programs tables all_warnings)
    (moved_streams findings (earliest programs tables streams) programs streams))

-- the tables of programs that are given PIDs
unfoldable pub tables_of : JobOptionsView → ℕ → List FindingView → FoundProgramsView → List ProgramPids → List WireStreamView → List JobTableView
tables_of options count findings found assigned streams =
    job_tables options.without count findings (job_programs streams found.programs assigned) streams found.tables

-- these streams, programs, and the PIDs that they are given
unfoldable pub with_found : JobOptionsView → ℕ → List FindingView → AssociationView → List Program → FoundProgramsView → List ProgramPids →
    List WireStreamView → Result JobInputView JobRefusal
with_found options count findings a named found assigned streams =
    with_streams options findings a.transport_stream_id (job_programs streams found.programs assigned)
    (tables_of options count findings found assigned streams)
    (reported (tables_of options count findings found assigned streams) (job_warnings options count findings a named found assigned streams)) streams

-- with the streams that can be carried
unfoldable pub with_pids : JobOptionsView → ℕ → List FindingView → AssociationView → List Program → FoundProgramsView → List ProgramPids →
    Result JobInputView JobRefusal
with_pids options count findings a named found assigned =
    with_found options count findings a named found assigned (wire_streams options findings found.streams)

unfoldable pub with_programs : JobOptionsView → ℕ → List FindingView → AssociationView → List Program → FoundProgramsView → Result JobInputView JobRefusal
with_programs options count findings a named found =
    unless (if length found.programs == 0 then Some (refusals.NoProgram (numbers_named a.programs)) else None)
    (and_then (with_pids options count findings a named found) (ok_or (assigned_pids found) refusals.Pids))

-- the programs of an association that are asked for
abbrev pub named_of : JobOptionsView → AssociationView → List Program
named_of options a = filter (is_selected_program options.programs) a.programs

unfoldable pub with_association : JobOptionsView → ℕ → List FindingView → AssociationView → Result JobInputView JobRefusal
with_association options count findings a = with_programs options count findings a (named_of options a) (programs_of (named_of options a) findings)

-- what a stream of `count` whole packets gives
unfoldable pub job_input : JobOptionsView → ℕ → List FindingView → Result JobInputView JobRefusal
job_input options count findings =
    unless (no_packets count findings) (and_then (with_association options count findings) (ok_or (association findings) refusals.NoAssociation))
