-- The streams of a job are made from streams on the wire.
use Rattle.std.proofs.Common.{◌≡◌, ◌∙◌, ◌==◌, ◌++◌, ℕ, List, length, Some, None, Ok, All, sym, ap, ap₂, subst, if◌then◌else◌}
use Rattle.std.specs.Prelude.{ok_or}
use Rattle.pid_findings.specs.Views.{FindingView}
use Rattle.program_tables.specs.Association.{association}
use Rattle.stream_programs.specs.PidAssignment.{assigned_pids}
use Rattle.stream_programs.specs.Programs.{programs_of}
use Rattle.job_programs.specs.declared.warning.Warning.{Warning}
use Rattle.job_programs.specs.declared.refusal.JobRefusal.TheVariants as refusals
use Rattle.job_programs.specs.Answers.{and_then, unless}
use Rattle.job_programs.specs.ClockBases.{base0_of}
use Rattle.job_units.specs.declared.declarations.StreamChoice.{StreamChoice}
use Rattle.job_units.specs.Declarations.{UnitCountsView, too_many, too_long, all_measured, all_unit_counts, choices}
use Rattle.job_units.specs.BufferWarnings.{buffer_warnings}
use Rattle.job_inputs.specs.JobInput.{JobInputView, job_input, with_association, with_programs, with_pids, with_found, with_streams, with_moved}
use Rattle.job_inputs.specs.JobInput.{with_unit_counts, job_warnings, named_of, tables_of}
use Rattle.job_inputs.specs.LackingPrograms.{stream_refusal}
use Rattle.job_programs.specs.Information.{JobInformationView, information_of}
use Rattle.job_programs.specs.JobOptions.{JobOptionsView}
use Rattle.job_programs.specs.JobPrograms.{JobProgramView, job_programs, numbers_named}
use Rattle.job_programs.specs.JobTables.{JobTableView, reported}
use Rattle.job_programs.specs.JobStreams.{TimedStreamView, WireStreamView}
use Rattle.job_units.specs.Moments.{earliest, first_base, moved_streams}
use Rattle.job_programs.specs.Packets.{no_packets}
use Rattle.job_units.specs.WireStreams.{selected, wire_streams}
use Rattle.job_units.proofs.CarriedStreams.{all_carried}
use Rattle.job_programs.proofs.Steps.{granted, comes, same_value}
use Rattle.job_programs.specs.FoundUnits.{IsCarried}

-- Counting the units of streams changes no stream, program or table of an input, nor its base or its information.
record Made (information : JobInformationView) (base : ℕ) (programs : List JobProgramView) (tables : List JobTableView) (streams : List TimedStreamView)
    (input : JobInputView) : Type 0 where
  information_is : input.information ≡ information
  base0_is : input.base0 ≡ base
  programs_are : input.programs ≡ programs
  tables_are : input.tables ≡ tables
  streams_are : input.streams ≡ streams

made : (options : JobOptionsView) (information : JobInformationView) (base : ℕ) (programs : List JobProgramView) (tables : List JobTableView)
    (warnings : List Warning) (streams : List TimedStreamView) (input : JobInputView) →
    with_moved options information base programs tables warnings streams ≡ Ok input → Made information base programs tables streams input
unfolding with_moved with_unit_counts
made options information base programs tables warnings streams input is =
    let finish = λ (all : List UnitCountsView) (chosen : List StreamChoice). (let i : JobInputView = record {
      information = information;
      base0 = base;
      programs = programs;
      streams = streams;
      unit_counts = all;
      choices = chosen;
      tables = tables;
      warnings = warnings ++ buffer_warnings options.buffers (all_measured streams) all chosen;
    } in i) in
    let counted = granted (too_long streams) (with_unit_counts options finish streams) input
    (granted (too_many (length programs) (length streams)) (unless (too_long streams) (with_unit_counts options finish streams)) input is) in
    let all = comes (λ all. and_then (λ chosen. Ok (finish all chosen)) (choices options.declare_by options.lead (all_measured streams) all))
    (all_unit_counts options.buffers (all_measured streams)) input counted in
    let chosen = comes (λ chosen. Ok (finish all.value chosen)) (choices options.declare_by options.lead (all_measured streams) all.value) input all.last_is in
    let same : finish all.value chosen.value ≡ input = same_value (finish all.value chosen.value) input chosen.last_is in
    record {
      information_is = sym (ap (λ (i : JobInputView). i.information) same);
      base0_is = sym (ap (λ (i : JobInputView). i.base0) same);
      programs_are = sym (ap (λ (i : JobInputView). i.programs) same);
      tables_are = sym (ap (λ (i : JobInputView). i.tables) same);
      streams_are = sym (ap (λ (i : JobInputView). i.streams) same);
    }

-- The streams on the wire have the units that are found on their PIDs. They are moved to moments, and the base of the job is the base of the first stream. The
-- information about the whole job has a transport_stream_id.
pub record Moved (options : JobOptionsView) (findings : List FindingView) (input : JobInputView) : Type 0 where
  pub id : ℕ
  pub information_is : input.information ≡ information_of options id findings input.programs
  pub streams : List WireStreamView
  pub carried : All (IsCarried options.make_dts findings) streams
  pub moved : moved_streams findings (earliest input.programs input.tables streams) input.programs streams ≡ Ok input.streams
  pub base0_is : input.base0 ≡ base0_of options.base (first_base (earliest input.programs input.tables streams) input.programs streams)

pub moved_of : (options : JobOptionsView) (count : ℕ) (findings : List FindingView) (input : JobInputView) → job_input options count findings ≡ Ok input →
    Moved options findings input
unfolding job_input with_association with_programs with_pids with_found with_streams
moved_of options count findings input is =
    let associated = comes (with_association options count findings) (ok_or (association findings) refusals.NoAssociation) input
    (granted (no_packets count findings) (and_then (with_association options count findings) (ok_or (association findings) refusals.NoAssociation)) input is) in
    let a = associated.value in
    let found = programs_of (named_of options a) findings in
    let assigned = comes (with_pids options count findings a (named_of options a) found) (ok_or (assigned_pids found) refusals.Pids) input
    (granted (if length found.programs == 0 then Some (refusals.NoProgram (numbers_named a.programs)) else None)
    (and_then (with_pids options count findings a (named_of options a) found) (ok_or (assigned_pids found) refusals.Pids)) input associated.last_is) in
    let streams = wire_streams options findings found.streams in
    let programs = job_programs streams found.programs assigned.value in
    let tables = tables_of options count findings found assigned.value streams in
    let warnings = reported tables (job_warnings options count findings a (named_of options a) found assigned.value streams) in
    let information = information_of options a.transport_stream_id findings programs in
    let due = earliest programs tables streams in
    let base = base0_of options.base (first_base due programs streams) in
    let timed = comes (with_moved options information base programs tables warnings) (moved_streams findings due programs streams) input
    (granted (stream_refusal options.strict options.lenient warnings streams)
    (and_then (with_moved options information base programs tables warnings) (moved_streams findings due programs streams))
    input assigned.last_is) in
    let done = made options information base programs tables warnings timed.value input timed.last_is in
    record {
      id = a.transport_stream_id;
      information_is = done.information_is ∙ ap (information_of options a.transport_stream_id findings) (sym done.programs_are);
      streams = streams;
      carried = all_carried options findings (selected options.without found.streams);
      moved = ap₂ (λ (ps : List JobProgramView) (ts : List JobTableView). moved_streams findings (earliest ps ts streams) ps streams) done.programs_are
          done.tables_are
          ∙ subst (λ (ts : List TimedStreamView). moved_streams findings due programs streams ≡ Ok ts) (sym done.streams_are) timed.first_is;
      base0_is = done.base0_is
          ∙ ap₂ (λ (ps : List JobProgramView) (ts : List JobTableView). base0_of options.base (first_base (earliest ps ts streams) ps streams))
          (sym done.programs_are) (sym done.tables_are);
    }
