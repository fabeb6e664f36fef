-- What a job is made from, given the streams that have units
use Rattle.std.proofs.Common.{◌≡◌, ◌++◌, ℕ, List, sym, refl, Result}
use Rattle.std.specs.Prelude.{flat_map}
use Rattle.psi_tables.specs.declared.pat.programs.Program.{Program}
use Rattle.pid_findings.specs.Views.{FindingView}
use Rattle.program_tables.specs.Association.{AssociationView}
use Rattle.stream_programs.specs.Programs.{FoundProgramsView}
use Rattle.stream_programs.specs.declared.pid_assignment.ProgramPids.{ProgramPids}
use Rattle.job_programs.specs.declared.refusal.JobError.{JobError}
use Rattle.job_programs.specs.declared.refusal.JobRefusal.{JobRefusal}
use Rattle.job_programs.specs.declared.warning.Warning.{Warning}
use Rattle.job_programs.specs.Events.{programs_information}
use Rattle.job_programs.specs.JobPrograms.{JobProgramView, job_programs, all_program_warnings}
use Rattle.job_inputs.specs.JobInput.{JobInputView, table_warnings, stream_warnings, job_warnings, tables_of, with_pids, with_found}
use Rattle.job_inputs.specs.JobInput.{with_streams}
use Rattle.job_programs.specs.Warnings.{pid_warnings}
use Rattle.job_units.specs.WireStreams.{wire_streams, all_left_out_warnings}
use Rattle.job_programs.specs.JobOptions.{JobOptionsView}
use Rattle.job_programs.specs.JobTables.{JobTableView, job_tables, reported}
use Rattle.job_programs.specs.JobStreams.{WireStreamView}
use Rattle.job_programs.specs.Answers.{Leads}

-- The warnings of the parts of a job, one after another, are the warnings of the job.
pub all_warnings : (options : JobOptionsView) (count : ℕ) (findings : List FindingView) (a : AssociationView) (named : List Program) (found : FoundProgramsView)
    (assigned : List ProgramPids) (streams : List WireStreamView)
    (tables empties programs units all : List Warning) →
    tables ≡ table_warnings options a named findings found →
    empties ≡ tables ++ all_left_out_warnings options count findings found.streams →
    programs ≡ empties ++ all_program_warnings streams found.programs assigned →
    units ≡ programs ++ flat_map (λ s. pid_warnings count findings s.pid) streams →
    all ≡ units ++ programs_information findings (job_programs streams found.programs assigned) →
    all ≡ job_warnings options count findings a named found assigned streams
unfolding stream_warnings job_warnings
all_warnings options count findings a named found assigned streams tables empties programs units all one two three four five =
    rw (five, four, three, two, one) refl

-- The streams have units, and these are the programs, the tables and the warnings.
pub in_pids : (options : JobOptionsView) (count : ℕ) (findings : List FindingView) (a : AssociationView) (named : List Program) (found : FoundProgramsView)
    (assigned : List ProgramPids) (streams : List WireStreamView)
    (programs : List JobProgramView) (tables : List JobTableView) (warnings left : List Warning) {A : Type 0} (next : A → Result JobInputView JobRefusal)
    (result : Result A JobError) →
    wire_streams options findings found.streams ≡ streams → programs ≡ job_programs streams found.programs assigned →
    tables ≡ job_tables options.without count findings programs streams found.tables →
    warnings ≡ job_warnings options count findings a named found assigned streams → left ≡ reported tables warnings →
    Leads (with_streams options findings a.transport_stream_id programs tables left streams) next result →
    Leads (with_pids options count findings a named found assigned) next result
unfolding with_pids with_found tables_of
in_pids options count findings a named found assigned streams programs tables warnings left next result are made tabled all kept is =
    rw (are, sym made, sym tabled, sym all, sym kept) is
