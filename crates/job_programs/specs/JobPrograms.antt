-- The programs of a job.
use Rattle.std.specs.Prelude.{ℕ, ◌==◌, Bool, if◌then◌else◌, List, [], ◌∷◌, map, filter, find, flat_map, zip, Option, Some, None}
use Rattle.std.specs.Prelude.{length, option_map, slice_get}
use Rattle.std.specs.List.{list_any}
use Rattle.psi_tables.specs.declared.pat.programs.Program.{Program}
use Rattle.stream_programs.specs.Programs.{FoundProgramView}
use Rattle.stream_programs.specs.declared.pid_assignment.ProgramPids.{ProgramPids}
use Rattle.job_programs.specs.declared.program_clock.ProgramClock.{ProgramClock}
use Rattle.job_programs.specs.declared.refusal.NamedNumbers.{NamedNumbers}
use Rattle.job_programs.specs.declared.program_clock.ProgramClock.TheVariants.{Own}
use Rattle.job_programs.specs.declared.warning.Warning.{Warning}
use Rattle.job_programs.specs.declared.warning.ProgramWarning.TheVariants.{NoStream}
use Rattle.job_programs.specs.declared.warning.Warning.TheVariants as warning
use Rattle.job_programs.specs.JobStreams.{WireStreamView, is_stream_of}
use Rattle.job_programs.specs.ProgramClocks.{clock_by}

-- a program, with the PIDs that its map and its clock references have in the new stream, and its clock in the one before
pub record JobProgramView : Type 0 where
  pub number : ℕ
  pub map_pid : ℕ
  pub pcr_pid : ℕ
  pub clock : ProgramClock
  pub descriptors : List ℕ

unfoldable pub program_with_pids : FoundProgramView × ProgramPids → JobProgramView
program_with_pids p = record {
  number = p.0.number;
  map_pid = p.1.map_pid;
  pcr_pid = p.1.pcr_pid;
  clock = clock_by p.0.number p.0.pcr_pid;
  descriptors = p.0.descriptors;
}

-- the clock of a program of this number, if there is one
unfoldable pub clock_if : ℕ → Option JobProgramView → ProgramClock
clock_if number None = Own number
clock_if number (Some p) = p.clock

-- the clock of the first program with a number
unfoldable pub clock_in : List JobProgramView → ℕ → ProgramClock
clock_in programs number = clock_if number (find (λ p. p.number == number) programs)

-- it has a stream with units, of its own or a shared one
unfoldable pub has_stream : List WireStreamView → FoundProgramView × ProgramPids → Bool
has_stream streams p = list_any (is_stream_of p.0.number) streams

-- the programs with a stream, each with the PIDs that it is given
abbrev pub job_programs : List WireStreamView → List FoundProgramView → List ProgramPids → List JobProgramView
job_programs streams programs assigned = map program_with_pids (filter (has_stream streams) (zip programs assigned))

-- the warnings about a program: it has no stream, or its map is on another PID than before
unfoldable pub program_warnings : List WireStreamView → FoundProgramView × ProgramPids → List Warning
program_warnings streams p =
    if has_stream streams p then (if p.0.map_pid == p.1.map_pid then [] else warning.MapMoved p.0.number p.0.map_pid p.1.map_pid ∷ [])
    else warning.Program p.0.number NoStream ∷ []

abbrev pub all_program_warnings : List WireStreamView → List FoundProgramView → List ProgramPids → List Warning
all_program_warnings streams programs assigned = flat_map (program_warnings streams) (zip programs assigned)

-- the number of the program at a place in a program association table
abbrev pub number_at : List Program → ℕ → Option ℕ
number_at programs place = option_map (λ p. p.program_number) (slice_get programs place)

-- the programs that it names: the numbers of the first four, and how many there are
unfoldable pub numbers_named : List Program → NamedNumbers
numbers_named programs = record {
  first = number_at programs 0;
  second = number_at programs 1;
  third = number_at programs 2;
  fourth = number_at programs 3;
  count = length programs;
}
