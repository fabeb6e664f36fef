-- The clock of a program's time stamps (ISO/IEC 13818-1, 2.4.2.2).
use Rattle.std.specs.Prelude.{ℕ, ◌==◌, Bool, false, if◌then◌else◌}
use Rattle.job_programs.specs.declared.program_clock.ProgramClock.{ProgramClock}
use Rattle.job_programs.specs.declared.program_clock.ProgramClock.TheVariants.{References, Own}

-- the clock of a program with this PCR_PID (2.4.4.9): programs with the same PCR_PID share one clock, and a program without references
-- (0x1FFF) has its own
unfoldable pub clock_by : ℕ → ℕ → ProgramClock
clock_by number pcr_pid = if pcr_pid == 8191 then Own number else References pcr_pid

-- two are one
unfoldable pub is_same_clock : ProgramClock → ProgramClock → Bool
is_same_clock (References one) (References other) = one == other
is_same_clock (Own one) (Own other) = one == other
is_same_clock _ _ = false

-- its references are on this PID
unfoldable pub is_clock_on : ℕ → ProgramClock → Bool
is_clock_on pid (References other) = other == pid
is_clock_on pid (Own number) = false
