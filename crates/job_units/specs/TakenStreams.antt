-- The findings that remain after a stream's units are taken from them.
use Rattle.std.specs.Prelude.{◌≡◌, ℕ, true, false, List}
use Rattle.pid_findings.specs.Views.{FindingView}
use Rattle.es_units.specs.CarriedUnits.{carried_units}
use Rattle.job_programs.specs.JobOptions.{is_among}

-- the units of each of these PIDs are as they were
abbrev pub StayCarried : List ℕ → List FindingView → List FindingView → Type 0
StayCarried pids old new = (pid : ℕ) → is_among pid pids ≡ true → carried_units pid new ≡ carried_units pid old

-- the units of every PID that is none of these are as they were
abbrev pub OthersCarried : List ℕ → List FindingView → List FindingView → Type 0
OthersCarried pids old new = (pid : ℕ) → is_among pid pids ≡ false → carried_units pid new ≡ carried_units pid old
