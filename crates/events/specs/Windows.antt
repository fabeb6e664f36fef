-- The figures of a PID in a window, without the place in memory of a service's name.
use Rattle.std.specs.Prelude.{ℕ, List, Option}
use Rattle.events.specs.declared.pid_name.PidName.{PidName}

pub record WindowView : Type 0 where
  pub number : ℕ
  pub pid : ℕ
  pub packets : ℕ
  pub pcrs : ℕ
  pub rate : ℕ
  pub program : Option ℕ
  pub coding : PidName
  pub service : Option (List ℕ)
