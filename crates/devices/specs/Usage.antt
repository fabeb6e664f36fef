-- The end of the program if the words are a usage error.
use Rattle.std.specs.Prelude.{◌≡◌, ◌++◌, ℕ, List, codes, decimal}
use Rattle.devices.specs.Devices.{Device, IsUntouched}
use Rattle.devices.specs.Lines.{Reports}

-- nothing is read and nothing is written
pub record IsUsage (input output : Device) (status : ℕ) : Type 0 where
  pub unread : IsUntouched input
  pub unwritten : IsUntouched output
  pub status_is : status ≡ 2

-- a usage error with this text, as far as the second writer takes it
pub record ReportsUsage (text : List ℕ) (input output faults : Device) (status : ℕ) : Type 0 where
  pub is : IsUsage input output status
  pub reports : Reports faults text

-- the range of a number, as a usage text has it
abbrev pub range_text : ℕ → ℕ → List ℕ
range_text low high = decimal low ++ (codes ".." ++ decimal high)
