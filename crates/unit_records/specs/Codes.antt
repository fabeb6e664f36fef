-- The number of each refusal.
use Rattle.std.specs.Prelude.{ℕ}
use Rattle.unit_records.specs.declared.reading.UnitFileError.{UnitFileError}
use Rattle.unit_records.specs.declared.reading.UnitFileError.TheVariants.{Cut, Size, Device, Memory}

-- the number of a refused record or a failed read
abbrev pub file_code : UnitFileError → ℕ
file_code Cut = 1
file_code Size = 2
file_code Device = 3
file_code Memory = 4
