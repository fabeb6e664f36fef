-- Why units have no moments.
use Rattle.std.specs.Prelude.{◌≡◌, ℕ, Option, Some, None, List, Result, Ok, Err}
use Rattle.pes_packet.specs.AccessUnits.{AccessUnit}
use Rattle.es_moments.specs.Stamps.{first_fault}
use Rattle.es_moments.specs.declared.stamps.StampFault.{StampFault}
use Rattle.es_moments.specs.declared.unit_moments.StampError.{StampError}
use Rattle.es_moments.specs.declared.unit_moments.StampError.TheVariants as errors

-- the fault that a call answers; none if it answers a value
abbrev pub fault_of : {V : Type 0} → Result V StampFault → Option StampFault
fault_of (Ok value) = None
fault_of (Err fault) = Some fault

-- there was no memory, or it is the first unit that has a fault
abbrev pub IsStampError : ℕ → ℕ → List AccessUnit → StampError → Type 0
IsStampError limit base us errors.Memory = Unit {0}
IsStampError limit base us (errors.Unit index fault) = first_fault limit base None 0 us ≡ Some (index, fault)
