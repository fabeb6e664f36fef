-- The numbers of the refusals.
use Rattle.std.specs.Prelude.{ℕ}
use Rattle.description_keys.specs.declared.fault.DescFault.{DescFault}
use Rattle.description_keys.specs.declared.fault.DescFault.TheVariants as fault

-- the number of a refusal
abbrev pub fault_code : DescFault → ℕ
fault_code fault.Text = 1
fault_code fault.UnknownKey = 2
fault_code (fault.Key code item) = code
fault_code fault.EqualPids = 80
fault_code fault.EqualNumbers = 81
fault_code (fault.EventOrder item) = 82
fault_code (fault.TooLong item) = 83

-- the item of a refusal
abbrev pub fault_item : DescFault → ℕ
fault_item (fault.Key code item) = item
fault_item (fault.EventOrder item) = item
fault_item (fault.TooLong item) = item
fault_item _ = 0
