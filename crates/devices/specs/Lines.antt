-- Lines of text on an output: a name, numbers in decimal digits, and LF.
use Rattle.std.specs.Prelude.{◌≡◌, ◌⊎◌, ℕ, List, [], ◌∷◌, ◌++◌, length, take, decimal, Result, Ok, Err}
use Rattle.devices.specs.Devices.{Device, Port, HasFailed, IsClean, Takes, between}
use Rattle.devices.specs.declared.halt.Halt.{Halt}
use Rattle.devices.specs.declared.halt.Halt.TheVariants.{Read, Write, Memory}

-- the numbers, each after a space
unfoldable pub numbers_text : List ℕ → List ℕ
numbers_text [] = []
numbers_text (n ∷ numbers) = (32 ∷ decimal n) ++ numbers_text numbers

-- a line
abbrev pub line_text : List ℕ → List ℕ → List ℕ
line_text name numbers = (name ++ numbers_text numbers) ++ (10 ∷ [])

-- a text was written, or the writer failed within it and took its front
pub record Reports (faults : Device) (text : List ℕ) : Type 0 where
  pub taken : ℕ
  pub written : Takes faults (take taken text)
  pub whole : (taken ≡ length text) ⊎ HasFailed faults

-- texts were reported one after another
unfoldable pub ReportsAll : Port → Port → List (List ℕ) → Type 0
ReportsAll before after [] = after ≡ before
ReportsAll before after (text ∷ texts) = (mid : Port) × Reports (between before mid) text × ReportsAll mid after texts

-- a front of the text is written
pub record Stopped (text : List ℕ) (output : Device) : Type 0 where
  pub taken : ℕ
  pub appends : Takes output (take taken text)

-- the whole text is written, or the writer fails within it
abbrev pub WritesLine : {V : Type 0} → List ℕ → Device → Result V Halt → Type 0
WritesLine text output (Ok v) = Takes output text × IsClean output
WritesLine text output (Err Read) = ⊥
WritesLine text output (Err Write) = Stopped text output × HasFailed output
WritesLine text output (Err Memory) = ⊥
