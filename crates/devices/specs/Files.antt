-- Files by their names: their known bytes, and whether they open.
use Rattle.std.specs.Prelude.{◌≡◌, ◌⊎◌, ℕ, Bool, true, false, List, Option, Some, None, Result, Ok, Err, ⊤}
use Rattle.devices.specs.WholeInput.{IsLong}
use Rattle.devices.specs.declared.files.FileFault.{FileFault}

-- the bytes of each file and whether it can be opened, if known; and whether it is known that no read of a file fails
pub record Files : Type 0 where
  pub contents : List ℕ → Option (List ℕ)
  pub opens : List ℕ → Option Bool
  pub never_fails : Bool

abbrev pub files_of : (List ℕ → Option (List ℕ)) → (List ℕ → Option Bool) → Bool → Files
files_of contents opens never_fails = record { contents = contents; opens = opens; never_fails = never_fails }

-- the answer is as known, if it is known
abbrev pub IsAsKnown : {A : Type 0} → Option A → A → Type 0
IsAsKnown None is = ⊤
IsAsKnown (Some known) is = is ≡ known

-- why there is no file; none if there is one
abbrev pub fault_of : {V : Type 0} → Result V FileFault → Option FileFault
fault_of (Ok v) = None
fault_of (Err fault) = Some fault

-- the file of a name was opened
abbrev pub IsOpened : Files → List ℕ → Type 0
IsOpened files name = IsAsKnown (files.opens name) true

-- it can't be opened
abbrev pub IsUnopened : Files → List ℕ → Type 0
IsUnopened files name = IsAsKnown (files.opens name) false

-- it was opened, and can't be read to its end: reads of files may fail, or it is longer than an input may be
abbrev pub IsUnread : Files → List ℕ → Type 0
IsUnread files name = IsOpened files name × ((files.never_fails ≡ false) ⊎ IsLong (files.contents name))
