-- An input that is read to its end.
use Rattle.std.specs.Prelude.{◌≡◌, ◌⊎◌, ◌^◌, ◌<◌, ◌≤◌, ℕ, min, List, [], length, Option, Some, None, Result, Ok, Err, ⊤}
use Rattle.counted_io.specs.Device.{IsFront}
use Rattle.devices.specs.Devices.{Device, HasFailed, IsClean}
use Rattle.devices.specs.declared.halt.Halt.{Halt}
use Rattle.devices.specs.declared.halt.Halt.TheVariants.{Read, Write, Memory}

-- the most bytes of an input
abbrev pub longest_input : ℕ
longest_input = 2 ^ 40

abbrev pub IsLong : Option (List ℕ) → Type 0
IsLong None = ⊤
IsLong (Some xs) = longest_input < length xs

abbrev pub IsShort : Option (List ℕ) → Type 0
IsShort None = ⊤
IsShort (Some xs) = length xs ≤ longest_input

-- the input was read to its end, and is not too long
pub record IsAllRead (input : Device) : Type 0 where
  pub short : IsShort input.before.bytes
  pub ends : (xs : List ℕ) → input.before.bytes ≡ Some xs → input.after.bytes ≡ Some []
  pub clean : IsClean input

-- the bytes of the input are these
abbrev pub IsWhole : Option (List ℕ) → List ℕ → Type 0
IsWhole None bytes = ⊤
IsWhole (Some xs) bytes = bytes ≡ xs

-- the whole input was read; or a call of the reader failed, or the input is too long; or there was no memory for it
abbrev pub ReadsInput : Device → Result (List ℕ) Halt → Type 0
ReadsInput input (Ok bytes) = IsWhole input.before.bytes bytes × IsAllRead input
ReadsInput input (Err Read) = HasFailed input ⊎ IsLong input.before.bytes
ReadsInput input (Err Write) = ⊥
ReadsInput input (Err Memory) = IsClean input

-- the whole input was read, and its bytes are so
pub record IsReadAs (input : Device) (Is : List ℕ → Type 0) : Type 0 where
  pub bytes : List ℕ
  pub read : ReadsInput input (Ok bytes)
  pub is : Is bytes

-- the next n bytes of the input are at the front of a piece, fewer than it holds only if the input ended
pub record ReadsFront (input : Device) (piece : List ℕ) (n : ℕ) : Type 0 where
  pub fits : n ≤ length piece
  pub known : (xs : List ℕ) → input.before.bytes ≡ Some xs → (n ≡ min (length piece) (length xs)) × IsFront xs input.after.bytes piece n
  pub clean : IsClean input

abbrev pub ReadsNext : Device → List ℕ → Result ℕ Halt → Type 0
ReadsNext input piece (Ok n) = ReadsFront input piece n
ReadsNext input piece (Err Read) = HasFailed input
ReadsNext input piece (Err Write) = ⊥
ReadsNext input piece (Err Memory) = ⊥

-- the whole input, of `size` bytes, was read and taken
pub record TakesAll (HasTaken : List ℕ → Type 0) (input : Device) (size : ℕ) : Type 0 where
  pub bytes : List ℕ
  pub size_is : size ≡ length bytes
  pub short : length bytes ≤ longest_input
  pub read : ReadsInput input (Ok bytes)
  pub taken : HasTaken bytes

abbrev pub TakesInput : (List ℕ → Type 0) → Device → Result ℕ Halt → Type 0
TakesInput HasTaken input (Ok size) = TakesAll HasTaken input size
TakesInput HasTaken input (Err halt) = ReadsInput input (Err halt)
