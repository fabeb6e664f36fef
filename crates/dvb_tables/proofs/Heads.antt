-- Lists of a few bytes, and numbers of single bits
use Rattle.std.proofs.Common.{◌≡◌, ℕ, zero, suc, ◌/◌, ◌%◌, ◌<◌, Bool, true, false, refl, List, [], ◌∷◌, length, arith}
use Rattle.std.specs.Prelude.{slice_index}
use Rattle.bit_fields.specs.Fields.{bit, flag}
use Rattle.bit_fields.proofs.Fields.{bit_test}
use Rattle.dvb_tables.specs.declared.running_status.RunningStatus.{RunningStatus}
use Rattle.dvb_tables.specs.declared.running_status.RunningStatus.TheVariants.{Undefined, NotRunning, StartsSoon, Pausing, Running, OffAir, Reserved6}
use Rattle.dvb_tables.specs.declared.running_status.RunningStatus.TheVariants.{Reserved7}
use Rattle.dvb_tables.specs.RunningStates.{status_code, status_of}

pub two : (xs : List ℕ) → length xs ≡ 2 → xs ≡ slice_index xs 0 ∷ slice_index xs 1 ∷ []
two [] e = absurd (omega arith)
two (a ∷ []) e = absurd (omega arith)
two (a ∷ b ∷ []) e = refl
two (a ∷ b ∷ c ∷ xs) e = absurd (omega arith)

pub three : (xs : List ℕ) → length xs ≡ 3 → xs ≡ slice_index xs 0 ∷ slice_index xs 1 ∷ slice_index xs 2 ∷ []
three [] e = absurd (omega arith)
three (a ∷ []) e = absurd (omega arith)
three (a ∷ b ∷ []) e = absurd (omega arith)
three (a ∷ b ∷ c ∷ []) e = refl
three (a ∷ b ∷ c ∷ d ∷ xs) e = absurd (omega arith)

pub five : (xs : List ℕ) → length xs ≡ 5 → xs ≡ slice_index xs 0 ∷ slice_index xs 1 ∷ slice_index xs 2 ∷ slice_index xs 3 ∷ slice_index xs 4 ∷ []
five [] e = absurd (omega arith)
five (a ∷ []) e = absurd (omega arith)
five (a ∷ b ∷ []) e = absurd (omega arith)
five (a ∷ b ∷ c ∷ []) e = absurd (omega arith)
five (a ∷ b ∷ c ∷ d ∷ []) e = absurd (omega arith)
five (a ∷ b ∷ c ∷ d ∷ f ∷ []) e = refl
five (a ∷ b ∷ c ∷ d ∷ f ∷ g ∷ xs) e = absurd (omega arith)

pub six : (xs : List ℕ) → length xs ≡ 6 →
    xs ≡ slice_index xs 0 ∷ slice_index xs 1 ∷ slice_index xs 2 ∷ slice_index xs 3 ∷ slice_index xs 4 ∷ slice_index xs 5 ∷ []
six [] e = absurd (omega arith)
six (a ∷ []) e = absurd (omega arith)
six (a ∷ b ∷ []) e = absurd (omega arith)
six (a ∷ b ∷ c ∷ []) e = absurd (omega arith)
six (a ∷ b ∷ c ∷ d ∷ []) e = absurd (omega arith)
six (a ∷ b ∷ c ∷ d ∷ f ∷ []) e = absurd (omega arith)
six (a ∷ b ∷ c ∷ d ∷ f ∷ g ∷ []) e = refl
six (a ∷ b ∷ c ∷ d ∷ f ∷ g ∷ h ∷ xs) e = absurd (omega arith)

pub twelve : (xs : List ℕ) → length xs ≡ 12 →
    xs ≡ slice_index xs 0 ∷ slice_index xs 1 ∷ slice_index xs 2 ∷ slice_index xs 3 ∷ slice_index xs 4 ∷ slice_index xs 5 ∷ slice_index xs 6 ∷ slice_index xs 7 ∷
    slice_index xs 8 ∷ slice_index xs 9 ∷ slice_index xs 10 ∷ slice_index xs 11 ∷ []
twelve [] e = absurd (omega arith)
twelve (a ∷ []) e = absurd (omega arith)
twelve (a ∷ b ∷ []) e = absurd (omega arith)
twelve (a ∷ b ∷ c ∷ []) e = absurd (omega arith)
twelve (a ∷ b ∷ c ∷ d ∷ []) e = absurd (omega arith)
twelve (a ∷ b ∷ c ∷ d ∷ f ∷ []) e = absurd (omega arith)
twelve (a ∷ b ∷ c ∷ d ∷ f ∷ g ∷ []) e = absurd (omega arith)
twelve (a ∷ b ∷ c ∷ d ∷ f ∷ g ∷ h ∷ []) e = absurd (omega arith)
twelve (a ∷ b ∷ c ∷ d ∷ f ∷ g ∷ h ∷ i ∷ []) e = absurd (omega arith)
twelve (a ∷ b ∷ c ∷ d ∷ f ∷ g ∷ h ∷ i ∷ j ∷ []) e = absurd (omega arith)
twelve (a ∷ b ∷ c ∷ d ∷ f ∷ g ∷ h ∷ i ∷ j ∷ k ∷ []) e = absurd (omega arith)
twelve (a ∷ b ∷ c ∷ d ∷ f ∷ g ∷ h ∷ i ∷ j ∷ k ∷ l ∷ []) e = absurd (omega arith)
twelve (a ∷ b ∷ c ∷ d ∷ f ∷ g ∷ h ∷ i ∷ j ∷ k ∷ l ∷ m ∷ []) e = refl
twelve (a ∷ b ∷ c ∷ d ∷ f ∷ g ∷ h ∷ i ∷ j ∷ k ∷ l ∷ m ∷ n ∷ xs) e = absurd (omega arith)

-- A flag is the bit of the byte.
pub flag_bit : (byte value : ℕ) → bit (flag byte value) ≡ byte / value % 2
flag_bit byte value = bit_test (byte / value % 2) (omega arith)

pub bit_below : (b : Bool) → bit b < 2
bit_below b = elim b as (λ b. bit b < 2) [ true ↦ omega arith | false ↦ omega arith ]

pub code_below : (r : RunningStatus) → status_code r < 8
code_below Undefined = omega arith
code_below NotRunning = omega arith
code_below StartsSoon = omega arith
code_below Pausing = omega arith
code_below Running = omega arith
code_below OffAir = omega arith
code_below Reserved6 = omega arith
code_below Reserved7 = omega arith

-- A running status is read back from its three bits.
pub status_again : (r : RunningStatus) → status_of (status_code r) ≡ r
status_again Undefined = refl
status_again NotRunning = refl
status_again StartsSoon = refl
status_again Pausing = refl
status_again Running = refl
status_again OffAir = refl
status_again Reserved6 = refl
status_again Reserved7 = refl

pub code_again : (n : ℕ) → n < 8 → status_code (status_of n) ≡ n
code_again zero h = refl
code_again (suc zero) h = refl
code_again (suc (suc zero)) h = refl
code_again (suc (suc (suc zero))) h = refl
code_again (suc (suc (suc (suc zero)))) h = refl
code_again (suc (suc (suc (suc (suc zero))))) h = refl
code_again (suc (suc (suc (suc (suc (suc zero)))))) h = refl
code_again (suc (suc (suc (suc (suc (suc (suc zero))))))) h = refl
code_again (suc (suc (suc (suc (suc (suc (suc (suc n)))))))) h = absurd (omega arith)
