-- A reader or writer that fails after a number of calls or bytes.
use Rattle.std.specs.Prelude.{◌≡◌, ◌⊎◌, ℕ, ◌-◌}
use Rattle.counted_io.specs.declared.failing.Failing.{Failing}

-- the reader or writer
abbrev pub wrapped_of : {T : Type 0} → Failing T → T
wrapped_of failing = failing.inner

-- how many calls may still succeed
abbrev pub calls_left : {T : Type 0} → Failing T → ℕ
calls_left failing = failing.calls

-- how many bytes may still be given or taken
abbrev pub bytes_left : {T : Type 0} → Failing T → ℕ
bytes_left failing = failing.bytes

-- a call that wants a byte fails
abbrev pub IsSpent : {T : Type 0} → Failing T → Type 0
IsSpent failing = (calls_left failing ≡ 0) ⊎ (bytes_left failing ≡ 0)

-- one call more has succeeded, with n bytes
abbrev pub Spends : {T : Type 0} → Failing T → Failing T → ℕ → Type 0
Spends old new n = (calls_left new ≡ calls_left old - 1) × (bytes_left new ≡ bytes_left old - n)
