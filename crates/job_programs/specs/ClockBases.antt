-- What the system clock shows as a run begins (ISO/IEC 13818-1, 2.4.2.2): in units of 90 kHz, modulo 2^33.
use Rattle.std.specs.Prelude.{ℕ, ◌+◌, ◌^◌, nat_le, Bool, if◌then◌else◌}
use Rattle.given_values.specs.declared.clock_base.ClockBase.{ClockBase}
use Rattle.given_values.specs.declared.clock_base.ClockBase.TheVariants.{Lasting, Input, At}

-- a clock that shows this does not pass the end of its 33 bits within 12 hours
unfoldable pub lasts : ℕ → Bool
lasts base = nat_le (base + 3_888_000_000) (2 ^ 33)

-- the clock at the begin, by the option and by the clock of the first stream
unfoldable pub base0_of : ClockBase → ℕ → ℕ
base0_of Lasting own = if lasts own then own else 0
base0_of Input own = own
base0_of (At base) own = base
