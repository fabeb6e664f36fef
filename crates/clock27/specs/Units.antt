-- How long a byte and a slot of 188 bytes last at 1 bit a second, in whole numbers of a unit of time. At R bits a second
-- they last one R-th of it.
use Rattle.std.specs.Prelude.{ℕ}

-- a byte in ticks of 27 MHz: 8 * 27,000,000
abbrev pub byte_ticks_at_1bps : ℕ
byte_ticks_at_1bps = 216_000_000

-- a byte in units of 90 kHz: 8 * 90,000
abbrev pub byte_units_at_1bps : ℕ
byte_units_at_1bps = 720_000

-- a byte in milliseconds: 8 * 1,000
abbrev pub byte_ms_at_1bps : ℕ
byte_ms_at_1bps = 8_000

-- a slot in units of 90 kHz: 188 * 8 * 90,000
abbrev pub slot_units_at_1bps : ℕ
slot_units_at_1bps = 135_360_000

-- a slot in milliseconds: 188 * 8 * 1,000
abbrev pub slot_ms_at_1bps : ℕ
slot_ms_at_1bps = 1_504_000

-- a slot in seconds: 188 * 8
abbrev pub slot_seconds_at_1bps : ℕ
slot_seconds_at_1bps = 1_504
