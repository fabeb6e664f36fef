-- Program clock references (ISO/IEC 13818-1, 2.4.3.5).
use Rattle.std.specs.Prelude.{ℕ, ◌+◌, ◌*◌, ◌/◌, ◌%◌, ◌^◌}
use Rattle.clock27.specs.Units.{byte_ticks_at_1bps}

-- program_clock_reference_base and program_clock_reference_extension
pub record Reference : Type 0 where
  pub base : ℕ
  pub extension : ℕ

-- its value, in ticks of 27 MHz
abbrev pub ticks_of : Reference → ℕ
ticks_of pcr = 300 * pcr.base + pcr.extension

-- the clock at byte i of an output of `rate` bits a second, in ticks of 27 MHz, if it is `base0` units of 90 kHz at byte 0
abbrev pub pcr_ticks : ℕ → ℕ → ℕ → ℕ
pcr_ticks rate base0 i = (byte_ticks_at_1bps * i / rate + 300 * base0) % (300 * 2 ^ 33)

-- the reference that says so
abbrev pub pcr_at : ℕ → ℕ → ℕ → Reference
pcr_at rate base0 i = record { base = pcr_ticks rate base0 i / 300; extension = pcr_ticks rate base0 i % 300 }
