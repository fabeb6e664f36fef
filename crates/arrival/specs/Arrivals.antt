-- How the bytes of a stream arrive: at a constant rate, or on the lines between clock references.
use Rattle.std.specs.Prelude.{ℕ, ◌+◌, ◌-◌, ◌/◌, ◌^◌, ◌&&◌, min, max, nat_le, nat_lt, Bool, false, if◌then◌else◌, List, []}
use Rattle.clock27.specs.Arrival.{bytes_from}
use Rattle.arrival.specs.Lines.{arrivals_on, parts_at}
use Rattle.arrival.specs.declared.arrival.Arrival.{Arrival}
use Rattle.arrival.specs.declared.arrival.Arrival.TheVariants.{Unknown, AtRate, OnLines}
use Rattle.arrival.specs.declared.arrival.ClockLines.{ClockLines}
use Rattle.arrival.specs.declared.line.Line.{Line}

-- the line of byte i, if one line follows another: the first line up to the byte where the second line begins
abbrev pub line_at : ClockLines → ℕ → Line
line_at lines i = if nat_le i lines.line.byte then lines.before else lines.line

-- n bytes from byte i on have times: they lie in the first 2^40 bytes, and no line begins more than 2^24 bytes after byte i
unfoldable pub has_times : Arrival → ℕ → ℕ → Bool
has_times Unknown i n = false
has_times (AtRate rate) i n = nat_le (i + n) (2 ^ 40)
has_times (OnLines lines) i n = nat_le (i + n) (2 ^ 40) && nat_le lines.before.byte (i + 2 ^ 24) && nat_le lines.line.byte (i + 2 ^ 24)

-- their times at a buffer that is drained at `drain`, all on the line of the first of these bytes; at a constant rate nothing is rounded
unfoldable pub times_at : Arrival → ℕ → ℕ → ℕ → List ℕ
times_at Unknown drain i n = []
times_at (AtRate rate) drain i n = bytes_from drain i n
times_at (OnLines lines) drain i n = arrivals_on drain (line_at lines i) i n

-- how many bytes of a packet from byte i on lie on the first line, if the second line begins within the packet
unfoldable pub lead_of : Arrival → ℕ → ℕ
lead_of Unknown i = 0
lead_of (AtRate rate) i = 0
lead_of (OnLines lines) i = if nat_le i lines.line.byte && nat_lt lines.line.byte (i + 188) then lines.line.byte + 1 - i else 0

-- the moment of byte i in ticks, rounded down
abbrev pub moment_on : ClockLines → ℕ → ℕ
moment_on lines i = min (parts_at (line_at lines i) i / max 1 (line_at lines i).bytes) (2 ^ 64 - 1)

-- how long a byte takes to leave a buffer at its rate, in units of the scale of times
unfoldable pub step_of : Arrival → ℕ
step_of Unknown = 216000000
step_of (AtRate rate) = rate
step_of (OnLines lines) = 216000000
