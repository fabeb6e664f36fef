-- Laws of arrivals, over the definitions alone.
use Rattle.std.specs.Prelude.{◌≡◌, ℕ, ◌+◌, ◌*◌, ◌/◌, ◌%◌, ◌^◌, ◌<◌, ◌≤◌, List, ◌∷◌, ◌++◌, map, true, IfSome, All, None, Some}
use Rattle.std.specs.Option.{option_or}
use Rattle.clock27.specs.Arrival.{bytes_from}
use Rattle.clock27.specs.Units.{byte_ticks_at_1bps}
use Rattle.arrival.specs.Rows.{times_in_row}
use Rattle.arrival.specs.Lines.{Reaches, constant_line, parts_at, arrival_at, arrivals_on}
use Rattle.arrival.specs.declared.clock.PcrSample.{PcrSample}
use Rattle.arrival.specs.declared.line.Line.{Line}
use Rattle.arrival.specs.Clock.{IsClockLine, IsInRange, elapsed, goes_on, last_of, pcr_period, state_of}
use Rattle.arrival.specs.StampClocks.{jump_by, sample_of, ticks_between, ticks_since, value_after}
use Rattle.arrival.specs.declared.stamp_clock.StampValue.{StampValue}
use Rattle.arrival.specs.ByteLines.{line_to, first_after, line_of, LiesAfter, AreLater}

-- at a constant rate a byte arrives at its time in whole ticks
abbrev pub ConstantMoments : Type 0
ConstantMoments = (rate i : ℕ) → arrival_at 1 (constant_line rate) i ≡ byte_ticks_at_1bps * i / rate

-- on the scale of a buffer at that rate bytes in a row arrive at whole units
abbrev pub ConstantRow : Type 0
ConstantRow = (drain i n : ℕ) → times_in_row (i * drain) drain 1 n ≡ bytes_from drain i n

-- these are the arrivals on the line of a constant rate, in larger units
abbrev pub ConstantScale : Type 0
ConstantScale = (rate drain i n : ℕ) → 0 < rate →
    arrivals_on (rate * drain) (constant_line rate) i n ≡ map (λ t. byte_ticks_at_1bps * t) (bytes_from drain i n)

-- a line goes through its first reference
abbrev pub LineBegins : Type 0
LineBegins = (scale : ℕ) (line : Line) → 0 < line.bytes → arrival_at scale line line.byte ≡ scale * line.moment

-- a line goes through its second reference
abbrev pub LineEnds : Type 0
LineEnds = (scale : ℕ) (line : Line) → 0 < line.bytes → arrival_at scale line (line.byte + line.bytes) ≡ scale * (line.moment + line.ticks)

-- at the reference where a line follows another, both lines give the same time
abbrev pub LinesMeet : Type 0
LinesMeet = (scale : ℕ) (line next : Line) → 0 < line.bytes → 0 < next.bytes → next.byte ≡ line.byte + line.bytes → next.moment ≡ line.moment + line.ticks →
    arrival_at scale line next.byte ≡ arrival_at scale next next.byte

-- no byte arrives before an earlier byte
abbrev pub LineRises : Type 0
LineRises = (scale : ℕ) (line : Line) (i j : ℕ) → 0 < line.bytes → i ≤ j → arrival_at scale line i ≤ arrival_at scale line j

-- an arrival is rounded down: it is at most the exact time, and less than a unit before it
abbrev pub Rounded : Type 0
Rounded = (scale : ℕ) (line : Line) (i : ℕ) → 0 < line.bytes →
    (arrival_at scale line i * line.bytes ≤ scale * parts_at line i) × (scale * parts_at line i < (arrival_at scale line i + 1) * line.bytes)

-- a moment and its reference differ by whole periods of the clock
abbrev pub MomentLaw : Type 0
MomentLaw = (samples : List PcrSample) → All IsInRange samples → IfSome (last_of samples) (λ last. last.moment % pcr_period ≡ last.sample.ticks % pcr_period)

-- the line of a clock gives a moment to each byte up to 2^24 bytes before the line begins
abbrev pub ReachLaw : Type 0
ReachLaw = (line : Line) (i : ℕ) → IsClockLine line → line.byte ≤ i + 2 ^ 24 → Reaches line i

-- a byte between two references keeps the line that the second reference gave it, whatever arrives later: `later` has the references after the second (the
-- last of them first)
abbrev pub HeldLaw : Type 0
HeldLaw = (later earlier : List PcrSample) (before sample : PcrSample) (i : ℕ) →
    AreLater sample.byte later → LiesAfter earlier before i → i < first_after (before ∷ earlier) sample →
    line_of (later ++ sample ∷ before ∷ earlier) i ≡ option_or (line_to (before ∷ earlier) sample) (state_of (before ∷ earlier)).line

-- the state of the clock has the last of its references
abbrev pub StateLaw : Type 0
StateLaw = (samples : List PcrSample) → (state_of samples).last ≡ last_of samples

-- from one stamp to the next the clock advances by the ticks between both stamps
abbrev pub StampLaw : Type 0
StampLaw = (before : StampValue) (stamp : ℕ) → before.ticks < pcr_period →
    elapsed before.ticks (value_after (Some before) stamp).ticks ≡ ticks_between before.stamp stamp

-- a sample with another stamp is on a line with the sample before, unless the stamp jumps
abbrev pub StampJumpLaw : Type 0
StampJumpLaw = (before : StampValue) (stamp index : ℕ) → before.ticks < pcr_period → 0 < ticks_between before.stamp stamp →
    jump_by (ticks_since (Some before) stamp) ≡ None →
    goes_on (sample_of index before) (sample_of (index + 1) (value_after (Some before) stamp)) ≡ true
