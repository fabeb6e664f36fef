-- The line of a byte is known once the clock reference after the byte has come.
use Rattle.std.proofs.Common.{◌≡◌, ◌∙◌, ℕ, ◌+◌, ◌-◌, ◌<◌, ◌≤◌, Bool, true, false, is_some, List, [], ◌∷◌, ◌++◌, Option, Some, None, if◌then◌else◌, refl, ap}
use Rattle.std.proofs.Common.{arith}
use Rattle.std.proofs.lemmas.Bool.{le-leb, lt-leb}
use Rattle.std.specs.Option.{option_or}
use Rattle.arrival.specs.declared.clock.PcrSample.{PcrSample}
use Rattle.arrival.specs.declared.line.Line.{Line}
use Rattle.arrival.specs.Clock.{last_of, step_after, line_in, timed_after, state_of}
use Rattle.arrival.specs.ByteLines.{line_to, first_after, line_by, LiesAfter, AreLater}
use Rattle.arrival.specs.Laws.{HeldLaw, StateLaw}

pub state_law : StateLaw
unfolding state_of last_of
state_law [] = refl
state_law (sample ∷ earlier) = ap (λ last. Some (timed_after last sample)) (state_law earlier)

state_line : (earlier : List PcrSample) (before : PcrSample) → (state_of (before ∷ earlier)).line ≡ line_to earlier before
unfolding state_of
state_line earlier before = ap (λ last. line_in (step_after last before)) (state_law earlier)

-- The place where the bytes after a reference begin
after_low : (b : Bool) (byte : ℕ) → byte ≤ (if b then byte + 1 else byte - 10) + 10
after_low true byte = omega arith
after_low false byte = omega arith

after_high : (b : Bool) (byte : ℕ) → (if b then byte + 1 else byte - 10) ≤ byte + 1
after_high true byte = omega arith
after_high false byte = omega arith

-- A byte before a reference has the line that the earlier references give.
before_it : (next : Option Line) (earlier : List PcrSample) (before sample : PcrSample) (i : ℕ) → i < first_after (before ∷ earlier) sample →
    line_by next (sample ∷ before ∷ earlier) i ≡ line_by (line_to (before ∷ earlier) sample) (before ∷ earlier) i
unfolding line_by
before_it next earlier before sample i below = rw (lt-leb (first_after (before ∷ earlier) sample) i below) refl

or_none : (line : Option Line) → line ≡ option_or line None
or_none None = refl
or_none (Some line) = refl

-- A byte after a reference is on the next line, or on the last line if there is no next one.
after_it : (next : Option Line) (earlier : List PcrSample) (before : PcrSample) (i : ℕ) → LiesAfter earlier before i →
    line_by next (before ∷ earlier) i ≡ option_or next (line_to earlier before)
unfolding line_by LiesAfter last_of step_after line_in
after_it next [] before i after = or_none next
after_it next (e ∷ earlier) before i after = rw (le-leb (first_after (e ∷ earlier) before) i after) refl

between : (next : Option Line) (earlier : List PcrSample) (before sample : PcrSample) (i : ℕ) → LiesAfter earlier before i →
    i < first_after (before ∷ earlier) sample →
    line_by next (sample ∷ before ∷ earlier) i ≡ option_or (line_to (before ∷ earlier) sample) (line_to earlier before)
between next earlier before sample i after below = before_it next earlier before sample i below
    ∙ after_it (line_to (before ∷ earlier) sample) earlier before i after

-- Later references do not change the line of a byte.
later_same : (later earlier : List PcrSample) (next : Option Line) (before sample : PcrSample) (i : ℕ) → AreLater sample.byte later →
    LiesAfter earlier before i →
    i < first_after (before ∷ earlier) sample →
    line_by next (later ++ sample ∷ before ∷ earlier) i ≡ option_or (line_to (before ∷ earlier) sample) (line_to earlier before)
unfolding AreLater
later_same [] earlier next before sample i come after below = between next earlier before sample i after below
later_same (s ∷ []) earlier next before sample i come after below =
    let low = after_low (is_some (line_to (sample ∷ before ∷ earlier) s)) s.byte in
    let high = after_high (is_some (line_to (before ∷ earlier) sample)) sample.byte in
    before_it next (before ∷ earlier) sample s i (omega (arith, low, high, come.0, below))
    ∙ between (line_to (sample ∷ before ∷ earlier) s) earlier before sample i after below
later_same (s ∷ t ∷ later) earlier next before sample i come after below =
    let low = after_low (is_some (line_to (t ∷ later ++ sample ∷ before ∷ earlier) s)) s.byte in
    let high = after_high (is_some (line_to (before ∷ earlier) sample)) sample.byte in
    before_it next (later ++ sample ∷ before ∷ earlier) t s i (omega (arith, low, high, come.0, below))
    ∙ later_same (t ∷ later) earlier (line_to (t ∷ later ++ sample ∷ before ∷ earlier) s) before sample i come.1 after below

pub held_law : HeldLaw
held_law later earlier before sample i come after below =
    rw (state_line earlier before) (later_same later earlier None before sample i come after below)
