-- What a step of a clock says about its line, and about moments
use Rattle.std.proofs.Common.{◌≡◌, ℕ, ◌+◌, ◌≤◌, ◌&&◌, not, nat_le, nat_lt, Bool, true, false, Option, Some, None, refl, subst, arith}
use Rattle.std.specs.Prelude.{IfSome}
use Rattle.std.specs.Option.{option_or}
use Rattle.std.proofs.lemmas.Bool.Decides.{nat_tests}
use Rattle.arrival.specs.declared.clock.PcrSample.{PcrSample}
use Rattle.arrival.specs.declared.clock.TimedSample.{TimedSample}
use Rattle.arrival.specs.declared.clock.ClockStep.{ClockStep}
use Rattle.arrival.specs.declared.clock.ClockStep.TheVariants.{First, GoesOn, Announced, Jump}
use Rattle.arrival.specs.declared.line.Line.{Line}
use Rattle.arrival.specs.Clock.{IfGoesOn, IsClockLine, IsMoment, elapsed, goes_on, line_in, step_after, step_from}

-- Each line that a clock passes on is a line of the clock.
pub clock_line : (step : ClockStep) (before line : Option Line) → line ≡ option_or (line_in step) before → IfSome line IsClockLine → IfGoesOn step IsClockLine
unfolding line_in IfGoesOn
clock_line First before line is clock = tt
clock_line (GoesOn l) before line is clock = subst (λ (x : Option Line). IfSome x IsClockLine) is clock
clock_line Announced before line is clock = tt
clock_line (Jump ticks) before line is clock = tt

-- The line begins at the reference before.
begins_by : (before : TimedSample) (sample : PcrSample) (moment : ℕ) (on anew : Bool) → goes_on before.sample sample ≡ on → sample.discontinuity ≡ anew →
    IsMoment before.sample.byte moment → IfGoesOn (step_from before sample) (λ line. IsMoment line.byte moment)
unfolding step_from IfGoesOn
begins_by before sample moment true anew e f is = rw e is
begins_by before sample moment false true e f is = rw (e, f) tt
begins_by before sample moment false false e f is = rw (e, f) tt

pub begins : (last : Option TimedSample) (sample : PcrSample) (step : ClockStep) (moment : ℕ) → step ≡ step_after last sample →
    IfSome last (λ l. IsMoment l.sample.byte moment) → IfGoesOn step (λ line. IsMoment line.byte moment)
unfolding step_after IfGoesOn
begins None sample step moment is m = rw is tt
begins (Some before) sample step moment is m = rw is (begins_by before sample moment (goes_on before.sample sample) sample.discontinuity refl refl m)

-- The next reference is at most a second later for each packet in between.
soon : (byte byte' moment ticks : ℕ) (a b : Bool) → (a && nat_le (byte + 188) byte' && b && nat_le ticks 27000000) ≡ true → IsMoment byte moment →
    IsMoment byte' (moment + ticks)
soon byte byte' moment ticks a b e is =
    let apart : byte + 188 ≤ byte' = grind (arith, nat_tests) in
    let short : ticks ≤ 27000000 = grind (arith, nat_tests) in
    record { begun = omega (arith, is.begun); soon = omega (arith, is.soon, apart, short) }

ends_by : (before : TimedSample) (sample : PcrSample) (moment : ℕ) (on anew : Bool) → goes_on before.sample sample ≡ on → sample.discontinuity ≡ anew →
    IsMoment before.sample.byte moment → IfGoesOn (step_from before sample) (λ line. IsMoment sample.byte (moment + line.ticks))
unfolding step_from IfGoesOn
ends_by before sample moment true anew e f is =
    rw e (soon before.sample.byte sample.byte moment (elapsed before.sample.ticks sample.ticks) (not sample.discontinuity)
    (nat_lt 0 (elapsed before.sample.ticks sample.ticks)) e is)
ends_by before sample moment false true e f is = rw (e, f) tt
ends_by before sample moment false false e f is = rw (e, f) tt

pub ends : (last : Option TimedSample) (sample : PcrSample) (step : ClockStep) (moment : ℕ) → step ≡ step_after last sample →
    IfSome last (λ l. IsMoment l.sample.byte moment) → IfGoesOn step (λ line. IsMoment sample.byte (moment + line.ticks))
unfolding step_after IfGoesOn
ends None sample step moment is m = rw is tt
ends (Some before) sample step moment is m = rw is (ends_by before sample moment (goes_on before.sample sample) sample.discontinuity refl refl m)
