-- The state of a clock after successive references: its line meets the next line.
use Rattle.std.proofs.Common.{◌≡◌, ◌∙◌, sym, ℕ, ◌+◌, ◌-◌, ◌*◌, ◌^◌, ◌≤◌, ◌<◌, ◌⊎◌, ◌&&◌, not, nat_le, nat_lt, Bool, true, false, Option, Some, None, refl, inl}
use Rattle.std.proofs.Common.{inr, arith}
use Rattle.std.specs.Prelude.{IfSome}
use Rattle.std.proofs.lemmas.Bool.Decides.{nat_tests}
use Rattle.std.proofs.Math.Nat.{mul-le-mul_left}
use Rattle.arrival.specs.declared.clock.PcrSample.{PcrSample}
use Rattle.arrival.specs.declared.clock.TimedSample.{TimedSample}
use Rattle.arrival.specs.declared.clock.ClockStep.TheVariants.{GoesOn}
use Rattle.arrival.specs.declared.line.Line.{Line}
use Rattle.arrival.specs.Clock.{IsClockLine, IsMoment, elapsed, goes_on, line_from as clock_line, moment_by as clock_moment, step_after, step_from, timed_after}
use Rattle.arrival.specs.Lines.{arrival_at}
use Rattle.arrival.proofs.Lines.{begins, ends}
use Rattle.arrival.specs.ArrivalClocks.{ArrivalClockState, after, line_from, line_to, moment_anew, moment_by, tick_after}
use Rattle.laws_view.proofs.Lines.{by_tick, tick_soon}

-- A reference in packet `index`, at the packet's byte d, in the first 2^40 bytes: a clock reference is at byte 10, a stamp at byte 0.
pub record IsAt (d index : ℕ) (sample : PcrSample) : Type 0 where
  pub byte : sample.byte ≡ 188 * index + d
  pub small : d ≤ 10
  pub near : sample.byte ≤ 2 ^ 40

-- On this line the byte arrives no later than this moment.
abbrev pub Reaches : Line → ℕ → ℕ → Type 0
Reaches line byte moment = (scale : ℕ) → arrival_at scale line byte ≤ scale * moment

-- The last reference is in packet `first`; on the line before it, its byte arrives no later than the reference's moment.
abbrev pub MeetsLast : ℕ → ℕ → ℕ → Option Line → TimedSample → Type 0
MeetsLast d first moment line last = IfSome line (λ l. (last.sample.byte ≡ 188 * first + d) × Reaches l last.sample.byte moment)

-- The state of a clock before packet `here`, while the packets from `first` on wait: the last reference, its moment, and the line, which begins
-- before the waiting packets.
pub record IsStateAt (d : ℕ) (last : Option TimedSample) (moment : ℕ) (line : Option Line) (first here : ℕ) : Type 0 where
  pub placed : IfSome last (λ l. IsMoment l.sample.byte moment × (l.sample.byte + 178 ≤ 188 * here))
  pub begun : IfSome line (λ l. IsClockLine l × (l.byte + 178 ≤ 188 * first))
  pub meets : IfSome last (MeetsLast d first moment line)

-- Packets from `first` on arrive on one line and then on the next line, so that the times of their bytes rise.
pub record MeetAt (before line : Line) (first : ℕ) : Type 0 where
  pub begun : 0 < before.bytes
  pub some : 0 < line.bytes
  pub meets : (scale : ℕ) → arrival_at scale before line.byte ≤ arrival_at scale line line.byte
  pub same_or_within : (line ≡ before) ⊎ (188 * first ≤ line.byte)

abbrev pub Meet : Option Line → Option Line → ℕ → Type 0
Meet before line first = IfSome line (λ l. (0 < l.bytes) × IfSome before (λ b. MeetAt b l first))

-- The line of a continuous clock

pub record GoesOnFrom (before : TimedSample) (sample : PcrSample) : Type 0 where
  pub apart : before.sample.byte + 188 ≤ sample.byte
  pub some : 0 < elapsed before.sample.ticks sample.ticks
  pub short : elapsed before.sample.ticks sample.ticks ≤ 27000000

goes_by : (byte byte' ticks : ℕ) (anew : Bool) → (not anew && nat_le (byte + 188) byte' && nat_lt 0 ticks && nat_le ticks 27000000) ≡ true →
    (byte + 188 ≤ byte') × ((0 < ticks) × (ticks ≤ 27000000))
goes_by byte byte' ticks anew e = (grind (arith, nat_tests), (grind (arith, nat_tests), grind (arith, nat_tests)))

goes : (before : TimedSample) (sample : PcrSample) → goes_on before.sample sample ≡ true → GoesOnFrom before sample
goes before sample e =
    let all = goes_by before.sample.byte sample.byte (elapsed before.sample.ticks sample.ticks) sample.discontinuity e in
    record { apart = all.0; some = all.1.0; short = all.1.1 }

-- The clock is continuous from the last reference; otherwise it begins again and keeps its line.
pub record OnLine (last : Option TimedSample) (sample : PcrSample) : Type 0 where
  pub before : TimedSample
  pub is : last ≡ Some before
  pub goes : GoesOnFrom before sample
  pub step : step_after last sample ≡ GoesOn (clock_line before sample)

pub record Anew (last : Option TimedSample) (sample : PcrSample) : Type 0 where
  pub none : (moment : ℕ) → line_from moment (step_after last sample) ≡ None
  pub moment : (moment : ℕ) (line : Option Line) → moment_by moment (step_after last sample) line sample.byte ≡ moment_anew line sample.byte

pub either : (last : Option TimedSample) (sample : PcrSample) → OnLine last sample ⊎ Anew last sample
unfolding step_after step_from line_from moment_by
either None sample = inr (record { none = λ moment. refl; moment = λ moment line. refl })
either (Some before) sample = by (goes_on before.sample sample) sample.discontinuity refl refl
  where
    by : (on anew : Bool) → goes_on before.sample sample ≡ on → sample.discontinuity ≡ anew → OnLine (Some before) sample ⊎ Anew (Some before) sample
    by true anew e f = inl (record { before = before; is = refl; goes = goes before sample e; step = rw e refl })
    by false true e f = inr (record { none = λ moment. rw (e, f) refl; moment = λ moment line. rw (e, f) refl })
    by false false e f = inr (record { none = λ moment. rw (e, f) refl; moment = λ moment line. rw (e, f) refl })

-- A clock that begins again

first_moment : (byte : ℕ) → IsMoment byte (moment_anew None byte)
unfolding moment_anew
first_moment byte = record { begun = omega arith; soon = omega arith }

later_moment : (line : Line) (byte : ℕ) → IsMoment byte (moment_anew (Some line) byte)
unfolding moment_anew
later_moment line byte = record { begun = omega arith; soon = omega arith }

reaches_anew : (line : Line) (byte : ℕ) → IsClockLine line → line.byte ≤ byte → Reaches line byte (moment_anew (Some line) byte)
unfolding moment_anew
reaches_anew line byte is le scale =
    let some : 0 < line.bytes = omega (arith, is.whole) in
    let soon : tick_after line byte ≤ moment_anew (Some line) byte = omega (arith, tick_soon line byte is le) in
    omega (arith, by_tick scale line byte some, mul-le-mul_left scale soon)

pub anew : (d : ℕ) (last : TimedSample) (sample : PcrSample) (line : Option Line) (first here k : ℕ) → last.sample ≡ sample → first ≤ here →
    IsAt d here sample →
    IfSome line (λ l. IsClockLine l × (l.byte + 178 ≤ 188 * first)) → IfSome line (λ l. k ≡ here) →
    IsStateAt d (Some last) (moment_anew line sample.byte) line k (here + 1)
anew d last sample None first here k same le at is place = record {
  placed = rw same (first_moment sample.byte, omega (arith, at.byte, at.small));
  begun = tt;
  meets = tt;
}
anew d last sample (Some line) first here k same le at is place = record {
  placed = rw same (later_moment line sample.byte, omega (arith, at.byte, at.small));
  begun = (is.0, omega (arith, is.1, le, place));
  meets = rw (same, place) (at.byte, reaches_anew line sample.byte is.0 (omega (arith, is.1, le, at.byte)));
}

-- A clock that is continuous

-- The line of the bytes from the reference before, from this moment on
abbrev pub line_with : TimedSample → PcrSample → ℕ → Line
line_with before sample moment = record {
  byte = before.sample.byte;
  moment = moment;
  bytes = sample.byte - before.sample.byte;
  ticks = elapsed before.sample.ticks sample.ticks;
}

is_line : (d : ℕ) (before : TimedSample) (sample : PcrSample) (moment here : ℕ) → GoesOnFrom before sample → IsAt d here sample →
    IsMoment before.sample.byte moment →
    IsClockLine (line_with before sample moment)
is_line d before sample moment here on at is = record {
  begun = is.begun;
  soon = is.soon;
  whole = omega (arith, on.apart);
  within = omega (arith, on.apart, at.near);
  slow = on.some;
  short = on.short;
}

goes_moment : (before : TimedSample) (sample : PcrSample) (moment : ℕ) → GoesOnFrom before sample → IsMoment before.sample.byte moment →
    IsMoment sample.byte (moment + elapsed before.sample.ticks sample.ticks)
goes_moment before sample moment on is = record { begun = omega (arith, is.begun); soon = omega (arith, is.soon, on.apart, on.short) }

reaches_end : (before : TimedSample) (sample : PcrSample) (moment : ℕ) → GoesOnFrom before sample →
    Reaches (line_with before sample moment) sample.byte (moment + elapsed before.sample.ticks sample.ticks)
reaches_end before sample moment on scale =
    let e : before.sample.byte + (sample.byte - before.sample.byte) ≡ sample.byte = omega (arith, on.apart) in
    let end = rw e at (ends scale (line_with before sample moment) (omega (arith, on.apart))) in
    omega (arith, end)

pub goes_on_line : (d : ℕ) (last before : TimedSample) (sample : PcrSample) (moment first here : ℕ) → last.sample ≡ sample → IsAt d here sample →
    GoesOnFrom before sample →
    IsMoment before.sample.byte moment → before.sample.byte + 178 ≤ 188 * here →
    IsStateAt d (Some last) (moment + elapsed before.sample.ticks sample.ticks) (Some (line_with before sample moment)) here (here + 1)
goes_on_line d last before sample moment first here same at on is le = record {
  placed = rw same (goes_moment before sample moment on is, omega (arith, at.byte, at.small));
  begun = (is_line d before sample moment here on at is, le);
  meets = rw same (at.byte, reaches_end before sample moment on);
}

-- The new line meets the line before it.
pub meets_before : (d : ℕ) (before : TimedSample) (sample : PcrSample) (line : Option Line) (moment first here : ℕ) → GoesOnFrom before sample →
    IfSome line (λ l. IsClockLine l × (l.byte + 178 ≤ 188 * first)) → MeetsLast d first moment line before →
    Meet line (Some (line_with before sample moment)) first
meets_before d before sample None moment first here on is meets = (omega (arith, on.apart), tt)
meets_before d before sample (Some line) moment first here on is meets =
    let some : 0 < (line_with before sample moment).bytes = omega (arith, on.apart) in (
      some,
      record {
        begun = omega (arith, is.0.whole);
        some = some;
        meets = λ scale. omega (arith, meets.1 scale, begins scale (line_with before sample moment) some);
        same_or_within = inr (omega (arith, meets.0));
      },
    )

-- A line meets itself.
pub meets_itself : (line : Option Line) (first : ℕ) → IfSome line (λ l. IsClockLine l × (l.byte + 178 ≤ 188 * first)) → Meet line line first
meets_itself None first is = tt
meets_itself (Some line) first is =
    let some : 0 < line.bytes = omega (arith, is.0.whole) in
    (some, record { begun = some; some = some; meets = λ scale. omega arith; same_or_within = inl refl })

-- One more reference

-- A line begins before the waiting packets, or with the last reference.
pub record FromLast (last : Option TimedSample) (line : Line) : Type 0 where
  pub before : TimedSample
  pub is : last ≡ Some before
  pub byte : line.byte ≡ before.sample.byte

abbrev pub Origin : Option TimedSample → ℕ → Option Line → Type 0
Origin last first line = IfSome line (λ l. (l.byte + 178 ≤ 188 * first) ⊎ FromLast last l)

pub origin_before : (last : Option TimedSample) (first : ℕ) (line : Option Line) → IfSome line (λ l. IsClockLine l × (l.byte + 178 ≤ 188 * first)) →
    Origin last first line
origin_before last first None is = tt
origin_before last first (Some line) is = inl is.1

pub record Next (d : ℕ) (clock : ArrivalClockState) (sample : PcrSample) (first here : ℕ) : Type 0 where
  pub state_is : (k : ℕ) → IfSome (line_to clock sample) (λ l. k ≡ here) →
      IsStateAt d (after clock sample).clock.last (after clock sample).moment (line_to clock sample) k (here + 1)
  pub meets : Meet clock.line (line_to clock sample) first
  pub none : line_to clock sample ≡ None → clock.line ≡ None
  pub origin : Origin clock.clock.last first (line_to clock sample)

next_anew : (d : ℕ) (clock : ArrivalClockState) (sample : PcrSample) (first here : ℕ) → IsStateAt d clock.clock.last clock.moment clock.line first here →
    first ≤ here →
    IsAt d here sample →
    Anew clock.clock.last sample → Next d clock sample first here
next_anew d clock sample first here s le at n =
    let same : line_to clock sample ≡ clock.line = rw (n.none clock.moment) refl in
    record {
      state_is = λ k place. rw (same, n.moment clock.moment clock.line)
          (anew d (timed_after clock.clock.last sample) sample clock.line first here k refl le at s.begun (rw same at place));
      meets = rw same (meets_itself clock.line first s.begun);
      none = λ e. sym same ∙ e;
      origin = rw same (origin_before clock.clock.last first clock.line s.begun);
    }

next_on : (d : ℕ) (clock : ArrivalClockState) (sample : PcrSample) (first here : ℕ) → IsStateAt d clock.clock.last clock.moment clock.line first here →
    IsAt d here sample →
    OnLine clock.clock.last sample → Next d clock sample first here
unfolding line_from moment_by
next_on d clock sample first here s at o =
    let line : Line = line_with o.before sample clock.moment in
    let last = rw o.is at s.placed in
    let same : line_to clock sample ≡ Some line = rw o.step refl in
    record {
      state_is = λ k place.
          let here_is : k ≡ here = rw same at place in
          rw (same, o.step, here_is)
          (goes_on_line d (record { sample = sample; moment = clock_moment (GoesOn (clock_line o.before sample)) sample }) o.before sample clock.moment first
          here refl at o.goes last.0 last.1);
      meets = rw same (meets_before d o.before sample clock.line clock.moment first here o.goes s.begun (rw o.is at s.meets));
      none = λ e. absurd (let no : ⊥ = cc in no);
      origin = rw same (inr (record { before = o.before; is = o.is; byte = refl }));
    }

pub next : (d : ℕ) (clock : ArrivalClockState) (sample : PcrSample) (first here : ℕ) → IsStateAt d clock.clock.last clock.moment clock.line first here →
    first ≤ here →
    IsAt d here sample →
    Next d clock sample first here
next d clock sample first here s le at = elim (either clock.clock.last sample) [
  | inl on ↦ next_on d clock sample first here s at on
  | inr new ↦ next_anew d clock sample first here s le at new
]

-- If the waiting packets arrive without a reference, the clock keeps its line and has no last reference.
pub state_without : (d : ℕ) (clock : ArrivalClockState) (first here : ℕ) → IsStateAt d clock.clock.last clock.moment clock.line first here → first ≤ here →
    IsStateAt d None clock.moment clock.line here (here + 1)
state_without d clock first here s le = record { placed = tt; begun = later clock.line s.begun; meets = tt }
  where
    later : (line : Option Line) → IfSome line (λ l. IsClockLine l × (l.byte + 178 ≤ 188 * first)) →
        IfSome line (λ l. IsClockLine l × (l.byte + 178 ≤ 188 * here))
    later None is = tt
    later (Some line) is = (is.0, omega (arith, is.1, le))

-- Without a reference the same state is right before the next packet.
pub state_later : (d : ℕ) (last : Option TimedSample) (moment : ℕ) (line : Option Line) (first here : ℕ) → IsStateAt d last moment line first here →
    IsStateAt d last moment line first (here + 1)
state_later d last moment line first here s = record { placed = later last s.placed; begun = s.begun; meets = s.meets }
  where
    later : (l : Option TimedSample) → IfSome l (λ l. IsMoment l.sample.byte moment × (l.sample.byte + 178 ≤ 188 * here)) →
        IfSome l (λ l. IsMoment l.sample.byte moment × (l.sample.byte + 178 ≤ 188 * (here + 1)))
    later None is = tt
    later (Some l) is = (is.0, omega (arith, is.1))
