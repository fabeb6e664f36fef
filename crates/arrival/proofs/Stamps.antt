-- The clock of arrival time stamps runs on by the ticks between the stamps.
use Rattle.std.proofs.Common.{◌≡◌, ◌∙◌, sym, ℕ, ◌+◌, ◌-◌, ◌*◌, ◌%◌, ◌^◌, ◌≤◌, ◌<◌, ◌⊎◌, inl, inr, ◌&&◌, not, nat_le, nat_lt, Bool, true, false, Option}
use Rattle.std.proofs.Common.{if◌then◌else◌, refl, ap, arith, Some, None}
use Rattle.std.proofs.lemmas.Bool.Decides.{nat_tests}
use Rattle.arrival.specs.Clock.{elapsed, goes_on, longest_interval, pcr_period}
use Rattle.arrival.specs.Laws.{StampJumpLaw, StampLaw}
use Rattle.arrival.specs.StampClocks.{jump_by, sample_of, stamp_period, ticks_between, ticks_since, value_after}
use Rattle.arrival.specs.declared.clock.PcrSample.{PcrSample}
use Rattle.arrival.specs.declared.stamp_clock.StampValue.{StampValue}

-- If a clock runs on by d ticks, the difference of its values is d, even if they wrap around.
on_by : (ticks d : ℕ) → ticks < 2576980377600 → d < 1073741824 → ((ticks + d) % 2576980377600 + 5153960755200 - ticks) % 2576980377600 ≡ d
on_by ticks d before small = omega (arith, before, small)

between_small : (before stamp : ℕ) → ticks_between before stamp < 1073741824
between_small before stamp = omega arith

pub stamp_law : StampLaw
unfolding value_after
stamp_law before stamp within = on_by before.ticks (ticks_between before.stamp stamp) within (between_small before.stamp stamp)

no_jump : (d : ℕ) → (b : Bool) → nat_lt 27000000 d ≡ b → (if b then Some d else None) ≡ None → d ≤ 27000000
no_jump d true e none = absurd (let no : ⊥ = cc in no)
no_jump d false e none = grind (arith, nat_tests)

goes_by : (byte byte' d : ℕ) → byte + 188 ≤ byte' → 0 < d → d ≤ 27000000 →
    (not false && nat_le (byte + 188) byte' && nat_lt 0 d && nat_le d 27000000) ≡ true
goes_by byte byte' d apart some short = grind (arith, nat_tests)

pub jump_law : StampJumpLaw
unfolding jump_by ticks_since
jump_law before stamp index within some none =
    let d : ℕ = ticks_between before.stamp stamp in
    let short : d ≤ 27000000 = no_jump d (nat_lt 27000000 d) refl none in
    let same = stamp_law before stamp within in
    rw same (goes_by (188 * index) (188 * (index + 1)) d (omega arith) some short)
