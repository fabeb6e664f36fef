-- The time from the last frame of a unit to the next unit, from the first unit on
use Rattle.std.proofs.Common.{◌≡◌, ◌≤◌, ◌<◌, ℕ, ◌+◌, ◌-◌, ◌*◌, min, List, [], ◌∷◌, length, drop, get_or, refl, sym, add-one, arith}
use Rattle.std.proofs.Math.Nat.{mul-le-mul_left, mul-le-mul_right}
use Rattle.std.proofs.Math.Seq.{drop-cons}
use Rattle.std.proofs.lemmas.List.{drop_all}
use Rattle.pes_packet.specs.AccessUnits.{AccessUnit}
use Rattle.sound_frames.specs.declared.frame_headers.FrameKind.{FrameKind}
use Rattle.job_units.specs.FrameRests.{AreApart, RestLaw, last_due, least_rest, rest_after}

pub rest_more : (kind : FrameKind) (time i due : ℕ) (us : List AccessUnit) (u : AccessUnit) → i < length us → u ≡ get_or us i u →
    rest_after kind time due (drop i us) ≡ min (u.dts - due) (rest_after kind time (last_due kind time u) (drop (i + 1) us))
unfolding rest_after
rest_more kind time i due us u below at = rw (drop-cons us i u below, add-one i, sym at) refl

pub rest_end : (kind : FrameKind) (time i due : ℕ) (us : List AccessUnit) → length us ≤ i → rest_after kind time due (drop i us) ≡ 90_000
unfolding rest_after
rest_end kind time i due us over = rw (drop_all i us over) refl

pub rest_most : (kind : FrameKind) (time due : ℕ) (us : List AccessUnit) → rest_after kind time due us ≤ 90_000
unfolding rest_after
rest_most kind time due [] = omega arith
rest_most kind time due (u ∷ us) = omega (arith, rest_most kind time (last_due kind time u) us)

pub rest_none : (kind : FrameKind) (time : ℕ) (us : List AccessUnit) → length us ≡ 0 → least_rest kind time us ≡ 90_000
unfolding least_rest
rest_none kind time [] is = refl
rest_none kind time (u ∷ us) is = absurd (let no : ⊥ = omega (arith, is) in no)

pub rest_some : (kind : FrameKind) (time : ℕ) (us others : List AccessUnit) (u : AccessUnit) → us ≡ u ∷ others →
    least_rest kind time us ≡ rest_after kind time (last_due kind time u) others
unfolding least_rest
rest_some kind time us others u is = rw is refl

-- Units that are at least so long after the last frame before them
apart : (kind : FrameKind) (time rest due : ℕ) (us : List AccessUnit) → 0 < rest → rest ≤ rest_after kind time due us → AreApart kind time rest due us
unfolding AreApart rest_after
apart kind time rest due [] some le = tt
apart kind time rest due (u ∷ us) some le = (omega (arith, some, le), apart kind time rest (last_due kind time u) us some (omega (arith, le)))

pub apart_by_least : RestLaw
unfolding least_rest
apart_by_least kind time u us some = apart kind time (rest_after kind time (last_due kind time u) us) (last_due kind time u) us some (omega arith)

-- the product of two numbers of 64 bits
pub product_fits : (a b : ℕ) → a ≤ 18446744073709551615 → b ≤ 18446744073709551615 → a * b ≤ 18446744073709551615 * 18446744073709551615
product_fits a b first second =
    let one = mul-le-mul_right b first in
    let two = mul-le-mul_left 18446744073709551615 second in
    omega (arith, one, two)
