-- The state of the clock is the state after all samples.
use Rattle.std.proofs.Common.{[], ◌∷◌, refl, ap}
use Rattle.arrival.specs.Clock.{ClockState, state_of, state_after}
use Rattle.tr101290.specs.PcrLaws.{ClockLaw, watch_of}

pub clock_law : ClockLaw
unfolding watch_of state_of
clock_law timing [] = (refl, refl)
clock_law timing (sample ∷ earlier) =
    let rest = clock_law timing earlier in
    (ap (λ (clock : ClockState). state_after clock sample) rest.0, rest.1)
