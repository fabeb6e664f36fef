-- The definitions, applied to numbers
use Rattle.std.proofs.Common.{◌≡◌, [], ◌∷◌, refl}
use Rattle.clock27.specs.Arrival.{bytes_from}
use Rattle.clock27.specs.Departure.{departures}
use Rattle.clock27.specs.Fullness.{fullness}
use Rattle.clock27.specs.Peak.{most_found}
use Rattle.clock27.specs.Reference.{pcr_at}
use Rattle.clock27.specs.Release.{release}

-- Byte 198 at 1,504,000 bits a second
reference_198 : pcr_at 1504000 0 198 ≡ record { base = 94; extension = 236 }
reference_198 = refl

-- The 33 bits of the base wrap around: 94 more than 2^33 - 92.
reference_round : pcr_at 1504000 8589934500 198 ≡ record { base = 2; extension = 236 }
reference_round = refl

-- At 1,504,000 bits a second a slot lasts 90 units of 90 kHz.
release_1700 : release 1504000 1600 1700 ≡ 2
release_1700 = refl

-- Four bytes arrive, 2 apart, and each takes 3 to leave; at the last arrival two of the bytes are there.
leaving : departures 3 0 (bytes_from 2 0 4) ≡ 3 ∷ 6 ∷ 9 ∷ 12 ∷ []
unfolding departures bytes_from
leaving = refl

holding : fullness 6 (bytes_from 2 0 4) (departures 3 0 (bytes_from 2 0 4)) ≡ 2
unfolding departures bytes_from fullness
holding = refl

-- The greatest fullness of these four bytes
peak_of_four : most_found 3 0 (bytes_from 2 0 4) ≡ 2
unfolding most_found bytes_from
peak_of_four = refl
