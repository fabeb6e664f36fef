-- The definitions applied to numbers
use Rattle.std.proofs.Common.{◌≡◌, List, [], ◌∷◌, Some, refl}
use Rattle.clock27.specs.Departure.{departures, last_left}
use Rattle.clock27.specs.Peak.{greatest_at, most_found}
use Rattle.tstd_rows.specs.History.{Part, arrivals_of, transport_of, payload_left, main_fullness, main_peak, until_of, unit_of}
use Rattle.tstd_rows.specs.History.Part.{Passes, Carries, Begins}

-- A unit with two bytes that is due at 100, and a unit with one byte that is due at 45, each after header bytes; a byte takes 10 to leave
abbrev two_units : List Part
two_units =
    Carries (21 ∷ []) ∷ Passes (20 ∷ []) ∷ Begins (record { until = 45; deadline = 45 })
    ∷ Carries (2 ∷ 3 ∷ []) ∷ Passes (0 ∷ 1 ∷ []) ∷ Begins (record { until = 100; deadline = 100 }) ∷ []

-- The payload bytes leave the transport buffer at 30, 40 and 60.
payload : payload_left 10 two_units ≡ 30 ∷ 40 ∷ 60 ∷ []
unfolding payload_left arrivals_of departures last_left
payload = refl

-- The transport buffer holds at most four bytes.
most : (transport_of 10 two_units).most ≡ 4
unfolding arrivals_of most_found
most = refl

-- The main buffer holds one byte at 30 and two bytes from 40 until the first unit is due; the second unit is too late to enter it.
one : main_fullness 10 two_units 30 ≡ 1
unfolding main_fullness until_of arrivals_of departures last_left
one = refl

two : main_fullness 10 two_units 60 ≡ 2
unfolding main_fullness until_of arrivals_of departures last_left
two = refl

none : main_fullness 10 two_units 100 ≡ 0
unfolding main_fullness until_of arrivals_of departures last_left
none = refl

peak : main_peak 10 two_units ≡ 2
unfolding main_fullness until_of payload_left arrivals_of departures last_left greatest_at
peak = refl

-- The byte of the second unit leaves at 60, 15 after its deadline.
late : unit_of 10 two_units ≡ Some (record { due = record { until = 45; deadline = 45 }; bytes = 1; left = 60 })
unfolding unit_of arrivals_of last_left
late = refl
