-- The definitions, with numbers
use Rattle.std.proofs.Common.{◌≡◌, ◌+◌, ◌*◌, [], ◌∷◌, false, true, refl}
use Rattle.arrival.specs.Rows.{times_in_row}
use Rattle.arrival.specs.Lines.{arrival_at}
use Rattle.arrival.specs.Clock.{elapsed, goes_on}

-- Four bytes, with a byte every 3 / 2 units
in_row : times_in_row 5 3 2 4 ≡ 2 ∷ 4 ∷ 5 ∷ 7 ∷ []
unfolding times_in_row
in_row = refl

-- A line of 2,000 ticks for 376 bytes from byte 10 on: byte 198 is 1,000 ticks after byte 10, byte 0 is between 53 and 54 ticks before it, and byte 11 is 2,000
-- / 376 ticks after it.
half : arrival_at 1 (record { byte = 10; moment = 5000; bytes = 376; ticks = 2000 }) 198 ≡ 6000
half = refl

before_it : arrival_at 1 (record { byte = 10; moment = 5000; bytes = 376; ticks = 2000 }) 0 ≡ 4946
before_it = refl

next_byte : arrival_at 376 (record { byte = 10; moment = 5000; bytes = 376; ticks = 2000 }) 11 ≡ 376 * 5000 + 2000
next_byte = refl

-- The clock wraps around between these values.
round : elapsed 2576980377500 100 ≡ 200
round = refl

goes_round : goes_on (record { byte = 10; ticks = 2576980377500; discontinuity = false }) (record { byte = 198; ticks = 100; discontinuity = false }) ≡ true
goes_round = refl

-- A clock does not run back, nor by more than a second, nor within one packet.
back : goes_on (record { byte = 10; ticks = 200; discontinuity = false }) (record { byte = 198; ticks = 100; discontinuity = false }) ≡ false
back = refl

far : goes_on (record { byte = 10; ticks = 200; discontinuity = false }) (record { byte = 198; ticks = 27000201; discontinuity = false }) ≡ false
far = refl

same : goes_on (record { byte = 10; ticks = 200; discontinuity = false }) (record { byte = 197; ticks = 300; discontinuity = false }) ≡ false
same = refl
