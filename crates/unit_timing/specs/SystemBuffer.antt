-- The two buffers of a program's tables: all bytes of the packets of the PAT and of the program's PMT enter a transport
-- buffer that is drained at 1,000,000 bits a second, and from there a system buffer that is drained at 80,000 bits a
-- second (ISO/IEC 13818-1, 2.4.2.3; the rates and sizes are this profile's).
--
-- Times are in units of 8 / (R * 2,000,000) seconds: byte i arrives at 2,000,000 * i, and takes 2 * R to leave the
-- first buffer and 25 * R to leave the second.
use Rattle.std.specs.Prelude.{ℕ, ◌*◌, ◌<◌, ◌≤◌, Bool, List}
use Rattle.clock27.specs.Arrival.{arrivals}
use Rattle.clock27.specs.Departure.{departures}
use Rattle.clock27.specs.Fullness.{fullness}
use Rattle.own_slots.specs.Slots.{Rises}
use Rattle.own_slots.specs.Work.{BoundsWork}
use Rattle.unit_timing.specs.Buffers.{system_tb_drain, bsys_drain}

-- the arrivals of the bytes of the packets with these indices
abbrev pub system_arrivals : List ℕ → List ℕ
system_arrivals slots = arrivals 2000000 slots

-- when they leave the transport buffer, and so enter the system buffer
abbrev pub system_tb_left : ℕ → List ℕ → List ℕ
system_tb_left rate slots = departures (2 * rate) 0 (system_arrivals slots)

-- when they leave the system buffer
abbrev pub bsys_left : ℕ → List ℕ → List ℕ
bsys_left rate slots = departures (25 * rate) 0 (system_tb_left rate slots)

-- how many bytes each holds at the moment x
abbrev pub system_tb_fullness : ℕ → ℕ → List ℕ → ℕ
system_tb_fullness rate x slots = fullness x (system_arrivals slots) (system_tb_left rate slots)

abbrev pub bsys_fullness : ℕ → ℕ → List ℕ → ℕ
bsys_fullness rate x slots = fullness x (system_tb_left rate slots) (bsys_left rate slots)

-- neither buffer overflows, if the work of each by itself fits
abbrev pub SystemLaw : Type 0
SystemLaw = (own : ℕ → Bool) (rate : ℕ) (slots : List ℕ) (x : ℕ) → 0 < rate → Rises own 0 slots →
    ((room peak : ℕ) (W : ℕ → ℕ) → BoundsWork own rate system_tb_drain room peak W → system_tb_fullness rate x slots ≤ room)
    × ((room peak : ℕ) (W : ℕ → ℕ) → BoundsWork own rate bsys_drain room peak W → bsys_fullness rate x slots ≤ room)
