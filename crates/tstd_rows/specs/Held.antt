-- What the buffers of a stream hold after all its parts so far: the rate of the stream and the rate out of its transport buffer, both in bits a second, the
-- parts (the last part first), and the current excess of the main buffer.
use Rattle.std.specs.Prelude.{◌≡◌, ℕ, List, [], ◌∷◌, Option, None}
use Rattle.std.specs.Option.{option_to_list}
use Rattle.clock27.specs.Peak.{greatest_at, most_found}
use Rattle.tstd_rows.specs.declared.excess.Excess.{Excess}
use Rattle.tstd_rows.specs.Excesses.{excess_after, excesses_ended}
use Rattle.tstd_rows.specs.History.{Part, arrivals_of, transport_of, last_of, left_after, main_fullness, main_peak, row_least, unit_of}
use Rattle.tstd_rows.specs.History.Part.{Passes, Carries, Begins}
use Rattle.tstd_rows.specs.Viewed.{IsViewOf}
use Rattle.tstd_rows.specs.Limits.{tb_size}
use Rattle.tstd_rows.specs.MainExcess.{after_row, ended_by}
use Rattle.tstd_rows.specs.Busy.{busy_of, busy_under_way, second_of}
use Rattle.tstd_rows.specs.declared.busy_watch.BusyWatch.{BusyWatch}
use Rattle.tstd_rows.specs.declared.busy_watch.Stay.{Stay}
use Rattle.tstd_rows.specs.declared.main_watch.MainWatch.{MainWatch}
use Rattle.tstd_rows.specs.declared.unit_seen.UnitSeen.{UnitSeen}
use Rattle.tstd_rows.specs.declared.unit_seen.DueTime.{DueTime}
use Rattle.tstd_rows.specs.declared.stream_buffers.StreamBuffers.{StreamBuffers}

pub record Held : Type 0 where
  pub rate : ℕ
  pub rx : ℕ
  pub parts : List Part
  pub main : MainWatch

-- the state before the first part
abbrev pub empty : ℕ → ℕ → ℕ → Held
empty rate rx size = record { rate = rate; rx = rx; parts = []; main = record { size = size; under_way = None } }

-- the buffers hold these parts; the step of the transport buffer is the rate
pub record IsHeld (buffers : StreamBuffers) (h : Held) : Type 0 where
  pub rx : buffers.rx ≡ h.rx
  pub step : buffers.view.transport.step ≡ h.rate
  pub size : buffers.view.watch.size ≡ tb_size
  pub view : IsViewOf buffers.view h.parts
  pub main : buffers.main ≡ h.main
  pub busy : buffers.busy ≡ busy_of h.rate (second_of h.rate h.rx) h.parts

-- 1. The state of the buffers

-- the most bytes that each buffer has held
abbrev pub transport_most : Held → ℕ
transport_most h = (transport_of h.rate h.parts).most

abbrev pub main_most : Held → ℕ
main_most h = main_peak h.rate h.parts

-- the current excess of the transport buffer
abbrev pub transport_under_way : Held → Option Excess
transport_under_way h = excess_after h.rate tb_size 0 None (arrivals_of h.parts)

-- how long the transport buffer was not empty, and how long it has been not empty now
abbrev pub transport_busy : Held → BusyWatch
transport_busy h = busy_of h.rate (second_of h.rate h.rx) h.parts

abbrev pub transport_busy_under_way : Held → Option Stay
transport_busy_under_way h = busy_under_way (transport_busy h) (last_of h.rate h.parts)

-- the current unit
abbrev pub unit_before : Held → Option UnitSeen
unit_before h = unit_of h.rate h.parts

-- 2. Bytes that arrive at these times

-- the excesses of the transport buffer that end before a byte that arrives at these times
abbrev pub transport_ended : Held → List ℕ → List Excess
transport_ended h times = excesses_ended h.rate tb_size (last_of h.rate h.parts) (transport_under_way h) times

-- the most bytes in the transport buffer when such a byte arrives, including this byte
abbrev pub transport_found : Held → List ℕ → ℕ
transport_found h times = most_found h.rate (last_of h.rate h.parts) times

-- the state if these bytes stop at the transport buffer
abbrev pub passed : Held → List ℕ → Held
passed h times = record { rate = h.rate; rx = h.rx; parts = Passes times ∷ h.parts; main = h.main }

-- if these bytes belong to the current unit: the most bytes in the main buffer when a byte of them enters it
abbrev pub main_found : Held → List ℕ → ℕ
main_found h times = greatest_at (main_fullness h.rate (Carries times ∷ h.parts)) (left_after h.rate h.parts times)

-- the fewest bytes that such a byte finds there, not counting itself
abbrev pub main_least_found : Held → List ℕ → Option ℕ
main_least_found h times = row_least h.rate h.parts times

-- when the last of these bytes enters the main buffer
abbrev pub last_entry : Held → List ℕ → ℕ
last_entry h times = last_of h.rate (Carries times ∷ h.parts)

abbrev pub carried : Held → List ℕ → Held
carried h times = record {
  rate = h.rate;
  rx = h.rx;
  parts = Carries times ∷ h.parts;
  main = record { size = h.main.size; under_way = after_row h.main.size h.main.under_way (main_found h times) (last_entry h times) };
}

-- the excess of the main buffer that has ended by then
abbrev pub main_ended : Held → List ℕ → List Excess
main_ended h times = option_to_list (ended_by h.main.size h.main.under_way (main_found h times) (last_entry h times))

-- 3. A unit begins with the next byte

abbrev pub begun : Held → DueTime → Held
begun h due = record { rate = h.rate; rx = h.rx; parts = Begins due ∷ h.parts; main = h.main }
