-- Laws of a transport buffer, over the definitions alone.
use Rattle.std.specs.Prelude.{◌≡◌, ℕ, ◌/◌, ◌<◌, ◌≤◌, ◌⊎◌, List, [], ◌∷◌, ◌++◌, None, All}
use Rattle.std.specs.Option.{option_to_list}
use Rattle.clock27.specs.Departure.{departures}
use Rattle.clock27.specs.Fullness.{fullness}
use Rattle.clock27.specs.Peak.{IsPeak}
use Rattle.arrival.specs.Rows.{times_in_row}
use Rattle.tstd_rows.specs.Excesses.{excess_after, excesses_ended}
use Rattle.tstd_rows.specs.Buffers.{entered, level_at}
use Rattle.tstd_rows.specs.declared.excess.Excess.{Excess}
use Rattle.tstd_rows.specs.declared.transport_buffer.TransportBuffer.{TransportBuffer}

-- an empty buffer
abbrev pub empty : ℕ → TransportBuffer
empty step = record { step = step; bytes = 0; last = 0; most = 0 }

-- bytes that enter in two parts enter one after another
abbrev pub EnteredLaw : Type 0
EnteredLaw = (buffer : TransportBuffer) (times more : List ℕ) → entered (entered buffer times) more ≡ entered buffer (times ++ more)

-- the times rise: no time is before `from`, nor before the time in front of it
unfoldable pub Rises : ℕ → List ℕ → Type 0
Rises from [] = Unit {0}
Rises from (t ∷ ts) = (from ≤ t) × Rises t ts

-- the times of a row rise
abbrev pub RowRises : Type 0
RowRises = (from pace parts n : ℕ) → 0 < parts → Rises (from / parts) (times_in_row from pace parts n)

-- rising times followed by later rising times rise
abbrev pub RisesAppended : Type 0
RisesAppended = (from middle : ℕ) (times more : List ℕ) → Rises from times → from ≤ middle → All (λ t. t ≤ middle) times → Rises middle more →
    Rises from (times ++ more)

-- at a moment at or after the last arrival the level of the state is the fullness
abbrev pub LevelLaw : Type 0
LevelLaw = (step moment : ℕ) (times : List ℕ) → 0 < step → All (λ t. t ≤ moment) times →
    fullness moment times (departures step 0 times) ≡ level_at (entered (empty step) times) moment

-- the `most` of the state is the greatest fullness over all moments
abbrev pub MostLaw : Type 0
MostLaw = (step : ℕ) (times : List ℕ) → 0 < step → Rises 0 times →
    IsPeak (λ x. fullness x times (departures step 0 times)) (entered (empty step) times).most

-- all excesses of bytes that arrive at an empty buffer, including the current excess at the end
abbrev pub excesses : ℕ → ℕ → List ℕ → List Excess
excesses step size times = excesses_ended step size 0 None times ++ option_to_list (excess_after step size 0 None times)

-- an excess of the list lasts at the moment x
unfoldable pub OneLasts : ℕ → List Excess → Type 0
OneLasts x [] = ⊥
OneLasts x (e ∷ es) = ((e.begin ≤ x) × (x < e.end)) ⊎ OneLasts x es

-- an excess lasts at each moment at which there are more than `size` bytes in the buffer
abbrev pub OverLaw : Type 0
OverLaw = (step size : ℕ) (times : List ℕ) (x : ℕ) → 0 < step → 0 < size → Rises 0 times →
    size < fullness x times (departures step 0 times) → OneLasts x (excesses step size times)

-- while an excess lasts there is no room for a byte
abbrev pub FullLaw : Type 0
FullLaw = (step size : ℕ) (times : List ℕ) (x : ℕ) → 0 < step → 0 < size → Rises 0 times →
    OneLasts x (excesses step size times) → size ≤ fullness x times (departures step 0 times)
