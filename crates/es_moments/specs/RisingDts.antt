-- Whether the DTS of a stream rise; and if they do not, whether DTS are made from its PTS. A header without a DTS means the DTS that its PTS gives (ISO/IEC
-- 13818-1, 2.4.3.7); so DTS that a multiplexer left out of pictures in another order than shown fall.
use Rattle.std.specs.Prelude.{◌≡◌, ℕ, ◌^◌, ◌&&◌, not, nat_lt, is_none, Bool, true, false, if◌then◌else◌, Option, Some, None, List, [], ◌∷◌, map}
use Rattle.es_moments.specs.ApartUnits.{apart_dts, apart_units}
use Rattle.es_moments.specs.MadeDts.{dts_fault, made_units, pts_of}
use Rattle.es_moments.specs.Stamps.{distance, first_fault}
use Rattle.es_moments.specs.WireUnits.{CarriedUnit}

-- 1. Stamps that rise: each is after the stamp before it, by less than half the range of 33 bits

unfoldable pub is_later : Option ℕ → ℕ → Bool
is_later None stamp = true
is_later (Some before) stamp = nat_lt 0 (distance before stamp) && nat_lt (distance before stamp) (2 ^ 32)

unfoldable pub all_later : Option ℕ → List ℕ → Bool
all_later before [] = true
all_later before (stamp ∷ stamps) = is_later before stamp && all_later (Some stamp) stamps

-- 2. The DTS of units

-- they rise, where units of a data stream that are due at one moment are decoded one after another
abbrev pub dts_rise : List CarriedUnit → Bool
dts_rise us = all_later None (apart_dts 0 us)

-- they are made: they do not rise, and the PTS allow made ones
unfoldable pub dts_are_made : List CarriedUnit → Bool
dts_are_made us = not (dts_rise us) && is_none (dts_fault (pts_of us))

-- the units with DTS that rise, if their stamps allow it
unfoldable pub rising_units : List CarriedUnit → List CarriedUnit
rising_units us = if dts_are_made us then made_units us else apart_units us

-- 3. The law of these units: if their stamps can be moments, none are made

abbrev pub SoundKeep : Type 0
SoundKeep = (limit base place : ℕ) (us : List CarriedUnit) → first_fault limit base None place (map (λ u. u.unit) (apart_units us)) ≡ None →
    dts_are_made us ≡ false
