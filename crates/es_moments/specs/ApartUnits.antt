-- Units of data streams that are due at one moment, each with a DTS of its own. Consecutive PES packets of private_stream_1 may share a PTS (subtitles: ETSI EN
-- 300 743; teletext: ETSI EN 300 472), and a queue takes units in order of their DTS. So if units in a row share a DTS, the last unit keeps it, and the units
-- before it are decoded up to 63 units of 90 kHz earlier, one after another. All else stays, also when they are presented. A unit's DTS is known as soon as the
-- next unit begins, so a live stream is not held up.
use Rattle.std.specs.Prelude.{◌≡◌, ◌≤◌, ◌<◌, ℕ, ◌+◌, ◌-◌, ◌==◌, ◌&&◌, ◌||◌, min, Bool, true, false, if◌then◌else◌, None, List, [], ◌∷◌, map}
use Rattle.es_moments.specs.MadeDts.{with_dts}
use Rattle.es_moments.specs.Stamps.{distance, first_fault}
use Rattle.es_moments.specs.WireUnits.{CarriedUnit}

-- 1. Units in a row

-- a unit of private_stream_1 (ISO/IEC 13818-1, table 2-22) is due at the same moment as the next unit
unfoldable pub is_same_next : CarriedUnit → List CarriedUnit → Bool
is_same_next u [] = false
is_same_next u (v ∷ us) = u.stream_id == 0xBD && v.unit.dts == u.unit.dts

unfoldable pub has_same : List CarriedUnit → Bool
has_same [] = false
has_same (u ∷ us) = is_same_next u us || has_same us

-- 2. DTS

-- how many units of a row are before the next unit, if `place` units are before this unit, counted up to 63: none if the next unit is not in its row
unfoldable pub next_place : Bool → ℕ → ℕ
next_place same place = if same then min (place + 1) 63 else 0

-- the DTS of a unit with `place` units of its row before it: its own if the next unit is not in its row
unfoldable pub apart_by : Bool → ℕ → ℕ → ℕ
apart_by same place dts = if same then distance (63 - place) dts else dts

unfoldable pub apart_dts : ℕ → List CarriedUnit → List ℕ
apart_dts place [] = []
apart_dts place (u ∷ us) = apart_by (is_same_next u us) place u.unit.dts ∷ apart_dts (next_place (is_same_next u us) place) us

-- 3. Units with these DTS

-- units with their DTS, if `place` units of a row are before the first
abbrev pub apart_from : ℕ → List CarriedUnit → List CarriedUnit
apart_from place us = with_dts (apart_dts place us) us

abbrev pub apart_units : List CarriedUnit → List CarriedUnit
apart_units us = apart_from 0 us

-- 4. The law of these units

-- all but DTS are as they were, unit by unit
abbrev pub ApartKeep : Type 0
ApartKeep = (us : List CarriedUnit) →
    (map (λ u. u.packet) (apart_units us) ≡ map (λ u. u.packet) us)
    × (map (λ u. u.stream_id) (apart_units us) ≡ map (λ u. u.stream_id) us)
    × (map (λ u. u.unit.pts) (apart_units us) ≡ map (λ u. u.unit.pts) us)
    × (map (λ u. u.unit.marks) (apart_units us) ≡ map (λ u. u.unit.marks) us)
    × (map (λ u. u.unit.bytes) (apart_units us) ≡ map (λ u. u.unit.bytes) us)

-- if no two units in a row are due at one moment, nothing changes
abbrev pub ApartStay : Type 0
ApartStay = (us : List CarriedUnit) → has_same us ≡ false → apart_units us ≡ us

-- so it is of units whose stamps can be moments as they are
abbrev pub SoundStay : Type 0
SoundStay = (limit base place : ℕ) (us : List CarriedUnit) → first_fault limit base None place (map (λ u. u.unit) us) ≡ None → apart_units us ≡ us

-- in a row of up to 64 units each unit is decoded before the next, at most 63 units of 90 kHz earlier; and no unit is decoded further from its own DTS
abbrev pub RowRises : Type 0
RowRises = (place dts : ℕ) (same : Bool) → place < 63 →
    (0 < distance (apart_by true place dts) (apart_by same (place + 1) dts))
    × (distance (apart_by true place dts) (apart_by same (place + 1) dts) ≤ 63)
    × (distance (apart_by true place dts) dts ≤ 63)
