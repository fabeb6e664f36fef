-- Units that keep a pace, and the levels that they make
use Rattle.std.proofs.Common.{◌≡◌, ◌⊎◌, ℕ, ◌+◌, ◌-◌, ◌*◌, ◌≤◌, max, List, [], ◌∷◌, refl, inl, inr, arith}
use Rattle.std.proofs.lemmas.Bool.{cases_lt}
use Rattle.unit_timing.specs.PesPacket.{PesPacket, packets_of_unit, Spaced}
use Rattle.unit_timing.specs.Allowances.{pace_curve, Runs, Allows}
use Rattle.unit_timing.specs.Levels.{next_level, level_after, greatest_after, BurstLaw}

-- The time since the first unit splits at the last unit.
time_parts : (first last due : ℕ) → first ≤ last → last ≤ due → due - first ≡ (due - last) + (last - first)
time_parts first last due le le' = omega (arith, le, le')

no_time : (pace due : ℕ) → pace * (due - due) ≡ 0
no_time pace due = let e : due - due ≡ 0 = omega arith in rw e (omega arith)

-- ---- From levels to the packets within any time

-- A level that covers a run of `sent` packets also covers the run with one more unit of p packets, `wait` later.
covers_more : (pace level wait time sent p : ℕ) → sent * 135360000 ≤ level + pace * time →
    (sent + p) * 135360000 ≤ (level - pace * wait) + p * 135360000 + pace * (wait + time)
covers_more pace level wait time sent p covered = omega (arith, covered)

-- If the burst covers the level, the run is allowed.
level_allows : (burst pace level time sent : ℕ) → level ≤ burst * 135360000 → sent * 135360000 ≤ level + pace * time → sent ≤ pace_curve burst pace time
level_allows burst pace level time sent fits covered = omega (arith, fits, covered)

levels_run : (burst pace apart : ℕ) (units : List PesPacket) (level first last sent from : ℕ) → first ≤ last → last ≤ from → Spaced apart from units →
    greatest_after pace level last units ≤ burst * 135360000 → sent * 135360000 ≤ level + pace * (last - first) →
    Runs packets_of_unit (pace_curve burst pace) first sent units
unfolding Spaced Runs greatest_after
levels_run burst pace apart [] level first last sent from le le' spaced fits covered = tt
levels_run burst pace apart (unit ∷ units) level first last sent from le le' spaced fits covered =
    let p = packets_of_unit unit in
    let now = next_level pace level last unit in
    let later : last ≤ unit.dts = omega (arith, le', spaced.0) in
    let first_le : first ≤ unit.dts = omega (arith, le, later) in
    let next : unit.dts ≤ unit.dts + apart = omega arith in
    let here : now ≤ burst * 135360000 = omega (arith, fits) in
    let rest : greatest_after pace now unit.dts units ≤ burst * 135360000 = omega (arith, fits) in
    let more : (sent + p) * 135360000 ≤ now + pace * (unit.dts - first) =
    rw (time_parts first last unit.dts le later) (covers_more pace level (unit.dts - last) (last - first) sent p covered) in (
      level_allows burst pace now (unit.dts - first) (sent + p) here more,
      levels_run burst pace apart units now first unit.dts (sent + p) (unit.dts + apart) first_le next spaced.1 rest more,
    )

levels_allow : (burst pace apart : ℕ) (units : List PesPacket) (level last from : ℕ) → Spaced apart from units →
    greatest_after pace level last units ≤ burst * 135360000 → Allows packets_of_unit (pace_curve burst pace) units
unfolding Spaced Runs Allows greatest_after
levels_allow burst pace apart [] level last from spaced fits = tt
levels_allow burst pace apart (unit ∷ units) level last from spaced fits =
    let p = packets_of_unit unit in
    let now = next_level pace level last unit in
    let same : unit.dts ≤ unit.dts = omega arith in
    let next : unit.dts ≤ unit.dts + apart = omega arith in
    let here : now ≤ burst * 135360000 = omega (arith, fits) in
    let rest : greatest_after pace now unit.dts units ≤ burst * 135360000 = omega (arith, fits) in
    let own : (0 + p) * 135360000 ≤ now + pace * (unit.dts - unit.dts) = omega arith in (
      (
        level_allows burst pace now (unit.dts - unit.dts) (0 + p) here own,
        levels_run burst pace apart units now unit.dts unit.dts (0 + p) (unit.dts + apart) same next spaced.1 rest own,
      ),
      levels_allow burst pace apart units now unit.dts (unit.dts + apart) spaced.1 rest,
    )

-- ---- From allowed runs to levels

-- Either the bucket is empty, or a run of `sent` packets, from the unit due at `first` to the unit due at `last`, covers the level; this run is allowed, and
-- so are its continuations.
record Root (burst pace level last : ℕ) (units : List PesPacket) : Type 0 where
  first : ℕ
  sent : ℕ
  before : first ≤ last
  few : sent ≤ pace_curve burst pace (last - first)
  covers : level + pace * (last - first) ≤ sent * 135360000
  runs : Runs packets_of_unit (pace_curve burst pace) first sent units

-- If a run is allowed, the burst covers the level.
root_fits : (burst pace level time sent : ℕ) → sent ≤ pace_curve burst pace time → level + pace * time ≤ sent * 135360000 → level ≤ burst * 135360000
root_fits burst pace level time sent few covers = omega (arith, few, covers)

-- A run still covers the level after one more unit, if the pace has not emptied the bucket.
root_more : (pace level wait time sent p : ℕ) → pace * wait ≤ level → level + pace * time ≤ sent * 135360000 →
    (level - pace * wait) + p * 135360000 + pace * (wait + time) ≤ (sent + p) * 135360000
root_more pace level wait time sent p left covers = omega (arith, left, covers)

old_root : (burst pace level last : ℕ) (unit : PesPacket) (units : List PesPacket) → last ≤ unit.dts → pace * (unit.dts - last) ≤ level →
    Root burst pace level last (unit ∷ units) → Root burst pace (next_level pace level last unit) unit.dts units
unfolding Runs
old_root burst pace level last unit units later left root = record {
  first = root.first;
  sent = root.sent + packets_of_unit unit;
  before = omega (arith, root.before, later);
  few = root.runs.0;
  covers = rw (time_parts root.first last unit.dts root.before later)
      (root_more pace level (unit.dts - last) (last - root.first) root.sent (packets_of_unit unit) left root.covers);
  runs = root.runs.1;
}

-- If the bucket is empty when a unit arrives, the bucket then holds this unit alone.
alone : (pace level wait p due : ℕ) → level ≤ pace * wait → (level - pace * wait) + p * 135360000 + pace * (due - due) ≤ (0 + p) * 135360000
alone pace level wait p due empty = rw (no_time pace due) (omega (arith, empty))

new_root : (burst pace level last : ℕ) (unit : PesPacket) (units : List PesPacket) → level ≤ pace * (unit.dts - last) →
    Runs packets_of_unit (pace_curve burst pace) unit.dts 0 (unit ∷ units) → Root burst pace (next_level pace level last unit) unit.dts units
unfolding Runs
new_root burst pace level last unit units empty runs = record {
  first = unit.dts;
  sent = 0 + packets_of_unit unit;
  before = omega arith;
  few = runs.0;
  covers = alone pace level (unit.dts - last) (packets_of_unit unit) unit.dts empty;
  runs = runs.1;
}

next_root : (burst pace level last : ℕ) (unit : PesPacket) (units : List PesPacket) → last ≤ unit.dts →
    Runs packets_of_unit (pace_curve burst pace) unit.dts 0 (unit ∷ units) → (level ≡ 0) ⊎ Root burst pace level last (unit ∷ units) →
    Root burst pace (next_level pace level last unit) unit.dts units
next_root burst pace level last unit units later runs (inl none) = new_root burst pace level last unit units (omega (arith, none)) runs
next_root burst pace level last unit units later runs (inr root) = elim (cases_lt level (pace * (unit.dts - last))) [
  | inl lt ↦ new_root burst pace level last unit units (omega (arith, lt)) runs
  | inr left ↦ old_root burst pace level last unit units later left root
]

greatest_fits : (burst pace apart : ℕ) (units : List PesPacket) (level last from : ℕ) → last ≤ from → Spaced apart from units →
    Allows packets_of_unit (pace_curve burst pace) units → (level ≡ 0) ⊎ Root burst pace level last units →
    greatest_after pace level last units ≤ burst * 135360000
unfolding Spaced Allows greatest_after
greatest_fits burst pace apart [] level last from le spaced allows root = omega arith
greatest_fits burst pace apart (unit ∷ units) level last from le spaced allows root =
    let later : last ≤ unit.dts = omega (arith, le, spaced.0) in
    let next : unit.dts ≤ unit.dts + apart = omega arith in
    let now = next_root burst pace level last unit units later allows.0 root in
    let here : next_level pace level last unit ≤ burst * 135360000 =
    root_fits burst pace (next_level pace level last unit) (unit.dts - now.first) now.sent now.few now.covers in
    let rest = greatest_fits burst pace apart units (next_level pace level last unit) unit.dts (unit.dts + apart) next spaced.1 allows.1 (inr now) in
    omega (arith, here, rest)

-- ---- The last level is at most the greatest level

last_below : (pace : ℕ) (units : List PesPacket) (level last : ℕ) → level_after pace level last units ≤ max level (greatest_after pace level last units)
unfolding level_after greatest_after
last_below pace [] level last = omega arith
last_below pace (unit ∷ units) level last = omega (arith, last_below pace units (next_level pace level last unit) unit.dts)

pub burst_law : BurstLaw
burst_law = record {
  more = λ burst pace apart from units spaced fits. levels_allow burst pace apart units 0 0 from spaced fits;
  back = λ burst pace apart from units spaced allows. greatest_fits burst pace apart units 0 0 from (omega arith) spaced allows (inl refl);
  level_le = λ pace units. omega (arith, last_below pace units 0 0);
}
