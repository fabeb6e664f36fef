-- Units that are moved by two constants.
use Rattle.std.proofs.Common.{◌≡◌, ◌∙◌, ◌<◌, ◌≤◌, ℕ, ◌+◌, ◌-◌, ◌%◌, ◌++◌, ◌^◌, false, Some, None, Ok, Err, List, [], ◌∷◌, length, map, slice_get, refl, sym, ap}
use Rattle.std.proofs.Common.{ap₂, arith}
use Rattle.pes_packet.specs.AccessUnits.{AccessUnit}
use Rattle.pes_packet.specs.declared.marks.Marks.{Marks}
use Rattle.pid_findings.specs.Views.{FindingView}
use Rattle.es_moments.specs.Stamps.{distance, dts_at, moved, unit_at}
use Rattle.es_feed.specs.EachStream.{BeginsAt, fed_if, found_of_all, has_fault, have_fault, units_fed}
use Rattle.fed_streams.specs.Feeding.{Fed, FedStreamView, feed_first}
use Rattle.es_feed.specs.MovedApart.{AreApart, AreWhole, BeginNear, FedApart, after_time}
use Rattle.es_feed.specs.StreamFeeding.{fed_of}
use Rattle.es_feed.proofs.EachStream.{by_one_constant, first_stream}
use Rattle.es_units.specs.Marking.{all_marked}
use Rattle.es_feed.proofs.FedSteps.{own_unit}
use Rattle.es_units.specs.CarriedUnits.{apart_wire_units}

-- 1. One list of units, moved by two constants

same_distance : (a b w : ℕ) → a % 2 ^ 33 ≡ b % 2 ^ 33 → distance a w ≡ distance b w
unfolding distance
same_distance a b w same = ap (λ (n : ℕ). (w % 2 ^ 33 + 2 ^ 33 - n) % 2 ^ 33) same

on_by_distance : (a b d : ℕ) → a % 2 ^ 33 ≡ b % 2 ^ 33 → (a + d) % 2 ^ 33 ≡ (b + d) % 2 ^ 33
on_by_distance a b d same = omega (arith, same)

unit_is : (dts pts other_dts other_pts : ℕ) (marks : Marks) (bytes : List ℕ) → dts ≡ other_dts → pts ≡ other_pts →
    (let u : AccessUnit = record { dts = dts; pts = pts; marks = marks; bytes = bytes } in u) ≡ record
    { dts = other_dts; pts = other_pts; marks = marks; bytes = bytes }
unit_is dts pts other_dts other_pts marks bytes one two =
    ap₂ (λ (d p : ℕ). (let u : AccessUnit = record { dts = d; pts = p; marks = marks; bytes = bytes } in u)) one two

-- The PTS of a unit has the distance of its DTS.
pts_too : (b c p q x y pts : ℕ) → x + p ≡ y + q → (x + b) % 2 ^ 33 ≡ (y + c) % 2 ^ 33 → x + distance (x + b) pts + p ≡ y + distance (y + c) pts + q
pts_too b c p q x y pts same clock = let d = same_distance (x + b) (y + c) pts clock in omega (arith, same, d)

next_clock : (b c x y d e : ℕ) → d ≡ e → (x + b) % 2 ^ 33 ≡ (y + c) % 2 ^ 33 → (x + d + b) % 2 ^ 33 ≡ (y + e + c) % 2 ^ 33
next_clock b c x y d e same clock =
    let left : x + d + b ≡ x + b + d = omega arith in
    let right : y + c + d ≡ y + e + c = omega (arith, same) in
    ap (λ (n : ℕ). n % 2 ^ 33) left ∙ on_by_distance (x + b) (y + c) d clock ∙ ap (λ (n : ℕ). n % 2 ^ 33) right

moved_on : (b c p q x y : ℕ) (us : List AccessUnit) → x + p ≡ y + q → (x + b) % 2 ^ 33 ≡ (y + c) % 2 ^ 33 →
    map (after_time p) (moved b (Some x) us) ≡ map (after_time q) (moved c (Some y) us)
unfolding moved unit_at dts_at
moved_on b c p q x y [] same clock = refl
moved_on b c p q x y (u ∷ us) same clock =
    let d = distance (x + b) u.dts in
    let e = distance (y + c) u.dts in
    let de : d ≡ e = same_distance (x + b) (y + c) u.dts clock in
    let next : x + d + p ≡ y + e + q = omega (arith, same, de) in
    let on = next_clock b c x y d e de clock in
    ap₂ (λ (v : AccessUnit) (vs : List AccessUnit). v ∷ vs)
    (unit_is (x + d + p) (x + d + distance (x + d + b) u.pts + p) (y + e + q) (y + e + distance (y + e + c) u.pts + q) u.marks u.bytes next
    (pts_too b c p q (x + d) (y + e) u.pts next on))
    (moved_on b c p q (x + d) (y + e) us next on)

shows_first : (b w : ℕ) → (distance b w + b) % 2 ^ 33 ≡ w % 2 ^ 33
unfolding distance
shows_first b w = omega arith

-- If the first unit has a distance under the two constants, each unit has it.
all_apart : (b c p q : ℕ) (us : List AccessUnit) → ((u : AccessUnit) (rest : List AccessUnit) → us ≡ u ∷ rest → distance b u.dts + p ≡ distance c u.dts + q) →
    map (after_time p) (moved b None us) ≡ map (after_time q) (moved c None us)
unfolding moved unit_at dts_at
all_apart b c p q [] first = refl
all_apart b c p q (u ∷ us) first =
    let x = distance b u.dts in
    let y = distance c u.dts in
    let same : x + p ≡ y + q = first u us refl in
    let clock : (x + b) % 2 ^ 33 ≡ (y + c) % 2 ^ 33 = shows_first b u.dts ∙ sym (shows_first c u.dts) in
    ap₂ (λ (v : AccessUnit) (vs : List AccessUnit). v ∷ vs)
    (unit_is (x + p) (x + distance (x + b) u.pts + p) (y + q) (y + distance (y + c) u.pts + q) u.marks u.bytes same (pts_too b c p q x y u.pts same clock))
    (moved_on b c p q x y us same clock)

-- 2. Streams that begin near one another

firsts_apart : (b c v w early : ℕ) → distance c v ≡ early → early < 2 ^ 32 → distance b v ≤ distance b w + early → distance b w ≤ distance b v + early →
    distance c w + distance b v ≡ distance b w + early
unfolding distance
firsts_apart b c v w early due small before after = omega (arith, due, small, before, after)

-- One stream, if the first unit of all is v
one_apart : (base fed_by early : ℕ) (v : AccessUnit) (vs wire other : List AccessUnit) → other ≡ v ∷ vs → distance fed_by v.dts ≡ early → early < 2 ^ 32 →
    BeginNear base early wire other → BeginNear base early other wire →
    map (after_time (distance base v.dts)) (moved fed_by None wire) ≡ map (after_time early) (moved base None wire)
one_apart base fed_by early v vs wire other is due small near back =
    all_apart fed_by base (distance base v.dts) early wire
    (λ w ws here. firsts_apart base fed_by v.dts w.dts early due small (back v w vs ws is here) (near w v ws vs here is))

-- 3. The first unit of all

record FirstOnWire (base : ℕ) (wire : List AccessUnit) (u : AccessUnit) : Type 0 where
  first : AccessUnit
  more : List AccessUnit
  wire_is : wire ≡ first ∷ more
  unit_is : u ≡ unit_at base None first

first_on_wire : (base : ℕ) (wire : List AccessUnit) (u : AccessUnit) (us : List AccessUnit) → u ∷ us ≡ moved base None wire → FirstOnWire base wire u
unfolding moved
first_on_wire base [] u us is = absurd cc
first_on_wire base (w ∷ ws) u us is = record { first = w; more = ws; wire_is = refl; unit_is = cc }

none_on_wire : (base : ℕ) (wire : List AccessUnit) → [] ≡ moved base None wire → wire ≡ []
unfolding moved
none_on_wire base [] is = refl
none_on_wire base (w ∷ ws) is = absurd cc

moved_none : (base : ℕ) → moved base None [] ≡ []
unfolding moved
moved_none base = refl

first_dts : (base : ℕ) (u w : AccessUnit) → u ≡ unit_at base None w → u.dts ≡ distance base w.dts
unfolding unit_at dts_at
first_dts base u w is = ap (λ (x : AccessUnit). x.dts) is

begins_own : (n : ℕ) (u : AccessUnit) (rest : List Fed) → units_fed n ((n, Ok u) ∷ rest) ≡ u ∷ units_fed n rest
unfolding fed_if
begins_own n u rest = ap (λ (us : List AccessUnit). us ++ units_fed n rest) (own_unit n u)

apart_by : (base fed_by early : ℕ) (streams : List FedStreamView) (findings : List FindingView) (fed : List Fed) → early < 2 ^ 32 →
    BeginsAt early (length streams) fed → have_fault fed ≡ false →
    AreWhole base early streams findings →
    ((k : ℕ) (s : FedStreamView) → slice_get streams k ≡ Some s → units_fed k fed ≡ moved fed_by None (apart_wire_units s.units.pid findings)) →
    AreApart base streams findings fed
unfolding BeginsAt has_fault
apart_by base fed_by early streams findings [] small begins silent w each = record {
  here = 0;
  there = 0;
  are = λ k s at.
      let wire = apart_wire_units s.units.pid findings in
      let none = none_on_wire fed_by wire (each k s at) in
      sym (ap (λ (us : List AccessUnit). map (after_time 0) us) (ap (λ (ws : List AccessUnit). moved base None ws) none ∙ moved_none base));
}
apart_by base fed_by early streams findings ((n, Err fault) ∷ fed) small begins silent w each = absurd cc
apart_by base fed_by early streams findings ((n, Ok u) ∷ fed) small begins silent w each =
    let s = first_stream streams n begins.0 in
    let other = apart_wire_units s.0.units.pid findings in
    let v = first_on_wire fed_by other u (units_fed n fed) (sym (begins_own n u fed) ∙ each n s.0 s.1) in
    let due : distance fed_by v.first.dts ≡ early = sym (first_dts fed_by u v.first v.unit_is) ∙ begins.1 in
    record {
      here = distance base v.first.dts;
      there = early;
      are = λ k t at.
          ap (λ (us : List AccessUnit). map (after_time (distance base v.first.dts)) us) (each k t at)
          ∙ one_apart base fed_by early v.first v.more (apart_wire_units t.units.pid findings) other v.wire_is due small (w.near k n t s.0 at s.1)
          (w.near n k s.0 t s.1 at);
    }

pub fed_apart : FedApart
fed_apart earliest base marking maps streams bytes small a silent w =
    let early : earliest < 2 ^ 33 = omega (arith, small) in
    let m = by_one_constant earliest marking maps streams bytes early a silent in
    apart_by base m.base earliest streams (all_marked marking (found_of_all bytes)) (fed_of (feed_first earliest marking maps streams) bytes) small m.begins
    silent w
    (λ k s at. m.moved_by k s at (w.alone k s at))
