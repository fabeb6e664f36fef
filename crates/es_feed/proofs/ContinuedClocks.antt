-- A clock reference that continues the clock
use Rattle.std.proofs.Common.{◌≡◌, ◌≤◌, ◌∙◌, ℕ, ◌+◌, ◌%◌, ◌^◌, Bool, true, false, if◌then◌else◌, Option, Some, None, slice_get, refl, sym, ap}
use Rattle.std.proofs.Common.{subst, arith}
use Rattle.std.specs.Prelude.{nat_lt, ◌==◌, length}
use Rattle.es_moments.specs.Stamps.{distance}
use Rattle.es_moments.specs.WireUnits.{CarriedUnit}
use Rattle.es_units.specs.UnitSteps.{ended_unit}
use Rattle.packet_pcr.specs.PacketPcr.{is_on}
use Rattle.packet_pcr.specs.declared.pcr_reading.FoundPcr.{FoundPcr}
use Rattle.fed_streams.specs.Clocks.{continued, earlier_after, origin_stepped, shown_after, timed_by, within_a_second}
use Rattle.fed_streams.specs.Feeding.{FedStreamView, FeedView, base_by, due_of, greatest_of, origin_after}
use Rattle.fed_streams.specs.Maps.{clock_pid}
use Rattle.fed_streams.specs.Origins.{base_for, doubtful_base, doubtful_with, is_doubtful, origin_kept, origin_with}
use Rattle.fed_streams.specs.Ticks.{after_end_at, after_late, after_own, after_passed, after_shown, due_at, is_passed, is_passed_by, is_tick}
use Rattle.fed_streams.specs.Ticks.{jump_pause, late_after, passed_from, step_in, timed_in, under_way_at, with_shown, with_tick}
use Rattle.fed_streams.specs.declared.clock_jump.ClockStep.{ClockStep}
use Rattle.fed_streams.specs.declared.clock_jump.ClockStep.TheVariants.{Continues}
use Rattle.fed_streams.specs.declared.due.Due.{Due}
use Rattle.fed_streams.specs.declared.origin.DoubtfulClock.{DoubtfulClock}
use Rattle.fed_streams.specs.declared.origin.Origin.{Origin}
use Rattle.fed_streams.proofs.ListedStreams.{passed_due}

-- 1. A unit whose constant is fixed changes no constant

same_doubtful : (d : Option DoubtfulClock) (base : ℕ) → doubtful_base d ≡ Some base → doubtful_with d base ≡ d
unfolding doubtful_base doubtful_with
same_doubtful None base is = absurd cc
same_doubtful (Some d) base is =
    ap (λ (b : Option ℕ). Some (record { packet = d.packet; before = d.before; shown = d.shown; base = b })) (sym is)

abbrev fixed_by : Origin → ℕ → Bool → Bool → Origin
fixed_by o base early late =
    if early then record { now = o.now; since = o.since; before = Some base; doubtful = o.doubtful } else
    (if late then record { now = o.now; since = o.since; before = o.before; doubtful = doubtful_with o.doubtful base } else
    record { now = Some base; since = o.since; before = o.before; doubtful = o.doubtful })

same_by : (o : Origin) (base : ℕ) (early late : Bool) → (if early then o.before else (if late then doubtful_base o.doubtful else o.now)) ≡ Some base →
    fixed_by o base early late ≡ o
same_by o base true late is = ap (λ (b : Option ℕ). record { now = o.now; since = o.since; before = b; doubtful = o.doubtful }) (sym is)
same_by o base false true is =
    ap (λ (d : Option DoubtfulClock). record { now = o.now; since = o.since; before = o.before; doubtful = d }) (same_doubtful o.doubtful base is)
same_by o base false false is = ap (λ (b : Option ℕ). record { now = b; since = o.since; before = o.before; doubtful = o.doubtful }) (sym is)

same_with : (o : Origin) (packet dts base : ℕ) → base_for o packet dts ≡ Some base → origin_with o packet dts base ≡ o
unfolding base_for origin_with
same_with o packet dts base is = same_by o base (nat_lt packet o.since) (is_doubtful o.doubtful packet dts) is

-- 2. So no constant changes if time moves

same_after : (due : Due) (o : Origin) (late : ℕ) (before : Option ℕ) (u : CarriedUnit) (base : Option ℕ) → base_for o u.packet u.unit.dts ≡ base →
    is_passed_by late (due_at base before u.unit.dts) ≡ true → origin_with o u.packet u.unit.dts (base_by due.earliest base u.unit) ≡ o
unfolding is_passed_by due_at base_by
same_after due o late before u None is passed = absurd cc
same_after due o late before u (Some base) is passed = same_with o u.packet u.unit.dts base is

ended_by : (due : Due) (o : Origin) (u : CarriedUnit) (empty : Bool) →
    origin_with o u.packet u.unit.dts (base_by due.earliest (base_for o u.packet u.unit.dts) u.unit) ≡ o →
    origin_after due o (if empty then None else Some u) ≡ o
unfolding origin_after
ended_by due o u true same = refl
ended_by due o u false same = same

ended_same : (due : Due) (o : Origin) (late : ℕ) (before : Option ℕ) (w : Option CarriedUnit) → is_passed_by late (under_way_at o before w) ≡ true →
    origin_after due o (ended_unit false w) ≡ o
unfolding under_way_at ended_unit is_passed_by
ended_same due o late before None passed = absurd cc
ended_same due o late before (Some u) passed =
    ended_by due o u (length u.unit.bytes == 0) (same_after due o late before u (base_for o u.packet u.unit.dts) refl passed)

-- The constants, the clock and the maps are the same.
pub record Keeps (g h : FeedView) : Type 0 where
  pub origin : h.origin ≡ g.origin
  pub shown : h.shown ≡ g.shown
  pub earlier : h.earlier ≡ g.earlier
  pub maps : h.maps ≡ g.maps

keeps_all : (g : FeedView) → Keeps g g
keeps_all g = record { origin = refl; shown = refl; earlier = refl; maps = refl }

keeps_if : (g h : FeedView) (b : Bool) → Keeps g h → Keeps g (if b then h else g)
keeps_if g h true k = k
keeps_if g h false k = keeps_all g

end_keeps : (g : FeedView) (late k : ℕ) (s : FedStreamView) → slice_get g.streams k ≡ Some s → is_passed g.origin late s ≡ true →
    Keeps g (after_end_at g k (Some s))
unfolding after_end_at
end_keeps g late k s at passed =
    record { origin = ended_same (due_of g) g.origin late s.before s.units.unit passed; shown = refl; earlier = refl; maps = refl }

passed_keeps : (g : FeedView) (late : ℕ) (place : Option ℕ) → passed_from g.origin late 0 g.streams ≡ place → Keeps g (after_passed g late place)
unfolding after_passed
passed_keeps g late None is =
    keeps_if g (with_tick g late) (is_tick (greatest_of g) late) (record { origin = refl; shown = refl; earlier = refl; maps = refl })
passed_keeps g late (Some k) is =
    let s = passed_due g.origin late k g.streams is in
    subst (λ (x : Option FedStreamView). Keeps g (after_end_at g k x)) (sym s.1) (end_keeps g late k s.0 s.1 s.2)

late_keeps : (g : FeedView) (late : Option ℕ) → Keeps g (after_late g late)
unfolding after_late
late_keeps g None = keeps_all g
late_keeps g (Some late) = passed_keeps g late (passed_from g.origin late 0 g.streams) refl

-- 3. A reference that continues the clock

pub record Continued (feed next : FeedView) (pcr : FoundPcr) : Type 0 where
  pub origin : next.origin ≡ origin_kept feed.origin
  pub shown : next.shown ≡ Some pcr.base
  pub earlier : next.earlier ≡ feed.shown
  pub maps : next.maps ≡ feed.maps

stepped_so : (step : ClockStep) (feed : FeedView) (moment : ℕ) (pcr : FoundPcr) → step ≡ Continues →
    (origin_stepped step feed.origin feed.shown moment pcr ≡ origin_kept feed.origin) × (shown_after step feed.shown pcr ≡ Some pcr.base)
    × (earlier_after step feed.shown feed.earlier ≡ feed.shown)
unfolding origin_stepped shown_after earlier_after
stepped_so step feed moment pcr is = rw is (refl, refl, refl)

shown_continued : (feed : FeedView) (pcr : FoundPcr) → step_in feed pcr ≡ Continues → Continued feed (after_shown feed pcr) pcr
shown_continued feed pcr is =
    let g = with_shown feed pcr in
    let keeps = late_keeps g (late_after feed pcr) in
    let so = stepped_so (step_in feed pcr) feed (greatest_of feed + jump_pause) pcr is in
    record { origin = keeps.origin ∙ so.0; shown = keeps.shown ∙ so.1; earlier = keeps.earlier ∙ so.2; maps = keeps.maps }

own_continued : (feed : FeedView) (pcr : FoundPcr) (on : Bool) → on ≡ true → step_in feed pcr ≡ Continues →
    Continued feed (if on then after_shown feed pcr else feed) pcr
own_continued feed pcr true own is = shown_continued feed pcr is
own_continued feed pcr false own is = absurd cc

pub continues_on : (feed : FeedView) (pcr : FoundPcr) → is_on pcr.pid (clock_pid feed.maps) ≡ true → step_in feed pcr ≡ Continues →
    Continued feed (after_own feed pcr) pcr
continues_on feed pcr own is = own_continued feed pcr (is_on pcr.pid (clock_pid feed.maps)) own is

-- 4. The moment to which it moves time

second_on : (before : ℕ) → distance before (before % 2 ^ 33 + 90_000) ≤ 90_000
unfolding distance
second_on before = omega arith

within_by : (before base : ℕ) (far : Bool) → nat_lt 90_000 (distance before base) ≡ far →
    distance before (if far then before % 2 ^ 33 + 90_000 else base) ≤ 90_000
within_by before base true is = second_on before
within_by before base false is = search (arith, is)

within : (before base : ℕ) → distance before (within_a_second (Some before) base) ≤ 90_000
unfolding within_a_second
within before base = within_by before base (nat_lt 90_000 (distance before base)) refl

timed_so : (shown earlier : Option ℕ) (base : ℕ) → timed_by Continues shown earlier base ≡ within_a_second (continued shown earlier base) base
unfolding timed_by
timed_so shown earlier base = refl

pub time_is_near : (feed : FeedView) (pcr : FoundPcr) (before : ℕ) → step_in feed pcr ≡ Continues →
    continued feed.shown feed.earlier pcr.base ≡ Some before → distance before (timed_in feed pcr) ≤ 90_000
time_is_near feed pcr before is from =
    let goes : timed_in feed pcr ≡ within_a_second (Some before) pcr.base =
    ap (λ (s : ClockStep). timed_by s feed.shown feed.earlier pcr.base) is ∙ timed_so feed.shown feed.earlier pcr.base
    ∙ ap (λ (c : Option ℕ). within_a_second c pcr.base) from in
    subst (λ (t : ℕ). distance before t ≤ 90_000) (sym goes) (within before pcr.base)
