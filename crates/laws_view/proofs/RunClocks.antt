-- In a run that a multiplexer wrote, a unit goes by the last clock reference, which is never far.
use Rattle.std.proofs.Common.{◌≡◌, ◌∙◌, sym, ℕ, suc, ◌+◌, ◌*◌, ◌≤◌, ◌<◌, Bool, true, false, List, [], ◌∷◌, ◌++◌, length, map, drop, Option, Some, None}
use Rattle.std.proofs.Common.{if◌then◌else◌, refl, subst, inl, inr, nat_eq, arith}
use Rattle.std.specs.Prelude.{slice_get}
use Rattle.std.proofs.Math.Nat.{mul-le-mul_right}
use Rattle.clock27.specs.Units.{slot_units_at_1bps}
use Rattle.ts_packet.specs.Views.{PacketView}
use Rattle.ts_packet.specs.Reading.{packet_at}
use Rattle.ts_packet.specs.PidList.{Entry}
use Rattle.pes_packet.specs.AccessUnits.{AccessUnit}
use Rattle.arrival.specs.declared.clock.PcrSample.{PcrSample}
use Rattle.arrival.specs.declared.arrival.Arrival.TheVariants.{AtRate}
use Rattle.es_events.specs.declared.view_options.ViewOptions.{ViewOptions}
use Rattle.laws_view.specs.StreamPackets.{Before, Followed, clock_in, clock_with, clocks_seen, known_after, most_packets, sound_packet}
use Rattle.laws_view.specs.CarriedStreams.{GoesBy}
use Rattle.laws_view.proofs.Lists.{some_is}
use Rattle.laws_view.proofs.StreamIndices.{index_more}
use Rattle.laws_view.proofs.SentUnits.{entry_packet}
use Rattle.laws_view.proofs.OnTimePackets.{OnTime}
use Rattle.laws_view.proofs.DueByClock.{run_goes_by}
use Rattle.laws_view.proofs.ClockAhead.{ClockIs, IsReference, NoneBefore, clock_step, entries_from, listed, near_reference, none_before}
use Rattle.laws_view.proofs.FollowedUnits.{Clocked}

-- A run: its rate, the clock's value at its begin, the greatest distance of clock references, and its slots.
pub record Run : Type 0 where
  pub rate : ℕ
  pub base0 : ℕ
  pub limit : ℕ
  pub slots : ℕ

pub record IsRun (r : Run) (options : ViewOptions) : Type 0 where
  pub arrival : options.arrival ≡ AtRate r.rate
  pub least : 100000 ≤ r.rate
  pub limit : r.limit ≤ 100
  pub slots : r.slots ≤ most_packets

-- A packet of a run comes by the time when its unit is due, and no more than a second before.

pub record IsTimed (rate : ℕ) (e : Entry) (u : AccessUnit) : Type 0 where
  pub on_time : e.index * slot_units_at_1bps ≤ u.dts * rate
  pub soon : u.dts * rate ≤ e.index * slot_units_at_1bps + 90000 * rate

unfoldable pub Timed : ℕ → List Entry → List AccessUnit → Type 0
Timed rate [] us = Unit {0}
Timed rate (e ∷ es) [] = Unit {0}
Timed rate (e ∷ es) (u ∷ us) = IsTimed rate e u × Timed rate es us

pub all_timed : (rate lead : ℕ) (es : List Entry) (us : List AccessUnit) → lead ≤ 90000 →
    ((j : ℕ) (e : Entry) (u : AccessUnit) → slice_get es j ≡ Some e → slice_get us j ≡ Some u → u.dts * rate ≤ e.index * slot_units_at_1bps + lead * rate) →
    OnTime rate us (map entry_packet es) → Timed rate es us
unfolding Timed OnTime
all_timed rate lead [] us le soon on_time = tt
all_timed rate lead (e ∷ es) [] le soon on_time = tt
all_timed rate lead (e ∷ es) (u ∷ us) le soon on_time =
    let far : lead * rate ≤ 90000 * rate = mul-le-mul_right rate le in
    let here : u.dts * rate ≤ e.index * slot_units_at_1bps + lead * rate = soon 0 e u refl refl in (
      record { on_time = on_time.0; soon = omega (arith, here, far) },
      all_timed rate lead es us le (λ j f v found sender. soon (suc j) f v found sender) on_time.1,
    )

pub later_timed : (rate : ℕ) (es fs : List Entry) (us : List AccessUnit) → Timed rate (es ++ fs) us → Timed rate fs (drop (length es) us)
unfolding Timed
later_timed rate [] fs us timed = timed
later_timed rate (e ∷ es) fs [] timed = none fs
  where
    none : (fs : List Entry) → Timed rate fs []
    none [] = unfold Timed in tt
    none (f ∷ fs) = unfold Timed in tt
later_timed rate (e ∷ es) fs (u ∷ us) timed = later_timed rate es fs us timed.1

-- The unit goes by the last clock reference.

near_now : (r : Run) (options : ViewOptions) (pid i : ℕ) (now : Option PcrSample) (es : List Entry) (e : Entry) (u : AccessUnit) → IsRun r options →
    i < r.slots → NoneBefore (i + 1) es →
    e.index ≡ i → ClockIs options r.rate r.base0 r.limit r.slots pid (i + 1) now es → IsTimed r.rate e u → (k : PcrSample) → now ≡ Some k →
    GoesBy r.rate r.base0 k u
unfolding ClockIs IsReference
near_now r options pid i None es e u run few none place clock timed k is = absurd (let no : ⊥ = cc in no)
near_now r options pid i (Some c) es e u run few none place (inl reported) timed k is =
    let m : ℕ = reported.1.0 in
    let near = near_reference r.rate r.limit r.slots m (i + 1) es none (omega (arith, few)) reported.1.1.1.1 in
    let limit : r.limit * r.rate ≤ 100 * r.rate = mul-le-mul_right r.rate run.limit in
    let on_time : i * 135360000 ≤ u.dts * r.rate = rw place at timed.on_time in
    let soon : u.dts * r.rate ≤ i * 135360000 + 90000 * r.rate = rw place at timed.soon in
    let goes = run_goes_by r.rate r.base0 m i u run.least (omega (arith, reported.1.1.1.0)) (omega (arith, few, run.slots)) (omega (arith, near, limit)) on_time
    soon in
    subst (λ (x : PcrSample). GoesBy r.rate r.base0 x u) (sym reported.1.1.0 ∙ some_is c k is) goes
near_now r options pid i (Some c) es e u run few none place (inr quiet) timed k is = absurd (let other : Some c ≡ None = quiet.0 in (let no : ⊥ = cc in no))

own_clocked : (r : Run) (options : ViewOptions) (pid i : ℕ) (now : Option PcrSample) (es : List Entry) (e : Entry) (later : List Entry) (us : List AccessUnit)
    (clocks : List (Option PcrSample)) →
    IsRun r options → i < r.slots → NoneBefore (i + 1) es → e.index ≡ i → ClockIs options r.rate r.base0 r.limit r.slots pid (i + 1) now es →
    Timed r.rate (e ∷ later) us →
    ((vs : List AccessUnit) → Timed r.rate later vs → Clocked r.rate r.base0 later vs clocks) → Clocked r.rate r.base0 (e ∷ later) us (now ∷ clocks)
unfolding Timed Clocked
own_clocked r options pid i now es e later [] clocks run few none place clock timed rest = tt
own_clocked r options pid i now es e later (u ∷ us) clocks run few none place clock timed rest =
    (λ k starts is. near_now r options pid i now es e u run few none place clock timed.0 k is, rest us timed.1)

one_clocked : (r : Run) (f : Followed) (b : Before) (bytes : List ℕ) (o : Option PacketView) (later es : List Entry) (us : List AccessUnit)
    (clocks : List (Option PcrSample)) → IsRun r f.options →
    b.index < r.slots → NoneBefore (b.index + 1) es → ClockIs f.options r.rate r.base0 r.limit r.slots f.clock_pid (b.index + 1) (known_after f b o).clock es →
    Timed r.rate (listed f.pid b.index bytes o later) us → ((vs : List AccessUnit) → Timed r.rate later vs → Clocked r.rate r.base0 later vs clocks) →
    Clocked r.rate r.base0 (listed f.pid b.index bytes o later) us (clock_in f b o ++ clocks)
unfolding listed clock_in known_after
one_clocked r f b bytes None later es us clocks run few none clock timed rest = rest us timed
one_clocked r f b bytes (Some packet) later es us clocks run few none clock timed rest = by (nat_eq f.pid packet.header.pid) refl timed clock
  where
    e : Entry
    e = record { index = b.index; bytes = bytes; packet = packet }

    now : Option PcrSample
    now = clock_with f.options f.clock_pid b.index packet b.clock

    by : (w : Bool) → nat_eq f.pid packet.header.pid ≡ w → Timed r.rate (if nat_eq f.pid packet.header.pid then e ∷ later else later) us →
        ClockIs f.options r.rate r.base0 r.limit r.slots f.clock_pid (b.index + 1) (clock_with f.options f.clock_pid b.index packet b.clock) es →
        Clocked r.rate r.base0 (if nat_eq f.pid packet.header.pid then e ∷ later else later) us
        ((if nat_eq f.pid packet.header.pid then now ∷ [] else []) ++ clocks)
    by true own t reported = rw own (own_clocked r f.options f.clock_pid b.index now es e later us clocks run few none refl reported (rw own at t) rest)
    by false other t reported = rw other (rest us (rw other at t))

pub clocked : (r : Run) (f : Followed) (b : Before) (chunks : List (List ℕ)) (us : List AccessUnit) → IsRun r f.options → b.index + length chunks ≤ r.slots →
    Timed r.rate (entries_from f.pid b.index chunks) us →
    ClockIs f.options r.rate r.base0 r.limit r.slots f.clock_pid b.index b.clock (entries_from f.clock_pid b.index chunks) →
    Clocked r.rate r.base0 (entries_from f.pid b.index chunks) us (clocks_seen f b chunks)
unfolding entries_from clocks_seen
clocked r f b [] us run few timed clock = unfold Clocked in tt
clocked r f b (bytes ∷ chunks) us run few timed clock =
    let o : Option PacketView = sound_packet (packet_at bytes) in
    let b' : Before = known_after f b o in
    let more : b'.index ≡ b.index + 1 = index_more f b o in
    let early : b.index < most_packets = omega (arith, few, run.slots) in
    let next = clock_step f b r.rate r.base0 r.limit r.slots bytes o (entries_from f.clock_pid (b.index + 1) chunks) run.arrival early clock in
    let next_is : ClockIs f.options r.rate r.base0 r.limit r.slots f.clock_pid b'.index b'.clock (entries_from f.clock_pid b'.index chunks) =
    subst (λ (i : ℕ). ClockIs f.options r.rate r.base0 r.limit r.slots f.clock_pid i b'.clock (entries_from f.clock_pid i chunks)) (sym more) next in
    one_clocked r f b bytes o (entries_from f.pid (b.index + 1) chunks) (entries_from f.clock_pid (b.index + 1) chunks) us (clocks_seen f b' chunks) run
    (omega (arith, few))
    (none_before f.clock_pid (b.index + 1) chunks) next timed
    (λ vs later. subst (λ (i : ℕ). Clocked r.rate r.base0 (entries_from f.pid i chunks) vs (clocks_seen f b' chunks)) more
    (clocked r f b' chunks vs run (omega (arith, few, more)) (subst (λ (i : ℕ). Timed r.rate (entries_from f.pid i chunks) vs) (sym more) later) next_is))
