-- A view watches the clock references of a run on each PID: each reference is within the limits.
use Rattle.std.proofs.Common.{◌≡◌, ◌∙◌, sym, ℕ, ◌+◌, ◌-◌, ◌*◌, ◌/◌, ◌%◌, ◌^◌, ◌≤◌, ◌<◌, ◌⊎◌, true, false, List, [], ◌∷◌, Option, Some, None}
use Rattle.std.proofs.Common.{refl, ap, subst, inl, inr, arith}
use Rattle.std.specs.Prelude.{All, IfSome, max, nat_eq, unwrap_or}
use Rattle.std.specs.Map.{lookup}
use Rattle.std.proofs.lemmas.Bool.{le-leb}
use Rattle.std.proofs.lemmas.Bool.Decides.{eqb_tells}
use Rattle.std.proofs.lemmas.List.Elements.{All-cons, All-head, All-nil, All-tail}
use Rattle.indexmap.specs.IndexMap.{insert_entry}
use Rattle.clock27.specs.Recurrence.{Recur}
use Rattle.clock27.specs.Reference.{pcr_ticks}
use Rattle.ts_packet.specs.Views.{PacketView}
use Rattle.ts_packet.specs.PidList.{Entry}
use Rattle.arrival.specs.declared.clock.PcrSample.{PcrSample}
use Rattle.arrival.specs.declared.clock.TimedSample.{TimedSample}
use Rattle.arrival.specs.declared.line.Line.{Line}
use Rattle.arrival.specs.Clock.{line_in, step_after}
use Rattle.tr101290.specs.declared.report.Inaccuracy.{Inaccuracy}
use Rattle.tr101290.specs.declared.report.PcrReport.{PcrReport}
use Rattle.tr101290.specs.Counts.{nanoseconds_in}
use Rattle.tr101290.specs.declared.watch.PcrTiming.{PcrTiming}
use Rattle.tr101290.specs.declared.watch.PcrTiming.TheVariants.{ConstantRate}
use Rattle.tr101290.specs.Errors.{difference_in}
use Rattle.tr101290.specs.Measures.{inaccuracy_by, interval_after, report_after}
use Rattle.tr101290.specs.Samples.{is_near, pcr_sample, sample_in, sample_with}
use Rattle.tr101290.specs.Watches.{PcrState}
use Rattle.tr101290.specs.Watches as watch
use Rattle.tr101290.specs.PidWatches.{WatchesState, report_at, report_if, taken, taken_if, watch_of, watch_or_new}
use Rattle.laws_view.specs.StreamPackets.{most_packets}
use Rattle.laws_view.specs.ViewedReferences.{IsFineClock, IsNear, IsSoon, IsWithin}
use Rattle.laws_view.proofs.ClockAhead.{AreClocks, IsReference, clock_packet, later_reference, listed, next_reference, ticks_low}
use Rattle.laws_view.proofs.DueByClock.{reference_at}
use Rattle.laws_view.proofs.Lists.{itself, lookup_other, lookup_same}
use Rattle.laws_view.proofs.ReferenceReports.{IsNext, next_within}

-- The clock reference of a packet in a run

ticks_again : (t : ℕ) → t < 2576980377600 → 300 * (t / 300 % 8589934592) + t % 300 % 512 ≡ t
ticks_again t low = omega (arith, low)

-- The clock reference in this packet with this value
abbrev sample_saying : ℕ → ℕ → PcrSample
sample_saying index ticks = record { byte = 188 * index + 10; ticks = ticks; discontinuity = false }

pub sample_is : (rate base0 pid index : ℕ) → index < most_packets →
    pcr_sample index (clock_packet rate base0 pid index) ≡ Some (reference_at rate base0 index)
unfolding sample_in sample_with
sample_is rate base0 pid index few =
    let near : is_near index ≡ true = le-leb (188 * index + 10) (2 ^ 40) (omega (arith, few)) in
    let t : ℕ = pcr_ticks rate base0 (188 * index + 10) in
    rw near (ap (λ (x : ℕ). Some (sample_saying index x)) (ticks_again t (ticks_low rate base0 (188 * index + 10))))

-- The kept state of a PID

unfoldable pub sample_kept : Option TimedSample → Option PcrSample
sample_kept None = None
sample_kept (Some t) = Some t.sample

unfoldable pub watch_after : PcrState → Option PcrSample → PcrState
watch_after w None = w
watch_after w (Some sample) = watch.taken w sample

unfoldable pub report_in : PcrState → Option PcrSample → Option PcrReport
report_in w None = None
report_in w (Some sample) = Some (report_after w.timing w.clock sample)

unfoldable pub NoReferences : List Entry → Type 0
NoReferences [] = Unit {0}
NoReferences (e ∷ es) = (pcr_sample e.index e.packet ≡ None) × NoReferences es

-- A run: its rate, the clock's value at its begin, and its slots.
pub record Rated : Type 0 where
  pub rate : ℕ
  pub base0 : ℕ
  pub slots : ℕ
  pub least : 100000 ≤ rate
  pub most : rate ≤ 100000000
  pub few : slots ≤ most_packets

-- From an index on, either each packet of the PID is a clock reference and they recur within 100 ms, or no packet has one.
abbrev pub Comes : Rated → ℕ → ℕ → Option PcrSample → List Entry → Type 0
Comes r pid index last es = (AreClocks r.rate r.base0 pid es × IsReference r.rate r.base0 100 r.slots index last es) ⊎ NoReferences es

pub record Watched (r : Rated) (pid index : ℕ) (w : PcrState) (es : List Entry) : Type 0 where
  pub timing : w.timing ≡ ConstantRate r.rate
  pub comes : Comes r pid index (sample_kept w.clock.last) es

other_comes : (r : Rated) (pid index : ℕ) (last : Option PcrSample) (es : List Entry) → Comes r pid index last es → Comes r pid (index + 1) last es
other_comes r pid index last es (inl reported) = inl (reported.0, later_reference r.rate r.base0 100 r.slots index last es reported.1)
other_comes r pid index last es (inr none) = inr none

other_watched : (r : Rated) (pid index : ℕ) (w : PcrState) (es : List Entry) → Watched r pid index w es → Watched r pid (index + 1) w es
other_watched r pid index w es h = record { timing = h.timing; comes = other_comes r pid index (sample_kept w.clock.last) es h.comes }

-- A clock reference comes.

first_or_next : (r : Rated) (index : ℕ) (last : Option TimedSample) (line : Option Line) (e : Entry) (es : List Entry) → e.index ≡ index →
    IsReference r.rate r.base0 100 r.slots index (sample_kept last) (e ∷ es) →
    IsWithin (report_after (ConstantRate r.rate) (record { last = last; line = line }) (reference_at r.rate r.base0 index))
unfolding sample_kept IsReference Recur step_after interval_after inaccuracy_by difference_in line_in
first_or_next r index None line e es is h = record { interval = tt; difference = tt; inaccuracy = tt }
first_or_next r index (Some t) line e es is h =
    let m : ℕ = h.0 in
    let same : t.sample ≡ reference_at r.rate r.base0 m = h.1.0 in
    let soon : (188 * e.index + 10 - (188 * m + 10)) * 8000 ≤ 100 * r.rate = h.1.1.1.0 in
    let n : IsNext r.rate m index = record { least = r.least; most = r.most; later = h.1.1.0; soon = rw is at soon } in
    subst (λ (s : PcrSample). IsWithin (report_after (ConstantRate r.rate)
    (record { last = Some (record { sample = s; moment = t.moment }); line = line }) (reference_at r.rate r.base0 index))) (sym same)
    (next_within r.rate r.base0 m index t.moment line n)

own_report : (r : Rated) (pid index : ℕ) (bytes : List ℕ) (packet : PacketView) (w : PcrState) (es : List Entry) → index < r.slots →
    Watched r pid index w (record { index = index; bytes = bytes; packet = packet } ∷ es) → IfSome (report_in w (pcr_sample index packet)) IsWithin
unfolding report_in AreClocks NoReferences
own_report r pid index bytes packet w es few h = by h.comes
  where
    e : Entry
    e = record { index = index; bytes = bytes; packet = packet }

    by : Comes r pid index (sample_kept w.clock.last) (e ∷ es) → IfSome (report_in w (pcr_sample index packet)) IsWithin
    by (inl reported) =
        let sample : pcr_sample index packet ≡ Some (reference_at r.rate r.base0 index) =
        ap (λ (q : PacketView). pcr_sample index q) reported.0.0 ∙ sample_is r.rate r.base0 pid index (omega (arith, few, r.few)) in
        subst (λ (o : Option PcrSample). IfSome (report_in w o) IsWithin) (sym sample)
        (subst (λ (t : PcrTiming). IsWithin (report_after t w.clock (reference_at r.rate r.base0 index))) (sym h.timing)
        (first_or_next r index w.clock.last w.clock.line e es refl reported.1))
    by (inr none) = subst (λ (o : Option PcrSample). IfSome (report_in w o) IsWithin) (sym none.0) tt

own_watched : (r : Rated) (pid index : ℕ) (bytes : List ℕ) (packet : PacketView) (w : PcrState) (es : List Entry) → index < r.slots →
    Watched r pid index w (record { index = index; bytes = bytes; packet = packet } ∷ es) →
    Watched r pid (index + 1) (watch_after w (pcr_sample index packet)) es
unfolding watch_after sample_kept AreClocks NoReferences
own_watched r pid index bytes packet w es few h = by h.comes
  where
    e : Entry
    e = record { index = index; bytes = bytes; packet = packet }

    by : Comes r pid index (sample_kept w.clock.last) (e ∷ es) → Watched r pid (index + 1) (watch_after w (pcr_sample index packet)) es
    by (inl reported) =
        let sample : pcr_sample index packet ≡ Some (reference_at r.rate r.base0 index) =
        ap (λ (q : PacketView). pcr_sample index q) reported.0.0 ∙ sample_is r.rate r.base0 pid index (omega (arith, few, r.few)) in
        subst (λ (o : Option PcrSample). Watched r pid (index + 1) (watch_after w o) es) (sym sample)
        (record {
          timing = h.timing;
          comes = inl (reported.0.1, next_reference r.rate r.base0 100 r.slots index (sample_kept w.clock.last) e es refl reported.1);
        })
    by (inr none) = subst (λ (o : Option PcrSample). Watched r pid (index + 1) (watch_after w o) es) (sym none.0)
        (record { timing = h.timing; comes = inr none.1 })

-- A packet of any PID

same_watch : (s : WatchesState) (pid : ℕ) (o : Option PcrSample) → watch_of (taken_if s pid o) pid ≡ watch_after (watch_of s pid) o
unfolding taken_if watch_after watch_or_new
same_watch s pid None = refl
same_watch s pid (Some sample) = rw (lookup_same s.watches pid (watch.taken (watch_of s pid) sample)) refl

other_watch : (s : WatchesState) (pid q : ℕ) (o : Option PcrSample) → (pid ≡ q → ⊥) → watch_of (taken_if s pid o) q ≡ watch_of s q
unfolding taken_if
other_watch s pid q None f = refl
other_watch s pid q (Some sample) f =
    ap (λ (o : Option PcrState). watch_or_new s.timing o) (lookup_other s.watches pid q (watch.taken (watch_of s pid) sample) f)

report_is : (s : WatchesState) (pid : ℕ) (o : Option PcrSample) → report_if s pid o ≡ report_in (watch_of s pid) o
unfolding report_if report_in
report_is s pid None = refl
report_is s pid (Some sample) = refl

unfoldable pub watches_after : WatchesState → ℕ → Option PacketView → WatchesState
watches_after s index None = s
watches_after s index (Some packet) = taken s index packet

pub one_watched : (r : Rated) (pid index : ℕ) (bytes : List ℕ) (o : Option PacketView) (s : WatchesState) (es : List Entry) → index < r.slots →
    Watched r pid index (watch_of s pid) (listed pid index bytes o es) → Watched r pid (index + 1) (watch_of (watches_after s index o) pid) es
unfolding watches_after listed
one_watched r pid index bytes None s es few h = other_watched r pid index (watch_of s pid) es h
one_watched r pid index bytes (Some packet) s es few h = elim (eqb_tells pid packet.header.pid) [
  | inl same ↦
      let own = own_watched r pid index bytes packet (watch_of s pid) es few (rw same.0 at h) in
      subst (λ (w : PcrState). Watched r pid (index + 1) w es) (sym (same_watch s pid (pcr_sample index packet))
      ∙ ap (λ (q : ℕ). watch_of (taken_if s q (pcr_sample index packet)) pid) same.1) own
  | inr other ↦
      let kept = other_watched r pid index (watch_of s pid) es (rw other.0 at h) in
      subst (λ (w : PcrState). Watched r pid (index + 1) w es)
      (sym (other_watch s packet.header.pid pid (pcr_sample index packet) (λ e. other.1 (sym e)))) kept
]

pub report_watched : (r : Rated) (index : ℕ) (bytes : List ℕ) (packet : PacketView) (s : WatchesState) (es : List Entry) → index < r.slots →
    Watched r packet.header.pid index (watch_of s packet.header.pid) (listed packet.header.pid index bytes (Some packet) es) →
    IfSome (report_at s index packet) IsWithin
unfolding listed
report_watched r index bytes packet s es few h =
    let pid : ℕ = packet.header.pid in
    let own = own_report r pid index bytes packet (watch_of s pid) es few (rw (itself packet.header.pid) at h) in
    subst (λ (o : Option PcrReport). IfSome o IsWithin) (sym (report_is s pid (pcr_sample index packet))) own

-- The counts of the reports

abbrev pub AllFine : WatchesState → Type 0
AllFine s = All IsFineClock s.watches

fine_or_new : (timing : PcrTiming) (pid : ℕ) (es : List (ℕ × PcrState)) → All IsFineClock es →
    IsFineClock (pid, watch_or_new timing (lookup (nat_eq pid) es))
unfolding watch_or_new
fine_or_new timing pid [] all = record { interval = omega arith; inaccuracy = omega arith }
fine_or_new timing pid (e ∷ es) all = elim (eqb_tells pid e.0) [
  | inl same ↦ let first = All-head IsFineClock e es all in rw same.0 (record { interval = first.interval; inaccuracy = first.inaccuracy })
  | inr other ↦ rw other.0 (fine_or_new timing pid es (All-tail IsFineClock e es all))
]

fine_inserted : (pid : ℕ) (w : PcrState) (es : List (ℕ × PcrState)) → All IsFineClock es → IsFineClock (pid, w) →
    All IsFineClock (insert_entry nat_eq es pid w)
fine_inserted pid w [] all fine = All-cons IsFineClock (pid, w) [] fine (All-nil IsFineClock)
fine_inserted pid w (e ∷ es) all fine = elim (eqb_tells pid e.0) [
  | inl same ↦ rw same.0 (All-cons IsFineClock (e.0, w) es (record { interval = fine.interval; inaccuracy = fine.inaccuracy })
      (All-tail IsFineClock e es all))
  | inr other ↦ rw other.0 (All-cons IsFineClock e (insert_entry nat_eq es pid w) (All-head IsFineClock e es all)
      (fine_inserted pid w es (All-tail IsFineClock e es all) fine))
]

soon_counted : (old : ℕ) (o : Option ℕ) → IsSoon old → IfSome o IsSoon → IsSoon (max old (unwrap_or o 0))
soon_counted old None h k = omega (arith, h)
soon_counted old (Some ticks) h k = omega (arith, h, k)

near_counted : (old : ℕ) (o : Option Inaccuracy) → old ≤ 38 → IfSome o IsNear → max old (nanoseconds_in o) ≤ 38
unfolding nanoseconds_in
near_counted old None h k = omega (arith, h)
near_counted old (Some off) h k = omega (arith, h, k)

fine_taken : (s : WatchesState) (pid : ℕ) (o : Option PcrSample) → AllFine s → IfSome (report_if s pid o) IsWithin → AllFine (taken_if s pid o)
unfolding taken_if report_if
fine_taken s pid None all within = all
fine_taken s pid (Some sample) all within =
    let w : PcrState = watch_of s pid in
    let before = fine_or_new s.timing pid s.watches all in
    let report : PcrReport = report_after w.timing w.clock sample in
    fine_inserted pid (watch.taken w sample) s.watches all (record {
      interval = soon_counted w.counts.interval report.interval before.interval within.interval;
      inaccuracy = near_counted w.counts.inaccuracy report.inaccuracy before.inaccuracy within.inaccuracy;
    })

-- One more packet keeps `AllFine`.
pub one_fine : (r : Rated) (index : ℕ) (bytes : List ℕ) (o : Option PacketView) (s : WatchesState) (es : ℕ → List Entry) → index < r.slots →
    ((pid : ℕ) → Watched r pid index (watch_of s pid) (listed pid index bytes o (es pid))) → AllFine s → AllFine (watches_after s index o)
unfolding watches_after
one_fine r index bytes None s es few h all = all
one_fine r index bytes (Some packet) s es few h all =
    fine_taken s packet.header.pid (pcr_sample index packet) all
    (report_watched r index bytes packet s (es packet.header.pid) few (h packet.header.pid))
