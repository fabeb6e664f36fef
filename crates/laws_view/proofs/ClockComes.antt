-- If the units of a stream are due late, a clock reference of its program comes before its packets.
use Rattle.std.proofs.Common.{◌≡◌, ◌∙◌, ◌⊎◌, sym, ℕ, ◌+◌, ◌*◌, ◌≤◌, ◌<◌, false, is_some, Bool, true, List, [], ◌∷◌, ◌++◌, length, Option, Some, None}
use Rattle.std.proofs.Common.{if◌then◌else◌, refl, ap, subst, inl, inr, nat_eq, arith}
use Rattle.std.specs.Prelude.{slice_get}
use Rattle.std.specs.Option.{option_or}
use Rattle.std.proofs.Math.Nat.{mul-le-mul_right}
use Rattle.clock27.specs.Recurrence.{Recur}
use Rattle.ts_packet.specs.Views.{PacketView}
use Rattle.ts_packet.specs.Reading.{packet_at}
use Rattle.ts_packet.specs.PidList.{Entry, cut_packets, pid_list}
use Rattle.pes_packet.specs.AccessUnits.{AccessUnit}
use Rattle.pes_packet.specs.Units.{units_of}
use Rattle.slot_contents.specs.Contents.{run_bytes}
use Rattle.description_parts.specs.Described.{DescribedProgram, DescribedStream}
use Rattle.description_parts.specs.Ranges.{IsInRange}
use Rattle.slot_plan.specs.Promised.{Promised}
use Rattle.tstd.specs.Carried.{packets_on}
use Rattle.tstd.specs.Measured.{IsStreamFullness}
use Rattle.tstd.specs.declared.fullness.StreamFullness.{StreamFullness}
use Rattle.mux_core.specs.Scheduled.{Scheduled}
use Rattle.mux_core.specs.Headline.{Headline, UnitsKept}
use Rattle.mux_core.specs.Histories.{content_at}
use Rattle.mux_core.specs.WholeJobs.{job_history, output_of}
use Rattle.mux_core.proofs.JobWriting.{output_bytes}
use Rattle.mux_core.proofs.Whole.{headline}
use Rattle.laws_run.specs.TablesFirst.{DueLate}
use Rattle.laws_run.proofs.MonitoredJobs.{job_kept}
use Rattle.laws_run.proofs.TablesFirst.{late_slot}
use Rattle.arrival.specs.declared.clock.PcrSample.{PcrSample}
use Rattle.arrival.specs.declared.arrival.Arrival.TheVariants.{AtRate}
use Rattle.es_events.specs.declared.view_options.ViewOptions.{ViewOptions}
use Rattle.ts_watch.specs.Choices.{RequestView}
use Rattle.es_view.specs.Entries.{EntryState}
use Rattle.laws_view.specs.AsMeasured.{AsMeasured, HasClock, IsClockOf, JobLateAsMeasuredLaw, RunLateAsMeasuredLaw}
use Rattle.laws_view.specs.StreamPackets.{Before, Followed, clock_with, known_after, known_after_all, most_packets, reference_in, sound_packet}
use Rattle.laws_view.specs.ViewedRuns.{FromTheFirst, IsViewedAs}
use Rattle.laws_view.specs.WholeStreams.{IsWhole, followed, nothing_known}
use Rattle.laws_view.proofs.AfterTables.{run_first_law}
use Rattle.laws_view.proofs.AsMeasured.{known_two, run_as_measured_law}
use Rattle.laws_view.proofs.ClockAhead.{AreClocks, NoneBefore, entries_from, listed, none_before, places, sample_is}
use Rattle.laws_view.proofs.Lists.{itself}
use Rattle.laws_view.proofs.MuxedMain.{none_entries, run_viewed}
use Rattle.laws_view.proofs.PidEntries.{entries_two, pid_entries}
use Rattle.laws_view.proofs.ProgramClocks.{clocks_kept, program_range}
use Rattle.laws_view.proofs.StreamIndices.{index_more}

-- Once a clock reference has come, a clock is known.

some_clock : (options : ViewOptions) (clock_pid index : ℕ) (packet : PacketView) (clock : Option PcrSample) → is_some clock ≡ true →
    is_some (clock_with options clock_pid index packet clock) ≡ true
some_clock options clock_pid index packet clock e = by (nat_eq clock_pid packet.header.pid) (reference_in options index packet)
  where
    by : (b : Bool) (o : Option PcrSample) → is_some (if b then option_or o clock else clock) ≡ true
    by true None = e
    by true (Some s) = refl
    by false o = e

known_some : (f : Followed) (b : Before) (o : Option PacketView) → is_some b.clock ≡ true → is_some (known_after f b o).clock ≡ true
unfolding known_after
known_some f b None e = e
known_some f b (Some packet) e = some_clock f.options f.clock_pid b.index packet b.clock e

stays_some : (f : Followed) (b : Before) (chunks : List (List ℕ)) → is_some b.clock ≡ true → is_some (known_after_all f b chunks).clock ≡ true
unfolding known_after_all
stays_some f b [] e = e
stays_some f b (bytes ∷ chunks) e =
    let o : Option PacketView = sound_packet (packet_at bytes) in
    stays_some f (known_after f b o) chunks (known_some f b o e)

-- After a packet a clock is known, or the packet is not on the clock's PID.
abbrev One : ℕ → ℕ → Followed → Before → List ℕ → Option PacketView → List Entry → Type 0
One rate base0 f b bytes o es =
    (is_some (known_after f b o).clock ≡ true) ⊎ ((listed f.clock_pid b.index bytes o es ≡ es) × AreClocks rate base0 f.clock_pid es)

one_seen : (rate base0 : ℕ) (f : Followed) (b : Before) (bytes : List ℕ) (o : Option PacketView) (es : List Entry) → f.options.arrival ≡ AtRate rate →
    b.index < most_packets →
    AreClocks rate base0 f.clock_pid (listed f.clock_pid b.index bytes o es) → One rate base0 f b bytes o es
unfolding listed known_after AreClocks
one_seen rate base0 f b bytes None es at_rate few clocks = inr (refl, clocks)
one_seen rate base0 f b bytes (Some packet) es at_rate few clocks = by (nat_eq f.clock_pid packet.header.pid) refl clocks
  where
    e : Entry
    e = record { index = b.index; bytes = bytes; packet = packet }

    by : (w : Bool) → nat_eq f.clock_pid packet.header.pid ≡ w →
        AreClocks rate base0 f.clock_pid (if nat_eq f.clock_pid packet.header.pid then e ∷ es else es) →
        One rate base0 f b bytes (Some packet) es
    by true own h =
        let reported = rw own at h in
        let sample = ap (λ (q : PacketView). reference_in f.options b.index q) reported.0 ∙ sample_is rate base0 f.clock_pid b.index f.options at_rate few in
        inl (rw (own, sample) refl)
    by false other h = inr (rw other refl, rw other at h)

seen_or_none : (rate base0 : ℕ) (f : Followed) (b : Before) (chunks : List (List ℕ)) → f.options.arrival ≡ AtRate rate →
    b.index + length chunks ≤ most_packets →
    AreClocks rate base0 f.clock_pid (entries_from f.clock_pid b.index chunks) →
    (is_some (known_after_all f b chunks).clock ≡ true) ⊎ (entries_from f.clock_pid b.index chunks ≡ [])
unfolding known_after_all entries_from
seen_or_none rate base0 f b [] at_rate few clocks = inr refl
seen_or_none rate base0 f b (bytes ∷ chunks) at_rate few clocks =
    let o : Option PacketView = sound_packet (packet_at bytes) in
    let b' : Before = known_after f b o in
    let more : b'.index ≡ b.index + 1 = index_more f b o in
    elim (one_seen rate base0 f b bytes o (entries_from f.clock_pid (b.index + 1) chunks) at_rate (omega (arith, few)) clocks) [
      | inl seen ↦ inl (stays_some f b' chunks seen)
      | inr other ↦
          let later : AreClocks rate base0 f.clock_pid (entries_from f.clock_pid b'.index chunks) =
          subst (λ (i : ℕ). AreClocks rate base0 f.clock_pid (entries_from f.clock_pid i chunks)) (sym more) other.1 in
          elim (seen_or_none rate base0 f b' chunks at_rate (omega (arith, few, more)) later) [
            | inl seen ↦ inl seen
            | inr none ↦ inr (other.0 ∙ ap (λ (i : ℕ). entries_from f.clock_pid i chunks) (sym more) ∙ none)
          ]
    ]

clocks_front : (rate base0 pid : ℕ) (es fs : List Entry) → AreClocks rate base0 pid (es ++ fs) → AreClocks rate base0 pid es
unfolding AreClocks
clocks_front rate base0 pid [] fs h = tt
clocks_front rate base0 pid (e ∷ es) fs h = (h.0, clocks_front rate base0 pid es fs h.1)

-- A clock reference comes within its limit.

none_within : (rate limit slots i : ℕ) (es : List Entry) → NoneBefore i es → i ≤ slots → limit ≤ 100 → 100000 ≤ rate → 1000 * rate ≤ i * 1504000 →
    Recur rate limit 0 (places es) (188 * slots) → ⊥
unfolding NoneBefore Recur
none_within rate limit slots i [] none few near least late h = omega (arith, few, h, least, late, mul-le-mul_right rate near)
none_within rate limit slots i (e ∷ es) none few near least late h = omega (arith, none, h.0, least, late, mul-le-mul_right rate near)

entry_first : (pid index : ℕ) (packet : PacketView) (first : List ℕ) (later : List (List ℕ)) → sound_packet (packet_at first) ≡ Some packet →
    nat_eq pid packet.header.pid ≡ true →
    slice_get (entries_from pid index (first ∷ later)) 0 ≡ Some (record { index = index; bytes = first; packet = packet })
unfolding entries_from listed
entry_first pid index packet first later sound own = rw (sound, own) refl

after_second : (d : Scheduled) (units : ℕ → List AccessUnit) (slots : ℕ) (request : RequestView) (e : EntryState) (k : ℕ) → IsInRange d.description →
    Promised d.description d.schedule →
    UnitsKept d units → slots ≤ most_packets → (viewed : IsViewedAs d request k e) →
    (whole : IsWhole request d.description.rate (cut_packets (run_bytes (content_at d units) 0 slots)) e) → FromTheFirst e.pid whole.begun.before →
    DueLate (units k) →
    1000 * d.description.rate ≤ length whole.begun.before * 1504000
after_second d units slots request e k ranges promised kept few viewed whole first late =
    let bytes : List ℕ = run_bytes (content_at d units) 0 slots in
    let s : DescribedStream = viewed.stream in
    let rest : List (List ℕ) = whole.begun.first ∷ whole.begun.later in
    let v = run_viewed d units slots request e k ranges promised kept few viewed whole in
    let all : entries_from s.pid 0 (cut_packets bytes) ≡ entries_from s.pid (length whole.begun.before) rest =
    none_entries s.pid e.pid whole.begun.before rest (cut_packets bytes) viewed.pid first v.entries in
    let own : nat_eq s.pid whole.begun.packet.header.pid ≡ true = ap (λ (q : ℕ). nat_eq s.pid q) (sym whole.begun.pid ∙ viewed.pid) ∙ itself s.pid in
    let one : Entry = record { index = length whole.begun.before; bytes = whole.begun.first; packet = whole.begun.packet } in
    let here : slice_get (entries_from s.pid (length whole.begun.before) rest) 0 ≡ Some one =
    entry_first s.pid (length whole.begun.before) whole.begun.packet whole.begun.first whole.begun.later whole.begun.sound own in
    let there : slice_get (pid_list s.pid bytes) 0 ≡ Some one = ap (λ (es : List Entry). slice_get es 0) (pid_entries s.pid bytes ∙ all) ∙ here in
    late_slot d k s (units k) slots 0 bytes one ranges viewed.there ((headline d units slots ranges promised kept).streams k s viewed.there) late there

pub has_clock : (d : Scheduled) (units : ℕ → List AccessUnit) (slots : ℕ) (request : RequestView) (e : EntryState) (k : ℕ) → IsInRange d.description →
    Promised d.description d.schedule →
    UnitsKept d units → slots ≤ most_packets → (viewed : IsViewedAs d request k e) → IsClockOf d e →
    (whole : IsWhole request d.description.rate (cut_packets (run_bytes (content_at d units) 0 slots)) e) → FromTheFirst e.pid whole.begun.before →
    DueLate (units k) → HasClock request e whole.begun.before
has_clock d units slots request e k ranges promised kept few viewed clock whole first late =
    let rate : ℕ = d.description.rate in
    let base0 : ℕ = d.description.base0 in
    let bytes : List ℕ = run_bytes (content_at d units) 0 slots in
    let p : DescribedProgram = clock.1 in
    let same : e.clock_pid ≡ p.pcr_pid = clock.3 in
    let f : Followed = followed request e in
    let rest : List (List ℕ) = whole.begun.first ∷ whole.begun.later in
    let h : Headline d units slots bytes = headline d units slots ranges promised kept in
    let v = run_viewed d units slots request e k ranges promised kept few viewed whole in
    let both = clocks_kept d p slots bytes (h.programs clock.0 p clock.2) in
    let place : 0 + length whole.begun.before ≡ length whole.begun.before = omega arith in
    let split : entries_from f.clock_pid 0 (cut_packets bytes) ≡ entries_from f.clock_pid 0 whole.begun.before
    ++ entries_from f.clock_pid (length whole.begun.before) rest =
    ap (λ (l : List (List ℕ)). entries_from f.clock_pid 0 l) whole.begun.split ∙ entries_two f.clock_pid 0 whole.begun.before rest
    ∙ ap (λ (j : ℕ). entries_from f.clock_pid 0 whole.begun.before ++ entries_from f.clock_pid j rest) place in
    let clocks : AreClocks rate base0 f.clock_pid (entries_from f.clock_pid 0 whole.begun.before ++ entries_from f.clock_pid (length whole.begun.before) rest) =
    subst (λ (es : List Entry). AreClocks rate base0 f.clock_pid es) split
    (subst (λ (q : ℕ). AreClocks rate base0 q (entries_from q 0 (cut_packets bytes))) (sym same) both.0) in
    let recur : Recur rate p.pcr_limit 0 (places (entries_from f.clock_pid 0 whole.begun.before ++ entries_from f.clock_pid (length whole.begun.before) rest))
    (188 * slots) =
    subst (λ (es : List Entry). Recur rate p.pcr_limit 0 (places es) (188 * slots)) split
    (subst (λ (q : ℕ). Recur rate p.pcr_limit 0 (places (entries_from q 0 (cut_packets bytes))) (188 * slots)) (sym same) both.1) in
    elim (seen_or_none rate base0 f nothing_known whole.begun.before viewed.arrival (omega (arith, v.lengths, few))
    (clocks_front rate base0 f.clock_pid (entries_from f.clock_pid 0 whole.begun.before) (entries_from f.clock_pid (length whole.begun.before) rest) clocks)) [
      | inl seen ↦ seen
      | inr none ↦
          let later : Recur rate p.pcr_limit 0 (places (entries_from f.clock_pid (length whole.begun.before) rest)) (188 * slots) =
          subst (λ (es : List Entry). Recur rate p.pcr_limit 0 (places (es ++ entries_from f.clock_pid (length whole.begun.before) rest)) (188 * slots)) none
          recur in
          absurd (none_within rate p.pcr_limit slots (length whole.begun.before) (entries_from f.clock_pid (length whole.begun.before) rest)
          (none_before f.clock_pid (length whole.begun.before) rest) (omega (arith, v.lengths))
          (program_range d.description clock.0 p ranges clock.2).most_limit ranges.least_rate
          (after_second d units slots request e k ranges promised kept few viewed whole first late) later)
    ]

pub run_late_as_measured_law : RunLateAsMeasuredLaw
run_late_as_measured_law d units slots request e k ranges promised kept few viewed clock whole late =
    let first = run_first_law d units slots request e k ranges promised kept few viewed whole late in
    let before = has_clock d units slots request e k ranges promised kept few viewed clock whole first late in
    let f : Followed = followed request e in
    let with_first : HasClock request e (whole.begun.before ++ whole.begun.first ∷ []) =
    ap (λ (b : Before). is_some b.clock) (known_two f nothing_known whole.begun.before (whole.begun.first ∷ []))
    ∙ stays_some f (known_after_all f nothing_known whole.begun.before) (whole.begun.first ∷ []) before in
    run_as_measured_law d units slots request e k ranges promised kept few viewed whole first with_first

pub job_late_as_measured_law : JobLateAsMeasuredLaw
job_late_as_measured_law d units slots request e k ranges promised none few viewed clock =
    let each : ℕ → List AccessUnit = λ j. units_of j units in
    let same : run_bytes (content_at d each) 0 slots ≡ output_of false d (job_history units slots) = sym (output_bytes (content_at d each) 0 slots) in
    subst (λ (bytes : List ℕ). (whole : IsWhole request d.description.rate (cut_packets bytes) e) → DueLate (units_of k units) → (f : StreamFullness) →
    IsStreamFullness d.description.rate d.description.base0 viewed.stream (units_of k units) (packets_on viewed.stream.pid bytes) f → AsMeasured e f) same
    (run_late_as_measured_law d each slots request e k ranges promised (job_kept d units ranges none) few viewed clock)
