-- In a view of a multiplexer's output no clock reference has an error.
use Rattle.std.proofs.Common.{◌≡◌, ◌∙◌, sym, ℕ, zero, suc, ◌+◌, ◌*◌, ◌/◌, ◌≤◌, ◌<◌, Bool, false, List, [], ◌∷◌, ◌++◌, length, Option, Some, None, is_some}
use Rattle.std.proofs.Common.{append-nil, if◌then◌else◌, true, refl, ap, subst, inl, inr, arith}
use Rattle.std.specs.Prelude.{IfSome}
use Rattle.std.proofs.Math.Nat.{mul-le-mul_right}
use Rattle.std.proofs.lemmas.Bool.{cases_Bool, le-ltb}
use Rattle.std.proofs.lemmas.List.{length-append}
use Rattle.std.proofs.lemmas.List.Elements.{All-nil}
use Rattle.clock27.specs.Recurrence.{Recur}
use Rattle.clock27.specs.Reference.{Reference}
use Rattle.ts_packet.specs.Views.{AdaptationView, NoFlags, PacketView, WithFlags}
use Rattle.ts_packet.specs.Reading.{packet_at}
use Rattle.ts_packet.specs.PcrBytes.{has_pcr}
use Rattle.ts_packet.specs.PidList.{Entry, cut_packets, is_of_pid}
use Rattle.pes_packet.specs.AccessUnits.{AccessUnit}
use Rattle.pes_packet.specs.Units.{units_of}
use Rattle.slot_contents.specs.Contents.{Content, entries_in, run_bytes, view_of}
use Rattle.slot_contents.proofs.Runs.{run_pid_list}
use Rattle.description_parts.specs.Ranges.{IsInRange}
use Rattle.slot_plan.specs.Promised.{Promised}
use Rattle.monitor.proofs.FoundWhole.{packet_count}
use Rattle.mux_core.specs.Scheduled.{Scheduled}
use Rattle.mux_core.specs.Headline.{Headline, UnitsKept}
use Rattle.mux_core.specs.Histories.{content_at}
use Rattle.mux_core.specs.WholeJobs.{job_history, output_of}
use Rattle.mux_core.proofs.JobWriting.{output_bytes}
use Rattle.mux_core.proofs.Whole.{contents_fit, headline}
use Rattle.laws_run.proofs.ClocksRecur.{NoClock, all_none, find_program, none_here}
use Rattle.laws_run.proofs.MonitoredJobs.{job_kept}
use Rattle.arrival.specs.declared.arrival.Arrival.{Arrival}
use Rattle.arrival.specs.declared.arrival.Arrival.TheVariants.{AtRate}
use Rattle.tr101290.specs.declared.report.Inaccuracy.{Inaccuracy}
use Rattle.tr101290.specs.declared.report.PcrReport.{PcrReport}
use Rattle.tr101290.specs.declared.watch.PcrTiming.TheVariants.{ConstantRate}
use Rattle.tr101290.specs.Errors.{accuracy_error, beyond_if, difference_in, discontinuity_error, off_beyond, repetition_error}
use Rattle.tr101290.specs.PidWatches.{WatchesState, watch_of, watch_or_new}
use Rattle.tr101290.specs.RateJudges.{JudgeState, error_list, last_errors, varies}
use Rattle.tr101290.specs.Samples.{sample_in, sample_with}
use Rattle.ts_watch.specs.Choices.{RequestView}
use Rattle.ts_watch.specs.ClockEvents.{error_events, report_events_if}
use Rattle.ts_watch.specs.RuleEvents.{accuracy_events, judge_after}
use Rattle.ts_report.specs.Seen.{report_on, timing_for, timing_of}
use Rattle.ts_report.specs.Views.{ViewState, after_all, start}
use Rattle.laws_view.specs.StreamPackets.{most_packets, sound_packet}
use Rattle.laws_view.specs.ViewedReferences.{IsFine, IsFineClock, IsNear, IsSoon, IsWithin, JobReferencesLaw, NoReferenceError, RunReferencesLaw}
use Rattle.laws_view.proofs.ClockAhead.{IsReference, entries_from, places}
use Rattle.laws_view.proofs.PidEntries.{pid_entries}
use Rattle.laws_view.proofs.ProgramClocks.{clocks_kept, program_range}
use Rattle.laws_view.proofs.Steps.{after_sound, next, packet_is, sound_options, sound_packets}
use Rattle.laws_view.proofs.WatchedReferences.{AllFine, Comes, NoReferences, Rated, Watched, one_fine, one_watched, report_watched, sample_kept, watches_after}

-- The events of a report

none_beyond : (byte : ℕ) (o : Option ℕ) → IfSome o IsSoon → beyond_if 2700000 byte o ≡ None
unfolding beyond_if
none_beyond byte None h = refl
none_beyond byte (Some ticks) h = rw (le-ltb 2700000 ticks h) refl

none_off : (o : Option Inaccuracy) → IfSome o IsNear → off_beyond o ≡ None
unfolding off_beyond
none_off None h = refl
none_off (Some off) h = rw (le-ltb 500 off.nanoseconds (omega (arith, h))) refl

no_events : (rate : ℕ) (judge : JudgeState) (index pid : ℕ) (o : Option PcrReport) → IfSome o IsWithin →
    report_events_if pid o ++ accuracy_events (ConstantRate rate) judge index pid o ≡ []
unfolding report_events_if accuracy_events error_events error_list
no_events rate judge index pid None h = refl
no_events rate judge index pid (Some report) h =
    let repetition : repetition_error report ≡ None = none_beyond report.byte report.interval h.interval in
    let discontinuity : discontinuity_error report ≡ None = none_beyond report.byte (difference_in report.step) h.difference in
    let accuracy : accuracy_error report ≡ None = none_off report.inaccuracy h.inaccuracy in
    rw (repetition, discontinuity, accuracy) refl

-- A view, packet by packet

pub record Watches (r : Rated) (s : ViewState) (index : ℕ) (packets : List (List ℕ)) : Type 0 where
  pub arrival : s.seen.options.arrival ≡ AtRate r.rate
  pub count : s.seen.packets ≡ index
  pub watched : (pid : ℕ) → Watched r pid index (watch_of s.seen.watches pid) (entries_from pid index packets)
  pub fine : AllFine s.seen.watches
  pub held : s.seen.rules.judge.held ≡ []

sound_watches : (s : ViewState) (o : Option PacketView) → (after_sound s o).seen.watches ≡ watches_after s.seen.watches s.seen.packets o
unfolding after_sound watches_after
sound_watches s None = refl
sound_watches s (Some packet) = refl

-- At a given rate no report waits to be judged.
same_judge : (rate : ℕ) (judge : JudgeState) (pid : ℕ) (o : Option PcrReport) → judge_after (ConstantRate rate) judge pid o ≡ judge
unfolding judge_after
same_judge rate judge pid None = refl
same_judge rate judge pid (Some report) = refl

sound_judge : (rate : ℕ) (s : ViewState) (o : Option PacketView) → s.seen.options.arrival ≡ AtRate rate →
    (after_sound s o).seen.rules.judge ≡ s.seen.rules.judge
unfolding after_sound timing_of
sound_judge rate s None at_rate = refl
sound_judge rate s (Some packet) at_rate = rw at_rate (same_judge rate s.seen.rules.judge packet.header.pid (report_on s.seen packet))

pub next_watches : (r : Rated) (s : ViewState) (index : ℕ) (bytes : List ℕ) (packets : List (List ℕ)) → index < r.slots → Watches r s index (bytes ∷ packets) →
    Watches r (next s bytes) (index + 1) packets
unfolding entries_from
next_watches r s index bytes packets few h =
    let o : Option PacketView = sound_packet (packet_at bytes) in
    let kept : (next s bytes).seen.watches ≡ watches_after s.seen.watches index o =
    sound_watches s o ∙ ap (λ (n : ℕ). watches_after s.seen.watches n o) h.count in
    record {
      arrival = ap (λ x. x.arrival) (sound_options s o) ∙ h.arrival;
      count = sound_packets s o (omega (arith, few, r.few, h.count)) ∙ ap (λ (n : ℕ). n + 1) h.count;
      watched = λ pid. subst (λ (w : WatchesState). Watched r pid (index + 1) (watch_of w pid) (entries_from pid (index + 1) packets)) (sym kept)
          (one_watched r pid index bytes o s.seen.watches (entries_from pid (index + 1) packets) few (h.watched pid));
      fine = subst (λ (w : WatchesState). AllFine w) (sym kept)
          (one_fine r index bytes o s.seen.watches (λ pid. entries_from pid (index + 1) packets) few h.watched h.fine);
      held = ap (λ (j : JudgeState). j.held) (sound_judge r.rate s o h.arrival) ∙ h.held;
    }

pub all_watches : (r : Rated) (s : ViewState) (index : ℕ) (before later : List (List ℕ)) → index + length (before ++ later) ≤ r.slots →
    Watches r s index (before ++ later) → Watches r (after_all s before) (index + length before) later
unfolding after_all
all_watches r s index [] later few h = subst (λ (n : ℕ). Watches r s n later) (let same : index ≡ index + 0 = omega arith in same) h
all_watches r s index (first ∷ before) later few h =
    let one = next_watches r s index first (before ++ later) (omega (arith, few)) h in
    let rest = all_watches r (next s first) (index + 1) before later (omega (arith, few)) one in
    let same : index + 1 + length before ≡ index + length (first ∷ before) = omega arith in
    subst (λ (x : ViewState). Watches r (after_all x before) (index + length (first ∷ before)) later) (sym (packet_is s first))
    (subst (λ (n : ℕ). Watches r (after_all (next s first) before) n later) same rest)

none_last : (judge : JudgeState) → judge.held ≡ [] → last_errors judge ≡ []
none_last judge h = by (varies judge)
  where
    by : (b : Bool) → (if b then [] else judge.held) ≡ []
    by true = refl
    by false = h

pub fine_at : (r : Rated) (s : ViewState) (index : ℕ) (bytes : List ℕ) (later : List (List ℕ)) (packet : PacketView) → index < r.slots →
    sound_packet (packet_at bytes) ≡ Some packet → Watches r s index (bytes ∷ later) → IsFine s.seen packet
unfolding entries_from timing_of
fine_at r s index bytes later packet few sound h =
    let own = rw sound at (h.watched packet.header.pid) in
    let at_index = report_watched r index bytes packet s.seen.watches (entries_from packet.header.pid (index + 1) later) few own in
    let report : IfSome (report_on s.seen packet) IsWithin = rw h.count at_index in
    record {
      report = report;
      events = rw h.arrival (no_events r.rate s.seen.rules.judge s.seen.packets packet.header.pid (report_on s.seen packet) report);
    }

-- The clock references of a run

more_recur : (rate limit from : ℕ) (bytes : List ℕ) (until : ℕ) → limit ≤ 100 → Recur rate limit from bytes until → Recur rate 100 from bytes until
unfolding Recur
more_recur rate limit from [] until le h = let far : limit * rate ≤ 100 * rate = mul-le-mul_right rate le in omega (arith, h, far)
more_recur rate limit from (byte ∷ bytes) until le h =
    let far : limit * rate ≤ 100 * rate = mul-le-mul_right rate le in
    (omega (arith, h.0, far), more_recur rate limit byte bytes until le h.1)

none_with : (index : ℕ) (discontinuity : Bool) (o : Option Reference) → is_some o ≡ false → sample_with index discontinuity o ≡ None
unfolding sample_with
none_with index discontinuity None none = refl
none_with index discontinuity (Some r) none = absurd (let no : ⊥ = cc in no)

none_read : (index : ℕ) (a : Option AdaptationView) → has_pcr a ≡ false → sample_in index a ≡ None
unfolding sample_in
none_read index None none = refl
none_read index (Some NoFlags) none = refl
none_read index (Some (WithFlags parts)) none = none_with index parts.discontinuity_indicator parts.pcr none

no_references : (pid : ℕ) (content : ℕ → Content) (s n : ℕ) → ((t : ℕ) → NoClock pid (content t)) → NoReferences (entries_in pid content s n)
unfolding entries_in NoReferences
no_references pid content s zero none = tt
no_references pid content s (suc n) none =
    let rest = no_references pid content (suc s) n none in
    elim (cases_Bool (is_of_pid pid (view_of (content s)))) [
      | inl y ↦ rw y (none_read s (view_of (content s)).adaptation (none_here pid (content s) (none s) y), rest)
      | inr k ↦ rw k rest
    ]

abbrev pub run_rated : (d : Scheduled) (slots : ℕ) → IsInRange d.description → slots ≤ most_packets → Rated
run_rated d slots ranges few = record {
  rate = d.description.rate;
  base0 = d.description.base0;
  slots = slots;
  least = ranges.least_rate;
  most = ranges.most_rate;
  few = few;
}

-- The clock references of a run on any PID
run_comes : (d : Scheduled) (units : ℕ → List AccessUnit) (slots pid : ℕ) (ranges : IsInRange d.description) → Promised d.description d.schedule →
    UnitsKept d units → (few : slots ≤ most_packets) →
    Comes (run_rated d slots ranges few) pid 0 None (entries_from pid 0 (cut_packets (run_bytes (content_at d units) 0 slots)))
unfolding IsReference
run_comes d units slots pid ranges promised kept few =
    let r : Rated = run_rated d slots ranges few in
    let bytes : List ℕ = run_bytes (content_at d units) 0 slots in
    let h : Headline d units slots bytes = headline d units slots ranges promised kept in
    elim (find_program d.description.programs pid) [
      | inl (i, p, is, same) ↦
          let both = clocks_kept d p slots bytes (h.programs i p is) in
          let es : List Entry = entries_from p.pcr_pid 0 (cut_packets bytes) in
          let recur = more_recur d.description.rate p.pcr_limit 0 (places es) (188 * slots) (program_range d.description i p ranges is).most_limit both.1 in
          subst (λ (q : ℕ). Comes r q 0 None (entries_from q 0 (cut_packets bytes))) same (inl (both.0, recur))
      | inr none ↦ inr (subst (λ (es : List Entry). NoReferences es)
          (sym (run_pid_list pid slots (content_at d units) (contents_fit d units ranges kept)) ∙ pid_entries pid bytes)
          (no_references pid (content_at d units) 0 slots (λ t. all_none d units pid t none)))
    ]

pub run_begins : (d : Scheduled) (units : ℕ → List AccessUnit) (slots : ℕ) (request : RequestView) (ranges : IsInRange d.description) →
    Promised d.description d.schedule → UnitsKept d units → (few : slots ≤ most_packets) → request.options.arrival ≡ AtRate d.description.rate →
    Watches (run_rated d slots ranges few) (start request) 0 (cut_packets (run_bytes (content_at d units) 0 slots))
unfolding timing_for watch_or_new sample_kept
run_begins d units slots request ranges promised kept few at_rate = record {
  arrival = at_rate;
  count = refl;
  watched = λ pid. record {
    timing = ap (λ (a : Arrival). timing_for request.stamps a) at_rate;
    comes = run_comes d units slots pid ranges promised kept few;
  };
  fine = All-nil IsFineClock;
  held = refl;
}

-- A run has as many packets as slots.
pub run_packets : (d : Scheduled) (units : ℕ → List AccessUnit) (slots : ℕ) → IsInRange d.description → Promised d.description d.schedule → UnitsKept d units →
    length (cut_packets (run_bytes (content_at d units) 0 slots)) ≡ slots
run_packets d units slots ranges promised kept =
    let bytes : List ℕ = run_bytes (content_at d units) 0 slots in
    let h : Headline d units slots bytes = headline d units slots ranges promised kept in
    let many : length (cut_packets bytes) ≡ length bytes / 188 = packet_count (length bytes / 188) bytes in
    omega (arith, many, h.size)

-- Packets that are watched from the first one on have no clock reference with an error.
no_errors : (r : Rated) (request : RequestView) (packets : List (List ℕ)) → length packets ≡ r.slots → Watches r (start request) 0 packets →
    NoReferenceError request packets
no_errors r request packets number begins =
    let end = all_watches r (start request) 0 packets [] (omega (arith, number, length-append packets []))
    (subst (λ (ps : List (List ℕ)). Watches r (start request) 0 ps) (sym (append-nil packets)) begins) in
    record {
      each = λ before later bytes packet split sound.
          let many : length (before ++ bytes ∷ later) ≡ r.slots = ap (λ (ps : List (List ℕ)). length ps) (sym split) ∙ number in
          let parts = length-append before (bytes ∷ later) in
          let first = subst (λ (ps : List (List ℕ)). Watches r (start request) 0 ps) split begins in
          let now = all_watches r (start request) 0 before (bytes ∷ later) (omega (arith, many)) first in
          fine_at r (after_all (start request) before) (0 + length before) bytes later packet (omega (arith, many, parts)) sound now;
      clocks = end.fine;
      none_left = none_last (after_all (start request) packets).seen.rules.judge end.held;
    }

pub run_references_law : RunReferencesLaw
run_references_law d units slots request ranges promised kept few at_rate =
    no_errors (run_rated d slots ranges few) request (cut_packets (run_bytes (content_at d units) 0 slots)) (run_packets d units slots ranges promised kept)
    (run_begins d units slots request ranges promised kept few at_rate)

pub job_references_law : JobReferencesLaw
job_references_law d units slots request ranges promised none few at_rate =
    let each : ℕ → List AccessUnit = λ j. units_of j units in
    let same : run_bytes (content_at d each) 0 slots ≡ output_of false d (job_history units slots) = sym (output_bytes (content_at d each) 0 slots) in
    subst (λ (bytes : List ℕ). NoReferenceError request (cut_packets bytes)) same
    (run_references_law d each slots request ranges promised (job_kept d units ranges none) few at_rate)
