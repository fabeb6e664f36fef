-- A view of a multiplexer's output has no event `table_repetition` of the output's tables.
use Rattle.std.proofs.Common.{◌≡◌, ◌∙◌, ℕ, ◌*◌, ◌-◌, ◌/◌, ◌^◌, ◌≤◌, ◌<◌, ◌==◌, ◌&&◌, Bool, true, false, cond, List, [], ◌∷◌, ◌++◌, length, map, filter}
use Rattle.std.proofs.Common.{Option, Some, None, drop, refl, sym, ap, ap₂, subst, arith, append-nil, length-drop}
use Rattle.std.specs.List.{concat, cons_option, filter_map}
use Rattle.std.specs.Option.{option_to_list}
use Rattle.std.proofs.lemmas.List.{map-append}
use Rattle.std.proofs.lemmas.List.Elements.{filter-append, filter_map-append}
use Rattle.ts_packet.specs.PidList.{cut_packets, pid_list}
use Rattle.slot_contents.specs.Contents.{run_bytes}
use Rattle.slot_contents.proofs.Runs.{run_length}
use Rattle.pes_packet.specs.Units.{units_of}
use Rattle.arrival.specs.declared.arrival.Arrival.{Arrival}
use Rattle.arrival.specs.declared.arrival.Arrival.TheVariants.{AtRate}
use Rattle.pid_findings.specs.Views.{FindingView, PidFinding, WhatView}
use Rattle.demux.specs.Laws.{found_of, has_pid, with_pid_at}
use Rattle.pid_findings.specs.Findings.{findings}
use Rattle.demux.specs.Stream.{StreamState, finished}
use Rattle.demux.specs.Stream as demux
use Rattle.demux.specs.FoundSoFar.{FoundSoFar, found_in_all, taken_all}
use Rattle.demux.proofs.FoundSoFar.{all_are_found, nothing_at_first, packets_add}
use Rattle.demux.proofs.PushedBytes.{pushed_less}
use Rattle.demux.proofs.WholeStream.{each_pid_alone}
use Rattle.pid_findings.specs.declared.finding.Kind.{Kind}
use Rattle.pid_findings.specs.declared.finding.Kind.TheVariants.{Table, Pes}
use Rattle.monitor.specs.Begins.{found_on}
use Rattle.monitor.proofs.FoundWhole.{found_whole, kept_held, of_each, sizes, take_rest}
use Rattle.tr101290.specs.Intervals.{IntervalState, error_at, no_section, taken}
use Rattle.tr101290.specs.Sections.{begin_of, section_begin, section_by}
use Rattle.tr101290.specs.declared.intervals.SectionBegin.{SectionBegin}
use Rattle.tr101290.specs.declared.intervals.TableError.{TableError}
use Rattle.tr101290.specs.declared.intervals.TableTiming.TheVariants.{ConstantRate}
use Rattle.laws_view.specs.Tables.{errors_from, sections_of}
use Rattle.laws_run.proofs.MonitoredJobs.{job_kept}
use Rattle.mux_core.specs.Histories.{content_at}
use Rattle.mux_core.proofs.JobWriting.{output_bytes}
use Rattle.mux_core.proofs.Whole.{contents_fit}
use Rattle.events.specs.declared.event.Event.{Event}
use Rattle.events.specs.declared.event.TableFault.{TableFault}
use Rattle.ts_watch.specs.Choices.{RequestView}
use Rattle.ts_watch.specs.TableEvents.{error_event}
use Rattle.ts_report.specs.Seen.{table_timing}
use Rattle.ts_report.specs.Views.{start}
use Rattle.laws_view.specs.ViewedSections.{sections_in}
use Rattle.laws_view.specs.ViewedTables.{AreBytes, JobTableEventsLaw, NoLateEvents, RunTableEventsLaw, ViewedTablesLaw, is_late, is_late_on, is_of, is_on}
use Rattle.laws_view.specs.ViewedTables.{late_of}
use Rattle.laws_view.proofs.LateEvents.{Agree, itself, off_begin, off_section, own, sections_at}
use Rattle.laws_view.proofs.MuxedFrames.{packet_sizes_are}
use Rattle.laws_view.proofs.OtherTables.{all_in_time}
use Rattle.laws_view.proofs.PartErrors.{at_pid}
use Rattle.laws_view.proofs.SmallSections.{small_sections}
use Rattle.laws_view.proofs.ViewedSections.{alike_first}
use Rattle.laws_view.proofs.ViewedTables.{Whole, along}

none_before : (xs ys : List TableError) → xs ++ ys ≡ [] → xs ≡ []
none_before [] ys e = refl
none_before (x ∷ xs) ys e = absurd (let no : ⊥ = cc in no)

none_after : (xs ys : List TableError) → xs ++ ys ≡ [] → ys ≡ []
none_after [] ys e = e
none_after (x ∷ xs) ys e = absurd (let no : ⊥ = cc in no)

-- If sections have no errors, the first of them have none.
first_errors : (j : IntervalState) (xs ys : List SectionBegin) → errors_from j (xs ++ ys) ≡ [] → errors_from j xs ≡ []
unfolding errors_from
first_errors j [] ys e = refl
first_errors j (x ∷ xs) ys e =
    let here : List TableError = option_to_list (error_at j x) in
    ap₂ (λ (a b : List TableError). a ++ b) (none_before here (errors_from (taken j x) (xs ++ ys)) e)
    (first_errors (taken j x) xs ys (none_after here (errors_from (taken j x) (xs ++ ys)) e))

module _ (pid table_id : ℕ) where
  -- 1. The sections of a table, in the findings on its PID

  abbrev of_table : List SectionBegin → List SectionBegin
  of_table sections = filter (λ s. s.table_id == table_id) sections

  unfoldable IsOn : Option SectionBegin → Type 0
  IsOn None = Unit {0}
  IsOn (Some s) = (s.pid == pid) ≡ true

  on_begin : (p : Option ℕ) (begun : Option (ℕ × Kind)) (what : WhatView) → has_pid pid p ≡ true → IsOn (section_by p begun what)
  unfolding section_by begin_of IsOn
  on_begin None begun what e = tt
  on_begin (Some q) None what e = tt
  on_begin (Some q) (Some (place, Pes stamped access)) what e = tt
  on_begin (Some q) (Some (place, Table other)) what e = e

  on_section : (o : Option SectionBegin) (rest others : List SectionBegin) → IsOn o → own pid table_id rest ≡ of_table others →
      own pid table_id (cons_option o rest) ≡ of_table (cons_option o others)
  unfolding IsOn
  on_section None rest others e h = h
  on_section (Some s) rest others e h =
      ap (λ (t : Bool). cond (t && (s.table_id == table_id)) (s ∷ own pid table_id rest) (own pid table_id rest)) e
      ∙ ap (λ (l : List SectionBegin). cond (s.table_id == table_id) (s ∷ l) l) h

  own_of : (fs : List FindingView) → own pid table_id (sections_at fs) ≡ of_table (filter_map section_begin (found_of pid fs))
  own_of [] = refl
  own_of (f ∷ fs) = by (own_of fs) (has_pid pid f.pid) refl
    where
      by : own pid table_id (sections_at fs) ≡ of_table (filter_map section_begin (found_of pid fs)) → (t : Bool) → has_pid pid f.pid ≡ t →
          own pid table_id (cons_option (section_begin f) (sections_at fs))
          ≡ of_table (filter_map section_begin (cond t (f ∷ found_of pid fs) (found_of pid fs)))
      by rest true e = on_section (section_begin f) (sections_at fs) (filter_map section_begin (found_of pid fs)) (on_begin f.pid f.begun f.what e) rest
      by rest false e = off_section pid table_id (section_begin f) (sections_at fs) (off_begin pid table_id f.pid f.begun f.what e) ∙ rest

  pub own_whole : (bytes : List ℕ) → length bytes / 188 < 2 ^ 64 - 1 →
      own pid table_id (sections_at (found_whole bytes)) ≡ sections_of pid table_id (found_on pid bytes)
  own_whole bytes few =
      own_of (found_whole bytes)
      ∙ ap (λ (fs : List FindingView). of_table (filter_map section_begin fs)) (of_each bytes few pid)
      ∙ ap of_table (at_pid pid (found_on pid bytes))

  -- 2. A view of a stream whose sections of the table have no errors

  none_first : (xs ys : List Event) → xs ++ ys ≡ [] → xs ≡ []
  none_first [] ys e = refl
  none_first (x ∷ xs) ys e = absurd (let no : ⊥ = cc in no)

  first_agree : (rate : ℕ) (request : RequestView) → request.options.arrival ≡ AtRate rate →
      Agree pid table_id (start request).seen.tables.times.intervals (no_section (ConstantRate rate))
  unfolding table_timing
  first_agree rate request at = record { timing = ap table_timing at; places = λ lt. refl; parts = λ part lt few. refl }

  pub none_reported : (rate : ℕ) (request : RequestView) (bytes : List ℕ) → request.options.arrival ≡ AtRate rate → length bytes / 188 < 2 ^ 64 - 1 →
      AreBytes bytes → errors_from (no_section (ConstantRate rate)) (sections_of pid table_id (found_on pid bytes)) ≡ [] →
      filter (is_late pid table_id) (sections_in (start request) (cut_packets bytes)) ≡ []
  none_reported rate request bytes at few small none =
      let none_yet : IntervalState = no_section (ConstantRate rate) in
      let w : Whole pid table_id (start request) none_yet (cut_packets bytes) (sections_at (found_in_all demux.start (cut_packets bytes))) =
      along pid table_id rate (start request) demux.start none_yet (cut_packets bytes) (alike_first request) at (λ free. first_agree rate request at)
      (packet_sizes_are bytes) (small_sections bytes small) in
      let first : List SectionBegin = sections_at (found_in_all demux.start (cut_packets bytes)) in
      let last : List SectionBegin = sections_at (finished (taken_all demux.start (cut_packets bytes))).found in
      let parts : own pid table_id (sections_at (found_whole bytes)) ≡ own pid table_id first ++ own pid table_id last =
      ap (own pid table_id) (filter_map-append section_begin (found_in_all demux.start (cut_packets bytes))
      (finished (taken_all demux.start (cut_packets bytes))).found) ∙ filter-append _ first last in
      let errors : errors_from none_yet (own pid table_id first) ≡ [] =
      first_errors none_yet (own pid table_id first) (own pid table_id last)
      (ap (errors_from none_yet) (sym parts ∙ own_whole bytes few) ∙ none) in
      none_first _ w.rest (w.events_are ∙ ap (map error_event) errors)

-- 3. A view of any stream

before_end : (bytes : List ℕ) → (demux.pushed demux.start bytes).found ≡ found_in_all demux.start (cut_packets bytes)
before_end bytes =
    let k : ℕ = length bytes / 188 in
    let packets : List (List ℕ) = cut_packets bytes in
    let rest : List ℕ = drop (188 * k) bytes in
    let s : StreamState = taken_all demux.start packets in
    let found : List FindingView = found_in_all demux.start packets in
    let fits : 188 * k ≤ length bytes = omega arith in
    let h : FoundSoFar (concat packets) s found = packets_add [] packets demux.start [] nothing_at_first refl (sizes k bytes fits) in
    let size : length rest ≡ length bytes - 188 * k = length-drop (188 * k) bytes in
    let held : length s.held ≡ 0 = ap length (kept_held demux.start packets) in
    let less : demux.pushed s rest ≡ record s { held = s.held ++ rest } = pushed_less s rest (omega (arith, size, held)) in
    ap (λ (xs : List ℕ). (demux.pushed demux.start xs).found) (sym (take_rest k bytes))
    ∙ (all_are_found (concat packets) rest s found h).1
    ∙ ap (λ (t : StreamState). found ++ t.found) less
    ∙ ap (λ (fs : List FindingView). found ++ fs) h.none
    ∙ append-nil found

pub viewed_tables_law : ViewedTablesLaw
viewed_tables_law rate pid table_id request bytes at few small no_null free =
    let none_yet : IntervalState = no_section (ConstantRate rate) in
    let found : List FindingView = found_in_all demux.start (cut_packets bytes) in
    let w : Whole pid table_id (start request) none_yet (cut_packets bytes) (sections_at found) =
    along pid table_id rate (start request) demux.start none_yet (cut_packets bytes) (alike_first request) at
    (λ none. first_agree pid table_id rate request at) (packet_sizes_are bytes) (small_sections bytes small) in
    let events : List Event = filter (is_late pid table_id) (sections_in (start request) (cut_packets bytes)) in
    sym (append-nil events)
    ∙ ap (λ (l : List Event). events ++ l) (sym (w.none free))
    ∙ w.events_are
    ∙ ap (λ (l : List SectionBegin). map error_event (errors_from none_yet l))
    (own_of pid table_id found
    ∙ ap (λ (fs : List FindingView). filter (λ (s : SectionBegin). s.table_id == table_id) (filter_map section_begin fs))
    (ap (found_of pid) (sym (before_end bytes)) ∙ (each_pid_alone pid bytes no_null few).0)
    ∙ ap (filter (λ (s : SectionBegin). s.table_id == table_id)) (at_pid pid (findings (pid_list pid bytes))))

-- 4. All tables of a PID

pub none_later : (p : Event → Bool) (e : Event) (events : List Event) → filter p (e ∷ events) ≡ [] → filter p events ≡ []
none_later p e events h = by (p e) h
  where
    by : (b : Bool) → cond b (e ∷ filter p events) (filter p events) ≡ [] → filter p events ≡ []
    by true k = absurd (let no : ⊥ = cc in no)
    by false k = k

each_table : (pid : ℕ) (events : List Event) → ((table_id : ℕ) → filter (is_late pid table_id) events ≡ []) → filter (is_late_on pid) events ≡ []
each_table pid [] h = refl
each_table pid (e ∷ events) h =
    by (late_of e) (λ table_id. h table_id) (each_table pid events (λ table_id. none_later (is_late pid table_id) e events (h table_id)))
  where
    by : (o : Option TableFault) →
        ((table_id : ℕ) → cond (is_of pid table_id o) (e ∷ filter (is_late pid table_id) events) (filter (is_late pid table_id) events) ≡ []) →
        filter (is_late_on pid) events ≡ [] → cond (is_on pid o) (e ∷ filter (is_late_on pid) events) (filter (is_late_on pid) events) ≡ []
    by None k rest = rest
    by (Some fault) k rest = in_case (fault.pid == pid) refl
      where
        in_case : (b : Bool) → (fault.pid == pid) ≡ b → cond (fault.pid == pid) (e ∷ filter (is_late_on pid) events) (filter (is_late_on pid) events) ≡ []
        in_case false g = ap (λ (b : Bool). cond b (e ∷ filter (is_late_on pid) events) (filter (is_late_on pid) events)) g ∙ rest
        in_case true g = absurd (
            let yes : ((fault.pid == pid) && (fault.table == fault.table)) ≡ true = ap₂ (λ (a b : Bool). a && b) g (itself fault.table) in
            let is : (e ∷ filter (is_late pid fault.table) events) ≡ [] =
            ap (λ (b : Bool). cond b (e ∷ filter (is_late pid fault.table) events) (filter (is_late pid fault.table) events)) (sym yes) ∙ k fault.table in
            let no : ⊥ = cc in no)

-- 5. The tables of a run

pub run_table_events_law : RunTableEventsLaw
run_table_events_law d units slots request ranges promised kept few at small pid none =
    let bytes : List ℕ = run_bytes (content_at d units) 0 slots in
    let size : length bytes ≡ 188 * slots = run_length (content_at d units) 0 slots (contents_fit d units ranges kept) in
    let count : length bytes / 188 < 2 ^ 64 - 1 = omega (arith, size, few) in
    each_table pid (sections_in (start request) (cut_packets bytes)) (λ table_id. none_reported pid table_id d.description.rate request bytes at count small
    (all_in_time d units slots ranges promised kept few pid table_id none))

pub job_table_events_law : JobTableEventsLaw
job_table_events_law d units slots request ranges promised none few at small =
    let same = output_bytes (content_at d (λ k. units_of k units)) 0 slots in
    subst (NoLateEvents d.description request) (sym same)
    (run_table_events_law d (λ k. units_of k units) slots request ranges promised (job_kept d units ranges none) (omega (arith, few)) at
    (subst AreBytes same small))
