-- In a multiplexer's output each section is on a PID where its table belongs, and none has a wrong check word.
use Rattle.std.proofs.Common.{◌≡◌, ◌∙◌, ℕ, ◌+◌, ◌-◌, ◌*◌, ◌/◌, ◌^◌, ◌≤◌, ◌<◌, ◌==◌, Bool, true, false, cond, List, [], ◌∷◌, ◌++◌, length, take, drop, map}
use Rattle.std.proofs.Common.{filter, nat_le}
use Rattle.std.specs.Prelude.{◌&&◌, ◌||◌, not}
use Rattle.std.proofs.Common.{slice_get, inl, inr, Option, Some, None, refl, sym, ap, ap₂, subst, arith, All, ne_eqb}
use Rattle.std.specs.Prelude.{slice_index}
use Rattle.std.proofs.lemmas.Bool.{cases_Bool, cases_lt}
use Rattle.std.proofs.lemmas.List.Elements.{All-head, All-tail, filter-append}
use Rattle.own_slots.specs.Slots.{own_slots}
use Rattle.own_slots.specs.Rounds.{starts}
use Rattle.pes_packet.specs.AccessUnits.{AccessUnit}
use Rattle.pes_packet.specs.Units.{units_of}
use Rattle.ts_packet.specs.Reading.{packet_at}
use Rattle.ts_packet.specs.PidList.{cut_packets, pid_list}
use Rattle.slot_contents.specs.Contents.{run_bytes}
use Rattle.slot_contents.proofs.Runs.{run_length}
use Rattle.description_parts.specs.Described.{DescribedStream}
use Rattle.description_parts.specs.Ranges.{IsInRange}
use Rattle.description_parts.specs.Tables.{kind_pid, table_count, table_kind, table_kinds, table_pid}
use Rattle.description_parts.specs.declared.table_kind.TableKind.{TableKind}
use Rattle.description_parts.specs.declared.table_kind.TableKind.TheVariants.{Eit, Nit, Pat, Pmt, Private, Sdt, Tdt}
use Rattle.std.proofs.lemmas.Option.{slice_get_within}
use Rattle.table_rounds.specs.Tables.{Table as Rounds, round_places}
use Rattle.pid_findings.specs.Views.{FindingView, PidFinding, WhatView}
use Rattle.pid_findings.specs.Findings.{findings_to_end}
use Rattle.demux.specs.Laws.{found_of, has_pid, with_pid_at}
use Rattle.demux.specs.Stream.{StreamState, finished, found_in, taken}
use Rattle.demux.specs.Stream as demux
use Rattle.demux.specs.FoundSoFar.{found_in_all, taken_all}
use Rattle.pid_findings.specs.declared.finding.Kind.{Kind}
use Rattle.pid_findings.specs.declared.finding.Kind.TheVariants.{Pes, Table}
use Rattle.laws_run.specs.Rounds.{sections_of_rounds}
use Rattle.laws_run.specs.Sections.{section_found, section_packets}
use Rattle.laws_run.specs.Units.{unit_found}
use Rattle.laws_run.specs.Sent.{Ending, Sending, each_found, if_sent, next_of, sendings}
use Rattle.mux_core.specs.Scheduled.{Scheduled}
use Rattle.mux_core.specs.Headline.{UnitsKept}
use Rattle.mux_core.specs.Histories.{content_at, owned_stream, table_of}
use Rattle.mux_core.proofs.JobWriting.{output_bytes}
use Rattle.mux_core.proofs.TablesRead.{there as kind_there}
use Rattle.mux_core.proofs.Whole.{contents_fit}
use Rattle.monitor.specs.Begins.{found_on}
use Rattle.monitor.proofs.FoundWhole.{found_whole, of_each}
use Rattle.laws_run.specs.GivenBack.{IsSentOn, table_findings}
use Rattle.laws_run.specs.Placed.{section_slots, sent_units}
use Rattle.laws_run.proofs.DistinguishableSections.{rounds_all}
use Rattle.laws_run.proofs.MonitoredJobs.{job_kept}
use Rattle.laws_run.proofs.NothingElse.{IsSilent, sent_or_silent}
use Rattle.laws_run.proofs.RunFindings.{given_back, is_run, silent_back}
use Rattle.laws_run.proofs.ServicesRecur.{kind_on, stream_higher}
use Rattle.laws_run.proofs.Soundness.{as_reported, sound}
use Rattle.laws_run.proofs.TableBegins.{made_distinguishable}
use Rattle.laws_run.proofs.TableIds.{HasId, table_id_of, text_id}
use Rattle.laws_run.proofs.TablesWritten.{IsMade}
use Rattle.tr101290.specs.Distances as distances
use Rattle.tr101290.specs.Distances.{DistanceState}
use Rattle.tr101290.specs.Homes.{belongs}
use Rattle.tr101290.specs.Intervals.{error_at}
use Rattle.tr101290.specs.Sections.{begin_of, extension_of, section_begin, section_by, whole_by, whole_section}
use Rattle.tr101290.specs.declared.distances.WholeSection.{WholeSection}
use Rattle.tr101290.specs.declared.intervals.SectionBegin.{SectionBegin}
use Rattle.tr101290.specs.declared.intervals.TableError.{TableError}
use Rattle.events.specs.declared.event.Event.{Event}
use Rattle.events.specs.declared.event.Event.TheVariants as found
use Rattle.events.specs.declared.rule_event.RuleEvent.TheVariants as rules
use Rattle.es_events.specs.declared.view_options.ViewOptions.{ViewOptions}
use Rattle.ts_watch.specs.Choices.{RequestView}
use Rattle.ts_watch.specs.TableEvents.{TimesState, begin_events, check_word_event, check_word_events, distance_events, error_events, finding_events}
use Rattle.ts_watch.specs.TableEvents.{findings_events}
use Rattle.ts_watch.specs.TableEvents.{has_word, has_wrong_word, is_bad, is_wrong_short, other_events, section_in, soon_events, whole_in, with_finding}
use Rattle.ts_watch.proofs.HeaderTables.{events_alike}
use Rattle.ts_report.specs.StreamTables.{TableState}
use Rattle.ts_report.specs.Views.{ViewState, after_packet, after_read, start, table_events_at}
use Rattle.laws_view.specs.HomeTables.{JobHomesLaw, RunHomesLaw, is_other_table}
use Rattle.laws_view.specs.ViewedSections.{HasNoReadyMade, JobCheckWordsLaw, RunCheckWordsLaw, is_check_word, sections_in}
use Rattle.laws_view.proofs.LateEvents.{itself}
use Rattle.laws_view.proofs.MuxedFrames.{packet_sizes_are}
use Rattle.laws_view.proofs.ViewedFindings.{Alike, FindsAlike, Next, next}
use Rattle.laws_view.proofs.OtherTables.{unit_none}
use Rattle.laws_view.proofs.ViewedSections.{Calm, alike_first, quiet, shorts}

-- 1. Sections where their tables belong have no event of another table

-- A section of the table has no check word that is looked at here.
abbrev is_wordless : ℕ → ℕ → Bool
is_wordless pid table_id = not (has_word pid table_id)

-- What is said of a PID and a table_id holds of the section, if there is one.
unfoldable IsSo : (ℕ → ℕ → Bool) → Option SectionBegin → Type 0
IsSo said None = Unit {0}
IsSo said (Some s) = said s.pid s.table_id ≡ true

no_word : (b : Bool) → not b ≡ true → b ≡ false
no_word true e = absurd (let no : ⊥ = cc in no)
no_word false e = refl

no_short : (o : Option SectionBegin) (w : WhatView) → IsSo is_wordless o → is_wrong_short o w ≡ false
unfolding IsSo is_wrong_short
no_short None w h = refl
no_short (Some s) w h = ap (λ (b : Bool). b && has_wrong_word w) (no_word (has_word s.pid s.table_id) h)

unfoldable AllSo : (ℕ → ℕ → Bool) → List FindingView → Type 0
AllSo said [] = Unit {0}
AllSo said (f ∷ fs) = IsSo said (section_begin f) × AllSo said fs

no_shorts : (fs : List FindingView) → AllSo is_wordless fs → Calm (shorts fs)
unfolding AllSo
no_shorts [] h = tt
no_shorts (f ∷ fs) h = (no_short (section_begin f) f.what h.0, no_shorts fs h.1)

none_of : (xs ys : List Event) → filter is_other_table xs ≡ [] → filter is_other_table ys ≡ [] → filter is_other_table (xs ++ ys) ≡ []
none_of xs ys e f = filter-append is_other_table xs ys ∙ ap₂ (λ (a b : List Event). a ++ b) e f

no_late : (o : Option TableError) → filter is_other_table (error_events o) ≡ []
unfolding error_events is_other_table
no_late None = refl
no_late (Some e) = refl

no_begin : (s : TimesState) (o : Option SectionBegin) → filter is_other_table (begin_events s o) ≡ []
unfolding begin_events
no_begin s None = refl
no_begin s (Some section) = no_late (error_at s.intervals section)

no_soon : (o : Option TableError) → filter is_other_table (soon_events o) ≡ []
unfolding soon_events is_other_table
no_soon None = refl
no_soon (Some e) = refl

no_distance : (d : DistanceState) (o : Option WholeSection) → filter is_other_table (distance_events d o) ≡ []
unfolding distance_events
no_distance d None = refl
no_distance d (Some w) = no_soon (distances.error_at d w)

no_wrong : (f : FindingView) (b : Bool) → filter is_other_table (cond b (check_word_event f ∷ []) []) ≡ []
unfolding is_other_table
no_wrong f true = refl
no_wrong f false = refl

home_whole : (o : Option SectionBegin) (extension : Option ℕ) (end : ℕ) → IsSo belongs o → other_events (whole_by o extension end) ≡ []
unfolding IsSo whole_by other_events
home_whole None extension end h = refl
home_whole (Some s) None end h = refl
home_whole (Some s) (Some extension) end h =
    ap (λ (b : Bool). cond b [] (found.Rule (rules.OtherTable (record { pid = s.pid; table = s.table_id; packet = s.packet })) ∷ [])) h

home_finding : (options : ViewOptions) (x : TimesState) (f : FindingView) → IsSo belongs (section_begin f) → filter is_other_table (finding_events options x f) ≡ []
home_finding options x f h =
    none_of (check_word_events f) _ (no_wrong f (is_bad f))
    (none_of (other_events (whole_section f)) _
    (ap (filter is_other_table) (home_whole (section_begin f) (extension_of f.what) f.packet h))
    (none_of (distance_events x.distances (whole_in options f)) _ (no_distance x.distances (whole_in options f)) (no_begin x (section_in options f))))

home_findings : (options : ViewOptions) (x : TimesState) (fs : List FindingView) → AllSo belongs fs → filter is_other_table (findings_events options x fs) ≡ []
unfolding findings_events AllSo
home_findings options x [] h = refl
home_findings options x (f ∷ fs) h =
    none_of (finding_events options x f) (findings_events options (with_finding options x f) fs) (home_finding options x f h.0)
    (home_findings options (with_finding options x f) fs h.1)

home_if : (options : ViewOptions) (x : TimesState) (t : TableState) (fs : List FindingView) (o : StreamState) (bytes : List ℕ) → FindsAlike t fs o bytes →
    AllSo belongs (found_in o bytes) → filter is_other_table (findings_events options x fs) ≡ []
unfolding findings_events
home_if options x t fs o bytes (inl e) h = ap (λ (found : List FindingView). filter is_other_table (findings_events options x found)) e.0
home_if options x t fs o bytes (inr e) h =
    ap (filter is_other_table) (events_alike options x fs (found_in o bytes) e.0) ∙ home_findings options x (found_in o bytes) h

so_first : (said : ℕ → ℕ → Bool) (xs ys : List FindingView) → AllSo said (xs ++ ys) → AllSo said xs
unfolding AllSo
so_first said [] ys h = tt
so_first said (x ∷ xs) ys h = (h.0, so_first said xs ys h.1)

so_last : (said : ℕ → ℕ → Bool) (xs ys : List FindingView) → AllSo said (xs ++ ys) → AllSo said ys
unfolding AllSo
so_last said [] ys h = h
so_last said (x ∷ xs) ys h = so_last said xs ys h.1

along : (s : ViewState) (o : StreamState) (packets : List (List ℕ)) → Alike s o → All (λ bytes. length bytes ≡ 188) packets →
    AllSo belongs (found_in_all o packets) → filter is_other_table (sections_in s packets) ≡ []
unfolding sections_in found_in_all
along s o [] h sizes home = refl
along s o (bytes ∷ packets) h sizes home =
    let v : ViewState = after_read s (packet_at bytes) in
    let n : Next s o bytes = next s o bytes (All-head (λ b. length b ≡ 188) bytes packets sizes) h in
    none_of (table_events_at v bytes) (sections_in (after_packet s bytes) packets)
    (home_if v.seen.options v.seen.tables.times v.table _ o bytes n.found (so_first belongs (found_in o bytes) (found_in_all (taken o bytes) packets) home))
    (along (after_packet s bytes) (taken o bytes) packets n.alike (All-tail (λ b. length b ≡ 188) bytes packets sizes)
    (so_last belongs (found_in o bytes) (found_in_all (taken o bytes) packets) home))

-- 2. The findings of each PID

no_pid : (said : ℕ → ℕ → Bool) (begun : Option (ℕ × Kind)) (what : WhatView) → IsSo said (section_by None begun what)
unfolding IsSo section_by
no_pid said begun what = tt

own_head : (said : ℕ → ℕ → Bool) (f : FindingView) (q : ℕ) (rest : List FindingView) → f.pid ≡ Some q → AllSo said (found_of q (f ∷ rest)) →
    IsSo said (section_begin f)
unfolding AllSo
own_head said f q rest e h =
    (subst (λ (b : Bool). AllSo said (cond b (f ∷ found_of q rest) (found_of q rest))) (ap (has_pid q) e ∙ itself q) h).0

own_tail : (said : ℕ → ℕ → Bool) (f : FindingView) (q : ℕ) (rest : List FindingView) → AllSo said (found_of q (f ∷ rest)) → AllSo said (found_of q rest)
unfolding AllSo
own_tail said f q rest h = by (has_pid q f.pid) h
  where
    by : (b : Bool) → AllSo said (cond b (f ∷ found_of q rest) (found_of q rest)) → AllSo said (found_of q rest)
    by true k = k.1
    by false k = k

of_pids : (said : ℕ → ℕ → Bool) (fs : List FindingView) → ((pid : ℕ) → AllSo said (found_of pid fs)) → AllSo said fs
unfolding AllSo
of_pids said [] h = tt
of_pids said (f ∷ fs) h = (by f.pid refl, of_pids said fs (λ pid. own_tail said f pid fs (h pid)))
  where
    by : (o : Option ℕ) → f.pid ≡ o → IsSo said (section_begin f)
    by None e = subst (λ (o : Option ℕ). IsSo said (section_by o f.begun f.what)) (sym e) (no_pid said f.begun f.what)
    by (Some q) e = own_head said f q fs e (h q)

-- 3. A PID in a run

-- From PID 0x20 on each table belongs.
high_home : (pid table_id : ℕ) → 0x20 ≤ pid → belongs pid table_id ≡ true
high_home pid table_id high =
    let a : (pid == 0x00) ≡ false = ne_eqb pid 0x00 (λ e. omega (arith, high, e)) in
    let b : (pid == 0x01) ≡ false = ne_eqb pid 0x01 (λ e. omega (arith, high, e)) in
    let c : (pid == 0x10) ≡ false = ne_eqb pid 0x10 (λ e. omega (arith, high, e)) in
    let d : (pid == 0x11) ≡ false = ne_eqb pid 0x11 (λ e. omega (arith, high, e)) in
    let e : (pid == 0x12) ≡ false = ne_eqb pid 0x12 (λ e. omega (arith, high, e)) in
    let f : (pid == 0x13) ≡ false = ne_eqb pid 0x13 (λ e. omega (arith, high, e)) in
    let g : (pid == 0x14) ≡ false = ne_eqb pid 0x14 (λ e. omega (arith, high, e)) in
    rw (a, b, c, d, e, f, g) refl

high_begun : (pid : ℕ) (begun : Option (ℕ × Kind)) (what : WhatView) → 0x20 ≤ pid → IsSo belongs (section_by (Some pid) begun what)
unfolding section_by begin_of IsSo
high_begun pid None what high = tt
high_begun pid (Some (place, Pes stamped access)) what high = tt
high_begun pid (Some (place, Table table_id)) what high = high_home pid table_id high

all_high : (pid : ℕ) (xs : List PidFinding) → 0x20 ≤ pid → AllSo belongs (map (with_pid_at pid) xs)
unfolding AllSo
all_high pid [] high = tt
all_high pid (x ∷ xs) high = (high_begun pid x.found.begun x.found.what high, all_high pid xs high)

-- What holds of a table_id holds of its sections.
section_so : (said : ℕ → ℕ → Bool) (pid id : ℕ) (e : Ending) (text : List ℕ) (i : ℕ) (is : List ℕ) → slice_index text 0 ≡ id → said pid id ≡ true →
    IsSo said (section_begin (with_pid_at pid (section_found e text i is)))
unfolding section_found section_by begin_of IsSo
section_so said pid id e text i is same h =
    let own : said pid (slice_index text 0) ≡ true = ap (said pid) same ∙ h in
    elim (cases_Bool (nat_le (1 + length text) (184 * length (i ∷ is)))) [ inl y ↦ rw y own | inr k ↦ rw k own ]

all_sent : (said : ℕ → ℕ → Bool) (pid id n : ℕ) (texts : List (List ℕ)) (packets : List ℕ) → All (HasId id) texts → said pid id ≡ true →
    AllSo said (map (with_pid_at pid) (each_found section_found n (sendings section_packets texts packets)))
unfolding each_found if_sent sendings AllSo
all_sent said pid id n [] packets ids h = tt
all_sent said pid id n (text ∷ texts) packets ids h =
    by (all_sent said pid id n texts (drop (section_packets text) packets) (All-tail (HasId id) text texts ids) h) (take (section_packets text) packets)
  where
    left : List (Sending (List ℕ))
    left = sendings section_packets texts (drop (section_packets text) packets)

    by : AllSo said (map (with_pid_at pid) (each_found section_found n left)) → (js : List ℕ) →
        AllSo said (map (with_pid_at pid) (if_sent (section_found (next_of n left) text) js ++ each_found section_found n left))
    by rest [] = rest
    by rest (i ∷ is) = (section_so said pid id (next_of n left) text i is (All-head (HasId id) text texts ids) h, rest)

-- Units are no sections.
unit_so : (said : ℕ → ℕ → Bool) (id base0 pid : ℕ) (e : Ending) (u : AccessUnit) (i : ℕ) (is : List ℕ) →
    IsSo said (section_begin (with_pid_at pid (unit_found id base0 e u i is)))
unfolding IsSo
unit_so said id base0 pid e u i is = subst (IsSo said) (sym (unit_none id base0 pid e u i is)) tt

all_units : (said : ℕ → ℕ → Bool) (id base0 pid n : ℕ) (sent : List (Sending AccessUnit)) →
    AllSo said (map (with_pid_at pid) (each_found (unit_found id base0) n sent))
unfolding each_found if_sent AllSo
all_units said id base0 pid n [] = tt
all_units said id base0 pid n (x ∷ sent) = by (all_units said id base0 pid n sent) x.packets
  where
    by : AllSo said (map (with_pid_at pid) (each_found (unit_found id base0) n sent)) → (packets : List ℕ) →
        AllSo said (map (with_pid_at pid) (if_sent (unit_found id base0 (next_of n sent) x.item) packets ++ each_found (unit_found id base0) n sent))
    by rest [] = rest
    by rest (i ∷ is) = (unit_so said id base0 pid (next_of n sent) x.item i is, rest)

-- A table that is not ready-made has no check word of a short section.
wordless_id : (pid id : ℕ) → (id == 0x73) ≡ false → (id == 0xFC) ≡ false → is_wordless pid id ≡ true
wordless_id pid id e f = ap₂ (λ (a b : Bool). not (((pid == 0x14) && a) || b)) e f ∙ by (pid == 0x14)
  where
    by : (b : Bool) → not ((b && false) || false) ≡ true
    by true = refl
    by false = refl

wordless : (pid : ℕ) (k : TableKind) → IsMade k → is_wordless pid (table_id_of k) ≡ true
wordless pid Pat made = wordless_id pid 0x00 refl refl
wordless pid (Pmt p) made = wordless_id pid 0x02 refl refl
wordless pid Nit made = wordless_id pid 0x40 refl refl
wordless pid Sdt made = wordless_id pid 0x42 refl refl
wordless pid Eit made = wordless_id pid 0x4E refl refl
wordless pid Tdt made = wordless_id pid 0x70 refl refl
wordless pid (Private i) made = absurd made

module _ (d : Scheduled) (units : ℕ → List AccessUnit) (slots : ℕ) (ranges : IsInRange d.description) (kept : UnitsKept d units) (few : slots < 2 ^ 64 - 1)
  where
    abbrev bytes : List ℕ
    bytes = run_bytes (content_at d units) 0 slots

    few_packets : length bytes / 188 < 2 ^ 64 - 1
    few_packets = let size : length bytes ≡ 188 * slots = run_length (content_at d units) 0 slots (contents_fit d units ranges kept) in omega (arith, size, few)

    -- A table that is not ready-made
    of_table : (said : ℕ → ℕ → Bool) (t : ℕ) (k : TableKind) → table_kind d.description t ≡ Some k → IsMade k →
        (table_pid d.description t == 8191) ≡ false → said (table_pid d.description t) (table_id_of k) ≡ true →
        AllSo said (map (with_pid_at (table_pid d.description t)) (found_on (table_pid d.description t) bytes))
    of_table said t k is made no_null h =
        let table : Rounds = table_of d t in
        let lt : t < table_count d.description = slice_get_within (table_kinds d.description) t k is in
        let ids : All (HasId (table_id_of k)) (sections_of_rounds table slots) =
        rounds_all (HasId (table_id_of k)) table (own_slots (starts table.own (round_places table.lengths) 0) 0 slots)
        (λ s j moment within. text_id d.description t j moment k is made within) in
        subst (AllSo said) (sym (sym (as_reported (table_pid d.description t) bytes no_null few_packets)
        ∙ (given_back d units slots ranges kept few).tables t lt (made_distinguishable d.description t k is made)))
        (all_sent said (table_pid d.description t) (table_id_of k) slots (sections_of_rounds table slots) (section_slots table slots) ids h)

    abbrev Fine : (ℕ → ℕ → Bool) → ℕ → Type 0
    Fine said pid = AllSo said (map (with_pid_at pid) (found_on pid bytes))

    silent : (said : ℕ → ℕ → Bool) (pid : ℕ) → map (with_pid_at pid) (found_on pid bytes) ≡ [] → Fine said pid
    unfolding AllSo
    silent said pid e = subst (AllSo said) (sym e) tt

    none_on : (said : ℕ → ℕ → Bool) (pid : ℕ) → (pid == 8191) ≡ false → IsSilent d.description pid → Fine said pid
    none_on said pid no_null none =
        silent said pid
        (sym (as_reported pid bytes no_null few_packets) ∙ silent_back d units slots pid (is_run d units slots ranges kept few) no_null none)

    low_pid : (pid : ℕ) → 0 < pid → pid < 32 → Fine belongs pid
    low_pid pid some low = elim (sent_or_silent d.description pid) [
      | inl sent ↦ by sent
      | inr none ↦ none_on belongs pid no_null none
    ]
      where
        no_null : (pid == 8191) ≡ false
        no_null = ne_eqb pid 8191 (λ e. omega (arith, low, e))

        on_kind : (t : ℕ) (k : TableKind) (home : ℕ) → IsMade k → home ≡ pid → belongs home (table_id_of k) ≡ true → table_kind d.description t ≡ Some k →
            table_pid d.description t ≡ pid → Fine belongs pid
        on_kind t k home made e h is on =
            subst (Fine belongs) on
            (of_table belongs t k is made (ap (λ (q : ℕ). q == 8191) on ∙ no_null) (ap (λ (q : ℕ). belongs q (table_id_of k)) (on ∙ sym e) ∙ h))

        by : IsSentOn d.description pid → Fine belongs pid
        by (inl (k, s, is, same)) = absurd (stream_higher d.description pid k s ranges (some, low) is same)
        by (inr (t, lt, same)) =
            let k = kind_there (table_kinds d.description) t lt in
            let kind = k.1 in
            let on : table_pid d.description t ≡ kind_pid d.description k.0 = rw kind refl in
            kind_on (λ x. table_kind d.description t ≡ Some x → table_pid d.description t ≡ pid → Fine belongs pid)
            d.description pid k.0 ranges (some, low) (sym on ∙ same)
            (λ e. on_kind t Nit 0x10 tt e refl) (λ e. on_kind t Sdt 0x11 tt e refl) (λ e. on_kind t Eit 0x12 tt e refl)
            (λ e. on_kind t Tdt 0x14 tt e refl) k.1 same

    each_pid : (pid : ℕ) → Fine belongs pid
    each_pid pid = elim (cases_lt pid 32) [
      | inl low ↦ elim (cases_lt 0 pid) [
        | inl some ↦ low_pid pid some low
        | inr zero_pid ↦
            let is : 0 ≡ pid = omega (arith, zero_pid) in
            subst (Fine belongs) is (of_table belongs 0 Pat refl tt refl refl)
      ]
      | inr high ↦ all_high pid (found_on pid bytes) high
    ]

    whole : (said : ℕ → ℕ → Bool) → ((pid : ℕ) → Fine said pid) → AllSo said (found_in_all demux.start (cut_packets bytes))
    whole said each =
        so_first said (found_in_all demux.start (cut_packets bytes)) (finished (taken_all demux.start (cut_packets bytes))).found
        (of_pids said (found_whole bytes) (λ pid. subst (AllSo said) (sym (of_each bytes few_packets pid)) (each pid)))

    -- Without ready-made tables each section is of a table that has no check word of a short section.
    module _ (none : HasNoReadyMade d.description) where
      kind_made : (t : ℕ) (k : TableKind) → table_kind d.description t ≡ Some k → IsMade k
      kind_made t Pat is = tt
      kind_made t (Pmt p) is = tt
      kind_made t Nit is = tt
      kind_made t Sdt is = tt
      kind_made t Eit is = tt
      kind_made t Tdt is = tt
      kind_made t (Private i) is = none t i is

      on_table : (t : ℕ) → t < table_count d.description → (table_pid d.description t == 8191) ≡ false → Fine is_wordless (table_pid d.description t)
      on_table t lt no_null =
          let k = kind_there (table_kinds d.description) t lt in
          let made : IsMade k.0 = kind_made t k.0 k.1 in
          of_table is_wordless t k.0 k.1 made no_null (wordless (table_pid d.description t) k.0 made)

      on_stream : (k : ℕ) (s : DescribedStream) → slice_get d.description.streams k ≡ Some s → (s.pid == 8191) ≡ false → Fine is_wordless s.pid
      on_stream k s is no_null =
          subst (AllSo is_wordless) (sym (sym (as_reported s.pid bytes no_null few_packets) ∙ (given_back d units slots ranges kept few).streams k s is))
          (all_units is_wordless s.stream_id d.description.base0 s.pid slots (sent_units (owned_stream d k s) slots (units k)))

      on_pid : (pid : ℕ) → (pid == 8191) ≡ false → Fine is_wordless pid
      on_pid pid no_null = elim (sent_or_silent d.description pid) [ inl sent ↦ by sent | inr away ↦ none_on is_wordless pid no_null away ]
        where
          by : IsSentOn d.description pid → Fine is_wordless pid
          by (inl (k, s, is, same)) = subst (Fine is_wordless) same (on_stream k s is (ap (λ (q : ℕ). q == 8191) same ∙ no_null))
          by (inr (t, lt, same)) = subst (Fine is_wordless) same (on_table t lt (ap (λ (q : ℕ). q == 8191) same ∙ no_null))

      each_wordless : (pid : ℕ) → Fine is_wordless pid
      unfolding AllSo
      each_wordless pid = by (pid == 8191) refl
        where
          by : (b : Bool) → (pid == 8191) ≡ b → Fine is_wordless pid
          by true e = subst (λ (b : Bool). AllSo is_wordless (map (with_pid_at pid)
              (cond b [] (findings_to_end (length bytes / 188) (pid_list pid bytes))))) (sym e) tt
          by false e = on_pid pid e

pub run_homes_law : RunHomesLaw
run_homes_law d units slots request ranges kept few =
    let bytes : List ℕ = run_bytes (content_at d units) 0 slots in
    along (start request) demux.start (cut_packets bytes) (alike_first request) (packet_sizes_are bytes)
    (whole d units slots ranges kept few belongs (each_pid d units slots ranges kept few))

pub job_homes_law : JobHomesLaw
job_homes_law d units slots request ranges none few =
    ap (λ (bytes : List ℕ). filter is_other_table (sections_in (start request) (cut_packets bytes)))
    (output_bytes (content_at d (λ k. units_of k units)) 0 slots)
    ∙ run_homes_law d (λ k. units_of k units) slots request ranges (job_kept d units ranges none) (omega (arith, few))

-- 4. Check words

pub run_check_words_law : RunCheckWordsLaw
run_check_words_law d units slots request ranges kept few none =
    let bytes : List ℕ = run_bytes (content_at d units) 0 slots in
    let size : length bytes ≡ 188 * slots = run_length (content_at d units) 0 slots (contents_fit d units ranges kept) in
    let count : length bytes / 188 ≡ slots = omega (arith, size) in
    quiet request bytes (omega (arith, count, few)) (sound d units slots ranges kept few)
    (no_shorts (found_in_all demux.start (cut_packets bytes))
    (whole d units slots ranges kept few is_wordless (each_wordless d units slots ranges kept few none)))

pub job_check_words_law : JobCheckWordsLaw
job_check_words_law d units slots request ranges accepted few none =
    ap (λ (bytes : List ℕ). filter is_check_word (sections_in (start request) (cut_packets bytes)))
    (output_bytes (content_at d (λ k. units_of k units)) 0 slots)
    ∙ run_check_words_law d (λ k. units_of k units) slots request ranges (job_kept d units ranges accepted) (omega (arith, few)) none
