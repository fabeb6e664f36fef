-- A view of findings without a fault has no event of a wrong check word.
use Rattle.std.proofs.Common.{◌≡◌, ◌∙◌, ℕ, ◌*◌, ◌/◌, ◌-◌, ◌^◌, ◌<◌, ◌==◌, Bool, true, false, cond, List, [], ◌∷◌, ◌++◌, length, map, filter}
use Rattle.std.proofs.Common.{◌⊎◌, inl, inr, Option, Some, None, Result, Ok, Err, refl, ap, ap₂}
use Rattle.std.specs.Prelude.{All}
use Rattle.std.proofs.lemmas.List.Elements.{All-head, All-tail, filter-append}
use Rattle.ts_packet.specs.declared.packet.PacketError.{PacketError}
use Rattle.ts_packet.specs.Views.{PacketView}
use Rattle.ts_packet.specs.Reading.{packet_at}
use Rattle.ts_packet.specs.PidList.{cut_packets}
use Rattle.pid_findings.specs.Views.{FindingView, WhatView, IsDuplicate, BreaksCounter, IsScrambled, IsTruncated, IsSection, IsBadSection, IsPes, IsBadPes}
use Rattle.pid_findings.specs.Views.{Found, IsBadPacket, IsErrored, IsStray}
use Rattle.psi_tables.specs.declared.error.SectionError.{SectionError}
use Rattle.psi_tables.specs.declared.error.SectionError.TheVariants as refusals
use Rattle.pid_findings.specs.Machine.{found_by}
use Rattle.pid_findings.specs.Shown.{with_pid}
use Rattle.demux.specs.Stream.{StreamState, entry_of, findings_by, finished, found_in, state_of, taken}
use Rattle.demux.specs.Stream as demux
use Rattle.demux.specs.FoundSoFar.{found_in_all, taken_all}
use Rattle.monitor.specs.declared.fault.StreamFault.{StreamFault}
use Rattle.monitor.specs.Rules.{failing, finding_rule}
use Rattle.monitor.proofs.FindingSteps.{faults_of_all, faults_on}
use Rattle.tr101290.specs.Distances as distances
use Rattle.tr101290.specs.Distances.{DistanceState}
use Rattle.tr101290.specs.Homes.{belongs}
use Rattle.tr101290.specs.Intervals.{error_at}
use Rattle.tr101290.specs.Sections.{section_begin, whole_section}
use Rattle.tr101290.specs.declared.distances.WholeSection.{WholeSection}
use Rattle.tr101290.specs.declared.intervals.SectionBegin.{SectionBegin}
use Rattle.tr101290.specs.declared.intervals.TableError.{TableError}
use Rattle.laws_run.specs.Monitored.{IsSound}
use Rattle.events.specs.declared.event.Event.{Event}
use Rattle.events.specs.declared.event.Event.TheVariants as found
use Rattle.events.specs.declared.rule_event.RuleEvent.TheVariants as rules
use Rattle.es_events.specs.declared.view_options.ViewOptions.{ViewOptions}
use Rattle.ts_watch.specs.Choices.{RequestView}
use Rattle.ts_watch.specs.TableEvents.{TimesState, begin_events, check_word_event, check_word_events, distance_events, error_events, finding_events}
use Rattle.ts_watch.specs.TableEvents.{findings_events}
use Rattle.ts_watch.specs.TableEvents.{is_bad, is_wrong, is_wrong_short, other_events, section_in, soon_events, whole_in, with_finding}
use Rattle.ts_watch.proofs.HeaderTables.{events_alike}
use Rattle.ts_report.specs.StreamTables.{TableState}
use Rattle.ts_report.specs.Views.{ViewState, after_packet, after_read, start, table_events_at}
use Rattle.laws_view.specs.ViewedSections.{is_check_word, sections_in}
use Rattle.laws_view.proofs.MuxedFrames.{packet_sizes_are}
use Rattle.laws_view.proofs.ViewedCounters.{sound_findings}
use Rattle.laws_view.proofs.ViewedFindings.{Alike, FindsAlike, Next, next}

-- 1. Findings without a wrong check word have no such event

-- sections that the demultiplexer refuses, and short sections with a check word
abbrev wrongs : List FindingView → List Bool
wrongs [] = []
wrongs (f ∷ found) = is_wrong f.what ∷ wrongs found

abbrev pub shorts : List FindingView → List Bool
shorts [] = []
shorts (f ∷ found) = is_wrong_short (section_begin f) f.what ∷ shorts found

abbrev pub Calm : List Bool → Type 0
Calm [] = Unit {0}
Calm (b ∷ bs) = (b ≡ false) × Calm bs

none_of : (xs ys : List Event) → filter is_check_word xs ≡ [] → filter is_check_word ys ≡ [] → filter is_check_word (xs ++ ys) ≡ []
none_of xs ys e f = filter-append is_check_word xs ys ∙ ap₂ (λ (a b : List Event). a ++ b) e f

no_late : (o : Option TableError) → filter is_check_word (error_events o) ≡ []
unfolding error_events is_check_word
no_late None = refl
no_late (Some e) = refl

no_begin : (s : TimesState) (o : Option SectionBegin) → filter is_check_word (begin_events s o) ≡ []
unfolding begin_events
no_begin s None = refl
no_begin s (Some section) = no_late (error_at s.intervals section)

no_soon : (o : Option TableError) → filter is_check_word (soon_events o) ≡ []
unfolding soon_events is_check_word
no_soon None = refl
no_soon (Some e) = refl

no_distance : (d : DistanceState) (o : Option WholeSection) → filter is_check_word (distance_events d o) ≡ []
unfolding distance_events
no_distance d None = refl
no_distance d (Some w) = no_soon (distances.error_at d w)

no_other : (o : Option WholeSection) → filter is_check_word (other_events o) ≡ []
unfolding other_events is_check_word
no_other None = refl
no_other (Some w) = by (belongs w.begin.pid w.begin.table_id)
  where
    reported : Event
    reported = found.Rule (rules.OtherTable (record { pid = w.begin.pid; table = w.begin.table_id; packet = w.begin.packet }))

    by : (b : Bool) → filter is_check_word (cond b [] (reported ∷ [])) ≡ []
    by true = refl
    by false = refl

no_wrong : (f : FindingView) (b : Bool) → b ≡ false → filter is_check_word (cond b (check_word_event f ∷ []) []) ≡ []
no_wrong f true e = absurd (let no : ⊥ = cc in no)
no_wrong f false e = refl

calm_finding : (options : ViewOptions) (s : TimesState) (f : FindingView) → is_wrong f.what ≡ false → is_wrong_short (section_begin f) f.what ≡ false →
    filter is_check_word (finding_events options s f) ≡ []
calm_finding options s f e o =
    none_of (check_word_events f) _ (no_wrong f (is_bad f) (rw (e, o) refl))
    (none_of (other_events (whole_section f)) _ (no_other (whole_section f))
    (none_of (distance_events s.distances (whole_in options f)) _ (no_distance s.distances (whole_in options f)) (no_begin s (section_in options f))))

calm_findings : (options : ViewOptions) (s : TimesState) (fs : List FindingView) → Calm (wrongs fs) → Calm (shorts fs) →
    filter is_check_word (findings_events options s fs) ≡ []
unfolding findings_events
calm_findings options s [] h o = refl
calm_findings options s (f ∷ fs) h o =
    none_of (finding_events options s f) (findings_events options (with_finding options s f) fs) (calm_finding options s f h.0 o.0)
    (calm_findings options (with_finding options s f) fs h.1 o.1)

-- 2. Findings that are no faults

calm_what : (packet pid : ℕ) (what : WhatView) → failing (Some pid) packet (finding_rule what) ≡ [] → is_wrong what ≡ false
unfolding failing finding_rule is_wrong
calm_what packet pid IsDuplicate e = refl
calm_what packet pid (BreaksCounter expected found) e = refl
calm_what packet pid IsScrambled e = refl
calm_what packet pid (IsTruncated bytes) e = refl
calm_what packet pid (IsSection bytes) e = refl
calm_what packet pid (IsBadSection error) e = by error e
  where
    by : (error : SectionError) → failing (Some pid) packet (finding_rule (IsBadSection error)) ≡ [] → is_wrong (IsBadSection error) ≡ false
    by refusals.CheckWord e = absurd (let no : ⊥ = cc in no)
    by refusals.Short e = refl
    by refusals.Length e = refl
    by refusals.Syntax e = refl
    by refusals.Body e = refl
    by refusals.TooLong e = refl
calm_what packet pid (IsPes header unended bytes) e = refl
calm_what packet pid (IsBadPes error) e = refl
calm_what packet pid (IsBadPacket error) e = refl
calm_what packet pid IsErrored e = refl
calm_what packet pid (IsStray size) e = refl

none_first : (xs ys : List StreamFault) → xs ++ ys ≡ [] → xs ≡ []
none_first [] ys e = refl
none_first (x ∷ xs) ys e = absurd (let no : ⊥ = cc in no)

none_last : (xs ys : List StreamFault) → xs ++ ys ≡ [] → ys ≡ []
none_last [] ys e = e
none_last (x ∷ xs) ys e = absurd (let no : ⊥ = cc in no)

calm_list : (q index : ℕ) (found : List Found) (rest : List FindingView) → faults_of_all (map (with_pid q index) found ++ rest) ≡ [] →
    Calm (wrongs (map (with_pid q index) found)) × (faults_of_all rest ≡ [])
unfolding faults_of_all faults_on
calm_list q index [] rest e = (tt, e)
calm_list q index (f ∷ found) rest e =
    let here = failing (Some q) index (finding_rule f.what) in
    let others = faults_of_all (map (with_pid q index) found ++ rest) in
    let k = calm_list q index found rest (none_last here others e) in
    ((calm_what index q f.what (none_first here others e), k.0), k.1)

calm_packet : (o : StreamState) (bytes : List ℕ) (r : Result PacketView PacketError) (rest : List FindingView) →
    faults_of_all (findings_by o.packets bytes o.states r ++ rest) ≡ [] → Calm (wrongs (findings_by o.packets bytes o.states r)) × (faults_of_all rest ≡ [])
unfolding findings_by faults_of_all faults_on is_wrong
calm_packet o bytes (Err error) rest e = ((refl, tt), e)
calm_packet o bytes (Ok packet) rest e = by packet.header.transport_error_indicator (packet.header.pid == 8191) e
  where
    wrong : FindingView
    wrong = record { packet = o.packets; pid = None; begun = None; what = IsErrored }

    reported : Bool → Bool → List FindingView
    reported t z = cond t (wrong ∷ []) (cond z [] (map (with_pid packet.header.pid o.packets)
        (found_by (state_of packet.header.pid o.states) (entry_of o.packets bytes packet))))

    by : (t z : Bool) → faults_of_all (reported t z ++ rest) ≡ [] → Calm (wrongs (reported t z)) × (faults_of_all rest ≡ [])
    by true z k = ((refl, tt), k)
    by false true k = (tt, k)
    by false false k = calm_list packet.header.pid o.packets _ rest k

-- 3. All packets of a view

calm_if : (options : ViewOptions) (x : TimesState) (t : TableState) (fs : List FindingView) (o : StreamState) (bytes : List ℕ) → FindsAlike t fs o bytes →
    Calm (wrongs (found_in o bytes)) → Calm (shorts (found_in o bytes)) → filter is_check_word (findings_events options x fs) ≡ []
unfolding findings_events
calm_if options x t fs o bytes (inl e) h c = ap (λ (found : List FindingView). filter is_check_word (findings_events options x found)) e.0
calm_if options x t fs o bytes (inr e) h c =
    ap (filter is_check_word) (events_alike options x fs (found_in o bytes) e.0) ∙ calm_findings options x (found_in o bytes) h c

calm_first : (xs ys : List FindingView) → Calm (shorts (xs ++ ys)) → Calm (shorts xs)
calm_first [] ys h = tt
calm_first (x ∷ xs) ys h = (h.0, calm_first xs ys h.1)

calm_last : (xs ys : List FindingView) → Calm (shorts (xs ++ ys)) → Calm (shorts ys)
calm_last [] ys h = h
calm_last (x ∷ xs) ys h = calm_last xs ys h.1

along : (s : ViewState) (o : StreamState) (packets : List (List ℕ)) → Alike s o → All (λ bytes. length bytes ≡ 188) packets →
    faults_of_all (found_in_all o packets) ≡ [] → Calm (shorts (found_in_all o packets)) → filter is_check_word (sections_in s packets) ≡ []
unfolding sections_in found_in_all found_in
along s o [] h sizes none calm = refl
along s o (bytes ∷ packets) h sizes none calm =
    let v : ViewState = after_read s (packet_at bytes) in
    let n : Next s o bytes = next s o bytes (All-head (λ b. length b ≡ 188) bytes packets sizes) h in
    let c = calm_packet o bytes (packet_at bytes) (found_in_all (taken o bytes) packets) none in
    none_of (table_events_at v bytes) (sections_in (after_packet s bytes) packets)
    (calm_if v.seen.options v.seen.tables.times v.table _ o bytes n.found c.0 (calm_first (found_in o bytes) (found_in_all (taken o bytes) packets) calm))
    (along (after_packet s bytes) (taken o bytes) packets n.alike (All-tail (λ b. length b ≡ 188) bytes packets sizes) c.1
    (calm_last (found_in o bytes) (found_in_all (taken o bytes) packets) calm))

faults_first : (xs ys : List FindingView) → faults_of_all (xs ++ ys) ≡ [] → faults_of_all xs ≡ []
unfolding faults_of_all
faults_first [] ys e = refl
faults_first (x ∷ xs) ys e =
    let here = faults_on x.packet x.pid x.what in
    ap₂ (λ (a b : List StreamFault). a ++ b) (none_first here (faults_of_all (xs ++ ys)) e)
    (faults_first xs ys (none_last here (faults_of_all (xs ++ ys)) e))

pub alike_first : (request : RequestView) → Alike (start request) demux.start
alike_first request = record { takes = record { held = refl; found = refl }; packets = refl; states = λ pid free. refl }

pub quiet : (request : RequestView) (bytes : List ℕ) → length bytes / 188 < 2 ^ 64 - 1 → IsSound bytes →
    Calm (shorts (found_in_all demux.start (cut_packets bytes))) → filter is_check_word (sections_in (start request) (cut_packets bytes)) ≡ []
quiet request bytes few h calm =
    along (start request) demux.start (cut_packets bytes) (alike_first request) (packet_sizes_are bytes)
    (faults_first (found_in_all demux.start (cut_packets bytes)) (finished (taken_all demux.start (cut_packets bytes))).found (sound_findings bytes few h))
    calm
