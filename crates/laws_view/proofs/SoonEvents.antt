-- Sections that are far enough apart give a view no event of a section that comes too soon.
use Rattle.std.proofs.Common.{◌≡◌, ◌∙◌, ℕ, ◌-◌, ◌≤◌, ◌==◌, Bool, true, false, cond, nat_eq, nat_lt, is_some, List, [], ◌∷◌, ◌++◌, length, filter}
use Rattle.std.proofs.Common.{inl, inr, Option, Some, None, refl, sym, ap, ap₂, subst, le-ltb}
use Rattle.std.specs.Prelude.{All, ◌||◌}
use Rattle.std.specs.List.{cons_option}
use Rattle.std.specs.Map.{lookup}
use Rattle.std.proofs.lemmas.List.Elements.{All-head, All-tail, filter-append, filter_map-append}
use Rattle.indexmap.specs.IndexMap.{insert_entry}
use Rattle.arrival.specs.declared.arrival.Arrival.{Arrival}
use Rattle.arrival.specs.declared.arrival.Arrival.TheVariants.{AtRate}
use Rattle.ts_packet.specs.Reading.{packet_at}
use Rattle.pid_findings.specs.Views.{FindingView}
use Rattle.demux.specs.Stream.{StreamState, found_in, taken}
use Rattle.demux.specs.FoundSoFar.{found_in_all}
use Rattle.tr101290.specs.Distances as distances
use Rattle.tr101290.specs.Distances.{DistanceState, end_at, extension_key, is_spaced, no_end, time_within, too_soon, whole_ticks}
use Rattle.tr101290.specs.Homes.{belongs}
use Rattle.tr101290.specs.Intervals.{error_at}
use Rattle.tr101290.specs.Sections.{whole_section}
use Rattle.tr101290.specs.declared.distances.WholeSection.{WholeSection}
use Rattle.tr101290.specs.declared.intervals.SectionBegin.{SectionBegin}
use Rattle.tr101290.specs.declared.intervals.TableError.{TableError}
use Rattle.tr101290.specs.declared.intervals.TableTiming.{TableTiming}
use Rattle.tr101290.specs.declared.intervals.TableTiming.TheVariants.{ConstantRate}
use Rattle.laws_view.proofs.InsertedEntries as entries
use Rattle.events.specs.declared.event.Event.{Event}
use Rattle.events.specs.declared.event.Event.TheVariants as found
use Rattle.events.specs.declared.rule_event.RuleEvent.TheVariants as rules
use Rattle.es_events.specs.declared.view_options.ViewOptions.{ViewOptions}
use Rattle.ts_watch.specs.TableEvents.{TablesState, TimesState, begin_events, check_word_event, check_word_events, distance_events, distances_after, error_events}
use Rattle.ts_watch.specs.TableEvents.{finding_events, findings_events, is_bad, other_events, placed_if, placed_whole, section_in, soon_events, whole_in, with_begin}
use Rattle.ts_watch.specs.TableEvents.{with_check_word, with_finding, with_findings, with_whole}
use Rattle.ts_watch.proofs.HeaderTables.{events_alike, times_alike}
use Rattle.ts_report.specs.StreamTables.{TableState}
use Rattle.ts_report.specs.Views.{ViewState, after_packet, after_read, table_events_at, with_tables}
use Rattle.laws_view.specs.SectionsApart.{is_soon}
use Rattle.laws_view.specs.ViewedSections.{sections_in}
use Rattle.laws_view.proofs.ClockedStreams.{packet_options}
use Rattle.laws_view.proofs.FarSections.{AllFar, EachFar, IsFar, far_last, wholes}
use Rattle.laws_view.proofs.ViewedFindings.{Alike, FindsAlike, Next, counter_keeps, next}
use Rattle.laws_view.proofs.ViewedTables.{read_options, read_tables}

-- 1. Sections that are not too soon

unfoldable pub NoneSoon : DistanceState → List WholeSection → Type 0
NoneSoon d [] = Unit {0}
NoneSoon d (v ∷ vs) = (distances.error_at d v ≡ None) × NoneSoon d vs

soon_last : (d : DistanceState) (xs ys : List WholeSection) → NoneSoon d (xs ++ ys) → NoneSoon d ys
unfolding NoneSoon
soon_last d [] ys h = h
soon_last d (x ∷ xs) ys h = soon_last d xs ys h.1

-- Before the first section none is too soon.
pub none_at_first : (timing : TableTiming) (ws : List WholeSection) → NoneSoon (no_end timing) ws
unfolding NoneSoon too_soon
none_at_first timing [] = tt
none_at_first timing (w ∷ ws) = (by (is_spaced w.begin.pid w.begin.table_id), none_at_first timing ws)
  where
    by : (s : Bool) → cond s (too_soon timing w None) None ≡ None
    by true = refl
    by false = refl

-- 2. One section

abbrev with_end : DistanceState → WholeSection → DistanceState
with_end d w = record { timing = d.timing; ends = insert_entry nat_eq d.ends (extension_key w) w.end }

far_enough : (rate from : ℕ) (timing : TableTiming) (v : WholeSection) → timing ≡ ConstantRate rate → 675000 ≤ whole_ticks rate (v.begin.place - from) →
    too_soon timing v (Some from) ≡ None
unfolding too_soon time_within
far_enough rate from timing v is far =
    ap (λ (t : TableTiming). too_soon t v (Some from)) is ∙ (rw (le-ltb (whole_ticks rate (v.begin.place - from)) 675000 far) refl)

of_key : (rate : ℕ) (d : DistanceState) (w v : WholeSection) (t : Bool) → d.timing ≡ ConstantRate rate → (extension_key w == extension_key v) ≡ t →
    (t ≡ true → 675000 ≤ whole_ticks rate (v.begin.place - w.end)) → too_soon d.timing v (end_at d v) ≡ None →
    too_soon d.timing v (lookup (nat_eq (extension_key v)) (insert_entry nat_eq d.ends (extension_key w) w.end)) ≡ None
of_key rate d w v true is e far none =
    ap (too_soon d.timing v) (entries.kept (extension_key v) (extension_key w) w.end d.ends true e) ∙ far_enough rate w.end d.timing v is (far refl)
of_key rate d w v false is e far none =
    ap (too_soon d.timing v) (entries.kept (extension_key v) (extension_key w) w.end d.ends false e) ∙ none

ended : (rate : ℕ) (d : DistanceState) (w v : WholeSection) → d.timing ≡ ConstantRate rate → is_spaced w.begin.pid w.begin.table_id ≡ true →
    IsFar rate w v → distances.error_at d v ≡ None → distances.error_at (with_end d w) v ≡ None
ended rate d w v is spaced far none = by (is_spaced v.begin.pid v.begin.table_id) refl none
  where
    by : (s : Bool) → is_spaced v.begin.pid v.begin.table_id ≡ s → cond s (too_soon d.timing v (end_at d v)) None ≡ None →
        cond s (too_soon d.timing v (lookup (nat_eq (extension_key v)) (insert_entry nat_eq d.ends (extension_key w) w.end))) None ≡ None
    by false e h = refl
    by true e h = of_key rate d w v (extension_key w == extension_key v) is refl (λ same. far spaced e same) h

after_one : (rate : ℕ) (d : DistanceState) (w v : WholeSection) → d.timing ≡ ConstantRate rate → IsFar rate w v → distances.error_at d v ≡ None →
    distances.error_at (distances.taken d w) v ≡ None
after_one rate d w v is far none = by (is_spaced w.begin.pid w.begin.table_id) refl (is_some (end_at d w) || nat_lt (length d.ends) 65536)
  where
    by : (s : Bool) → is_spaced w.begin.pid w.begin.table_id ≡ s → (k : Bool) → distances.error_at (cond s (cond k (with_end d w) d) d) v ≡ None
    by false e k = none
    by true e false = none
    by true e true = ended rate d w v is e far none

timing_stays : (d : DistanceState) (w : WholeSection) → (distances.taken d w).timing ≡ d.timing
timing_stays d w = by (is_spaced w.begin.pid w.begin.table_id) (is_some (end_at d w) || nat_lt (length d.ends) 65536)
  where
    by : (s k : Bool) → (cond s (cond k (with_end d w) d) d).timing ≡ d.timing
    by false k = refl
    by true false = refl
    by true true = refl

after_each : (rate : ℕ) (d : DistanceState) (w : WholeSection) (vs : List WholeSection) → d.timing ≡ ConstantRate rate → EachFar rate w vs →
    NoneSoon d vs → NoneSoon (distances.taken d w) vs
unfolding EachFar NoneSoon
after_each rate d w [] is far none = tt
after_each rate d w (v ∷ vs) is far none = (after_one rate d w v is far.0 none.0, after_each rate d w vs is far.1 none.1)

-- 3. The findings of a packet

pub record Calm (rate : ℕ) (d : DistanceState) (ws : List WholeSection) : Type 0 where
  pub timing : d.timing ≡ ConstantRate rate
  pub none : NoneSoon d ws
  pub far : AllFar rate ws

calm_last : (rate : ℕ) (d : DistanceState) (xs ys : List WholeSection) → Calm rate d (xs ++ ys) → Calm rate d ys
calm_last rate d xs ys h = record { timing = h.timing; none = soon_last d xs ys h.none; far = far_last rate xs ys h.far }

none_of : (xs ys : List Event) → filter is_soon xs ≡ [] → filter is_soon ys ≡ [] → filter is_soon (xs ++ ys) ≡ []
none_of xs ys e f = filter-append is_soon xs ys ∙ ap₂ (λ (a b : List Event). a ++ b) e f

no_late : (o : Option TableError) → filter is_soon (error_events o) ≡ []
unfolding error_events is_soon
no_late None = refl
no_late (Some e) = refl

no_begin : (x : TimesState) (o : Option SectionBegin) → filter is_soon (begin_events x o) ≡ []
unfolding begin_events
no_begin x None = refl
no_begin x (Some section) = no_late (error_at x.intervals section)

no_wrong : (f : FindingView) (b : Bool) → filter is_soon (cond b (check_word_event f ∷ []) []) ≡ []
unfolding is_soon
no_wrong f true = refl
no_wrong f false = refl

no_other : (o : Option WholeSection) → filter is_soon (other_events o) ≡ []
unfolding other_events is_soon
no_other None = refl
no_other (Some w) = by (belongs w.begin.pid w.begin.table_id)
  where
    reported : Event
    reported = found.Rule (rules.OtherTable (record { pid = w.begin.pid; table = w.begin.table_id; packet = w.begin.packet }))

    by : (b : Bool) → filter is_soon (cond b [] (reported ∷ [])) ≡ []
    by true = refl
    by false = refl

none_soon : (o : Option TableError) → o ≡ None → filter is_soon (soon_events o) ≡ []
unfolding soon_events
none_soon None e = refl
none_soon (Some x) e = absurd (let no : ⊥ = cc in no)

at_rate : (rate : ℕ) (arrival : Arrival) (o : Option WholeSection) → arrival ≡ AtRate rate → placed_if arrival o ≡ o
unfolding placed_if placed_whole
at_rate rate arrival None is = refl
at_rate rate arrival (Some w) is = ap (λ (a : Arrival). placed_whole a w) is

one_finding : (options : ViewOptions) (x : TimesState) (f : FindingView) → filter is_soon (distance_events x.distances (whole_in options f)) ≡ [] →
    filter is_soon (finding_events options x f) ≡ []
one_finding options x f e =
    none_of (check_word_events f) _ (no_wrong f (is_bad f))
    (none_of (other_events (whole_section f)) _ (no_other (whole_section f))
    (none_of (distance_events x.distances (whole_in options f)) _ e (no_begin x (section_in options f))))

keeps_distances : (x : TimesState) (o : Option SectionBegin) → (with_begin x o).distances ≡ x.distances
unfolding with_begin
keeps_distances x None = refl
keeps_distances x (Some section) = refl

next_distances : (rate : ℕ) (options : ViewOptions) (x : TimesState) (f : FindingView) → options.arrival ≡ AtRate rate →
    (with_finding options x f).distances ≡ distances_after x.distances (whole_section f)
next_distances rate options x f at =
    keeps_distances (with_whole (with_check_word x f) (whole_in options f)) (section_in options f)
    ∙ ap (distances_after x.distances) (at_rate rate options.arrival (whole_section f) at)

record OneCalm (rate : ℕ) (d : DistanceState) (o : Option WholeSection) (rest : List WholeSection) : Type 0 where
  events : filter is_soon (distance_events d o) ≡ []
  calm : Calm rate (distances_after d o) rest

one_calm : (rate : ℕ) (d : DistanceState) (o : Option WholeSection) (rest : List WholeSection) → Calm rate d (cons_option o rest) → OneCalm rate d o rest
unfolding distance_events distances_after NoneSoon AllFar
one_calm rate d None rest h = record { events = refl; calm = h }
one_calm rate d (Some w) rest h = record {
  events = none_soon (distances.error_at d w) h.none.0;
  calm = record {
    timing = timing_stays d w ∙ h.timing;
    none = after_each rate d w rest h.timing h.far.0 h.none.1;
    far = h.far.1;
  };
}

pub record AllCalm (rate : ℕ) (options : ViewOptions) (x : TimesState) (fs : List FindingView) (rest : List WholeSection) : Type 0 where
  pub events : filter is_soon (findings_events options x fs) ≡ []
  pub calm : Calm rate (with_findings options x fs).distances rest

cons_first : (o : Option WholeSection) (xs ys : List WholeSection) → cons_option o xs ++ ys ≡ cons_option o (xs ++ ys)
cons_first None xs ys = refl
cons_first (Some s) xs ys = refl

all_calm : (rate : ℕ) (options : ViewOptions) (x : TimesState) (fs : List FindingView) (rest : List WholeSection) → options.arrival ≡ AtRate rate →
    Calm rate x.distances (wholes fs ++ rest) → AllCalm rate options x fs rest
unfolding findings_events with_findings
all_calm rate options x [] rest at h = record { events = refl; calm = h }
all_calm rate options x (f ∷ fs) rest at h =
    let one = one_calm rate x.distances (whole_section f) (wholes fs ++ rest)
    (subst (Calm rate x.distances) (cons_first (whole_section f) (wholes fs) rest) h) in
    let next = all_calm rate options (with_finding options x f) fs rest at
    (subst (λ (d : DistanceState). Calm rate d (wholes fs ++ rest)) (sym (next_distances rate options x f at)) one.calm) in
    record {
      events = none_of (finding_events options x f) (findings_events options (with_finding options x f) fs)
          (one_finding options x f (ap (λ (o : Option WholeSection). filter is_soon (distance_events x.distances o))
          (at_rate rate options.arrival (whole_section f) at) ∙ one.events)) next.events;
      calm = next.calm;
    }

-- 4. All packets

calm_at : (rate : ℕ) (options : ViewOptions) (x : TimesState) (t : TableState) (fs : List FindingView) (o : StreamState) (bytes : List ℕ)
    (rest : List WholeSection) → options.arrival ≡ AtRate rate → FindsAlike t fs o bytes → Calm rate x.distances (wholes (found_in o bytes) ++ rest) →
    AllCalm rate options x fs rest
unfolding findings_events with_findings
calm_at rate options x t fs o bytes rest at (inl e) h =
    subst (λ (found : List FindingView). AllCalm rate options x found rest) (sym e.0)
    (record { events = refl; calm = calm_last rate x.distances (wholes (found_in o bytes)) rest h })
calm_at rate options x t fs o bytes rest at (inr e) h =
    let k = all_calm rate options x (found_in o bytes) rest at h in
    record {
      events = ap (filter is_soon) (events_alike options x fs (found_in o bytes) e.0) ∙ k.events;
      calm = subst (λ (y : TimesState). Calm rate y.distances rest) (sym (times_alike options x fs (found_in o bytes) e.0)) k.calm;
    }

pub soon_along : (rate : ℕ) (s : ViewState) (o : StreamState) (packets : List (List ℕ)) → Alike s o → s.seen.options.arrival ≡ AtRate rate →
    All (λ bytes. length bytes ≡ 188) packets → Calm rate s.seen.tables.times.distances (wholes (found_in_all o packets)) →
    filter is_soon (sections_in s packets) ≡ []
unfolding sections_in found_in_all
soon_along rate s o [] h at sizes calm = refl
soon_along rate s o (bytes ∷ packets) h at sizes calm =
    let v : ViewState = after_read s (packet_at bytes) in
    let n : Next s o bytes = next s o bytes (All-head (λ b. length b ≡ 188) bytes packets sizes) h in
    let ready : v.seen.options.arrival ≡ AtRate rate = ap (λ (w : ViewOptions). w.arrival) (read_options s (packet_at bytes)) ∙ at in
    let parts = filter_map-append whole_section (found_in o bytes) (found_in_all (taken o bytes) packets) in
    let here = calm_at rate v.seen.options v.seen.tables.times v.table _ o bytes (wholes (found_in_all (taken o bytes) packets)) ready n.found
    (subst (λ (x : TablesState). Calm rate x.times.distances (wholes (found_in o bytes) ++ wholes (found_in_all (taken o bytes) packets)))
    (sym (read_tables s (packet_at bytes))) (subst (Calm rate s.seen.tables.times.distances) parts calm)) in
    none_of (table_events_at v bytes) (sections_in (after_packet s bytes) packets) here.events
    (soon_along rate (after_packet s bytes) (taken o bytes) packets n.alike (ap (λ (w : ViewOptions). w.arrival) (packet_options s bytes) ∙ at)
    (All-tail (λ b. length b ≡ 188) bytes packets sizes)
    (subst (λ (x : TablesState). Calm rate x.times.distances (wholes (found_in_all (taken o bytes) packets)))
    (sym (counter_keeps (with_tables v bytes).seen bytes (packet_at bytes))) here.calm))
