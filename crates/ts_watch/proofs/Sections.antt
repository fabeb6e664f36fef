-- Findings one by one
use Rattle.std.proofs.Common.{◌≡◌, ◌∙◌, ◌<◌, ◌≤◌, ℕ, ◌+◌, ◌++◌, List, [], ◌∷◌, length, map, drop, get_or, refl, sym, ap, add-one}
use Rattle.std.proofs.Math.Seq.{drop-cons}
use Rattle.std.proofs.lemmas.List.{append_assoc, append-nil, drop_all}
use Rattle.std.specs.Prelude.{unwrap_or}
use Rattle.pid_findings.specs.Views.{FindingView}
use Rattle.events.specs.declared.event.Event.{Event}
use Rattle.es_events.specs.declared.view_options.ViewOptions.{ViewOptions}
use Rattle.ts_watch.specs.TableNames.{NamesState, with_each, with_found}
use Rattle.ts_watch.specs.TableEvents.{TimesState, finding_events, findings_events, with_finding, with_findings}

all_step : {X : Type 0} (view : X → FindingView) (i : ℕ) (fs : List X) (f : X) → i < length fs → f ≡ get_or fs i f →
    map view (drop i fs) ≡ view f ∷ map view (drop (i + 1) fs)
all_step view i fs f below at = rw (drop-cons fs i f below, add-one i, sym at) refl

-- The state after one finding and the rest is the state after all remaining findings.
pub times_step : {X : Type 0} (view : X → FindingView) (options : ViewOptions) (whole s next : TimesState) (i : ℕ) (fs : List X) (f : X) → i < length fs →
    f ≡ get_or fs i f →
    whole ≡ with_findings options s (map view (drop i fs)) → next ≡ with_finding options s (view f) →
    whole ≡ with_findings options next (map view (drop (i + 1) fs))
unfolding with_findings
times_step view options whole s next i fs f below at is goes =
    is ∙ ap (λ (l : List FindingView). with_findings options s l) (all_step view i fs f below at)
    ∙ ap (λ (t : TimesState). with_findings options t (map view (drop (i + 1) fs))) (sym goes)

pub times_end : {X : Type 0} (view : X → FindingView) (options : ViewOptions) (whole s : TimesState) (i : ℕ) (fs : List X) → length fs ≤ i →
    whole ≡ with_findings options s (map view (drop i fs)) → s ≡ whole
unfolding with_findings
times_end view options whole s i fs over is =
    let none : map view (drop i fs) ≡ [] = rw (drop_all i fs over) refl in sym (is ∙ ap (λ (l : List FindingView). with_findings options s l) none)

-- The events of one finding come before the events of the later findings.
pub events_step : {X : Type 0} (view : X → FindingView) (options : ViewOptions) (s next : TimesState) (i : ℕ) (fs : List X) (f : X)
    (whole before after : List Event) → i < length fs → f ≡ get_or fs i f →
    whole ≡ before ++ findings_events options s (map view (drop i fs)) → next ≡ with_finding options s (view f) →
    after ≡ before ++ finding_events options s (view f) →
    whole ≡ after ++ findings_events options next (map view (drop (i + 1) fs))
unfolding findings_events
events_step view options s next i fs f whole before after below at is goes grown =
    let rest = findings_events options (with_finding options s (view f)) (map view (drop (i + 1) fs)) in
    is ∙ ap (λ (l : List FindingView). before ++ findings_events options s l) (all_step view i fs f below at)
    ∙ sym (append_assoc before (finding_events options s (view f)) rest)
    ∙ ap (λ (xs : List Event). xs ++ rest) (sym grown)
    ∙ ap (λ (t : TimesState). after ++ findings_events options t (map view (drop (i + 1) fs))) (sym goes)

pub events_end : {X : Type 0} (view : X → FindingView) (options : ViewOptions) (s : TimesState) (i : ℕ) (fs : List X) (whole events : List Event) →
    length fs ≤ i →
    whole ≡ events ++ findings_events options s (map view (drop i fs)) → events ≡ whole
unfolding findings_events
events_end view options s i fs whole events over is =
    let none : map view (drop i fs) ≡ [] = rw (drop_all i fs over) refl in
    sym (is ∙ ap (λ (l : List FindingView). events ++ findings_events options s l) none ∙ append-nil events)

-- What is named after one finding and the rest is named after all remaining findings.
pub names_step : {X : Type 0} (view : X → FindingView) (whole names next : NamesState) (i : ℕ) (fs : List X) (f : X) → i < length fs →
    f ≡ get_or fs i f →
    whole ≡ with_each names (map view (drop i fs)) → next ≡ with_found names (unwrap_or (view f).pid 8191) (view f).what →
    whole ≡ with_each next (map view (drop (i + 1) fs))
unfolding with_each
names_step view whole names next i fs f below at is goes =
    is ∙ ap (λ (l : List FindingView). with_each names l) (all_step view i fs f below at)
    ∙ ap (λ (t : NamesState). with_each t (map view (drop (i + 1) fs))) (sym goes)

pub names_end : {X : Type 0} (view : X → FindingView) (whole names : NamesState) (i : ℕ) (fs : List X) → length fs ≤ i →
    whole ≡ with_each names (map view (drop i fs)) → names ≡ whole
unfolding with_each
names_end view whole names i fs over is =
    let none : map view (drop i fs) ≡ [] = rw (drop_all i fs over) refl in sym (is ∙ ap (λ (l : List FindingView). with_each names l) none)
