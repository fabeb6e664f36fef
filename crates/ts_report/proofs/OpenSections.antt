-- The sections that are open at the end, PID by PID.
use Rattle.std.proofs.Common.{◌≡◌, ◌∙◌, ℕ, suc, ◌<◌, ◌≤◌, true, List, [], ◌∷◌, ◌++◌, length, map, drop, slice_get, Option, Some, None, inl, inr, refl, sym, ap}
use Rattle.std.proofs.Common.{arith}
use Rattle.std.proofs.lemmas.List.{drop_all}
use Rattle.std.proofs.lemmas.Option.{slice_get_cases}
use Rattle.pid_findings.specs.Views.{FindingView}
use Rattle.pid_findings.specs.Machine.{PidState}
use Rattle.pid_findings.specs.Findings.{ended}
use Rattle.pid_findings.specs.Shown.{with_pid}
use Rattle.demux.specs.Stream.{States, ended_found}
use Rattle.demux.specs.StreamBodies.{AddsHeaders}
use Rattle.demux.proofs.StreamEnd.{ended_next}
use Rattle.es_events.specs.declared.view_options.ViewOptions.{ViewOptions}
use Rattle.ts_watch.specs.TableEvents.{TimesState, with_finding, with_findings}
use Rattle.ts_watch.proofs.HeaderTables.{times_alike}
use Rattle.ts_watch.proofs.TablePackets.{added_to_none}

taken_both : (options : ViewOptions) (s : TimesState) (xs ys : List FindingView) →
    with_findings options s (xs ++ ys) ≡ with_findings options (with_findings options s xs) ys
unfolding with_findings
taken_both options s [] ys = refl
taken_both options s (x ∷ xs) ys = taken_both options (with_finding options s x) xs ys

end_more : (options : ViewOptions) (packet i : ℕ) (states : States) (x : ℕ × PidState) (s next : TimesState) (none ends : List FindingView) →
    slice_get states i ≡ Some x → none ≡ [] →
    AddsHeaders none ends (map (with_pid x.0 packet) (ended true x.1.open_unit)) → next ≡ with_findings options s ends →
    with_findings options next (ended_found packet (drop (suc i) states)) ≡ with_findings options s (ended_found packet (drop i states))
end_more options packet i states x s next none ends there empty added taken =
    let one = map (with_pid x.0 packet) (ended true x.1.open_unit) in
    let rest = ended_found packet (drop (suc i) states) in
    ap (λ (t : TimesState). with_findings options t rest) (taken ∙ times_alike options s ends one (added_to_none none ends one empty added))
    ∙ sym (taken_both options s one rest) ∙ ap (with_findings options s) (sym (ended_next packet i states x there))

pub ends_more : (options : ViewOptions) (packet i : ℕ) (states : States) (s next : TimesState) (none ends : List FindingView) → i < length states →
    none ≡ [] →
    ((x : ℕ × PidState) → slice_get states i ≡ Some x → AddsHeaders none ends (map (with_pid x.0 packet) (ended true x.1.open_unit))) →
    next ≡ with_findings options s ends →
    with_findings options next (ended_found packet (drop (suc i) states)) ≡ with_findings options s (ended_found packet (drop i states))
ends_more options packet i states s next none ends less empty added taken = elim (slice_get_cases states i).1 [
  | inl found ↦ end_more options packet i states found.0 s next none ends found.2 empty (added found.0 found.2) taken
  | inr past ↦ absurd (omega (arith, less, past.0))
]

pub ends_all : (options : ViewOptions) (packet i : ℕ) (states : States) (s all : TimesState) → length states ≤ i →
    with_findings options s (ended_found packet (drop i states)) ≡ all → s ≡ all
unfolding with_findings ended_found
ends_all options packet i states s all past e = ap (λ (xs : States). with_findings options s (ended_found packet xs)) (sym (drop_all i states past)) ∙ e
