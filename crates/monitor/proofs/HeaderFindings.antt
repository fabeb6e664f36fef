-- The monitor's state does not depend on the bodies of PES packets.
use Rattle.std.proofs.Common.{◌≡◌, ◌∙◌, ℕ, suc, ◌<◌, ◌≤◌, true, List, [], ◌∷◌, ◌++◌, length, map, drop, slice_get, Option, Some, None, inl, inr, refl, sym, ap}
use Rattle.std.proofs.Common.{arith}
use Rattle.std.proofs.lemmas.List.{drop_all}
use Rattle.std.proofs.lemmas.Option.{slice_get_cases}
use Rattle.pid_findings.specs.Views.{WhatView, IsDuplicate, BreaksCounter, IsScrambled, IsTruncated, IsSection, IsBadSection, IsPes, IsBadPes, IsBadPacket}
use Rattle.pid_findings.specs.Views.{IsErrored}
use Rattle.pid_findings.specs.Views.{IsStray}
use Rattle.pid_findings.specs.Views.{FindingView}
use Rattle.pid_findings.specs.Machine.{PidState}
use Rattle.pid_findings.specs.Findings.{ended}
use Rattle.pid_findings.specs.Shown.{with_pid}
use Rattle.demux.specs.Stream.{States, ended_found}
use Rattle.pid_findings.specs.Bodies.{all_without_body, finding_without_body, without_body}
use Rattle.demux.specs.StreamBodies.{AddsHeaders}
use Rattle.demux.proofs.StreamEnd.{ended_next}
use Rattle.monitor.specs.FindingStates.{FindingState, all_noted, begun_by, finding_noted, noted_from, what_noted}

what_besides : (s : FindingState) (pid packet : ℕ) (w : WhatView) → what_noted s pid packet (without_body w) ≡ what_noted s pid packet w
unfolding what_noted
what_besides s pid packet (IsPes header unended body) = refl
what_besides s pid packet (IsTruncated bytes) = refl
what_besides s pid packet IsDuplicate = refl
what_besides s pid packet (BreaksCounter expected found) = refl
what_besides s pid packet IsScrambled = refl
what_besides s pid packet (IsSection bytes) = refl
what_besides s pid packet (IsBadSection error) = refl
what_besides s pid packet (IsBadPes error) = refl
what_besides s pid packet (IsBadPacket error) = refl
what_besides s pid packet IsErrored = refl
what_besides s pid packet (IsStray size) = refl

noted_besides : (s : FindingState) (packet : ℕ) (pid : Option ℕ) (x : FindingView) → x.pid ≡ pid → finding_noted s (finding_without_body x) ≡ finding_noted s x
unfolding noted_from
noted_besides s packet None x is = rw is refl
noted_besides s packet (Some pid) x is = rw is (what_besides (begun_by s pid x.packet x.begun) pid x.packet x.what)

all_besides : (s : FindingState) (found : List FindingView) → all_noted s (all_without_body found) ≡ all_noted s found
unfolding all_noted
all_besides s [] = refl
all_besides s (x ∷ found) =
    ap (λ (t : FindingState). all_noted t (all_without_body found)) (noted_besides s x.packet x.pid x refl) ∙ all_besides (finding_noted s x) found

-- Findings that differ only in bodies lead to the same state.
pub all_alike : (s : FindingState) (x y : List FindingView) → all_without_body x ≡ all_without_body y → all_noted s x ≡ all_noted s y
all_alike s x y e = sym (all_besides s x) ∙ ap (all_noted s) e ∙ all_besides s y

pub noted_in : (s : FindingState) (none new found : List FindingView) → none ≡ [] → AddsHeaders none new found → all_noted s new ≡ all_noted s found
noted_in s none new found e added = all_alike s new found (added ∙ ap (λ (x : List FindingView). all_without_body x ++ all_without_body found) e)

-- The findings at the end, PID by PID
noted_both : (s : FindingState) (xs ys : List FindingView) → all_noted s (xs ++ ys) ≡ all_noted (all_noted s xs) ys
unfolding all_noted
noted_both s [] ys = refl
noted_both s (x ∷ xs) ys = noted_both (finding_noted s x) xs ys

end_more : (packet i : ℕ) (states : States) (x : ℕ × PidState) (s next : FindingState) (none ends : List FindingView) → slice_get states i ≡ Some x →
    none ≡ [] →
    AddsHeaders none ends (map (with_pid x.0 packet) (ended true x.1.open_unit)) → next ≡ all_noted s ends →
    all_noted next (ended_found packet (drop (suc i) states)) ≡ all_noted s (ended_found packet (drop i states))
end_more packet i states x s next none ends there empty added noted =
    let one = map (with_pid x.0 packet) (ended true x.1.open_unit) in
    let rest = ended_found packet (drop (suc i) states) in
    ap (λ (t : FindingState). all_noted t rest) (noted ∙ noted_in s none ends one empty added)
    ∙ sym (noted_both s one rest) ∙ ap (all_noted s) (sym (ended_next packet i states x there))

pub ends_more : (packet i : ℕ) (states : States) (s next : FindingState) (none ends : List FindingView) → i < length states → none ≡ [] →
    ((x : ℕ × PidState) → slice_get states i ≡ Some x → AddsHeaders none ends (map (with_pid x.0 packet) (ended true x.1.open_unit))) →
    next ≡ all_noted s ends →
    all_noted next (ended_found packet (drop (suc i) states)) ≡ all_noted s (ended_found packet (drop i states))
ends_more packet i states s next none ends less empty added noted = elim (slice_get_cases states i).1 [
  | inl found ↦ end_more packet i states found.0 s next none ends found.2 empty (added found.0 found.2) noted
  | inr past ↦ absurd (omega (arith, less, past.0))
]

pub ends_all : (packet i : ℕ) (states : States) (s all : FindingState) → length states ≤ i → all_noted s (ended_found packet (drop i states)) ≡ all → s ≡ all
unfolding all_noted ended_found
ends_all packet i states s all past e = ap (λ (xs : States). all_noted s (ended_found packet xs)) (sym (drop_all i states past)) ∙ e
