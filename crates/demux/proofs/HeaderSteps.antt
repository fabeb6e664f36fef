-- A stream without the bodies of PES packets, step by step.
use Rattle.std.proofs.Common.{◌≡◌, ℕ, zero, suc, true, List, [], ◌∷◌, ◌++◌, map, slice_get, Option, Some, None, OnOk, Result, Ok, Err, refl, sym, ap, ◌∙◌}
use Rattle.std.specs.Prelude.{IfSome}
use Rattle.std.proofs.lemmas.List.{map-append}
use Rattle.pid_findings.specs.Views.{FindingView}
use Rattle.pid_findings.specs.Machine.{PidState}
use Rattle.pid_findings.specs.Findings.{ended}
use Rattle.pid_findings.specs.Shown.{with_pid}
use Rattle.demux.specs.Stream.{States, StreamState, found_in, pushed, taken}
use Rattle.pid_findings.specs.Bodies.{all_without_body, finding_without_body}
use Rattle.demux.specs.StreamBodies.{AddsHeaders, bodies_left_out, headers_pushed, headers_taken, states_without_bodies}
use Rattle.demux.specs.StreamBodies.{without_bodies}
use Rattle.demux.proofs.StreamBodies.{entry_ends, found_in_same, left_again, none_besides, pushed_same, taken_same}

-- Whether bodies are left out or not, the state without bodies is the same.
pub left_out_or_not : (old new : StreamState) → new ≡ bodies_left_out old → without_bodies new ≡ without_bodies old
left_out_or_not old new e = ap without_bodies e ∙ left_again old

-- A packet changes the state without bodies as `headers_taken` does.
pub taken_besides : (old new : StreamState) (bytes : List ℕ) → new ≡ taken old bytes → without_bodies new ≡ headers_taken (without_bodies old) bytes
taken_besides old new bytes e = ap without_bodies e ∙ sym (taken_same old bytes)

pub none_found : (s : StreamState) (bytes : List ℕ) → found_in s bytes ≡ [] → found_in (without_bodies s) bytes ≡ []
none_found s bytes e = none_besides (found_in (without_bodies s) bytes) (found_in_same s bytes ∙ ap all_without_body e)

pub added_besides : (old new found : List FindingView) → new ≡ old ++ found → AddsHeaders old new found
added_besides old new found e = ap all_without_body e ∙ map-append finding_without_body old found

pub found_besides : (s : StreamState) (bytes : List ℕ) (old new : List FindingView) → new ≡ old ++ found_in s bytes →
    AddsHeaders old new (found_in (without_bodies s) bytes)
found_besides s bytes old new e =
    added_besides old new (found_in s bytes) e ∙ ap (λ (x : List FindingView). all_without_body old ++ x) (sym (found_in_same s bytes))

-- A piece changes the state without bodies as `headers_pushed` does.
pub pushed_besides : (old new : StreamState) (piece : List ℕ) → new ≡ pushed old piece → without_bodies new ≡ headers_pushed (without_bodies old) piece
pushed_besides old new piece e = ap without_bodies e ∙ sym (pushed_same old piece)

-- The end of a PID adds the same findings, besides bodies.
ends_by : {V E : Type 0} (result : Result V E) (packet : ℕ) (o : Option (ℕ × PidState)) (x : ℕ × PidState) (old new : List FindingView) →
    ((y : ℕ × PidState) → o ≡ Some y → OnOk result (new ≡ old ++ map (with_pid y.0 packet) (ended true y.1.open_unit))) →
    IfSome o (λ y. (y.0 ≡ x.0) × (
    all_without_body (map (with_pid y.0 packet) (ended true y.1.open_unit)) ≡ all_without_body (map (with_pid x.0 packet) (ended true x.1.open_unit)))) →
    (o ≡ None → ⊥) → OnOk result (AddsHeaders old new (map (with_pid x.0 packet) (ended true x.1.open_unit)))
ends_by (Err e) packet o x old new h k n = tt
ends_by (Ok v) packet None x old new h k n = absurd (n refl)
ends_by (Ok v) packet (Some y) x old new h k n =
    added_besides old new (map (with_pid y.0 packet) (ended true y.1.open_unit)) (h y refl)
    ∙ ap (λ (found : List FindingView). all_without_body old ++ found) k.1

is_there : (index : ℕ) (states : States) (x : ℕ × PidState) → slice_get (states_without_bodies states) index ≡ Some x → slice_get states index ≡ None → ⊥
is_there index [] x e n = absurd cc
is_there zero (y ∷ states) x e n = absurd cc
is_there (suc index) (y ∷ states) x e n = is_there index states x e n

pub ends_besides : {V E : Type 0} (result : Result V E) (packet index : ℕ) (states : States) (x : ℕ × PidState) (old new : List FindingView) →
    ((y : ℕ × PidState) → slice_get states index ≡ Some y → OnOk result (new ≡ old ++ map (with_pid y.0 packet) (ended true y.1.open_unit))) →
    slice_get (states_without_bodies states) index ≡ Some x → OnOk result (AddsHeaders old new (map (with_pid x.0 packet) (ended true x.1.open_unit)))
ends_besides result packet index states x old new h e =
    ends_by result packet (slice_get states index) x old new h (entry_ends packet index states x e) (is_there index states x e)

pub ok_besides : {V E : Type 0} (result : Result V E) (old new found : List FindingView) → OnOk result (new ≡ old ++ found) →
    OnOk result (AddsHeaders old new found)
ok_besides (Ok v) old new found e = added_besides old new found e
ok_besides (Err v) old new found e = tt
