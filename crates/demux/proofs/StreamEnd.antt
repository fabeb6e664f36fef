-- The findings at the end of the stream, PID by PID.
use Rattle.std.proofs.Common.{◌≡◌, ℕ, suc, zero, List, [], ◌∷◌, ◌++◌, map, drop, length, ◌≤◌, slice_get, true, Option, Some, sym, ap, ◌∙◌, append_assoc}
use Rattle.std.proofs.lemmas.List.{append-nil, drop_all}
use Rattle.pid_findings.specs.Views.{FindingView}
use Rattle.pid_findings.specs.Machine.{PidState}
use Rattle.pid_findings.specs.Findings.{ended}
use Rattle.demux.specs.Stream.{States, ended_found}
use Rattle.pid_findings.specs.Shown.{with_pid}

same_entry : (x y : ℕ × PidState) → ◌≡◌ {A = Option (ℕ × PidState)} (Some x) (Some y) → x ≡ y
same_entry x y e = cc

-- The end of one more PID
pub ended_next : (packet i : ℕ) (states : States) (entry : ℕ × PidState) → slice_get states i ≡ Some entry →
    ended_found packet (drop i states) ≡ map (with_pid entry.0 packet) (ended true entry.1.open_unit) ++ ended_found packet (drop (suc i) states)
unfolding ended_found
ended_next packet i [] entry h = absurd cc
ended_next packet zero (e ∷ states) entry h =
    ap (λ (x : ℕ × PidState). map (with_pid x.0 packet) (ended true x.1.open_unit) ++ ended_found packet states) (same_entry e entry h)
ended_next packet (suc i) (e ∷ states) entry h = ended_next packet i states entry h

pub ended_more : (packet i j : ℕ) (states : States) (entry : ℕ × PidState) (noted more all : List FindingView) → slice_get states i ≡ Some entry → j ≡ suc i →
    more ≡ noted ++ map (with_pid entry.0 packet) (ended true entry.1.open_unit) → noted ++ ended_found packet (drop i states) ≡ all →
    more ++ ended_found packet (drop j states) ≡ all
ended_more packet i j states entry noted more all h k m a =
    let one = map (with_pid entry.0 packet) (ended true entry.1.open_unit) in
    let rest = ended_found packet (drop (suc i) states) in
    ap (λ (n : ℕ). more ++ ended_found packet (drop n states)) k
    ∙ ap (λ (ys : List FindingView). ys ++ rest) m ∙ append_assoc noted one rest
    ∙ ap (λ (xs : List FindingView). noted ++ xs) (sym (ended_next packet i states entry h)) ∙ a

-- After the last PID no findings are added.
pub ended_none : (packet i : ℕ) (states : States) (noted all : List FindingView) → length states ≤ i → noted ++ ended_found packet (drop i states) ≡ all →
    noted ≡ all
unfolding ended_found
ended_none packet i states noted all h a =
    sym (append-nil noted) ∙ ap (λ (xs : States). noted ++ ended_found packet xs) (sym (drop_all i states h)) ∙ a
