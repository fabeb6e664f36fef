-- The streams of a job, one by one
use Rattle.std.proofs.Common.{◌≡◌, ◌∙◌, ◌<◌, ◌≤◌, ◌+◌, ◌++◌, ℕ, List, [], length, drop, get_or, refl, sym, ap, add-one}
use Rattle.std.proofs.Math.Seq.{drop-cons}
use Rattle.std.proofs.lemmas.List.{append_assoc, append-nil, drop_all}
use Rattle.pes_packet.specs.AccessUnits.{AccessUnit}
use Rattle.description_parts.specs.Described.{DescribedStream}
use Rattle.tsremux_cli.specs.UnkeptFrames.{is_unkept, pid_if, unkept_from}

unkept_step : (units : List (ℕ × AccessUnit)) (streams : List DescribedStream) (k : ℕ) (s : DescribedStream) → k < length streams → s ≡ get_or streams k s →
    unkept_from units k (drop k streams) ≡ pid_if (is_unkept units k s) s.pid ++ unkept_from units (k + 1) (drop (k + 1) streams)
unfolding unkept_from
unkept_step units streams k s below at = rw (drop-cons streams k s below, add-one k, sym at) refl

pub unkept_more : (units : List (ℕ × AccessUnit)) (streams : List DescribedStream) (k : ℕ) (s : DescribedStream) (pids next all : List ℕ) → k < length streams →
    s ≡ get_or streams k s →
    next ≡ pids ++ pid_if (is_unkept units k s) s.pid → pids ++ unkept_from units k (drop k streams) ≡ all →
    next ++ unkept_from units (k + 1) (drop (k + 1) streams) ≡ all
unkept_more units streams k s pids next all below at grown so =
    let one = pid_if (is_unkept units k s) s.pid in
    let rest = unkept_from units (k + 1) (drop (k + 1) streams) in
    ap (λ (x : List ℕ). x ++ rest) grown
    ∙ append_assoc pids one rest
    ∙ ap (λ (x : List ℕ). pids ++ x) (sym (unkept_step units streams k s below at)) ∙ so

none_unkept : (units : List (ℕ × AccessUnit)) (k : ℕ) → unkept_from units k [] ≡ []
unfolding unkept_from
none_unkept units k = refl

pub unkept_all : (units : List (ℕ × AccessUnit)) (streams : List DescribedStream) (k : ℕ) (pids all : List ℕ) → length streams ≤ k →
    pids ++ unkept_from units k (drop k streams) ≡ all → pids ≡ all
unkept_all units streams k pids all over so =
    sym (append-nil pids)
    ∙ ap (λ (x : List ℕ). pids ++ x) (sym (ap (unkept_from units k) (drop_all k streams over) ∙ none_unkept units k)) ∙ so
