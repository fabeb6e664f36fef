-- Programs that share a stream.
use Rattle.std.specs.Prelude.{OnErr, OnOk}
use Rattle.std.proofs.Common.{Result, Ok, Err, ◌≡◌, ◌∙◌, ◌≤◌, ◌<◌, ℕ, zero, suc, arith, ◌+◌, ◌==◌, Bool, true, false, if◌then◌else◌, List, [], ◌∷◌, ◌++◌}
use Rattle.std.proofs.Common.{length, map, take, drop, get_or, set, refl, sym, ap, add-one, append_assoc, append-nil}
use Rattle.std.proofs.Math.Seq.{drop-cons, take-suc}
use Rattle.std.proofs.lemmas.List.{drop_all, take_all, set-get_or, set_split}
use Rattle.stream_programs.specs.Streams.{FoundStreamView, shared_by, with_sharer}

-- 1. Along the streams

pub on_ok : {A E P Q : Type 0} (r : Result A E) → (P → Q) → OnOk r P → OnOk r Q
on_ok (Ok x) f p = f p
on_ok (Err e) f p = tt

pub on_err : {A E P Q : Type 0} (r : Result A E) → (P → Q) → OnErr r P → OnErr r Q
on_err (Ok x) f p = tt
on_err (Err e) f p = f p

pub same_at : (ss : List FoundStreamView) (k : ℕ) (s t : FoundStreamView) → k < length ss → s ≡ get_or ss k s → t ≡ get_or ss k t → s ≡ t
same_at [] k s t below a b = absurd (let no : ⊥ = omega (arith, below) in no)
same_at (x ∷ ss) zero s t below a b = a ∙ sym b
same_at (x ∷ ss) (suc k) s t below a b = same_at ss k s t (omega (arith, below)) a b

pub shared_begin : (number pid : ℕ) (ss : List FoundStreamView) → shared_by number pid ss ≡ take 0 ss ++ shared_by number pid (drop 0 ss)
shared_begin number pid ss = refl

pub shared_past : (number pid k : ℕ) (ss : List FoundStreamView) (s : FoundStreamView) → k < length ss → s ≡ get_or ss k s → (s.pid == pid) ≡ false →
    shared_by number pid ss ≡ take k ss ++ shared_by number pid (drop k ss) → shared_by number pid ss ≡ take (k + 1) ss
    ++ shared_by number pid (drop (k + 1) ss)
unfolding shared_by
shared_past number pid k ss s below at other so_far =
    so_far
    ∙ ap (λ (l : List FoundStreamView). take k ss ++ shared_by number pid l)
    (drop-cons ss k s below ∙ ap (λ (x : FoundStreamView). x ∷ drop (suc k) ss) (sym at))
    ∙ ap (λ (b : Bool). take k ss ++ (if b then with_sharer number s ∷ drop (suc k) ss else s ∷ shared_by number pid (drop (suc k) ss))) other
    ∙ sym (append_assoc (take k ss) (s ∷ []) (shared_by number pid (drop (suc k) ss)))
    ∙ rw (add-one k)
    (ap (λ (l : List FoundStreamView). l ++ shared_by number pid (drop (suc k) ss))
    (ap (λ (x : FoundStreamView). take k ss ++ x ∷ []) at ∙ sym (take-suc ss k s below)))

pub shared_here : (number pid k : ℕ) (ss : List FoundStreamView) (s t : FoundStreamView) → k < length ss → s ≡ get_or ss k s → (s.pid == pid) ≡ true →
    t ≡ with_sharer number s →
    shared_by number pid ss ≡ take k ss ++ shared_by number pid (drop k ss) → set ss k t ≡ shared_by number pid ss
unfolding shared_by
shared_here number pid k ss s t below at own made so_far =
    set_split ss k t below
    ∙ ap (λ (x : FoundStreamView). take k ss ++ x ∷ drop (suc k) ss) made
    ∙ sym (so_far
    ∙ ap (λ (l : List FoundStreamView). take k ss ++ shared_by number pid l)
    (drop-cons ss k s below ∙ ap (λ (x : FoundStreamView). x ∷ drop (suc k) ss) (sym at))
    ∙ ap (λ (b : Bool). take k ss ++ (if b then with_sharer number s ∷ drop (suc k) ss else s ∷ shared_by number pid (drop (suc k) ss))) own)

pub unchanged_here : (k : ℕ) (ss : List FoundStreamView) (s t : FoundStreamView) → s ≡ get_or ss k s → t ≡ s → set ss k t ≡ ss
unchanged_here k ss s t at made = ap (λ (x : FoundStreamView). set ss k x) (made ∙ at) ∙ set-get_or ss k s

pub shared_end : (number pid k : ℕ) (ss : List FoundStreamView) → length ss ≤ k →
    shared_by number pid ss ≡ take k ss ++ shared_by number pid (drop k ss) → ss ≡ shared_by number pid ss
unfolding shared_by
shared_end number pid k ss over so_far = sym (so_far ∙ rw (take_all k ss over, drop_all k ss over) (append-nil ss))

-- 2. The PIDs of the streams do not change

one_pid : (b : Bool) (number pid : ℕ) (s : FoundStreamView) (ss : List FoundStreamView) →
    map (λ (s : FoundStreamView). s.pid) (shared_by number pid ss) ≡ map (λ (s : FoundStreamView). s.pid) ss →
    map (λ (s : FoundStreamView). s.pid) (if b then with_sharer number s ∷ ss else s ∷ shared_by number pid ss) ≡ s.pid ∷ map (λ (s : FoundStreamView). s.pid)
    ss
one_pid true number pid s ss rest = refl
one_pid false number pid s ss rest = ap (λ (l : List ℕ). s.pid ∷ l) rest

pub shared_pids : (number pid : ℕ) (ss : List FoundStreamView) →
    map (λ (s : FoundStreamView). s.pid) (shared_by number pid ss) ≡ map (λ (s : FoundStreamView). s.pid) ss
unfolding shared_by
shared_pids number pid [] = refl
shared_pids number pid (s ∷ ss) = one_pid (s.pid == pid) number pid s ss (shared_pids number pid ss)
