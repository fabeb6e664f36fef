-- The units of streams, taken one stream after another
use Rattle.std.proofs.Common.{◌≡◌, ◌∙◌, ◌++◌, ◌==◌, ◌||◌, ℕ, Bool, true, false, List, [], ◌∷◌, map, refl, sym, ap, subst, arith}
use Rattle.std.proofs.lemmas.Bool.{eqb-true}
use Rattle.std.proofs.lemmas.Bool.Decides.{nat_tests}
use Rattle.std.proofs.lemmas.List.{append_assoc, append-nil}
use Rattle.pid_findings.specs.Views.{FindingView}
use Rattle.es_units.specs.CarriedUnits.{carried_units}
use Rattle.es_units.specs.TakenUnits.{OthersStay}
use Rattle.es_units.proofs.TakenUnits.{others_carried}
use Rattle.job_programs.specs.JobOptions.{is_among}
use Rattle.job_programs.specs.JobStreams.{TimedStreamView}
use Rattle.job_units.specs.TakenStreams.{OthersCarried, StayCarried}
use Rattle.job_units.specs.Moments.{StreamMomentsView, with_units, timed_stream}
use Rattle.es_moments.specs.WireUnits.{CarriedUnit}

pub stay_same : (pids : List ℕ) (old : List FindingView) → StayCarried pids old old
stay_same pids old pid among = refl

pub others_same : (pid : ℕ) (old : List FindingView) → OthersStay pid old old
others_same pid old other apart = refl

apart_by : (pid other : ℕ) (pids : List ℕ) (same : Bool) → (pid == other) ≡ same → is_among pid pids ≡ false → is_among other pids ≡ true →
    (pid == other) ≡ false
apart_by pid other pids false is none some = is
apart_by pid other pids true is none some =
    absurd (let equal : pid ≡ other = eqb-true pid other is in let no : true ≡ false = sym some ∙ ap (λ (p : ℕ). is_among p pids) (sym equal) ∙ none in cc)

-- If a PID is not in the list, taking its units keeps the units of each PID in the list.
pub stay_taken : (pid : ℕ) (pids : List ℕ) (old new : List FindingView) → is_among pid pids ≡ false → OthersStay pid old new → StayCarried pids old new
stay_taken pid pids old new none stay other some = others_carried pid other old new stay (apart_by pid other pids (pid == other) refl none some)

-- The PIDs of several streams, one after another
abbrev pub pids_of : List StreamMomentsView → List ℕ
pids_of ss = map (λ s. s.pid) ss

own : (n : ℕ) → (n == n) ≡ true
own n = grind (arith, nat_tests)

among_first : (pid : ℕ) (pids : List ℕ) → is_among pid (pid ∷ pids) ≡ true
unfolding is_among
among_first pid pids = rw (own pid) refl

or_true : (a b : Bool) → b ≡ true → (a || b) ≡ true
or_true true b is = refl
or_true false b is = is

among_later : (pid first : ℕ) (pids : List ℕ) → is_among pid pids ≡ true → is_among pid (first ∷ pids) ≡ true
unfolding is_among
among_later pid first pids some = or_true (first == pid) (is_among pid pids) some

-- These are the PIDs of the remaining streams, whose units are unchanged; the earlier streams have their units.
pub record Taken (old now : List FindingView) (pids : List ℕ) (left : List StreamMomentsView) (all out : List TimedStreamView) : Type 0 where
  pub pids_are : pids ≡ pids_of left
  pub stay : StayCarried pids old now
  pub timed : all ≡ out ++ map (timed_stream old) left

pub taken_start : (old : List FindingView) (pids : List ℕ) (left : List StreamMomentsView) (none : List TimedStreamView) → pids ≡ pids_of left → none ≡ [] →
    Taken old old pids left (map (timed_stream old) left) none
taken_start old pids left none are is = record { pids_are = are; stay = stay_same pids old; timed = rw is refl }

tail_same : (a b : ℕ) (more others : List ℕ) → (let l : List ℕ = a ∷ more in l) ≡ b ∷ others → (a ≡ b) × (more ≡ others)
tail_same a b more others is = (cc, cc)

pub taken_more : (old now next : List FindingView) (pids later : List ℕ) (pid : ℕ) (left rest : List StreamMomentsView) (s : StreamMomentsView)
    (us : List CarriedUnit) (t : TimedStreamView) (all out after : List TimedStreamView) →
    Taken old now pids left all out → pids ≡ pid ∷ later → left ≡ s ∷ rest → us ≡ carried_units pid now → StayCarried later now next → t ≡ with_units s us →
    after ≡ out ++ t ∷ [] →
    Taken old next later rest all after
taken_more old now next pids later pid left rest s us t all out after before first next_is units others made pushed =
    let two = tail_same pid s.pid later (pids_of rest) (sym first ∙ before.pids_are ∙ ap pids_of next_is) in
    let stays : StayCarried (pid ∷ later) old now = subst (λ (l : List ℕ). StayCarried l old now) first before.stay in
    let found : us ≡ carried_units s.pid old = units ∙ stays pid (among_first pid later) ∙ ap (λ (p : ℕ). carried_units p old) two.0 in
    record {
      pids_are = two.1;
      stay = λ other some. others other some ∙ stays other (among_later other pid later some);
      timed = before.timed ∙ ap (λ (l : List StreamMomentsView). out ++ map (timed_stream old) l) next_is
          ∙ sym (append_assoc out (timed_stream old s ∷ []) (map (timed_stream old) rest))
          ∙ ap (λ (l : List TimedStreamView). l ++ map (timed_stream old) rest)
          (sym (pushed ∙ ap (λ (u : TimedStreamView). out ++ u ∷ []) (made ∙ ap (with_units s) found)));
    }

pub taken_end : (old now : List FindingView) (pids : List ℕ) (left : List StreamMomentsView) (all out : List TimedStreamView) →
    Taken old now pids left all out → left ≡ [] → out ≡ all
taken_end old now pids left all out before none =
    sym (before.timed ∙ ap (λ (l : List StreamMomentsView). out ++ map (timed_stream old) l) none ∙ append-nil out)

-- the units of other PIDs, after some streams: a PID that is none of all is none of those that are left
pub record OthersLeft (all later : List ℕ) (old now : List FindingView) : Type 0 where
  pub apart : (pid : ℕ) → is_among pid all ≡ false → is_among pid later ≡ false
  pub stay : OthersCarried all old now

pub others_start : (all later : List ℕ) (old : List FindingView) → later ≡ all → OthersLeft all later old old
others_start all later old are = record { apart = λ pid none. ap (is_among pid) are ∙ none; stay = λ pid none. refl }

both_false : (a b : Bool) → (a || b) ≡ false → (a ≡ false) × (b ≡ false)
both_false true true is = (is, is)
both_false true false is = (is, refl)
both_false false b is = (refl, is)

apart_of : (other pid : ℕ) (later : List ℕ) → is_among other (pid ∷ later) ≡ false → ((pid == other) ≡ false) × (is_among other later ≡ false)
unfolding is_among
apart_of other pid later none = both_false (pid == other) (is_among other later) none

pub others_more : (all pids later : List ℕ) (pid : ℕ) (old now next : List FindingView) → OthersLeft all pids old now → pids ≡ pid ∷ later →
    OthersStay pid now next → OthersLeft all later old next
others_more all pids later pid old now next before first stay = record {
  apart = λ other none. (apart_of other pid later (sym (ap (is_among other) first) ∙ before.apart other none)).1;
  stay = λ other none. others_carried pid other now next stay (apart_of other pid later (sym (ap (is_among other) first) ∙ before.apart other none)).0
      ∙ before.stay other none;
}
