-- The accuracy errors that the judge returns over a whole stream.
use Rattle.std.proofs.Common.{◌≡◌, ◌∙◌, sym, ℕ, Bool, true, false, cond, List, [], ◌∷◌, ◌++◌, refl, ap, ap₂, append_assoc, append-nil}
use Rattle.tr101290.specs.declared.rate_judge.PidError.{PidError}
use Rattle.tr101290.specs.declared.report.PcrReport.{PcrReport}
use Rattle.tr101290.specs.Errors.{accuracy_error}
use Rattle.tr101290.specs.RateJudges.{JudgeState, after_all, all_errors, error_list, errors_all, errors_at, if_constant, is_decided, last_errors, no_rate}
use Rattle.tr101290.specs.RateJudges.{settled, taken, varies, with_report}
use Rattle.tr101290.specs.PcrLaws.{JudgedFrom, JudgeLaw}

-- The errors of two lists, if they count, are the errors of the joined list.
both : (v : Bool) (a b : List PidError) → cond v [] a ++ cond v [] b ≡ cond v [] (a ++ b)
both true a b = refl
both false a b = refl

-- After the judge has decided, its state does not change.
same : (s : JudgeState) (r : ℕ × PcrReport) → is_decided s ≡ true → taken s r.0 r.1 ≡ s
same s r d = rw d refl

given : (s : JudgeState) (r : ℕ × PcrReport) → is_decided s ≡ true → errors_at s r.0 r.1 ≡ if_constant s (error_list r.0 (accuracy_error r.1))
given s r d = rw d refl

stays : (s : JudgeState) (rs : List (ℕ × PcrReport)) → is_decided s ≡ true → after_all s rs ≡ s
unfolding after_all
stays s [] d = refl
stays s (r ∷ rs) d = ap (λ (t : JudgeState). after_all t rs) (same s r d) ∙ stays s rs d

-- After that, the judge returns each error or none.
decided : (s : JudgeState) (rs : List (ℕ × PcrReport)) → is_decided s ≡ true → s.held ≡ [] → errors_all s rs ++ last_errors s ≡ if_constant s (all_errors rs)
unfolding errors_all all_errors
decided s [] d none = ap (if_constant s) none
decided s (r ∷ rs) d none =
    let e = error_list r.0 (accuracy_error r.1) in
    ap₂ (λ (a b : List PidError). (a ++ b) ++ last_errors s) (given s r d) (ap (λ (t : JudgeState). errors_all t rs) (same s r d))
    ∙ append_assoc (if_constant s e) (errors_all s rs) (last_errors s)
    ∙ ap (λ (l : List PidError). if_constant s e ++ l) (decided s rs d none)
    ∙ both (varies s) e (all_errors rs)

-- 2. Before the judge has decided

waits : (s : JudgeState) (r : ℕ × PcrReport) → is_decided s ≡ false → is_decided (with_report s r.0 r.1) ≡ false → taken s r.0 r.1 ≡ with_report s r.0 r.1
waits s r d q = rw (d, q) refl

none_yet : (s : JudgeState) (r : ℕ × PcrReport) → is_decided s ≡ false → is_decided (with_report s r.0 r.1) ≡ false → errors_at s r.0 r.1 ≡ []
none_yet s r d q = rw (d, q) refl

settles : (s : JudgeState) (r : ℕ × PcrReport) → is_decided s ≡ false → taken s r.0 r.1 ≡ settled (with_report s r.0 r.1)
settles s r d = rw d refl

forgets : (t : JudgeState) → is_decided t ≡ true → ◌≡◌ {A = JudgeState} (settled t) (record { rate = t.rate; pairs = t.pairs; apart = t.apart; held = [] })
forgets t q = rw q refl

all_given : (s : JudgeState) (r : ℕ × PcrReport) → is_decided s ≡ false → is_decided (with_report s r.0 r.1) ≡ true →
    errors_at s r.0 r.1 ≡ if_constant (with_report s r.0 r.1) (with_report s r.0 r.1).held
all_given s r d q = rw (d, q) refl

undecided : (s : JudgeState) (rs : List (ℕ × PcrReport)) → is_decided s ≡ false → JudgedFrom s rs
unfolding after_all errors_all all_errors
undecided s [] d = ap (if_constant s) (sym (append-nil s.held))
undecided s (r ∷ rs) d = by (is_decided (with_report s r.0 r.1)) refl (λ q. undecided (with_report s r.0 r.1) rs q)
  where
    e : List PidError
    e = error_list r.0 (accuracy_error r.1)

    t : JudgeState
    t = with_report s r.0 r.1

    by : (b : Bool) → is_decided (with_report s r.0 r.1) ≡ b → (is_decided (with_report s r.0 r.1) ≡ false → JudgedFrom (with_report s r.0 r.1) rs) →
        JudgedFrom s (r ∷ rs)
    by false q later =
        ap₂ (λ (a : List PidError) (u : JudgeState). (a ++ errors_all u rs) ++ last_errors (after_all u rs)) (none_yet s r d q) (waits s r d q)
        ∙ later q
        ∙ ap (if_constant (after_all t rs)) (append_assoc s.held e (all_errors rs))
        ∙ ap (λ (u : JudgeState). if_constant (after_all u rs) (s.held ++ (e ++ all_errors rs))) (sym (waits s r d q))
    by true q later =
        let u : JudgeState = record { rate = t.rate; pairs = t.pairs; apart = t.apart; held = [] } in
        let is : taken s r.0 r.1 ≡ u = settles s r d ∙ forgets t q in
        let last : after_all (taken s r.0 r.1) rs ≡ u = ap (λ (v : JudgeState). after_all v rs) is ∙ stays u rs q in
        ap₂ (λ (a : List PidError) (v : JudgeState). (a ++ errors_all v rs) ++ last_errors (after_all (taken s r.0 r.1) rs)) (all_given s r d q) is
        ∙ ap (λ (v : JudgeState). (if_constant t t.held ++ errors_all u rs) ++ last_errors v) last
        ∙ append_assoc (if_constant t t.held) (errors_all u rs) (last_errors u)
        ∙ ap (λ (l : List PidError). if_constant t t.held ++ l) (decided u rs q refl)
        ∙ both (varies t) t.held (all_errors rs)
        ∙ ap (if_constant t) (append_assoc s.held e (all_errors rs))
        ∙ ap (λ (v : JudgeState). if_constant v (s.held ++ (e ++ all_errors rs))) (sym last)

pub judge_law : JudgeLaw
judge_law rs = undecided no_rate rs refl
