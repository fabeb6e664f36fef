-- Findings on a PID that is not timed
use Rattle.std.proofs.Common.{◌≡◌, ℕ, Bool, true, false, if◌then◌else◌, Option, Some, None, List, [], ◌∷◌, refl, ap, ◌∙◌}
use Rattle.std.proofs.lemmas.Bool.{eqb-true}
use Rattle.demux.specs.Laws.{found_of, has_pid}
use Rattle.pid_findings.specs.Views.{FindingView}
use Rattle.stamp_repair.specs.DataTimes.{Clocks, LineView, TimesView, first_shown, is_unstamped, moment_of, moment_on, passed, timed_finding, timed_from}
use Rattle.stamp_repair.specs.DataTimes.{times_of}
use Rattle.stamp_repair.specs.TextLaws.{OthersStay}

own_pid : (pid : ℕ) (p : Option ℕ) → has_pid pid p ≡ true → p ≡ Some pid
own_pid pid None is = absurd cc
own_pid pid (Some other) is = ap Some (eqb-true other pid is)

-- A finding on this PID has no moment.
no_moment : (t : TimesView) (clocks : Clocks) (pid : ℕ) (p : Option ℕ) → is_unstamped t.seen pid ≡ false → p ≡ Some pid → moment_on t clocks p ≡ None
unfolding moment_on moment_of
no_moment t clocks pid p stamped own = rw (own, stamped) refl

same_pid : (moment : Option ℕ) (f : FindingView) → (timed_finding moment f).pid ≡ f.pid
unfolding timed_finding
same_pid None f = refl
same_pid (Some t) f = refl

stays : (t : TimesView) (clocks : Clocks) (pid : ℕ) (f : FindingView) → is_unstamped t.seen pid ≡ false → has_pid pid f.pid ≡ true →
    timed_finding (moment_on t clocks f.pid) f ≡ f
unfolding timed_finding
stays t clocks pid f stamped own = rw (no_moment t clocks pid f.pid stamped (own_pid pid f.pid own)) refl

if_own : Bool → FindingView → List FindingView → List FindingView
if_own own f fs = if own then f ∷ fs else fs

one_by : (own : Bool) (f g : FindingView) (fs gs : List FindingView) → (own ≡ true → g ≡ f) → gs ≡ fs → if_own own g gs ≡ if_own own f fs
unfolding if_own
one_by true f g fs gs same rest = let e : g ≡ f = same refl in rw (e, rest) refl
one_by false f g fs gs same rest = rest

all_stay : (t : TimesView) (line : LineView) (pid : ℕ) (fs : List FindingView) → is_unstamped t.seen pid ≡ false →
    found_of pid (timed_from t line fs) ≡ found_of pid fs
unfolding timed_from if_own
all_stay t line pid [] stamped = refl
all_stay t line pid (f ∷ fs) stamped =
    let next : LineView = passed f.packet line in
    let g : FindingView = timed_finding (moment_on t next.clocks f.pid) f in
    let rest = all_stay t next pid fs stamped in
    ap (λ (p : Option ℕ). if_own (has_pid pid p) g (found_of pid (timed_from t next fs))) (same_pid (moment_on t next.clocks f.pid) f)
    ∙ one_by (has_pid pid f.pid) f g (found_of pid fs) (found_of pid (timed_from t next fs)) (λ own. stays t next.clocks pid f stamped own) rest

pub others_stay : OthersStay
others_stay references findings pid stamped =
    all_stay (times_of references findings) (record { clocks = first_shown [] references; later = references }) pid findings stamped
