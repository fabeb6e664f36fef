-- Curves, one by one, and the values that a page keeps of them.
use Rattle.std.proofs.Common.{◌≡◌, ◌≢◌, ◌∙◌, sym, ℕ, zero, suc, ◌+◌, ◌==◌, ◌<◌, ◌≤◌, Bool, true, false, cond, List, [], ◌∷◌, ◌++◌, length, set, take, drop}
use Rattle.std.proofs.Common.{Option, Some, None, Result, Ok, Err, refl, ap, subst, arith}
use Rattle.std.proofs.lemmas.Bool.Decides.{nat_tests}
use Rattle.std.specs.Prelude.{slice_get, OnOk, ◌||◌, nat_le}
use Rattle.page_curves.specs.Curves.{Sample, IsCurve}
use Rattle.page_curves.specs.declared.pid_curves.PidCurve.{PidCurve}
use Rattle.events.specs.declared.pid_name.PidName.{PidName}
use Rattle.page_curves.specs.PidCurves.{AreCurves, IsKept, KeptCurve, has_pid, is_closed, kept_name, opened, sampled, with_sample}

pub equals : (a b : ℕ) → a ≡ b → (a == b) ≡ true
equals a b e = grind (arith, nat_tests)

pub differs : (a b : ℕ) → a ≢ b → (a == b) ≡ false
differs a b e = grind (arith, nat_tests)

-- 1. Finding a curve among the entries

unfoldable pub entry_has : ℕ → List PidCurve → Bool
entry_has pid [] = false
entry_has pid (e ∷ es) = cond (e.pid == pid) true (entry_has pid es)

unfoldable pub entry_name : ℕ → List PidCurve → Option PidName
entry_name pid [] = None
entry_name pid (e ∷ es) = cond (e.pid == pid) (Some e.name) (entry_name pid es)

pub same_has : (pid : ℕ) (es : List PidCurve) (ks : List KeptCurve) → AreCurves es ks → entry_has pid es ≡ has_pid pid ks
unfolding AreCurves entry_has has_pid
same_has pid [] [] a = refl
same_has pid [] (k ∷ ks) a = absurd a
same_has pid (e ∷ es) [] a = absurd a
same_has pid (e ∷ es) (k ∷ ks) a = rw (a.0.pid, same_has pid es ks a.1) refl

pub same_name : (pid : ℕ) (es : List PidCurve) (ks : List KeptCurve) → AreCurves es ks → entry_name pid es ≡ kept_name pid ks
unfolding AreCurves entry_name kept_name
same_name pid [] [] a = refl
same_name pid [] (k ∷ ks) a = absurd a
same_name pid (e ∷ es) [] a = absurd a
same_name pid (e ∷ es) (k ∷ ks) a = rw (a.0.pid, a.0.name, same_name pid es ks a.1) refl

pub same_length : (es : List PidCurve) (ks : List KeptCurve) → AreCurves es ks → length es ≡ length ks
unfolding AreCurves
same_length [] [] a = refl
same_length [] (k ∷ ks) a = absurd a
same_length (e ∷ es) [] a = absurd a
same_length (e ∷ es) (k ∷ ks) a = ap suc (same_length es ks a.1)

-- 2. Adding a curve, and changing a curve

pub one_more : (es : List PidCurve) (ks : List KeptCurve) (e : PidCurve) (k : KeptCurve) → AreCurves es ks → IsKept e k →
    AreCurves (es ++ e ∷ []) (ks ++ k ∷ [])
unfolding AreCurves
one_more [] [] e k a i = (i, tt)
one_more [] (l ∷ ks) e k a i = absurd a
one_more (d ∷ es) [] e k a i = absurd a
one_more (d ∷ es) (l ∷ ks) e k a i = (a.0, one_more es ks e k a.1 i)

-- A walk along the curves that has not met a curve of the PID.
pub record Walks (es : List PidCurve) (ks : List KeptCurve) (pid : ℕ) (s : Sample) (n : ℕ) : Type 0 where
  pub are : AreCurves es ks
  pub none : with_sample pid s ks ≡ take n ks ++ with_sample pid s (drop n ks)

pub begins : (es : List PidCurve) (ks : List KeptCurve) (pid : ℕ) (s : Sample) → AreCurves es ks → Walks es ks pid s 0
begins es ks pid s a = record { are = a; none = refl }

-- The walk passes a curve of another PID.
passed : (es : List PidCurve) (ks : List KeptCurve) (pid n : ℕ) (s : Sample) (e : PidCurve) → AreCurves es ks → slice_get es n ≡ Some e →
    (e.pid == pid) ≡ false →
    take n ks ++ with_sample pid s (drop n ks) ≡ take (suc n) ks ++ with_sample pid s (drop (suc n) ks)
unfolding AreCurves with_sample
passed [] ks pid n s e a at other = absurd cc
passed (d ∷ es) [] pid n s e a at other = absurd a
passed (d ∷ es) (k ∷ ks) pid zero s e a at other =
    let same : d ≡ e = cc in
    let not : (k.pid == pid) ≡ false = ap (λ (p : ℕ). p == pid) (sym a.0.pid ∙ ap (λ (x : PidCurve). x.pid) same) ∙ other in
    rw not refl
passed (d ∷ es) (k ∷ ks) pid (suc n) s e a at other = ap (λ (t : List KeptCurve). k ∷ t) (passed es ks pid n s e a.1 at other)

pub goes_on : (es : List PidCurve) (ks : List KeptCurve) (pid n : ℕ) (s : Sample) (e : PidCurve) → slice_get es n ≡ Some e → e.pid ≢ pid → Walks es ks pid s n →
    Walks es ks pid s (n + 1)
goes_on es ks pid n s e at other w =
    let next : suc n ≡ n + 1 = omega arith in
    subst (Walks es ks pid s) next (record { are = w.are; none = w.none ∙ passed es ks pid n s e w.are at (differs e.pid pid other) })

-- The walk changes the first curve of the PID.
changed : (es : List PidCurve) (ks : List KeptCurve) (pid n : ℕ) (s : Sample) (e e' : PidCurve) → AreCurves es ks → slice_get es n ≡ Some e →
    (e.pid == pid) ≡ true →
    e'.pid ≡ e.pid → e'.name ≡ e.name → e'.limit ≡ e.limit → ((samples : List Sample) → IsCurve e.curve samples → IsCurve e'.curve (s ∷ samples)) →
    AreCurves (set es n e') (take n ks ++ with_sample pid s (drop n ks))
unfolding AreCurves with_sample
changed [] ks pid n s e e' a at it p q r takes = absurd cc
changed (d ∷ es) [] pid n s e e' a at it p q r takes = absurd a
changed (d ∷ es) (k ∷ ks) pid zero s e e' a at it p q r takes =
    let same : d ≡ e = cc in
    let is : (k.pid == pid) ≡ true = ap (λ (p : ℕ). p == pid) (sym a.0.pid ∙ ap (λ (x : PidCurve). x.pid) same) ∙ it in
    let old : IsKept e k = subst (λ (x : PidCurve). IsKept x k) same a.0 in
    rw is (record { pid = p ∙ old.pid; name = q ∙ old.name; limit = r ∙ old.limit; curve = takes k.samples old.curve }, a.1)
changed (d ∷ es) (k ∷ ks) pid (suc n) s e e' a at it p q r takes = (a.0, changed es ks pid n s e e' a.1 at it p q r takes)

stops : (es : List PidCurve) (ks : List KeptCurve) (pid n : ℕ) (s : Sample) (e e' : PidCurve) → slice_get es n ≡ Some e → (e.pid == pid) ≡ true →
    e'.pid ≡ e.pid → e'.name ≡ e.name → e'.limit ≡ e.limit → ((samples : List Sample) → IsCurve e.curve samples → IsCurve e'.curve (s ∷ samples)) →
    Walks es ks pid s n → AreCurves (set es n e') (with_sample pid s ks)
stops es ks pid n s e e' at it p q r takes w = subst (AreCurves (set es n e')) (sym w.none) (changed es ks pid n s e e' w.are at it p q r takes)

-- The walk changes the curve, unless memory runs out.
pub stops_ok : {V E : Type 0} (r : Result V E) (es : List PidCurve) (ks : List KeptCurve) (pid n : ℕ) (s : Sample) (e e' : PidCurve) → slice_get es n ≡ Some e →
    e.pid ≡ pid →
    e'.pid ≡ e.pid → e'.name ≡ e.name → e'.limit ≡ e.limit → ((samples : List Sample) → IsCurve e.curve samples → OnOk r (IsCurve e'.curve (s ∷ samples))) →
    Walks es ks pid s n → OnOk r (AreCurves (set es n e') (with_sample pid s ks))
stops_ok (Ok v) es ks pid n s e e' at it p q r takes w = stops es ks pid n s e e' at (equals e.pid pid it) p q r takes w
stops_ok (Err x) es ks pid n s e e' at it p q r takes w = tt

-- The walk reaches the end of the curves.
past : (ks : List KeptCurve) (pid n : ℕ) (s : Sample) → length ks ≡ n → take n ks ++ with_sample pid s (drop n ks) ≡ ks
unfolding with_sample
past [] pid zero s e = refl
past [] pid (suc n) s e = absurd (omega (arith, e))
past (k ∷ ks) pid zero s e = absurd (omega (arith, e))
past (k ∷ ks) pid (suc n) s e = let h : length ks ≡ n = omega (arith, e) in ap (λ (t : List KeptCurve). k ∷ t) (past ks pid n s h)

pub ends : (es : List PidCurve) (ks : List KeptCurve) (pid n : ℕ) (s : Sample) → length es ≡ n → Walks es ks pid s n → AreCurves es (with_sample pid s ks)
ends es ks pid n s e w = subst (AreCurves es) (sym (w.none ∙ past ks pid n s (sym (same_length es ks w.are) ∙ e))) w.are

-- 3. Looking for a PID

pub has_found : (rest after : List PidCurve) (e : PidCurve) (pid : ℕ) (whole : Bool) → rest ≡ e ∷ after → e.pid ≡ pid → entry_has pid rest ≡ whole →
    true ≡ whole
unfolding entry_has
has_found rest after e pid whole same it before =
    let one : entry_has pid (e ∷ after) ≡ true = rw (equals e.pid pid it) refl in
    sym one ∙ sym (ap (entry_has pid) same) ∙ before

pub has_passed : (rest after : List PidCurve) (e : PidCurve) (pid : ℕ) (whole : Bool) → rest ≡ e ∷ after → e.pid ≢ pid → entry_has pid rest ≡ whole →
    entry_has pid after ≡ whole
unfolding entry_has
has_passed rest after e pid whole same other before =
    let one : entry_has pid (e ∷ after) ≡ entry_has pid after = rw (differs e.pid pid other) refl in
    sym one ∙ sym (ap (entry_has pid) same) ∙ before

pub has_none : (rest : List PidCurve) (pid : ℕ) (whole : Bool) → rest ≡ [] → entry_has pid rest ≡ whole → false ≡ whole
unfolding entry_has
has_none rest pid whole same before = sym (ap (entry_has pid) same) ∙ before

pub name_found : (rest after : List PidCurve) (e : PidCurve) (pid : ℕ) (whole : Option PidName) → rest ≡ e ∷ after → e.pid ≡ pid → entry_name pid rest ≡ whole →
    Some e.name ≡ whole
unfolding entry_name
name_found rest after e pid whole same it before =
    let one : entry_name pid (e ∷ after) ≡ Some e.name = rw (equals e.pid pid it) refl in
    sym one ∙ sym (ap (entry_name pid) same) ∙ before

pub name_passed : (rest after : List PidCurve) (e : PidCurve) (pid : ℕ) (whole : Option PidName) → rest ≡ e ∷ after → e.pid ≢ pid →
    entry_name pid rest ≡ whole → entry_name pid after ≡ whole
unfolding entry_name
name_passed rest after e pid whole same other before =
    let one : entry_name pid (e ∷ after) ≡ entry_name pid after = rw (differs e.pid pid other) refl in
    sym one ∙ sym (ap (entry_name pid) same) ∙ before

pub name_none : (rest : List PidCurve) (pid : ℕ) (whole : Option PidName) → rest ≡ [] → entry_name pid rest ≡ whole → None ≡ whole
unfolding entry_name
name_none rest pid whole same before = sym (ap (entry_name pid) same) ∙ before

-- 4. Opening a curve

pub no_curves : (es : List PidCurve) → es ≡ [] → AreCurves es []
unfolding AreCurves
no_curves es e = subst (λ (x : List PidCurve). AreCurves x []) (sym e) tt

pub full : (es : List PidCurve) (ks : List KeptCurve) (pid : ℕ) → 256 ≤ length es → AreCurves es ks → nat_le 256 (length es) ≡ is_closed pid ks
full es ks pid many a =
    let here : nat_le 256 (length es) ≡ true = tested 256 (length es) many in
    let there : nat_le 256 (length ks) ≡ true = tested 256 (length ks) (omega (arith, many, same_length es ks a)) in
    rw (here, there) refl
  where
    tested : (a b : ℕ) → a ≤ b → nat_le a b ≡ true
    tested a b le = grind (arith, nat_tests)

pub not_full : (es : List PidCurve) (ks : List KeptCurve) (pid : ℕ) (has : Bool) → length es < 256 → has ≡ has_pid pid ks → AreCurves es ks →
    has ≡ is_closed pid ks
not_full es ks pid has few is a =
    let there : nat_le 256 (length ks) ≡ false = tested 256 (length ks) (omega (arith, few, same_length es ks a)) in
    rw there is
  where
    tested : (a b : ℕ) → b < a → nat_le a b ≡ false
    tested a b lt = grind (arith, nat_tests)

pub stays : (es : List PidCurve) (ks : List KeptCurve) (pid limit : ℕ) (name : PidName) (t : Bool) → t ≡ (nat_le 256 (length ks) || has_pid pid ks) → t ≡ true →
    AreCurves es ks →
    AreCurves es (opened pid name limit ks)
stays es ks pid limit name t is holds a =
    let here : (nat_le 256 (length ks) || has_pid pid ks) ≡ true = sym is ∙ holds in
    rw here a

pub opens : (es : List PidCurve) (ks : List KeptCurve) (e : PidCurve) (t : Bool) → t ≡ (nat_le 256 (length ks) || has_pid e.pid ks) → t ≡ false →
    IsCurve e.curve [] → AreCurves es ks →
    AreCurves (es ++ e ∷ []) (opened e.pid e.name e.limit ks)
opens es ks e t is fails curve a =
    let here : (nat_le 256 (length ks) || has_pid e.pid ks) ≡ false = sym is ∙ fails in
    rw here (one_more es ks e (record { pid = e.pid; name = e.name; limit = e.limit; samples = [] }) a
    (record { pid = refl; name = refl; limit = refl; curve = curve }))
