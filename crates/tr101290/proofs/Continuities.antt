-- The continuity errors of a PID are the errors of its own packets.
use Rattle.std.proofs.Common.{◌≡◌, ◌∙◌, ℕ, ◌==◌, Bool, true, false, cond, nat_eq, List, [], ◌∷◌, filter, Option, Some, None, true≢false, refl, sym, ap, subst}
use Rattle.std.proofs.Common.{arith}
use Rattle.std.specs.Prelude.{option_map, unwrap_or}
use Rattle.std.specs.Map.{lookup}
use Rattle.std.proofs.lemmas.Bool.Decides.{nat_tests}
use Rattle.indexmap.specs.IndexMap.{insert_entry}
use Rattle.ts_packet.specs.PidList.{Entry}
use Rattle.pid_findings.specs.Marks.{LastView, break_at, mark, marked, seen}
use Rattle.tr101290.specs.declared.continuity.ContinuityError.{ContinuityError}
use Rattle.tr101290.specs.Continuity.{ContinuityLaw, Lasts, after, before_if, breaks, error_at, error_of, errors_from, last_of}

same_number : (a b : ℕ) → (a == b) ≡ true → a ≡ b
same_number a b e = grind (arith, nat_tests)

itself : (a : ℕ) → (a == a) ≡ true
itself a = by (a == a) refl
  where
    by : (t : Bool) → (a == a) ≡ t → t ≡ true
    by true e = refl
    by false e = absurd (grind (arith, nat_tests))

turned_test : (a b : ℕ) → (a == b) ≡ (b == a)
turned_test a b = by (a == b) (b == a) refl refl
  where
    by : (s t : Bool) → (a == b) ≡ s → (b == a) ≡ t → s ≡ t
    by true true p q = refl
    by false false p q = refl
    by true false p q = absurd (grind (arith, nat_tests))
    by false true p q = absurd (grind (arith, nat_tests))

-- The last packet of a PID after an insert for PID q
found : (pid q : ℕ) (x : Option LastView) (es : Lasts) (t : Bool) → (q == pid) ≡ t →
    lookup (nat_eq pid) (insert_entry nat_eq es q x) ≡ cond t (Some x) (lookup (nat_eq pid) es)
found pid q x [] t e = rw (turned_test pid q ∙ e) refl
found pid q x (y ∷ es) t e = by t e (q == y.0) refl (found pid q x es t e)
  where
    by : (t : Bool) → (q == pid) ≡ t → (u : Bool) → (q == y.0) ≡ u →
        lookup (nat_eq pid) (insert_entry nat_eq es q x) ≡ cond t (Some x) (lookup (nat_eq pid) es) →
        lookup (nat_eq pid) (cond u ((y.0, x) ∷ es) (y ∷ insert_entry nat_eq es q x)) ≡ cond t (Some x)
        (cond (nat_eq pid y.0) (Some y.1) (lookup (nat_eq pid) es))
    by true e true f h = let g : (pid == y.0) ≡ true = subst (λ (n : ℕ). (n == y.0) ≡ true) (same_number q pid e) f in rw g refl
    by false e true f h = let g : (pid == y.0) ≡ false = subst (λ (n : ℕ). (pid == n) ≡ false) (same_number q y.0 f) (turned_test pid q ∙ e) in rw g refl
    by true e false f h = let g : (pid == y.0) ≡ false = subst (λ (n : ℕ). (n == y.0) ≡ false) (same_number q pid e) f in rw g h
    by false e false f h = ap (λ (o : Option (Option LastView)). cond (nat_eq pid y.0) (Some y.1) o) h

last_kept : (pid q : ℕ) (x : Option LastView) (es : Lasts) (t : Bool) → (q == pid) ≡ t → last_of pid (insert_entry nat_eq es q x) ≡ cond t x (last_of pid es)
last_kept pid q x es true e = ap (λ (o : Option (Option LastView)). unwrap_or o None) (found pid q x es true e)
last_kept pid q x es false e = ap (λ (o : Option (Option LastView)). unwrap_or o None) (found pid q x es false e)

abbrev of_pid : ℕ → ContinuityError → Bool
of_pid pid e = e.pid == pid

abbrev from_pid : ℕ → Entry → Bool
from_pid pid entry = entry.packet.header.pid == pid

-- The filter for a PID keeps an error of this PID and drops an error of another PID.
stays : (pid packet : ℕ) (o : Option (ℕ × ℕ)) (es : List ContinuityError) →
    filter (of_pid pid) (before_if (option_map (error_of pid packet) o) es) ≡ before_if (option_map (error_of pid packet) o) (filter (of_pid pid) es)
unfolding before_if
stays pid packet None es = refl
stays pid packet (Some b) es = rw (itself pid) refl

goes : (pid q packet : ℕ) (o : Option (ℕ × ℕ)) (es : List ContinuityError) → (q == pid) ≡ false →
    filter (of_pid pid) (before_if (option_map (error_of q packet) o) es) ≡ filter (of_pid pid) es
unfolding before_if
goes pid q packet None es e = refl
goes pid q packet (Some b) es e = rw e refl

none : (pid : ℕ) (es : List ContinuityError) → filter (of_pid pid) (before_if None es) ≡ filter (of_pid pid) es
unfolding before_if
none pid es = refl

-- 1. A packet of the PID, a packet of another PID, and a null packet

null_after : (lasts : Lasts) (entry : Entry) → (entry.packet.header.pid == 8191) ≡ true → after lasts entry ≡ lasts
unfolding after
null_after lasts entry n = rw n refl

null_error : (lasts : Lasts) (entry : Entry) → (entry.packet.header.pid == 8191) ≡ true → error_at lasts entry ≡ None
unfolding error_at
null_error lasts entry n = rw n refl

real_after : (lasts : Lasts) (entry : Entry) → (entry.packet.header.pid == 8191) ≡ false →
    after lasts entry ≡ insert_entry nat_eq lasts entry.packet.header.pid (Some (seen (mark (last_of entry.packet.header.pid lasts) entry)))
unfolding after
real_after lasts entry n = rw n refl

real_error : (lasts : Lasts) (entry : Entry) → (entry.packet.header.pid == 8191) ≡ false →
    error_at lasts entry ≡ option_map (error_of entry.packet.header.pid entry.index) (break_at (last_of entry.packet.header.pid lasts) entry)
unfolding error_at
real_error lasts entry n = rw n refl

broken_is : (last : Option LastView) (entry : Entry) → (mark last entry).broken ≡ break_at last entry
unfolding mark
broken_is last entry = refl

entry_is : (last : Option LastView) (entry : Entry) → (mark last entry).entry ≡ entry
unfolding mark
entry_is last entry = refl

first_breaks : (pid : ℕ) (last : Option LastView) (entry : Entry) (rest : List Entry) → breaks pid (marked last (entry ∷ rest))
    ≡ before_if (option_map (error_of pid entry.index) (break_at last entry)) (breaks pid (marked (Some (seen (mark last entry))) rest))
unfolding breaks mark
first_breaks pid last entry rest = refl

own : (pid : ℕ) (lasts : Lasts) (entry : Entry) → (entry.packet.header.pid == 8191) ≡ false → (entry.packet.header.pid == pid) ≡ true →
    last_of pid (after lasts entry) ≡ Some (seen (mark (last_of pid lasts) entry))
own pid lasts entry n t =
    ap (last_of pid) (real_after lasts entry n)
    ∙ last_kept pid entry.packet.header.pid (Some (seen (mark (last_of entry.packet.header.pid lasts) entry))) lasts true t
    ∙ ap (λ (k : ℕ). Some (seen (mark (last_of k lasts) entry))) (same_number entry.packet.header.pid pid t)

general : (pid : ℕ) → (pid == 8191) ≡ false → (entries : List Entry) (lasts : Lasts) →
    filter (of_pid pid) (errors_from lasts entries) ≡ breaks pid (marked (last_of pid lasts) (filter (from_pid pid) entries))
unfolding errors_from breaks
general pid real [] lasts = refl
general pid real (entry ∷ entries) lasts = by (general pid real entries) (entry.packet.header.pid == 8191) refl (entry.packet.header.pid == pid) refl
  where
    q : ℕ
    q = entry.packet.header.pid

    rest : List Entry
    rest = filter (from_pid pid) entries

    by : ((l : Lasts) → filter (of_pid pid) (errors_from l entries) ≡ breaks pid (marked (last_of pid l) (filter (from_pid pid) entries))) →
        (n : Bool) → (q == 8191) ≡ n → (t : Bool) → (q == pid) ≡ t →
        filter (of_pid pid) (before_if (error_at lasts entry) (errors_from (after lasts entry) entries)) ≡ breaks pid
        (marked (last_of pid lasts) (cond t (entry ∷ rest) rest))
    by ih true n true t = absurd (true≢false (sym (subst (λ (k : ℕ). (k == 8191) ≡ true) (same_number q pid t) n) ∙ real))
    by ih true n false t =
        ap (λ (o : Option ContinuityError). filter (of_pid pid) (before_if o (errors_from (after lasts entry) entries))) (null_error lasts entry n)
        ∙ none pid (errors_from (after lasts entry) entries)
        ∙ ap (λ (l : Lasts). filter (of_pid pid) (errors_from l entries)) (null_after lasts entry n)
        ∙ ih lasts
    by ih false n true t =
        ap (λ (o : Option ContinuityError). filter (of_pid pid) (before_if o (errors_from (after lasts entry) entries))) (real_error lasts entry n)
        ∙ ap (λ (k : ℕ). filter (of_pid pid)
        (before_if (option_map (error_of k entry.index) (break_at (last_of k lasts) entry)) (errors_from (after lasts entry) entries)))
        (same_number q pid t)
        ∙ stays pid entry.index (break_at (last_of pid lasts) entry) (errors_from (after lasts entry) entries)
        ∙ ap (before_if (option_map (error_of pid entry.index) (break_at (last_of pid lasts) entry))) (ih (after lasts entry)
        ∙ ap (λ (last : Option LastView). breaks pid (marked last rest)) (own pid lasts entry n t))
        ∙ sym (first_breaks pid (last_of pid lasts) entry rest)
    by ih false n false t =
        ap (λ (o : Option ContinuityError). filter (of_pid pid) (before_if o (errors_from (after lasts entry) entries))) (real_error lasts entry n)
        ∙ goes pid q entry.index (break_at (last_of q lasts) entry) (errors_from (after lasts entry) entries) t
        ∙ ih (after lasts entry)
        ∙ ap (λ (last : Option LastView). breaks pid (marked last rest))
        (ap (last_of pid) (real_after lasts entry n) ∙ last_kept pid q (Some (seen (mark (last_of q lasts) entry))) lasts false t)

pub continuity_law : ContinuityLaw
continuity_law pid entries real = general pid real entries []
