-- The search for stamps that are alone out of order, as one PID sees it
use Rattle.std.proofs.Common.{◌≡◌, ◌∙◌, ◌<◌, ◌≤◌, ℕ, ◌==◌, ◌++◌, ◌⊎◌, inl, inr, Bool, true, false, cond, if◌then◌else◌, nat_eq, nat_lt, Option, Some, None, List, [], ◌∷◌}
use Rattle.std.proofs.Common.{filter, length, refl, sym, ap, arith, append_assoc, append-nil, eq-eqb, ltb-false}
use Rattle.std.proofs.lemmas.Bool.Decides.{eqb_tells}
use Rattle.std.proofs.lemmas.List.Elements.{filter-append}
use Rattle.std.proofs.lemmas.Option.{same_Some}
use Rattle.std.specs.List.{cons_option}
use Rattle.std.specs.Map.{lookup}
use Rattle.demux.specs.Laws.{has_pid}
use Rattle.indexmap.specs.IndexMap.{insert_entry}
use Rattle.pid_findings.specs.Views.{FindingView}
use Rattle.stamp_repair.specs.LoneLaws.{stamps_on}
use Rattle.stamp_repair.specs.LoneStamps.{SearchView, is_last_lone, is_on, lone_at, next_last, search_after, with_finding, with_lone, with_stamp, with_stamp_if}
use Rattle.stamp_repair.specs.PesStamps.{stamp_at}
use Rattle.stamp_repair.specs.declared.pes_stamps.PesStamp.{PesStamp}
use Rattle.stamp_repair.specs.declared.search.LastStamps.{LastStamps}
use Rattle.stamp_repair.specs.declared.search.LonePes.{LonePes}

-- 1. Entries of PIDs: an inserted one is found, and no other one changes

pub itself : (a : ℕ) → nat_eq a a ≡ true
itself a = eq-eqb a a refl

pub apart : (a b : ℕ) → (a ≡ b → ⊥) → nat_eq a b ≡ false
apart a b f = elim (eqb_tells a b) [
  | inl same ↦ absurd (f same.1)
  | inr other ↦ other.0
]

lookup_same : {X : Type 0} (es : List (ℕ × X)) (k : ℕ) (v : X) → lookup (nat_eq k) (insert_entry nat_eq es k v) ≡ Some v
lookup_same [] k v = rw (itself k) refl
lookup_same (e ∷ es) k v = by (nat_eq k e.0) refl (lookup_same es k v)
  where
    by : (b : Bool) → nat_eq k e.0 ≡ b → lookup (nat_eq k) (insert_entry nat_eq es k v) ≡ Some v → lookup (nat_eq k) (insert_entry nat_eq (e ∷ es) k v) ≡ Some v
    by true h rest = rw h (rw h refl)
    by false h rest = rw h (rw h rest)

lookup_other : {X : Type 0} (es : List (ℕ × X)) (k q : ℕ) (v : X) → (k ≡ q → ⊥) → lookup (nat_eq q) (insert_entry nat_eq es k v) ≡ lookup (nat_eq q) es
lookup_other {X = X} [] k q v f = rw (apart q k (λ e. f (sym e))) refl
lookup_other {X = X} (e ∷ es) k q v f = elim (eqb_tells k e.0) [
  | inl same ↦ let no : nat_eq q e.0 ≡ false = apart q e.0 (λ p. f (same.1 ∙ sym p)) in rw same.0 (rw no refl)
  | inr other ↦ rw other.0 (ap (λ (o : Option X). cond (nat_eq q e.0) (Some e.1) o) (lookup_other es k q v f))
]

-- 2. The PES packet that a stamp shows, if any

pub pid_of_lone : (q : ℕ) (last : Option LastStamps) (next : PesStamp) (l : LonePes) → lone_at q last next ≡ Some l → l.pid ≡ q
unfolding lone_at
pid_of_lone q None next l is = absurd cc
pid_of_lone q (Some x) next l is = by (record { pid = q; packet = x.last.packet }) (is_last_lone x.before x.last next) is refl
  where
    by : (lone : LonePes) (b : Bool) → (if b then Some lone else None) ≡ Some l → lone.pid ≡ q → l.pid ≡ q
    by lone true found here = sym (ap (λ (y : LonePes). y.pid) (same_Some lone l found)) ∙ here
    by lone false found here = absurd cc

pub on_pid : (q : ℕ) (last : Option LastStamps) (next : PesStamp) (l : LonePes) → lone_at q last next ≡ Some l → is_on q l ≡ true
on_pid q last next l is = ap (λ (k : ℕ). k == q) (pid_of_lone q last next l is) ∙ itself q

other_found : (pid : ℕ) (lone : List LonePes) (o : Option LonePes) → ((l : LonePes) → o ≡ Some l → is_on pid l ≡ false) →
    filter (is_on pid) (with_lone lone o) ≡ filter (is_on pid) lone
unfolding with_lone
other_found pid lone None off = refl
other_found pid lone (Some l) off = by (nat_lt (length lone) 256)
  where
    by : (b : Bool) → filter (is_on pid) (if b then lone ++ l ∷ [] else lone) ≡ filter (is_on pid) lone
    by true =
        let none : filter (is_on pid) (l ∷ []) ≡ [] = rw (off l refl) refl in
        filter-append (is_on pid) lone (l ∷ []) ∙ ap (λ (ls : List LonePes). filter (is_on pid) lone ++ ls) none ∙ append-nil (filter (is_on pid) lone)
    by false = refl

pub one_on : (pid : ℕ) (l : LonePes) → is_on pid l ≡ true → filter (is_on pid) (l ∷ []) ≡ l ∷ []
one_on pid l on = rw on refl

own_found : (pid : ℕ) (lone : List LonePes) (o : Option LonePes) → nat_lt (length lone) 256 ≡ true → ((l : LonePes) → o ≡ Some l → is_on pid l ≡ true) →
    filter (is_on pid) (with_lone lone o) ≡ filter (is_on pid) lone ++ cons_option o []
unfolding with_lone
own_found pid lone None room on = sym (append-nil (filter (is_on pid) lone))
own_found pid lone (Some l) room on =
    ap (λ (b : Bool). filter (is_on pid) (if b then lone ++ l ∷ [] else lone)) room
    ∙ filter-append (is_on pid) lone (l ∷ [])
    ∙ ap (λ (ls : List LonePes). filter (is_on pid) lone ++ ls) (one_on pid l (on l refl))

-- 3. One finding: it has no stamps of the PID, or the next ones

pub record IsOther (pid : ℕ) (s : SearchView) (p : Option ℕ) (stamp : Option PesStamp) : Type 0 where
  pub none : (if has_pid pid p then stamp else None) ≡ None
  pub entry : lookup (nat_eq pid) (with_stamp_if s p stamp).last ≡ lookup (nat_eq pid) s.last
  pub found : filter (is_on pid) (with_stamp_if s p stamp).lone ≡ filter (is_on pid) s.lone

pub record IsOwn (pid : ℕ) (s : SearchView) (p : Option ℕ) (stamp : Option PesStamp) : Type 0 where
  pub next : PesStamp
  pub is : (if has_pid pid p then stamp else None) ≡ Some next
  pub entry : lookup (nat_eq pid) (with_stamp_if s p stamp).last ≡ Some (next_last (lookup (nat_eq pid) s.last) next)
  pub lone : (with_stamp_if s p stamp).lone ≡ with_lone s.lone (lone_at pid (lookup (nat_eq pid) s.last) next)

none_by : (b : Bool) (o : Option PesStamp) → o ≡ None → (if b then o else None) ≡ None
none_by true o none = none
none_by false o none = refl

with_own : (pid q : ℕ) (s : SearchView) (n : PesStamp) → nat_eq q pid ≡ true → q ≡ pid → IsOwn pid s (Some q) (Some n)
unfolding with_stamp_if
with_own pid q s n test same = record {
  next = n;
  is = ap (λ (b : Bool). if b then Some n else None) test;
  entry = ap (λ (k : ℕ). lookup (nat_eq pid) (with_stamp s k n).last) same
      ∙ lookup_same s.last pid (next_last (lookup (nat_eq pid) s.last) n);
  lone = ap (λ (k : ℕ). (with_stamp s k n).lone) same;
}

with_other : (pid q : ℕ) (s : SearchView) (n : PesStamp) → nat_eq q pid ≡ false → (q ≡ pid → ⊥) → IsOther pid s (Some q) (Some n)
unfolding with_stamp_if
with_other pid q s n test other =
    let last : Option LastStamps = lookup (nat_eq q) s.last in
    record {
      none = ap (λ (b : Bool). if b then Some n else None) test;
      entry = lookup_other s.last q pid (next_last last n) other;
      found = other_found pid s.lone (lone_at q last n) (λ l is. ap (λ (k : ℕ). k == pid) (pid_of_lone q last n l is) ∙ test);
    }

pub one_finding : (pid : ℕ) (s : SearchView) (p : Option ℕ) (stamp : Option PesStamp) → IsOther pid s p stamp ⊎ IsOwn pid s p stamp
unfolding with_stamp_if
one_finding pid s None None = inl (record { none = refl; entry = refl; found = refl })
one_finding pid s None (Some n) = inl (record { none = refl; entry = refl; found = refl })
one_finding pid s (Some q) None = inl (record { none = none_by (nat_eq q pid) None refl; entry = refl; found = refl })
one_finding pid s (Some q) (Some n) = elim (eqb_tells q pid) [
  | inl same ↦ inr (with_own pid q s n same.0 same.1)
  | inr other ↦ inl (with_other pid q s n other.0 other.1)
]

-- 4. After 256 PES packets no more is found

stays_full : (lone : List LonePes) (o : Option LonePes) → nat_lt (length lone) 256 ≡ false → with_lone lone o ≡ lone
unfolding with_lone
stays_full lone None full = refl
stays_full lone (Some l) full = ap (λ (b : Bool). if b then lone ++ l ∷ [] else lone) full

full_finding : (s : SearchView) (p : Option ℕ) (stamp : Option PesStamp) → nat_lt (length s.lone) 256 ≡ false → (with_stamp_if s p stamp).lone ≡ s.lone
unfolding with_stamp_if
full_finding s None None full = refl
full_finding s None (Some n) full = refl
full_finding s (Some q) None full = refl
full_finding s (Some q) (Some n) full = stays_full s.lone (lone_at q (lookup (nat_eq q) s.last) n) full

full_search : (s : SearchView) (fs : List FindingView) → nat_lt (length s.lone) 256 ≡ false → (search_after s fs).lone ≡ s.lone
unfolding search_after
full_search s [] full = refl
full_search s (f ∷ fs) full =
    let one : (with_finding s f).lone ≡ s.lone = full_finding s f.pid (stamp_at f) full in
    full_search (with_finding s f) fs (ap (λ (ls : List LonePes). nat_lt (length ls) 256) one ∙ full) ∙ one

-- 5. What is found on a PID is found among its stamps, from the first on, and all of it if fewer than 256 are found

abbrev pub lone_after : ℕ → Option LastStamps → List PesStamp → List LonePes
lone_after pid last [] = []
lone_after pid last (s ∷ ss) = cons_option (lone_at pid last s) (lone_after pid (Some (next_last last s)) ss)

pub record PidSearch (pid : ℕ) (s : SearchView) (fs : List FindingView) : Type 0 where
  pub found : List LonePes
  pub rest : List LonePes
  pub split : lone_after pid (lookup (nat_eq pid) s.last) (stamps_on pid fs) ≡ found ++ rest
  pub kept : filter (is_on pid) (search_after s fs).lone ≡ filter (is_on pid) s.lone ++ found
  pub whole : length (search_after s fs).lone < 256 → rest ≡ []

pub cons_append : (o : Option LonePes) (a b : List LonePes) → cons_option o (a ++ b) ≡ cons_option o a ++ b
cons_append None a b = refl
cons_append (Some l) a b = refl

none_left : (pid : ℕ) (s : SearchView) → PidSearch pid s []
unfolding search_after
none_left pid s = record { found = []; rest = []; split = refl; kept = sym (append-nil (filter (is_on pid) s.lone)); whole = λ few. refl }

other_next : (pid : ℕ) (s : SearchView) (f : FindingView) (fs : List FindingView) → IsOther pid s f.pid (stamp_at f) →
    PidSearch pid (with_finding s f) fs → PidSearch pid s (f ∷ fs)
unfolding search_after
other_next pid s f fs other x = record {
  found = x.found;
  rest = x.rest;
  split = ap (λ (o : Option PesStamp). lone_after pid (lookup (nat_eq pid) s.last) (cons_option o (stamps_on pid fs))) other.none
      ∙ ap (λ (last : Option LastStamps). lone_after pid last (stamps_on pid fs)) (sym other.entry) ∙ x.split;
  kept = x.kept ∙ ap (λ (ls : List LonePes). ls ++ x.found) other.found;
  whole = x.whole;
}

own_next : (pid : ℕ) (s : SearchView) (f : FindingView) (fs : List FindingView) → nat_lt (length s.lone) 256 ≡ true → IsOwn pid s f.pid (stamp_at f) →
    PidSearch pid (with_finding s f) fs → PidSearch pid s (f ∷ fs)
unfolding search_after
own_next pid s f fs room own x =
    let last : Option LastStamps = lookup (nat_eq pid) s.last in
    let o : Option LonePes = lone_at pid last own.next in
    let before : List LonePes = filter (is_on pid) s.lone in
    let found : filter (is_on pid) (with_finding s f).lone ≡ before ++ cons_option o [] =
    ap (filter (is_on pid)) own.lone ∙ own_found pid s.lone o room (on_pid pid last own.next) in
    record {
      found = cons_option o x.found;
      rest = x.rest;
      split = ap (λ (st : Option PesStamp). lone_after pid last (cons_option st (stamps_on pid fs))) own.is
          ∙ ap (λ (l : Option LastStamps). cons_option o (lone_after pid l (stamps_on pid fs))) (sym own.entry)
          ∙ ap (λ (ls : List LonePes). cons_option o ls) x.split ∙ cons_append o x.found x.rest;
      kept = x.kept ∙ ap (λ (ls : List LonePes). ls ++ x.found) found ∙ append_assoc before (cons_option o []) x.found
          ∙ ap (λ (ls : List LonePes). before ++ ls) (sym (cons_append o [] x.found));
      whole = x.whole;
    }

not_few : (n m : ℕ) → nat_lt n 256 ≡ false → m ≡ n → m < 256 → ⊥
not_few n m full same few = let many : 256 ≤ n = ltb-false n 256 full in omega (arith, many, same, few)

full_next : (pid : ℕ) (s : SearchView) (fs : List FindingView) → nat_lt (length s.lone) 256 ≡ false → PidSearch pid s fs
full_next pid s fs full =
    let same : (search_after s fs).lone ≡ s.lone = full_search s fs full in
    record {
      found = [];
      rest = lone_after pid (lookup (nat_eq pid) s.last) (stamps_on pid fs);
      split = refl;
      kept = ap (filter (is_on pid)) same ∙ sym (append-nil (filter (is_on pid) s.lone));
      whole = λ few. absurd (not_few (length s.lone) (length (search_after s fs).lone) full (ap (length {A = LonePes}) same) few);
    }

next_search : (pid : ℕ) (s : SearchView) (f : FindingView) (fs : List FindingView) → IsOwn pid s f.pid (stamp_at f) →
    PidSearch pid (with_finding s f) fs → PidSearch pid s (f ∷ fs)
next_search pid s f fs own x = by (nat_lt (length s.lone) 256) refl
  where
    by : (b : Bool) → nat_lt (length s.lone) 256 ≡ b → PidSearch pid s (f ∷ fs)
    by true room = own_next pid s f fs room own x
    by false full = full_next pid s (f ∷ fs) full

pub pid_search : (pid : ℕ) (s : SearchView) (fs : List FindingView) → PidSearch pid s fs
pid_search pid s [] = none_left pid s
pid_search pid s (f ∷ fs) =
    let later = pid_search pid (with_finding s f) fs in
    elim (one_finding pid s f.pid (stamp_at f)) [
      | inl other ↦ other_next pid s f fs other later
      | inr own ↦ next_search pid s f fs own later
    ]
