-- What is found on a PID depends on its findings alone
use Rattle.std.proofs.Common.{◌≡◌, ◌∙◌, ◌<◌, ℕ, ◌+◌, ◌&&◌, ◌||◌, ◌++◌, Bool, true, false, cond, not, if◌then◌else◌, nat_eq, nat_le, nat_lt, Option}
use Rattle.std.proofs.Common.{Some, None, List, [], ◌∷◌, filter, length, map, refl, sym, ap, ap₂, arith, append-nil, eqb-true, length-append}
use Rattle.std.proofs.lemmas.List.Elements.{filter-append}
use Rattle.std.proofs.lemmas.List.Sums.{count_by-le-length, length-filter}
use Rattle.std.specs.List.{cons_option, list_any}
use Rattle.std.specs.Map.{lookup}
use Rattle.demux.specs.Laws.{found_of, has_pid}
use Rattle.pid_findings.specs.Views.{FindingView}
use Rattle.stamp_repair.specs.LoneLaws.{EachPidAlone, stamp_on, stamps_on}
use Rattle.stamp_repair.specs.LoneStamps.{SearchView, all_lone, damage_of, damaged, is_at, is_damage, is_falling, is_on, lone_at, lone_damaged, no_stamps}
use Rattle.stamp_repair.specs.LoneStamps.{search_after, with_finding, with_lone, with_stamp_if}
use Rattle.stamp_repair.specs.PesStamps.{stamp_at}
use Rattle.stamp_repair.specs.declared.pes_stamps.PesStamp.{PesStamp}
use Rattle.stamp_repair.specs.declared.search.LonePes.{LonePes}
use Rattle.stamp_repair.proofs.DamagedFindings.{own_damage}
use Rattle.stamp_repair.proofs.PidSearch.{lone_after, on_pid, one_on, pid_search}

-- 1. In the findings of a PID all that is found is on the PID

own_with : (pid : ℕ) (lone : List LonePes) (o : Option LonePes) → ((l : LonePes) → o ≡ Some l → is_on pid l ≡ true) → filter (is_on pid) lone ≡ lone →
    filter (is_on pid) (with_lone lone o) ≡ with_lone lone o
unfolding with_lone
own_with pid lone None on own = own
own_with pid lone (Some l) on own = by (nat_lt (length lone) 256)
  where
    by : (b : Bool) → filter (is_on pid) (if b then lone ++ l ∷ [] else lone) ≡ (if b then lone ++ l ∷ [] else lone)
    by true = filter-append (is_on pid) lone (l ∷ []) ∙ ap₂ (λ (a b : List LonePes). a ++ b) own (one_on pid l (on l refl))
    by false = own

own_found : (pid : ℕ) (s : SearchView) (p : Option ℕ) (stamp : Option PesStamp) → has_pid pid p ≡ true → filter (is_on pid) s.lone ≡ s.lone →
    filter (is_on pid) (with_stamp_if s p stamp).lone ≡ (with_stamp_if s p stamp).lone
unfolding with_stamp_if
own_found pid s None None is own = own
own_found pid s None (Some n) is own = own
own_found pid s (Some q) None is own = own
own_found pid s (Some q) (Some n) is own =
    own_with pid s.lone (lone_at q (lookup (nat_eq q) s.last) n)
    (λ l found. ap (λ (k : ℕ). is_on k l) (sym (eqb-true q pid is)) ∙ on_pid q (lookup (nat_eq q) s.last) n l found) own

own_only : (pid : ℕ) (s : SearchView) (fs : List FindingView) → filter (is_on pid) s.lone ≡ s.lone →
    filter (is_on pid) (search_after s (found_of pid fs)).lone ≡ (search_after s (found_of pid fs)).lone
unfolding search_after
own_only pid s [] own = own
own_only pid s (f ∷ fs) own = by (has_pid pid f.pid) refl (own_only pid (with_finding s f) fs) (own_only pid s fs)
  where
    by : (b : Bool) → has_pid pid f.pid ≡ b →
        (filter (is_on pid) (with_finding s f).lone ≡ (with_finding s f).lone → filter (is_on pid) (search_after (with_finding s f) (found_of pid fs)).lone
        ≡ (search_after (with_finding s f) (found_of pid fs)).lone) →
        (filter (is_on pid) s.lone ≡ s.lone → filter (is_on pid) (search_after s (found_of pid fs)).lone ≡ (search_after s (found_of pid fs)).lone) →
        filter (is_on pid) (search_after s (cond b (f ∷ found_of pid fs) (found_of pid fs))).lone
        ≡ (search_after s (cond b (f ∷ found_of pid fs) (found_of pid fs))).lone
    by true is next rest = next (own_found pid s f.pid (stamp_at f) is own)
    by false is next rest = rest own

stamps_found : (pid : ℕ) (fs : List FindingView) → stamps_on pid (found_of pid fs) ≡ stamps_on pid fs
stamps_found pid [] = refl
stamps_found pid (f ∷ fs) = by (has_pid pid f.pid) refl (stamps_found pid fs)
  where
    by : (b : Bool) → has_pid pid f.pid ≡ b → stamps_on pid (found_of pid fs) ≡ stamps_on pid fs →
        stamps_on pid (cond b (f ∷ found_of pid fs) (found_of pid fs)) ≡ cons_option (if b then stamp_at f else None) (stamps_on pid fs)
    by true is rest =
        let own : stamp_on pid f ≡ stamp_at f = ap (λ (b : Bool). if b then stamp_at f else None) is in
        ap₂ (λ (o : Option PesStamp) (ss : List PesStamp). cons_option o ss) own rest
    by false is rest = rest

-- 2. The same PES packets are found in them

same_found : (findings : List FindingView) (pid : ℕ) → length (all_lone findings) < 256 →
    filter (is_on pid) (all_lone findings) ≡ all_lone (found_of pid findings)
same_found findings pid few =
    let a = pid_search pid no_stamps findings in
    let b = pid_search pid no_stamps (found_of pid findings) in
    let same : a.found ≡ b.found ++ b.rest =
    sym (append-nil a.found) ∙ ap (λ (ls : List LonePes). a.found ++ ls) (sym (a.whole few)) ∙ sym a.split
    ∙ sym (ap (lone_after pid None) (stamps_found pid findings)) ∙ b.split in
    let own : all_lone (found_of pid findings) ≡ b.found = sym (own_only pid no_stamps findings refl) ∙ b.kept in
    let count : length (filter (is_on pid) (all_lone findings)) ≡ length b.found + length b.rest =
    ap (length {A = LonePes}) (a.kept ∙ same) ∙ length-append b.found b.rest in
    let kept = length-filter (is_on pid) (all_lone findings) in
    let most = count_by-le-length (is_on pid) (all_lone findings) in
    let here : length (all_lone (found_of pid findings)) ≡ length b.found = ap (length {A = LonePes}) own in
    let short : length (all_lone (found_of pid findings)) < 256 = omega (arith, few, count, kept, most, here) in
    a.kept ∙ same ∙ ap (λ (ls : List LonePes). b.found ++ ls) (b.whole short) ∙ append-nil b.found ∙ sym own

-- 3. The same ones are damaged

kept_twice : (p : LonePes → Bool) (ls : List LonePes) → filter p (filter p ls) ≡ filter p ls
kept_twice p [] = refl
kept_twice p (l ∷ ls) = by (p l) refl (kept_twice p ls)
  where
    by : (b : Bool) → p l ≡ b → filter p (filter p ls) ≡ filter p ls → filter p (cond b (l ∷ filter p ls) (filter p ls)) ≡ cond b (l ∷ filter p ls) (filter p ls)
    by true is rest = ap₂ (λ (b : Bool) (k : List LonePes). cond b (l ∷ k) k) is rest
    by false is rest = rest

-- a PES packet of the PID
same_judged : (falling : List ℕ) (all : List LonePes) (pid : ℕ) (l : LonePes) → l.pid ≡ pid →
    is_damage falling all l ≡ is_damage falling (filter (is_on pid) all) l
same_judged falling all pid l here =
    let one : filter (is_on l.pid) all ≡ filter (is_on l.pid) (filter (is_on pid) all) =
    ap (λ (k : ℕ). filter (is_on k) all) here ∙ sym (kept_twice (is_on pid) all) ∙ ap (λ (k : ℕ). filter (is_on k) (filter (is_on pid) all)) (sym here) in
    ap (λ (ls : List LonePes). nat_le (length ls) 16 && not (is_falling falling l.pid)) one

same_any : (test : LonePes → Bool) (b : Bool) (l : LonePes) (k m : List LonePes) → list_any test k ≡ list_any test m →
    list_any test (cond b (l ∷ k) k) ≡ list_any test (cond b (l ∷ m) m)
same_any test true l k m same = ap (λ (b : Bool). test l || b) same
same_any test false l k m same = same

none_here : (pid packet : ℕ) (b : Bool) (l : LonePes) (k : List LonePes) → is_on pid l ≡ false →
    list_any (is_at (Some pid) packet) (cond b (l ∷ k) k) ≡ list_any (is_at (Some pid) packet) k
unfolding is_at
none_here pid packet true l k other = rw other refl
none_here pid packet false l k other = refl

same_damage : (falling : List ℕ) (all : List LonePes) (pid packet : ℕ) (ls : List LonePes) →
    list_any (is_at (Some pid) packet) (filter (is_damage falling all) ls)
    ≡ list_any (is_at (Some pid) packet) (filter (is_damage falling (filter (is_on pid) all)) (filter (is_on pid) ls))
same_damage falling all pid packet [] = refl
same_damage falling all pid packet (l ∷ ls) = by (is_on pid l) refl (same_damage falling all pid packet ls)
  where
    by : (b : Bool) → is_on pid l ≡ b → list_any (is_at (Some pid) packet) (filter (is_damage falling all) ls)
        ≡ list_any (is_at (Some pid) packet) (filter (is_damage falling (filter (is_on pid) all)) (filter (is_on pid) ls)) →
        list_any (is_at (Some pid) packet) (cond (is_damage falling all l) (l ∷ filter (is_damage falling all) ls) (filter (is_damage falling all) ls))
        ≡ list_any (is_at (Some pid) packet)
        (filter (is_damage falling (filter (is_on pid) all)) (cond b (l ∷ filter (is_on pid) ls) (filter (is_on pid) ls)))
    by true on rest =
        let whole : List LonePes = filter (is_damage falling all) ls in
        ap (λ (b : Bool). list_any (is_at (Some pid) packet) (cond b (l ∷ whole) whole)) (same_judged falling all pid l (eqb-true l.pid pid on))
        ∙ same_any (is_at (Some pid) packet) (is_damage falling (filter (is_on pid) all) l) l whole
        (filter (is_damage falling (filter (is_on pid) all)) (filter (is_on pid) ls)) rest
    by false on rest = none_here pid packet (is_damage falling all l) l (filter (is_damage falling all) ls) on ∙ rest

same_damaged : (falling : List ℕ) (findings : List FindingView) (pid : ℕ) → length (all_lone findings) < 256 →
    found_of pid (lone_damaged falling findings) ≡ lone_damaged falling (found_of pid findings)
unfolding lone_damaged
same_damaged falling findings pid few =
    let all : List LonePes = all_lone findings in
    own_damage (damage_of falling all) (damage_of falling (filter (is_on pid) all)) pid findings (λ packet. same_damage falling all pid packet all)
    ∙ ap (λ (ls : List LonePes). map (damaged (damage_of falling ls)) (found_of pid findings)) (same_found findings pid few)

pub pid_alone : EachPidAlone
pid_alone falling findings pid few = (same_found findings pid few, same_damaged falling findings pid few)
