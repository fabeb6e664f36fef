-- Each PES packet that is found has stamps that are alone out of order, after a PES packet that is not found
use Rattle.std.proofs.Common.{◌≡◌, ◌∙◌, ℕ, ◌&&◌, ◌++◌, Bool, true, false, true≢false, cond, if◌then◌else◌, nat_eq, Option, Some, None, List, [], ◌∷◌}
use Rattle.std.proofs.Common.{All, filter, map, refl, sym, ap, subst, append_assoc, eqb-true}
use Rattle.std.proofs.lemmas.Bool.{and_from, and_parts, or_from, or_parts}
use Rattle.std.proofs.lemmas.List.Elements.{All-cons, All-head, All-nil, All-tail, filter_passes}
use Rattle.std.proofs.lemmas.List.Folds.{list_any-append}
use Rattle.std.specs.List.{AllByRecursion, IsDistinct, cons_option, list_any}
use Rattle.pid_findings.specs.Views.{FindingView}
use Rattle.stamp_repair.specs.LoneLaws.{EachIsAlone, FoundAlone, IsAlone, are_lone, are_lone_from, stamps_on}
use Rattle.stamp_repair.specs.LoneStamps.{all_lone, is_at, is_last_lone, is_lone, is_on, lone_at, next_last, no_stamps}
use Rattle.stamp_repair.specs.declared.pes_stamps.PesStamp.{PesStamp}
use Rattle.stamp_repair.specs.declared.search.LonePes.{LonePes}
use Rattle.stamp_repair.proofs.FoundStamps.{at, at_own, last_two, lone_of}
use Rattle.stamp_repair.proofs.PidSearch.{apart, cons_append, itself, lone_after, pid_search}

-- 1. Stamps in a row that are alone out of order

and_more : (a b : Bool) → (a && true) ≡ true → b ≡ true → (a && (b && true)) ≡ true
and_more a b is more = and_from a (b && true) (and_parts a true is).0 (ap (λ (c : Bool). c && true) more)

and_rest : (a b c : Bool) → (a && b) ≡ true → (b ≡ true → c ≡ true) → (a && c) ≡ true
and_rest a b c is rest = let parts = and_parts a b is in and_from a c parts.0 (rest parts.1)

one_more : (before stamp last n : PesStamp) (ss : List PesStamp) → is_lone before last n ≡ true → are_lone_from before stamp (ss ++ last ∷ []) ≡ true →
    are_lone_from before stamp ((ss ++ last ∷ []) ++ n ∷ []) ≡ true
unfolding are_lone_from
one_more before stamp last n [] alone all = and_more (is_lone before stamp last) (is_lone before last n) all alone
one_more before stamp last n (s ∷ ss) alone all =
    and_rest (is_lone before stamp s) (are_lone_from before s (ss ++ last ∷ [])) (are_lone_from before s ((ss ++ last ∷ []) ++ n ∷ [])) all
    (one_more before s last n ss alone)

lone_more : (before last n : PesStamp) (between : List PesStamp) → is_lone before last n ≡ true → are_lone before (between ++ last ∷ []) ≡ true →
    are_lone before ((between ++ last ∷ []) ++ n ∷ []) ≡ true
unfolding are_lone are_lone_from
lone_more before last n [] alone all = ap (λ (b : Bool). b && true) alone
lone_more before last n (s ∷ ss) alone all = one_more before s last n ss alone all

-- 2. PES packets that are found among some stamps begin in packets of theirs

abbrev begins : ℕ → List PesStamp → Bool
begins k ss = list_any (λ (s : PesStamp). nat_eq s.packet k) ss

abbrev Within : ℕ → List LonePes → List PesStamp → Type 0
Within pid lone ss = (k : ℕ) → begins k ss ≡ false → at pid k lone ≡ false

within_both : (pid : ℕ) (a b : List LonePes) (xs ys : List PesStamp) → Within pid a xs → Within pid b ys → Within pid (a ++ b) (xs ++ ys)
within_both pid a b xs ys left right k none =
    let parts = or_parts (begins k xs) (begins k ys) (sym (list_any-append (λ (s : PesStamp). nat_eq s.packet k) xs ys) ∙ none) in
    list_any-append (is_at (Some pid) k) a b ∙ or_from (at pid k a) (at pid k b) (left k parts.0) (right k parts.1)

not_there : (pid k : ℕ) (s : PesStamp) → nat_eq s.packet k ≡ false → is_at (Some pid) k (lone_of pid s) ≡ false
unfolding is_at
not_there pid k s other = ap (λ (b : Bool). b && nat_eq s.packet k) (itself pid) ∙ other

within_one : (pid : ℕ) (s : PesStamp) → Within pid (lone_of pid s ∷ []) (s ∷ [])
within_one pid s k none = or_from (is_at (Some pid) k (lone_of pid s)) false (not_there pid k s (or_parts (nat_eq s.packet k) false none).0) refl

one_if : (pid k : ℕ) (c : Bool) (l : LonePes) (rest : List LonePes) → is_at (Some pid) k l ≡ false → at pid k rest ≡ false →
    at pid k (cons_option (if c then Some l else None) rest) ≡ false
one_if pid k true l rest one more = or_from (is_at (Some pid) k l) (at pid k rest) one more
one_if pid k false l rest one more = more

later_within : (pid : ℕ) (b : Option PesStamp) (last : PesStamp) (ss : List PesStamp) → Within pid (lone_after pid (Some (last_two b last)) ss) (last ∷ ss)
unfolding lone_at next_last
later_within pid b last [] k none = refl
later_within pid b last (n ∷ ss) k none =
    let parts = or_parts (nat_eq last.packet k) (begins k (n ∷ ss)) none in
    let b2 : Option PesStamp = if is_last_lone b last n then b else Some last in
    one_if pid k (is_last_lone b last n) (lone_of pid last) (lone_after pid (Some (last_two b2 n)) ss) (not_there pid k last parts.0)
    (later_within pid b2 n ss k parts.1)

-- 3. No other stamp begins in the packet of a stamp

abbrev packets : List PesStamp → List ℕ
packets ss = map (λ (s : PesStamp). s.packet) ss

other_way : (a b : ℕ) → nat_eq a b ≡ false → nat_eq b a ≡ false
other_way a b other = apart b a (λ e. true≢false (sym (itself a) ∙ ap (λ (k : ℕ). nat_eq a k) (sym e) ∙ other))

none_begins : (k : ℕ) (ss : List PesStamp) → AllByRecursion (λ (p : ℕ). nat_eq k p ≡ false) (packets ss) → begins k ss ≡ false
none_begins k [] all = refl
none_begins k (s ∷ ss) all = or_from (nat_eq s.packet k) (begins k ss) (other_way k s.packet all.0) (none_begins k ss all.1)

middle : (k : ℕ) (earlier : List PesStamp) (before : PesStamp) (tail : List PesStamp) →
    AllByRecursion (λ (p : ℕ). nat_eq k p ≡ false) (packets (earlier ++ before ∷ tail)) → nat_eq k before.packet ≡ false
middle k [] before tail all = all.0
middle k (e ∷ es) before tail all = middle k es before tail all.1

no_other : (earlier : List PesStamp) (before : PesStamp) (tail : List PesStamp) → IsDistinct nat_eq (packets (earlier ++ before ∷ tail)) →
    (begins before.packet earlier ≡ false) × (begins before.packet tail ≡ false)
unfolding IsDistinct
no_other [] before tail d = (refl, none_begins before.packet tail d.0)
no_other (e ∷ es) before tail d =
    let rest = no_other es before tail d.1 in
    (or_from (nat_eq e.packet before.packet) (begins before.packet es) (middle e.packet es before tail d.0) rest.0, rest.1)

-- 4. The last two stamps of a PID among all of its stamps, and what is found before them

record Passed (pid : ℕ) (before last : PesStamp) (done : List PesStamp) (lone : List LonePes) : Type 0 where
  earlier : List PesStamp
  between : List PesStamp
  first : List LonePes
  second : List LonePes
  are : done ≡ earlier ++ before ∷ (between ++ last ∷ [])
  found : lone ≡ first ++ second
  passed : are_lone before (between ++ last ∷ []) ≡ true
  first_within : Within pid first earlier
  second_within : Within pid second between

abbrev HasLast : ℕ → Option PesStamp → PesStamp → List PesStamp → List LonePes → Type 0
HasLast pid None last done lone = (done ≡ last ∷ []) × (lone ≡ [])
HasLast pid (Some before) last done lone = Passed pid before last done lone

-- the last stamp is alone out of order
kept_before : (before last n : PesStamp) (ss earlier between : List PesStamp) → ss ≡ earlier ++ before ∷ (between ++ last ∷ []) →
    ss ++ n ∷ [] ≡ earlier ++ before ∷ ((between ++ last ∷ []) ++ n ∷ [])
kept_before before last n ss earlier between are =
    ap (λ (xs : List PesStamp). xs ++ n ∷ []) are ∙ append_assoc earlier (before ∷ (between ++ last ∷ [])) (n ∷ [])

after_lone : (pid : ℕ) (before last n : PesStamp) (done : List PesStamp) (lone : List LonePes) → Passed pid before last done lone →
    is_lone before last n ≡ true → Passed pid before n (done ++ n ∷ []) (lone ++ lone_of pid last ∷ [])
after_lone pid before last n done lone x alone = record {
  earlier = x.earlier;
  between = x.between ++ last ∷ [];
  first = x.first;
  second = x.second ++ lone_of pid last ∷ [];
  are = kept_before before last n done x.earlier x.between x.are;
  found = ap (λ (ls : List LonePes). ls ++ lone_of pid last ∷ []) x.found ∙ append_assoc x.first x.second (lone_of pid last ∷ []);
  passed = lone_more before last n x.between alone x.passed;
  first_within = x.first_within;
  second_within = within_both pid x.second (lone_of pid last ∷ []) x.between (last ∷ []) x.second_within (within_one pid last);
}

-- it is the one before the next
last_before : (before last n : PesStamp) (ss earlier between : List PesStamp) → ss ≡ earlier ++ before ∷ (between ++ last ∷ []) →
    ss ++ n ∷ [] ≡ (earlier ++ before ∷ between) ++ last ∷ ([] ++ n ∷ [])
last_before before last n ss earlier between are =
    ap (λ (xs : List PesStamp). xs ++ n ∷ []) (are ∙ sym (append_assoc earlier (before ∷ between) (last ∷ [])))
    ∙ append_assoc (earlier ++ before ∷ between) (last ∷ []) (n ∷ [])

after_kept : (pid : ℕ) (before last n : PesStamp) (done : List PesStamp) (lone : List LonePes) → Passed pid before last done lone →
    Passed pid last n (done ++ n ∷ []) (lone ++ [])
unfolding are_lone are_lone_from
after_kept pid before last n done lone x = record {
  earlier = x.earlier ++ before ∷ x.between;
  between = [];
  first = x.first ++ x.second;
  second = [];
  are = last_before before last n done x.earlier x.between x.are;
  found = ap (λ (ls : List LonePes). ls ++ []) x.found;
  passed = refl;
  first_within = within_both pid x.first x.second x.earlier (before ∷ x.between) x.first_within
      (λ k none. x.second_within k (or_parts (nat_eq before.packet k) (begins k x.between) none).1);
  second_within = λ k none. refl;
}

after_first : (pid : ℕ) (last n : PesStamp) (done : List PesStamp) (lone : List LonePes) → done ≡ last ∷ [] → lone ≡ [] →
    Passed pid last n (done ++ n ∷ []) (lone ++ [])
unfolding are_lone are_lone_from
after_first pid last n done lone are none = record {
  earlier = [];
  between = [];
  first = [];
  second = [];
  are = ap (λ (xs : List PesStamp). xs ++ n ∷ []) are;
  found = ap (λ (ls : List LonePes). ls ++ []) none;
  passed = refl;
  first_within = λ k nothing. refl;
  second_within = λ k nothing. refl;
}

abbrev lone_if : ℕ → Option PesStamp → PesStamp → PesStamp → Option LonePes
lone_if pid b last n = if is_last_lone b last n then Some (lone_of pid last) else None

abbrev before_next : Option PesStamp → PesStamp → PesStamp → Option PesStamp
before_next b last n = if is_last_lone b last n then b else Some last

after_next : (pid : ℕ) (b : Option PesStamp) (last n : PesStamp) (done : List PesStamp) (lone : List LonePes) → HasLast pid b last done lone →
    HasLast pid (before_next b last n) n (done ++ n ∷ []) (lone ++ cons_option (lone_if pid b last n) [])
unfolding is_last_lone
after_next pid None last n done lone x = after_first pid last n done lone x.0 x.1
after_next pid (Some before) last n done lone x = by (is_lone before last n) refl
  where
    by : (c : Bool) → is_lone before last n ≡ c →
        HasLast pid (if c then Some before else Some last) n (done ++ n ∷ []) (lone ++ cons_option (if c then Some (lone_of pid last) else None) [])
    by true alone = after_lone pid before last n done lone x alone
    by false kept = after_kept pid before last n done lone x

-- 5. Each stamp that is found, among all stamps of the PID and all that is found of them

record Kept (pid : ℕ) (stamps : List PesStamp) (lone : List LonePes) (packet : ℕ) : Type 0 where
  alone : IsAlone stamps packet
  kept : IsDistinct nat_eq (packets stamps) → at pid alone.before.packet lone ≡ false

abbrev AreKept : ℕ → List PesStamp → List LonePes → List LonePes → Type 0
AreKept pid stamps whole lone = All (λ (l : LonePes). Kept pid stamps whole l.packet) lone

whole_is : (done earlier between later : List PesStamp) (before last n : PesStamp) → done ≡ earlier ++ before ∷ (between ++ last ∷ []) →
    done ++ n ∷ later ≡ earlier ++ before ∷ (between ++ last ∷ n ∷ later)
whole_is done earlier between later before last n are =
    ap (λ (xs : List PesStamp). xs ++ n ∷ later) are ∙ append_assoc earlier (before ∷ (between ++ last ∷ [])) (n ∷ later)
    ∙ ap (λ (xs : List PesStamp). earlier ++ before ∷ xs) (append_assoc between (last ∷ []) (n ∷ later))

found_here : (pid : ℕ) (before last n : PesStamp) (done : List PesStamp) (lone : List LonePes) (later : List PesStamp) → Passed pid before last done lone →
    is_lone before last n ≡ true →
    Kept pid (done ++ n ∷ later) (lone ++ lone_after pid (Some (last_two (Some before) last)) (n ∷ later)) last.packet
found_here pid before last n done lone later x alone = record {
  alone = record {
    earlier = x.earlier;
    before = before;
    between = x.between;
    stamp = last;
    next = n;
    later = later;
    are = whole_is done x.earlier x.between later before last n x.are;
    packet_is = refl;
    passed = x.passed;
    alone = alone;
  };
  kept = λ d.
      let rest : List LonePes = lone_after pid (Some (last_two (Some before) last)) (n ∷ later) in
      let tail : List PesStamp = x.between ++ last ∷ n ∷ later in
      let distinct : IsDistinct nat_eq (packets (x.earlier ++ before ∷ tail)) =
      subst (λ (ss : List PesStamp). IsDistinct nat_eq (packets ss)) (whole_is done x.earlier x.between later before last n x.are) d in
      let none = no_other x.earlier before tail distinct in
      let split : lone ++ rest ≡ x.first ++ (x.second ++ rest) =
      ap (λ (ls : List LonePes). ls ++ rest) x.found ∙ append_assoc x.first x.second rest in
      ap (at pid before.packet) split ∙ list_any-append (is_at (Some pid) before.packet) x.first (x.second ++ rest)
      ∙ or_from (at pid before.packet x.first) (at pid before.packet (x.second ++ rest)) (x.first_within before.packet none.0)
      (within_both pid x.second rest x.between (last ∷ n ∷ later) x.second_within (later_within pid (Some before) last (n ∷ later)) before.packet none.1);
}

first_if : (pid : ℕ) (b : Option PesStamp) (last n : PesStamp) (done : List PesStamp) (lone : List LonePes) (later : List PesStamp) →
    HasLast pid b last done lone → is_last_lone b last n ≡ true →
    Kept pid (done ++ n ∷ later) (lone ++ lone_after pid (Some (last_two b last)) (n ∷ later)) last.packet
unfolding is_last_lone
first_if pid None last n done lone later x alone = absurd cc
first_if pid (Some before) last n done lone later x alone = found_here pid before last n done lone later x alone

all_if : (P : LonePes → Type 0) (c : Bool) (l : LonePes) (rest : List LonePes) → (c ≡ true → P l) → All P rest →
    All P (cons_option (if c then Some l else None) rest)
all_if P true l rest one all = All-cons P l rest (one refl) all
all_if P false l rest one all = all

each_after : (pid : ℕ) (b : Option PesStamp) (last : PesStamp) (done : List PesStamp) (lone : List LonePes) (ss : List PesStamp) → HasLast pid b last done lone →
    AreKept pid (done ++ ss) (lone ++ lone_after pid (Some (last_two b last)) ss) (lone_after pid (Some (last_two b last)) ss)
unfolding lone_at next_last
each_after pid b last done lone [] x = All-nil (λ (l : LonePes). Kept pid (done ++ []) (lone ++ []) l.packet)
each_after pid b last done lone (n ∷ ss) x =
    let o : Option LonePes = lone_if pid b last n in
    let rest : List LonePes = lone_after pid (Some (last_two (before_next b last n) n)) ss in
    let more = each_after pid (before_next b last n) n (done ++ n ∷ []) (lone ++ cons_option o []) ss (after_next pid b last n done lone x) in
    let same : (lone ++ cons_option o []) ++ rest ≡ lone ++ cons_option o rest =
    append_assoc lone (cons_option o []) rest ∙ ap (λ (ls : List LonePes). lone ++ ls) (sym (cons_append o [] rest)) in
    all_if (λ (l : LonePes). Kept pid (done ++ n ∷ ss) (lone ++ cons_option o rest) l.packet) (is_last_lone b last n) (lone_of pid last) rest
    (first_if pid b last n done lone ss x)
    (subst (λ (ls : List LonePes). AreKept pid (done ++ n ∷ ss) ls rest) same
    (subst (λ (xs : List PesStamp). AreKept pid xs ((lone ++ cons_option o []) ++ rest) rest) (append_assoc done (n ∷ []) ss) more))

each_among : (pid : ℕ) (ss : List PesStamp) → AreKept pid ss (lone_after pid None ss) (lone_after pid None ss)
unfolding lone_at next_last
each_among pid [] = All-nil (λ (l : LonePes). Kept pid [] [] l.packet)
each_among pid (s ∷ ss) = each_after pid None s (s ∷ []) [] ss (refl, refl)

-- 6. All that is found

all_front : (P : LonePes → Type 0) (a b : List LonePes) → All P (a ++ b) → All P a
all_front P [] b all = All-nil P
all_front P (l ∷ a) b all = All-cons P l a (All-head P l (a ++ b) all) (all_front P a b (All-tail P l (a ++ b) all))

not_front : (pid packet : ℕ) (a b : List LonePes) → at pid packet (a ++ b) ≡ false → at pid packet a ≡ false
not_front pid packet a b none = (or_parts (at pid packet a) (at pid packet b) (sym (list_any-append (is_at (Some pid) packet) a b) ∙ none)).0

all_pids : (P : LonePes → Type 0) (ls : List LonePes) → ((pid : ℕ) → All P (filter (is_on pid) ls)) → All P ls
all_pids P [] each = All-nil P
all_pids P (l ∷ ls) each =
    All-cons P l ls
    (All-head P l (filter (is_on l.pid) ls)
    (subst (λ (b : Bool). All P (cond b (l ∷ filter (is_on l.pid) ls) (filter (is_on l.pid) ls))) (itself l.pid) (each l.pid)))
    (all_pids P ls (λ pid. without (is_on pid l) (filter (is_on pid) ls) (each pid)))
  where
    without : (b : Bool) (rest : List LonePes) → All P (cond b (l ∷ rest) rest) → All P rest
    without true rest all = All-tail P l rest all
    without false rest all = all

found_alone : (findings : List FindingView) (pid packet : ℕ) (whole : List LonePes) → ((k : ℕ) → at pid k whole ≡ false → at pid k (all_lone findings) ≡ false) →
    Kept pid (stamps_on pid findings) whole packet → FoundAlone findings pid packet
found_alone findings pid packet whole fewer x = record { alone = x.alone; kept = λ d. fewer x.alone.before.packet (x.kept d) }

found_on : (findings : List FindingView) (pid : ℕ) → All (λ (l : LonePes). FoundAlone findings l.pid l.packet) (filter (is_on pid) (all_lone findings))
found_on findings pid =
    let x = pid_search pid no_stamps findings in
    let ss : List PesStamp = stamps_on pid findings in
    let whole : List LonePes = lone_after pid None ss in
    let on : List LonePes = filter (is_on pid) (all_lone findings) in
    let each : AreKept pid ss whole (x.found ++ x.rest) = subst (AreKept pid ss whole) x.split (each_among pid ss) in
    let all : AreKept pid ss whole on =
    subst (AreKept pid ss whole) (sym x.kept) (all_front (λ (l : LonePes). Kept pid ss whole l.packet) x.found x.rest each) in
    let fewer : (k : ℕ) → at pid k whole ≡ false → at pid k (all_lone findings) ≡ false =
    λ k none. at_own pid k (all_lone findings) ∙ ap (at pid k) x.kept ∙ not_front pid k x.found x.rest (ap (at pid k) (sym x.split) ∙ none) in
    all_on on all (filter_passes (is_on pid) (all_lone findings)) fewer
  where
    all_on : (lone : List LonePes) → AreKept pid (stamps_on pid findings) (lone_after pid None (stamps_on pid findings)) lone →
        All (λ (l : LonePes). is_on pid l ≡ true) lone →
        ((k : ℕ) → at pid k (lone_after pid None (stamps_on pid findings)) ≡ false → at pid k (all_lone findings) ≡ false) →
        All (λ (l : LonePes). FoundAlone findings l.pid l.packet) lone
    all_on [] all on fewer = All-nil (λ (l : LonePes). FoundAlone findings l.pid l.packet)
    all_on (l ∷ ls) all on fewer =
        let whole : List LonePes = lone_after pid None (stamps_on pid findings) in
        All-cons (λ (l : LonePes). FoundAlone findings l.pid l.packet) l ls
        (subst (λ (p : ℕ). FoundAlone findings p l.packet) (sym (eqb-true l.pid pid (All-head (λ (l : LonePes). is_on pid l ≡ true) l ls on)))
        (found_alone findings pid l.packet whole fewer
        (All-head (λ (l : LonePes). Kept pid (stamps_on pid findings) whole l.packet) l ls all)))
        (all_on ls (All-tail (λ (l : LonePes). Kept pid (stamps_on pid findings) whole l.packet) l ls all)
        (All-tail (λ (l : LonePes). is_on pid l ≡ true) l ls on) fewer)

pub each_alone : EachIsAlone
each_alone findings = all_pids (λ (l : LonePes). FoundAlone findings l.pid l.packet) (all_lone findings) (found_on findings)
