-- A PES packet whose stamps are alone out of order is found
use Rattle.std.proofs.Common.{◌≡◌, ◌∙◌, ◌<◌, ℕ, ◌||◌, ◌++◌, Bool, true, false, cond, if◌then◌else◌, Option, Some, None, List, [], ◌∷◌, filter, length}
use Rattle.std.proofs.Common.{refl, sym, ap, append-nil, true≢false}
use Rattle.std.proofs.lemmas.Bool.{and_parts, or_parts, or_right}
use Rattle.std.specs.List.{cons_option, list_any}
use Rattle.pid_findings.specs.Views.{FindingView}
use Rattle.stamp_repair.specs.LoneLaws.{LoneIsFound, are_lone, are_lone_from, is_found, stamps_on}
use Rattle.stamp_repair.specs.LoneStamps.{all_lone, is_at, is_last_lone, is_lone, is_on, lone_at, next_last, no_stamps}
use Rattle.stamp_repair.specs.declared.pes_stamps.PesStamp.{PesStamp}
use Rattle.stamp_repair.specs.declared.search.LastStamps.{LastStamps}
use Rattle.stamp_repair.specs.declared.search.LonePes.{LonePes}
use Rattle.stamp_repair.proofs.PidSearch.{itself, lone_after, pid_search}

-- 1. Among the stamps of a PID

abbrev pub at : ℕ → ℕ → List LonePes → Bool
at pid packet lone = list_any (is_at (Some pid) packet) lone

abbrev pub last_two : Option PesStamp → PesStamp → LastStamps
last_two before last = record { before = before; last = last }

abbrev pub lone_of : ℕ → PesStamp → LonePes
lone_of pid s = record { pid = pid; packet = s.packet }

here : (pid : ℕ) (s : PesStamp) → is_at (Some pid) s.packet (lone_of pid s) ≡ true
unfolding is_at
here pid s = rw (itself pid) (rw (itself s.packet) refl)

at_more : (pid packet : ℕ) (o : Option LonePes) (lone : List LonePes) → at pid packet lone ≡ true → at pid packet (cons_option o lone) ≡ true
at_more pid packet None lone is = is
at_more pid packet (Some l) lone is = or_right (is_at (Some pid) packet l) (at pid packet lone) is

not_rest : (pid packet : ℕ) (o : Option LonePes) (lone : List LonePes) → at pid packet (cons_option o lone) ≡ false → at pid packet lone ≡ false
not_rest pid packet None lone is = is
not_rest pid packet (Some l) lone is = (or_parts (is_at (Some pid) packet l) (at pid packet lone) is).1

-- a stamp that is alone out of order, after a stamp before it
last_found : (pid : ℕ) (before stamp next : PesStamp) (later : List PesStamp) → is_lone before stamp next ≡ true →
    at pid stamp.packet (lone_after pid (Some (last_two (Some before) stamp)) (next ∷ later)) ≡ true
unfolding lone_at is_last_lone
last_found pid before stamp next later alone =
    let rest : List LonePes = lone_after pid (Some (next_last (Some (last_two (Some before) stamp)) next)) later in
    ap (λ (b : Bool). at pid stamp.packet (cons_option (if b then Some (lone_of pid stamp) else None) rest)) alone
    ∙ ap (λ (b : Bool). b || at pid stamp.packet rest) (here pid stamp)

-- the stamp before such a stamp stays the one before the next
stays_before : (before stamp next : PesStamp) → is_lone before stamp next ≡ true →
    next_last (Some (last_two (Some before) stamp)) next ≡ last_two (Some before) next
unfolding next_last is_last_lone
stays_before before stamp next alone = ap (λ (b : Bool). last_two (if b then Some before else Some stamp) next) alone

passes : (pid : ℕ) (before first : PesStamp) (between : List PesStamp) (stamp next : PesStamp) (later : List PesStamp) →
    are_lone_from before first (between ++ stamp ∷ []) ≡ true → is_lone before stamp next ≡ true →
    at pid stamp.packet (lone_after pid (Some (last_two (Some before) first)) (between ++ stamp ∷ next ∷ later)) ≡ true
unfolding are_lone_from
passes pid before first [] stamp next later passed alone =
    let both = and_parts (is_lone before first stamp) true passed in
    let o : Option LonePes = lone_at pid (Some (last_two (Some before) first)) stamp in
    ap (λ (l : LastStamps). at pid stamp.packet (cons_option o (lone_after pid (Some l) (next ∷ later)))) (stays_before before first stamp both.0)
    ∙ at_more pid stamp.packet o (lone_after pid (Some (last_two (Some before) stamp)) (next ∷ later)) (last_found pid before stamp next later alone)
passes pid before first (m ∷ ms) stamp next later passed alone =
    let both = and_parts (is_lone before first m) (are_lone_from before m (ms ++ stamp ∷ [])) passed in
    let rest : List PesStamp = ms ++ stamp ∷ next ∷ later in
    let o : Option LonePes = lone_at pid (Some (last_two (Some before) first)) m in
    ap (λ (l : LastStamps). at pid stamp.packet (cons_option o (lone_after pid (Some l) rest))) (stays_before before first m both.0)
    ∙ at_more pid stamp.packet o (lone_after pid (Some (last_two (Some before) m)) rest) (passes pid before m ms stamp next later both.1 alone)

-- a stamp that is not found is the one before the next
kept_last : (pid : ℕ) (b : Option PesStamp) (before first : PesStamp) (rest : List PesStamp) →
    at pid before.packet (lone_after pid (Some (last_two b before)) (first ∷ rest)) ≡ false → is_last_lone b before first ≡ false
unfolding lone_at
kept_last pid b before first rest none = by (is_last_lone b before first) none
  where
    after : List LonePes
    after = lone_after pid (Some (next_last (Some (last_two b before)) first)) rest

    by : (c : Bool) → at pid before.packet (cons_option (if c then Some (lone_of pid before) else None) after) ≡ false → c ≡ false
    by true is = absurd (true≢false (sym (ap (λ (d : Bool). d || at pid before.packet after) (here pid before)) ∙ is))
    by false is = refl

found_next : (pid : ℕ) (b : Option PesStamp) (before first : PesStamp) (rest : List PesStamp) (packet : ℕ) → is_last_lone b before first ≡ false →
    at pid packet (lone_after pid (Some (last_two (Some before) first)) rest) ≡ true →
    at pid packet (lone_after pid (Some (last_two b before)) (first ∷ rest)) ≡ true
unfolding next_last
found_next pid b before first rest packet kept is =
    let o : Option LonePes = lone_at pid (Some (last_two b before)) first in
    ap (λ (c : Bool). at pid packet (cons_option o (lone_after pid (Some (last_two (if c then b else Some before) first)) rest))) kept
    ∙ at_more pid packet o (lone_after pid (Some (last_two (Some before) first)) rest) is

found_after : (pid : ℕ) (b : Option PesStamp) (before : PesStamp) (between : List PesStamp) (stamp next : PesStamp) (later : List PesStamp) →
    are_lone before (between ++ stamp ∷ []) ≡ true → is_lone before stamp next ≡ true →
    at pid before.packet (lone_after pid (Some (last_two b before)) (between ++ stamp ∷ next ∷ later)) ≡ false →
    at pid stamp.packet (lone_after pid (Some (last_two b before)) (between ++ stamp ∷ next ∷ later)) ≡ true
unfolding are_lone
found_after pid b before [] stamp next later passed alone none =
    found_next pid b before stamp (next ∷ later) stamp.packet (kept_last pid b before stamp (next ∷ later) none) (last_found pid before stamp next later alone)
found_after pid b before (m ∷ ms) stamp next later passed alone none =
    let rest : List PesStamp = ms ++ stamp ∷ next ∷ later in
    found_next pid b before m rest stamp.packet (kept_last pid b before m rest none) (passes pid before m ms stamp next later passed alone)

abbrev before_of : Option LastStamps → PesStamp → Option PesStamp
before_of last next = (next_last last next).before

last_is : (last : Option LastStamps) (next : PesStamp) → next_last last next ≡ last_two (before_of last next) next
unfolding next_last
last_is None next = refl
last_is (Some l) next = refl

found_among : (pid : ℕ) (last : Option LastStamps) (earlier : List PesStamp) (before : PesStamp) (between : List PesStamp) (stamp next : PesStamp)
    (later : List PesStamp) → are_lone before (between ++ stamp ∷ []) ≡ true → is_lone before stamp next ≡ true →
    at pid before.packet (lone_after pid last (earlier ++ before ∷ (between ++ stamp ∷ next ∷ later))) ≡ false →
    at pid stamp.packet (lone_after pid last (earlier ++ before ∷ (between ++ stamp ∷ next ∷ later))) ≡ true
found_among pid last [] before between stamp next later passed alone none =
    let rest : List PesStamp = between ++ stamp ∷ next ∷ later in
    let after : List LonePes = lone_after pid (Some (next_last last before)) rest in
    let two : List LonePes = lone_after pid (Some (last_two (before_of last before) before)) rest in
    let same : after ≡ two = ap (λ (l : LastStamps). lone_after pid (Some l) rest) (last_is last before) in
    at_more pid stamp.packet (lone_at pid last before) after
    (ap (at pid stamp.packet) same
    ∙ found_after pid (before_of last before) before between stamp next later passed alone
    (ap (at pid before.packet) (sym same) ∙ not_rest pid before.packet (lone_at pid last before) after none))
found_among pid last (e ∷ es) before between stamp next later passed alone none =
    let rest : List PesStamp = es ++ before ∷ (between ++ stamp ∷ next ∷ later) in
    let after : List LonePes = lone_after pid (Some (next_last last e)) rest in
    at_more pid stamp.packet (lone_at pid last e) after
    (found_among pid (Some (next_last last e)) es before between stamp next later passed alone
    (not_rest pid before.packet (lone_at pid last e) after none))

-- 2. Among all that is found

at_other : (pid packet : ℕ) (l : LonePes) → is_on pid l ≡ false → is_at (Some pid) packet l ≡ false
unfolding is_at
at_other pid packet l other = rw other refl

pub at_own : (pid packet : ℕ) (lone : List LonePes) → at pid packet lone ≡ at pid packet (filter (is_on pid) lone)
at_own pid packet [] = refl
at_own pid packet (l ∷ ls) = by (is_on pid l) refl (at_own pid packet ls)
  where
    by : (b : Bool) → is_on pid l ≡ b → at pid packet ls ≡ at pid packet (filter (is_on pid) ls) →
        at pid packet (l ∷ ls) ≡ at pid packet (cond b (l ∷ filter (is_on pid) ls) (filter (is_on pid) ls))
    by true is rest = ap (λ (b : Bool). is_at (Some pid) packet l || b) rest
    by false is rest = ap (λ (b : Bool). b || at pid packet ls) (at_other pid packet l is) ∙ rest

-- what is found on a PID, if fewer than 256 are found in all
found_on : (findings : List FindingView) (pid packet : ℕ) → length (all_lone findings) < 256 →
    is_found findings pid packet ≡ at pid packet (lone_after pid None (stamps_on pid findings))
found_on findings pid packet few =
    let x = pid_search pid no_stamps findings in
    let own : filter (is_on pid) (all_lone findings) ≡ lone_after pid None (stamps_on pid findings) =
    x.kept ∙ sym (append-nil x.found) ∙ ap (λ (ls : List LonePes). x.found ++ ls) (sym (x.whole few)) ∙ sym x.split in
    at_own pid packet (all_lone findings) ∙ ap (at pid packet) own

pub lone_found : LoneIsFound
lone_found findings pid packet lone few none =
    let whole : List PesStamp = lone.earlier ++ lone.before ∷ (lone.between ++ lone.stamp ∷ lone.next ∷ lone.later) in
    let not_before : at pid lone.before.packet (lone_after pid None whole) ≡ false =
    ap (λ (ss : List PesStamp). at pid lone.before.packet (lone_after pid None ss)) (sym lone.are)
    ∙ sym (found_on findings pid lone.before.packet few) ∙ none in
    found_on findings pid packet few
    ∙ ap (λ (ss : List PesStamp). at pid packet (lone_after pid None ss)) lone.are
    ∙ ap (λ (k : ℕ). at pid k (lone_after pid None whole)) (sym lone.packet_is)
    ∙ found_among pid None lone.earlier lone.before lone.between lone.stamp lone.next lone.later lone.passed lone.alone not_before
