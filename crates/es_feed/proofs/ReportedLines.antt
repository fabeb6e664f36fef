-- The lines that are written about the items that are fed
use Rattle.std.proofs.Common.{◌≡◌, ◌≢◌, ◌<◌, ◌≤◌, ◌+◌, ◌==◌, ℕ, Bool, true, false, List, [], ◌∷◌, ◌++◌, length, drop, get_or, Option, Some, None, Result, Ok, Err, refl, sym}
use Rattle.std.proofs.Common.{ap, ◌∙◌, subst, if◌then◌else◌, ne_eqb}
use Rattle.std.specs.Prelude.{◌||◌}
use Rattle.std.specs.List.{flat_map, list_any}
use Rattle.std.proofs.lemmas.List.{append_assoc, append-nil, at_drop_more, drop_all}
use Rattle.devices.specs.Devices.{Port, between}
use Rattle.devices.specs.Lines.{Reports, ReportsAll}
use Rattle.devices.proofs.ReportedTexts.{reported_all, reported_more, reported_none}
use Rattle.pes_packet.specs.AccessUnits.{AccessUnit}
use Rattle.fed_streams.specs.declared.feed_fault.FeedFault.{FeedFault}
use Rattle.fed_streams.specs.Feeding.{Fed}
use Rattle.es_feed.specs.FedLines.{fault_line, pid_at}
use Rattle.es_feed.specs.EachStream.{has_fault, have_fault}
use Rattle.es_feed.specs.StreamLines.{LinesView, after_lines, after_one, change_at, change_line, change_lines, fall_lines}
use Rattle.es_feed.specs.StreamLines.{fault_lines, fell_at, has_line, have_line, is_short_fall, lines_from, lines_of}
use Rattle.es_feed.specs.StreamLines.{unordered_line}
use Rattle.es_feed.specs.declared.stops.StopChange.{StopChange}

-- 1. One item after another

or_assoc : (a b c : Bool) → (a || (b || c)) ≡ ((a || b) || c)
or_assoc true b c = refl
or_assoc false b c = refl

or_false : (b : Bool) → (b || false) ≡ b
or_false true = refl
or_false false = refl

pub or_true : (b : Bool) → (b || true) ≡ true
or_true true = refl
or_true false = refl

-- The result in the form that a branch gives
pub joined_true : (found reported all : Bool) → reported ≡ true → all ≡ true → all ≡ (found || reported)
joined_true found reported all t e = e ∙ sym (or_true found) ∙ ap (λ (x : Bool). found || x) (sym t)

pub joined_false : (found reported all : Bool) → reported ≡ false → all ≡ found → all ≡ (found || reported)
joined_false found reported all t e = e ∙ sym (or_false found) ∙ ap (λ (x : Bool). found || x) (sym t)

pub any_append : {T : Type 0} (f : T → Bool) (xs ys : List T) → list_any f (xs ++ ys) ≡ (list_any f xs || list_any f ys)
any_append f [] ys = refl
any_append f (x ∷ xs) ys = ap (λ (b : Bool). f x || b) (any_append f xs ys) ∙ or_assoc (f x) (list_any f xs) (list_any f ys)

pub flat_append : {T U : Type 0} (f : T → List U) (xs ys : List T) → flat_map f (xs ++ ys) ≡ flat_map f xs ++ flat_map f ys
flat_append f [] ys = refl
flat_append {U = U} f (x ∷ xs) ys = ap (λ (zs : List U). f x ++ zs) (flat_append f xs ys) ∙ sym (append_assoc (f x) (flat_map f xs) (flat_map f ys))

-- 2. The line of a unit that falls

reported_one : (before after : Port) (text : List ℕ) → Reports (between before after) text → ReportsAll before after (text ∷ [])
reported_one before after text r = reported_more before before after [] text (reported_none before) r

pub fall_none : (port : Port) (fell pid : ℕ) (fault : FeedFault) → fell ≡ 255 → ReportsAll port port (fall_lines fell pid fault)
unfolding fall_lines
fall_none port fell pid fault e = subst (λ (n : ℕ). ReportsAll port port (fall_lines n pid fault)) (sym e) (reported_none port)

pub fall_own : (before after : Port) (fell pid : ℕ) (fault : FeedFault) → fell ≡ 0 → Reports (between before after) (fault_line pid fault) →
    ReportsAll before after (fall_lines fell pid fault)
unfolding fall_lines
fall_own before after fell pid fault e r =
    subst (λ (n : ℕ). ReportsAll before after (fall_lines n pid fault)) (sym e) (reported_one before after (fault_line pid fault) r)

-- Neither of two tests is true.
neither : (before after : Port) (a b : Bool) (x y z : List (List ℕ)) → a ≡ false → b ≡ false → ReportsAll before after z →
    ReportsAll before after (if a then x else (if b then y else z))
neither before after false false x y z e f r = r
neither before after false true x y z e f r = absurd cc
neither before after true b x y z e f r = absurd cc

pub fall_unordered : (before after : Port) (fell pid : ℕ) (fault : FeedFault) → fell ≢ 0 → fell ≢ 255 → Reports (between before after) (unordered_line pid) →
    ReportsAll before after (fall_lines fell pid fault)
unfolding fall_lines
fall_unordered before after fell pid fault own none r =
    neither before after (fell == 0) (fell == 255) (fault_line pid fault ∷ []) [] (unordered_line pid ∷ []) (ne_eqb fell 0 own) (ne_eqb fell 255 none)
    (reported_one before after (unordered_line pid) r)

-- A test in the lines of a fault
by_test : (before after : Port) (a t : Bool) (x y : List (List ℕ)) → a ≡ t → ReportsAll before after (if t then x else y) →
    ReportsAll before after (if a then x else y)
by_test before after a t x y e r = subst (λ (b : Bool). ReportsAll before after (if b then x else y)) (sym e) r

pub fault_falls : (before after : Port) (fell pid : ℕ) (fault : FeedFault) → is_short_fall fault ≡ true → ReportsAll before after (fall_lines fell pid fault) →
    ReportsAll before after (fault_lines fell pid fault)
unfolding fault_lines
fault_falls before after fell pid fault e r =
    by_test before after (is_short_fall fault) true (fall_lines fell pid fault) (fault_line pid fault ∷ []) e r

pub fault_other : (before after : Port) (fell pid : ℕ) (fault : FeedFault) → is_short_fall fault ≡ false →
    Reports (between before after) (fault_line pid fault) →
    ReportsAll before after (fault_lines fell pid fault)
unfolding fault_lines
fault_other before after fell pid fault e r =
    by_test before after (is_short_fall fault) false (fall_lines fell pid fault) (fault_line pid fault ∷ []) e
    (reported_one before after (fault_line pid fault) r)

-- 3. The lines of a record

pub no_change : (pids : List ℕ) (n : ℕ) (port : Port) (change : Option StopChange) → change ≡ None → ReportsAll port port (change_lines pids n change)
unfolding change_lines
no_change pids n port change is = subst (λ (x : Option StopChange). ReportsAll port port (change_lines pids n x)) (sym is) (reported_none port)

pub one_change : (pids : List ℕ) (n : ℕ) (before after : Port) (change : Option StopChange) (c : StopChange) → change ≡ Some c →
    Reports (between before after) (change_line pids n c) → ReportsAll before after (change_lines pids n change)
unfolding change_lines
one_change pids n before after change c is r =
    subst (λ (x : Option StopChange). ReportsAll before after (change_lines pids n x)) (sym is) (reported_one before after (change_line pids n c) r)

pub unit_lines : (s : LinesView) (before after : Port) (one : Fed) (u : AccessUnit) → one.1 ≡ Ok u →
    ReportsAll before after (change_lines s.pids one.0 (change_at s one.0 u.dts)) → ReportsAll before after (lines_of s one)
unfolding lines_of
unit_lines s before after one u is r =
    subst (λ (x : Result AccessUnit FeedFault). ReportsAll before after (lines_of s (one.0, x))) (sym is) r

pub fault_has : (s : LinesView) (before after : Port) (one : Fed) (fault : FeedFault) → one.1 ≡ Err fault →
    ReportsAll before after (fault_lines (fell_at s one.0) (pid_at s.pids one.0) fault) → ReportsAll before after (lines_of s one)
unfolding lines_of
fault_has s before after one fault is r =
    subst (λ (x : Result AccessUnit FeedFault). ReportsAll before after (lines_of s (one.0, x))) (sym is) r

-- 4. Records one after another

-- The lines of the entries before entry i are written, and so the units of the streams fell.
pub record ReportsFront (first : LinesView) (old now : Port) (s : LinesView) (found : Bool) (fed : List Fed) (i : ℕ) : Type 0 where
  pub texts : List (List ℕ)
  pub reports_all : ReportsAll old now texts
  pub left : texts ++ lines_from s (drop i fed) ≡ lines_from first fed
  pub state : after_lines s (drop i fed) ≡ after_lines first fed
  pub faulty : (found || have_line s (drop i fed)) ≡ have_line first fed

pub front_none : (first : LinesView) (port : Port) (fed : List Fed) → ReportsFront first port port first false fed 0
front_none first port fed = record { texts = []; reports_all = reported_none port; left = refl; state = refl; faulty = refl }

any_step : (s : LinesView) (fed : List Fed) (i : ℕ) (one : Fed) → i < length fed → one ≡ get_or fed i one →
    have_line s (drop i fed) ≡ (has_line s one || have_line (after_one s one) (drop (i + 1) fed))
unfolding have_line
any_step s fed i one h e =
    at_drop_more (have_line s) fed i one h ∙ ap (λ (x : Fed). has_line s x || have_line (after_one s x) (drop (i + 1) fed)) (sym e)

lines_step : (s : LinesView) (fed : List Fed) (i : ℕ) (one : Fed) → i < length fed → one ≡ get_or fed i one →
    lines_from s (drop i fed) ≡ lines_of s one ++ lines_from (after_one s one) (drop (i + 1) fed)
unfolding lines_from
lines_step s fed i one h e =
    at_drop_more (lines_from s) fed i one h
    ∙ ap (λ (x : Fed). lines_of s x ++ lines_from (after_one s x) (drop (i + 1) fed)) (sym e)

state_step : (s : LinesView) (fed : List Fed) (i : ℕ) (one : Fed) → i < length fed → one ≡ get_or fed i one →
    after_lines s (drop i fed) ≡ after_lines (after_one s one) (drop (i + 1) fed)
unfolding after_lines
state_step s fed i one h e =
    at_drop_more (after_lines s) fed i one h ∙ ap (λ (x : Fed). after_lines (after_one s x) (drop (i + 1) fed)) (sym e)

front_next : (first : LinesView) (old mid new : Port) (s : LinesView) (found reported all : Bool) (fed : List Fed) (i : ℕ) (one : Fed) → i < length fed →
    one ≡ get_or fed i one →
    ReportsFront first old mid s found fed i → ReportsAll mid new (lines_of s one) → reported ≡ has_line s one →
    all ≡ (found || reported) →
    ReportsFront first old new (after_one s one) all fed (i + 1)
front_next first old mid new s found reported all fed i one h e so t is o = record {
  texts = so.texts ++ lines_of s one;
  reports_all = reported_all old mid new so.texts (lines_of s one) so.reports_all t;
  left = append_assoc so.texts (lines_of s one) (lines_from (after_one s one) (drop (i + 1) fed))
      ∙ ap (λ (x : List (List ℕ)). so.texts ++ x) (sym (lines_step s fed i one h e)) ∙ so.left;
  state = sym (state_step s fed i one h e) ∙ so.state;
  faulty = ap (λ (x : Bool). x || have_line (after_one s one) (drop (i + 1) fed)) (o ∙ ap (λ (x : Bool). found || x) is)
      ∙ sym (or_assoc found (has_line s one) (have_line (after_one s one) (drop (i + 1) fed)))
      ∙ ap (λ (x : Bool). found || x) (sym (any_step s fed i one h e)) ∙ so.faulty;
}

pub front_more : (first : LinesView) (old mid new : Port) (s t : LinesView) (found reported all : Bool) (fed : List Fed) (i : ℕ) (one : Fed) → i < length fed →
    one ≡ get_or fed i one →
    ReportsFront first old mid s found fed i → ReportsAll mid new (lines_of s one) → reported ≡ has_line s one →
    all ≡ (found || reported) → t ≡ after_one s one →
    ReportsFront first old new t all fed (i + 1)
front_more first old mid new s t found reported all fed i one h e so r is o next =
    subst (λ (v : LinesView). ReportsFront first old new v all fed (i + 1)) (sym next)
    (front_next first old mid new s found reported all fed i one h e so r is o)

-- the whole of the records
pub record ReportsWhole (first : LinesView) (old now : Port) (s : LinesView) (found : Bool) (fed : List Fed) : Type 0 where
  pub reports_all : ReportsAll old now (lines_from first fed)
  pub state : s ≡ after_lines first fed
  pub found_is : found ≡ have_line first fed

pub front_whole : (first : LinesView) (old now : Port) (s : LinesView) (found : Bool) (fed : List Fed) (i : ℕ) → length fed ≤ i →
    ReportsFront first old now s found fed i → ReportsWhole first old now s found fed
unfolding lines_from after_lines have_line
front_whole first old now s found fed i h so = record {
  reports_all = subst (λ (x : List (List ℕ)). ReportsAll old now x)
      (sym (append-nil so.texts) ∙ ap (λ (x : List Fed). so.texts ++ lines_from s x) (sym (drop_all i fed h)) ∙ so.left) so.reports_all;
  state = ap (λ (x : List Fed). after_lines s x) (sym (drop_all i fed h)) ∙ so.state;
  found_is = sym (or_false found) ∙ ap (λ (x : List Fed). found || have_line s x) (sym (drop_all i fed h)) ∙ so.faulty;
}

-- 5. The lines of records after earlier ones

pub lines_append : (s : LinesView) (old new : List Fed) → lines_from s (old ++ new) ≡ lines_from s old ++ lines_from (after_lines s old) new
unfolding lines_from after_lines
lines_append s [] new = refl
lines_append s (f ∷ fs) new =
    ap (λ (x : List (List ℕ)). lines_of s f ++ x) (lines_append (after_one s f) fs new)
    ∙ sym (append_assoc (lines_of s f) (lines_from (after_one s f) fs) (lines_from (after_lines (after_one s f) fs) new))

pub state_append : (s : LinesView) (old new : List Fed) → after_lines s (old ++ new) ≡ after_lines (after_lines s old) new
unfolding after_lines
state_append s [] new = refl
state_append s (f ∷ fs) new = state_append (after_one s f) fs new

pub have_append : (s : LinesView) (old new : List Fed) → have_line s (old ++ new) ≡ (have_line s old || have_line (after_lines s old) new)
unfolding have_line after_lines
have_append s [] new = refl
have_append s (f ∷ fs) new =
    ap (λ (b : Bool). has_line s f || b) (have_append (after_one s f) fs new)
    ∙ or_assoc (has_line s f) (have_line (after_one s f) fs) (have_line (after_lines (after_one s f) fs) new)

-- A stream without lines feeds units alone.
neither_of : (a b : Bool) → (a || b) ≡ false → (a ≡ false) × (b ≡ false)
neither_of false b e = (refl, e)
neither_of true b e = absurd cc

no_fault : (s : LinesView) (one : Fed) → has_line s one ≡ false → has_fault one ≡ false
unfolding has_line has_fault
no_fault s (n, Ok u) e = refl
no_fault s (n, Err fault) e = absurd cc

pub no_faults : (s : LinesView) (fed : List Fed) → have_line s fed ≡ false → have_fault fed ≡ false
unfolding have_line
no_faults s [] e = refl
no_faults s (f ∷ fs) e =
    let two = neither_of (has_line s f) (have_line (after_one s f) fs) e in
    ap (λ (b : Bool). b || have_fault fs) (no_fault s f two.0) ∙ no_faults (after_one s f) fs two.1
