-- The most in a main buffer when a byte of some parts enters is the buffer's greatest fullness from the first of these bytes on.
use Rattle.std.proofs.Common.{◌≡◌, ◌∙◌, sym, ℕ, suc, ◌+◌, ◌≤◌, ◌<◌, ◌⊎◌, max, cond, List, [], ◌∷◌, ◌++◌, refl, ap, subst, inl, inr, arith, append_assoc, All}
use Rattle.std.proofs.Math.Nat.{le_trans}
use Rattle.std.proofs.lemmas.Bool.{cases_lt}
use Rattle.std.proofs.lemmas.Bool.Decides.{nat_tests}
use Rattle.std.proofs.lemmas.List.{append-nil}
use Rattle.std.proofs.lemmas.List.Sums.{sum_by-cons}
use Rattle.std.proofs.lemmas.List.Elements.{All-nil, All-cons, All-append, All-head, All-tail, All-weaker}
use Rattle.clock27.specs.Departure.{last_left}
use Rattle.clock27.specs.Peak.{greatest_at}
use Rattle.clock27.proofs.Departures.{last_left-append}
use Rattle.clock27.proofs.Peak.{departures_climb}
use Rattle.tstd.proofs.RisingTimes.{climbs_following}
use Rattle.tstd_rows.specs.RowEntry.{entered, has_entered}
use Rattle.tstd_rows.proofs.LeavingBytes.{climbs_rises, greatest_at-append}
use Rattle.tstd_rows.proofs.Pieces.{all_first, all_others}
use Rattle.tstd_rows.proofs.RowEntries.{none_entered}
use Rattle.tstd_rows.specs.History.{Part, arrivals_of, last_of, left_after, main_fullness, main_peak, payload_left, until_of}
use Rattle.tstd_rows.specs.History.Part.{Passes, Carries, Begins}
use Rattle.tstd_rows.proofs.Views.{payload_by, prev_le}
use Rattle.laws_view.specs.WindowHighs.{IsHigh}

-- The moments when payload bytes enter

-- The moments for the parts `recent`, which come after the parts `before`
unfoldable pub entries_of : ℕ → List Part → List Part → List ℕ
entries_of step [] before = []
entries_of step (Passes ts ∷ recent) before = entries_of step recent before
entries_of step (Carries ts ∷ recent) before = entries_of step recent before ++ left_after step (recent ++ before) ts
entries_of step (Begins due ∷ recent) before = entries_of step recent before

entries_follow : (step : ℕ) (recent before : List Part) → payload_left step (recent ++ before) ≡ payload_left step before ++ entries_of step recent before
unfolding entries_of payload_left
entries_follow step [] before = sym (append-nil (payload_left step before))
entries_follow step (Passes ts ∷ recent) before = entries_follow step recent before
entries_follow step (Carries ts ∷ recent) before =
    let ds = left_after step (recent ++ before) ts in
    ap (λ (es : List ℕ). es ++ ds) (entries_follow step recent before) ∙ append_assoc (payload_left step before) (entries_of step recent before) ds
entries_follow step (Begins due ∷ recent) before = entries_follow step recent before

-- Bytes leave the transport buffer one after another.
last_more : (step : ℕ) (parts : List Part) (ts : List ℕ) → last_of step parts ≤ last_left step 0 (arrivals_of parts ++ ts)
last_more step parts ts = rw (last_left-append step 0 (arrivals_of parts) ts) (prev_le step (last_of step parts) ts)

last_grows : (step : ℕ) (recent before : List Part) → last_of step before ≤ last_of step (recent ++ before)
unfolding arrivals_of
last_grows step [] before = omega arith
last_grows step (Passes ts ∷ recent) before = le_trans (last_grows step recent before) (last_more step (recent ++ before) ts)
last_grows step (Carries ts ∷ recent) before = le_trans (last_grows step recent before) (last_more step (recent ++ before) ts)
last_grows step (Begins due ∷ recent) before = last_grows step recent before

-- The bytes of `recent` enter after all other bytes.
entries_later : (step : ℕ) (recent before : List Part) → 0 < step → All (λ d. last_of step before < d) (entries_of step recent before)
unfolding entries_of
entries_later step [] before pos = All-nil (λ d. last_of step before < d)
entries_later step (Passes ts ∷ recent) before pos = entries_later step recent before pos
entries_later step (Carries ts ∷ recent) before pos =
    let last : ℕ = last_of step (recent ++ before) in
    let ds = left_after step (recent ++ before) ts in
    let grows = last_grows step recent before in
    let climb = climbs_following last (suc last) ds (omega arith) (departures_climb step last ts pos) in
    All-append (λ d. last_of step before < d) (entries_of step recent before) ds (entries_later step recent before pos)
    (All-weaker (λ d. last < d) (λ d. last_of step before < d) (λ d lt. omega (arith, lt, grows)) ds climb)
entries_later step (Begins due ∷ recent) before pos = entries_later step recent before pos

entries_by : (step : ℕ) (recent before : List Part) → All (λ d. d ≤ last_of step (recent ++ before)) (entries_of step recent before)
entries_by step recent before =
    let by : ℕ = last_of step (recent ++ before) in
    all_others (λ d. d ≤ by) (payload_left step before) (entries_of step recent before)
    (subst (λ (ds : List ℕ). All (λ d. d ≤ by) ds) (entries_follow step recent before) (payload_by step (recent ++ before)))

-- While no byte enters, the main buffer only empties.

-- The moment d is at most y, or after x.
abbrev Apart : ℕ → ℕ → ℕ → Type 0
Apart y x d = (d ≤ y) ⊎ (x < d)

one_since : (until y x d : ℕ) → y ≤ x → Apart y x d →
    (let m : ℕ = cond (has_entered until x d) 1 0 in m) ≤ (let n : ℕ = cond (has_entered until y d) 1 0 in n)
one_since until y x d le (inl there) = grind (arith, nat_tests)
one_since until y x d le (inr later) = grind (arith, nat_tests)

entered_since : (until y x : ℕ) (ds : List ℕ) → y ≤ x → All (Apart y x) ds → entered until x ds ≤ entered until y ds
entered_since until y x [] le all = omega arith
entered_since until y x (d ∷ ds) le all =
    rw (sum_by-cons (λ s. cond (has_entered until x s) 1 0) d ds, sum_by-cons (λ s. cond (has_entered until y s) 1 0) d ds)
    (omega (arith, one_since until y x d le (All-head (Apart y x) d ds all), entered_since until y x ds le (All-tail (Apart y x) d ds all)))

since : (step y x : ℕ) (parts : List Part) → y ≤ x → All (Apart y x) (payload_left step parts) → main_fullness step parts x ≤ main_fullness step parts y
unfolding main_fullness payload_left
since step y x [] le all = omega arith
since step y x (Passes ts ∷ before) le all = since step y x before le all
since step y x (Carries ts ∷ before) le all =
    let left = payload_left step before in
    let ds = left_after step before ts in
    let first = since step y x before le (all_first (Apart y x) left ds all) in
    omega (arith, first, entered_since (until_of before) y x ds le (all_others (Apart y x) left ds all))
since step y x (Begins due ∷ before) le all = since step y x before le all

-- The last of some moments up to x

record Latest (x : ℕ) (ds : List ℕ) : Type 0 where
  y : ℕ
  by : y ≤ x
  apart : All (Apart y x) ds
  first : List ℕ
  others : List ℕ
  is : ds ≡ first ++ y ∷ others

latest : (x : ℕ) (ds : List ℕ) → All (λ d. x < d) ds ⊎ Latest x ds
latest x [] = inl (All-nil (λ d. x < d))
latest x (d ∷ ds) = elim (latest x ds) [
  | inl none ↦ elim (cases_lt x d) [
    | inl late ↦ inl (All-cons (λ e. x < e) d ds late none)
    | inr here ↦ inr (here_is here (All-weaker (λ e. x < e) (Apart d x) (λ e lt. inr lt) ds none))
  ]
  | inr l ↦ elim (cases_lt x d) [
    | inl late ↦ inr (further l (inr late))
    | inr here ↦ elim (cases_lt l.y d) [
      | inl more ↦ inr (here_is here (All-weaker (Apart l.y x) (Apart d x) (λ e a. nearer l.y e more a) ds l.apart))
      | inr less ↦ inr (further l (inl less))
    ]
  ]
]
  where
    nearer : (y e : ℕ) → y < d → Apart y x e → Apart d x e
    nearer y e lt (inl le) = inl (omega (arith, lt, le))
    nearer y e lt (inr late) = inr late

    here_is : d ≤ x → All (Apart d x) ds → Latest x (d ∷ ds)
    here_is le apart = record { y = d; by = le; apart = All-cons (Apart d x) d ds (inl (omega arith)) apart; first = []; others = ds; is = refl }

    further : (l : Latest x ds) → Apart l.y x d → Latest x (d ∷ ds)
    further l a = record {
      y = l.y;
      by = l.by;
      apart = All-cons (Apart l.y x) d ds a l.apart;
      first = d ∷ l.first;
      others = l.others;
      is = ap (λ (es : List ℕ). d ∷ es) l.is;
    }

-- The greatest value at some moments

greatest_in : (f : ℕ → ℕ) (y : ℕ) (first others : List ℕ) → f y ≤ greatest_at f (first ++ y ∷ others)
unfolding greatest_at
greatest_in f y [] others = omega arith
greatest_in f y (d ∷ first) others = omega (arith, greatest_in f y first others)

same_greatest : (f g : ℕ → ℕ) (ds : List ℕ) → All (λ d. f d ≡ g d) ds → greatest_at f ds ≡ greatest_at g ds
unfolding greatest_at
same_greatest f g [] all = refl
same_greatest f g (d ∷ ds) all =
    omega (arith, All-head (λ e. f e ≡ g e) d ds all, same_greatest f g ds (All-tail (λ e. f e ≡ g e) d ds all))

record Reached (f : ℕ → ℕ) (ds : List ℕ) : Type 0 where
  first : List ℕ
  moment : ℕ
  others : List ℕ
  is : ds ≡ first ++ moment ∷ others
  reached : f moment ≡ greatest_at f ds

reached_at : (f : ℕ → ℕ) (d : ℕ) (ds : List ℕ) → Reached f (d ∷ ds)
unfolding greatest_at
reached_at f d [] = record { first = []; moment = d; others = []; is = refl; reached = omega arith }
reached_at f d (e ∷ ds) =
    let rest = reached_at f e ds in
    elim (cases_lt (f d) (greatest_at f (e ∷ ds))) [
      | inl later ↦ record {
        first = d ∷ rest.first;
        moment = rest.moment;
        others = rest.others;
        is = ap (λ (es : List ℕ). d ∷ es) rest.is;
        reached = omega (arith, rest.reached, later);
      }
      | inr here ↦ record { first = []; moment = d; others = e ∷ ds; is = refl; reached = omega (arith, here) }
    ]

-- The most when a payload byte enters

-- The most for the bytes of one part
abbrev pub row_most : ℕ → List Part → List ℕ → ℕ
row_most step before ts = greatest_at (main_fullness step (Carries ts ∷ before)) (left_after step before ts)

unfoldable pub most_of : ℕ → List Part → List Part → ℕ
most_of step [] before = 0
most_of step (Passes ts ∷ recent) before = most_of step recent before
most_of step (Carries ts ∷ recent) before = max (most_of step recent before) (row_most step (recent ++ before) ts)
most_of step (Begins due ∷ recent) before = most_of step recent before

-- The most for two lists of parts is the greater of both.
pub most_of-append : (step : ℕ) (later recent before : List Part) →
    most_of step (later ++ recent) before ≡ max (most_of step recent before) (most_of step later (recent ++ before))
unfolding most_of
most_of-append step [] recent before = omega arith
most_of-append step (Passes ts ∷ later) recent before = most_of-append step later recent before
most_of-append step (Carries ts ∷ later) recent before =
    let row : row_most step ((later ++ recent) ++ before) ts ≡ row_most step (later ++ (recent ++ before)) ts =
    ap (λ (ps : List Part). row_most step ps ts) (append_assoc later recent before) in
    omega (arith, most_of-append step later recent before, row)
most_of-append step (Begins due ∷ later) recent before = most_of-append step later recent before

-- The most is the greatest fullness at the entries, for bytes that enter later make no difference.
most_is : (step : ℕ) (recent before : List Part) → 0 < step →
    most_of step recent before ≡ greatest_at (main_fullness step (recent ++ before)) (entries_of step recent before)
unfolding most_of entries_of main_fullness greatest_at
most_is step [] before pos = refl
most_is step (Passes ts ∷ recent) before pos = most_is step recent before pos
most_is step (Carries ts ∷ recent) before pos =
    let p = recent ++ before in
    let last : ℕ = last_of step p in
    let es = entries_of step recent before in
    let ds = left_after step p ts in
    let f : ℕ → ℕ = main_fullness step p in
    let g : ℕ → ℕ = λ x. f x + entered (until_of p) x ds in
    let rises = climbs_rises (suc last) ds (departures_climb step last ts pos) in
    let same : All (λ d. g d ≡ f d) es =
    All-weaker (λ d. d ≤ last) (λ d. g d ≡ f d) (λ d le. omega (arith, none_entered (until_of p) d ds (suc last) (omega (arith, le)) rises)) es
    (entries_by step recent before) in
    omega (arith, greatest_at-append g es ds, same_greatest g f es same, most_is step recent before pos)
most_is step (Begins due ∷ recent) before pos = most_is step recent before pos

-- The most is the greatest fullness from the first entry on.

never_more : (step x : ℕ) (recent before : List Part) → 0 < step → (All (λ d. x < d) (entries_of step recent before) → ⊥) →
    main_fullness step (recent ++ before) x ≤ greatest_at (main_fullness step (recent ++ before)) (entries_of step recent before)
never_more step x recent before pos some = elim (latest x (entries_of step recent before)) [
  | inl none ↦ absurd (some none)
  | inr l ↦
      let f : ℕ → ℕ = main_fullness step (recent ++ before) in
      let last : ℕ = last_of step before in
      let left = payload_left step before in
      let those : All (λ d. last < d) (l.first ++ l.y ∷ l.others) =
      subst (λ (ds : List ℕ). All (λ d. last < d) ds) l.is (entries_later step recent before pos) in
      let after : last < l.y = All-head (λ d. last < d) l.y l.others (all_others (λ d. last < d) l.first (l.y ∷ l.others) those) in
      let old : All (Apart l.y x) left = All-weaker (λ d. d ≤ last) (Apart l.y x) (λ d le. inl (omega (arith, le, after))) left (payload_by step before) in
      let all : All (Apart l.y x) (payload_left step (recent ++ before)) =
      subst (λ (ds : List ℕ). All (Apart l.y x) ds) (sym (entries_follow step recent before))
      (All-append (Apart l.y x) left (entries_of step recent before) old l.apart) in
      let inside : f l.y ≤ greatest_at f (entries_of step recent before) =
      subst (λ (ds : List ℕ). f l.y ≤ greatest_at f ds) (sym l.is) (greatest_in f l.y l.first l.others) in
      le_trans (since step l.y x (recent ++ before) l.by all) inside
]

pub is_high : (step d : ℕ) (ds : List ℕ) (recent before : List Part) → 0 < step → entries_of step recent before ≡ d ∷ ds →
    IsHigh step recent before (most_of step recent before)
is_high step d ds recent before pos some =
    let es = entries_of step recent before in
    let f : ℕ → ℕ = main_fullness step (recent ++ before) in
    let most = most_is step recent before pos in
    let r : Reached f es = subst (λ (l : List ℕ). Reached f l) (sym some) (reached_at f d ds) in
    record {
      entries = es;
      follow = entries_follow step recent before;
      later = All-weaker (λ e. last_of step before < e) (λ e. All (λ d. d < e) (payload_left step before)) (λ e lt. all_sooner e lt) es
          (entries_later step recent before pos);
      greatest = record {
        never_more = λ x late. omega (arith, most, never_more step x recent before pos late);
        first = r.first;
        moment = r.moment;
        others = r.others;
        among = r.is;
        reached = r.reached ∙ sym most;
      };
    }
  where
    all_sooner : (e : ℕ) → last_of step before < e → All (λ d. d < e) (payload_left step before)
    all_sooner e lt = All-weaker (λ d. d ≤ last_of step before) (λ d. d < e) (λ d le. omega (arith, le, lt)) (payload_left step before) (payload_by step before)

-- If no other parts come before, the most is the peak of all parts.
pub first_most : (step : ℕ) (parts : List Part) → 0 < step → most_of step parts [] ≡ main_peak step (parts ++ [])
unfolding payload_left
first_most step parts pos =
    most_is step parts [] pos ∙ ap (λ (ds : List ℕ). greatest_at (main_fullness step (parts ++ [])) ds) (sym (entries_follow step parts []))
