-- What a clock reference feeds
use Rattle.std.proofs.Common.{◌≡◌, ◌∙◌, ◌<◌, ◌≤◌, ℕ, ◌+◌, ◌-◌, ◌^◌, ◌++◌, ◌&&◌, Bool, true, false, if◌then◌else◌, Option, Some, None, List, [], ◌∷◌, All}
use Rattle.std.proofs.Common.{length}
use Rattle.std.proofs.Common.{drop, get_or, slice_get, slice_set, refl, sym, ap, add-one, inl, inr, ◌⊎◌, arith}
use Rattle.std.specs.Prelude.{IfSome, max, nat_le, nat_lt}
use Rattle.std.specs.Option.{option_to_list}
use Rattle.std.proofs.Math.Seq.{drop-cons}
use Rattle.std.proofs.lemmas.List.{drop_all}
use Rattle.std.proofs.lemmas.List.Elements.{All-cons, All-nil}
use Rattle.std.proofs.lemmas.Option.{slice_get_cases}
use Rattle.es_units.specs.UnitSteps.{ended_unit}
use Rattle.fed_streams.specs.declared.due.Due.{Due}
use Rattle.fed_streams.specs.declared.origin.Origin.{Origin}
use Rattle.fed_streams.specs.Feeding.{Fed, FedStreamView, FeedView, dts_or_0, due_of, fed_by, feed_with, greatest_from, greatest_of, origin_after, stream_with}
use Rattle.fed_streams.specs.Feeding.{with_streams}
use Rattle.fed_streams.specs.Ticks.{IsPast, TicksArePast, after_end, after_end_at, fed_end, fed_end_at, is_passed, is_passed_by, passed_from, under_way}
use Rattle.fed_streams.specs.Ticks.{without_unit}

-- 1. A list of streams, stream by stream

stream_step : (o : Origin) (late k : ℕ) (ss : List FedStreamView) (s : FedStreamView) → k < length ss → s ≡ get_or ss k s →
    passed_from o late k (drop k ss) ≡ (if is_passed o late s then Some k else passed_from o late (k + 1) (drop (k + 1) ss))
unfolding passed_from
stream_step o late k ss s below at = rw (drop-cons ss k s below, add-one k, sym at) refl

pub passed_at : (o : Origin) (late k : ℕ) (ss : List FedStreamView) (s : FedStreamView) (is own : Bool) → k < length ss → s ≡ get_or ss k s →
    is ≡ is_passed o late s → is ≡ own →
    passed_from o late k (drop k ss) ≡ (if own then Some k else passed_from o late (k + 1) (drop (k + 1) ss))
passed_at o late k ss s is own below at passed so =
    stream_step o late k ss s below at ∙ ap (λ (b : Bool). if b then Some k else passed_from o late (k + 1) (drop (k + 1) ss)) (sym passed ∙ so)

pub passed_end : (o : Origin) (late k : ℕ) (ss : List FedStreamView) → length ss ≤ k → passed_from o late k (drop k ss) ≡ None
unfolding passed_from
passed_end o late k ss over = rw (drop_all k ss over) refl

pub greatest_step : (least next k : ℕ) (ss : List FedStreamView) (s : FedStreamView) → k < length ss → s ≡ get_or ss k s →
    next ≡ max least (dts_or_0 s.before) →
    greatest_from least (drop k ss) ≡ greatest_from next (drop (k + 1) ss)
unfolding greatest_from
greatest_step least next k ss s below at is = rw (drop-cons ss k s below, add-one k, sym at, is) refl

pub greatest_end : (least k : ℕ) (ss : List FedStreamView) → length ss ≤ k → greatest_from least (drop k ss) ≡ least
unfolding greatest_from
greatest_end least k ss over = rw (drop_all k ss over) refl

-- 2. The stream whose current unit ends

there : (ss : List FedStreamView) (k : ℕ) → k < length ss →
    ((x : FedStreamView) × (k < length ss) × (slice_get ss k ≡ Some x) × (get_or ss k x ≡ x)) ⊎ ((length ss ≤ k) × (slice_get ss k ≡ None)) →
    (s : FedStreamView) × (slice_get ss k ≡ Some s)
there ss k below (inl one) = (one.0, one.2)
there ss k below (inr none) = absurd (let no : ⊥ = omega (arith, below, none.0) in no)

after_is : (feed : FeedView) (k : ℕ) (s : FedStreamView) → slice_get feed.streams k ≡ Some s →
    after_end feed k ≡ feed_with feed k (without_unit s) (ended_unit false s.units.unit)
unfolding after_end_at
after_is feed k s is = rw is refl

fed_is : (feed : FeedView) (k : ℕ) (s : FedStreamView) → slice_get feed.streams k ≡ Some s →
    fed_end feed k ≡ option_to_list (fed_by (due_of feed) feed.origin s (ended_unit false s.units.unit))
unfolding fed_end_at
fed_is feed k s is = rw is refl

pub ended_after : (feed : FeedView) (k : ℕ) (due : Due) (o : Origin) (streams : List FedStreamView) → k < length feed.streams → due ≡ due_of feed →
    ((s : FedStreamView) → slice_get feed.streams k ≡ Some s →
    streams ≡ slice_set feed.streams k (stream_with due feed.origin (without_unit s) (ended_unit false s.units.unit))) →
    ((s : FedStreamView) → slice_get feed.streams k ≡ Some s → o ≡ origin_after due feed.origin (ended_unit false s.units.unit)) →
    with_streams feed o streams ≡ after_end feed k
ended_after feed k due o streams below is sets fixes =
    let s = there feed.streams k below (slice_get_cases feed.streams k).1 in
    ap (λ (ss : List FedStreamView). with_streams feed o ss) (sets s.0 s.1)
    ∙ ap (λ (b : Origin). with_streams feed b (slice_set feed.streams k (stream_with due feed.origin (without_unit s.0) (ended_unit false s.0.units.unit))))
    (fixes s.0 s.1)
    ∙ ap (λ (d : Due). with_streams feed (origin_after d feed.origin (ended_unit false s.0.units.unit))
    (slice_set feed.streams k (stream_with d feed.origin (without_unit s.0) (ended_unit false s.0.units.unit)))) is
    ∙ sym (after_is feed k s.0 s.1)

pub ended_fed : (feed : FeedView) (k : ℕ) (due : Due) (one : Option Fed) (before after : List Fed) → k < length feed.streams → due ≡ due_of feed →
    ((s : FedStreamView) → slice_get feed.streams k ≡ Some s → one ≡ fed_by due feed.origin s (ended_unit false s.units.unit)) →
    after ≡ before ++ option_to_list one → after ≡ before ++ fed_end feed k
ended_fed feed k due one before after below is feeds grows =
    let s = there feed.streams k below (slice_get_cases feed.streams k).1 in
    grows ∙ ap (λ (x : Option Fed). before ++ option_to_list x) (feeds s.0 s.1)
    ∙ ap (λ (d : Due). before ++ option_to_list (fed_by d feed.origin s.0 (ended_unit false s.0.units.unit))) is
    ∙ ap (λ (xs : List Fed). before ++ xs) (sym (fed_is feed k s.0 s.1))

-- 3. Ticks

-- A stream whose fed units are due before a moment, and whose current unit is due after it
fed_before : (before : Option ℕ) (late : ℕ) → dts_or_0 before < late → IfSome before (λ dts. dts < late)
unfolding dts_or_0
fed_before None late below = tt
fed_before (Some dts) late below = below

waits_past : (due : Option ℕ) (late : ℕ) → is_passed_by late due ≡ false → IfSome due (λ due. late + 63 < due)
unfolding is_passed_by
waits_past None late is = tt
waits_past (Some due) late is = let over : late < due - 63 = search (arith, is) in omega (arith, over)

-- The greatest moment is no less than any moment in the list.
least_below : (least late : ℕ) (ss : List FedStreamView) → greatest_from least ss < late → least < late
unfolding greatest_from
least_below least late [] below = below
least_below least late (s ∷ ss) below =
    let both : max least (dts_or_0 s.before) < late = least_below (max least (dts_or_0 s.before)) late ss below in
    omega (arith, both)

first_below : (least late : ℕ) (s : FedStreamView) (ss : List FedStreamView) → greatest_from least (s ∷ ss) < late → dts_or_0 s.before < late
unfolding greatest_from
first_below least late s ss below =
    let both : max least (dts_or_0 s.before) < late = least_below (max least (dts_or_0 s.before)) late ss below in
    omega (arith, both)

rest_below : (least late : ℕ) (s : FedStreamView) (ss : List FedStreamView) → greatest_from least (s ∷ ss) < late →
    greatest_from (max least (dts_or_0 s.before)) ss < late
unfolding greatest_from
rest_below least late s ss below = below

none_here : (o : Origin) (late k : ℕ) (s : FedStreamView) (ss : List FedStreamView) (b : Bool) → is_passed o late s ≡ b → passed_from o late k (s ∷ ss) ≡ None →
    (is_passed o late s ≡ false) × (passed_from o late (k + 1) ss ≡ None)
unfolding passed_from
none_here o late k s ss true is none = absurd (let no : Some k ≡ None = sym (rw is refl) ∙ none in cc)
none_here o late k s ss false is none = (is, sym (rw is refl) ∙ none)

all_past : (o : Origin) (late k least : ℕ) (ss : List FedStreamView) → passed_from o late k ss ≡ None → greatest_from least ss < late → All (IsPast o late) ss
all_past o late k least [] none below = All-nil (IsPast o late)
all_past o late k least (s ∷ ss) none below =
    let two = none_here o late k s ss (is_passed o late s) refl none in
    All-cons (IsPast o late) s ss
    (record { fed = fed_before s.before late (first_below least late s ss below); later = waits_past (under_way o s) late two.0 })
    (all_past o late (k + 1) (max least (dts_or_0 s.before)) ss two.1 (rest_below least late s ss below))

both_hold : (a b : Bool) → (a && b) ≡ true → a ≡ true
both_hold true b is = refl
both_hold false b is = absurd cc

pub are_past : TicksArePast
are_past feed late none is =
    let over : nat_lt (greatest_of feed) late ≡ true = both_hold (nat_lt (greatest_of feed) late) (nat_le late (2 ^ 52)) is in
    let below : greatest_of feed < late = search (arith, over) in
    all_past feed.origin late 0 feed.ticked feed.streams none below
