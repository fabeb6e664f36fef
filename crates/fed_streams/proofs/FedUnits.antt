-- The units that are fed, finding by finding
use Rattle.std.proofs.Common.{◌≡◌, ◌∙◌, ◌<◌, ℕ, ◌+◌, ◌++◌, false, if◌then◌else◌, Option, Some, None, List, [], ◌∷◌, length, map, drop, get_or, slice_get}
use Rattle.std.proofs.Common.{slice_set, refl, sym, ap, ap₂, add-one, inl, inr, ◌⊎◌, ◌≤◌, arith}
use Rattle.std.specs.Option.{option_to_list}
use Rattle.std.proofs.Math.Seq.{drop-cons}
use Rattle.std.proofs.lemmas.List.{append_assoc, append-nil, drop_all}
use Rattle.std.proofs.lemmas.Option.{slice_get_cases}
use Rattle.pid_findings.specs.Views.{FindingView}
use Rattle.demux.specs.Laws.{has_pid}
use Rattle.es_units.specs.UnitSteps.{ended_unit, start_of}
use Rattle.fed_streams.specs.declared.due.Due.{Due}
use Rattle.fed_streams.specs.declared.origin.Origin.{Origin}
use Rattle.fed_streams.specs.Feeding.{FedStreamView, Fed, FeedView, origin_after, stream_with, fed_by, whole_by, after_found, reported_fed, due_of}
use Rattle.fed_streams.specs.Feeding.{with_streams}
use Rattle.fed_streams.specs.Feeding.{place_from, feed_with, after_at, fed_at, after_place, fed_place, after_unit, fed_unit, after_one, fed_one, after_all}
use Rattle.fed_streams.specs.Feeding.{fed_all}
use Rattle.fed_streams.specs.Feeding.{fed_last, seen_by, seen_in, seen_of, seen_place, FedInTurn}
use Rattle.fed_streams.specs.declared.restart.Seen.TheVariants.{NoUnit}

-- 1. The findings in turn

pub in_turn : FedInTurn
unfolding fed_all after_all
in_turn feed [] more = refl
in_turn feed (f ∷ fs) more =
    ap (λ (xs : List Fed). fed_one feed f ++ xs) (in_turn (after_one feed f) fs more)
    ∙ sym (append_assoc (fed_one feed f) (fed_all (after_one feed f) fs) (fed_all (after_all (after_one feed f) fs) more))

-- 2. The stream of a PID

pub place_at : (pid : Option ℕ) (k : ℕ) (ss : List FedStreamView) (s : FedStreamView) → k < length ss → s ≡ get_or ss k s →
    place_from pid k (drop k ss) ≡ (if has_pid s.units.pid pid then Some k else place_from pid (k + 1) (drop (k + 1) ss))
unfolding place_from
place_at pid k ss s below at = rw (drop-cons ss k s below, add-one k, sym at) refl

pub place_end : (pid : Option ℕ) (k : ℕ) (ss : List FedStreamView) → length ss ≤ k → place_from pid k (drop k ss) ≡ None
unfolding place_from
place_end pid k ss over = rw (drop_all k ss over) refl

there : (ss : List FedStreamView) (k : ℕ) → k < length ss →
    ((x : FedStreamView) × (k < length ss) × (slice_get ss k ≡ Some x) × (get_or ss k x ≡ x)) ⊎ ((length ss ≤ k) × (slice_get ss k ≡ None)) →
    (s : FedStreamView) × (slice_get ss k ≡ Some s)
there ss k below (inl one) = (one.0, one.2)
there ss k below (inr none) = absurd (let no : ⊥ = omega (arith, below, none.0) in no)

pub no_place_after : (feed : FeedView) (f : FindingView) → None ≡ place_from f.pid 0 feed.streams → feed ≡ after_unit feed f
unfolding after_place
no_place_after feed f none = rw (sym none) refl

pub no_place_fed : (feed : FeedView) (f : FindingView) (fed : List Fed) → None ≡ place_from f.pid 0 feed.streams → fed ≡ fed ++ fed_unit feed f
unfolding fed_place
no_place_fed feed f fed none = rw (sym none) (sym (append-nil fed))

after_is : (feed : FeedView) (f : FindingView) (k : ℕ) (s : FedStreamView) → Some k ≡ place_from f.pid 0 feed.streams → slice_get feed.streams k ≡ Some s →
    after_unit feed f ≡ feed_with feed k (after_found s f) (whole_by s f)
unfolding after_place after_at
after_is feed f k s at is = rw (sym at) (rw is refl)

fed_is : (feed : FeedView) (f : FindingView) (k : ℕ) (s : FedStreamView) → Some k ≡ place_from f.pid 0 feed.streams → slice_get feed.streams k ≡ Some s →
    fed_unit feed f ≡ option_to_list (fed_by (due_of feed) feed.origin s (whole_by s f)) ++ option_to_list (reported_fed s f)
unfolding fed_place fed_at
fed_is feed f k s at is = rw (sym at) (rw is refl)

pub no_place_seen : (feed : FeedView) (f : FindingView) → None ≡ place_from f.pid 0 feed.streams → NoUnit ≡ seen_in feed f
unfolding seen_place
no_place_seen feed f none = rw (sym none) refl

seen_is : (feed : FeedView) (f : FindingView) (k : ℕ) (s : FedStreamView) → Some k ≡ place_from f.pid 0 feed.streams → slice_get feed.streams k ≡ Some s →
    seen_in feed f ≡ seen_of feed.shown (start_of (whole_by s f)) (fed_by (due_of feed) feed.origin s (whole_by s f))
unfolding seen_place seen_by
seen_is feed f k s at is = rw (sym at) (rw is refl)

pub placed_seen : (feed : FeedView) (f : FindingView) (k : ℕ) (due : Due) (start : Option (ℕ × ℕ)) (unit : Option Fed) →
    Some k ≡ place_from f.pid 0 feed.streams → k < length feed.streams → due ≡ due_of feed →
    ((s : FedStreamView) → slice_get feed.streams k ≡ Some s → start ≡ start_of (whole_by s f)) →
    ((s : FedStreamView) → slice_get feed.streams k ≡ Some s → unit ≡ fed_by due feed.origin s (whole_by s f)) →
    seen_of feed.shown start unit ≡ seen_in feed f
placed_seen feed f k due start unit at below is begins gives =
    let s = there feed.streams k below (slice_get_cases feed.streams k).1 in
    ap₂ (λ (o : Option (ℕ × ℕ)) (x : Option Fed). seen_of feed.shown o x) (begins s.0 s.1)
    (gives s.0 s.1 ∙ ap (λ (d : Due). fed_by d feed.origin s.0 (whole_by s.0 f)) is)
    ∙ sym (seen_is feed f k s.0 at s.1)

pub placed_after : (feed : FeedView) (f : FindingView) (k : ℕ) (due : Due) (o : Origin) (streams : List FedStreamView) →
    Some k ≡ place_from f.pid 0 feed.streams → k < length feed.streams → due ≡ due_of feed →
    ((s : FedStreamView) → slice_get feed.streams k ≡ Some s →
    streams ≡ slice_set feed.streams k (stream_with due feed.origin (after_found s f) (whole_by s f))) →
    ((s : FedStreamView) → slice_get feed.streams k ≡ Some s → o ≡ origin_after due feed.origin (whole_by s f)) →
    with_streams feed o streams ≡ after_unit feed f
placed_after feed f k due o streams at below is sets fixes =
    let s = there feed.streams k below (slice_get_cases feed.streams k).1 in
    ap (λ (ss : List FedStreamView). with_streams feed o ss) (sets s.0 s.1)
    ∙ ap (λ (b : Origin). with_streams feed b (slice_set feed.streams k (stream_with due feed.origin (after_found s.0 f) (whole_by s.0 f)))) (fixes s.0 s.1)
    ∙ ap (λ (d : Due). with_streams feed (origin_after d feed.origin (whole_by s.0 f))
    (slice_set feed.streams k (stream_with d feed.origin (after_found s.0 f) (whole_by s.0 f)))) is
    ∙ sym (after_is feed f k s.0 at s.1)

pub placed_fed : (feed : FeedView) (f : FindingView) (k : ℕ) (due : Due) (one reported : Option Fed) (before middle after : List Fed) →
    Some k ≡ place_from f.pid 0 feed.streams → k < length feed.streams → due ≡ due_of feed →
    ((s : FedStreamView) → slice_get feed.streams k ≡ Some s → one ≡ fed_by due feed.origin s (whole_by s f)) →
    ((s : FedStreamView) → slice_get feed.streams k ≡ Some s → reported ≡ reported_fed s f) →
    middle ≡ before ++ option_to_list one → after ≡ middle ++ option_to_list reported → after ≡ before ++ fed_unit feed f
placed_fed feed f k due one reported before middle after at below is feeds reports first last =
    let s = there feed.streams k below (slice_get_cases feed.streams k).1 in
    last ∙ ap (λ (xs : List Fed). xs ++ option_to_list reported) first
    ∙ append_assoc before (option_to_list one) (option_to_list reported)
    ∙ ap (λ (o : Option Fed). before ++ (option_to_list o ++ option_to_list reported)) (feeds s.0 s.1)
    ∙ ap (λ (d : Due). before ++ (option_to_list (fed_by d feed.origin s.0 (whole_by s.0 f)) ++ option_to_list reported)) is
    ∙ ap (λ (o : Option Fed). before ++ (option_to_list (fed_by (due_of feed) feed.origin s.0 (whole_by s.0 f)) ++ option_to_list o)) (reports s.0 s.1)
    ∙ ap (λ (xs : List Fed). before ++ xs) (sym (fed_is feed f k s.0 at s.1))

-- 3. A list of findings, one after another

all_step : {X : Type 0} (view : X → FindingView) (feed : FeedView) (i : ℕ) (fs : List X) (f : X) → i < length fs → f ≡ get_or fs i f →
    map view (drop i fs) ≡ view f ∷ map view (drop (i + 1) fs)
all_step view feed i fs f below at = rw (drop-cons fs i f below, add-one i, sym at) refl

pub after_step : {X : Type 0} (view : X → FindingView) (whole feed next : FeedView) (i : ℕ) (fs : List X) (f : X) → i < length fs → f ≡ get_or fs i f →
    whole ≡ after_all feed (map view (drop i fs)) → next ≡ after_one feed (view f) → whole ≡ after_all next (map view (drop (i + 1) fs))
unfolding after_all
after_step view whole feed next i fs f below at is goes =
    is ∙ ap (λ (l : List FindingView). after_all feed l) (all_step view feed i fs f below at)
    ∙ ap (λ (t : FeedView). after_all t (map view (drop (i + 1) fs))) (sym goes)

pub fed_step : {X : Type 0} (view : X → FindingView) (feed next : FeedView) (i : ℕ) (fs : List X) (f : X) (whole before after : List Fed) → i < length fs →
    f ≡ get_or fs i f →
    whole ≡ before ++ fed_all feed (map view (drop i fs)) → next ≡ after_one feed (view f) → after ≡ before ++ fed_one feed (view f) →
    whole ≡ after ++ fed_all next (map view (drop (i + 1) fs))
unfolding fed_all
fed_step view feed next i fs f whole before after below at is goes grown =
    let rest = fed_all (after_one feed (view f)) (map view (drop (i + 1) fs)) in
    is ∙ ap (λ (l : List FindingView). before ++ fed_all feed l) (all_step view feed i fs f below at)
    ∙ sym (append_assoc before (fed_one feed (view f)) rest)
    ∙ ap (λ (xs : List Fed). xs ++ rest) (sym grown)
    ∙ ap (λ (t : FeedView). after ++ fed_all t (map view (drop (i + 1) fs))) (sym goes)

pub after_end : {X : Type 0} (view : X → FindingView) (whole feed : FeedView) (i : ℕ) (fs : List X) → length fs ≤ i →
    whole ≡ after_all feed (map view (drop i fs)) → feed ≡ whole
unfolding after_all
after_end view whole feed i fs over is = let none : map view (drop i fs) ≡ [] = rw (drop_all i fs over) refl in
    sym (is ∙ ap (λ (l : List FindingView). after_all feed l) none)

pub fed_end : {X : Type 0} (view : X → FindingView) (feed : FeedView) (i : ℕ) (fs : List X) (whole fed : List Fed) → length fs ≤ i →
    whole ≡ fed ++ fed_all feed (map view (drop i fs)) → fed ≡ whole
unfolding fed_all
fed_end view feed i fs whole fed over is =
    let none : map view (drop i fs) ≡ [] = rw (drop_all i fs over) refl in
    sym (is ∙ ap (λ (l : List FindingView). fed ++ fed_all feed l) none ∙ append-nil fed)

pub last_step : (due : Due) (o next : Origin) (s : FedStreamView) (ss : List FedStreamView) (one : Option Fed) (whole before after : List Fed) →
    whole ≡ before ++ fed_last due o (s ∷ ss) → one ≡ fed_by due o s (ended_unit false s.units.unit) →
    next ≡ origin_after due o (ended_unit false s.units.unit) →
    after ≡ before ++ option_to_list one → whole ≡ after ++ fed_last due next ss
unfolding fed_last
last_step due o next s ss one whole before after is feeds goes grown =
    let w = ended_unit false s.units.unit in
    let rest = fed_last due (origin_after due o w) ss in
    is ∙ sym (append_assoc before (option_to_list (fed_by due o s w)) rest)
    ∙ ap (λ (x : Option Fed). (before ++ option_to_list x) ++ rest) (sym feeds)
    ∙ ap (λ (xs : List Fed). xs ++ rest) (sym grown)
    ∙ ap (λ (b : Origin). after ++ fed_last due b ss) (sym goes)

pub last_end : (due : Due) (o : Origin) (whole fed : List Fed) → whole ≡ fed ++ fed_last due o [] → fed ≡ whole
unfolding fed_last
last_end due o whole fed is = sym (is ∙ append-nil fed)
