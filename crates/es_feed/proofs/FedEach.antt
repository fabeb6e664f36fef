-- The units of each stream, step by step, if no fault is reported.
use Rattle.std.proofs.Common.{◌≡◌, ◌≢◌, ◌∙◌, ◌⊎◌, ◌<◌, ℕ, ◌++◌, eqb, Bool, true, false, Option, Some, None, List, [], ◌∷◌, slice_get, refl}
use Rattle.std.proofs.Common.{sym, ap, ap₂, subst, inl, inr, arith}
use Rattle.std.specs.Option.{option_to_list}
use Rattle.std.proofs.lemmas.Bool.Decides.{eqb_tells}
use Rattle.demux.specs.Laws.{has_pid}
use Rattle.pid_findings.specs.Views.{FindingView}
use Rattle.es_units.specs.ApartSteps.{place_past, set_apart}
use Rattle.es_moments.specs.ApartUnits.{apart_from, is_same_next}
use Rattle.es_units.specs.CarriedUnits.{role_of}
use Rattle.es_moments.specs.Stamps.{dts_after, moved}
use Rattle.es_units.specs.UnitSteps.{UnitsSoFar, after_finding, ended_unit, goes_on_as, made_whole}
use Rattle.es_units.proofs.ApartSteps.{Soon, dts_past, given_first, set_own}
use Rattle.es_feed.specs.EachStream.{have_fault, units_fed}
use Rattle.fed_streams.specs.Feeding.{Fed, FedStreamView, FeedView, after_found, after_one, before_with, fed_ends, fed_one, fed_with}
use Rattle.fed_streams.specs.Feeding.{made_by, place_from, same_by, stream_with, whole_by}
use Rattle.fed_streams.specs.Ticks.{after_own, fed_own, without_unit}
use Rattle.packet_pcr.specs.declared.pcr_reading.FoundPcr.{FoundPcr}
use Rattle.es_feed.proofs.ApartOnes.{same_alone}
use Rattle.es_feed.proofs.GivenSoon.{given_soon}
use Rattle.es_feed.proofs.OneStream.{fixed, other_role}
use Rattle.es_feed.proofs.FedSteps.{Gives, HasBase, Out, Rests, clock_out, finding_gives, finding_rests, fixes_fixed, given_before, given_others}
use Rattle.es_feed.proofs.FedSteps.{given_units, units_in}
use Rattle.fed_streams.proofs.ListedStreams.{AreKeys, Key, get_set_other, get_set_same, key, key_at, keys, not_placed, placed, set_keys}
use Rattle.es_feed.proofs.OwnUnits.{AreAlone, alone_after, alone_without, to_come, to_come_early, to_come_more}
use Rattle.es_moments.specs.WireUnits.{CarriedUnit}

-- 1. Findings and clock references

pub data Event : Type 0 where
  Finds : FindingView → Event
  Shows : FoundPcr → Event

unfoldable pub after_event : FeedView → Event → FeedView
after_event feed (Finds f) = after_one feed f
after_event feed (Shows pcr) = after_own feed pcr

unfoldable pub fed_event : FeedView → Event → List Fed
fed_event feed (Finds f) = fed_one feed f
fed_event feed (Shows pcr) = fed_own feed pcr

-- The records of events, and then of the end
unfoldable pub fed_events : FeedView → List Event → List Fed
fed_events feed [] = fed_ends feed
fed_events feed (e ∷ es) = fed_event feed e ++ fed_events (after_event feed e) es

unfoldable pub found_by : Event → List FindingView
found_by (Finds f) = f ∷ []
found_by (Shows pcr) = []

unfoldable pub finds : List Event → List FindingView
finds [] = []
finds (e ∷ es) = found_by e ++ finds es

-- 2. The effect of a step on a stream

-- A step that gives nothing of this stream
unfoldable pub Skips : Event → FedStreamView → Type 0
Skips e r = (es : List Event) → AreAlone r.units (finds (e ∷ es)) →
    (to_come r.units (finds (e ∷ es)) ≡ to_come r.units (finds es)) × AreAlone r.units (finds es)

-- The stream is t after the step, which gives w: the unit that the step makes whole, with a DTS of its own.
pub record TakesOne (s t : FedStreamView) (w : Option CarriedUnit) (fs more : List FindingView) : Type 0 where
  pub whole : Option CarriedUnit
  pub same : Bool
  pub given : w ≡ set_apart same s.place whole
  pub place : t.place ≡ place_past same s.place whole
  pub come : to_come s.units fs ≡ option_to_list whole ++ to_come t.units more
  pub is : (u : CarriedUnit) → whole ≡ Some u → same ≡ true → is_same_next u (to_come t.units more) ≡ true
  pub alone : AreAlone t.units more

unfoldable pub Takes : Event → FedStreamView → FedStreamView → Option CarriedUnit → Type 0
Takes e s t w = (es : List Event) → AreAlone s.units (finds (e ∷ es)) → TakesOne s t w (finds (e ∷ es)) (finds es)

pub record StepRests (feed : FeedView) (e : Event) : Type 0 where
  pub rests : Rests feed (after_event feed e) (fed_event feed e)
  pub skips : (k : ℕ) (r : FedStreamView) → slice_get feed.streams k ≡ Some r → Skips e r

pub record StepGives (feed : FeedView) (e : Event) : Type 0 where
  pub place : ℕ
  pub stream : FedStreamView
  pub after : FedStreamView
  pub whole : Option CarriedUnit
  pub gives : Gives feed (after_event feed e) (fed_event feed e) place stream after whole
  pub takes : Takes e stream after whole
  pub skips : (k : ℕ) (r : FedStreamView) → k ≢ place → slice_get feed.streams k ≡ Some r → Skips e r

unfoldable pub Step : FeedView → Event → Type 0
Step feed e = StepRests feed e ⊎ StepGives feed e

same_pid : (p q : ℕ) (pid : Option ℕ) → has_pid p pid ≡ true → has_pid q pid ≡ true → p ≡ q
same_pid p q None one two = absurd cc
same_pid p q (Some r) one two = search (arith, one, two)

ignored : (u : UnitsSoFar) (f : FindingView) → has_pid u.pid f.pid ≡ false → after_finding u f ≡ u
unfolding goes_on_as
ignored u f other = rw (other_role u.pid f other) refl

not_whole : (u : UnitsSoFar) (f : FindingView) → has_pid u.pid f.pid ≡ false → made_whole u.split u.unit (role_of u.pid f) ≡ None
unfolding made_whole
not_whole u f other = rw (other_role u.pid f other) refl

finding_skips : (f : FindingView) (r : FedStreamView) → has_pid r.units.pid f.pid ≡ false → Skips (Finds f) r
unfolding Skips finds found_by
finding_skips f r other es alone =
    let u = r.units in
    let stays = ignored u f other in (
      to_come_more u f (finds es) ∙ ap (λ (w : Option CarriedUnit). option_to_list w ++ to_come (after_finding u f) (finds es)) (not_whole u f other)
          ∙ ap (λ (v : UnitsSoFar). to_come v (finds es)) stays,
      subst (λ (v : UnitsSoFar). AreAlone v (finds es)) stays (alone_after u f (finds es) alone),
    )

finding_takes : (f : FindingView) (s : FedStreamView) → Takes (Finds f) s (after_found s f) (whole_by s f)
unfolding Takes finds found_by
finding_takes f s es alone =
    let later = alone_after s.units f (finds es) alone in
    record {
      whole = made_by s f;
      same = same_by s f;
      given = refl;
      place = refl;
      come = to_come_more s.units f (finds es);
      is = same_alone s f (finds es) later;
      alone = later;
    }

clock_skips : (pcr : FoundPcr) (r : FedStreamView) → Skips (Shows pcr) r
unfolding Skips finds found_by
clock_skips pcr r es alone = (refl, alone)

clock_takes : (pcr : FoundPcr) (s : FedStreamView) → Takes (Shows pcr) s (without_unit s) (ended_unit false s.units.unit)
unfolding Takes finds found_by
clock_takes pcr s es alone = record {
  whole = ended_unit false s.units.unit;
  same = false;
  given = sym (set_own s.place (ended_unit false s.units.unit));
  place = refl;
  come = to_come_early s.units (finds es) alone;
  is = λ u some no. absurd (let never : ⊥ = cc in never);
  alone = alone_without s.units (finds es) alone;
}

other_skips : (ks : List Key) (ss : List FedStreamView) (f : FindingView) (j k : ℕ) (s r : FedStreamView) (own : Bool) → AreKeys ks → keys ss ≡ ks →
    slice_get ss j ≡ Some s → has_pid s.units.pid f.pid ≡ true →
    k ≢ j → slice_get ss k ≡ Some r → has_pid r.units.pid f.pid ≡ own → Skips (Finds f) r
other_skips ks ss f j k s r true are is at has apart there own =
    absurd (apart
    (are.own k j (key r) (key s) (ap (λ (l : List Key). slice_get l k) (sym is) ∙ key_at ss k r there)
    (ap (λ (l : List Key). slice_get l j) (sym is) ∙ key_at ss j s at)
    (same_pid r.units.pid s.units.pid f.pid own has)))
other_skips ks ss f j k s r false are is at has apart there own = finding_skips f r own

finding_step : (ks : List Key) (feed : FeedView) (f : FindingView) (place : Option ℕ) → AreKeys ks → keys feed.streams ≡ ks →
    place_from f.pid 0 feed.streams ≡ place → have_fault (fed_one feed f) ≡ false →
    Step feed (Finds f)
unfolding Step after_event fed_event
finding_step ks feed f None are is at none = inl (record {
  rests = finding_rests feed f at none;
  skips = λ k r there. finding_skips f r (not_placed f.pid 0 k r feed.streams at there);
})
finding_step ks feed f (Some j) are is at none =
    let p = placed f.pid j feed.streams at in
    inr (record {
      place = j;
      stream = p.stream;
      after = after_found p.stream f;
      whole = whole_by p.stream f;
      gives = finding_gives feed f j p.stream at p.at none;
      takes = finding_takes f p.stream;
      skips = λ k r apart there. other_skips ks feed.streams f j k p.stream r (has_pid r.units.pid f.pid) are is p.at p.has apart there refl;
    })

clock_step : (feed : FeedView) (pcr : FoundPcr) → Out feed (after_own feed pcr) (fed_own feed pcr) → Step feed (Shows pcr)
unfolding Step Out after_event fed_event
clock_step feed pcr (inl rests) = inl (record { rests = rests; skips = λ k r there. clock_skips pcr r })
clock_step feed pcr (inr ends) = inr (record {
  place = ends.0;
  stream = ends.1;
  after = without_unit ends.1;
  whole = ended_unit false ends.1.units.unit;
  gives = ends.2;
  takes = clock_takes pcr ends.1;
  skips = λ k r apart there. clock_skips pcr r;
})

-- If no reference is doubtful
pub step : (ks : List Key) (feed : FeedView) (e : Event) → AreKeys ks → keys feed.streams ≡ ks → feed.origin.doubtful ≡ None →
    have_fault (fed_event feed e) ≡ false → Step feed e
unfolding fed_event
step ks feed (Finds f) are is sure none = finding_step ks feed f (place_from f.pid 0 feed.streams) are is refl none
step ks feed (Shows pcr) are is sure none = clock_step feed pcr (clock_out feed pcr sure none)

-- 3. A stream after a step, if the constant is fixed before it

-- The units of the stream that remain, each with a DTS of its own
abbrev pub coming : FedStreamView → List FindingView → List CarriedUnit
coming s fs = apart_from s.place (to_come s.units fs)

pub record Advances (base k : ℕ) (s : FedStreamView) (e : Event) (es : List Event) (next : FeedView) (fed : List Fed) : Type 0 where
  pub after : FedStreamView
  pub at : slice_get next.streams k ≡ Some after
  pub given : Option CarriedUnit
  pub units : units_fed k fed ≡ moved base s.before (units_in given)
  pub before : after.before ≡ dts_after base s.before (units_in given)
  pub soon : Soon base s.before (option_to_list given)
  pub come : Soon base after.before (coming after (finds es)) → coming s (finds (e ∷ es)) ≡ option_to_list given ++ coming after (finds es)
  pub alone : AreAlone after.units (finds es)

past_given : (base : ℕ) (before : Option ℕ) (w : Option CarriedUnit) → dts_after base before (units_in w) ≡ dts_past base before w
unfolding dts_after dts_past units_in
past_given base before None = refl
past_given base before (Some u) = refl

takes_come : (base : ℕ) (s t : FedStreamView) (w : Option CarriedUnit) (fs more : List FindingView) (after : Option ℕ) → TakesOne s t w fs more →
    after ≡ dts_after base s.before (units_in w) → Soon base after (coming t more) → coming s fs ≡ option_to_list w ++ coming t more
takes_come base s t w fs more after k is soon =
    let given = set_apart k.same s.place k.whole in
    let later = to_come t.units more in
    let placed : coming t more ≡ apart_from (place_past k.same s.place k.whole) later = ap (λ (p : ℕ). apart_from p later) k.place in
    let past : after ≡ dts_past base s.before given = is ∙ ap (λ (x : Option CarriedUnit). dts_after base s.before (units_in x)) k.given
    ∙ past_given base s.before given in
    ap (λ (us : List CarriedUnit). apart_from s.place us) k.come
    ∙ given_first base s.place s.before k.whole k.same later k.is
    (subst (λ (us : List CarriedUnit). Soon base (dts_past base s.before given) us) placed
    (subst (λ (b : Option ℕ). Soon base b (coming t more)) past soon))
    ∙ ap₂ (λ (x : Option CarriedUnit) (us : List CarriedUnit). option_to_list x ++ us) (sym k.given) (sym placed)

pub rests_on : (base k : ℕ) (feed : FeedView) (e : Event) (es : List Event) (s : FedStreamView) → StepRests feed e → k < 255 →
    slice_get feed.streams k ≡ Some s → AreAlone s.units (finds (e ∷ es)) →
    Advances base k s e es (after_event feed e) (fed_event feed e)
unfolding Skips moved dts_after units_in Soon
rests_on base k feed e es s r few at alone =
    let skips = r.skips k s at es alone in
    record {
      after = s;
      at = ap (λ (ss : List FedStreamView). slice_get ss k) r.rests.streams ∙ at;
      given = None;
      units = r.rests.none k few;
      before = refl;
      soon = tt;
      come = λ soon. ap (λ (us : List CarriedUnit). apart_from s.place us) skips.0;
      alone = skips.1;
    }

gives_other : (base k : ℕ) (ks : List Key) (feed : FeedView) (e : Event) (es : List Event) (s : FedStreamView) (g : StepGives feed e) → AreKeys ks →
    keys feed.streams ≡ ks → k ≢ g.place → slice_get feed.streams k ≡ Some s →
    AreAlone s.units (finds (e ∷ es)) → Advances base k s e es (after_event feed e) (fed_event feed e)
unfolding Skips moved dts_after units_in Soon
gives_other base k ks feed e es s g are is apart at alone =
    let skips = g.skips k s apart at es alone in
    let w = g.gives in
    let number : g.stream.number ≡ g.place =
    are.number g.place (key g.stream) (ap (λ (l : List Key). slice_get l g.place) (sym is) ∙ key_at feed.streams g.place g.stream w.at) in
    record {
      after = s;
      at = ap (λ (ss : List FedStreamView). slice_get ss k) w.streams
          ∙ get_set_other feed.streams g.place k (stream_with w.due feed.origin g.after g.whole) apart ∙ at;
      given = None;
      units = ap (λ (xs : List Fed). units_fed k xs) w.fed_is
          ∙ given_others w.due feed.origin g.stream.number k g.stream.before g.whole (λ same. apart (same ∙ number));
      before = refl;
      soon = tt;
      come = λ soon. ap (λ (us : List CarriedUnit). apart_from s.place us) skips.0;
      alone = skips.1;
    }

gives_own : (base : ℕ) (ks : List Key) (feed : FeedView) (e : Event) (es : List Event) (g : StepGives feed e) → AreKeys ks → keys feed.streams ≡ ks →
    HasBase g.gives.due feed.origin g.whole base →
    have_fault (fed_event feed e) ≡ false → AreAlone g.stream.units (finds (e ∷ es)) →
    Advances base g.place g.stream e es (after_event feed e) (fed_event feed e)
unfolding Takes
gives_own base ks feed e es g are is here none alone =
    let takes = g.takes es alone in
    let w = g.gives in
    let number : g.stream.number ≡ g.place =
    are.number g.place (key g.stream) (ap (λ (l : List Key). slice_get l g.place) (sym is) ∙ key_at feed.streams g.place g.stream w.at) in
    let reported : have_fault (option_to_list (fed_with w.due feed.origin g.stream.number g.stream.before g.whole)) ≡ false =
    ap have_fault (sym w.fed_is) ∙ none in
    let after = stream_with w.due feed.origin g.after g.whole in
    let before = ap (λ (b : Option ℕ). before_with w.due feed.origin b g.whole) w.before
    ∙ given_before w.due feed.origin g.stream.number base g.stream.before g.whole here reported in
    record {
      after = after;
      at = ap (λ (ss : List FedStreamView). slice_get ss g.place) w.streams ∙ get_set_same feed.streams g.place g.stream after w.at;
      given = g.whole;
      units = ap (λ (n : ℕ). units_fed n (fed_event feed e)) (sym number) ∙ ap (λ (xs : List Fed). units_fed g.stream.number xs) w.fed_is
          ∙ given_units w.due feed.origin g.stream.number base g.stream.before g.whole here reported;
      before = before;
      soon = given_soon w.due feed.origin g.stream.number base g.stream.before g.whole here reported;
      come = takes_come base g.stream g.after g.whole (finds (e ∷ es)) (finds es) after.before takes before;
      alone = takes.alone;
    }

pub gives_by : (base k : ℕ) (ks : List Key) (feed : FeedView) (e : Event) (es : List Event) (s : FedStreamView) (g : StepGives feed e) → AreKeys ks →
    keys feed.streams ≡ ks → HasBase g.gives.due feed.origin g.whole base →
    have_fault (fed_event feed e) ≡ false → slice_get feed.streams k ≡ Some s → AreAlone s.units (finds (e ∷ es)) →
    ((eqb k g.place ≡ true) × (k ≡ g.place)) ⊎ ((eqb k g.place ≡ false) × (k ≢ g.place)) →
    Advances base k s e es (after_event feed e) (fed_event feed e)
gives_by base k ks feed e es s g are is here none at alone (inr apart) = gives_other base k ks feed e es s g are is apart.1 at alone
gives_by base k ks feed e es s g are is here none at alone (inl same) =
    let stream : g.stream ≡ s = let one : Some g.stream ≡ Some s = sym g.gives.at ∙ ap (λ (i : ℕ). slice_get feed.streams i) (sym same.1) ∙ at in cc in
    subst (λ (t : FedStreamView). Advances base k t e es (after_event feed e) (fed_event feed e)) stream
    (subst (λ (i : ℕ). Advances base i g.stream e es (after_event feed e) (fed_event feed e)) (sym same.1)
    (gives_own base ks feed e es g are is here none (subst (λ (t : FedStreamView). AreAlone t.units (finds (e ∷ es))) (sym stream) alone)))

-- The keys stay the same.
pub step_keys : (ks : List Key) (feed : FeedView) (e : Event) → Step feed e → keys feed.streams ≡ ks → keys (after_event feed e).streams ≡ ks
unfolding Step
step_keys ks feed e (inl r) is = ap keys r.rests.streams ∙ is
step_keys ks feed e (inr g) is =
    let w = g.gives in
    let after = stream_with w.due feed.origin g.after g.whole in
    let same : key after ≡ key g.stream = ap₂ (λ (n p : ℕ). record { number = n; pid = p }) w.number w.pid in
    ap keys w.streams ∙ set_keys feed.streams g.place g.stream after w.at same ∙ is

pub step_fixed : (base : ℕ) (feed : FeedView) (e : Event) → Step feed e → feed.origin ≡ fixed base → (after_event feed e).origin ≡ fixed base
unfolding Step
step_fixed base feed e (inl r) is = r.rests.origin ∙ is
step_fixed base feed e (inr g) is = g.gives.origin ∙ (fixes_fixed g.gives.due feed.origin g.whole base is).then_fixed

pub step_advances : (base k : ℕ) (ks : List Key) (feed : FeedView) (e : Event) (es : List Event) (s : FedStreamView) → Step feed e → AreKeys ks →
    keys feed.streams ≡ ks → k < 255 → feed.origin ≡ fixed base →
    have_fault (fed_event feed e) ≡ false → slice_get feed.streams k ≡ Some s → AreAlone s.units (finds (e ∷ es)) →
    Advances base k s e es (after_event feed e) (fed_event feed e)
unfolding Step
step_advances base k ks feed e es s (inl r) are is few known none at alone = rests_on base k feed e es s r few at alone
step_advances base k ks feed e es s (inr g) are is few known none at alone =
    gives_by base k ks feed e es s g are is (fixes_fixed g.gives.due feed.origin g.whole base known).here none at alone (eqb_tells k g.place)
