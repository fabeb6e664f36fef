-- The units of each stream, if the first unit of all fixes the constant.
use Rattle.std.proofs.Common.{◌≡◌, ◌≢◌, ◌∙◌, ◌⊎◌, ◌<◌, ◌≤◌, ℕ, zero, suc, ◌+◌, ◌++◌, ◌^◌, eqb, true, false, Option, Some, None, Result, List, [], ◌∷◌, length}
use Rattle.std.proofs.Common.{slice_get, slice_set, refl, sym, ap, ap₂, subst, inl, inr, arith}
use Rattle.std.specs.Option.{option_to_list}
use Rattle.std.proofs.lemmas.Bool.Decides.{eqb_tells}
use Rattle.std.proofs.lemmas.Option.{slice_get_within}
use Rattle.pes_packet.specs.AccessUnits.{AccessUnit}
use Rattle.es_moments.specs.Stamps.{distance, dts_at, moved, unit_at}
use Rattle.es_units.specs.UnitSteps.{ended_unit}
use Rattle.es_units.proofs.ApartSteps.{Soon}
use Rattle.es_feed.specs.EachStream.{BeginsAt, have_fault, units_fed}
use Rattle.fed_streams.specs.Feeding.{Fed, FedStreamView, FeedView, at_moment, before_with, base_of, due_of, fed_ends, fed_last, fed_with, origin_after}
use Rattle.fed_streams.specs.Feeding.{stream_with}
use Rattle.fed_streams.specs.Origins.{no_origin}
use Rattle.fed_streams.specs.declared.due.Due.{Due}
use Rattle.fed_streams.specs.declared.origin.Origin.{Origin}
use Rattle.es_feed.proofs.OneStream.{fixed}
use Rattle.es_feed.proofs.FedSteps.{Fixes, HasBase, fault_split, fixes_first, fixes_fixed, given_ok, units_in}
use Rattle.es_feed.proofs.FedEach.{Event, Step, StepGives, StepRests, after_event, fed_event, fed_events, finds, gives_by, rests_on, step}
use Rattle.es_feed.proofs.FedEach.{step_advances, step_fixed, step_keys}
use Rattle.es_feed.proofs.FedEnds.{AreFrom, last_moved, last_soon, units_of_all}
use Rattle.es_feed.proofs.FedMoved.{IsMoved, advance_moved, coming_last}
use Rattle.fed_streams.proofs.ListedStreams.{AreKeys, Key, get_set_other, get_set_same, key, key_at, keys}
use Rattle.es_feed.proofs.OwnUnits.{AreAlone}
use Rattle.es_moments.specs.WireUnits.{CarriedUnit}

-- 1. After the constant is fixed

from_keys : (ks : List Key) (ss : List FedStreamView) → AreKeys ks → keys ss ≡ ks → AreFrom 0 ss
unfolding AreFrom
from_keys ks ss are is i t at =
    let number : t.number ≡ i = are.number i (key t) (ap (λ (l : List Key). slice_get l i) (sym is) ∙ key_at ss i t at) in
    omega (arith, number)

ends_moved : (base k : ℕ) (ks : List Key) (feed : FeedView) (s : FedStreamView) → AreKeys ks → keys feed.streams ≡ ks → feed.origin ≡ fixed base →
    slice_get feed.streams k ≡ Some s →
    have_fault (fed_ends feed) ≡ false → IsMoved base k feed [] s
unfolding fed_events units_in
ends_moved base k ks feed s are is known at none =
    let d = due_of feed in
    let clear : have_fault (fed_last d (fixed base) feed.streams) ≡ false = ap (λ (o : Origin). have_fault (fed_last d o feed.streams)) (sym known) ∙ none in
    let n : 0 + k ≡ k = omega arith in
    record {
      units = ap (λ (o : Origin). units_fed k (fed_last d o feed.streams)) known
          ∙ ap (λ (m : ℕ). units_fed m (fed_last d (fixed base) feed.streams)) (sym n)
          ∙ last_moved d base 0 k feed.streams s (from_keys ks feed.streams are is) at clear
          ∙ ap (λ (ws : List CarriedUnit). moved base s.before (units_of_all ws)) (sym (coming_last s));
      soon = subst (λ (ws : List CarriedUnit). Soon base s.before ws) (sym (coming_last s)) (last_soon d base k feed.streams s at clear);
    }

fixed_moved : (base k : ℕ) (ks : List Key) (feed : FeedView) (es : List Event) (s : FedStreamView) → AreKeys ks → keys feed.streams ≡ ks → k < 255 →
    feed.origin ≡ fixed base → slice_get feed.streams k ≡ Some s →
    AreAlone s.units (finds es) → have_fault (fed_events feed es) ≡ false → IsMoved base k feed es s
unfolding fed_events
fixed_moved base k ks feed [] s are is few known at alone none = ends_moved base k ks feed s are is known at none
fixed_moved base k ks feed (e ∷ es) s are is few known at alone none =
    let next = after_event feed e in
    let two = fault_split (fed_event feed e) (fed_events next es) none in
    let st = step ks feed e are is (ap (λ (o : Origin). o.doubtful) known) two.0 in
    let a = step_advances base k ks feed e es s st are is few known two.0 at alone in
    advance_moved base k feed e es s a
    (fixed_moved base k ks next es a.after are (step_keys ks feed e st is) few (step_fixed base feed e st known) a.at a.alone two.1)

-- 2. Before the first unit of all

at_earliest : (e w : ℕ) → e < 2 ^ 33 → distance (distance e w) w ≡ e
unfolding distance
at_earliest e w early = omega (arith, early)

in_range : (e w : ℕ) → distance e w < 2 ^ 33
unfolding distance
in_range e w = omega arith

unfoldable pub AreUnfed : List FedStreamView → Type 0
AreUnfed ss = (i : ℕ) (t : FedStreamView) → slice_get ss i ≡ Some t → t.before ≡ None

begins_with : (d : Due) (o : Origin) (n count : ℕ) (before : Option ℕ) (u : CarriedUnit) (more : List Fed) → base_of d o u ≡ distance d.earliest u.unit.dts →
    before ≡ None → d.earliest < 2 ^ 33 → n < count →
    have_fault (option_to_list (fed_with d o n before (Some u)) ++ more) ≡ false →
    BeginsAt d.earliest count (option_to_list (fed_with d o n before (Some u)) ++ more)
unfolding fed_with BeginsAt unit_at dts_at
begins_with d o n count before u more base unfed early few none =
    let ok = given_ok d o n (distance d.earliest u.unit.dts) before u more base none in
    subst (λ (r : Result AccessUnit _). BeginsAt d.earliest count ((n, r) ∷ more)) (sym ok)
    (few, ap (λ (b : Option ℕ). dts_at (distance d.earliest u.unit.dts) b u.unit.dts) unfed ∙ at_earliest d.earliest u.unit.dts early)

-- The last units of streams, if there was no unit before
record LastFirst (d : Due) (count : ℕ) (ss : List FedStreamView) : Type 0 where
  base : ℕ
  range : base < 2 ^ 33
  same : fed_last d no_origin ss ≡ fed_last d (fixed base) ss
  begins : BeginsAt d.earliest count (fed_last d no_origin ss)

unfed_next : (t : FedStreamView) (ts : List FedStreamView) → AreUnfed (t ∷ ts) → AreUnfed ts
unfolding AreUnfed
unfed_next t ts unfed i u at = unfed (suc i) u at

unfed_head : (t : FedStreamView) (ts : List FedStreamView) → AreUnfed (t ∷ ts) → t.before ≡ None
unfolding AreUnfed
unfed_head t ts unfed = unfed zero t refl

numbers_next : (count : ℕ) (t : FedStreamView) (ts : List FedStreamView) → ((i : ℕ) (u : FedStreamView) → slice_get (t ∷ ts) i ≡ Some u → u.number < count) →
    (i : ℕ) (u : FedStreamView) → slice_get ts i ≡ Some u → u.number < count
numbers_next count t ts below i u at = below (suc i) u at

same_given : (d : Due) (o : Origin) (n base : ℕ) (before : Option ℕ) (w : Option CarriedUnit) → HasBase d o w base →
    fed_with d o n before w ≡ fed_with d (fixed base) n before w
unfolding fed_with
same_given d o n base before None here = refl
same_given d o n base before (Some u) here =
    let b = here u refl ∙ sym ((fixes_fixed d (fixed base) (Some u) base refl).here u refl) in
    ap (λ (c : ℕ). Some (n, at_moment d.greatest c before u.unit)) b

same_last : (d : Due) (base : ℕ) (t : FedStreamView) (ts : List FedStreamView) (w : Option CarriedUnit) → Fixes d no_origin w base →
    option_to_list (fed_with d no_origin t.number t.before w) ++ fed_last d (origin_after d no_origin w) ts
    ≡ option_to_list (fed_with d (fixed base) t.number t.before w) ++ fed_last d (origin_after d (fixed base) w) ts
same_last d base t ts w fixes =
    let known = fixes_fixed d (fixed base) w base refl in
    ap₂ (λ (one : Option Fed) (o : Origin). option_to_list one ++ fed_last d o ts) (same_given d no_origin t.number base t.before w fixes.here)
    (fixes.then_fixed ∙ sym known.then_fixed)

last_first_by : (d : Due) (count : ℕ) (t : FedStreamView) (ts : List FedStreamView) (w : Option CarriedUnit) → ended_unit false t.units.unit ≡ w →
    d.earliest < 2 ^ 33 → t.before ≡ None → t.number < count →
    have_fault (fed_last d no_origin (t ∷ ts)) ≡ false → (have_fault (fed_last d no_origin ts) ≡ false → LastFirst d count ts) → LastFirst d count (t ∷ ts)
unfolding fed_last origin_after fed_with
last_first_by d count t ts None is early unfed few none later =
    let here = λ (o : Origin) (w : Option CarriedUnit). option_to_list (fed_with d o t.number t.before w) ++ fed_last d (origin_after d o w) ts in
    let empty : fed_last d no_origin (t ∷ ts) ≡ fed_last d no_origin ts = ap (λ (w : Option CarriedUnit). here no_origin w) is in
    let rest = later (ap have_fault (sym empty) ∙ none) in
    record {
      base = rest.base;
      range = rest.range;
      same = empty ∙ rest.same ∙ sym (ap (λ (w : Option CarriedUnit). here (fixed rest.base) w) is);
      begins = subst (λ (xs : List Fed). BeginsAt d.earliest count xs) (sym empty) rest.begins;
    }
last_first_by d count t ts (Some u) is early unfed few none later =
    let base = distance d.earliest u.unit.dts in
    let here = λ (o : Origin) (w : Option CarriedUnit). option_to_list (fed_with d o t.number t.before w) ++ fed_last d (origin_after d o w) ts in
    let fixes = fixes_first d no_origin u refl in
    let one : fed_last d no_origin (t ∷ ts) ≡ here no_origin (Some u) = ap (λ (w : Option CarriedUnit). here no_origin w) is in
    record {
      base = base;
      range = in_range d.earliest u.unit.dts;
      same = one ∙ same_last d base t ts (Some u) fixes ∙ sym (ap (λ (w : Option CarriedUnit). here (fixed base) w) is);
      begins = subst (λ (xs : List Fed). BeginsAt d.earliest count xs) (sym one)
          (begins_with d no_origin t.number count t.before u (fed_last d (origin_after d no_origin (Some u)) ts) (fixes.here u refl) unfed early few
          (ap have_fault (sym one) ∙ none));
    }

last_first : (d : Due) (count : ℕ) (ss : List FedStreamView) → d.earliest < 2 ^ 33 → AreUnfed ss →
    ((i : ℕ) (t : FedStreamView) → slice_get ss i ≡ Some t → t.number < count) →
    have_fault (fed_last d no_origin ss) ≡ false → LastFirst d count ss
unfolding fed_last BeginsAt
last_first d count [] early unfed few none = record { base = 0; range = omega arith; same = refl; begins = tt }
last_first d count (t ∷ ts) early unfed few none =
    last_first_by d count t ts (ended_unit false t.units.unit) refl early (unfed_head t ts unfed) (few zero t refl) none
    (λ clear. last_first d count ts early (unfed_next t ts unfed) (numbers_next count t ts few) clear)

-- 3. From the first unit of all on

pub record MovedByFirst (earliest count : ℕ) (feed : FeedView) (es : List Event) : Type 0 where
  pub base : ℕ
  pub range : base < 2 ^ 33
  pub begins : BeginsAt earliest count (fed_events feed es)
  pub are_moved : (k : ℕ) (s : FedStreamView) → slice_get feed.streams k ≡ Some s → AreAlone s.units (finds es) →
      IsMoved base k feed es s

-- Streams before the first unit of all
pub record AreWaiting (earliest : ℕ) (ks : List Key) (feed : FeedView) : Type 0 where
  pub are : AreKeys ks
  pub is : keys feed.streams ≡ ks
  pub few : length ks ≤ 255
  pub earliest_is : feed.earliest ≡ earliest
  pub early : earliest < 2 ^ 33
  pub unknown : feed.origin ≡ no_origin
  pub unfed : AreUnfed feed.streams

place_below : (ks : List Key) (ss : List FedStreamView) (k : ℕ) (s : FedStreamView) → keys ss ≡ ks → slice_get ss k ≡ Some s → k < length ks
place_below ks ss k s is at = slice_get_within ks k (key s) (ap (λ (l : List Key). slice_get l k) (sym is) ∙ key_at ss k s at)

number_below : (ks : List Key) (ss : List FedStreamView) (k : ℕ) (s : FedStreamView) → AreKeys ks → keys ss ≡ ks → slice_get ss k ≡ Some s →
    s.number < length ks
number_below ks ss k s are is at =
    let number : s.number ≡ k = are.number k (key s) (ap (λ (l : List Key). slice_get l k) (sym is) ∙ key_at ss k s at) in
    let below = place_below ks ss k s is at in
    omega (arith, number, below)

ends_first : (earliest : ℕ) (ks : List Key) (feed : FeedView) → AreWaiting earliest ks feed → have_fault (fed_ends feed) ≡ false →
    MovedByFirst earliest (length ks) feed []
unfolding fed_events units_in
ends_first earliest ks feed w none =
    let d = due_of feed in
    let early : feed.earliest < 2 ^ 33 = subst (λ (e : ℕ). e < 2 ^ 33) (sym w.earliest_is) w.early in
    let clear : have_fault (fed_last d no_origin feed.streams) ≡ false = ap (λ (o : Origin). have_fault (fed_last d o feed.streams)) (sym w.unknown) ∙ none in
    let l = last_first d (length ks) feed.streams early w.unfed (λ i t at. number_below ks feed.streams i t w.are w.is at) clear in
    let all : fed_ends feed ≡ fed_last d no_origin feed.streams = ap (λ (o : Origin). fed_last d o feed.streams) w.unknown in
    let still : have_fault (fed_last d (fixed l.base) feed.streams) ≡ false = ap have_fault (sym l.same) ∙ clear in
    record {
      base = l.base;
      range = l.range;
      begins = subst (λ (e : ℕ). BeginsAt e (length ks) (fed_ends feed)) w.earliest_is
          (subst (λ (xs : List Fed). BeginsAt feed.earliest (length ks) xs) (sym all) l.begins);
      are_moved = λ k s at alone.
          let n : 0 + k ≡ k = omega arith in
          record {
            units = ap (λ (xs : List Fed). units_fed k xs) (all ∙ l.same)
                ∙ ap (λ (m : ℕ). units_fed m (fed_last d (fixed l.base) feed.streams)) (sym n)
                ∙ last_moved d l.base 0 k feed.streams s (from_keys ks feed.streams w.are w.is) at still
                ∙ ap (λ (ws : List CarriedUnit). moved l.base s.before (units_of_all ws)) (sym (coming_last s));
            soon = subst (λ (ws : List CarriedUnit). Soon l.base s.before ws) (sym (coming_last s)) (last_soon d l.base k feed.streams s at still);
          };
    }

-- A step that gives no record
rests_first : (earliest : ℕ) (ks : List Key) (feed : FeedView) (e : Event) (es : List Event) (r : StepRests feed e) → AreWaiting earliest ks feed →
    have_fault (fed_events feed (e ∷ es)) ≡ false →
    (AreWaiting earliest ks (after_event feed e) → have_fault (fed_events (after_event feed e) es) ≡ false →
    MovedByFirst earliest (length ks) (after_event feed e) es) →
    MovedByFirst earliest (length ks) feed (e ∷ es)
unfolding fed_events AreUnfed
rests_first earliest ks feed e es r w none later =
    let next = after_event feed e in
    let two = fault_split (fed_event feed e) (fed_events next es) none in
    let waits : AreWaiting earliest ks next = record {
      are = w.are;
      is = ap keys r.rests.streams ∙ w.is;
      few = w.few;
      earliest_is = r.rests.earliest ∙ w.earliest_is;
      early = w.early;
      unknown = r.rests.origin ∙ w.unknown;
      unfed = λ i t at. w.unfed i t (ap (λ (ss : List FedStreamView). slice_get ss i) (sym r.rests.streams) ∙ at);
    } in
    let rest = later waits two.1 in
    let empty : fed_event feed e ≡ [] = r.rests.silent w.unknown in
    record {
      base = rest.base;
      range = rest.range;
      begins = subst (λ (xs : List Fed). BeginsAt earliest (length ks) (xs ++ fed_events next es)) (sym empty) rest.begins;
      are_moved = λ k s at alone.
          let below = place_below ks feed.streams k s w.is at in
          let fits : k < 255 = let few = w.few in omega (arith, below, few) in
          let a = rests_on rest.base k feed e es s r fits at alone in
          advance_moved rest.base k feed e es s a
          (rest.are_moved k a.after a.at a.alone);
    }

unfed_by : (ss ts : List FedStreamView) (j i : ℕ) (s after t : FedStreamView) → ts ≡ slice_set ss j after → slice_get ss j ≡ Some s → after.before ≡ None →
    AreUnfed ss → slice_get ts i ≡ Some t → ((eqb i j ≡ true) × (i ≡ j)) ⊎ ((eqb i j ≡ false) × (i ≢ j)) → t.before ≡ None
unfolding AreUnfed
unfed_by ss ts j i s after t are at new unfed there (inl same) =
    let is : Some after ≡ Some t = sym (get_set_same ss j s after at) ∙ ap (λ (l : List FedStreamView). slice_get l j) (sym are)
    ∙ ap (λ (n : ℕ). slice_get ts n) (sym same.1) ∙ there in
    let one : after ≡ t = cc in
    ap (λ (x : FedStreamView). x.before) (sym one) ∙ new
unfed_by ss ts j i s after t are at new unfed there (inr apart) =
    unfed i t (sym (get_set_other ss j i after apart.1) ∙ ap (λ (l : List FedStreamView). slice_get l i) (sym are) ∙ there)

-- A step of a stream that gives no unit
gives_none : (earliest : ℕ) (ks : List Key) (feed : FeedView) (e : Event) (es : List Event) (g : StepGives feed e) → g.whole ≡ None →
    AreWaiting earliest ks feed → have_fault (fed_events feed (e ∷ es)) ≡ false →
    (AreWaiting earliest ks (after_event feed e) → have_fault (fed_events (after_event feed e) es) ≡ false →
    MovedByFirst earliest (length ks) (after_event feed e) es) →
    MovedByFirst earliest (length ks) feed (e ∷ es)
unfolding fed_events AreUnfed Step fed_with origin_after before_with
gives_none earliest ks feed e es g whole w none later =
    let next = after_event feed e in
    let v = g.gives in
    let after = stream_with v.due feed.origin g.after g.whole in
    let two = fault_split (fed_event feed e) (fed_events next es) none in
    let unfed_after : after.before ≡ None =
    ap (λ (x : Option CarriedUnit). before_with v.due feed.origin g.after.before x) whole ∙ v.before ∙ w.unfed g.place g.stream v.at in
    let waits : AreWaiting earliest ks next = record {
      are = w.are;
      is = step_keys ks feed e (inr g) w.is;
      few = w.few;
      earliest_is = v.earliest ∙ w.earliest_is;
      early = w.early;
      unknown = v.origin ∙ ap (λ (x : Option CarriedUnit). origin_after v.due feed.origin x) whole ∙ w.unknown;
      unfed = λ i t at. unfed_by feed.streams next.streams g.place i g.stream after t v.streams v.at unfed_after w.unfed at (eqb_tells i g.place);
    } in
    let rest = later waits two.1 in
    let empty : fed_event feed e ≡ [] =
    v.fed_is ∙ ap (λ (x : Option CarriedUnit). option_to_list (fed_with v.due feed.origin g.stream.number g.stream.before x)) whole in
    record {
      base = rest.base;
      range = rest.range;
      begins = subst (λ (xs : List Fed). BeginsAt earliest (length ks) (xs ++ fed_events next es)) (sym empty) rest.begins;
      are_moved = λ k s at alone.
          let a = gives_by rest.base k ks feed e es s g w.are w.is (λ u some. absurd (let no : None ≡ Some u = sym whole ∙ some in cc)) two.0 at alone
          (eqb_tells k g.place) in
          advance_moved rest.base k feed e es s a
          (rest.are_moved k a.after a.at a.alone);
    }

-- The step that gives the first unit of all
gives_first : (earliest : ℕ) (ks : List Key) (feed : FeedView) (e : Event) (es : List Event) (g : StepGives feed e) (u : CarriedUnit) → g.whole ≡ Some u →
    AreWaiting earliest ks feed →
    have_fault (fed_events feed (e ∷ es)) ≡ false → MovedByFirst earliest (length ks) feed (e ∷ es)
unfolding fed_events Step AreUnfed
gives_first earliest ks feed e es g u whole w none =
    let next = after_event feed e in
    let v = g.gives in
    let base = distance v.due.earliest u.unit.dts in
    let two = fault_split (fed_event feed e) (fed_events next es) none in
    let fixes : Fixes v.due feed.origin g.whole base =
    subst (λ (x : Option CarriedUnit). Fixes v.due feed.origin x base) (sym whole) (fixes_first v.due feed.origin u w.unknown) in
    let st : Step feed e = inr g in
    let known : next.origin ≡ fixed base = v.origin ∙ fixes.then_fixed in
    let due : v.due.earliest ≡ earliest = v.due_is ∙ w.earliest_is in
    let one : fed_event feed e ≡ option_to_list (fed_with v.due feed.origin g.stream.number g.stream.before (Some u)) =
    v.fed_is ∙ ap (λ (x : Option CarriedUnit). option_to_list (fed_with v.due feed.origin g.stream.number g.stream.before x)) whole in
    let early : v.due.earliest < 2 ^ 33 = subst (λ (n : ℕ). n < 2 ^ 33) (sym due) w.early in
    record {
      base = base;
      range = in_range v.due.earliest u.unit.dts;
      begins = subst (λ (n : ℕ). BeginsAt n (length ks) (fed_event feed e ++ fed_events next es)) due
          (subst (λ (xs : List Fed). BeginsAt v.due.earliest (length ks) (xs ++ fed_events next es)) (sym one)
          (begins_with v.due feed.origin g.stream.number (length ks) g.stream.before u (fed_events next es) (fixes.here u whole) (w.unfed g.place g.stream v.at)
          early
          (number_below ks feed.streams g.place g.stream w.are w.is v.at) (ap (λ (xs : List Fed). have_fault (xs ++ fed_events next es)) (sym one) ∙ none)));
      are_moved = λ k s at alone.
          let below = place_below ks feed.streams k s w.is at in
          let fits : k < 255 = let few = w.few in omega (arith, below, few) in
          let a = gives_by base k ks feed e es s g w.are w.is fixes.here two.0 at alone (eqb_tells k g.place) in
          advance_moved base k feed e es s a
          (fixed_moved base k ks next es a.after w.are (step_keys ks feed e st w.is) fits known a.at a.alone two.1);
    }

gives_some : (earliest : ℕ) (ks : List Key) (feed : FeedView) (e : Event) (es : List Event) (g : StepGives feed e) (whole : Option CarriedUnit) →
    g.whole ≡ whole → AreWaiting earliest ks feed →
    have_fault (fed_events feed (e ∷ es)) ≡ false →
    (AreWaiting earliest ks (after_event feed e) → have_fault (fed_events (after_event feed e) es) ≡ false →
    MovedByFirst earliest (length ks) (after_event feed e) es) →
    MovedByFirst earliest (length ks) feed (e ∷ es)
gives_some earliest ks feed e es g None whole w none later = gives_none earliest ks feed e es g whole w none later
gives_some earliest ks feed e es g (Some u) whole w none later = gives_first earliest ks feed e es g u whole w none

step_first : (earliest : ℕ) (ks : List Key) (feed : FeedView) (e : Event) (es : List Event) → Step feed e → AreWaiting earliest ks feed →
    have_fault (fed_events feed (e ∷ es)) ≡ false →
    (AreWaiting earliest ks (after_event feed e) → have_fault (fed_events (after_event feed e) es) ≡ false →
    MovedByFirst earliest (length ks) (after_event feed e) es) →
    MovedByFirst earliest (length ks) feed (e ∷ es)
unfolding Step
step_first earliest ks feed e es (inl r) w none later = rests_first earliest ks feed e es r w none later
step_first earliest ks feed e es (inr g) w none later = gives_some earliest ks feed e es g g.whole refl w none later

event_clear : (feed : FeedView) (e : Event) (es : List Event) → have_fault (fed_events feed (e ∷ es)) ≡ false → have_fault (fed_event feed e) ≡ false
unfolding fed_events
event_clear feed e es none = (fault_split (fed_event feed e) (fed_events (after_event feed e) es) none).0

ends_clear : (feed : FeedView) → have_fault (fed_events feed []) ≡ false → have_fault (fed_ends feed) ≡ false
unfolding fed_events
ends_clear feed none = none

pub first_moved : (earliest : ℕ) (ks : List Key) (feed : FeedView) (es : List Event) → AreWaiting earliest ks feed → have_fault (fed_events feed es) ≡ false →
    MovedByFirst earliest (length ks) feed es
first_moved earliest ks feed [] w none = ends_first earliest ks feed w (ends_clear feed none)
first_moved earliest ks feed (e ∷ es) w none =
    step_first earliest ks feed e es (step ks feed e w.are w.is (ap (λ (o : Origin). o.doubtful) w.unknown) (event_clear feed e es none)) w none
    (λ waits clear. first_moved earliest ks (after_event feed e) es waits clear)
