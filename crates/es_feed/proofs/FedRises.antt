-- The DTS of each stream rise, whatever faults are reported.
use Rattle.std.proofs.Common.{◌≡◌, ◌≢◌, ◌∙◌, ◌⊎◌, ◌<◌, ℕ, zero, suc, ◌+◌, ◌++◌, ◌==◌, eqb, ◌^◌, ◌||◌, Bool, true, false, if◌then◌else◌, IfSome, Option, Some}
use Rattle.std.proofs.Common.{None, Err, List, [], ◌∷◌, slice_get, slice_set, refl, sym, ap, ap₂, subst, inl, inr, arith}
use Rattle.std.specs.Option.{option_to_list}
use Rattle.std.specs.Prelude.{nat_le}
use Rattle.std.proofs.lemmas.Bool.Decides.{eqb_tells, nat_tests}
use Rattle.std.proofs.lemmas.Grind.{flat_map-append}
use Rattle.std.proofs.lemmas.List.{append_assoc, append-nil}
use Rattle.pes_packet.specs.AccessUnits.{AccessUnit}
use Rattle.pid_findings.specs.Views.{FindingView}
use Rattle.es_moments.specs.Stamps.{distance, dts_at, dts_not_increasing, dts_too_far, or_fault, pts_out_of_range, unit_at, unit_fault}
use Rattle.es_units.specs.UnitSteps.{ended_unit}
use Rattle.es_moments.specs.declared.stamps.StampFault.{StampFault}
use Rattle.es_moments.specs.declared.stamps.StampFault.TheVariants.{DtsNotIncreasing}
use Rattle.es_moments.proofs.StampFaults.{or_none}
use Rattle.packet_pcr.specs.PacketPcr.{is_on}
use Rattle.fed_streams.specs.Clocks.{report_of}
use Rattle.es_feed.specs.EachStream.{RiseFrom, fed_if, units_fed}
use Rattle.fed_streams.specs.Feeding.{Fed, FedStreamView, FeedView, after_at, after_found, after_one, after_place, ahead_of, at_moment, base_of, before_with}
use Rattle.fed_streams.specs.Feeding.{due_of, fed_at, fed_by, fed_ends, fed_last, fed_one, fed_place, fed_with, greatest_of, last_dts, after_unit, fed_unit}
use Rattle.fed_streams.specs.Feeding.{map_fed, origin_after, other_fed, packet_fault, packet_fed, place_from, restart_fed, restart_in, seen_in, seen_place}
use Rattle.fed_streams.specs.Feeding.{stream_with, reported_by, reported_fed, reported_first, fault_fed, unless_ahead, unless_fault, watched, whole_by}
use Rattle.fed_streams.specs.Feeding.{greatest_pts_limit}
use Rattle.fed_streams.specs.Maps.{clock_pid, new_map, other_stream}
use Rattle.fed_streams.specs.Ticks.{after_end, after_end_at, after_late, after_passed, after_shown, after_tick, fed_end, fed_end_at, fed_late, fed_passed}
use Rattle.fed_streams.specs.Ticks.{fed_shown, fed_tick, is_silence, is_tick, jump_fed, last_unit, late_after, passed_from, silence, step_in, tick, with_shown}
use Rattle.fed_streams.specs.Ticks.{without_unit}
use Rattle.fed_streams.specs.declared.due.Due.{Due}
use Rattle.fed_streams.specs.declared.feed_fault.ClockJump.{ClockJump}
use Rattle.fed_streams.specs.declared.feed_fault.FeedFault.{FeedFault}
use Rattle.fed_streams.specs.declared.feed_fault.FeedFault.TheVariants.{Silent}
use Rattle.fed_streams.specs.declared.feed_fault.NewMap.{NewMap}
use Rattle.fed_streams.specs.declared.feed_fault.OtherStream.{OtherStream}
use Rattle.fed_streams.specs.declared.feed_fault.PacketFault.{PacketFault}
use Rattle.packet_pcr.specs.declared.pcr_reading.FoundPcr.{FoundPcr}
use Rattle.fed_streams.specs.declared.origin.Origin.{Origin}
use Rattle.es_feed.proofs.FedEach.{Event, Finds, Shows, after_event, fed_event, fed_events}
use Rattle.es_feed.proofs.FedSteps.{given_others, own_unit}
use Rattle.es_feed.proofs.Restarts.{reported_restart}
use Rattle.fed_streams.specs.Restarts.{restart_of}
use Rattle.fed_streams.proofs.ListedStreams.{AreKeys, Key, get_set_other, get_set_same, key, key_at, keys, passed, placed, set_keys}
use Rattle.es_moments.specs.WireUnits.{CarriedUnit}

-- 1. The unit that is given

-- The DTS of the last unit, or the earlier DTS if there is no unit
last_of : Option ℕ → List AccessUnit → Option ℕ
last_of before [] = before
last_of before (u ∷ us) = last_of (Some u.dts) us

rise_more : (before : Option ℕ) (us vs : List AccessUnit) → RiseFrom before us → RiseFrom (last_of before us) vs → RiseFrom before (us ++ vs)
unfolding RiseFrom last_of
rise_more before [] vs one two = two
rise_more before (u ∷ us) vs one two = (one.0, rise_more (Some u.dts) us vs one.1 two)

record Rises (before after : Option ℕ) (us : List AccessUnit) : Type 0 where
  rise : RiseFrom before us
  last : after ≡ last_of before us

nothing_rises : (before : Option ℕ) → Rises before before []
unfolding RiseFrom last_of
nothing_rises before = record { rise = tt; last = refl }

no_less : (zero far : Bool) (fault : StampFault) → (if zero || far then Some fault else None) ≡ None → zero ≡ false
no_less true far fault is = absurd (let no : ⊥ = cc in no)
no_less false far fault is = refl

some_distance : (d : ℕ) → (d == 0) ≡ false → 0 < d
some_distance d is = search (arith, is)

over_before : (base b stamp : ℕ) → dts_not_increasing base (Some b) stamp ≡ None → b < b + distance (b + base) stamp
unfolding dts_not_increasing
over_before base b stamp is =
    let d = distance (b + base) stamp in
    let some = some_distance d (no_less (d == 0) (nat_le (2 ^ 32) d) (DtsNotIncreasing (distance stamp (b + base))) is) in
    omega (arith, some)

above : (base : ℕ) (before : Option ℕ) (u : AccessUnit) → unit_fault greatest_pts_limit base before u ≡ None →
    IfSome before (λ dts. dts < (unit_at base before u).dts)
unfolding unit_at dts_at
above base None u none = tt
above base (Some b) u none =
    over_before base b u.dts
    (or_none (dts_not_increasing base (Some b) u.dts)
    (or_fault (pts_out_of_range greatest_pts_limit base (dts_at base (Some b) u.dts) u.pts) (dts_too_far (dts_at base (Some b) u.dts))) none).0

ahead_rises : (n : ℕ) (before ahead : Option ℕ) (u : AccessUnit) → IfSome before (λ dts. dts < u.dts) →
    Rises before (last_dts before (unless_ahead ahead u)) (fed_if n (n, unless_ahead ahead u))
unfolding RiseFrom last_of unless_ahead last_dts fed_if
ahead_rises n before None u over =
    subst (λ (us : List AccessUnit). Rises before (Some u.dts) us) (sym (own_unit n u)) (record { rise = (over, tt); last = refl })
ahead_rises n before (Some by) u over = nothing_rises before

unless_rises : (n : ℕ) (before greatest : Option ℕ) (fault : Option StampFault) (u : AccessUnit) → (fault ≡ None → IfSome before (λ dts. dts < u.dts)) →
    Rises before (last_dts before (unless_fault greatest fault u)) (fed_if n (n, unless_fault greatest fault u))
unfolding unless_fault last_dts fed_if
unless_rises n before greatest None u over = ahead_rises n before (ahead_of greatest u.dts) u (over refl)
unless_rises n before greatest (Some fault) u over = nothing_rises before

given_rises : (d : Due) (o : Origin) (n : ℕ) (before : Option ℕ) (w : Option CarriedUnit) →
    Rises before (before_with d o before w) (units_fed n (option_to_list (fed_with d o n before w)))
unfolding fed_with before_with
given_rises d o n before None = nothing_rises before
given_rises d o n before (Some u) =
    let base = base_of d o u in
    subst (λ (us : List AccessUnit). Rises before (last_dts before (at_moment d.greatest base before u.unit)) us)
    (sym (append-nil (fed_if n (n, at_moment d.greatest base before u.unit))))
    (unless_rises n before d.greatest (unit_fault greatest_pts_limit base before u.unit) (unit_at base before u.unit) (λ none. above base before u.unit none))

-- 2. A step of all streams

-- The keys of the streams stay the same, and the DTS of the units of each stream rise.
record Steps (feed next : FeedView) (fed : List Fed) : Type 0 where
  same : keys next.streams ≡ keys feed.streams
  each : (k : ℕ) (s : FedStreamView) → k < 255 → slice_get feed.streams k ≡ Some s →
      (t : FedStreamView) × (slice_get next.streams k ≡ Some t) × Rises s.before t.before (units_fed k fed)

-- No record is a unit of a numbered stream.
abbrev Unitless : List Fed → Type 0
Unitless fed = (n : ℕ) → n < 255 → units_fed n fed ≡ []

stays : (feed next : FeedView) (fed : List Fed) → next.streams ≡ feed.streams → Unitless fed → Steps feed next fed
stays feed next fed streams none = record {
  same = ap keys streams;
  each = λ k s few at. (
    s,
    ap (λ (ss : List FedStreamView). slice_get ss k) streams ∙ at,
    subst (λ (us : List AccessUnit). Rises s.before s.before us) (sym (none k few)) (nothing_rises s.before),
  );
}

-- One record is a unit of this stream; the records before and after it belong to no stream.
record GivesOne (feed next : FeedView) (fed : List Fed) (j : ℕ) (s t : FedStreamView) (w : Option CarriedUnit) : Type 0 where
  due : Due
  origin : Origin
  at : slice_get feed.streams j ≡ Some s
  number : t.number ≡ s.number
  before : t.before ≡ s.before
  pid : t.units.pid ≡ s.units.pid
  streams : next.streams ≡ slice_set feed.streams j (stream_with due origin t w)
  units : (n : ℕ) → n < 255 → units_fed n fed ≡ units_fed n (option_to_list (fed_with due origin s.number s.before w))

gives_at : (feed next : FeedView) (fed : List Fed) (j k : ℕ) (s t r : FedStreamView) (w : Option CarriedUnit) → AreKeys (keys feed.streams) →
    (g : GivesOne feed next fed j s t w) → k < 255 →
    slice_get feed.streams k ≡ Some r → ((eqb k j ≡ true) × (k ≡ j)) ⊎ ((eqb k j ≡ false) × (k ≢ j)) →
    (x : FedStreamView) × (slice_get next.streams k ≡ Some x) × Rises r.before x.before (units_fed k fed)
gives_at feed next fed j k s t r w are g few at (inr apart) =
    let number : s.number ≡ j = are.number j (key s) (key_at feed.streams j s g.at) in
    let none : units_fed k fed ≡ [] = g.units k few ∙ given_others g.due g.origin s.number k s.before w (λ same. apart.1 (same ∙ number)) in (
      r,
      ap (λ (ss : List FedStreamView). slice_get ss k) g.streams ∙ get_set_other feed.streams j k (stream_with g.due g.origin t w) apart.1 ∙ at,
      subst (λ (us : List AccessUnit). Rises r.before r.before us) (sym none) (nothing_rises r.before),
    )
gives_at feed next fed j k s t r w are g few at (inl same) =
    let number : s.number ≡ j = are.number j (key s) (key_at feed.streams j s g.at) in
    let is : s ≡ r = let one : Some s ≡ Some r = sym g.at ∙ ap (λ (i : ℕ). slice_get feed.streams i) (sym same.1) ∙ at in cc in
    let after = stream_with g.due g.origin t w in
    let units : units_fed k fed ≡ units_fed s.number (option_to_list (fed_with g.due g.origin s.number s.before w)) =
    g.units k few ∙ ap (λ (n : ℕ). units_fed n (option_to_list (fed_with g.due g.origin s.number s.before w))) (same.1 ∙ sym number) in
    let rises : Rises s.before (before_with g.due g.origin s.before w) (units_fed k fed) =
    subst (λ (us : List AccessUnit). Rises s.before (before_with g.due g.origin s.before w) us) (sym units) (given_rises g.due g.origin s.number s.before w) in
    let own : Rises r.before after.before (units_fed k fed) =
    subst (λ (x : FedStreamView). Rises x.before after.before (units_fed k fed)) is
    (subst (λ (b : Option ℕ). Rises s.before (before_with g.due g.origin b w) (units_fed k fed)) (sym g.before) rises) in (
      after,
      ap (λ (ss : List FedStreamView). slice_get ss k) g.streams ∙ ap (λ (i : ℕ). slice_get (slice_set feed.streams j after) i) same.1
          ∙ get_set_same feed.streams j s after g.at,
      own,
    )

gives_one : (feed next : FeedView) (fed : List Fed) (j : ℕ) (s t : FedStreamView) (w : Option CarriedUnit) → AreKeys (keys feed.streams) →
    GivesOne feed next fed j s t w → Steps feed next fed
gives_one feed next fed j s t w are g =
    let after = stream_with g.due g.origin t w in
    let same : key after ≡ key s = ap₂ (λ (n p : ℕ). (let k : Key = record { number = n; pid = p } in k)) g.number g.pid in
    record {
      same = ap keys g.streams ∙ set_keys feed.streams j s after g.at same;
      each = λ k r few at. gives_at feed next fed j k s t r w are g few at (eqb_tells k j);
    }

-- 3. A finding

reported_before : (other : Option OtherStream) (change : Option NewMap) (fault : Option PacketFault) →
    Unitless (option_to_list (other_fed other) ++ (option_to_list (map_fed change) ++ option_to_list (packet_fed fault)))
unfolding other_fed map_fed packet_fed fed_if
reported_before None None None n few = refl
reported_before None None (Some fault) n few = refl
reported_before None (Some change) None n few = refl
reported_before None (Some change) (Some fault) n few = refl
reported_before (Some other) None None n few = refl
reported_before (Some other) None (Some fault) n few = refl
reported_before (Some other) (Some change) None n few = refl
reported_before (Some other) (Some change) (Some fault) n few = refl

fault_unitless : (number : ℕ) (fault : Option FeedFault) → Unitless (option_to_list (fault_fed number fault))
unfolding fault_fed fed_if
fault_unitless number None n few = refl
fault_unitless number (Some fault) n few = refl

between : (n : ℕ) (before unit after : List Fed) → units_fed n before ≡ [] → units_fed n after ≡ [] → units_fed n (before ++ (unit ++ after)) ≡ units_fed n unit
between n before unit after one two =
    flat_map-append (fed_if n) before (unit ++ after)
    ∙ ap (λ (us : List AccessUnit). us ++ units_fed n (unit ++ after)) one
    ∙ flat_map-append (fed_if n) unit after
    ∙ ap (λ (us : List AccessUnit). units_fed n unit ++ us) two
    ∙ append-nil (units_fed n unit)

finding_steps : (feed : FeedView) (f : FindingView) (place : Option ℕ) → AreKeys (keys feed.streams) → place_from f.pid 0 feed.streams ≡ place →
    Steps feed (after_one feed f) (fed_one feed f)
unfolding fed_place fed_at after_place after_at seen_place restart_of restart_fed
finding_steps feed f None are at =
    let reported = reported_first feed f in
    let parts : fed_one feed f ≡ reported ++ [] = rw at refl in
    let goes : (after_one feed f).streams ≡ feed.streams = rw at refl in
    stays feed (after_one feed f) (fed_one feed f) goes
    (λ n few. ap (λ (xs : List Fed). units_fed n xs) (parts ∙ append-nil reported)
    ∙ reported_before (other_stream f feed.maps) (new_map f feed.maps) (packet_fault f) n few)
finding_steps feed f (Some j) are at =
    let p = placed f.pid j feed.streams at in
    let s = p.stream in
    let w = whole_by s f in
    let reported = reported_first feed f in
    let own_reports = option_to_list (reported_fed s f) in
    let one = option_to_list (fed_with (due_of feed) feed.origin s.number s.before w) in
    let again = restart_in (after_unit (watched feed f) f) (seen_in (watched feed f) f) in
    let tail = option_to_list (restart_fed again) in
    let here : fed_unit (watched feed f) f ≡ one ++ own_reports = rw (at, p.at) refl in
    let parts : fed_one feed f ≡ reported ++ (one ++ (own_reports ++ tail)) = ap (λ (xs : List Fed). reported ++ (xs ++ tail)) here
    ∙ ap (λ (xs : List Fed). reported ++ xs) (append_assoc one own_reports tail) in
    let ends : (n : ℕ) → n < 255 → units_fed n (own_reports ++ tail) ≡ [] = λ n few.
    flat_map-append (fed_if n) own_reports tail ∙ ap (λ (us : List AccessUnit). us ++ units_fed n tail) (fault_unitless s.number (reported_by s f) n few)
    ∙ reported_restart again n in
    gives_one feed (after_one feed f) (fed_one feed f) j s (after_found s f) w are (record {
      due = due_of feed;
      origin = feed.origin;
      at = p.at;
      number = refl;
      before = refl;
      pid = refl;
      streams = rw (at, p.at) refl;
      units = λ n few.
          ap (λ (xs : List Fed). units_fed n xs) parts
          ∙ between n reported one (own_reports ++ tail) (reported_before (other_stream f feed.maps) (new_map f feed.maps) (packet_fault f) n few) (ends n few);
    })

-- 4. A clock reference

reported_jump : (jump : Option ClockJump) → Unitless (option_to_list (jump_fed jump))
unfolding jump_fed fed_if
reported_jump None n few = refl
reported_jump (Some jump) n few = refl

no_stream : (n : ℕ) → n < 255 → (255 == n) ≡ false
no_stream n few = grind (arith, nat_tests)

tick_none : (t n : ℕ) → n < 255 → units_fed n (tick t ∷ []) ≡ []
unfolding fed_if
tick_none t n few = rw (no_stream n few) refl

silence_none : (g : FeedView) (late : ℕ) → Unitless (silence g late)
unfolding fed_if
silence_none g late n few = by (is_silence g late)
  where
    by : (t : Bool) → units_fed n (if t then (255, Err (Silent (last_unit g))) ∷ [] else []) ≡ []
    by true = refl
    by false = refl

tick_steps : (g : FeedView) (late : ℕ) (is : Bool) → is_tick (greatest_of g) late ≡ is → Steps g (after_tick g late) (fed_tick g late)
tick_steps g late true is =
    let fed : fed_tick g late ≡ silence g late ++ tick late ∷ [] = rw is refl in
    stays g (after_tick g late) (fed_tick g late) (rw is refl) (λ n few. ap (λ (xs : List Fed). units_fed n xs) fed
    ∙ flat_map-append (fed_if n) (silence g late) (tick late ∷ [])
    ∙ ap (λ (us : List AccessUnit). us ++ units_fed n (tick late ∷ [])) (silence_none g late n few)
    ∙ tick_none late n few)
tick_steps g late false is =
    let fed : fed_tick g late ≡ [] = rw is refl in
    stays g (after_tick g late) (fed_tick g late) (rw is refl) (λ n few. ap (λ (xs : List Fed). units_fed n xs) fed)

end_steps : (g : FeedView) (j : ℕ) (s : FedStreamView) → AreKeys (keys g.streams) → slice_get g.streams j ≡ Some s → Steps g (after_end g j) (fed_end g j)
unfolding after_end_at fed_end_at
end_steps g j s are at =
    let w = ended_unit false s.units.unit in
    let one : fed_end g j ≡ option_to_list (fed_with (due_of g) g.origin s.number s.before w) = rw at refl in
    gives_one g (after_end g j) (fed_end g j) j s (without_unit s) w are (record {
      due = due_of g;
      origin = g.origin;
      at = at;
      number = refl;
      before = refl;
      pid = refl;
      streams = rw at refl;
      units = λ n few. ap (λ (xs : List Fed). units_fed n xs) one;
    })

passed_steps : (g : FeedView) (late : ℕ) (place : Option ℕ) → AreKeys (keys g.streams) → passed_from g.origin late 0 g.streams ≡ place →
    Steps g (after_passed g late place) (fed_passed g late place)
unfolding after_passed fed_passed
passed_steps g late None are is = tick_steps g late (is_tick (greatest_of g) late) refl
passed_steps g late (Some j) are is = let s = passed g.origin late j g.streams is in end_steps g j s.0 are s.1

late_steps : (g : FeedView) (late : Option ℕ) → AreKeys (keys g.streams) → Steps g (after_late g late) (fed_late g late)
unfolding after_late fed_late
late_steps g None are = stays g g [] refl (λ n few. refl)
late_steps g (Some late) are = passed_steps g late (passed_from g.origin late 0 g.streams) are refl

-- Reports before a step change nothing of the streams.
after_reported : (feed g next : FeedView) (reported fed : List Fed) → g.streams ≡ feed.streams → Unitless reported → Steps g next fed →
    Steps feed next (reported ++ fed)
after_reported feed g next reported fed streams none steps = record {
  same = steps.same ∙ ap keys streams;
  each = λ k s few at.
      let there = steps.each k s few (ap (λ (ss : List FedStreamView). slice_get ss k) streams ∙ at) in
      let units : units_fed k (reported ++ fed) ≡ units_fed k fed =
      flat_map-append (fed_if k) reported fed ∙ ap (λ (us : List AccessUnit). us ++ units_fed k fed) (none k few) in
      (there.0, there.1, subst (λ (us : List AccessUnit). Rises s.before there.0.before us) (sym units) there.2);
}

shown_steps : (feed : FeedView) (pcr : FoundPcr) → AreKeys (keys feed.streams) → Steps feed (after_shown feed pcr) (fed_shown feed pcr)
shown_steps feed pcr are =
    let g = with_shown feed pcr in
    let late = late_after feed pcr in
    after_reported feed g (after_late g late) (option_to_list (jump_fed (report_of (step_in feed pcr) feed.shown pcr))) (fed_late g late) refl
    (reported_jump (report_of (step_in feed pcr) feed.shown pcr))
    (late_steps g late are)

own_steps : (feed : FeedView) (pcr : FoundPcr) (on : Bool) → AreKeys (keys feed.streams) →
    Steps feed (if on then after_shown feed pcr else feed) (if on then fed_shown feed pcr else [])
own_steps feed pcr true are = shown_steps feed pcr are
own_steps feed pcr false are = stays feed feed [] refl (λ n few. refl)

event_steps : (feed : FeedView) (e : Event) → AreKeys (keys feed.streams) → Steps feed (after_event feed e) (fed_event feed e)
unfolding after_event fed_event
event_steps feed (Finds f) are = finding_steps feed f (place_from f.pid 0 feed.streams) are refl
event_steps feed (Shows pcr) are = own_steps feed pcr (is_on pcr.pid (clock_pid feed.maps)) are

-- 5. The end

last_none : (d : Due) (o : Origin) (n : ℕ) (ss : List FedStreamView) → ((i : ℕ) (t : FedStreamView) → slice_get ss i ≡ Some t → n ≢ t.number) →
    units_fed n (fed_last d o ss) ≡ []
unfolding fed_last
last_none d o n [] others = refl
last_none d o n (t ∷ ts) others =
    let w = ended_unit false t.units.unit in
    let rest = fed_last d (origin_after d o w) ts in
    flat_map-append (fed_if n) (option_to_list (fed_by d o t w)) rest
    ∙ ap (λ (us : List AccessUnit). us ++ units_fed n rest) (given_others d o t.number n t.before w (others zero t refl))
    ∙ last_none d (origin_after d o w) n ts (λ i u at. others (suc i) u at)

-- The only stream with this number
IsOnly : ℕ → ℕ → List FedStreamView → Type 0
IsOnly n k ss = (i : ℕ) (t : FedStreamView) → slice_get ss i ≡ Some t → n ≡ t.number → i ≡ k

last_rises : (d : Due) (o : Origin) (k : ℕ) (s : FedStreamView) (ss : List FedStreamView) → IsOnly s.number k ss → slice_get ss k ≡ Some s →
    RiseFrom s.before (units_fed s.number (fed_last d o ss))
unfolding IsOnly fed_last
last_rises d o k s [] only at = absurd cc
last_rises d o zero s (t ∷ ts) only at =
    let is : t ≡ s = cc in
    let w = ended_unit false t.units.unit in
    let one = option_to_list (fed_by d o t w) in
    let rest = fed_last d (origin_after d o w) ts in
    let none : units_fed s.number rest ≡ [] =
    last_none d (origin_after d o w) s.number ts (λ i u there same. let no : ⊥ = omega (arith, only (suc i) u there same) in no) in
    let units : units_fed s.number (one ++ rest) ≡ units_fed s.number one =
    flat_map-append (fed_if s.number) one rest ∙ ap (λ (us : List AccessUnit). units_fed s.number one ++ us) none ∙ append-nil (units_fed s.number one) in
    let own : RiseFrom t.before (units_fed t.number one) = (given_rises d o t.number t.before w).rise in
    subst (λ (us : List AccessUnit). RiseFrom s.before us) (sym units) (subst (λ (x : FedStreamView). RiseFrom x.before (units_fed x.number one)) is own)
last_rises d o (suc k) s (t ∷ ts) only at =
    let w = ended_unit false t.units.unit in
    let one = option_to_list (fed_by d o t w) in
    let rest = fed_last d (origin_after d o w) ts in
    let none : units_fed s.number one ≡ [] = given_others d o t.number s.number t.before w (λ same. let no : ⊥ = omega (arith, only zero t refl same) in no) in
    let units : units_fed s.number (one ++ rest) ≡ units_fed s.number rest =
    flat_map-append (fed_if s.number) one rest ∙ ap (λ (us : List AccessUnit). us ++ units_fed s.number rest) none in
    subst (λ (us : List AccessUnit). RiseFrom s.before us) (sym units)
    (last_rises d (origin_after d o w) k s ts (λ i u there same. let next = only (suc i) u there same in omega (arith, next)) at)

only_own : (ss : List FedStreamView) (k : ℕ) (s : FedStreamView) → AreKeys (keys ss) → slice_get ss k ≡ Some s → IsOnly s.number k ss
unfolding IsOnly
only_own ss k s are at i t there same = sym (are.number i (key t) (key_at ss i t there)) ∙ sym same ∙ are.number k (key s) (key_at ss k s at)

pub rise_on : (feed : FeedView) (es : List Event) (k : ℕ) (s : FedStreamView) → AreKeys (keys feed.streams) → k < 255 → slice_get feed.streams k ≡ Some s →
    RiseFrom s.before (units_fed k (fed_events feed es))
unfolding fed_events
rise_on feed [] k s are few at =
    let number : s.number ≡ k = are.number k (key s) (key_at feed.streams k s at) in
    subst (λ (n : ℕ). RiseFrom s.before (units_fed n (fed_ends feed))) number
    (last_rises (due_of feed) feed.origin k s feed.streams (only_own feed.streams k s are at) at)
rise_on feed (e ∷ es) k s are few at =
    let next = after_event feed e in
    let steps = event_steps feed e are in
    let there = steps.each k s few at in
    let later : RiseFrom there.0.before (units_fed k (fed_events next es)) = rise_on next es k there.0 (subst AreKeys (sym steps.same) are) few there.1 in
    subst (λ (us : List AccessUnit). RiseFrom s.before us) (sym (flat_map-append (fed_if k) (fed_event feed e) (fed_events next es)))
    (rise_more s.before (units_fed k (fed_event feed e)) (units_fed k (fed_events next es)) there.2.rise
    (subst (λ (b : Option ℕ). RiseFrom b (units_fed k (fed_events next es))) there.2.last later))
