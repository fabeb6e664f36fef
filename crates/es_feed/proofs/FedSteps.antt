-- The effect of one finding and of one clock reference on the streams of a feed, if no fault is reported.
use Rattle.std.proofs.Common.{◌≡◌, ◌≢◌, ◌∙◌, ◌⊎◌, ◌<◌, ℕ, ◌++◌, ◌==◌, eqb, ◌||◌, Bool, true, false, if◌then◌else◌, Option, Some, None, Result, Ok, Err, List}
use Rattle.std.proofs.Common.{[], ◌∷◌, map, slice_get, slice_set, refl, sym, ap, inl, inr, arith}
use Rattle.std.specs.Option.{option_to_list}
use Rattle.std.specs.Prelude.{◌+◌}
use Rattle.std.proofs.lemmas.Bool.Decides.{eqb_tells, nat_tests}
use Rattle.std.proofs.lemmas.Grind.{flat_map-append}
use Rattle.std.proofs.lemmas.List.{append-nil}
use Rattle.pes_packet.specs.AccessUnits.{AccessUnit}
use Rattle.pid_findings.specs.Views.{FindingView}
use Rattle.es_moments.specs.Stamps.{distance, dts_after, moved, unit_at, unit_fault}
use Rattle.es_units.specs.UnitSteps.{ended_unit}
use Rattle.es_moments.specs.declared.stamps.StampFault.{StampFault}
use Rattle.packet_pcr.specs.PacketPcr.{is_on}
use Rattle.fed_streams.specs.Clocks.{report_of}
use Rattle.es_feed.specs.EachStream.{fed_if, has_fault, have_fault, units_fed}
use Rattle.fed_streams.specs.Feeding.{Fed, FedStreamView, FeedView, after_at, after_found, after_one, after_place, ahead_of, at_moment, base_by, after_unit}
use Rattle.fed_streams.specs.Feeding.{base_of, before_with, due_of, fed_at, fed_by, fed_one, fed_place, fed_unit, fed_with, feed_with, greatest_of, last_dts}
use Rattle.fed_streams.specs.Feeding.{map_fed, origin_after, other_fed, packet_fault, packet_fed, place_from, restart_fed, restart_in, seen_in, seen_place}
use Rattle.fed_streams.specs.Feeding.{stream_with, reported_by, reported_fed, reported_first, fault_fed, unless_ahead, unless_fault, watched, whole_by}
use Rattle.fed_streams.specs.Feeding.{greatest_pts_limit}
use Rattle.fed_streams.specs.Maps.{clock_pid, new_map, other_stream}
use Rattle.fed_streams.specs.Origins.{no_origin, origin_with}
use Rattle.fed_streams.specs.Restarts.{fallen_after, origin_by, restart_of}
use Rattle.fed_streams.specs.declared.feed_fault.OtherStream.{OtherStream}
use Rattle.fed_streams.specs.declared.feed_fault.PacketFault.{PacketFault}
use Rattle.fed_streams.specs.declared.feed_fault.Restart.{Restart}
use Rattle.fed_streams.specs.Ticks.{after_end, after_end_at, after_late, after_own, after_passed, after_shown, after_tick, fed_end, fed_end_at, fed_late}
use Rattle.fed_streams.specs.Ticks.{fed_own}
use Rattle.fed_streams.specs.Ticks.{fed_passed, fed_shown, fed_tick, is_silence, is_tick, jump_fed, jump_pause, last_unit, late_after, late_in, late_of, passed_from}
use Rattle.fed_streams.specs.Ticks.{silence, step_in, tick, timed_in, with_shown, without_unit}
use Rattle.fed_streams.specs.declared.due.Due.{Due}
use Rattle.fed_streams.specs.declared.feed_fault.FeedFault.{FeedFault}
use Rattle.fed_streams.specs.declared.feed_fault.FeedFault.TheVariants.{Silent}
use Rattle.fed_streams.specs.declared.feed_fault.NewMap.{NewMap}
use Rattle.packet_pcr.specs.declared.pcr_reading.FoundPcr.{FoundPcr}
use Rattle.fed_streams.specs.declared.origin.Origin.{Origin}
use Rattle.es_feed.proofs.OneStream.{base_first, base_fixed, fixed, origin_fixed, origin_first}
use Rattle.fed_streams.proofs.ListedStreams.{passed}
pub use Rattle.es_feed.proofs.Restarts.{fault_split}
use Rattle.es_feed.proofs.Restarts.{not_restarted}
use Rattle.es_feed.proofs.ClockSteps.{goes_on, no_time, stepped_is}
use Rattle.es_moments.specs.WireUnits.{CarriedUnit}

-- 1. A step gives no unit, or one unit of one stream

pub record Rests (feed next : FeedView) (fed : List Fed) : Type 0 where
  pub streams : next.streams ≡ feed.streams
  pub origin : next.origin ≡ feed.origin
  pub earliest : next.earliest ≡ feed.earliest
  pub none : (n : ℕ) → n < 255 → units_fed n fed ≡ []
  pub silent : feed.origin ≡ no_origin → fed ≡ []

-- The step makes unit w of stream s at place j whole; then the stream is t, except for the last DTS.
pub record Gives (feed next : FeedView) (fed : List Fed) (j : ℕ) (s t : FedStreamView) (w : Option CarriedUnit) : Type 0 where
  pub due : Due
  pub due_is : due.earliest ≡ feed.earliest
  pub at : slice_get feed.streams j ≡ Some s
  pub number : t.number ≡ s.number
  pub before : t.before ≡ s.before
  pub pid : t.units.pid ≡ s.units.pid
  pub streams : next.streams ≡ slice_set feed.streams j (stream_with due feed.origin t w)
  pub origin : next.origin ≡ origin_after due feed.origin w
  pub earliest : next.earliest ≡ feed.earliest
  pub fed_is : fed ≡ option_to_list (fed_with due feed.origin s.number s.before w)

-- 2. A finding

not_reported_first : (other : Option OtherStream) (change : Option NewMap) (fault : Option PacketFault) (more : List Fed) →
    have_fault ((option_to_list (other_fed other) ++ (option_to_list (map_fed change) ++ option_to_list (packet_fed fault))) ++ more) ≡ false →
    option_to_list (other_fed other) ++ (option_to_list (map_fed change) ++ option_to_list (packet_fed fault)) ≡ []
unfolding other_fed map_fed packet_fed has_fault
not_reported_first None None None more none = refl
not_reported_first None None (Some fault) more none = absurd cc
not_reported_first None (Some change) fault more none = absurd cc
not_reported_first (Some other) change fault more none = absurd cc

not_reported : (number : ℕ) (fault : Option FeedFault) → have_fault (option_to_list (fault_fed number fault)) ≡ false →
    option_to_list (fault_fed number fault) ≡ []
unfolding fault_fed has_fault
not_reported number None none = refl
not_reported number (Some fault) none = absurd cc

-- The restart that a finding shows
abbrev shows : FeedView → FindingView → Option Restart
shows feed f = restart_in (after_unit (watched feed f) f) (seen_in (watched feed f) f)

fed_here : (feed : FeedView) (f : FindingView) (j : ℕ) (s : FedStreamView) → place_from f.pid 0 feed.streams ≡ Some j → slice_get feed.streams j ≡ Some s →
    fed_unit (watched feed f) f ≡ option_to_list (fed_by (due_of feed) feed.origin s (whole_by s f)) ++ option_to_list (reported_fed s f)
unfolding fed_place fed_at
fed_here feed f j s at is = rw (at, is) refl

after_here : (feed : FeedView) (f : FindingView) (j : ℕ) (s : FedStreamView) → place_from f.pid 0 feed.streams ≡ Some j → slice_get feed.streams j ≡ Some s →
    after_unit (watched feed f) f ≡ feed_with (watched feed f) j (after_found s f) (whole_by s f)
unfolding after_place after_at
after_here feed f j s at is = rw (at, is) refl

nothing_again : option_to_list (restart_fed None) ≡ []
unfolding restart_fed
nothing_again = refl

same_origin : (o : Origin) (r : Option Restart) → r ≡ None → origin_by o r ≡ o
unfolding origin_by
same_origin o r none = rw none refl

pub finding_gives : (feed : FeedView) (f : FindingView) (j : ℕ) (s : FedStreamView) → place_from f.pid 0 feed.streams ≡ Some j →
    slice_get feed.streams j ≡ Some s →
    have_fault (fed_one feed f) ≡ false → Gives feed (after_one feed f) (fed_one feed f) j s (after_found s f) (whole_by s f)
finding_gives feed f j s at is none =
    let change = reported_first feed f in
    let unit = option_to_list (fed_by (due_of feed) feed.origin s (whole_by s f)) in
    let reported = option_to_list (reported_fed s f) in
    let again = option_to_list (restart_fed (shows feed f)) in
    let parts : fed_one feed f ≡ change ++ ((unit ++ reported) ++ again) = ap (λ (xs : List Fed). change ++ (xs ++ again)) (fed_here feed f j s at is) in
    let clear : have_fault (change ++ ((unit ++ reported) ++ again)) ≡ false = ap have_fault (sym parts) ∙ none in
    let no_map : change ≡ [] = not_reported_first (other_stream f feed.maps) (new_map f feed.maps) (packet_fault f) ((unit ++ reported) ++ again) clear in
    let two = fault_split (unit ++ reported) again (fault_split change ((unit ++ reported) ++ again) clear).1 in
    let no_reported : reported ≡ [] = not_reported s.number (reported_by s f) (fault_split unit reported two.0).1 in
    let no_restart : shows feed f ≡ None = not_restarted (shows feed f) two.1 in
    let no_again : again ≡ [] = ap (λ (r : Option Restart). option_to_list (restart_fed r)) no_restart ∙ nothing_again in
    let goes = after_here feed f j s at is in
    record {
      due = due_of feed;
      due_is = refl;
      at = is;
      number = refl;
      before = refl;
      pid = refl;
      streams = ap (λ (n : FeedView). n.streams) goes;
      origin = same_origin (after_unit (watched feed f) f).origin (shows feed f) no_restart ∙ ap (λ (n : FeedView). n.origin) goes;
      earliest = ap (λ (n : FeedView). n.earliest) goes;
      fed_is = parts ∙ ap (λ (xs : List Fed). xs ++ ((unit ++ reported) ++ again)) no_map ∙ ap (λ (xs : List Fed). (unit ++ reported) ++ xs) no_again
          ∙ append-nil (unit ++ reported) ∙ ap (λ (xs : List Fed). unit ++ xs) no_reported ∙ append-nil unit;
    }

fed_nowhere : (feed : FeedView) (f : FindingView) → place_from f.pid 0 feed.streams ≡ None → fed_one feed f ≡ reported_first feed f ++ []
unfolding fed_place seen_place restart_of restart_fed
fed_nowhere feed f none = rw none refl

after_nowhere : (feed : FeedView) (f : FindingView) → place_from f.pid 0 feed.streams ≡ None → after_one feed f ≡ watched feed f
unfolding after_place seen_place restart_of origin_by fallen_after
after_nowhere feed f none = rw none refl

pub finding_rests : (feed : FeedView) (f : FindingView) → place_from f.pid 0 feed.streams ≡ None → have_fault (fed_one feed f) ≡ false →
    Rests feed (after_one feed f) (fed_one feed f)
finding_rests feed f nowhere none =
    let reported = reported_first feed f in
    let parts = fed_nowhere feed f nowhere in
    let empty : fed_one feed f ≡ [] =
    parts ∙ append-nil reported ∙ not_reported_first (other_stream f feed.maps) (new_map f feed.maps) (packet_fault f) [] (ap have_fault (sym parts) ∙ none) in
    let goes = after_nowhere feed f nowhere in
    record {
      streams = ap (λ (n : FeedView). n.streams) goes;
      origin = ap (λ (n : FeedView). n.origin) goes;
      earliest = ap (λ (n : FeedView). n.earliest) goes;
      none = λ n below. ap (λ (xs : List Fed). units_fed n xs) empty;
      silent = λ e. empty;
    }

-- 3. A clock reference

-- A step that leaves the streams as they are, or ends the current unit of a stream
unfoldable pub Out : FeedView → FeedView → List Fed → Type 0
Out feed next fed = Rests feed next fed ⊎ ((j : ℕ) × (s : FedStreamView) × Gives feed next fed j s (without_unit s) (ended_unit false s.units.unit))

no_stream : (n : ℕ) → n < 255 → (255 == n) ≡ false
no_stream n below = grind (arith, nat_tests)

silence_none : (g : FeedView) (late n : ℕ) → units_fed n (silence g late) ≡ []
unfolding fed_if
silence_none g late n = by (is_silence g late)
  where
    by : (t : Bool) → units_fed n (if t then (255, Err (Silent (last_unit g))) ∷ [] else []) ≡ []
    by true = refl
    by false = refl

tick_none : (g : FeedView) (late n : ℕ) → n < 255 → units_fed n (silence g late ++ tick late ∷ []) ≡ []
unfolding fed_if
tick_none g late n below =
    flat_map-append (fed_if n) (silence g late) (tick late ∷ []) ∙ ap (λ (us : List AccessUnit). us ++ units_fed n (tick late ∷ [])) (silence_none g late n)
    ∙ (rw (no_stream n below) refl)

tick_rests : (g : FeedView) (late : ℕ) (is : Bool) → (g.origin ≡ no_origin → ⊥) → is_tick (greatest_of g) late ≡ is →
    Rests g (after_tick g late) (fed_tick g late)
unfolding fed_if
tick_rests g late true known is = record {
  streams = rw is refl;
  origin = rw is refl;
  earliest = rw is refl;
  none = λ n below. rw is (tick_none g late n below);
  silent = λ e. absurd (known e);
}
tick_rests g late false known is = record {
  streams = rw is refl;
  origin = rw is refl;
  earliest = rw is refl;
  none = λ n below. rw is refl;
  silent = λ e. absurd (known e);
}

end_gives : (g : FeedView) (j : ℕ) (s : FedStreamView) → slice_get g.streams j ≡ Some s →
    Gives g (after_end g j) (fed_end g j) j s (without_unit s) (ended_unit false s.units.unit)
unfolding after_end_at fed_end_at
end_gives g j s is = record {
  due = due_of g;
  due_is = refl;
  at = is;
  number = refl;
  before = refl;
  pid = refl;
  streams = rw is refl;
  origin = rw is refl;
  earliest = rw is refl;
  fed_is = rw is refl;
}

passed_out : (g : FeedView) (late : ℕ) (place : Option ℕ) → (g.origin ≡ no_origin → ⊥) → passed_from g.origin late 0 g.streams ≡ place →
    Out g (after_passed g late place) (fed_passed g late place)
unfolding Out after_passed fed_passed
passed_out g late None known is = inl (tick_rests g late (is_tick (greatest_of g) late) known refl)
passed_out g late (Some j) known is =
    let s = passed g.origin late j g.streams is in
    inr (j, s.0, end_gives g j s.0 s.1)

late_out : (g : FeedView) (late : Option ℕ) → (g.origin ≡ no_origin → late ≡ None) → Out g (after_late g late) (fed_late g late)
unfolding Out after_late fed_late
late_out g None unknown = inl (record { streams = refl; origin = refl; earliest = refl; none = λ n below. refl; silent = λ e. refl })
late_out g (Some late) unknown = passed_out g late (passed_from g.origin late 0 g.streams) (λ e. let no = unknown e in absurd cc) refl

late_unknown : (g : FeedView) (shown : ℕ) → g.origin ≡ no_origin → late_in g shown ≡ None
unfolding late_of
late_unknown g shown e = rw e refl

same_rests : (feed g next : FeedView) (fed reported : List Fed) → g.streams ≡ feed.streams → g.origin ≡ feed.origin → g.earliest ≡ feed.earliest →
    reported ≡ fed →
    Rests g next fed → Rests feed next reported
same_rests feed g next fed reported streams origin earliest is r = record {
  streams = r.streams ∙ streams;
  origin = r.origin ∙ origin;
  earliest = r.earliest ∙ earliest;
  none = λ n below. ap (λ (xs : List Fed). units_fed n xs) is ∙ r.none n below;
  silent = λ e. is ∙ r.silent (origin ∙ e);
}

same_gives : (feed g next : FeedView) (fed reported : List Fed) (j : ℕ) (s t : FedStreamView) (w : Option CarriedUnit) →
    g.streams ≡ feed.streams → g.origin ≡ feed.origin → g.earliest ≡ feed.earliest → reported ≡ fed → Gives g next fed j s t w →
    Gives feed next reported j s t w
same_gives feed g next fed reported j s t w streams origin earliest is r = record {
  due = r.due;
  due_is = r.due_is ∙ earliest;
  at = ap (λ (ss : List FedStreamView). slice_get ss j) (sym streams) ∙ r.at;
  number = r.number;
  before = r.before;
  pid = r.pid;
  streams = r.streams ∙ ap (λ (ss : List FedStreamView). slice_set ss j (stream_with r.due g.origin t w)) streams
      ∙ ap (λ (o : Origin). slice_set feed.streams j (stream_with r.due o t w)) origin;
  origin = r.origin ∙ ap (λ (o : Origin). origin_after r.due o w) origin;
  earliest = r.earliest ∙ earliest;
  fed_is = is ∙ r.fed_is ∙ ap (λ (o : Origin). option_to_list (fed_with r.due o s.number s.before w)) origin;
}

same_out : (feed g next : FeedView) (fed reported : List Fed) → g.streams ≡ feed.streams → g.origin ≡ feed.origin → g.earliest ≡ feed.earliest →
    reported ≡ fed →
    Out g next fed → Out feed next reported
unfolding Out
same_out feed g next fed reported streams origin earliest is (inl r) = inl (same_rests feed g next fed reported streams origin earliest is r)
same_out feed g next fed reported streams origin earliest is (inr r) =
    inr (r.0, r.1, same_gives feed g next fed reported r.0 r.1 (without_unit r.1) (ended_unit false r.1.units.unit) streams origin earliest is r.2)

-- A reference of the clock
shown_out : (feed : FeedView) (pcr : FoundPcr) → feed.origin.doubtful ≡ None → have_fault (fed_shown feed pcr) ≡ false →
    Out feed (after_shown feed pcr) (fed_shown feed pcr)
shown_out feed pcr sure none =
    let g = with_shown feed pcr in
    let late = late_after feed pcr in
    let jump = option_to_list (jump_fed (report_of (step_in feed pcr) feed.shown pcr)) in
    let stays = goes_on feed.shown feed.earlier feed.origin.doubtful pcr sure (fault_split jump (fed_late g late) none).0 in
    same_out feed g (after_late g late) (fed_late g late) (fed_shown feed pcr) refl
    (stepped_is (step_in feed pcr) feed.origin feed.shown (greatest_of feed + jump_pause) pcr stays.0 sure) refl
    (ap (λ (xs : List Fed). xs ++ fed_late g late) stays.1)
    (late_out g late (λ e. no_time (step_in feed pcr) (late_in g (timed_in feed pcr)) (late_unknown g (timed_in feed pcr) e)))

own_out : (feed : FeedView) (pcr : FoundPcr) (on : Bool) → feed.origin.doubtful ≡ None → have_fault (if on then fed_shown feed pcr else []) ≡ false →
    Out feed (if on then after_shown feed pcr else feed) (if on then fed_shown feed pcr else [])
unfolding Out
own_out feed pcr true sure none = shown_out feed pcr sure none
own_out feed pcr false sure none = inl (record { streams = refl; origin = refl; earliest = refl; none = λ n below. refl; silent = λ e. refl })

pub clock_out : (feed : FeedView) (pcr : FoundPcr) → feed.origin.doubtful ≡ None → have_fault (fed_own feed pcr) ≡ false →
    Out feed (after_own feed pcr) (fed_own feed pcr)
clock_out feed pcr sure none = own_out feed pcr (is_on pcr.pid (clock_pid feed.maps)) sure none

-- 4. The unit that is given, at its moment

ok_ahead : (n : ℕ) (ahead : Option ℕ) (u : AccessUnit) → has_fault (n, unless_ahead ahead u) ≡ false → unless_ahead ahead u ≡ Ok u
unfolding unless_ahead has_fault
ok_ahead n None u none = refl
ok_ahead n (Some by) u none = absurd cc

ok_unless : (n : ℕ) (greatest : Option ℕ) (fault : Option StampFault) (u : AccessUnit) → has_fault (n, unless_fault greatest fault u) ≡ false →
    unless_fault greatest fault u ≡ Ok u
unfolding unless_fault has_fault
ok_unless n greatest None u none = ok_ahead n (ahead_of greatest u.dts) u none
ok_unless n greatest (Some fault) u none = absurd cc

ok_moment : (n : ℕ) (greatest : Option ℕ) (base : ℕ) (before : Option ℕ) (u : AccessUnit) → has_fault (n, at_moment greatest base before u) ≡ false →
    at_moment greatest base before u ≡ Ok (unit_at base before u)
ok_moment n greatest base before u none = ok_unless n greatest (unit_fault greatest_pts_limit base before u) (unit_at base before u) none

-- The unit, if any, has this constant; after it the constant is fixed.
abbrev pub HasBase : Due → Origin → Option CarriedUnit → ℕ → Type 0
HasBase d o w base = (u : CarriedUnit) → w ≡ Some u → base_of d o u ≡ base

pub record Fixes (d : Due) (o : Origin) (w : Option CarriedUnit) (base : ℕ) : Type 0 where
  pub here : HasBase d o w base
  pub then_fixed : origin_after d o w ≡ fixed base

unfoldable pub units_in : Option CarriedUnit → List AccessUnit
units_in w = map (λ (w : CarriedUnit). w.unit) (option_to_list w)

pub if_first : (a b : Bool) → (a || b) ≡ false → a ≡ false
if_first true b e = absurd cc
if_first false b e = refl

pub own_number : (n : ℕ) → (n == n) ≡ true
own_number n = grind (arith, nat_tests)

pub own_unit : (n : ℕ) (u : AccessUnit) → (if n == n then u ∷ [] else []) ≡ u ∷ []
own_unit n u = rw (own_number n) refl

number_by : (n m : ℕ) → m ≢ n → ((eqb n m ≡ true) × (n ≡ m)) ⊎ ((eqb n m ≡ false) × (n ≢ m)) → (n == m) ≡ false
number_by n m other (inl same) = absurd (other (sym same.1))
number_by n m other (inr apart) = apart.0

other_number : (n m : ℕ) → m ≢ n → (n == m) ≡ false
other_number n m other = number_by n m other (eqb_tells n m)

pub given_ok : (d : Due) (o : Origin) (n base : ℕ) (before : Option ℕ) (u : CarriedUnit) (more : List Fed) → base_of d o u ≡ base →
    have_fault ((n, at_moment d.greatest (base_of d o u) before u.unit) ∷ more) ≡ false →
    at_moment d.greatest (base_of d o u) before u.unit ≡ Ok (unit_at base before u.unit)
given_ok d o n base before u more b none =
    ok_moment n d.greatest (base_of d o u) before u.unit (if_first (has_fault (n, at_moment d.greatest (base_of d o u) before u.unit)) (have_fault more) none)
    ∙ ap (λ (b : ℕ). Ok (unit_at b before u.unit)) b

pub given_units : (d : Due) (o : Origin) (n base : ℕ) (before : Option ℕ) (w : Option CarriedUnit) → HasBase d o w base →
    have_fault (option_to_list (fed_with d o n before w)) ≡ false →
    units_fed n (option_to_list (fed_with d o n before w)) ≡ moved base before (units_in w)
unfolding fed_with fed_if moved units_in
given_units d o n base before None here none = refl
given_units d o n base before (Some u) here none =
    ap (λ (r : Result AccessUnit FeedFault). fed_if n (n, r) ++ []) (given_ok d o n base before u [] (here u refl) none)
    ∙ ap (λ (own : Bool). (if own then unit_at base before u.unit ∷ [] else []) ++ []) (own_number n)

pub given_before : (d : Due) (o : Origin) (n base : ℕ) (before : Option ℕ) (w : Option CarriedUnit) → HasBase d o w base →
    have_fault (option_to_list (fed_with d o n before w)) ≡ false →
    before_with d o before w ≡ dts_after base before (units_in w)
unfolding fed_with before_with last_dts dts_after unit_at units_in
given_before d o n base before None here none = refl
given_before d o n base before (Some u) here none =
    ap (λ (r : Result AccessUnit FeedFault). last_dts before r) (given_ok d o n base before u [] (here u refl) none)

pub others_if : (m n : ℕ) (r : Result AccessUnit FeedFault) → m ≢ n → fed_if m (n, r) ≡ []
unfolding fed_if
others_if m n (Ok u) other = rw (other_number n m other) refl
others_if m n (Err fault) other = refl

pub given_others : (d : Due) (o : Origin) (n m : ℕ) (before : Option ℕ) (w : Option CarriedUnit) → m ≢ n →
    units_fed m (option_to_list (fed_with d o n before w)) ≡ []
unfolding fed_with
given_others d o n m before None other = refl
given_others d o n m before (Some u) other = append-nil (fed_if m (n, at_moment d.greatest (base_of d o u) before u.unit))
    ∙ others_if m n (at_moment d.greatest (base_of d o u) before u.unit) other

base_then : (d : Due) (base : ℕ) (u : CarriedUnit) → base_of d (fixed base) u ≡ base
unfolding base_by
base_then d base u = rw (base_fixed base u.packet u.unit.dts) refl

fixed_after : (d : Due) (base : ℕ) (w : Option CarriedUnit) → origin_after d (fixed base) w ≡ fixed base
unfolding origin_after
fixed_after d base None = refl
fixed_after d base (Some u) = ap (λ (b : ℕ). origin_with (fixed base) u.packet u.unit.dts b) (base_then d base u) ∙ origin_fixed base u.packet u.unit.dts

pub fixes_fixed : (d : Due) (o : Origin) (w : Option CarriedUnit) (base : ℕ) → o ≡ fixed base → Fixes d o w base
fixes_fixed d o w base is = record {
  here = λ u e. ap (λ (o : Origin). base_of d o u) is ∙ base_then d base u;
  then_fixed = ap (λ (o : Origin). origin_after d o w) is ∙ fixed_after d base w;
}

base_at_no : (d : Due) (u : CarriedUnit) → base_of d no_origin u ≡ distance d.earliest u.unit.dts
unfolding base_by
base_at_no d u = rw (base_first u.packet u.unit.dts) refl

origin_then : (d : Due) (u : CarriedUnit) → origin_after d no_origin (Some u) ≡ fixed (distance d.earliest u.unit.dts)
unfolding origin_after
origin_then d u = ap (λ (b : ℕ). origin_with no_origin u.packet u.unit.dts b) (base_at_no d u) ∙ origin_first (distance d.earliest u.unit.dts) u.packet u.unit.dts

pub fixes_first : (d : Due) (o : Origin) (u : CarriedUnit) → o ≡ no_origin → Fixes d o (Some u) (distance d.earliest u.unit.dts)
fixes_first d o u is = record {
  here = λ v e. ap (λ (o : Origin). base_of d o v) is ∙ base_at_no d v
      ∙ ap (λ (x : CarriedUnit). distance d.earliest x.unit.dts) (let same : v ≡ u = cc in same);
  then_fixed = ap (λ (o : Origin). origin_after d o (Some u)) is ∙ origin_then d u;
}
