-- The records of one stream, if no clock is known.
use Rattle.std.proofs.Common.{◌≡◌, ◌∙◌, ℕ, ◌+◌, ◌++◌, ◌||◌, ◌&&◌, Bool, true, false, Option, Some, None, Result, Ok, Err, List, [], ◌∷◌, map, refl, sym, ap}
use Rattle.std.proofs.Common.{ap₂, subst, arith}
use Rattle.std.specs.Option.{option_to_list}
use Rattle.std.specs.Prelude.{nat_lt, is_some, not}
use Rattle.std.proofs.lemmas.Bool.Decides.{nat_tests}
use Rattle.std.proofs.lemmas.Grind.{flat_map-append}
use Rattle.std.proofs.lemmas.List.{append_assoc, append-nil}
use Rattle.pes_packet.specs.AccessUnits.{AccessUnit}
use Rattle.pid_findings.specs.Views.{FindingView}
use Rattle.demux.specs.Laws.{has_pid}
use Rattle.es_units.specs.ApartSteps.{place_past, set_apart}
use Rattle.es_moments.specs.ApartUnits.{has_same}
use Rattle.es_units.specs.CarriedUnits.{Ignored, role_of, carried_units}
use Rattle.es_moments.specs.Stamps.{distance, dts_at, unit_at, moved, unit_fault, fault_or, first_fault}
use Rattle.es_units.specs.UnitSteps.{UnitsSoFar, after_finding, after_findings, ended_unit, given, goes_on_as, has_cut, is_start_cut, made_whole, none_so_far}
use Rattle.es_units.specs.UnitSteps.{start_of}
use Rattle.es_moments.specs.declared.stamps.StampFault.{StampFault}
use Rattle.fed_streams.specs.declared.feed_fault.FeedFault.{FeedFault}
use Rattle.fed_streams.specs.declared.feed_fault.Loss.{Loss}
use Rattle.fed_streams.specs.Maps.{change_place, map_from, other_place, set_place}
use Rattle.fed_streams.specs.Origins.{base_for, is_doubtful, no_origin, origin_with}
use Rattle.fed_streams.specs.declared.due.Due.{Due}
use Rattle.fed_streams.specs.declared.origin.Origin.{Origin}
use Rattle.fed_streams.specs.Feeding.{FedStreamView, Fed, FeedView, ahead_of, unless_ahead, unless_fault, at_moment, last_dts, base_by, base_of, origin_after}
use Rattle.fed_streams.specs.Feeding.{before_with, fed_with, stream_with, fed_by, whole_by, after_found, lost_by, stray_after, stray_of, reported_by}
use Rattle.fed_streams.specs.Feeding.{reported_fed, fault_fed, fault_by, unit_after}
use Rattle.fed_streams.specs.Feeding.{follow_after, made_by, place_by, same_by, greatest_if, place_from, after_at, fed_at, after_place, fed_place, after_unit}
use Rattle.fed_streams.specs.Feeding.{fed_unit, map_fed, after_one}
use Rattle.fed_streams.specs.Feeding.{fed_one, after_all, fed_all, fed_last, fed_ends, fed_to_end, greatest_of, is_fallen, other_fed, packet_fault, packet_fed}
use Rattle.fed_streams.specs.Feeding.{restart_fed, restart_in, restarted, seen_by, seen_in, seen_of, seen_place, watched, greatest_pts_limit}
use Rattle.es_feed.specs.EachStream.{has_fault, have_fault}
use Rattle.fed_streams.specs.Restarts.{fallen_after, origin_by, restart_of}
use Rattle.fed_streams.specs.declared.feed_fault.PacketFault.{PacketFault}
use Rattle.fed_streams.specs.declared.feed_fault.Restart.{Restart}
use Rattle.fed_streams.specs.declared.restart.Seen.{Seen}
use Rattle.es_moments.proofs.ApartUnits.{none_same}
use Rattle.es_units.proofs.UnitSteps.{uncut_carried}
use Rattle.es_feed.specs.Laws.{FedAsCarried, beside_packets, has_loss, is_loss, is_of_packet, unless_packet}
use Rattle.es_feed.proofs.ApartOnes.{not_apart}
use Rattle.es_feed.proofs.OwnUnits.{to_come, to_come_more}
use Rattle.es_feed.proofs.Restarts.{fault_split, no_fall, no_restart}
use Rattle.es_units.specs.Marking.{no_marking}
use Rattle.fed_streams.proofs.UncutUnits.{Uncut, no_unit, past_here, uncut_step, under_cut}
use Rattle.es_moments.specs.WireUnits.{CarriedUnit}

-- 1. Consecutive units

timed : Due → Origin → ℕ → Option ℕ → List CarriedUnit → List Fed
timed d o n before [] = []
timed d o n before (w ∷ ws) =
    (n, at_moment d.greatest (base_of d o w) before w.unit) ∷ timed d (origin_with o w.packet w.unit.dts (base_of d o w)) n
    (last_dts before (at_moment d.greatest (base_of d o w) before w.unit)) ws

timed_one : (d : Due) (o : Origin) (n : ℕ) (before : Option ℕ) (w : Option CarriedUnit) (ws : List CarriedUnit) →
    timed d o n before (option_to_list w ++ ws) ≡ option_to_list (fed_with d o n before w) ++ timed d (origin_after d o w) n (before_with d o before w) ws
unfolding timed fed_with origin_after before_with
timed_one d o n before None ws = refl
timed_one d o n before (Some w) ws = refl

abbrev due_from : ℕ → Due
due_from e = record { earliest = e; greatest = None }

abbrev single : ℕ → Origin → FedStreamView → FeedView
single e o s = record { earliest = e; origin = o; shown = None; earlier = None; ticked = 0; marking = no_marking; maps = []; streams = s ∷ []; fallen = None }

pub other_role : (pid : ℕ) (f : FindingView) → has_pid pid f.pid ≡ false → role_of pid f ≡ Ignored
unfolding role_of
other_role pid f other = rw other refl

-- This finding cuts no unit of the stream; the stream has a current unit exactly if units follow one another.
record IsQuiet (s : FedStreamView) (f : FindingView) : Type 0 where
  follows : s.follow ≡ is_some s.units.unit
  goes_on : (is_some s.units.unit && not (is_some (unit_after s f))) ≡ false

same_follow : (follow before after quiet : Bool) → follow ≡ before → (before && not after) ≡ false → (after || (follow && quiet)) ≡ after
same_follow follow before true quiet is on = refl
same_follow follow true false quiet is on = absurd cc
same_follow follow false false quiet is on = rw is refl

other_follow : (follow before reported : Bool) → follow ≡ before → (before || (follow && reported)) ≡ follow
other_follow follow true reported is = sym is
other_follow follow false reported is = rw is refl

-- The finding reports at most payload outside a PES packet.
only_stray : (s : FedStreamView) (f : FindingView) → IsQuiet s f → lost_by f.packet f.what ≡ None → reported_by s f ≡ fault_by None None (stray_of s f)
only_stray s f quiet lost =
    let cuts : (s.follow && not (is_some (unit_after s f))) ≡ false = ap (λ (b : Bool). b && not (is_some (unit_after s f))) quiet.follows ∙ quiet.goes_on in
    rw (lost, cuts) refl

-- Whether payload outside a PES packet has begun, after a finding of the stream's PID or of another PID
unfoldable stray_with : Bool → FedStreamView → FindingView → Bool
stray_with true s f = stray_after s.stray f.what
stray_with false s f = s.stray

abbrev with_stray : Bool → FedStreamView → FedStreamView
with_stray stray s = record s { stray = stray }

no_loss : (own : Bool) (loss : Option Loss) → (own && is_loss loss) ≡ false → own ≡ true → loss ≡ None
unfolding is_loss
no_loss own None none is = refl
no_loss true (Some loss) none is = absurd cc
no_loss false (Some loss) none is = absurd cc

other_after : (e : ℕ) (o : Origin) (s : FedStreamView) (f : FindingView) → s.follow ≡ is_some s.units.unit → role_of s.units.pid f ≡ Ignored →
    single e o s ≡ single e o (with_stray s.stray (stream_with (due_from e) o (after_found s f) None))
unfolding before_with goes_on_as made_whole place_past
other_after e o s f follows other =
    let with_these = λ (u : UnitsSoFar) (b : Bool) (p : ℕ).
    single e o (record { number = s.number; before = s.before; units = u; follow = b; stray = s.stray; place = p }) in
    let units : after_finding s.units f ≡ s.units = rw other refl in
    let same : follow_after s f ≡ s.follow =
    ap (λ (u : UnitsSoFar). is_some u.unit || (s.follow && not (is_some (reported_by s f)))) units
    ∙ other_follow s.follow (is_some s.units.unit) (not (is_some (reported_by s f))) follows in
    let placed : place_by s f ≡ s.place = rw other refl in
    let t = after_found s f in
    sym (ap (λ (p : ℕ). with_these t.units t.follow p) placed
    ∙ ap (λ (b : Bool). with_these (after_finding s.units f) b s.place) same ∙ ap (λ (u : UnitsSoFar). with_these u s.follow s.place) units)

calm : (e : ℕ) (o : Origin) (s : FedStreamView) (start : Option (ℕ × ℕ)) (x : Option Fed) → is_fallen x ≡ false →
    restarted (single e o s) (seen_of None start x) ≡ single e o s
unfolding seen_of fallen_after restart_of origin_by
calm e o s None x quiet = refl
calm e o s (Some (packet, stamp)) x quiet = rw quiet refl

single_unit_after : (e : ℕ) (o : Origin) (s : FedStreamView) (f : FindingView) → has_pid s.units.pid f.pid ≡ true →
    after_unit (watched (single e o s) f) f ≡ single e (origin_after (due_from e) o (whole_by s f))
    (stream_with (due_from e) o (after_found s f) (whole_by s f))
unfolding map_from set_place place_from after_place after_at greatest_if
single_unit_after e o s f own = rw own refl

single_seen : (e : ℕ) (o : Origin) (s : FedStreamView) (f : FindingView) → has_pid s.units.pid f.pid ≡ true →
    seen_in (watched (single e o s) f) f ≡ seen_of None (start_of (whole_by s f)) (fed_by (due_from e) o s (whole_by s f))
unfolding map_from set_place place_from seen_place seen_by greatest_if
single_seen e o s f own = rw own refl

single_after_by : (e : ℕ) (o : Origin) (s : FedStreamView) (f : FindingView) (own : Bool) → s.follow ≡ is_some s.units.unit → has_pid s.units.pid f.pid ≡ own →
    is_fallen (fed_by (due_from e) o s (whole_by s f)) ≡ false →
    after_one (single e o s) f ≡ single e (origin_after (due_from e) o (whole_by s f))
    (with_stray (stray_with own s f) (stream_with (due_from e) o (after_found s f) (whole_by s f)))
unfolding map_from set_place place_from after_place origin_after before_with made_whole set_apart seen_place restart_of origin_by fallen_after stray_with
single_after_by e o s f true follows own quiet =
    let t = stream_with (due_from e) o (after_found s f) (whole_by s f) in
    ap₂ restarted (single_unit_after e o s f own) (single_seen e o s f own)
    ∙ calm e (origin_after (due_from e) o (whole_by s f)) t (start_of (whole_by s f)) (fed_by (due_from e) o s (whole_by s f)) quiet
single_after_by e o s f false follows own quiet =
    let other = other_role s.units.pid f own in
    let stays : after_one (single e o s) f ≡ single e o s = rw own refl in
    let none : whole_by s f ≡ None = rw other refl in
    stays ∙ rw none (other_after e o s f follows other)

neither : (a b : Bool) → (a || b) ≡ false → (a ≡ false) × (b ≡ false)
neither true b none = absurd cc
neither false b none = (refl, none)

-- The reports of a finding, if it has the stream's PID
unfoldable reported_if : Bool → FedStreamView → FindingView → List Fed
reported_if true s f = option_to_list (reported_fed s f)
reported_if false s f = []

single_fed_by : (e : ℕ) (o : Origin) (s : FedStreamView) (f : FindingView) (own : Bool) → has_pid s.units.pid f.pid ≡ own →
    is_fallen (fed_by (due_from e) o s (whole_by s f)) ≡ false →
    fed_one (single e o s) f ≡ option_to_list (packet_fed (packet_fault f)) ++ (option_to_list (fed_by (due_from e) o s (whole_by s f)) ++ reported_if own s f)
unfolding map_from set_place change_place map_fed place_from fed_place fed_at fed_with made_whole set_apart greatest_if seen_place restart_of restart_fed
    other_place other_fed reported_if
single_fed_by e o s f true own quiet =
    let unit = option_to_list (fed_by (due_from e) o s (whole_by s f)) in
    let reported = option_to_list (reported_fed s f) in
    let packet = option_to_list (packet_fed (packet_fault f)) in
    let g = after_unit (watched (single e o s) f) f in
    let here : fed_unit (watched (single e o s) f) f ≡ unit ++ reported = rw own refl in
    let calm : restart_in g (seen_in (watched (single e o s) f) f) ≡ None =
    ap (λ (seen : Seen). restart_in g seen) (single_seen e o s f own)
    ∙ no_restart (greatest_of g) g.fallen (start_of (whole_by s f)) (fed_by (due_from e) o s (whole_by s f)) quiet in
    ap₂ (λ (xs : List Fed) (r : Option Restart). packet ++ (xs ++ option_to_list (restart_fed r))) here calm
    ∙ ap (λ (xs : List Fed). packet ++ xs) (append-nil (unit ++ reported))
single_fed_by e o s f false own quiet = rw (own, other_role s.units.pid f own) refl

-- 2. Without the reports of packets that are not read

clear_head : (x : Fed) → has_fault x ≡ false → unless_packet x ≡ x ∷ []
unfolding has_fault unless_packet
clear_head (n, Ok u) none = refl
clear_head (n, Err fault) none = absurd cc

clear_beside : (xs : List Fed) → have_fault xs ≡ false → beside_packets xs ≡ xs
clear_beside [] none = refl
clear_beside (x ∷ xs) none =
    let two = neither (has_fault x) (have_fault xs) none in
    ap (λ (ys : List Fed). ys ++ beside_packets xs) (clear_head x two.0) ∙ ap (λ (ys : List Fed). x ∷ ys) (clear_beside xs two.1)

none_beside : (fault : Option PacketFault) → beside_packets (option_to_list (packet_fed fault)) ≡ []
unfolding packet_fed unless_packet is_of_packet
none_beside None = refl
none_beside (Some fault) = refl

stray_beside : (number : ℕ) (stray : Option ℕ) → beside_packets (option_to_list (fault_fed number (fault_by None None stray))) ≡ []
unfolding fault_by fault_fed unless_packet is_of_packet
stray_beside number None = refl
stray_beside number (Some packet) = refl

reported_beside : (s : FedStreamView) (f : FindingView) (own : Bool) → (own ≡ true → reported_by s f ≡ fault_by None None (stray_of s f)) →
    beside_packets (reported_if own s f) ≡ []
unfolding reported_if
reported_beside s f true silent =
    ap (λ (o : Option FeedFault). beside_packets (option_to_list (fault_fed s.number o))) (silent refl) ∙ stray_beside s.number (stray_of s f)
reported_beside s f false silent = refl

single_beside : (e : ℕ) (o : Origin) (s : FedStreamView) (f : FindingView) →
    (has_pid s.units.pid f.pid ≡ true → reported_by s f ≡ fault_by None None (stray_of s f)) →
    have_fault (option_to_list (fed_by (due_from e) o s (whole_by s f))) ≡ false →
    beside_packets (fed_one (single e o s) f) ≡ option_to_list (fed_by (due_from e) o s (whole_by s f))
single_beside e o s f silent clear =
    let unit = option_to_list (fed_by (due_from e) o s (whole_by s f)) in
    let packet = option_to_list (packet_fed (packet_fault f)) in
    let own = has_pid s.units.pid f.pid in
    let reported = reported_if own s f in
    ap beside_packets (single_fed_by e o s f own refl (no_fall (fed_by (due_from e) o s (whole_by s f)) clear))
    ∙ flat_map-append unless_packet packet (unit ++ reported)
    ∙ ap (λ (xs : List Fed). xs ++ beside_packets (unit ++ reported)) (none_beside (packet_fault f)) ∙ flat_map-append unless_packet unit reported
    ∙ ap (λ (xs : List Fed). beside_packets unit ++ xs) (reported_beside s f own silent) ∙ append-nil (beside_packets unit) ∙ clear_beside unit clear

fed_more : (feed : FeedView) (f : FindingView) (fs : List FindingView) → fed_to_end feed (f ∷ fs) ≡ fed_one feed f ++ fed_to_end (after_one feed f) fs
unfolding fed_all after_all
fed_more feed f fs = append_assoc (fed_one feed f) (fed_all (after_one feed f) fs) (fed_ends (after_all (after_one feed f) fs))

-- A stream without losses and cuts
record IsWhole (s : FedStreamView) (fs : List FindingView) : Type 0 where
  unlost : has_loss s.units.pid fs ≡ false
  uncut : has_cut s.units.pid fs ≡ false
  under : under_cut s.units.pid s.units.unit fs ≡ false
  follows : s.follow ≡ is_some s.units.unit

-- A finding of the stream reports at most payload outside a PES packet; after it the stream still has no losses or cuts.
record IsStep (s : FedStreamView) (f : FindingView) (fs : List FindingView) : Type 0 where
  silent : has_pid s.units.pid f.pid ≡ true → reported_by s f ≡ fault_by None None (stray_of s f)
  uncut : has_cut s.units.pid fs ≡ false
  unlost : has_loss s.units.pid fs ≡ false
  under : under_cut s.units.pid (unit_after s f) fs ≡ false
  follows : follow_after s f ≡ is_some (unit_after s f)

still_follows : (s : FedStreamView) (f : FindingView) → IsQuiet s f → follow_after s f ≡ is_some (unit_after s f)
still_follows s f quiet =
    same_follow s.follow (is_some s.units.unit) (is_some (unit_after s f)) (not (is_some (reported_by s f))) quiet.follows quiet.goes_on

whole_step : (s : FedStreamView) (f : FindingView) (fs : List FindingView) → IsWhole s (f ∷ fs) → IsStep s f fs
unfolding has_cut Uncut
whole_step s f fs whole =
    let pid = s.units.pid in
    let cut = neither (is_start_cut pid (role_of pid f) fs) (has_cut pid fs) whole.uncut in
    let lost = neither (has_pid pid f.pid && is_loss (lost_by f.packet f.what)) (has_loss pid fs) whole.unlost in
    let on = uncut_step pid s.units.unit (role_of pid f) fs (sym (past_here pid s.units.unit f fs) ∙ whole.under) cut.0 in
    let quiet : IsQuiet s f = record { follows = whole.follows; goes_on = on.1 } in
    let silent : has_pid pid f.pid ≡ true → reported_by s f ≡ fault_by None None (stray_of s f) =
    λ own. only_stray s f quiet (no_loss (has_pid pid f.pid) (lost_by f.packet f.what) lost.0 own) in
    record { silent = silent; uncut = cut.1; unlost = lost.1; under = on.0; follows = still_follows s f quiet }

-- The first of units that all have moments, and the units after it
timed_clear : (d : Due) (o : Origin) (n : ℕ) (before : Option ℕ) (w : Option CarriedUnit) (ws vs : List CarriedUnit) →
    have_fault (timed d o n before ((option_to_list w ++ ws) ++ vs)) ≡ false →
    (have_fault (option_to_list (fed_with d o n before w)) ≡ false) ×
    (have_fault (timed d (origin_after d o w) n (before_with d o before w) (ws ++ vs)) ≡ false)
timed_clear d o n before w ws vs clear =
    let parts = ap (λ (us : List CarriedUnit). timed d o n before us) (append_assoc (option_to_list w) ws vs) ∙ timed_one d o n before w (ws ++ vs) in
    fault_split (option_to_list (fed_with d o n before w)) (timed d (origin_after d o w) n (before_with d o before w) (ws ++ vs))
    (ap have_fault (sym parts) ∙ clear)

single_timed : (e : ℕ) (o : Origin) (s : FedStreamView) (fs : List FindingView) → IsWhole s fs → has_same (to_come s.units fs) ≡ false →
    have_fault (timed (due_from e) o s.number s.before (given s.units fs ++ option_to_list (ended_unit false (after_findings s.units fs).unit))) ≡ false →
    beside_packets (fed_to_end (single e o s) fs) ≡ timed (due_from e) o s.number s.before
    (given s.units fs ++ option_to_list (ended_unit false (after_findings s.units fs).unit))
unfolding fed_all after_all fed_last given after_findings timed greatest_if to_come
single_timed e o s [] whole alone clear =
    let d = due_from e in
    let w = ended_unit false s.units.unit in
    let last : fed_to_end (single e o s) [] ≡ timed d o s.number s.before (option_to_list w) =
    sym (ap (λ (ws : List CarriedUnit). timed d o s.number s.before ws) (sym (append-nil (option_to_list w))) ∙ timed_one d o s.number s.before w []) in
    ap beside_packets last ∙ clear_beside (timed d o s.number s.before (option_to_list w)) clear
single_timed e o s (f ∷ fs) whole alone clear =
    let d = due_from e in
    let step = whole_step s f fs whole in
    let none = not_apart s f fs (same_by s f) (made_by s f) refl refl step.under
    (ap has_same (sym (to_come_more s.units f fs)) ∙ alone) in
    let w = whole_by s f in
    let t = with_stray (stray_with (has_pid s.units.pid f.pid) s f) (stream_with d o (after_found s f) w) in
    let ends = option_to_list (ended_unit false (after_findings t.units fs).unit) in
    let later = given t.units fs ++ ends in
    let rest : IsWhole t fs = record { unlost = step.unlost; uncut = step.uncut; under = step.under; follows = step.follows } in
    let two = timed_clear d o s.number s.before w (given t.units fs) ends
    (ap (λ (x : Option CarriedUnit). have_fault (timed d o s.number s.before ((option_to_list x ++ given t.units fs) ++ ends))) none.whole ∙ clear) in
    let next = after_one (single e o s) f in
    ap beside_packets (fed_more (single e o s) f fs) ∙ flat_map-append unless_packet (fed_one (single e o s) f) (fed_to_end next fs)
    ∙ ap (λ (xs : List Fed). xs ++ beside_packets (fed_to_end next fs)) (single_beside e o s f step.silent two.0)
    ∙ ap (λ (feed : FeedView). option_to_list (fed_by d o s w) ++ beside_packets (fed_to_end feed fs))
    (single_after_by e o s f (has_pid s.units.pid f.pid) whole.follows refl (no_fall (fed_by d o s w) two.0))
    ∙ ap (λ (xs : List Fed). option_to_list (fed_by d o s w) ++ xs) (single_timed e (origin_after d o w) t fs rest none.later two.1)
    ∙ sym (timed_one d o s.number s.before w later)
    ∙ ap (λ (ws : List CarriedUnit). timed d o s.number s.before ws)
    (sym (append_assoc (option_to_list w) (given t.units fs) (option_to_list (ended_unit false (after_findings t.units fs).unit))))
    ∙ ap (λ (x : Option CarriedUnit). timed d o s.number s.before ((option_to_list x ++ given t.units fs) ++ ends)) none.whole

-- 3. Without a fault

no_fault : (place : ℕ) (o : Option StampFault) (next : Option (ℕ × StampFault)) → fault_or place o next ≡ None → (o ≡ None) × (next ≡ None)
unfolding fault_or
no_fault place None next is = (refl, is)
no_fault place (Some fault) next is = absurd cc

unit_dts : (base : ℕ) (before : Option ℕ) (u : AccessUnit) → (unit_at base before u).dts ≡ dts_at base before u.dts
unfolding unit_at
unit_dts base before u = refl

-- A constant that is fixed, if no clock has jumped
abbrev pub fixed : ℕ → Origin
fixed base = record { now = Some base; since = 0; before = None; doubtful = None }

not_before : (n : ℕ) → nat_lt n 0 ≡ false
not_before n = grind (arith, nat_tests)

pub base_first : (packet dts : ℕ) → base_for no_origin packet dts ≡ None
unfolding base_for is_doubtful
base_first packet dts = rw (not_before packet) refl

pub base_fixed : (base packet dts : ℕ) → base_for (fixed base) packet dts ≡ Some base
unfolding base_for is_doubtful
base_fixed base packet dts = rw (not_before packet) refl

pub origin_first : (base packet dts : ℕ) → origin_with no_origin packet dts base ≡ fixed base
unfolding origin_with is_doubtful
origin_first base packet dts = rw (not_before packet) refl

pub origin_fixed : (base packet dts : ℕ) → origin_with (fixed base) packet dts base ≡ fixed base
unfolding origin_with is_doubtful
origin_fixed base packet dts = rw (not_before packet) refl

base_is : (e base : ℕ) (w : CarriedUnit) → base_of (due_from e) (fixed base) w ≡ base
unfolding base_by
base_is e base w = rw (base_fixed base w.packet w.unit.dts) refl

timed_moved : (e base n place : ℕ) (before : Option ℕ) (ws : List CarriedUnit) →
    first_fault greatest_pts_limit base before place (map (λ w. w.unit) ws) ≡ None →
    timed (due_from e) (fixed base) n before ws ≡ map (λ (x : AccessUnit). (n, Ok x)) (moved base before (map (λ w. w.unit) ws))
unfolding timed first_fault moved unless_fault unless_ahead ahead_of last_dts
timed_moved e base n place before [] sound = refl
timed_moved e base n place before (w ∷ ws) sound =
    let d = due_from e in
    let u = w.unit in
    let two = no_fault place (unit_fault greatest_pts_limit base before u)
    (first_fault greatest_pts_limit base (Some (dts_at base before u.dts)) (place + 1) (map (λ w. w.unit) ws)) sound in
    let here : at_moment None base before u ≡ Ok (unit_at base before u) = ap (λ (o : Option StampFault). unless_fault None o (unit_at base before u)) two.0 in
    ap (λ (b : ℕ). (n, at_moment None b before u) ∷ timed d (origin_with (fixed base) w.packet w.unit.dts b) n (last_dts before (at_moment None b before u)) ws)
    (base_is e base w)
    ∙ ap (λ (o : Origin). (n, at_moment None base before u) ∷ timed d o n (last_dts before (at_moment None base before u)) ws) (origin_fixed base w.packet w.unit.dts)
    ∙ ap (λ (r : Result AccessUnit FeedFault). (n, r) ∷ timed d (fixed base) n (last_dts before r) ws) here
    ∙ ap (λ (x : ℕ). (n, Ok (unit_at base before u)) ∷ timed d (fixed base) n (Some x) ws) (unit_dts base before u)
    ∙ ap (λ (xs : List Fed). (n, Ok (unit_at base before u)) ∷ xs) (timed_moved e base n (place + 1) (Some (dts_at base before u.dts)) ws two.1)

base_at_first : (e : ℕ) (w : CarriedUnit) → base_of (due_from e) no_origin w ≡ distance e w.unit.dts
unfolding base_by
base_at_first e w = rw (base_first w.packet w.unit.dts) refl

first_fixes : (e n : ℕ) (w : CarriedUnit) (ws : List CarriedUnit) →
    timed (due_from e) no_origin n None (w ∷ ws) ≡ timed (due_from e) (fixed (distance e w.unit.dts)) n None (w ∷ ws)
unfolding timed
first_fixes e n w ws =
    let d = due_from e in
    let base = distance e w.unit.dts in
    let one = λ (o : Origin) (b : ℕ). (n, at_moment None b None w.unit) ∷ timed d o n (last_dts None (at_moment None b None w.unit)) ws in
    ap (λ (b : ℕ). one (origin_with no_origin w.packet w.unit.dts b) b) (base_at_first e w)
    ∙ ap (λ (o : Origin). one o base) (origin_first base w.packet w.unit.dts ∙ sym (origin_fixed base w.packet w.unit.dts))
    ∙ ap (λ (b : ℕ). one (origin_with (fixed base) w.packet w.unit.dts b) b) (sym (base_is e base w))

moved_by_first : (e n : ℕ) (ws : List CarriedUnit) (u : AccessUnit) (us : List AccessUnit) → map (λ w. w.unit) ws ≡ u ∷ us →
    first_fault greatest_pts_limit (distance e u.dts) None 0 (u ∷ us) ≡ None →
    timed (due_from e) no_origin n None ws ≡ map (λ (x : AccessUnit). (n, Ok x)) (moved (distance e u.dts) None (u ∷ us))
moved_by_first e n [] u us is sound = absurd cc
moved_by_first e n (w ∷ ws) u us is sound =
    let head : w.unit ≡ u = cc in
    let base : distance e w.unit.dts ≡ distance e u.dts = ap (λ (x : AccessUnit). distance e x.dts) head in
    let all = map (λ (w : CarriedUnit). w.unit) (w ∷ ws) in
    let whole : first_fault greatest_pts_limit (distance e w.unit.dts) None 0 all ≡ None =
    subst (λ (b : ℕ). first_fault greatest_pts_limit b None 0 all ≡ None) (sym base)
    (subst (λ (l : List AccessUnit). first_fault greatest_pts_limit (distance e u.dts) None 0 l ≡ None) (sym is) sound) in
    first_fixes e n w ws ∙ timed_moved e (distance e w.unit.dts) n 0 None (w ∷ ws) whole
    ∙ ap (λ (b : ℕ). map (λ (x : AccessUnit). (n, Ok x)) (moved b None all)) base
    ∙ ap (λ (l : List AccessUnit). map (λ (x : AccessUnit). (n, Ok x)) (moved (distance e u.dts) None l)) is

all_ok : (n : ℕ) (us : List AccessUnit) → have_fault (map (λ (x : AccessUnit). (n, Ok x)) us) ≡ false
unfolding has_fault
all_ok n [] = refl
all_ok n (u ∷ us) = all_ok n us

pub as_carried : FedAsCarried
unfolding to_come
as_carried earliest number pid fs u us uncut unlost is sound =
    let s : FedStreamView = record { number = number; before = None; units = none_so_far pid true; follow = false; stray = false; place = 0 } in
    let base = distance earliest u.dts in
    let carried = uncut_carried true pid fs uncut in
    let alone : has_same (to_come s.units fs) ≡ false = ap has_same (sym carried)
    ∙ none_same greatest_pts_limit base 0 None (carried_units pid fs)
    (subst (λ (l : List AccessUnit). first_fault greatest_pts_limit base None 0 l ≡ None) (sym is) sound) in
    let moves =
    ap (λ (ws : List CarriedUnit). timed (due_from earliest) no_origin number None ws) (sym carried)
    ∙ moved_by_first earliest number (carried_units pid fs) u us is sound in
    single_timed earliest no_origin s fs (record { unlost = unlost; uncut = uncut; under = no_unit pid fs; follows = refl }) alone
    (ap have_fault moves ∙ all_ok number (moved base None (u ∷ us)))
    ∙ moves
