-- One constant moves the units of each stream of a description.
use Rattle.std.proofs.Common.{◌≡◌, ◌∙◌, ◌<◌, ◌≤◌, ℕ, zero, suc, ◌+◌, ◌-◌, ◌*◌, ◌/◌, ◌++◌, ◌^◌, true, Option, Some, None, List, [], ◌∷◌, All, map, length, take}
use Rattle.std.proofs.Common.{drop, slice_get, refl, sym, ap, subst, arith, drop-drop, length-drop, length-take-le, mul-le-mul_right, take-append-drop}
use Rattle.std.specs.List.{concat}
use Rattle.std.specs.Simd.{first_chunks}
use Rattle.std.proofs.lemmas.List.{append_assoc, append-nil, length-map}
use Rattle.std.proofs.lemmas.List.Elements.{All-cons, All-nil}
use Rattle.ts_packet.specs.PidList.{cut_packets}
use Rattle.demux.specs.Stream.{StreamState, finished, found_in, pushed, start, taken}
use Rattle.demux.specs.FoundSoFar.{FoundSoFar, found_in_all, taken_all}
use Rattle.pid_findings.specs.Views.{FindingView}
use Rattle.demux.proofs.FoundSoFar.{all_are_found, nothing_at_first, packets_add}
use Rattle.packet_sync.specs.Slips.{carried}
use Rattle.es_moments.specs.ApartUnits.{apart_from, apart_units}
use Rattle.es_moments.specs.Stamps.{moved}
use Rattle.es_units.specs.UnitSteps.{none_so_far}
use Rattle.packet_pcr.specs.PacketPcr.{pcr_at}
use Rattle.es_feed.specs.EachStream.{AreFirst, BeginsAt, EachRises, FedByOneConstant, ReleasesRise, RiseFrom, fed_stream, found_of_all, have_fault, units_fed}
use Rattle.fed_streams.specs.Feeding.{Fed, FedStreamView, FeedView, after_all, after_one, fed_all, fed_one, fed_to_end, feed_first}
use Rattle.es_feed.specs.StreamFeeding.{after_cut, fed_of, is_packet}
use Rattle.fed_streams.specs.Ticks.{after_packets, after_pcr, fed_packets, fed_pcr}
use Rattle.fed_streams.specs.Maps.{MapView}
use Rattle.packet_pcr.specs.declared.pcr_reading.FoundPcr.{FoundPcr}
use Rattle.es_feed.proofs.FedEach.{Event, Finds, Shows, after_event, coming, fed_event, fed_events, finds, found_by}
use Rattle.es_feed.proofs.FedFirst.{AreUnfed, AreWaiting, MovedByFirst, first_moved}
use Rattle.es_feed.proofs.FedPackets.{marked_both, packet_marking, packets_marking}
use Rattle.es_feed.proofs.FedRises.{rise_on}
use Rattle.fed_streams.proofs.ListedStreams.{AreKeys, Key, key, keys}
use Rattle.es_feed.proofs.OwnUnits.{AreAlone, alone_first, come_carried, to_come}
use Rattle.es_units.specs.Marking.{MarkingView, all_marked}
use Rattle.es_moments.specs.WireUnits.{CarriedUnit}

-- 1. Packets as findings and clock references

shows : Option FoundPcr → List Event
shows None = []
shows (Some pcr) = Shows pcr ∷ []

events : MarkingView → StreamState → List (List ℕ) → List Event
events m s [] = []
events m s (p ∷ ps) = map Finds (all_marked m (found_in s p)) ++ (shows (pcr_at s.packets p) ++ events m (taken s p) ps)

finding_events : (feed : FeedView) (fs : List FindingView) (es : List Event) → fed_events feed (map Finds fs ++ es) ≡ fed_all feed fs
    ++ fed_events (after_all feed fs) es
unfolding fed_events fed_event after_event fed_all after_all
finding_events feed [] es = refl
finding_events feed (f ∷ fs) es =
    ap (λ (xs : List Fed). fed_one feed f ++ xs) (finding_events (after_one feed f) fs es)
    ∙ sym (append_assoc (fed_one feed f) (fed_all (after_one feed f) fs) (fed_events (after_all (after_one feed f) fs) es))

clock_events : (feed : FeedView) (pcr : Option FoundPcr) (es : List Event) → fed_events feed (shows pcr ++ es) ≡ fed_pcr feed pcr
    ++ fed_events (after_pcr feed pcr) es
unfolding fed_events fed_event after_event shows fed_pcr after_pcr
clock_events feed None es = refl
clock_events feed (Some pcr) es = refl

packet_events : (s : StreamState) (feed : FeedView) (ps : List (List ℕ)) (es : List Event) →
    fed_events feed (events feed.marking s ps ++ es) ≡ fed_packets s feed ps ++ fed_events (after_packets s feed ps) es
unfolding events fed_packets after_packets
packet_events s feed [] es = refl
packet_events s feed (p ∷ ps) es =
    let found = all_marked feed.marking (found_in s p) in
    let pcr = pcr_at s.packets p in
    let later = events feed.marking (taken s p) ps in
    let next = after_all feed found in
    let on = after_pcr next pcr in
    let same : on.marking ≡ feed.marking = packet_marking feed (found_in s p) pcr in
    let rest = fed_events (after_packets (taken s p) on ps) es in
    ap (λ (l : List Event). fed_events feed l)
    (append_assoc (map Finds found) (shows pcr ++ later) es ∙ ap (λ (l : List Event). map Finds found ++ l) (append_assoc (shows pcr) later es))
    ∙ finding_events feed found (shows pcr ++ (later ++ es))
    ∙ ap (λ (xs : List Fed). fed_all feed found ++ xs) (clock_events next pcr (later ++ es)
    ∙ ap (λ (xs : List Fed). fed_pcr next pcr ++ xs)
    (ap (λ (k : MarkingView). fed_events on (events k (taken s p) ps ++ es)) (sym same) ∙ packet_events (taken s p) on ps es))
    ∙ sym (append_assoc (fed_all feed found) (fed_pcr next pcr) (fed_packets (taken s p) on ps ++ rest))
    ∙ sym (append_assoc (fed_all feed found ++ fed_pcr next pcr) (fed_packets (taken s p) on ps) rest)

finds_more : (a b : List Event) → finds (a ++ b) ≡ finds a ++ finds b
unfolding finds
finds_more [] b = refl
finds_more (e ∷ a) b = ap (λ (fs : List FindingView). found_by e ++ fs) (finds_more a b) ∙ sym (append_assoc (found_by e) (finds a) (finds b))

finds_found : (fs : List FindingView) → finds (map Finds fs) ≡ fs
unfolding finds found_by
finds_found [] = refl
finds_found (f ∷ fs) = ap (λ (l : List FindingView). f ∷ l) (finds_found fs)

finds_shown : (pcr : Option FoundPcr) → finds (shows pcr) ≡ []
unfolding finds found_by shows
finds_shown None = refl
finds_shown (Some pcr) = refl

finds_in : (m : MarkingView) (s : StreamState) (ps : List (List ℕ)) → finds (events m s ps) ≡ all_marked m (found_in_all s ps)
unfolding events found_in_all finds
finds_in m s [] = refl
finds_in m s (p ∷ ps) =
    let found = all_marked m (found_in s p) in
    let pcr = pcr_at s.packets p in
    let later = events m (taken s p) ps in
    finds_more (map Finds found) (shows pcr ++ later)
    ∙ ap (λ (l : List FindingView). l ++ finds (shows pcr ++ later)) (finds_found found)
    ∙ ap (λ (l : List FindingView). found ++ l)
    (finds_more (shows pcr) later ∙ ap (λ (l : List FindingView). l ++ finds later) (finds_shown pcr) ∙ finds_in m (taken s p) ps)
    ∙ sym (marked_both m (found_in s p) (found_in_all (taken s p) ps))

-- 2. Bytes as packets

put_back : (k : ℕ) (bytes : List ℕ) → concat (first_chunks 188 k bytes) ++ drop (188 * k) bytes ≡ bytes
put_back zero bytes = refl
put_back (suc k) bytes =
    let at : 188 * suc k ≡ 188 + 188 * k = omega arith in
    append_assoc (take 188 bytes) (concat (first_chunks 188 k (drop 188 bytes))) (drop (188 * suc k) bytes)
    ∙ ap (λ (xs : List ℕ). take 188 bytes ++ (concat (first_chunks 188 k (drop 188 bytes)) ++ xs))
    (ap (λ (i : ℕ). drop i bytes) at ∙ sym (drop-drop (188 * k) 188 bytes))
    ∙ ap (λ (xs : List ℕ). take 188 bytes ++ xs) (put_back k (drop 188 bytes))
    ∙ take-append-drop 188 bytes

sizes : (k : ℕ) (bytes : List ℕ) → 188 * k ≤ length bytes → All is_packet (first_chunks 188 k bytes)
sizes zero bytes fits = All-nil is_packet
sizes (suc k) bytes fits =
    let left : length (drop 188 bytes) ≡ length bytes - 188 = length-drop 188 bytes in
    All-cons is_packet (take 188 bytes) (first_chunks 188 k (drop 188 bytes)) (length-take-le 188 bytes (omega (arith, fits)))
    (sizes k (drop 188 bytes) (omega (arith, left, fits)))

chunk_count : (k : ℕ) (bytes : List ℕ) → length (first_chunks 188 k bytes) ≡ k
chunk_count zero bytes = refl
chunk_count (suc k) bytes = let rest = chunk_count k (drop 188 bytes) in omega (arith, rest)

cut_back : (bytes : List ℕ) → concat (cut_packets bytes) ++ after_cut bytes ≡ bytes
cut_back bytes =
    let k = length bytes / 188 in
    ap (λ (n : ℕ). concat (cut_packets bytes) ++ drop (188 * n) bytes) (chunk_count k bytes) ∙ put_back k bytes

cut_sizes : (bytes : List ℕ) → All is_packet (cut_packets bytes)
cut_sizes bytes = let fits : 188 * (length bytes / 188) ≤ length bytes = omega arith in sizes (length bytes / 188) bytes fits

abbrev rest_found : List ℕ → List FindingView
rest_found bytes = (finished (pushed (taken_all start (cut_packets bytes)) (after_cut bytes))).found

abbrev all_events : MarkingView → List ℕ → List Event
all_events m bytes = events m start (cut_packets bytes) ++ map Finds (all_marked m (rest_found bytes))

all_finds : (m : MarkingView) (bytes : List ℕ) → finds (all_events m bytes) ≡ all_marked m (finished (pushed start bytes)).found
all_finds m bytes =
    let ps = cut_packets bytes in
    let rest = after_cut bytes in
    let s = taken_all start ps in
    let found = found_in_all start ps in
    let h : FoundSoFar (concat ps) s found = packets_add [] ps start [] nothing_at_first refl (cut_sizes bytes) in
    let last = all_marked m (rest_found bytes) in
    finds_more (events m start ps) (map Finds last)
    ∙ ap (λ (l : List FindingView). l ++ finds (map Finds last)) (finds_in m start ps)
    ∙ ap (λ (l : List FindingView). all_marked m found ++ l) (finds_found last)
    ∙ sym (marked_both m found (rest_found bytes))
    ∙ ap (λ (l : List FindingView). all_marked m l) (sym (all_are_found (concat ps) rest s found h).2)
    ∙ ap (λ (xs : List ℕ). all_marked m (finished (pushed start xs)).found) (cut_back bytes)

last_events : (feed : FeedView) (fs : List FindingView) → fed_events feed (map Finds fs) ≡ fed_to_end feed fs
unfolding fed_events
last_events feed fs =
    ap (λ (l : List Event). fed_events feed l) (sym (append-nil (map Finds fs))) ∙ finding_events feed fs []

all_fed : (first : FeedView) (bytes : List ℕ) → fed_of first bytes ≡ fed_events first (all_events first.marking (carried bytes))
all_fed first bytes =
    let ps = cut_packets (carried bytes) in
    let fs = all_marked first.marking (rest_found (carried bytes)) in
    let same : (after_packets start first ps).marking ≡ first.marking = packets_marking start first ps in
    ap (λ (k : MarkingView). fed_packets start first ps ++ fed_to_end (after_packets start first ps) (all_marked k (rest_found (carried bytes)))) same
    ∙ sym (packet_events start first ps (map Finds fs)
    ∙ ap (λ (xs : List Fed). fed_packets start first ps ++ xs) (last_events (after_packets start first ps) fs))

-- 3. Streams before their first unit

first_at : (streams : List FedStreamView) (k : ℕ) (x : Key) → slice_get (keys streams) k ≡ Some x →
    (s : FedStreamView) × (slice_get streams k ≡ Some s) × (key s ≡ x)
first_at [] k x at = absurd cc
first_at (s ∷ streams) zero x at = (s, refl, let is : key s ≡ x = cc in is)
first_at (s ∷ streams) (suc k) x at = first_at streams k x at

pub first_stream : (streams : List FedStreamView) (k : ℕ) → k < length streams → (s : FedStreamView) × (slice_get streams k ≡ Some s)
first_stream [] k below = absurd (let no : ⊥ = omega (arith, below) in no)
first_stream (s ∷ streams) zero below = (s, refl)
first_stream (s ∷ streams) (suc k) below = let less : k < length streams = omega (arith, below) in first_stream streams k less

first_keys : (streams : List FedStreamView) → AreFirst streams → AreKeys (keys streams)
first_keys streams a = record {
  number = λ k x at.
      let s = first_at streams k x at in
      ap (λ (y : Key). y.number) (sym s.2) ∙ ap (λ (t : FedStreamView). t.number) (a.each k s.0 s.1);
  own = λ j k x y one two same.
      let s = first_at streams j x one in
      let t = first_at streams k y two in
      a.own j k s.0 t.0 s.1 t.1 (ap (λ (z : Key). z.pid) s.2 ∙ same ∙ sym (ap (λ (z : Key). z.pid) t.2));
}

first_waits : (earliest : ℕ) (marking : MarkingView) (maps : List MapView) (streams : List FedStreamView) → earliest < 2 ^ 33 → AreFirst streams →
    AreWaiting earliest (keys streams) (feed_first earliest marking maps streams)
unfolding AreUnfed
first_waits earliest marking maps streams early a = record {
  are = first_keys streams a;
  is = refl;
  few = subst (λ (n : ℕ). n ≤ 255) (sym (length-map streams key)) a.few;
  earliest_is = refl;
  early = early;
  unknown = refl;
  unfed = λ i t at. ap (λ (s : FedStreamView). s.before) (a.each i t at);
}

-- 4. The laws

pub by_one_constant : FedByOneConstant
by_one_constant earliest marking maps streams bytes early a none =
    let first = feed_first earliest marking maps streams in
    let es = all_events marking (carried bytes) in
    let all = all_fed first bytes in
    let fs = all_marked marking (found_of_all bytes) in
    let m : MovedByFirst earliest (length (keys streams)) first es =
    first_moved earliest (keys streams) first es (first_waits earliest marking maps streams early a) (ap have_fault (sym all) ∙ none) in
    record {
      base = m.base;
      range = m.range;
      begins = subst (λ (xs : List Fed). BeginsAt earliest (length streams) xs) (sym all)
          (subst (λ (n : ℕ). BeginsAt earliest n (fed_events first es)) (length-map streams key) m.begins);
      moved_by = λ k s at alone.
          let pid = s.units.pid in
          let is : s ≡ fed_stream k pid = a.each k s at in
          let found : finds es ≡ fs = all_finds marking (carried bytes) in
          let units : s.units ≡ none_so_far pid true = ap (λ (t : FedStreamView). t.units) is in
          let before : s.before ≡ None = ap (λ (t : FedStreamView). t.before) is in
          let place : s.place ≡ 0 = ap (λ (t : FedStreamView). t.place) is in
          ap (λ (xs : List Fed). units_fed k xs) all
          ∙ (m.are_moved k s at
          (subst (λ u. AreAlone u (finds es)) (sym units)
          (subst (λ (l : List FindingView). AreAlone (none_so_far pid true) l) (sym found) (alone_first pid true fs alone)))).units
          ∙ ap (λ (b : Option ℕ). moved m.base b (map (λ (w : CarriedUnit). w.unit) (coming s (finds es)))) before
          ∙ ap (λ (p : ℕ). moved m.base None (map (λ (w : CarriedUnit). w.unit) (apart_from p (to_come s.units (finds es))))) place
          ∙ ap (λ u. moved m.base None (map (λ (w : CarriedUnit). w.unit) (apart_units (to_come u (finds es))))) units
          ∙ ap (λ (l : List FindingView). moved m.base None (map (λ (w : CarriedUnit). w.unit) (apart_units (to_come (none_so_far pid true) l)))) found
          ∙ ap (λ (ws : List CarriedUnit). moved m.base None (map (λ (w : CarriedUnit). w.unit) (apart_units ws))) (come_carried pid true fs alone);
    }

pub each_rises : EachRises
each_rises earliest k marking maps streams bytes a below =
    let first = feed_first earliest marking maps streams in
    let es = all_events marking (carried bytes) in
    let s = first_stream streams k below in
    let before : s.0.before ≡ None = ap (λ (t : FedStreamView). t.before) (a.each k s.0 s.1) in
    let fits : k < 255 = let few = a.few in omega (arith, below, few) in
    subst (λ (xs : List Fed). RiseFrom None (units_fed k xs)) (sym (all_fed first bytes))
    (subst (λ (b : Option ℕ). RiseFrom b (units_fed k (fed_events first es))) before
    (rise_on first es k s.0 (first_keys streams a) fits s.1))

pub releases_rise : ReleasesRise
releases_rise rate lead one other less =
    let after : one - lead ≤ other - lead = omega (arith, less) in
    let work : (one - lead) * rate ≤ (other - lead) * rate = mul-le-mul_right rate after in
    omega (arith, work)
