-- The records of packets.
use Rattle.std.proofs.Common.{◌≡◌, ◌∙◌, ◌<◌, ◌≤◌, ℕ, ◌+◌, ◌*◌, ◌++◌, ◌/◌, false, Option, Some, None, List, [], ◌∷◌, All, length, take, drop, slice_get, refl}
use Rattle.std.proofs.Common.{sym, ap, ap₂, arith, take-add, length-append, drop_at}
use Rattle.std.specs.List.{concat}
use Rattle.std.specs.Simd.{first_chunks}
use Rattle.std.proofs.lemmas.List.{append_assoc, append-nil, map-append}
use Rattle.std.specs.Prelude.{Bool, true, if◌then◌else◌}
use Rattle.std.proofs.lemmas.List.Folds.{concat-append}
use Rattle.std.proofs.lemmas.List.Elements.{All-cons, All-head, All-nil, All-tail}
use Rattle.ts_packet.specs.PidList.{cut_packets}
use Rattle.ts_packet.proofs.Listing.{first_cut}
use Rattle.demux.specs.Stream.{StreamState, finished, found_in, pushed, taken}
use Rattle.demux.specs.FoundSoFar.{found_in_all, taken_all}
use Rattle.demux.specs.KeptBodies.{bodies_left_out_but}
use Rattle.pid_findings.specs.Views.{FindingView}
use Rattle.packet_pcr.specs.PacketPcr.{is_on, pcr_at}
use Rattle.fed_streams.specs.Maps.{MapView}
use Rattle.packet_pcr.specs.declared.pcr_reading.FoundPcr.{FoundPcr}
use Rattle.fed_streams.specs.Feeding.{Fed, FedStreamView, FeedView, after_at, after_all, after_one, after_place, fed_all, fed_ends, fed_to_end, greatest_of}
use Rattle.fed_streams.specs.Feeding.{place_from, watched}
use Rattle.es_feed.specs.Laws.{FedWithoutClock}
use Rattle.fed_streams.specs.Maps.{clock_pid, map_from, set_place}
use Rattle.es_feed.specs.StreamFeeding.{AreAlike, PacketFeedView, TakesPackets, fed_rest, is_packet, stream_pids}
use Rattle.es_feed.proofs.AlikeStreams.{after_alike, alike_as, fed_alike, packets_pids, taken_alike}
use Rattle.fed_streams.specs.Ticks.{after_end_at, after_late, after_own, after_packet, after_packets, after_passed, after_pcr, after_shown, after_tick}
use Rattle.fed_streams.specs.Ticks.{fed_packet}
use Rattle.fed_streams.specs.Ticks.{fed_packets, fed_pcr, is_tick, late_after, passed_from, with_shown, with_tick}
use Rattle.fed_streams.proofs.FedUnits.{in_turn}
use Rattle.es_units.specs.Marking.{MarkingView, all_marked, marked}

-- 1. Packets after earlier packets

pub taken_more : (s : StreamState) (ps qs : List (List ℕ)) → taken_all s (ps ++ qs) ≡ taken_all (taken_all s ps) qs
unfolding taken_all
taken_more s [] qs = refl
taken_more s (p ∷ ps) qs = taken_more (taken s p) ps qs

pub after_more : (s : StreamState) (feed : FeedView) (ps qs : List (List ℕ)) →
    after_packets s feed (ps ++ qs) ≡ after_packets (taken_all s ps) (after_packets s feed ps) qs
unfolding taken_all after_packets
after_more s feed [] qs = refl
after_more s feed (p ∷ ps) qs = after_more (taken s p) (after_packet feed (found_in s p) (pcr_at s.packets p)) ps qs

pub fed_more : (s : StreamState) (feed : FeedView) (ps qs : List (List ℕ)) →
    fed_packets s feed (ps ++ qs) ≡ fed_packets s feed ps ++ fed_packets (taken_all s ps) (after_packets s feed ps) qs
unfolding taken_all after_packets fed_packets
fed_more s feed [] qs = refl
fed_more s feed (p ∷ ps) qs =
    let one = fed_packet feed (found_in s p) (pcr_at s.packets p) in
    let next = after_packet feed (found_in s p) (pcr_at s.packets p) in
    ap (λ (xs : List Fed). one ++ xs) (fed_more (taken s p) next ps qs)
    ∙ sym (append_assoc one (fed_packets (taken s p) next ps) (fed_packets (taken_all (taken s p) ps) (after_packets (taken s p) next ps) qs))

pub All-both : (ps qs : List (List ℕ)) → All is_packet ps → All is_packet qs → All is_packet (ps ++ qs)
All-both [] qs a b = b
All-both (p ∷ ps) qs a b = All-cons is_packet p (ps ++ qs) (All-head is_packet p ps a) (All-both ps qs (All-tail is_packet p ps a) b)

pub packets_length : (ps : List (List ℕ)) → All is_packet ps → length (concat ps) ≡ 188 * length ps
packets_length [] a = refl
packets_length (p ∷ ps) a =
    let here : length p ≡ 188 = All-head is_packet p ps a in
    let rest = packets_length ps (All-tail is_packet p ps a) in
    omega (arith, length-append p (concat ps), here, rest)

-- 2. A walk over a list of packets

-- The packets of these bytes before this place have been taken.
pub record TakenSoFar (old new : PacketFeedView) (bytes : List ℕ) (at : ℕ) (before after : List Fed) : Type 0 where
  pub packets : List (List ℕ)
  pub sizes : All is_packet packets
  pub are : concat packets ≡ take at bytes
  pub within : at ≤ length bytes
  pub demux_is : AreAlike old.feed new.demux (taken_all old.demux packets)
  pub feed_is : new.feed ≡ after_packets old.demux old.feed packets
  pub fed_is : after ≡ before ++ fed_packets old.demux old.feed packets

pub none_taken : (s : PacketFeedView) (bytes : List ℕ) (fed : List Fed) → TakenSoFar s s bytes 0 fed fed
unfolding taken_all after_packets fed_packets
none_taken s bytes fed =
    record { packets = []; sizes = All-nil is_packet; are = refl; within = omega arith; demux_is = refl; feed_is = refl; fed_is = sym (append-nil fed) }

one_taken : (s : StreamState) (feed : FeedView) (p : List ℕ) → taken_all s (p ∷ []) ≡ taken s p
unfolding taken_all
one_taken s feed p = refl

one_after : (s : StreamState) (feed : FeedView) (p : List ℕ) → after_packets s feed (p ∷ []) ≡ after_packet feed (found_in s p) (pcr_at s.packets p)
unfolding after_packets
one_after s feed p = refl

one_fed : (s : StreamState) (feed : FeedView) (p : List ℕ) → fed_packets s feed (p ∷ []) ≡ fed_packet feed (found_in s p) (pcr_at s.packets p)
unfolding fed_packets
one_fed s feed p = append-nil (fed_packet feed (found_in s p) (pcr_at s.packets p))

pub one_more : (old mid new : PacketFeedView) (bytes rest packet : List ℕ) (at : ℕ) (before middle after : List Fed) →
    TakenSoFar old mid bytes at before middle → rest ≡ drop at bytes → at + 188 ≤ length bytes → packet ≡ take 188 rest → length packet ≡ 188 →
    AreAlike mid.feed new.demux (taken mid.demux packet) →
    new.feed ≡ after_packet mid.feed (found_in mid.demux packet) (pcr_at mid.demux.packets packet) →
    after ≡ middle ++ fed_packet mid.feed (found_in mid.demux packet) (pcr_at mid.demux.packets packet) →
    TakenSoFar old new bytes (at + 188) before after
one_more old mid new bytes rest packet at before middle after so is long front size takes feeds grows =
    let ps = so.packets in
    let kept = stream_pids old.feed in
    let f : mid.feed ≡ after_packets old.demux old.feed ps = so.feed_is in
    let pids : stream_pids mid.feed ≡ kept = ap stream_pids f ∙ packets_pids old.demux old.feed ps in
    let d : AreAlike mid.feed mid.demux (taken_all old.demux ps) = alike_as old.feed mid.feed mid.demux (taken_all old.demux ps) pids so.demux_is in
    let more : taken (taken_all old.demux ps) packet ≡ taken_all old.demux (ps ++ packet ∷ []) =
    sym (one_taken (taken_all old.demux ps) mid.feed packet) ∙ sym (taken_more old.demux ps (packet ∷ [])) in
    record {
      packets = ps ++ packet ∷ [];
      sizes = All-both ps (packet ∷ []) so.sizes (All-cons is_packet packet [] size (All-nil is_packet));
      are = concat-append ps (packet ∷ []) ∙ ap (λ (xs : List ℕ). concat ps ++ xs) (append-nil packet ∙ front ∙ ap (λ (r : List ℕ). take 188 r) is)
          ∙ ap (λ (xs : List ℕ). xs ++ take 188 (drop at bytes)) so.are ∙ sym (take-add at 188 bytes);
      within = long;
      demux_is = alike_as mid.feed old.feed new.demux (taken mid.demux packet) (sym pids) takes
          ∙ taken_alike old.feed mid.demux (taken_all old.demux ps) packet so.demux_is ∙ ap (λ (s : StreamState). bodies_left_out_but kept s) more;
      feed_is = feeds ∙ sym (one_after mid.demux mid.feed packet) ∙ after_alike mid.feed mid.demux (taken_all old.demux ps) (packet ∷ []) d
          ∙ ap (λ (t : FeedView). after_packets (taken_all old.demux ps) t (packet ∷ [])) f ∙ sym (after_more old.demux old.feed ps (packet ∷ []));
      fed_is = grows ∙ ap (λ (xs : List Fed). middle ++ xs) (sym (one_fed mid.demux mid.feed packet))
          ∙ ap (λ (xs : List Fed). middle ++ xs) (fed_alike mid.feed mid.demux (taken_all old.demux ps) (packet ∷ []) d)
          ∙ ap (λ (t : FeedView). middle ++ fed_packets (taken_all old.demux ps) t (packet ∷ [])) f
          ∙ ap (λ (xs : List Fed). xs ++ fed_packets (taken_all old.demux ps) (after_packets old.demux old.feed ps) (packet ∷ [])) so.fed_is
          ∙ append_assoc before (fed_packets old.demux old.feed ps) (fed_packets (taken_all old.demux ps) (after_packets old.demux old.feed ps) (packet ∷ []))
          ∙ ap (λ (xs : List Fed). before ++ xs) (sym (fed_more old.demux old.feed ps (packet ∷ [])));
    }

pub all_taken : (old new : PacketFeedView) (bytes : List ℕ) (at : ℕ) (before after : List Fed) → TakenSoFar old new bytes at before after →
    length bytes < at + 188 →
    TakesPackets old new bytes at before after
all_taken old new bytes at before after so few = record {
  packets = so.packets;
  sizes = so.sizes;
  are = so.are;
  within = so.within;
  all = few;
  demux_is = so.demux_is;
  feed_is = so.feed_is;
  fed_is = so.fed_is;
}

-- 3. Packets and some more bytes, cut

pub cut_all : (ps : List (List ℕ)) (rest : List ℕ) → All is_packet ps → cut_packets (concat ps ++ rest) ≡ ps ++ cut_packets rest
cut_all [] rest a = refl
cut_all (p ∷ ps) rest a =
    ap (λ (xs : List ℕ). cut_packets xs) (append_assoc p (concat ps) rest)
    ∙ first_cut p (concat ps ++ rest) (All-head is_packet p ps a)
    ∙ ap (λ (qs : List (List ℕ)). p ∷ qs) (cut_all ps rest (All-tail is_packet p ps a))

pub cut_none : (rest : List ℕ) → length rest < 188 → cut_packets rest ≡ []
cut_none rest few = let none : length rest / 188 ≡ 0 = omega arith in ap (λ (n : ℕ). first_chunks 188 n rest) none

pub cut_these : (ps : List (List ℕ)) (rest : List ℕ) → All is_packet ps → length rest < 188 → cut_packets (concat ps ++ rest) ≡ ps
cut_these ps rest a few = cut_all ps rest a ∙ ap (λ (qs : List (List ℕ)). ps ++ qs) (cut_none rest few) ∙ append-nil ps

pub left_these : (ps : List (List ℕ)) (rest : List ℕ) → All is_packet ps → drop (188 * length ps) (concat ps ++ rest) ≡ rest
left_these ps rest a = drop_at (concat ps) rest (188 * length ps) (packets_length ps a)

-- The records of the findings at the end of the packets, and then of the last units
pub rest_fed : (demux : StreamState) (feed next : FeedView) (rest : List ℕ) (shown : List FindingView) (before middle after : List Fed) →
    shown ≡ all_marked feed.marking (finished (pushed demux rest)).found → next ≡ after_all feed shown → middle ≡ before ++ fed_all feed shown →
    after ≡ middle ++ fed_ends next → after ≡ before ++ fed_rest demux feed rest
rest_fed demux feed next rest shown before middle after is goes one last =
    last ∙ ap₂ (λ (xs : List Fed) (t : FeedView). xs ++ fed_ends t) one goes
    ∙ append_assoc before (fed_all feed shown) (fed_ends (after_all feed shown))
    ∙ ap (λ (fs : List FindingView). before ++ fed_to_end feed fs) is

-- 4. Without a clock

pub findings_more : (feed : FeedView) (fs more : List FindingView) → after_all feed (fs ++ more) ≡ after_all (after_all feed fs) more
unfolding after_all
findings_more feed [] more = refl
findings_more feed (f ∷ fs) more = findings_more (after_one feed f) fs more

no_map_found : (f : FindingView) (maps : List MapView) → maps ≡ [] → set_place f (map_from f 0 maps) maps ≡ []
unfolding set_place map_from
no_map_found f maps none = rw none refl

at_maps : (feed : FeedView) (f : FindingView) (k : ℕ) (s : Option FedStreamView) → (after_at feed f k s).maps ≡ feed.maps
unfolding after_at
at_maps feed f k None = refl
at_maps feed f k (Some s) = refl

same_maps : (feed : FeedView) (f : FindingView) (place : Option ℕ) → (after_place feed f place).maps ≡ feed.maps
unfolding after_place
same_maps feed f None = refl
same_maps feed f (Some k) = at_maps feed f k (slice_get feed.streams k)

one_no_maps : (feed : FeedView) (f : FindingView) → feed.maps ≡ [] → (after_one feed f).maps ≡ []
one_no_maps feed f none = same_maps (watched feed f) f (place_from f.pid 0 feed.streams) ∙ no_map_found f feed.maps none

all_no_maps : (feed : FeedView) (fs : List FindingView) → feed.maps ≡ [] → (after_all feed fs).maps ≡ []
unfolding after_all
all_no_maps feed [] none = none
all_no_maps feed (f ∷ fs) none = all_no_maps (after_one feed f) fs (one_no_maps feed f none)

no_clock : (maps : List MapView) (pid : ℕ) → maps ≡ [] → is_on pid (clock_pid maps) ≡ false
unfolding clock_pid is_on
no_clock maps pid none = rw none refl

not_after : (feed : FeedView) (pcr : Option FoundPcr) → feed.maps ≡ [] → after_pcr feed pcr ≡ feed
unfolding after_pcr
not_after feed None none = refl
not_after feed (Some pcr) none = rw (no_clock feed.maps pcr.pid none) refl

not_fed : (feed : FeedView) (pcr : Option FoundPcr) → feed.maps ≡ [] → fed_pcr feed pcr ≡ []
unfolding fed_pcr
not_fed feed None none = refl
not_fed feed (Some pcr) none = rw (no_clock feed.maps pcr.pid none) refl

-- 5. The requested marks stay the same

if_marking : (b : Bool) (x y : FeedView) → x.marking ≡ y.marking → (if b then x else y).marking ≡ y.marking
if_marking true x y same = same
if_marking false x y same = refl

at_marking : (feed : FeedView) (f : FindingView) (k : ℕ) (s : Option FedStreamView) → (after_at feed f k s).marking ≡ feed.marking
unfolding after_at
at_marking feed f k None = refl
at_marking feed f k (Some s) = refl

place_marking : (feed : FeedView) (f : FindingView) (place : Option ℕ) → (after_place feed f place).marking ≡ feed.marking
unfolding after_place
place_marking feed f None = refl
place_marking feed f (Some k) = at_marking feed f k (slice_get feed.streams k)

one_marking : (feed : FeedView) (f : FindingView) → (after_one feed f).marking ≡ feed.marking
one_marking feed f = place_marking (watched feed f) f (place_from f.pid 0 feed.streams)

pub all_marking : (feed : FeedView) (fs : List FindingView) → (after_all feed fs).marking ≡ feed.marking
unfolding after_all
all_marking feed [] = refl
all_marking feed (f ∷ fs) = all_marking (after_one feed f) fs ∙ one_marking feed f

end_marking : (feed : FeedView) (k : ℕ) (s : Option FedStreamView) → (after_end_at feed k s).marking ≡ feed.marking
unfolding after_end_at
end_marking feed k None = refl
end_marking feed k (Some s) = refl

tick_marking : (feed : FeedView) (late : ℕ) → (after_tick feed late).marking ≡ feed.marking
tick_marking feed late = if_marking (is_tick (greatest_of feed) late) (with_tick feed late) feed refl

passed_marking : (feed : FeedView) (late : ℕ) (place : Option ℕ) → (after_passed feed late place).marking ≡ feed.marking
unfolding after_passed
passed_marking feed late None = tick_marking feed late
passed_marking feed late (Some k) = end_marking feed k (slice_get feed.streams k)

late_marking : (feed : FeedView) (late : Option ℕ) → (after_late feed late).marking ≡ feed.marking
unfolding after_late
late_marking feed None = refl
late_marking feed (Some late) = passed_marking feed late (passed_from feed.origin late 0 feed.streams)

shown_marking : (feed : FeedView) (pcr : FoundPcr) → (after_shown feed pcr).marking ≡ feed.marking
shown_marking feed pcr = late_marking (with_shown feed pcr) (late_after feed pcr)

own_marking : (feed : FeedView) (pcr : FoundPcr) → (after_own feed pcr).marking ≡ feed.marking
own_marking feed pcr = if_marking (is_on pcr.pid (clock_pid feed.maps)) (after_shown feed pcr) feed (shown_marking feed pcr)

pcr_marking : (feed : FeedView) (pcr : Option FoundPcr) → (after_pcr feed pcr).marking ≡ feed.marking
unfolding after_pcr
pcr_marking feed None = refl
pcr_marking feed (Some pcr) = own_marking feed pcr

pub packet_marking : (feed : FeedView) (found : List FindingView) (pcr : Option FoundPcr) → (after_packet feed found pcr).marking ≡ feed.marking
packet_marking feed found pcr =
    let marks = all_marked feed.marking found in
    pcr_marking (after_all feed marks) pcr ∙ all_marking feed marks

pub packets_marking : (s : StreamState) (feed : FeedView) (ps : List (List ℕ)) → (after_packets s feed ps).marking ≡ feed.marking
unfolding after_packets
packets_marking s feed [] = refl
packets_marking s feed (p ∷ ps) =
    let found = found_in s p in
    let pcr = pcr_at s.packets p in
    packets_marking (taken s p) (after_packet feed found pcr) ps ∙ packet_marking feed found pcr

pub marked_both : (m : MarkingView) (fs more : List FindingView) → all_marked m (fs ++ more) ≡ all_marked m fs ++ all_marked m more
marked_both m fs more = map-append (marked m) fs more

-- 6. The records without a clock

pub without_clock : FedWithoutClock
unfolding after_packets fed_packets found_in_all after_all fed_all
without_clock s feed [] none = (refl, refl)
without_clock s feed (p ∷ ps) none =
    let m = feed.marking in
    let found = all_marked m (found_in s p) in
    let pcr = pcr_at s.packets p in
    let next = after_all feed found in
    let left = all_no_maps feed found none in
    let later = without_clock (taken s p) next ps left in
    let same : next.marking ≡ m = all_marking feed found in
    let more = all_marked m (found_in_all (taken s p) ps) in
    let both : found ++ more ≡ all_marked m (found_in s p ++ found_in_all (taken s p) ps) = sym (marked_both m (found_in s p) (found_in_all (taken s p) ps)) in (
      ap (λ (t : FeedView). after_packets (taken s p) t ps) (not_after next pcr left) ∙ later.0
          ∙ ap (λ (k : MarkingView). after_all next (all_marked k (found_in_all (taken s p) ps))) same
          ∙ sym (findings_more feed found more) ∙ ap (λ (l : List FindingView). after_all feed l) both,
      ap (λ (xs : List Fed). (fed_all feed found ++ xs) ++ fed_packets (taken s p) (after_packet feed (found_in s p) pcr) ps) (not_fed next pcr left)
          ∙ ap (λ (xs : List Fed). xs ++ fed_packets (taken s p) (after_packet feed (found_in s p) pcr) ps) (append-nil (fed_all feed found))
          ∙ ap (λ (t : FeedView). fed_all feed found ++ fed_packets (taken s p) t ps) (not_after next pcr left)
          ∙ ap (λ (xs : List Fed). fed_all feed found ++ xs)
          (later.1 ∙ ap (λ (k : MarkingView). fed_all next (all_marked k (found_in_all (taken s p) ps))) same)
          ∙ sym (in_turn feed found more) ∙ ap (λ (l : List FindingView). fed_all feed l) both,
    )
