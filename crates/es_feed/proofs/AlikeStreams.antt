-- A feed gives the same records for states that are alike.
use Rattle.std.proofs.Common.{◌≡◌, ◌∙◌, ℕ, ◌++◌, OnOk, Option, Result, Ok, Err, List, [], ◌∷◌, refl, sym, ap, ap₂, subst}
use Rattle.demux.specs.FoundSoFar.{taken_all}
use Rattle.demux.specs.KeptBodies.{all_but, bodies_left_out_but}
use Rattle.demux.specs.Stream.{StreamState, finished, found_in, pushed, taken}
use Rattle.pid_findings.specs.Views.{FindingView}
use Rattle.demux.proofs.KeptBodies.{ends_same, found_in_same, left_again, taken_same}
use Rattle.packet_pcr.specs.PacketPcr.{pcr_at}
use Rattle.fed_streams.specs.Feeding.{Fed, FeedView, fed_ends}
use Rattle.es_feed.specs.StreamFeeding.{AreAlike, fed_rest, stream_pids}
use Rattle.packet_pcr.specs.declared.pcr_reading.FoundPcr.{FoundPcr}
use Rattle.fed_streams.specs.Ticks.{after_packet, after_packets, fed_packet, fed_packets}
use Rattle.es_feed.proofs.OtherPids.{found_after, found_fed, packet_after, packet_feeds, packet_pids}

-- Whether states are alike for a feed depends on the PIDs of its streams alone.
pub alike_as : (first feed : FeedView) (s t : StreamState) → stream_pids feed ≡ stream_pids first → AreAlike first s t → AreAlike feed s t
alike_as first feed s t are same = subst (λ (kept : List ℕ). bodies_left_out_but kept s ≡ bodies_left_out_but kept t) (sym are) same

-- A state without the bodies of other PIDs is alike.
pub left_alike : (feed : FeedView) (old new : StreamState) (pids : List ℕ) → pids ≡ stream_pids feed →
    new ≡ bodies_left_out_but pids old → AreAlike feed new old
left_alike feed old new pids are left =
    let kept = stream_pids feed in
    ap (λ (s : StreamState). bodies_left_out_but kept s) (left ∙ ap (λ (ks : List ℕ). bodies_left_out_but ks old) are) ∙ left_again kept old

-- States that are alike for the feed after a packet are alike for the feed before it.
pub then_alike : {V E : Type 0} (result : Result V E) (feed next : FeedView) (s mid new : StreamState) (found : List FindingView) (pcr : Option FoundPcr) →
    mid ≡ s → next ≡ after_packet feed found pcr → OnOk result (AreAlike next new mid) → OnOk result (AreAlike feed new s)
then_alike (Ok v) feed next s mid new found pcr is goes left =
    alike_as next feed new mid (sym (ap stream_pids goes ∙ packet_pids feed found pcr)) left
    ∙ ap (λ (t : StreamState). bodies_left_out_but (stream_pids feed) t) is
then_alike (Err e) feed next s mid new found pcr is goes left = tt

pub packets_pids : (s : StreamState) (feed : FeedView) (ps : List (List ℕ)) → stream_pids (after_packets s feed ps) ≡ stream_pids feed
unfolding after_packets
packets_pids s feed [] = refl
packets_pids s feed (p ∷ ps) =
    packets_pids (taken s p) (after_packet feed (found_in s p) (pcr_at s.packets p)) ps ∙ packet_pids feed (found_in s p) (pcr_at s.packets p)

-- States that are alike stay alike after a packet, and after several.
pub taken_alike : (feed : FeedView) (s t : StreamState) (p : List ℕ) → AreAlike feed s t → AreAlike feed (taken s p) (taken t p)
taken_alike feed s t p same =
    let kept = stream_pids feed in
    sym (taken_same kept s p) ∙ ap (λ (x : StreamState). bodies_left_out_but kept (taken x p)) same ∙ taken_same kept t p

found_alike : (feed : FeedView) (s t : StreamState) (p : List ℕ) → AreAlike feed s t →
    all_but (stream_pids feed) (found_in s p) ≡ all_but (stream_pids feed) (found_in t p)
found_alike feed s t p same =
    let kept = stream_pids feed in
    sym (found_in_same kept s p) ∙ ap (λ (x : StreamState). all_but kept (found_in x p)) same ∙ found_in_same kept t p

count_alike : (feed : FeedView) (s t : StreamState) → AreAlike feed s t → s.packets ≡ t.packets
count_alike feed s t same = ap (λ (x : StreamState). x.packets) same

pub all_alike : (feed : FeedView) (s t : StreamState) (ps : List (List ℕ)) → AreAlike feed s t → AreAlike feed (taken_all s ps) (taken_all t ps)
unfolding taken_all
all_alike feed s t [] same = same
all_alike feed s t (p ∷ ps) same = all_alike feed (taken s p) (taken t p) ps (taken_alike feed s t p same)

one_after : (feed : FeedView) (s t : StreamState) (p : List ℕ) → AreAlike feed s t →
    after_packet feed (found_in s p) (pcr_at s.packets p) ≡ after_packet feed (found_in t p) (pcr_at t.packets p)
one_after feed s t p same =
    packet_after feed (stream_pids feed) (found_in s p) (found_in t p) (pcr_at s.packets p) refl (found_alike feed s t p same)
    ∙ ap (λ (n : ℕ). after_packet feed (found_in t p) (pcr_at n p)) (count_alike feed s t same)

one_feeds : (feed : FeedView) (s t : StreamState) (p : List ℕ) → AreAlike feed s t →
    fed_packet feed (found_in s p) (pcr_at s.packets p) ≡ fed_packet feed (found_in t p) (pcr_at t.packets p)
one_feeds feed s t p same =
    packet_feeds feed (stream_pids feed) (found_in s p) (found_in t p) (pcr_at s.packets p) refl (found_alike feed s t p same)
    ∙ ap (λ (n : ℕ). fed_packet feed (found_in t p) (pcr_at n p)) (count_alike feed s t same)

-- After a packet of a state that is alike, the feed has the same streams.
next_alike : (feed : FeedView) (s t u : StreamState) (p : List ℕ) → AreAlike feed s t →
    AreAlike (after_packet feed (found_in u p) (pcr_at u.packets p)) (taken s p) (taken t p)
next_alike feed s t u p same =
    alike_as feed (after_packet feed (found_in u p) (pcr_at u.packets p)) (taken s p) (taken t p) (packet_pids feed (found_in u p) (pcr_at u.packets p))
    (taken_alike feed s t p same)

pub after_alike : (feed : FeedView) (s t : StreamState) (ps : List (List ℕ)) → AreAlike feed s t → after_packets s feed ps ≡ after_packets t feed ps
unfolding after_packets
after_alike feed s t [] same = refl
after_alike feed s t (p ∷ ps) same =
    after_alike (after_packet feed (found_in s p) (pcr_at s.packets p)) (taken s p) (taken t p) ps (next_alike feed s t s p same)
    ∙ ap (λ (x : FeedView). after_packets (taken t p) x ps) (one_after feed s t p same)

pub fed_alike : (feed : FeedView) (s t : StreamState) (ps : List (List ℕ)) → AreAlike feed s t → fed_packets s feed ps ≡ fed_packets t feed ps
unfolding fed_packets
fed_alike feed s t [] same = refl
fed_alike feed s t (p ∷ ps) same =
    let next = after_packet feed (found_in s p) (pcr_at s.packets p) in
    ap (λ (xs : List Fed). fed_packet feed (found_in s p) (pcr_at s.packets p) ++ xs)
    (fed_alike next (taken s p) (taken t p) ps (next_alike feed s t s p same))
    ∙ ap₂ (λ (xs : List Fed) (x : FeedView). xs ++ fed_packets (taken t p) x ps) (one_feeds feed s t p same) (one_after feed s t p same)

-- The end of states that are alike gives the same records.
pub rest_alike : (feed : FeedView) (s t : StreamState) (rest : List ℕ) → AreAlike feed s t → fed_rest s feed rest ≡ fed_rest t feed rest
rest_alike feed s t rest same =
    let kept = stream_pids feed in
    let fs = (finished (pushed s rest)).found in
    let gs = (finished (pushed t rest)).found in
    let ends : all_but kept fs ≡ all_but kept gs =
    sym (ends_same kept s rest) ∙ ap (λ (x : StreamState). all_but kept (finished (pushed x rest)).found) same ∙ ends_same kept t rest in
    ap₂ (λ (xs : List Fed) (x : FeedView). xs ++ fed_ends x) (found_fed feed feed.marking kept fs gs refl ends)
    (found_after feed feed.marking kept fs gs refl ends)
