-- The records of a stream, piece by piece.
use Rattle.std.proofs.Common.{◌≡◌, inl, inr, ◌∙◌, ◌<◌, ◌≤◌, ℕ, ◌+◌, ◌*◌, ◌++◌, Bool, true, false, List, [], length, take, drop, refl, sym, ap, subst, arith}
use Rattle.std.proofs.Common.{drop-drop, length-drop, length-take-le, take_all, take-append-drop}
use Rattle.std.specs.List.{concat}
use Rattle.std.proofs.lemmas.List.{append_assoc, append-nil, drop_all}
use Rattle.std.proofs.lemmas.List.Folds.{concat-append}
use Rattle.ts_packet.specs.PidList.{cut_packets}
use Rattle.demux.specs.Stream.{StreamState, start}
use Rattle.demux.specs.FoundSoFar.{taken_all}
use Rattle.demux.specs.KeptBodies.{bodies_left_out_but}
use Rattle.packet_sync.specs.Slips.{carried}
use Rattle.packet_sync.specs.Stretches.{IsOfPackets, IsStretch}
use Rattle.packet_sync.specs.declared.stretch.Stretch.{Stretch}
use Rattle.packet_sync.proofs.Stretches.{carried_few}
use Rattle.fed_streams.specs.Feeding.{Fed, FeedView}
use Rattle.es_feed.specs.StreamFeeding.{AreAlike, PacketFeedView, StreamFeedView, TakesPackets, IsFedBy, fed_in, fed_of, fed_rest, after_cut, FedIsBeginning}
use Rattle.es_feed.specs.StreamFeeding.{stream_pids}
use Rattle.fed_streams.specs.Ticks.{after_packets, fed_packets}
use Rattle.es_feed.proofs.AlikeStreams.{after_alike, alike_as, all_alike, fed_alike, packets_pids, rest_alike}
use Rattle.es_feed.proofs.FedPackets.{All-both, after_more, cut_all, cut_these, fed_more, left_these, packets_length, taken_more}

-- 1. More packets

-- A state that is alike for the first feed is alike for the current feed.
alike_now : (first : FeedView) (ps : List (List ℕ)) (old : PacketFeedView) → AreAlike first old.demux (taken_all start ps) →
    old.feed ≡ after_packets start first ps → AreAlike old.feed old.demux (taken_all start ps)
alike_now first ps old d f = alike_as first old.feed old.demux (taken_all start ps) (ap stream_pids f ∙ packets_pids start first ps) d

-- The records of more packets follow the records of the packets before.
fed_after : (first : FeedView) (ps qs : List (List ℕ)) (old : PacketFeedView) (gone before after : List Fed) →
    AreAlike first old.demux (taken_all start ps) → old.feed ≡ after_packets start first ps → gone ++ before ≡ fed_packets start first ps →
    after ≡ before ++ fed_packets old.demux old.feed qs → gone ++ after ≡ fed_packets start first (ps ++ qs)
fed_after first ps qs old gone before after d f so grown =
    ap (λ (xs : List Fed). gone ++ xs) grown ∙ sym (append_assoc gone before (fed_packets old.demux old.feed qs))
    ∙ ap (λ (xs : List Fed). xs ++ fed_packets old.demux old.feed qs) so
    ∙ ap (λ (xs : List Fed). fed_packets start first ps ++ xs) (fed_alike old.feed old.demux (taken_all start ps) qs (alike_now first ps old d f))
    ∙ ap (λ (t : FeedView). fed_packets start first ps ++ fed_packets (taken_all start ps) t qs) f
    ∙ sym (fed_more start first ps qs)

-- The packets of some bytes, with the carried bytes before and after them
packets_fed : (first : FeedView) (stream held later taking : List ℕ) (ended : Bool) (n : ℕ) (old new : PacketFeedView) (gone before after : List Fed) →
    (so : IsFedBy first stream ended (record { held = held; packets = old }) (gone ++ before)) → TakesPackets old new taking n before after →
    ((more : List ℕ) → (ended ≡ true → more ≡ []) → carried (held ++ more) ≡ take n taking ++ carried (later ++ more)) →
    IsFedBy first stream ended (record { held = later; packets = new }) (gone ++ after)
packets_fed first stream held later taking ended n old new gone before after so t carry =
    let ps = so.packets in
    let qs = t.packets in
    let pids : stream_pids old.feed ≡ stream_pids first = ap stream_pids so.feed_is ∙ packets_pids start first ps in
    record {
      packets = ps ++ qs;
      sizes = All-both ps qs so.sizes t.sizes;
      carries = λ more none. so.carries more none
          ∙ ap (λ (r : List ℕ). concat ps ++ r) (carry more none)
          ∙ ap (λ (r : List ℕ). concat ps ++ (r ++ carried (later ++ more))) (sym t.are)
          ∙ sym (append_assoc (concat ps) (concat qs) (carried (later ++ more)))
          ∙ ap (λ (r : List ℕ). r ++ carried (later ++ more)) (sym (concat-append ps qs));
      demux_is = alike_as old.feed first new.demux (taken_all old.demux qs) (sym pids) t.demux_is
          ∙ all_alike first old.demux (taken_all start ps) qs so.demux_is
          ∙ ap (λ (s : StreamState). bodies_left_out_but (stream_pids first) s) (sym (taken_more start ps qs));
      feed_is = t.feed_is ∙ after_alike old.feed old.demux (taken_all start ps) qs (alike_now first ps old so.demux_is so.feed_is)
          ∙ ap (λ (f : FeedView). after_packets (taken_all start ps) f qs) so.feed_is ∙ sym (after_more start first ps qs);
      fed_is = fed_after first ps qs old gone before after so.demux_is so.feed_is so.fed_is t.fed_is;
    }

-- 2. A stretch

pub stretch_fed : (first : FeedView) (stream bytes : List ℕ) (ended : Bool) (at n : ℕ) (rest taking : List ℕ) (s : Stretch) (old new : PacketFeedView)
    (gone before after : List Fed) →
    rest ≡ drop at bytes → taking ≡ take s.in_step rest → s.in_step + s.slipped ≤ length rest → s.in_step ≤ n → IsStretch rest ended s →
    TakesPackets old new taking n before after →
    IsFedBy first stream ended (record { held = drop at bytes; packets = old }) (gone ++ before) →
    IsFedBy first stream ended (record { held = drop (at + (s.in_step + s.slipped)) bytes; packets = new }) (gone ++ after)
stretch_fed first stream bytes ended at n rest taking s old new gone before after is takes within over stretch t so =
    let size = s.in_step + s.slipped in
    let left : drop size rest ≡ drop (at + size) bytes = ap (λ (r : List ℕ). drop size r) is ∙ drop-drop size at bytes in
    let long : length taking ≡ s.in_step = ap (length {A = ℕ}) takes ∙ length-take-le s.in_step rest (omega (arith, within)) in
    let all : take n taking ≡ take s.in_step rest = take_all n taking (omega (arith, long, over)) ∙ takes in
    packets_fed first stream (drop at bytes) (drop (at + size) bytes) taking ended n old new gone before after so t
    (λ more none. ap (λ (r : List ℕ). carried (r ++ more)) (sym is) ∙ stretch more none
    ∙ ap (λ (r : List ℕ). r ++ carried (drop size rest ++ more)) (sym all)
    ∙ ap (λ (r : List ℕ). take n taking ++ carried (r ++ more)) left)

-- 3. The packet that the end of a stream cuts

-- A stretch that is not taken as a whole is the stretch at the end.
pub is_last : (s : Stretch) (rest taking : List ℕ) (ended : Bool) (n : ℕ) (old new : PacketFeedView) (before after : List Fed) →
    taking ≡ take s.in_step rest → s.in_step + s.slipped ≤ length rest → n < s.in_step → IsOfPackets (length rest) ended s →
    TakesPackets old new taking n before after →
    (ended ≡ true) × (s.in_step ≡ length rest) × (s.slipped ≡ 0)
is_last s rest taking ended n old new before after takes within less (inr last) t = last
is_last s rest taking ended n old new before after takes within less (inl whole) t =
    let long : length taking ≡ s.in_step = ap (length {A = ℕ}) takes ∙ length-take-le s.in_step rest (omega (arith, within)) in
    let front : n ≡ 188 * length t.packets =
    sym (length-take-le n taking t.within) ∙ ap (length {A = ℕ}) (sym t.are) ∙ packets_length t.packets t.sizes in
    absurd (let no : ⊥ = omega (arith, whole.1, front, less, t.all, long) in no)

carried_all : (rest : List ℕ) (s : Stretch) → s.in_step ≡ length rest → s.slipped ≡ 0 → IsStretch rest true s → carried rest ≡ rest
carried_all rest s whole none stretch =
    ap (λ (r : List ℕ). carried r) (sym (append-nil rest)) ∙ stretch [] (λ e. refl)
    ∙ ap (λ (r : List ℕ). take s.in_step rest ++ carried r)
    (append-nil (drop (s.in_step + s.slipped) rest) ∙ drop_all (s.in_step + s.slipped) rest (omega (arith, whole)))
    ∙ ap (λ (r : List ℕ). take s.in_step rest ++ r) (carried_few [] (omega arith))
    ∙ append-nil (take s.in_step rest) ∙ take_all s.in_step rest (omega (arith, whole))

pub last_fed : (first : FeedView) (stream bytes : List ℕ) (at n : ℕ) (rest taking : List ℕ) (s : Stretch) (old new : PacketFeedView)
    (gone before after : List Fed) →
    rest ≡ drop at bytes → taking ≡ take s.in_step rest → s.in_step ≡ length rest → s.slipped ≡ 0 → IsStretch rest true s →
    TakesPackets old new taking n before after →
    IsFedBy first stream true (record { held = drop at bytes; packets = old }) (gone ++ before) →
    IsFedBy first stream true (record { held = drop (at + n) bytes; packets = new }) (gone ++ after)
last_fed first stream bytes at n rest taking s old new gone before after is takes whole none stretch t so =
    let all : taking ≡ rest = takes ∙ take_all s.in_step rest (omega (arith, whole)) in
    let left : drop n taking ≡ drop (at + n) bytes = ap (λ (r : List ℕ). drop n r) (all ∙ is) ∙ drop-drop n at bytes in
    let few : length (drop n taking) < 188 = omega (arith, length-drop n taking, t.all, t.within) in
    let carry : carried rest ≡ take n taking ++ carried (drop (at + n) bytes) =
    carried_all rest s whole none stretch ∙ sym all ∙ sym (take-append-drop n taking)
    ∙ ap (λ (r : List ℕ). take n taking ++ r) (sym (carried_few (drop n taking) few))
    ∙ ap (λ (r : List ℕ). take n taking ++ carried r) left in
    packets_fed first stream (drop at bytes) (drop (at + n) bytes) taking true n old new gone before after so t
    (λ more ends. ap (λ (r : List ℕ). carried (drop at bytes ++ r)) (ends refl) ∙ ap (λ (r : List ℕ). carried r) (append-nil (drop at bytes) ∙ sym is) ∙ carry
    ∙ ap (λ (r : List ℕ). take n taking ++ carried r) (sym (append-nil (drop (at + n) bytes)))
    ∙ ap (λ (r : List ℕ). take n taking ++ carried (drop (at + n) bytes ++ r)) (sym (ends refl)))

pub ended_last : (first : FeedView) (stream bytes : List ℕ) (ended : Bool) (at n : ℕ) (rest taking : List ℕ) (s : Stretch) (old new : PacketFeedView)
    (gone before after : List Fed) → ended ≡ true →
    rest ≡ drop at bytes → taking ≡ take s.in_step rest → s.in_step ≡ length rest → s.slipped ≡ 0 → IsStretch rest ended s →
    TakesPackets old new taking n before after →
    IsFedBy first stream ended (record { held = drop at bytes; packets = old }) (gone ++ before) →
    IsFedBy first stream ended (record { held = drop (at + n) bytes; packets = new }) (gone ++ after)
ended_last first stream bytes true at n rest taking s old new gone before after ends is takes whole none stretch t so =
    last_fed first stream bytes at n rest taking s old new gone before after is takes whole none stretch t so
ended_last first stream bytes false at n rest taking s old new gone before after ends is takes whole none stretch t so = absurd cc

-- 4. A piece, and the end

pub none_dropped : (first : FeedView) (stream bytes : List ℕ) (ended : Bool) (packets : PacketFeedView) (fed : List Fed) →
    IsFedBy first stream ended (record { held = bytes; packets = packets }) fed →
    IsFedBy first stream ended (record { held = drop 0 bytes; packets = packets }) fed
none_dropped first stream bytes ended packets fed so = so

pub piece_held : (first : FeedView) (stream piece held : List ℕ) (s : StreamFeedView) (fed : List Fed) → held ≡ s.held ++ piece →
    IsFedBy first stream false s fed →
    IsFedBy first (stream ++ piece) false (record { held = held; packets = s.packets }) fed
piece_held first stream piece held s fed is so = record {
  packets = so.packets;
  sizes = so.sizes;
  carries = λ more none.
      ap (λ (r : List ℕ). carried r) (append_assoc stream piece more) ∙ so.carries (piece ++ more) (λ e. absurd cc)
      ∙ ap (λ (r : List ℕ). concat so.packets ++ carried r) (sym (append_assoc s.held piece more))
      ∙ ap (λ (r : List ℕ). concat so.packets ++ carried (r ++ more)) (sym is);
  demux_is = so.demux_is;
  feed_is = so.feed_is;
  fed_is = so.fed_is;
}

pub then_ended : (first : FeedView) (stream : List ℕ) (s : StreamFeedView) (fed : List Fed) → IsFedBy first stream false s fed → IsFedBy first stream true s fed
then_ended first stream s fed so = record {
  packets = so.packets;
  sizes = so.sizes;
  carries = λ more none. so.carries more (λ e. absurd cc);
  demux_is = so.demux_is;
  feed_is = so.feed_is;
  fed_is = so.fed_is;
}

pub ready : (first : FeedView) (stream : List ℕ) (s : StreamFeedView) (before held : List ℕ) (packets : PacketFeedView) (fed : List Fed) →
    record { held = before; packets = packets } ≡ s → held ≡ before → IsFedBy first stream false s fed →
    IsFedBy first stream true (record { held = held; packets = packets }) fed
ready first stream s before held packets fed view is so =
    then_ended first stream (record { held = held; packets = packets }) fed
    (subst (λ (h : List ℕ). IsFedBy first stream false (record { held = h; packets = packets }) fed) (sym is)
    (subst (λ (t : StreamFeedView). IsFedBy first stream false t fed) (sym view) so))

all_carried : (first : FeedView) (stream rest : List ℕ) (packets : PacketFeedView) (fed : List Fed)
    (so : IsFedBy first stream true (record { held = rest; packets = packets }) fed) → length rest < 188 →
    carried stream ≡ concat so.packets ++ rest
all_carried first stream rest packets fed so few =
    ap (λ (r : List ℕ). carried r) (sym (append-nil stream)) ∙ so.carries [] (λ e. refl)
    ∙ ap (λ (r : List ℕ). concat so.packets ++ carried r) (append-nil rest)
    ∙ ap (λ (r : List ℕ). concat so.packets ++ r) (carried_few rest few)

pub ended_fed : (first : FeedView) (stream rest : List ℕ) (packets : PacketFeedView) (gone before after : List Fed) → length rest < 188 →
    after ≡ before ++ fed_rest packets.demux packets.feed rest →
    IsFedBy first stream true (record { held = rest; packets = packets }) (gone ++ before) → gone ++ after ≡ fed_of first stream
ended_fed first stream rest packets gone before after few grows so =
    let ps = so.packets in
    let all : carried stream ≡ concat ps ++ rest = all_carried first stream rest packets (gone ++ before) so few in
    let cut : cut_packets (carried stream) ≡ ps = ap (λ (r : List ℕ). cut_packets r) all ∙ cut_these ps rest so.sizes few in
    let left : after_cut (carried stream) ≡ rest =
    ap (λ (qs : List (List ℕ)). drop (188 * length qs) (carried stream)) cut ∙ ap (λ (r : List ℕ). drop (188 * length ps) r) all
    ∙ left_these ps rest so.sizes in
    ap (λ (xs : List Fed). gone ++ xs) grows
    ∙ sym (append_assoc gone before (fed_rest packets.demux packets.feed rest))
    ∙ ap (λ (xs : List Fed). xs ++ fed_rest packets.demux packets.feed rest) so.fed_is
    ∙ ap (λ (xs : List Fed). fed_packets start first ps ++ xs)
    (rest_alike packets.feed packets.demux (taken_all start ps) rest (alike_now first ps packets so.demux_is so.feed_is))
    ∙ ap (λ (f : FeedView). fed_packets start first ps ++ fed_rest (taken_all start ps) f rest) so.feed_is
    ∙ ap (λ (r : List ℕ). fed_in first ps r) (sym left)
    ∙ ap (λ (qs : List (List ℕ)). fed_in first qs (after_cut (carried stream))) (sym cut)

-- 5. The records so far are a beginning of all records

pub is_beginning : FedIsBeginning
is_beginning first bytes more s fed so =
    let ps = so.packets in
    let later = carried (s.held ++ more) in
    let all = carried (bytes ++ more) in
    let qs = cut_packets later in
    let rest = after_cut all in
    let cut : cut_packets all ≡ ps ++ qs = ap (λ (r : List ℕ). cut_packets r) (so.carries more (λ e. absurd cc)) ∙ cut_all ps later so.sizes in
    let new = fed_packets (taken_all start ps) (after_packets start first ps) qs in
    let last = fed_rest (taken_all start (ps ++ qs)) (after_packets start first (ps ++ qs)) rest in (
      new ++ last,
      ap (λ (xs : List (List ℕ)). fed_in first xs rest) cut
          ∙ ap (λ (xs : List Fed). xs ++ last) (fed_more start first ps qs)
          ∙ append_assoc (fed_packets start first ps) new last
          ∙ ap (λ (xs : List Fed). xs ++ (new ++ last)) (sym so.fed_is),
    )
