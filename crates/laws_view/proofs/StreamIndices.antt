-- The packets of a stream have rising indices.
use Rattle.std.proofs.Common.{◌≡◌, ℕ, suc, ◌+◌, ◌≤◌, ◌<◌, Bool, true, false, List, [], ◌∷◌, ◌++◌, length, Option, Some, None, refl, subst, nat_eq, arith}
use Rattle.ts_packet.specs.Views.{PacketView}
use Rattle.ts_packet.specs.Reading.{packet_at}
use Rattle.tstd_rows.specs.declared.arriving.Arriving.{Arriving}
use Rattle.laws_view.specs.StreamPackets.{Before, Followed, known_after, most_packets, seen_among, seen_in, sound_packet}
use Rattle.laws_view.proofs.EnteredBytes.{ComeFrom}

-- Each packet has the next index.
pub index_more : (f : Followed) (b : Before) (o : Option PacketView) → (known_after f b o).index ≡ b.index + 1
unfolding known_after
index_more f b None = refl
index_more f b (Some packet) = refl

-- The indices of the packets rise.
come_low : (low from : ℕ) (ps : List Arriving) → low ≤ from → ComeFrom from ps → ComeFrom low ps
unfolding ComeFrom
come_low low from [] le come = tt
come_low low from (p ∷ ps) le come = (omega (arith, le, come.0), come.1, come.2)

come_one : (f : Followed) (b : Before) (o : Option PacketView) (ps : List Arriving) → b.index < most_packets → ComeFrom (b.index + 1) ps →
    ComeFrom b.index (seen_in f b o ++ ps)
unfolding seen_in ComeFrom
come_one f b None ps early come = come_low b.index (b.index + 1) ps (omega arith) come
come_one f b (Some packet) ps early come = by (nat_eq f.pid packet.header.pid) refl
  where
    by : (w : Bool) → nat_eq f.pid packet.header.pid ≡ w → ComeFrom b.index (seen_in f b (Some packet) ++ ps)
    by true h =
        let next : b.index + 1 ≡ suc b.index = omega arith in
        let same : b.index ≤ b.index = omega arith in
        rw h (same, early, rw next at come)
    by false h = rw h (come_low b.index (b.index + 1) ps (omega arith) come)

pub they_come : (f : Followed) (b : Before) (packets : List (List ℕ)) → b.index + length packets ≤ most_packets → ComeFrom b.index (seen_among f b packets)
unfolding seen_among
they_come f b [] few = unfold ComeFrom in tt
they_come f b (bytes ∷ packets) few =
    let o = sound_packet (packet_at bytes) in
    let b' : Before = known_after f b o in
    let more = index_more f b o in
    let rest : ComeFrom (b.index + 1) (seen_among f b' packets) =
    subst (λ (i : ℕ). ComeFrom i (seen_among f b' packets)) more (they_come f b' packets (omega (arith, few, more))) in
    come_one f b o (seen_among f b' packets) (omega (arith, few)) rest
