-- The packets of a stream, whatever their size, while its bytes arrive.
use Rattle.std.proofs.Common.{◌≡◌, ◌≤◌, ℕ, Bool, true, false, List, [], ◌++◌, length, drop, Option, None, Some, refl, sym, ap, ap₂, subst, ◌∙◌, arith}
use Rattle.std.proofs.Common.{append_assoc, append-nil}
use Rattle.std.proofs.lemmas.List.{drop_all}
use Rattle.packet_sync.specs.OtherPackets.{front_of, other_packets}
use Rattle.packet_sync.specs.PacketBytes.{AreInner, AreNext, inner_in, packet_bytes, packets_in}
use Rattle.packet_sync.specs.declared.packet_sizes.OtherPackets.{OtherPackets}
use Rattle.packet_sync.proofs.FrontBytes.{other_front}
use Rattle.es_feed.specs.StreamPackets.{ArePackets, PacketsView, is_early, no_bytes, other_by, packets_by}

-- 1. Bytes of a stream whose packets are known

pub plain_packets : (bytes packets : List ℕ) (other : Option OtherPackets) (ended : Bool) → other ≡ None → packets ≡ bytes →
    AreInner other bytes ended packets (length bytes)
unfolding packet_bytes
plain_packets bytes packets other ended none all = λ more last. subst (λ (o : Option OtherPackets). AreNext o bytes more packets (length bytes)) (sym none)
    (ap (λ (r : List ℕ). r ++ more) (sym all) ∙ ap (λ (r : List ℕ). packets ++ (r ++ more)) (sym (drop_all (length bytes) bytes (omega arith))))

none_inner : (other : Option OtherPackets) → packet_bytes other [] ≡ []
unfolding packet_bytes inner_in
none_inner None = refl
none_inner (Some packets) = drop_all (front_of packets) [] (omega arith)

-- 2. More bytes

pub none_given : ArePackets [] [] no_bytes
unfolding packets_by
none_given = λ more. refl

more_came : (bytes piece packets joined : List ℕ) (s : PacketsView) → joined ≡ s.held ++ piece → ArePackets bytes packets s → (more : List ℕ) →
    packets_in ((bytes ++ piece) ++ more) ≡ packets ++ packets_by s.known s.other (joined ++ more)
more_came bytes piece packets joined s whole so more =
    ap packets_in (append_assoc bytes piece more) ∙ so (piece ++ more)
    ∙ ap (λ (r : List ℕ). packets ++ packets_by s.known s.other r)
    (sym (append_assoc s.held piece more) ∙ ap (λ (r : List ℕ). r ++ more) (sym whole))

-- The packets are the same once it is known which they are.
shown_by : (known : Bool) (other now : Option OtherPackets) (held more : List ℕ) → is_early known held ≡ false → now ≡ other_by known other held →
    packets_by known other (held ++ more) ≡ packet_bytes now (held ++ more)
unfolding packets_by other_by packets_in
shown_by true other now held more long is = ap (λ (o : Option OtherPackets). packet_bytes o (held ++ more)) (sym is)
shown_by false other now held more long is =
    let enough : 409 ≤ length held = search (arith, long) in
    ap (λ (o : Option OtherPackets). packet_bytes o (held ++ more)) (sym (other_front held more enough) ∙ sym is)

pub some_given : (bytes piece packets joined found : List ℕ) (other : Option OtherPackets) (used : ℕ) (s new : PacketsView) → joined ≡ s.held ++ piece →
    is_early s.known joined ≡ false → other ≡ other_by s.known s.other joined → AreInner other joined false found used →
    new.known ≡ true → new.other ≡ other → new.held ≡ drop used joined → ArePackets bytes packets s → ArePackets (bytes ++ piece) (packets ++ found) new
unfolding packets_by
some_given bytes piece packets joined found other used s new whole long is are known now held so = λ more.
    more_came bytes piece packets joined s whole so more
    ∙ ap (λ (r : List ℕ). packets ++ r) (shown_by s.known s.other other joined more long is ∙ are more (λ e. absurd cc))
    ∙ sym (append_assoc packets found (packet_bytes other (drop used joined ++ more)))
    ∙ ap₂ (λ (o : Option OtherPackets) (r : List ℕ). (packets ++ found) ++ packet_bytes o (r ++ more)) (sym now) (sym held)
    ∙ ap (λ (b : Bool). (packets ++ found) ++ packets_by b new.other (new.held ++ more)) (sym known)

-- 3. The end

ended_by : (known : Bool) (other now : Option OtherPackets) (held : List ℕ) → now ≡ other_by known other held →
    packets_by known other (held ++ []) ≡ packet_bytes now (held ++ [])
unfolding packets_by other_by packets_in
ended_by true other now held is = ap (λ (o : Option OtherPackets). packet_bytes o (held ++ [])) (sym is)
ended_by false other now held is =
    ap (λ (o : Option OtherPackets). packet_bytes o (held ++ [])) (ap other_packets (append-nil held) ∙ sym is)

pub all_given : (bytes packets found : List ℕ) (other : Option OtherPackets) (used : ℕ) (s : PacketsView) → other ≡ other_by s.known s.other s.held →
    AreInner other s.held true found used → used ≡ length s.held → ArePackets bytes packets s → packets ++ found ≡ packets_in bytes
all_given bytes packets found other used s is are whole so =
    let past : drop used s.held ≡ [] = drop_all used s.held (omega (arith, whole)) in
    let last : packet_bytes other (s.held ++ []) ≡ found =
    are [] (λ e. refl) ∙ ap (λ (r : List ℕ). found ++ r) (ap (λ (r : List ℕ). packet_bytes other (r ++ [])) past ∙ none_inner other) ∙ append-nil found in
    sym (ap packets_in (sym (append-nil bytes)) ∙ so [] ∙ ap (λ (r : List ℕ). packets ++ r) (ended_by s.known s.other other s.held is ∙ last))
