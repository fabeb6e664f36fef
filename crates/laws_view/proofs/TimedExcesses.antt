-- The excesses of a transport buffer and the units that end with each packet, in whatever way the packets arrive
use Rattle.std.proofs.Common.{◌≡◌, ◌∙◌, sym, ℕ, suc, ◌+◌, ◌-◌, ◌*◌, ◌≤◌, ◌<◌, Bool, true, false, List, [], ◌∷◌, ◌++◌, length, Option, Some, None, if◌then◌else◌}
use Rattle.std.proofs.Common.{refl, ap, subst, nat_eq, arith}
use Rattle.std.specs.Prelude.{flat_map}
use Rattle.std.specs.Option.{option_to_list}
use Rattle.std.proofs.lemmas.List.{append_assoc, append-nil, length-append}
use Rattle.std.proofs.lemmas.List.Concat.{flat_map-append}
use Rattle.ts_packet.specs.Views.{PacketView}
use Rattle.ts_packet.specs.Reading.{packet_at}
use Rattle.arrival.specs.declared.arrival.Arrival.{Arrival}
use Rattle.arrival.specs.Arrivals.{has_times, times_at}
use Rattle.laws_view.specs.Leads.{AllLead}
use Rattle.laws_view.specs.TimedPackets.{Timed}
use Rattle.laws_view.specs.Times.{packet_times, times_among, times_from}
use Rattle.tstd_rows.specs.declared.excess.Excess.{Excess}
use Rattle.tstd_rows.specs.History.{arrivals_of}
use Rattle.tstd_rows.specs.declared.unit_seen.UnitSeen.{UnitSeen}
use Rattle.tstd_rows.specs.declared.arriving.Arriving.{Arriving}
use Rattle.tstd_rows.specs.Held.{Held, transport_ended}
use Rattle.tstd_rows.specs.Entering.{EnteredView, after, after_header, after_lead, after_unit, bytes_transport, ended_with, entered, lead_in, size_of, takes_in}
use Rattle.laws_view.specs.StreamPackets.{Before, Followed, known_after, most_packets, seen_in, sound_packet}
use Rattle.laws_view.specs.StreamUnits.{units_ended}
use Rattle.laws_view.specs.TimedStreams.{Entering, after_entering, followed_so, entered_by, entering, entering_among, is_on, on_pid}
use Rattle.laws_view.proofs.EnteredBytes.{Arrives, after_alike, begin_arrives}
use Rattle.laws_view.proofs.Excesses.{ended_two, none_ended, payload_reported}
use Rattle.laws_view.proofs.StreamIndices.{index_more}
use Rattle.laws_view.proofs.TimedBytes.{Leads, LeadsIn, OnOne, Pieces, bytes_arrive_by, leads_in, many_times, one_arrives, packet_pieces, row_is, size_in}
use Rattle.laws_view.proofs.TimedBytes.{taken_by, three_times, times_in, times_short}
use Rattle.laws_view.proofs.Units.{packet_units}

-- The excesses that end with a packet

bytes_reported_by : (h : Held) (arrival : Arrival) (rx i n j m : ℕ) → h.rx ≡ rx → has_times arrival j m ≡ true → OnOne arrival i n →
    bytes_transport h arrival i n ≡ transport_ended h (times_from arrival rx i n)
bytes_reported_by h arrival rx i n j m e has on =
    let row : times_at arrival h.rx i n ≡ times_from arrival h.rx i n = row_is arrival h.rx i n j m has on in
    let many : length (times_at arrival h.rx i n) ≡ n = ap (λ (l : List ℕ). length l) row ∙ many_times arrival h.rx i n in
    subst (λ (ts : List ℕ). bytes_transport h arrival i n ≡ transport_ended h ts) (row ∙ ap (λ (r : ℕ). times_from arrival r i n) e)
    (payload_reported h n (times_at arrival h.rx i n) many)

parts_reported_by : (h : Held) (arrival : Arrival) (p : Arriving) (size lead : ℕ) → lead + size ≤ 188 → has_times arrival (188 * p.index) 188 ≡ true →
    Pieces arrival (188 * p.index) size lead → (ended_with h arrival p size lead).transport ≡ transport_ended h (times_from arrival h.rx (188 * p.index) 188)
parts_reported_by h arrival p size lead le has three =
    let i : ℕ = 188 * p.index in
    let a : Held = after_lead h arrival p lead in
    let b : Held = after_header h arrival p size lead in
    let c : Held = after_unit h arrival p size lead in
    let ones : List ℕ = times_from arrival h.rx i lead in
    let twos : List ℕ = times_from arrival h.rx (i + lead) (188 - size - lead) in
    let threes : List ℕ = times_from arrival h.rx (i + (188 - size)) size in
    let first : Arrives h a ones = bytes_arrive_by h arrival h.rx false i lead i 188 refl has three.first in
    let second : Arrives a b twos = bytes_arrive_by a arrival h.rx false (i + lead) (188 - size - lead) i 188 first.alike.rx has three.second in
    let third : Arrives b c [] = begin_arrives b p.begins in
    let reported_one : bytes_transport h arrival i lead ≡ transport_ended h ones = bytes_reported_by h arrival h.rx i lead i 188 refl has three.first in
    let reported_two : bytes_transport a arrival (i + lead) (188 - size - lead) ≡ transport_ended a twos =
    bytes_reported_by a arrival h.rx (i + lead) (188 - size - lead) i 188 first.alike.rx has three.second in
    let reported_three : bytes_transport c arrival (i + (188 - size)) size ≡ transport_ended c threes =
    bytes_reported_by c arrival h.rx (i + (188 - size)) size i 188 (third.alike.rx ∙ second.alike.rx ∙ first.alike.rx) has three.third in
    let last : transport_ended b ([] ++ threes) ≡ transport_ended c threes =
    ended_two b c [] threes third ∙ ap (λ (l : List Excess). l ++ transport_ended c threes) (none_ended b) in
    let all : transport_ended h (ones ++ (twos ++ ([] ++ threes))) ≡ transport_ended h ones ++ (transport_ended a twos ++ transport_ended c threes) =
    ended_two h a ones (twos ++ ([] ++ threes)) first
    ∙ ap (λ (l : List Excess). transport_ended h ones ++ l)
    (ended_two a b twos ([] ++ threes) second ∙ ap (λ (l : List Excess). transport_ended a twos ++ l) last) in
    let whole : transport_ended h (ones ++ (twos ++ ([] ++ threes))) ≡ transport_ended h (times_from arrival h.rx i 188) =
    ap (λ (ts : List ℕ). transport_ended h ts) (three_times arrival h.rx i lead size le) in
    rw (reported_one, reported_two, reported_three) (sym all ∙ whole)

packet_reported_by : (h : Held) (arrival : Arrival) (p : Arriving) → takes_in h arrival p ≡ true → has_times arrival (188 * p.index) 188 ≡ true →
    Leads arrival p →
    (entered h arrival p).transport ≡ transport_ended h (times_from arrival h.rx (188 * p.index) 188)
unfolding entered
packet_reported_by h arrival p e has leads =
    rw e (parts_reported_by h arrival p (size_of p) (lead_in arrival p) (omega arith) has (packet_pieces arrival p leads))

untaken_reported : (h : Held) (arrival : Arrival) (p : Arriving) → takes_in h arrival p ≡ false → (entered h arrival p).transport ≡ []
unfolding entered
untaken_reported h arrival p e = rw e refl

reported_or_none : (h : Held) (arrival : Arrival) (p : Arriving) → p.index < most_packets → length (arrivals_of h.parts) ≤ 188 * p.index → Leads arrival p →
    (entered h arrival p).transport ≡ transport_ended h (packet_times h.rx p.index arrival)
reported_or_none h arrival p early few leads = by (has_times arrival (188 * p.index) 188) refl
  where
    taken : takes_in h arrival p ≡ has_times arrival (188 * p.index) 188
    taken = taken_by h arrival p early few

    by : (b : Bool) → has_times arrival (188 * p.index) 188 ≡ b →
        (entered h arrival p).transport ≡ transport_ended h (if b then times_from arrival h.rx (188 * p.index) 188 else [])
    by true e = packet_reported_by h arrival p (taken ∙ e) e leads
    by false e = untaken_reported h arrival p (taken ∙ e) ∙ sym (none_ended h)

abbrev pub transport_ended_by : List EnteredView → List Excess
transport_ended_by vs = flat_map (λ v. v.transport) vs

one_reported : (h : Held) (f : Followed) (b : Before) (arrival : Arrival) (o : Option PacketView) → b.index < most_packets →
    length (arrivals_of h.parts) ≤ 188 * b.index →
    LeadsIn arrival b.index o →
    transport_ended_by (entered_by h (entering arrival (seen_in (followed_so f arrival) b o))) ≡ transport_ended h (times_in f.pid h.rx arrival b.index o)
unfolding seen_in entered_by is_on size_in
one_reported h f b arrival None early few leads = sym (none_ended h)
one_reported h f b arrival (Some packet) early few leads = by (nat_eq f.pid packet.header.pid) refl
  where
    by : (w : Bool) → nat_eq f.pid packet.header.pid ≡ w →
        transport_ended_by (entered_by h (entering arrival (seen_in (followed_so f arrival) b (Some packet)))) ≡ transport_ended h
        (times_in f.pid h.rx arrival b.index (Some packet))
    by true e = rw e (append-nil _ ∙ reported_or_none h arrival _ early few (λ some. omega (arith, leads some)))
    by false e = rw e (sym (none_ended h))

pub entered-append : (h : Held) (xs ys : List Entering) → entered_by h (xs ++ ys) ≡ entered_by h xs ++ entered_by (after_entering h xs) ys
unfolding entered_by after_entering
entered-append h [] ys = refl
entered-append h (x ∷ xs) ys = ap (λ (l : List EnteredView). entered h x.arrival x.packet ∷ l) (entered-append (after h x.arrival x.packet) xs ys)

pub each_reported_by : (h : Held) (f : Followed) (b : Before) (packets : List Timed) → AllLead b.index packets → b.index + length packets ≤ most_packets →
    length (arrivals_of h.parts) ≤ 188 * b.index →
    transport_ended_by (entered_by h (entering_among f b packets)) ≡ transport_ended h (times_among (on_pid f.pid) h.rx b.index packets)
unfolding entering_among entered_by times_among AllLead
each_reported_by h f b [] leads early few = sym (none_ended h)
each_reported_by h f b (p ∷ packets) leads early few =
    let o : Option PacketView = sound_packet (packet_at p.bytes) in
    let f' : Followed = followed_so f p.arrival in
    let b' : Before = known_after f' b o in
    let xs : List Entering = entering p.arrival (seen_in f' b o) in
    let h' : Held = after_entering h xs in
    let here : List ℕ = times_in f.pid h.rx p.arrival b.index o in
    let later : List ℕ = times_among (on_pid f.pid) h.rx (b.index + 1) packets in
    let lead : LeadsIn p.arrival b.index o = leads_in p.arrival b.index p.bytes leads.0 in
    let one : Arrives h h' here = one_arrives h f b p.arrival o (omega (arith, early)) few lead in
    let index : b'.index ≡ b.index + 1 = index_more f' b o in
    let more : length (arrivals_of h'.parts) ≤ 188 * b'.index =
    omega (
      arith,
      few,
      index,
      ap (λ (l : List ℕ). length l) one.arrivals,
      length-append (arrivals_of h.parts) here,
      times_short f.pid h.rx p.arrival b.index o,
    ) in
    let rest : transport_ended_by (entered_by h' (entering_among f' b' packets)) ≡ transport_ended h' (times_among (on_pid f.pid) h'.rx b'.index packets) =
    each_reported_by h' f' b' packets (subst (λ (i : ℕ). AllLead i packets) (sym index) leads.1) (omega (arith, early, index)) more in
    let same : times_among (on_pid f.pid) h'.rx b'.index packets ≡ later =
    ap (λ (r : ℕ). times_among (on_pid f.pid) r b'.index packets) one.alike.rx ∙ ap (λ (i : ℕ). times_among (on_pid f.pid) h.rx i packets) index in
    ap (λ (l : List EnteredView). transport_ended_by l) (entered-append h xs (entering_among f' b' packets))
    ∙ flat_map-append (λ v. v.transport) (entered_by h xs) (entered_by h' (entering_among f' b' packets))
    ∙ ap (λ (l : List Excess). l ++ transport_ended_by (entered_by h' (entering_among f' b' packets)))
    (one_reported h f b p.arrival o (omega (arith, early)) few lead)
    ∙ ap (λ (l : List Excess). transport_ended h here ++ l) (rest ∙ ap (λ (ts : List ℕ). transport_ended h' ts) same)
    ∙ sym (ended_two h h' here later one)

-- The units that end with a packet

pub each_units_by : (step : ℕ) (h : Held) (xs : List Entering) → h.rate ≡ step →
    units_ended step (after_entering h xs).parts ≡ units_ended step h.parts ++ flat_map (λ v. option_to_list v.unit) (entered_by h xs)
unfolding after_entering entered_by
each_units_by step h [] e = sym (append-nil (units_ended step h.parts))
each_units_by step h (x ∷ xs) e =
    let h' : Held = after h x.arrival x.packet in
    let rest = each_units_by step h' xs ((after_alike h x.arrival x.packet).rate ∙ e) in
    let one : List UnitSeen = option_to_list (entered h x.arrival x.packet).unit in
    let others : List UnitSeen = flat_map (λ v. option_to_list v.unit) (entered_by h' xs) in
    rest ∙ ap (λ (l : List UnitSeen). l ++ others) (packet_units step h x.arrival x.packet e) ∙ append_assoc (units_ended step h.parts) one others

pub rate_by : (h : Held) (xs : List Entering) → (after_entering h xs).rate ≡ h.rate
unfolding after_entering
rate_by h [] = refl
rate_by h (x ∷ xs) = rate_by (after h x.arrival x.packet) xs ∙ (after_alike h x.arrival x.packet).rate

pub many_entered_by : (h : Held) (xs : List Entering) → length (entered_by h xs) ≡ length xs
unfolding entered_by
many_entered_by h [] = refl
many_entered_by h (x ∷ xs) = ap (λ (n : ℕ). suc n) (many_entered_by (after h x.arrival x.packet) xs)

few_one : (f : Followed) (b : Before) (arrival : Arrival) (o : Option PacketView) → length (entering arrival (seen_in f b o)) ≤ 1
unfolding seen_in
few_one f b arrival None = omega arith
few_one f b arrival (Some packet) = by (nat_eq f.pid packet.header.pid) refl
  where
    by : (w : Bool) → nat_eq f.pid packet.header.pid ≡ w → length (entering arrival (seen_in f b (Some packet))) ≤ 1
    by true e = rw e (omega arith)
    by false e = rw e (omega arith)

pub few_entering : (f : Followed) (b : Before) (packets : List Timed) → length (entering_among f b packets) ≤ length packets
unfolding entering_among
few_entering f b [] = omega arith
few_entering f b (p ∷ packets) =
    let o : Option PacketView = sound_packet (packet_at p.bytes) in
    let f' : Followed = followed_so f p.arrival in
    let rest : List Entering = entering_among f' (known_after f' b o) packets in
    omega (arith, few_one f' b p.arrival o, few_entering f' (known_after f' b o) packets, length-append (entering p.arrival (seen_in f' b o)) rest)
