-- When the bytes of packets arrive if each packet has its own arrival
use Rattle.std.proofs.Common.{◌≡◌, ◌∙◌, sym, ℕ, zero, suc, ◌+◌, ◌-◌, ◌*◌, ◌^◌, ◌≤◌, ◌<◌, ◌&&◌, min, nat_le, nat_lt, Bool, true, false, List, [], ◌∷◌, ◌++◌}
use Rattle.std.proofs.Common.{length, Option, Some, None, Result, Ok, Err, if◌then◌else◌, refl, ap, subst, inl, inr, nat_eq, arith}
use Rattle.std.specs.Prelude.{unwrap_or}
use Rattle.std.proofs.lemmas.Bool.{cases_lt, le-leb, lt-ltb, le-ltb}
use Rattle.std.proofs.lemmas.List.{append-nil, length-append}
use Rattle.clock27.specs.Arrival.{bytes_from}
use Rattle.ts_packet.specs.declared.packet.PacketError.{PacketError}
use Rattle.ts_packet.specs.Views.{PacketView}
use Rattle.ts_packet.specs.Reading.{packet_at}
use Rattle.arrival.specs.declared.line.Line.{Line}
use Rattle.arrival.specs.Lines.{arrival_at, arrivals_on}
use Rattle.arrival.specs.declared.arrival.Arrival.{Arrival}
use Rattle.arrival.specs.declared.arrival.Arrival.TheVariants.{Unknown, AtRate, OnLines}
use Rattle.arrival.specs.declared.arrival.ClockLines.{ClockLines}
use Rattle.arrival.specs.Arrivals.{has_times, lead_of, line_at, times_at}
use Rattle.laws_view.specs.Leads.{AllLead, payload_in}
use Rattle.laws_view.specs.TimedPackets.{Timed}
use Rattle.laws_view.specs.Times.{packet_times, time_of, times_among, times_from}
use Rattle.laws_view.proofs.Rising.{after_is, before_is}
use Rattle.tstd_rows.specs.History.{arrivals_of}
use Rattle.tstd_rows.specs.declared.arriving.Arriving.{Arriving}
use Rattle.tstd_rows.specs.Held.{Held}
use Rattle.tstd_rows.specs.Entering.{after, after_bytes, after_header, after_lead, after_unit, lead_in, size_of, takes_in, with_packet}
use Rattle.laws_view.specs.StreamPackets.{Before, Followed, known_after, most_packets, seen_in, sound_packet}
use Rattle.laws_view.specs.TimedStreams.{Entering, after_entering, followed_so, entering, entering_among, is_on, on_pid}
use Rattle.laws_view.proofs.EnteredBytes.{Arrives, arrives_trans, begin_arrives, payload_arrives}
use Rattle.laws_view.proofs.StreamIndices.{index_more}

-- Bytes on one line

pub many_times : (arrival : Arrival) (drain i n : ℕ) → length (times_from arrival drain i n) ≡ n
unfolding times_from
many_times arrival drain i zero = refl
many_times arrival drain i (suc n) = ap suc (many_times arrival drain (suc i) n)

pub rate_row : (rate drain i n : ℕ) → bytes_from drain i n ≡ times_from (AtRate rate) drain i n
unfolding bytes_from times_from time_of
rate_row rate drain i zero = refl
rate_row rate drain i (suc n) = ap (λ (ts : List ℕ). i * drain ∷ ts) (rate_row rate drain (suc i) n)

line_row : (lines : ClockLines) (line : Line) (drain i n : ℕ) → ((j : ℕ) → i ≤ j → j < i + n → line_at lines j ≡ line) →
    arrivals_on drain line i n ≡ times_from (OnLines lines) drain i n
unfolding arrivals_on times_from time_of
line_row lines line drain i zero on = refl
line_row lines line drain i (suc n) on =
    let first : arrival_at drain line i ≡ arrival_at drain (line_at lines i) i =
    ap (λ (l : Line). arrival_at drain l i) (sym (on i (omega arith) (omega arith))) in
    let rest = line_row lines line drain (suc i) n (λ j low high. on j (omega (arith, low)) (omega (arith, high))) in
    ap (λ (t : ℕ). t ∷ arrivals_on drain line (suc i) n) first ∙ ap (λ (ts : List ℕ). arrival_at drain (line_at lines i) i ∷ ts) rest

-- The n bytes from byte i on lie on the line of their first byte.
unfoldable pub OnOne : Arrival → ℕ → ℕ → Type 0
OnOne Unknown i n = Unit {0}
OnOne (AtRate rate) i n = Unit {0}
OnOne (OnLines lines) i n = i ≤ lines.line.byte → i + n ≤ lines.line.byte + 1

pub row_is : (arrival : Arrival) (drain i n j m : ℕ) → has_times arrival j m ≡ true → OnOne arrival i n →
    times_at arrival drain i n ≡ times_from arrival drain i n
unfolding times_at has_times OnOne
row_is Unknown drain i n j m has on = absurd (let no : ⊥ = cc in no)
row_is (AtRate rate) drain i n j m has on = rate_row rate drain i n
row_is (OnLines lines) drain i n j m has on = elim (cases_lt lines.line.byte i) [
  | inl late ↦ line_row lines (line_at lines i) drain i n (λ j low high. after_is lines j (omega (arith, late, low)) ∙ sym (after_is lines i late))
  | inr early ↦
      let within = on early in
      line_row lines (line_at lines i) drain i n (λ j low high. before_is lines j (omega (arith, high, within)) ∙ sym (before_is lines i early))
]

-- A packet in three rows: up to the begin of another line, up to its payload, and the payload

pub record Pieces (arrival : Arrival) (i size lead : ℕ) : Type 0 where
  pub first : OnOne arrival i lead
  pub second : OnOne arrival (i + lead) (188 - size - lead)
  pub third : OnOne arrival (i + (188 - size)) size

line_pieces : (lines : ClockLines) (i size l : ℕ) → size ≤ 188 →
    l ≡ (if nat_le i lines.line.byte && nat_lt lines.line.byte (i + 188) then lines.line.byte + 1 - i else 0) →
    (0 < l → l + size ≤ 188) → Pieces (OnLines lines) i size (min l (188 - size))
unfolding OnOne
line_pieces lines i size l small is leads = elim (cases_lt lines.line.byte i) [
  | inl before ↦ record {
    first = λ le. absurd (let no : ⊥ = omega (arith, before, le) in no);
    second = λ le. absurd (let no : ⊥ = omega (arith, before, le) in no);
    third = λ le. absurd (let no : ⊥ = omega (arith, before, le) in no);
  }
  | inr begun ↦ elim (cases_lt lines.line.byte (i + 188)) [
    | inl within ↦
        let l_is : l ≡ lines.line.byte + 1 - i = rw (le-leb i lines.line.byte begun, lt-ltb lines.line.byte (i + 188) within) at is in
        let room : l + size ≤ 188 = leads (omega (arith, l_is, begun)) in
        let lead : min l (188 - size) ≡ l = omega (arith, room) in
        record {
          first = λ le. omega (arith, lead, l_is, begun);
          second = λ le. absurd (let no : ⊥ = omega (arith, le, lead, l_is, begun) in no);
          third = λ le. absurd (let no : ⊥ = omega (arith, le, room, l_is, begun) in no);
        }
    | inr later ↦
        let l_is : l ≡ 0 = rw (le-leb i lines.line.byte begun, le-ltb lines.line.byte (i + 188) later) at is in
        record {
          first = λ le. omega (arith, later, l_is, small);
          second = λ le. omega (arith, later, l_is, small);
          third = λ le. omega (arith, later, small);
        }
  ]
]

pub pieces : (arrival : Arrival) (i size : ℕ) → size ≤ 188 → (0 < lead_of arrival i → lead_of arrival i + size ≤ 188) →
    Pieces arrival i size (min (lead_of arrival i) (188 - size))
unfolding OnOne lead_of
pieces Unknown i size small leads = record { first = tt; second = tt; third = tt }
pieces (AtRate rate) i size small leads = record { first = tt; second = tt; third = tt }
pieces (OnLines lines) i size small leads = line_pieces lines i size (lead_of (OnLines lines) i) small refl leads

times_split : (arrival : Arrival) (drain i m n : ℕ) → times_from arrival drain i (m + n) ≡ times_from arrival drain i m ++ times_from arrival drain (i + m) n
unfolding times_from
times_split arrival drain i zero n =
    let e : i + zero ≡ i = omega arith in
    let f : zero + n ≡ n = omega arith in
    rw (e, f) refl
times_split arrival drain i (suc m) n =
    let e : suc i + m ≡ i + suc m = omega arith in
    let f : suc m + n ≡ suc (m + n) = omega arith in
    rw f (ap (λ (ts : List ℕ). time_of arrival drain i ∷ ts) (rw e at (times_split arrival drain (suc i) m n)))

pub three_times : (arrival : Arrival) (drain i lead size : ℕ) → lead + size ≤ 188 →
    times_from arrival drain i lead ++ (times_from arrival drain (i + lead) (188 - size - lead) ++ ([] ++ times_from arrival drain (i + (188 - size)) size))
    ≡ times_from arrival drain i 188
three_times arrival drain i lead size le =
    let whole : lead + (188 - lead) ≡ 188 = omega (arith, le) in
    let rest : (188 - size - lead) + size ≡ 188 - lead = omega (arith, le) in
    let place : i + lead + (188 - size - lead) ≡ i + (188 - size) = omega (arith, le) in
    let first = subst (λ (n : ℕ). times_from arrival drain i n ≡ times_from arrival drain i lead ++ times_from arrival drain (i + lead) (188 - lead)) whole
    (times_split arrival drain i lead (188 - lead)) in
    let last = rw (rest, place) at (times_split arrival drain (i + lead) (188 - size - lead) size) in
    sym (first ∙ ap (λ (l : List ℕ). times_from arrival drain i lead ++ l) last)

pub bytes_arrive_by : (h : Held) (arrival : Arrival) (rx : ℕ) (enters : Bool) (i n j m : ℕ) → h.rx ≡ rx → has_times arrival j m ≡ true → OnOne arrival i n →
    Arrives h (after_bytes h arrival enters i n) (times_from arrival rx i n)
bytes_arrive_by h arrival rx enters i n j m e has on =
    let row : times_at arrival h.rx i n ≡ times_from arrival h.rx i n = row_is arrival h.rx i n j m has on in
    let many : length (times_at arrival h.rx i n) ≡ n = ap (λ (l : List ℕ). length l) row ∙ many_times arrival h.rx i n in
    subst (λ (ts : List ℕ). Arrives h (after_bytes h arrival enters i n) ts) (row ∙ ap (λ (r : ℕ). times_from arrival r i n) e)
    (payload_arrives h enters n (times_at arrival h.rx i n) many)

with_parts_by : (h : Held) (arrival : Arrival) (p : Arriving) (size lead : ℕ) → lead + size ≤ 188 → has_times arrival (188 * p.index) 188 ≡ true →
    Pieces arrival (188 * p.index) size lead → Arrives h (with_packet h arrival p size lead) (times_from arrival h.rx (188 * p.index) 188)
with_parts_by h arrival p size lead le has three =
    let i : ℕ = 188 * p.index in
    let a : Held = after_lead h arrival p lead in
    let b : Held = after_header h arrival p size lead in
    let c : Held = after_unit h arrival p size lead in
    let d : Held = with_packet h arrival p size lead in
    let first : Arrives h a (times_from arrival h.rx i lead) = bytes_arrive_by h arrival h.rx false i lead i 188 refl has three.first in
    let second : Arrives a b (times_from arrival h.rx (i + lead) (188 - size - lead)) =
    bytes_arrive_by a arrival h.rx false (i + lead) (188 - size - lead) i 188 first.alike.rx has three.second in
    let third : Arrives b c [] = begin_arrives b p.begins in
    let fourth : Arrives c d (times_from arrival h.rx (i + (188 - size)) size) =
    bytes_arrive_by c arrival h.rx p.enters (i + (188 - size)) size i 188 (third.alike.rx ∙ second.alike.rx ∙ first.alike.rx) has three.third in
    let all = arrives_trans h a d _ _ first (arrives_trans a b d _ _ second (arrives_trans b c d _ _ third fourth)) in
    subst (λ (ts : List ℕ). Arrives h d ts) (three_times arrival h.rx i lead size le) all

-- The payload comes after the byte where another line begins.
abbrev pub Leads : Arrival → Arriving → Type 0
Leads arrival p = 0 < lead_of arrival (188 * p.index) → lead_of arrival (188 * p.index) + size_of p ≤ 188

pub packet_pieces : (arrival : Arrival) (p : Arriving) → Leads arrival p → Pieces arrival (188 * p.index) (size_of p) (lead_in arrival p)
packet_pieces arrival p leads = pieces arrival (188 * p.index) (size_of p) (omega arith) leads

pub packet_arrives_by : (h : Held) (arrival : Arrival) (p : Arriving) → takes_in h arrival p ≡ true → has_times arrival (188 * p.index) 188 ≡ true →
    Leads arrival p →
    Arrives h (after h arrival p) (times_from arrival h.rx (188 * p.index) 188)
unfolding after
packet_arrives_by h arrival p e has leads =
    rw e (with_parts_by h arrival p (size_of p) (lead_in arrival p) (omega arith) has (packet_pieces arrival p leads))

-- A packet in the first 2^40 bytes is taken in exactly if it has times.
pub taken_by : (h : Held) (arrival : Arrival) (p : Arriving) → p.index < most_packets → length (arrivals_of h.parts) ≤ 188 * p.index →
    takes_in h arrival p ≡ has_times arrival (188 * p.index) 188
taken_by h arrival p early few =
    by_tests p.index most_packets (0 + length (arrivals_of h.parts)) (2 ^ 40 - 188) (has_times arrival (188 * p.index) 188) early (omega (arith, early, few))
  where
    by_tests : (a b c d : ℕ) (t : Bool) → a < b → c ≤ d → (nat_lt a b && nat_le c d && t) ≡ t
    by_tests a b c d t lt le = rw (lt-ltb a b lt, le-leb c d le) refl

-- One packet of this stream, or of another stream

-- The size of the packet's payload
unfoldable pub size_in : Option PacketView → ℕ
size_in None = 0
size_in (Some packet) = length (unwrap_or packet.payload [])

pub sound_size : (r : Result PacketView PacketError) → size_in (sound_packet r) ≤ payload_in r
unfolding sound_packet size_in payload_in
sound_size (Err error) = omega arith
sound_size (Ok packet) = by packet.header.transport_error_indicator
  where
    by : (b : Bool) → size_in (if b then None else Some packet) ≤ length (unwrap_or packet.payload [])
    by true = omega arith
    by false = omega arith

pub none_arrives : (h : Held) → Arrives h h []
none_arrives h = record { alike = record { rate = refl; rx = refl; size = refl }; arrivals = sym (append-nil (arrivals_of h.parts)) }

untaken : (h : Held) (arrival : Arrival) (p : Arriving) → takes_in h arrival p ≡ false → after h arrival p ≡ h
unfolding after
untaken h arrival p e = rw e refl

pub packet_or_none : (h : Held) (arrival : Arrival) (p : Arriving) → p.index < most_packets → length (arrivals_of h.parts) ≤ 188 * p.index → Leads arrival p →
    Arrives h (after h arrival p) (packet_times h.rx p.index arrival)
packet_or_none h arrival p early few leads = by (has_times arrival (188 * p.index) 188) refl
  where
    taken : takes_in h arrival p ≡ has_times arrival (188 * p.index) 188
    taken = taken_by h arrival p early few

    by : (b : Bool) → has_times arrival (188 * p.index) 188 ≡ b → Arrives h (after h arrival p) (if b then times_from arrival h.rx (188 * p.index) 188 else [])
    by true e = packet_arrives_by h arrival p (taken ∙ e) e leads
    by false e = subst (λ (x : Held). Arrives h x []) (sym (untaken h arrival p (taken ∙ e))) (none_arrives h)

-- The payload of the packet at this index lies on one line.
abbrev pub LeadsIn : Arrival → ℕ → Option PacketView → Type 0
LeadsIn arrival index o = 0 < lead_of arrival (188 * index) → lead_of arrival (188 * index) + size_in o ≤ 188

abbrev pub times_in : ℕ → ℕ → Arrival → ℕ → Option PacketView → List ℕ
times_in pid drain arrival index o = if is_on pid o then packet_times drain index arrival else []

pub one_arrives : (h : Held) (f : Followed) (b : Before) (arrival : Arrival) (o : Option PacketView) → b.index < most_packets →
    length (arrivals_of h.parts) ≤ 188 * b.index →
    LeadsIn arrival b.index o → Arrives h (after_entering h (entering arrival (seen_in (followed_so f arrival) b o))) (times_in f.pid h.rx arrival b.index o)
unfolding seen_in after_entering is_on size_in
one_arrives h f b arrival None early few leads = none_arrives h
one_arrives h f b arrival (Some packet) early few leads = by (nat_eq f.pid packet.header.pid) refl
  where
    by : (w : Bool) → nat_eq f.pid packet.header.pid ≡ w →
        Arrives h (after_entering h (entering arrival (seen_in (followed_so f arrival) b (Some packet)))) (times_in f.pid h.rx arrival b.index (Some packet))
    by true e = rw e (packet_or_none h arrival _ early few (λ some. omega (arith, leads some)))
    by false e = rw e (none_arrives h)

pub times_short : (pid drain : ℕ) (arrival : Arrival) (index : ℕ) (o : Option PacketView) → length (times_in pid drain arrival index o) ≤ 188
times_short pid drain arrival index o = by (is_on pid o) (has_times arrival (188 * index) 188)
  where
    by : (a b : Bool) → length (if a then (if b then times_from arrival drain (188 * index) 188 else []) else []) ≤ 188
    by true true = omega (arith, many_times arrival drain (188 * index) 188)
    by true false = omega arith
    by false b = omega arith

-- All packets of a stream

pub entering-append : (h : Held) (xs ys : List Entering) → after_entering h (xs ++ ys) ≡ after_entering (after_entering h xs) ys
unfolding after_entering
entering-append h [] ys = refl
entering-append h (x ∷ xs) ys = entering-append (after h x.arrival x.packet) xs ys

pub leads_in : (arrival : Arrival) (index : ℕ) (bytes : List ℕ) →
    (0 < lead_of arrival (188 * index) → lead_of arrival (188 * index) + payload_in (packet_at bytes) ≤ 188) →
    LeadsIn arrival index (sound_packet (packet_at bytes))
leads_in arrival index bytes leads some = omega (arith, leads some, sound_size (packet_at bytes))

pub each_arrives_by : (h : Held) (f : Followed) (b : Before) (packets : List Timed) → AllLead b.index packets → b.index + length packets ≤ most_packets →
    length (arrivals_of h.parts) ≤ 188 * b.index →
    Arrives h (after_entering h (entering_among f b packets)) (times_among (on_pid f.pid) h.rx b.index packets)
unfolding entering_among after_entering times_among AllLead
each_arrives_by h f b [] leads early few = none_arrives h
each_arrives_by h f b (p ∷ packets) leads early few =
    let o : Option PacketView = sound_packet (packet_at p.bytes) in
    let f' : Followed = followed_so f p.arrival in
    let b' : Before = known_after f' b o in
    let xs : List Entering = entering p.arrival (seen_in f' b o) in
    let h' : Held = after_entering h xs in
    let one : Arrives h h' (times_in f.pid h.rx p.arrival b.index o) =
    one_arrives h f b p.arrival o (omega (arith, early)) few (leads_in p.arrival b.index p.bytes leads.0) in
    let index : b'.index ≡ b.index + 1 = index_more f' b o in
    let more : length (arrivals_of h'.parts) ≤ 188 * b'.index =
    omega (
      arith,
      few,
      index,
      ap (λ (l : List ℕ). length l) one.arrivals,
      length-append (arrivals_of h.parts) (times_in f.pid h.rx p.arrival b.index o),
      times_short f.pid h.rx p.arrival b.index o,
    ) in
    let rest : Arrives h' (after_entering h' (entering_among f' b' packets)) (times_among (on_pid f.pid) h'.rx b'.index packets) =
    each_arrives_by h' f' b' packets (subst (λ (i : ℕ). AllLead i packets) (sym index) leads.1) (omega (arith, early, index)) more in
    let there : Arrives h' (after_entering h' (entering_among f' b' packets)) (times_among (on_pid f.pid) h.rx (b.index + 1) packets) =
    subst (λ (i : ℕ). Arrives h' (after_entering h' (entering_among f' b' packets)) (times_among (on_pid f.pid) h.rx i packets)) index
    (subst (λ (r : ℕ). Arrives h' (after_entering h' (entering_among f' b' packets)) (times_among (on_pid f.pid) r b'.index packets)) one.alike.rx rest) in
    subst (λ (x : Held). Arrives h x (times_in f.pid h.rx p.arrival b.index o ++ times_among (on_pid f.pid) h.rx (b.index + 1) packets))
    (sym (entering-append h xs (entering_among f' b' packets)))
    (arrives_trans h h' (after_entering h' (entering_among f' b' packets)) _ _ one there)

pub among_short : (chosen : ℕ → List ℕ → Bool) (drain index : ℕ) (packets : List Timed) → length (times_among chosen drain index packets) ≤ 188 * length packets
unfolding times_among
among_short chosen drain index [] = omega arith
among_short chosen drain index (p ∷ packets) =
    omega (
      arith,
      among_short chosen drain (index + 1) packets,
      one (chosen index p.bytes) (has_times p.arrival (188 * index) 188),
      length-append (if chosen index p.bytes then packet_times drain index p.arrival else []) (times_among chosen drain (index + 1) packets),
    )
  where
    one : (a b : Bool) → length (if a then (if b then times_from p.arrival drain (188 * index) 188 else []) else []) ≤ 188
    one true true = omega (arith, many_times p.arrival drain (188 * index) 188)
    one true false = omega arith
    one false b = omega arith
