-- A stream at a constant rate: its parts, and its figures in the model of finished bytes
use Rattle.std.proofs.Common.{◌≡◌, ◌∙◌, sym, ℕ, ◌+◌, ◌-◌, ◌*◌, ◌/◌, ◌≤◌, cond, List, [], ◌∷◌, ◌++◌, length, drop, Option, Some, None, refl, ap, inl, inr, arith}
use Rattle.std.proofs.Common.{All}
use Rattle.std.proofs.lemmas.Bool.{cases_lt, lt-leb, le-leb}
use Rattle.std.proofs.lemmas.List.{append_assoc, append-nil, length-append, drop_at, map-append}
use Rattle.std.proofs.lemmas.List.Elements.{All-head, All-tail}
use Rattle.std.proofs.lemmas.List.Sums.{sum_by-cons}
use Rattle.clock27.specs.Arrival.{bytes_from, arrivals}
use Rattle.clock27.specs.Departure.{departures, last_left}
use Rattle.clock27.specs.Peak.{greatest_at}
use Rattle.clock27.proofs.Peak.{arrivals_climb}
use Rattle.clock27.proofs.Departures.{departures-append, last_left-append, length-departures}
use Rattle.unit_timing.specs.MainBuffer.{is_in_main_buffer, mb_fullness}
use Rattle.unit_timing.specs.PesPacket.{PesPacket}
use Rattle.unit_timing.specs.Schedule.{Packet}
use Rattle.unit_timing.specs.Transport.{slots_of, of_payloads, pes_left}
use Rattle.unit_timing.proofs.MainBufferBytes.{kept}
use Rattle.unit_timing.proofs.MainBufferPeak.{main_peak_law}
use Rattle.unit_timing.proofs.TransportBuffer.{pes_left-cons, length-bytes_from}
use Rattle.tstd.proofs.ByteRows.{row_split}
use Rattle.tstd.proofs.RisingTimes.{greatest_ext}
use Rattle.tstd_rows.proofs.Levels.{most_law}
use Rattle.tstd_rows.proofs.LeavingBytes.{climbs_rises}
use Rattle.tstd.specs.Removal.{removal_time}
use Rattle.tstd.proofs.EntryPeaks.{gone_test}
use Rattle.tstd_rows.specs.RowEntry.{has_entered, entered}
use Rattle.tstd_rows.specs.History.{Part, arrivals_of, left_after, payload_left, main_fullness, main_peak, until_of}
use Rattle.tstd_rows.specs.History.Part.{Passes}
use Rattle.tstd_rows.proofs.UnitBytes.{sizes, last_due, unit_more, bytes_more, sizes_with, due_more, due_last}
use Rattle.tstd_rows.specs.ConstantRate.{StreamPacket, begun, parts_of, packets_of, with_payload, units_of, ConstantRateLaw, InTimeLaw}

-- One more packet

arrivals-append : (r : ℕ) (ss ts : List ℕ) → arrivals r (ss ++ ts) ≡ arrivals r ss ++ arrivals r ts
unfolding arrivals
arrivals-append r [] ts = refl
arrivals-append r (s ∷ ss) ts = ap (λ (l : List ℕ). bytes_from r (188 * s) 188 ++ l) (arrivals-append r ss ts)
    ∙ sym (append_assoc (bytes_from r (188 * s) 188) (arrivals r ss) (arrivals r ts))

arrivals_one : (r s : ℕ) → arrivals r (s ∷ []) ≡ bytes_from r (188 * s) 188
unfolding arrivals
arrivals_one r s = append-nil (bytes_from r (188 * s) 188)

-- The bytes of a packet are the bytes before its payload, then the bytes of its payload.
in_two : (r slot size : ℕ) → size ≤ 188 → bytes_from r (188 * slot) 188 ≡ bytes_from r (188 * slot) (188 - size)
    ++ bytes_from r (188 * slot + (188 - size)) size
in_two r slot size le =
    let e : (188 - size) + size ≡ 188 = omega (arith, le) in
    rw e at (row_split r (188 * slot) (188 - size) size)

slots_more : (before : List StreamPacket) (p : StreamPacket) → slots_of (packets_of (p ∷ before)) ≡ slots_of (packets_of before) ++ p.slot ∷ []
unfolding packets_of
slots_more before p = map-append (λ (q : Packet). q.slot) (packets_of before) (record { slot = p.slot; size = p.size } ∷ [])

-- A unit that begins changes no arrival and no departure.
begun_arrivals : (rate rx : ℕ) (begins : Option ℕ) (parts : List Part) → arrivals_of (begun rate rx begins parts) ≡ arrivals_of parts
unfolding begun arrivals_of
begun_arrivals rate rx None parts = refl
begun_arrivals rate rx (Some due) parts = refl

begun_left : (rate rx step : ℕ) (begins : Option ℕ) (parts : List Part) → payload_left step (begun rate rx begins parts) ≡ payload_left step parts
unfolding begun payload_left
begun_left rate rx step None parts = refl
begun_left rate rx step (Some due) parts = refl

begun_main : (rate rx step x : ℕ) (begins : Option ℕ) (parts : List Part) → main_fullness step (begun rate rx begins parts) x ≡ main_fullness step parts x
unfolding begun main_fullness
begun_main rate rx step x None parts = refl
begun_main rate rx step x (Some due) parts = refl

pub same_arrivals : (rate rx : ℕ) (packets : List StreamPacket) → All (λ p. p.size ≤ 188) packets →
    arrivals_of (parts_of rate rx packets) ≡ arrivals rx (slots_of (packets_of packets))
unfolding parts_of arrivals_of
same_arrivals rate rx [] all = unfold packets_of arrivals in refl
same_arrivals rate rx (p ∷ before) all =
    let first = bytes_from rx (188 * p.slot) (188 - p.size) in
    let payload = bytes_from rx (188 * p.slot + (188 - p.size)) p.size in
    let rest = same_arrivals rate rx before (All-tail (λ p. p.size ≤ 188) p before all) in
    let all_of = in_two rx p.slot p.size (All-head (λ p. p.size ≤ 188) p before all) in
    rw (
      begun_arrivals rate rx p.begins (Passes first ∷ parts_of rate rx before),
      rest,
      append_assoc (arrivals rx (slots_of (packets_of before))) first payload,
      sym all_of,
      slots_more before p,
      arrivals-append rx (slots_of (packets_of before)) (p.slot ∷ []),
      arrivals_one rx p.slot,
    ) refl

-- The payloads of two lists of packets leave in turn.
left-append : (rate r prev : ℕ) (ps qs : List Packet) → pes_left rate r prev (ps ++ qs) ≡ pes_left rate r prev ps
    ++ pes_left rate r (last_left rate prev (arrivals r (slots_of ps))) qs
unfolding last_left arrivals of_payloads
left-append rate r prev [] qs = refl
left-append rate r prev (p ∷ ps) qs =
    let first = bytes_from r (188 * p.slot) 188 in
    rw (
      pes_left-cons rate r prev p (ps ++ qs),
      pes_left-cons rate r prev p ps,
      left-append rate r (last_left rate prev first) ps qs,
      last_left-append rate prev first (arrivals r (slots_of ps)),
    )
    (sym (append_assoc (drop (188 - p.size) (departures rate prev first)) (pes_left rate r (last_left rate prev first) ps)
    (pes_left rate r (last_left rate (last_left rate prev first) (arrivals r (slots_of ps))) qs)))

-- The payload of one packet leaves after the bytes of the packet before it.
left_one : (rate r prev : ℕ) (p : Packet) → p.size ≤ 188 →
    pes_left rate r prev (p ∷ [])
    ≡ departures rate (last_left rate prev (bytes_from r (188 * p.slot) (188 - p.size))) (bytes_from r (188 * p.slot + (188 - p.size)) p.size)
left_one rate r prev p le =
    let first = bytes_from r (188 * p.slot) (188 - p.size) in
    let payload = bytes_from r (188 * p.slot + (188 - p.size)) p.size in
    let many : length (departures rate prev first) ≡ 188 - p.size = length-departures rate prev first ∙ length-bytes_from r (188 * p.slot) (188 - p.size) in
    let none : pes_left rate r (last_left rate prev (bytes_from r (188 * p.slot) 188)) [] ≡ [] = unfold of_payloads in refl in
    pes_left-cons rate r prev p []
    ∙ rw (
      none,
      append-nil (drop (188 - p.size) (departures rate prev (bytes_from r (188 * p.slot) 188))),
      in_two r p.slot p.size le,
      departures-append rate prev first payload,
    )
    (drop_at (departures rate prev first) (departures rate (last_left rate prev first) payload) (188 - p.size) many)

-- The payload of a packet leaves after the bytes before it.
payload_after : (rate rx : ℕ) (before : List StreamPacket) (p : StreamPacket) → p.size ≤ 188 → All (λ p. p.size ≤ 188) before →
    left_after rate (begun rate rx p.begins (Passes (bytes_from rx (188 * p.slot) (188 - p.size)) ∷ parts_of rate rx before))
    (bytes_from rx (188 * p.slot + (188 - p.size)) p.size)
    ≡ pes_left rate rx (last_left rate 0 (arrivals rx (slots_of (packets_of before)))) (record { slot = p.slot; size = p.size } ∷ [])
payload_after rate rx before p le all =
    let first = bytes_from rx (188 * p.slot) (188 - p.size) in
    let packet : Packet = record { slot = p.slot; size = p.size } in
    let one = left_one rate rx (last_left rate 0 (arrivals rx (slots_of (packets_of before)))) packet le in
    let passes : arrivals_of (Passes first ∷ parts_of rate rx before) ≡ arrivals rx (slots_of (packets_of before)) ++ first = unfold arrivals_of in
    (rw (same_arrivals rate rx before all) refl) in
    rw (
      begun_arrivals rate rx p.begins (Passes first ∷ parts_of rate rx before),
      passes,
      last_left-append rate 0 (arrivals rx (slots_of (packets_of before))) first,
    )
    (sym one)

pub same_left : (rate rx : ℕ) (packets : List StreamPacket) → All (λ p. p.size ≤ 188) packets →
    payload_left rate (parts_of rate rx packets) ≡ pes_left rate rx 0 (packets_of packets)
unfolding parts_of packets_of payload_left
same_left rate rx [] all = unfold of_payloads in refl
same_left rate rx (p ∷ before) all =
    let first = bytes_from rx (188 * p.slot) (188 - p.size) in
    let tail = All-tail (λ p. p.size ≤ 188) p before all in
    rw (
      begun_left rate rx rate p.begins (Passes first ∷ parts_of rate rx before),
      same_left rate rx before tail,
      payload_after rate rx before p (All-head (λ p. p.size ≤ 188) p before all) tail,
      left-append rate rx 0 (packets_of before) (record { slot = p.slot; size = p.size } ∷ []),
    ) refl

-- Units

-- The bytes of all units are the bytes of all payloads.
left_one_length : (rate r prev : ℕ) (p : Packet) → p.size ≤ 188 → length (pes_left rate r prev (p ∷ [])) ≡ p.size
left_one_length rate r prev p le =
    let first = bytes_from r (188 * p.slot) (188 - p.size) in
    let payload = bytes_from r (188 * p.slot + (188 - p.size)) p.size in
    rw (left_one rate r prev p le, length-departures rate (last_left rate prev first) payload) (length-bytes_from r (188 * p.slot + (188 - p.size)) p.size)

same_length : (rate rx : ℕ) (packets : List StreamPacket) → All (λ p. p.size ≤ 188) packets →
    length (pes_left rate rx 0 (packets_of packets)) ≡ sizes (units_of packets)
unfolding packets_of units_of
same_length rate rx [] all = unfold of_payloads sizes in refl
same_length rate rx (p ∷ before) all =
    let packet : Packet = record { slot = p.slot; size = p.size } in
    let last = last_left rate 0 (arrivals rx (slots_of (packets_of before))) in
    let one = left_one_length rate rx last packet (All-head (λ p. p.size ≤ 188) p before all) in
    let rest = same_length rate rx before (All-tail (λ p. p.size ≤ 188) p before all) in
    rw (left-append rate rx 0 (packets_of before) (packet ∷ []))
    (omega (
      arith,
      length-append (pes_left rate rx 0 (packets_of before)) (pes_left rate rx last (packet ∷ [])),
      one,
      rest,
      sizes_with p.begins p.size (units_of before),
    ))

-- The moment at which the bytes of a unit are removed

until_begun : (rate rx : ℕ) (begins : Option ℕ) (size : ℕ) (parts : List Part) (units : List PesPacket) →
    until_of parts ≡ removal_time rate rx (last_due units) →
    until_of (begun rate rx begins parts) ≡ removal_time rate rx (last_due (with_payload begins size units))
unfolding begun until_of with_payload
until_begun rate rx None size parts units same = rw (due_last size units) same
until_begun rate rx (Some due) size parts units same = rw (due_more due size units) refl

same_until : (rate rx : ℕ) (packets : List StreamPacket) → until_of (parts_of rate rx packets) ≡ removal_time rate rx (last_due (units_of packets))
unfolding parts_of units_of until_of
same_until rate rx [] = unfold last_due in (let e : 0 * rate * rx ≡ 0 = omega arith in rw e refl)
same_until rate rx (p ∷ before) =
    until_begun rate rx p.begins p.size (Passes (bytes_from rx (188 * p.slot) (188 - p.size)) ∷ parts_of rate rx before) (units_of before)
    (same_until rate rx before)

-- The bytes of a unit that have entered are the bytes that the model keeps.
entered_kept : (rate r due x : ℕ) (ds : List ℕ) → entered (removal_time rate r due) x ds ≡ kept rate r x due ds
unfolding kept
entered_kept rate r due x [] = refl
entered_kept rate r due x (d ∷ ds) =
    rw (
      sum_by-cons (λ s. cond (has_entered (removal_time rate r due) x s) 1 0) d ds,
      sum_by-cons (λ s. cond (is_in_main_buffer rate r x due s) 1 0) d ds,
      gone_test x (due * rate * r),
    )
    (omega (arith, entered_kept rate r due x ds))

payload_kept : (rate r x due : ℕ) (begins : Option ℕ) (units : List PesPacket) (left ds : List ℕ) → length left ≡ sizes units →
    due ≡ last_due (with_payload begins (length ds) units) →
    mb_fullness rate r x (with_payload begins (length ds) units) (left ++ ds) ≡ mb_fullness rate r x units left + kept rate r x due ds
unfolding with_payload
payload_kept rate r x due None units left ds many is =
    rw (is, due_last (length ds) units) (bytes_more rate r x units left ds many)
payload_kept rate r x due (Some begins) units left ds many is =
    rw (is, due_more begins (length ds) units) (unit_more rate r x begins units left ds many)

pub same_main : (rate rx x : ℕ) (packets : List StreamPacket) → All (λ p. p.size ≤ 188) packets →
    main_fullness rate (parts_of rate rx packets) x ≡ mb_fullness rate rx x (units_of packets) (pes_left rate rx 0 (packets_of packets))
unfolding parts_of units_of packets_of main_fullness
same_main rate rx x [] all = unfold mb_fullness in refl
same_main rate rx x (p ∷ before) all =
    let first = bytes_from rx (188 * p.slot) (188 - p.size) in
    let parts = Passes first ∷ parts_of rate rx before in
    let packet : Packet = record { slot = p.slot; size = p.size } in
    let last = last_left rate 0 (arrivals rx (slots_of (packets_of before))) in
    let left = pes_left rate rx 0 (packets_of before) in
    let ds = pes_left rate rx last (packet ∷ []) in
    let head = All-head (λ p. p.size ≤ 188) p before all in
    let tail = All-tail (λ p. p.size ≤ 188) p before all in
    let many : length ds ≡ p.size = left_one_length rate rx last packet head in
    let until = until_begun rate rx p.begins p.size parts (units_of before) (unfold until_of in (same_until rate rx before)) in
    let due : ℕ = last_due (with_payload p.begins p.size (units_of before)) in
    let model : mb_fullness rate rx x (with_payload p.begins p.size (units_of before)) (left ++ ds) ≡ mb_fullness rate rx x (units_of before) left
    + kept rate rx x due ds =
    rw many at (payload_kept rate rx x due p.begins (units_of before) left ds (same_length rate rx before tail) (rw many refl)) in
    rw (
      begun_main rate rx rate x p.begins parts,
      payload_after rate rx before p head tail,
      until,
      entered_kept rate rx due x ds,
      same_main rate rx x before tail,
      left-append rate rx 0 (packets_of before) (packet ∷ []),
    ) (sym model)

-- The figures of a stream at a constant rate

pub constant_rate_law : ConstantRateLaw
constant_rate_law rate rx packets some drained all climbs =
    let slots = slots_of (packets_of packets) in
    let parts = parts_of rate rx packets in
    let left = pes_left rate rx 0 (packets_of packets) in
    let f : ℕ → ℕ = λ x. mb_fullness rate rx x (units_of packets) left in
    let rises = climbs_rises 0 (arrivals rx slots) (arrivals_climb rx slots drained climbs) in
    let peak : main_peak rate parts ≡ greatest_at f left =
    ap (λ (ds : List ℕ). greatest_at (main_fullness rate parts) ds) (same_left rate rx packets all)
    ∙ greatest_ext (main_fullness rate parts) f left (λ x. same_main rate rx x packets all) in
    record {
      transport = rw (same_arrivals rate rx packets all) (most_law rate (arrivals rx slots) some rises);
      main = rw peak (main_peak_law rate rx (units_of packets) left);
    }

pub in_time_law : InTimeLaw
in_time_law rate rx due d = elim (cases_lt (due * rate * rx) (d * 720000)) [
  | inl late ↦ lt-leb (d * 720000) (due * rate * rx) late ∙ sym (lt-leb d (due * rate * rx / 720000) (omega (arith, late)))
  | inr soon ↦ le-leb (d * 720000) (due * rate * rx) soon ∙ sym (le-leb d (due * rate * rx / 720000) (omega (arith, soon)))
]
