-- The packets of a stream: by the definition over bytes, and packet by packet.
use Rattle.std.proofs.Common.{◌≡◌, ◌∙◌, ℕ, suc, ◌+◌, ◌-◌, ◌≤◌, max, ◌||◌, Option, Some, None, Result, Ok, Err, List, [], ◌∷◌, ◌++◌, length, take, drop, map}
use Rattle.std.proofs.Common.{filter, sum_by, refl, ap, sym, arith, add-one, inl, inr}
use Rattle.std.specs.List.{enumerate_from, filter_map, concat}
use Rattle.std.proofs.lemmas.Bool.{cases_Bool}
use Rattle.std.proofs.lemmas.List.{length-append, length-drop, length-take}
use Rattle.std.proofs.lemmas.List.Sums.{sum_by-cons}
use Rattle.clock27.specs.Peak.{Climbs, greatest_at}
use Rattle.ts_packet.specs.declared.packet.PacketError.{PacketError}
use Rattle.ts_packet.specs.Views.{PacketView}
use Rattle.ts_packet.specs.Reading.{packet_at}
use Rattle.ts_packet.specs.PidList.{Entry, entry_of, is_of_pid, payload_of}
use Rattle.unit_timing.specs.MainBuffer.{mb_fullness}
use Rattle.unit_timing.specs.Schedule.{Packet}
use Rattle.unit_timing.specs.PesPacket.{PesPacket}
use Rattle.unit_timing.specs.Transport.{slots_of, of_payloads}
use Rattle.tstd.specs.declared.payload_bytes.PayloadBytes.{PayloadBytes}
use Rattle.tstd.specs.declared.main_buffer.MainBuffer.{MainBuffer}
use Rattle.tstd.specs.Entry.{peak_of}
use Rattle.tstd.specs.BufferState.{fullness_at}
use Rattle.tstd.specs.PidPackets.{size_in, listed, packets_from}
use Rattle.tstd.specs.PacketLists.{payload_in, payloads_from, is_of_tables, tables_from}
use Rattle.tstd.specs.DepartureWalk.{given}
use Rattle.tstd.specs.PayloadBytes.{bytes_ahead, drain_of}
use Rattle.tstd.proofs.RisingTimes.{climbs_low, greatest_ext}

listed_climb : (index : ℕ) (o : Option ℕ) (packets : List Packet) → Climbs (suc index) (slots_of packets) → Climbs index (slots_of (listed index o packets))
unfolding Climbs
listed_climb index None packets climbs = climbs_low index (suc index) (slots_of packets) (omega arith) climbs
listed_climb index (Some size) packets climbs = let same : index ≤ index = omega arith in (same, climbs)

pub packets_climb : (pid index : ℕ) (chunks : List (List ℕ)) → Climbs index (slots_of (packets_from pid index chunks))
unfolding packets_from
packets_climb pid index [] = unfold Climbs in tt
packets_climb pid index (chunk ∷ chunks) =
    listed_climb index (size_in pid (packet_at chunk)) (packets_from pid (index + 1) chunks) (rw (sym (add-one index)) (packets_climb pid (index + 1) chunks))

listed_few : (index n : ℕ) (o : Option ℕ) (packets : List Packet) → length (slots_of packets) ≤ n → length (slots_of (listed index o packets)) ≤ suc n
listed_few index n None packets few = omega (arith, few)
listed_few index n (Some size) packets few = omega (arith, few)

pub packets_few : (pid index : ℕ) (chunks : List (List ℕ)) → length (slots_of (packets_from pid index chunks)) ≤ length chunks
unfolding packets_from
packets_few pid index [] = omega arith
packets_few pid index (chunk ∷ chunks) =
    listed_few index (length chunks) (size_in pid (packet_at chunk)) (packets_from pid (index + 1) chunks) (packets_few pid (index + 1) chunks)

-- No more payload bytes leave than the packets have.
pub payloads_few : (packets : List Packet) (ds : List ℕ) → length (of_payloads packets ds) ≤ sum_by (λ p. p.size) packets
unfolding of_payloads
payloads_few [] ds = omega arith
payloads_few (p ∷ packets) ds =
    rw (sum_by-cons (λ p. p.size) p packets)
    (omega (
      arith,
      length-append (drop (188 - p.size) (take 188 ds)) (of_payloads packets (drop 188 ds)),
      length-drop (188 - p.size) (take 188 ds),
      length-take 188 ds,
      payloads_few packets (drop 188 ds),
    ))

-- No more payload bytes leave than bytes leave.
pub payload_count : (packets : List Packet) (ds : List ℕ) → length (of_payloads packets ds) ≤ length ds
unfolding of_payloads
payload_count [] ds = omega arith
payload_count (p ∷ packets) ds = omega (
  arith,
  length-append (drop (188 - p.size) (take 188 ds)) (of_payloads packets (drop 188 ds)),
  length-drop (188 - p.size) (take 188 ds),
  length-take 188 ds,
  length-drop 188 ds,
  payload_count packets (drop 188 ds),
)

-- At the end of a walk no departure is given.
pub none_given : (o : Option ℕ) (rest ahead : List ℕ) → ahead ≡ [] → ahead ≡ given o rest → o ≡ None
none_given None rest ahead none is = refl
none_given (Some time) rest ahead none is = cc

plain_most : (before : ℕ → ℕ) (peak first rate rx rate' rx' : ℕ) (pes_packets : List PesPacket) (left left' : List ℕ) → ((x : ℕ) → before x ≡ 0) → first ≡ 0 →
    rate' ≡ rate → rx' ≡ rx → left' ≡ left →
    max peak 0 ≡ max first (greatest_at (λ x. before x + mb_fullness rate' rx' x pes_packets left') left') →
    peak ≡ greatest_at (λ x. mb_fullness rate rx x pes_packets left) left
plain_most before peak first rate rx rate' rx' pes_packets left left' none start same_rate same_rx same is =
    let all = greatest_ext (λ x. before x + mb_fullness rate rx x pes_packets left) (λ x. mb_fullness rate rx x pes_packets left) left
    (λ x. omega (arith, none x)) in
    omega (arith, rw (start, same_rate, same_rx, same) at is, all)

-- A walk that starts with an empty buffer has found the peak when it ends.
pub most_found_all : {A : Type 0} (walk walk' : PayloadBytes) (buffer buffer' : MainBuffer A) (rate rx : ℕ) (pes_packets : List PesPacket) (left : List ℕ) →
    ((x : ℕ) → fullness_at buffer x ≡ 0) → buffer.peak ≡ 0 → walk.rate ≡ rate → drain_of walk ≡ rx → bytes_ahead walk ≡ left → bytes_ahead walk' ≡ [] →
    peak_of walk' buffer' [] ≡ peak_of walk buffer pes_packets → buffer'.peak ≡ greatest_at (λ x. mb_fullness rate rx x pes_packets left) left
unfolding greatest_at
most_found_all walk walk' buffer buffer' rate rx pes_packets left none start same_rate same_rx same ended is =
    plain_most (fullness_at buffer) buffer'.peak buffer.peak rate rx walk.rate (drain_of walk) pes_packets left (bytes_ahead walk) none start same_rate same_rx
    same
    (let e : peak_of walk' buffer' [] ≡ max buffer'.peak 0 = rw ended refl in sym e ∙ is)

-- Packets in all bytes of the stream

packet_of : Entry → Packet
packet_of entry = record { slot = entry.index; size = length (payload_of entry.packet) }

entries_from : ℕ → List (List ℕ) → List Entry
entries_from index chunks = filter_map (λ p. entry_of p.0 p.1 (packet_at p.1)) (enumerate_from index chunks)

packets_next : (pid index : ℕ) (chunk : List ℕ) (chunks : List (List ℕ)) (read : Result PacketView PacketError) → packet_at chunk ≡ read →
    map packet_of (filter (λ entry. is_of_pid pid entry.packet) (entries_from (index + 1) chunks)) ≡ packets_from pid (index + 1) chunks →
    map packet_of (filter (λ entry. is_of_pid pid entry.packet) (entries_from index (chunk ∷ chunks))) ≡ packets_from pid index (chunk ∷ chunks)
unfolding packet_of entries_from entry_of packets_from size_in
packets_next pid index chunk chunks (Err error) is rest = rw is rest
packets_next pid index chunk chunks (Ok packet) is rest = elim (cases_Bool (is_of_pid pid packet)) [
  | inl own ↦ rw (is, own) (ap (λ (ps : List Packet). record { slot = index; size = length (payload_of packet) } ∷ ps) rest)
  | inr other ↦ rw (is, other) rest
]

pub packets_same : (pid index : ℕ) (chunks : List (List ℕ)) →
    map (λ entry. record { slot = entry.index; size = length (payload_of entry.packet) }) (filter (λ entry. is_of_pid pid entry.packet)
    (filter_map (λ p. entry_of p.0 p.1 (packet_at p.1)) (enumerate_from index chunks))) ≡ packets_from pid index chunks
unfolding packet_of entries_from packets_from
packets_same pid index [] = refl
packets_same pid index (chunk ∷ chunks) = packets_next pid index chunk chunks (packet_at chunk) refl (packets_same pid (index + 1) chunks)

payloads_next : (pid index : ℕ) (chunk : List ℕ) (chunks : List (List ℕ)) (read : Result PacketView PacketError) → packet_at chunk ≡ read →
    concat (map (λ entry. payload_of entry.packet) (filter (λ entry. is_of_pid pid entry.packet) (entries_from (index + 1) chunks))) ≡ payloads_from pid chunks
    →
    concat (map (λ entry. payload_of entry.packet) (filter (λ entry. is_of_pid pid entry.packet) (entries_from index (chunk ∷ chunks)))) ≡ payloads_from pid
    (chunk ∷ chunks)
unfolding entries_from entry_of payloads_from payload_in
payloads_next pid index chunk chunks (Err error) is rest = rw is rest
payloads_next pid index chunk chunks (Ok packet) is rest = elim (cases_Bool (is_of_pid pid packet)) [
  | inl own ↦ rw (is, own) (ap (λ (ps : List ℕ). payload_of packet ++ ps) rest)
  | inr other ↦ rw (is, other) rest
]

pub payloads_same : (pid index : ℕ) (chunks : List (List ℕ)) →
    concat (map (λ entry. payload_of entry.packet) (filter (λ entry. is_of_pid pid entry.packet)
    (filter_map (λ p. entry_of p.0 p.1 (packet_at p.1)) (enumerate_from index chunks)))) ≡ payloads_from pid chunks
unfolding entries_from payloads_from
payloads_same pid index [] = refl
payloads_same pid index (chunk ∷ chunks) = payloads_next pid index chunk chunks (packet_at chunk) refl (payloads_same pid (index + 1) chunks)

tables_next : (pmt_pid index : ℕ) (chunk : List ℕ) (chunks : List (List ℕ)) (read : Result PacketView PacketError) → packet_at chunk ≡ read →
    map (λ entry. entry.index) (filter (λ entry. is_of_pid 0 entry.packet || is_of_pid pmt_pid entry.packet) (entries_from (index + 1) chunks)) ≡ tables_from
    pmt_pid (index + 1) chunks →
    map (λ entry. entry.index) (filter (λ entry. is_of_pid 0 entry.packet || is_of_pid pmt_pid entry.packet) (entries_from index (chunk ∷ chunks))) ≡
    tables_from pmt_pid index (chunk ∷ chunks)
unfolding entries_from entry_of tables_from is_of_tables
tables_next pmt_pid index chunk chunks (Err error) is rest = rw is rest
tables_next pmt_pid index chunk chunks (Ok packet) is rest = elim (cases_Bool (is_of_pid 0 packet || is_of_pid pmt_pid packet)) [
  | inl own ↦ rw (is, own) (ap (λ (ns : List ℕ). index ∷ ns) rest)
  | inr other ↦ rw (is, other) rest
]

pub tables_same : (pmt_pid index : ℕ) (chunks : List (List ℕ)) →
    map (λ entry. entry.index) (filter (λ entry. is_of_pid 0 entry.packet || is_of_pid pmt_pid entry.packet)
    (filter_map (λ p. entry_of p.0 p.1 (packet_at p.1)) (enumerate_from index chunks))) ≡ tables_from pmt_pid index chunks
unfolding entries_from tables_from
tables_same pmt_pid index [] = refl
tables_same pmt_pid index (chunk ∷ chunks) = tables_next pmt_pid index chunk chunks (packet_at chunk) refl (tables_same pmt_pid (index + 1) chunks)

sizes_next : (pid index : ℕ) (chunks : List (List ℕ)) (read : Result PacketView PacketError) →
    sum_by (λ p. p.size) (packets_from pid (index + 1) chunks) ≡ length (payloads_from pid chunks) →
    sum_by (λ p. p.size) (listed index (size_in pid read) (packets_from pid (index + 1) chunks)) ≡ length (payload_in pid read ++ payloads_from pid chunks)
unfolding size_in payload_in
sizes_next pid index chunks (Err error) rest = rest
sizes_next pid index chunks (Ok packet) rest = elim (cases_Bool (is_of_pid pid packet)) [
  | inl own ↦ rw (own, sum_by-cons (λ p. p.size) (record { slot = index; size = length (payload_of packet) }) (packets_from pid (index + 1) chunks))
      (omega (arith, length-append (payload_of packet) (payloads_from pid chunks), rest))
  | inr other ↦ rw other rest
]

-- The sizes of a PID's payloads add up to the length of the joined payloads.
pub sizes_same : (pid index : ℕ) (chunks : List (List ℕ)) → sum_by (λ p. p.size) (packets_from pid index chunks) ≡ length (payloads_from pid chunks)
unfolding packets_from payloads_from
sizes_same pid index [] = refl
sizes_same pid index (chunk ∷ chunks) = sizes_next pid index chunks (packet_at chunk) (sizes_same pid (index + 1) chunks)
