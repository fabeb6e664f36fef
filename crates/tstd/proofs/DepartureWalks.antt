-- A walk over the packets of a PID.
use Rattle.std.proofs.Common.{◌≡◌, ◌∙◌, ℕ, suc, ◌+◌, ◌-◌, ◌*◌, ◌<◌, ◌≤◌, max, List, [], ◌∷◌, ◌++◌, length, take, drop, refl, ap, sym, arith, take_at, drop_at}
use Rattle.std.proofs.Common.{add-one, append_assoc, length-append}
use Rattle.clock27.specs.Arrival.{bytes_from, arrivals}
use Rattle.clock27.specs.Departure.{departures, last_left}
use Rattle.clock27.proofs.Departures.{departures-append, length-departures}
use Rattle.unit_timing.specs.Schedule.{Packet}
use Rattle.unit_timing.specs.Transport.{slots_of, of_payloads, pes_left}
use Rattle.std.proofs.Common.{Some, None}
use Rattle.ts_packet.specs.Reading.{packet_at}
use Rattle.tstd.specs.declared.departures.Departures.{Departures}
use Rattle.tstd.specs.declared.queue.Queue.{Queue}
use Rattle.tstd.specs.PidPackets.{size_in, packets_from}
use Rattle.tstd.specs.Queues.{arrived, all_arrived, greatest_residence}
use Rattle.tstd.proofs.QueueStates.{passed-step, passed-last, passed-longest}
use Rattle.tstd.specs.DepartureWalk.{left_from, residence_from, left_ahead, walk_residence, packets_ahead}
use Rattle.tstd.proofs.ByteRows.{row_split, length-row}

-- A packet's 188 bytes are the bytes before its payload and the payload.
packet_row : (rx index size : ℕ) → size ≤ 188 →
    bytes_from rx (188 * index) 188 ≡ bytes_from rx (188 * index) (188 - size) ++ bytes_from rx (188 * index + (188 - size)) size
packet_row rx index size few =
    let e : (188 - size) + size ≡ 188 = omega arith in
    ap (bytes_from rx (188 * index)) (sym e) ∙ row_split rx (188 * index) (188 - size) size

-- In three joined lists of departures, the last m of the first n + m are the second list.
front_end : (a b c : List ℕ) (n m : ℕ) → length a ≡ n → length b ≡ m → drop n (take (n + m) (a ++ (b ++ c))) ≡ b
front_end a b c n m la lb =
    let both : length (a ++ b) ≡ n + m = length-append a b ∙ rw (la, lb) refl in
    let cut : take (n + m) ((a ++ b) ++ c) ≡ a ++ b = take_at (a ++ b) c (n + m) both in
    rw (sym (append_assoc a b c), cut) (drop_at a b n la)

after_front : (a b c : List ℕ) (n m : ℕ) → length a ≡ n → length b ≡ m → drop (n + m) (a ++ (b ++ c)) ≡ c
after_front a b c n m la lb =
    let both : length (a ++ b) ≡ n + m = length-append a b ∙ rw (la, lb) refl in
    rw (sym (append_assoc a b c)) (drop_at (a ++ b) c (n + m) both)

-- The walk enters a packet: the departures ahead are the departures of its payload and of the later packets.
pub into_packet : (step last rx index size : ℕ) (packets : List Packet) → size ≤ 188 →
    left_from step (last_left step last (bytes_from rx (188 * index) (188 - size))) rx (188 * index + (188 - size)) size packets
    ≡ pes_left step rx last (record { slot = index; size = size } ∷ packets)
unfolding of_payloads arrivals
into_packet step last rx index size packets few =
    let front = bytes_from rx (188 * index) (188 - size) in
    let row = bytes_from rx (188 * index + (188 - size)) size in
    let rest = arrivals rx (slots_of packets) in
    let after = last_left step last front in
    let all : bytes_from rx (188 * index) 188 ++ rest ≡ front ++ (row ++ rest) =
    ap (λ (ts : List ℕ). ts ++ rest) (packet_row rx index size few) ∙ append_assoc front row rest in
    let split : departures step last (front ++ (row ++ rest)) ≡ departures step last front
    ++ (departures step after row ++ departures step (last_left step after row) rest) =
    departures-append step last front (row ++ rest) ∙ ap (λ (ds : List ℕ). departures step last front ++ ds) (departures-append step after row rest) in
    let la : length (departures step last front) ≡ 188 - size = length-departures step last front ∙ length-row rx (188 * index) (188 - size) in
    let lb : length (departures step after row) ≡ size = length-departures step after row ∙ length-row rx (188 * index + (188 - size)) size in
    let e : (188 - size) + size ≡ 188 = omega arith in
    let payload =
    rw e at (front_end (departures step last front) (departures step after row) (departures step (last_left step after row) rest) (188 - size) size la lb)
    in
    let following =
    rw e at (after_front (departures step last front) (departures step after row) (departures step (last_left step after row) rest) (188 - size) size la lb)
    in
    rw (all, split, payload, following) refl

-- The bytes of a packet are the bytes before its payload, then the payload.
pub longest_in_packet : (step last rx index size : ℕ) (packets : List Packet) → size ≤ 188 →
    bytes_from rx (188 * index) (188 - size) ++ (bytes_from rx (188 * index + (188 - size)) size ++ arrivals rx (slots_of packets))
    ≡ arrivals rx (slots_of (record { slot = index; size = size } ∷ packets))
unfolding arrivals
longest_in_packet step last rx index size packets few =
    sym (ap (λ (ts : List ℕ). ts ++ arrivals rx (slots_of packets)) (packet_row rx index size few)
    ∙ append_assoc (bytes_from rx (188 * index) (188 - size)) (bytes_from rx (188 * index + (188 - size)) size) (arrivals rx (slots_of packets)))

-- The walk gives the departure of one payload byte.
pub byte_given : (step last rx byte left : ℕ) (packets : List Packet) → 0 < left →
    left_from step last rx byte left packets
    ≡ (max (byte * rx) last + step) ∷ left_from step (max (byte * rx) last + step) rx (byte + 1) (left - 1) packets
unfolding bytes_from departures last_left
byte_given step last rx byte left packets some =
    let e : left ≡ suc (left - 1) = omega arith in
    let s : byte + 1 ≡ suc byte = add-one byte in
    ap (λ (n : ℕ). left_from step last rx byte n packets) e ∙ rw s refl

pub byte_longest : (step last longest_residence rx byte left : ℕ) (packets : List Packet) → 0 < left →
    residence_from step (max (byte * rx) last + step) (max longest_residence (max (byte * rx) last + step - byte * rx)) rx (byte + 1) (left - 1) packets
    ≡ residence_from step last longest_residence rx byte left packets
unfolding bytes_from greatest_residence
byte_longest step last longest_residence rx byte left packets some =
    let e : left ≡ suc (left - 1) = omega arith in
    let s : byte + 1 ≡ suc byte = add-one byte in
    sym (ap (λ (n : ℕ). residence_from step last longest_residence rx byte n packets) e ∙ rw s (omega arith))

packet_ahead : (q : Queue) (rx byte index size : ℕ) (packets : List Packet) → size ≤ 188 →
    (let p = all_arrived q (bytes_from rx (188 * index) (188 - size)) in left_from p.step p.last rx (188 * index + (188 - size)) size packets)
    ≡ left_from q.step q.last rx byte 0 (record { slot = index; size = size } ∷ packets)
unfolding bytes_from departures last_left
packet_ahead q rx byte index size packets few =
    let front = bytes_from rx (188 * index) (188 - size) in
    rw (passed-step q front, passed-last q front) (into_packet q.step q.last rx index size packets few)

packet_longest : (q : Queue) (rx byte index size : ℕ) (packets : List Packet) → size ≤ 188 →
    (let p = all_arrived q (bytes_from rx (188 * index) (188 - size)) in
    residence_from p.step p.last p.longest_residence rx (188 * index + (188 - size)) size packets)
    ≡ residence_from q.step q.last q.longest_residence rx byte 0 (record { slot = index; size = size } ∷ packets)
unfolding bytes_from
packet_longest q rx byte index size packets few =
    let front = bytes_from rx (188 * index) (188 - size) in
    let row = bytes_from rx (188 * index + (188 - size)) size in
    rw (passed-step q front, passed-last q front)
    (passed-longest q front (row ++ arrivals rx (slots_of packets))
    ∙ ap (λ (ts : List ℕ). max q.longest_residence (greatest_residence q.step q.last ts)) (longest_in_packet q.step q.last rx index size packets few))

-- The next packet is on the PID.
pub go_into : (w : Departures) (chunk : List ℕ) (chunks : List (List ℕ)) (size : ℕ) (q : Queue) → w.left ≡ 0 → w.packets.now ≡ chunk ∷ chunks →
    size_in w.pid (packet_at chunk) ≡ Some size → size ≤ 188 → q ≡ all_arrived w.queue (bytes_from w.rx (188 * w.index) (188 - size)) →
    left_from q.step q.last w.rx (188 * w.index + (188 - size)) size (packets_from w.pid (w.index + 1) chunks) ≡ left_ahead w
unfolding left_ahead packets_from
go_into w chunk chunks size q none all is few state =
    rw (state, none, all, is) (packet_ahead w.queue w.rx w.byte w.index size (packets_from w.pid (w.index + 1) chunks) few)

pub go_into_longest : (w : Departures) (chunk : List ℕ) (chunks : List (List ℕ)) (size : ℕ) (q : Queue) → w.left ≡ 0 → w.packets.now ≡ chunk ∷ chunks →
    size_in w.pid (packet_at chunk) ≡ Some size → size ≤ 188 → q ≡ all_arrived w.queue (bytes_from w.rx (188 * w.index) (188 - size)) →
    residence_from q.step q.last q.longest_residence w.rx (188 * w.index + (188 - size)) size (packets_from w.pid (w.index + 1) chunks) ≡ walk_residence w
unfolding walk_residence packets_from
go_into_longest w chunk chunks size q none all is few state =
    rw (state, none, all, is) (packet_longest w.queue w.rx w.byte w.index size (packets_from w.pid (w.index + 1) chunks) few)

-- The next packet is not on the PID.
pub go_past : (w : Departures) (chunk : List ℕ) (chunks : List (List ℕ)) → w.packets.now ≡ chunk ∷ chunks → size_in w.pid (packet_at chunk) ≡ None →
    packets_from w.pid (w.index + 1) chunks ≡ packets_ahead w
unfolding packets_from
go_past w chunk chunks all is = rw (all, is) refl

pub nothing : {A : Type 0} (xs : List A) → length xs ≡ 0 → xs ≡ []
nothing [] e = refl
nothing (x ∷ xs) e = cc

-- At the end of the walk no departure is left.
pub walk_ended : (w : Departures) → w.left ≡ 0 → length w.packets.now ≡ 0 → left_ahead w ≡ []
unfolding left_ahead packets_from bytes_from departures last_left of_payloads arrivals
walk_ended w none last = rw (none, nothing w.packets.now last) refl

pub walk_longest : (w : Departures) → w.left ≡ 0 → length w.packets.now ≡ 0 → walk_residence w ≡ w.queue.longest_residence
unfolding walk_residence packets_from bytes_from greatest_residence arrivals
walk_longest w none last = rw (none, nothing w.packets.now last) (omega arith)

-- The walk gives the next byte's departure.
pub walk_given : (w : Departures) (q : Queue) (time : ℕ) → 0 < w.left → time ≡ max (w.byte * w.rx) w.queue.last + w.queue.step →
    q ≡ arrived w.queue (w.byte * w.rx) → left_ahead w ≡ time ∷ left_from q.step q.last w.rx (w.byte + 1) (w.left - 1) (packets_ahead w)
unfolding left_ahead
walk_given w q time some is state = rw (is, state) (byte_given w.queue.step w.queue.last w.rx w.byte w.left (packets_ahead w) some)

pub walk_given_longest : (w : Departures) (q : Queue) → 0 < w.left → q ≡ arrived w.queue (w.byte * w.rx) →
    residence_from q.step q.last q.longest_residence w.rx (w.byte + 1) (w.left - 1) (packets_ahead w) ≡ walk_residence w
unfolding walk_residence
walk_given_longest w q some state = rw state (byte_longest w.queue.step w.queue.last w.queue.longest_residence w.rx w.byte w.left (packets_ahead w) some)
