-- The findings of a whole stream, to its end, on each PID and in the order of the packets.
use Rattle.std.proofs.Common.{◌≡◌, ℕ, zero, suc, zero-add, ◌+◌, ◌-◌, ◌*◌, ◌/◌, ◌^◌, ◌≤◌, ◌<◌, ◌==◌, Bool, true, false, cond, List, [], ◌∷◌, ◌++◌, length, take}
use Rattle.std.proofs.Common.{drop, map, None, Result, Ok, Err, refl, sym, ap, ap₂, subst, ◌∙◌, arith, append_assoc, length-drop}
use Rattle.std.specs.Prelude.{All}
use Rattle.std.specs.List.{concat}
use Rattle.std.specs.Simd.{first_chunks}
use Rattle.std.proofs.lemmas.List.{append-nil, length-take-le}
use Rattle.std.proofs.lemmas.List.Elements.{All-cons, All-nil}
use Rattle.ts_packet.specs.declared.packet.PacketError.{PacketError}
use Rattle.ts_packet.specs.Views.{PacketView}
use Rattle.ts_packet.specs.Reading.{packet_at}
use Rattle.ts_packet.specs.PidList.{cut_packets, pid_list}
use Rattle.pid_findings.specs.Views.{Found, FindingView, IsErrored}
use Rattle.pid_findings.specs.Findings.{ended, findings_to_end}
use Rattle.pid_findings.specs.Machine.{PidState, found_by, step}
use Rattle.pid_findings.specs.Shown.{with_pid}
use Rattle.demux.specs.Laws.{found_of, with_pid_at}
use Rattle.demux.specs.Stream.{States, StreamState, ended_found, entry_of, findings_by, finished, found_in, held_found, next_packet, pushed, start, state_of}
use Rattle.demux.specs.Stream.{states_by, taken, with_state}
use Rattle.demux.specs.FoundSoFar.{FoundSoFar, found_in_all, taken_all}
use Rattle.demux.proofs.EachPid.{of_append, of_with_pid, same_number}
use Rattle.demux.proofs.PushedBytes.{pushed_less}
use Rattle.demux.proofs.FoundSoFar.{all_are_found, nothing_at_first, packets_add}
use Rattle.demux.proofs.WholeStream.{each_pid_alone}
use Rattle.monitor.specs.Begins.{found_on}
use Rattle.monitor.proofs.BegunByThen.{ended_by, findings_within, states_longer, states_next, states_within, reported_by}
use Rattle.monitor.proofs.MapsOfPid.{rising_from}
use Rattle.monitor.proofs.MapSteps.{all_begun_by_then}

-- 1. The bytes as packets

take_drop : (n : ℕ) (xs : List ℕ) → take n xs ++ drop n xs ≡ xs
take_drop zero xs = refl
take_drop (suc n) [] = refl
take_drop (suc n) (x ∷ xs) = ap (λ (ys : List ℕ). x ∷ ys) (take_drop n xs)

drop_none : (k : ℕ) → drop {A = ℕ} k [] ≡ []
drop_none zero = refl
drop_none (suc k) = refl

drop_drop : (n m : ℕ) (xs : List ℕ) → drop n (drop m xs) ≡ drop (m + n) xs
drop_drop n zero xs = ap (λ (k : ℕ). drop k xs) (sym (zero-add n))
drop_drop n (suc m) [] = drop_none n ∙ sym (drop_none (suc m + n))
drop_drop n (suc m) (x ∷ xs) = let e : suc m + n ≡ suc (m + n) = omega arith in rw e (drop_drop n m xs)

pub take_rest : (k : ℕ) (bytes : List ℕ) → concat (first_chunks 188 k bytes) ++ drop (188 * k) bytes ≡ bytes
take_rest zero bytes = refl
take_rest (suc k) bytes =
    let at : 188 * suc k ≡ 188 + 188 * k = omega arith in
    append_assoc (take 188 bytes) (concat (first_chunks 188 k (drop 188 bytes))) (drop (188 * suc k) bytes)
    ∙ ap (λ (xs : List ℕ). take 188 bytes ++ (concat (first_chunks 188 k (drop 188 bytes)) ++ xs))
    (ap (λ (i : ℕ). drop i bytes) at ∙ sym (drop_drop (188 * k) 188 bytes))
    ∙ ap (λ (xs : List ℕ). take 188 bytes ++ xs) (take_rest k (drop 188 bytes))
    ∙ take_drop 188 bytes

pub sizes : (k : ℕ) (bytes : List ℕ) → 188 * k ≤ length bytes → All (λ packet. length packet ≡ 188) (first_chunks 188 k bytes)
sizes zero bytes h = All-nil (λ packet. length packet ≡ 188)
sizes (suc k) bytes h =
    let m : length (drop 188 bytes) ≡ length bytes - 188 = length-drop 188 bytes in
    All-cons (λ packet. length packet ≡ 188) (take 188 bytes) (first_chunks 188 k (drop 188 bytes)) (length-take-le 188 bytes (omega arith))
    (sizes k (drop 188 bytes) (omega arith))

pub packet_count : (k : ℕ) (bytes : List ℕ) → length (first_chunks 188 k bytes) ≡ k
packet_count zero bytes = refl
packet_count (suc k) bytes = let e = packet_count k (drop 188 bytes) in omega arith

-- 2. The parts of the state that no packet changes

pub kept_held : (s : StreamState) (packets : List (List ℕ)) → (taken_all s packets).held ≡ s.held
unfolding taken_all taken
kept_held s [] = refl
kept_held s (packet ∷ packets) = kept_held (taken s packet) packets

kept_found : (s : StreamState) (packets : List (List ℕ)) → (taken_all s packets).found ≡ s.found
unfolding taken_all taken
kept_found s [] = refl
kept_found s (packet ∷ packets) = kept_found (taken s packet) packets

kept_open : (s : StreamState) (packets : List (List ℕ)) → (taken_all s packets).ended ≡ s.ended
unfolding taken_all taken
kept_open s [] = refl
kept_open s (packet ∷ packets) = kept_open (taken s packet) packets

count_all : (s : StreamState) (packets : List (List ℕ)) → s.packets + length packets < 2 ^ 64 → (taken_all s packets).packets ≡ s.packets + length packets
unfolding taken_all taken
count_all s [] h = omega arith
count_all s (packet ∷ packets) h =
    let e : next_packet s.packets ≡ s.packets + 1 = omega arith in
    count_all (taken s packet) packets (omega arith) ∙ omega arith

-- 3. The end of the stream

held_of : (pid packet : ℕ) (held : List ℕ) → found_of pid (held_found packet held) ≡ []
held_of pid packet [] = refl
held_of pid packet (x ∷ held) = refl

finished_if : (s : StreamState) → s.ended ≡ false → (finished s).found ≡ s.found ++ (held_found s.packets s.held ++ ended_found s.packets s.states)
finished_if s e = rw e refl

finished_of : (pid : ℕ) (s : StreamState) → s.ended ≡ false → found_of pid (finished s).found ≡ found_of pid s.found
    ++ found_of pid (ended_found s.packets s.states)
finished_of pid s e =
    let held = held_found s.packets s.held in
    let ends = ended_found s.packets s.states in
    ap (found_of pid) (finished_if s e) ∙ of_append pid s.found (held ++ ends)
    ∙ ap (λ (xs : List FindingView). found_of pid s.found ++ xs)
    (of_append pid held ends ∙ ap (λ (xs : List FindingView). xs ++ found_of pid ends) (held_of pid s.packets s.held))

-- The held bytes of an incomplete packet do not change the findings of any PID.
held_no_matter : (pid : ℕ) (s : StreamState) (held : List ℕ) → s.ended ≡ false →
    found_of pid (finished (record s { held = held })).found ≡ found_of pid (finished s).found
held_no_matter pid s held e = finished_of pid (record s { held = held }) e ∙ sym (finished_of pid s e)

-- 4. The findings of a stream

abbrev pub found_whole : List ℕ → List FindingView
found_whole bytes = found_in_all start (cut_packets bytes) ++ (finished (taken_all start (cut_packets bytes))).found

of_one_pid : (pid : ℕ) (bytes : List ℕ) → (pid == 8191) ≡ false → length bytes / 188 < 2 ^ 64 - 1 →
    found_of pid (found_whole bytes) ≡ map (with_pid_at pid) (findings_to_end (length bytes / 188) (pid_list pid bytes))
of_one_pid pid bytes p n =
    let k = length bytes / 188 in
    let packets = cut_packets bytes in
    let rest = drop (188 * k) bytes in
    let s = taken_all start packets in
    let found = found_in_all start packets in
    let fits : 188 * k ≤ length bytes = omega arith in
    let h : FoundSoFar (concat packets) s found = packets_add [] packets start [] nothing_at_first refl (sizes k bytes fits) in
    let size : length rest ≡ length bytes - 188 * k = length-drop (188 * k) bytes in
    let held : length s.held ≡ 0 = ap length (kept_held start packets) in
    let less : pushed s rest ≡ record s { held = s.held ++ rest } = pushed_less s rest (omega arith) in
    let all = all_are_found (concat packets) rest s found h in
    let whole : (finished (pushed start bytes)).found ≡ found ++ (finished (record s { held = s.held ++ rest })).found =
    ap (λ (xs : List ℕ). (finished (pushed start xs)).found) (sym (take_rest k bytes)) ∙ all.2 ∙ ap (λ (t : StreamState). found ++ (finished t).found) less in
    of_append pid found (finished s).found
    ∙ ap (λ (xs : List FindingView). found_of pid found ++ xs) (sym (held_no_matter pid s (s.held ++ rest) (kept_open start packets)))
    ∙ sym (of_append pid found (finished (record s { held = s.held ++ rest })).found)
    ∙ ap (found_of pid) (sym whole)
    ∙ (each_pid_alone pid bytes p n).1

-- 5. Null packets, which have no findings

abbrev no_null : States → Type 0
no_null [] = Unit {0}
no_null (x ∷ states) = ((x.0 == 8191) ≡ false) × no_null states

no_null_with : (q : ℕ) (state : PidState) (states : States) → (q == 8191) ≡ false → no_null states → no_null (with_state q state states)
no_null_with q state [] e h = (e, tt)
no_null_with q state (x ∷ states) e h = by (q == x.0) (no_null_with q state states e h.1)
  where
    by : (t : Bool) → no_null (with_state q state states) → no_null (cond t ((x.0, state) ∷ states) (x ∷ with_state q state states))
    by true k = (h.0, h.1)
    by false k = (h.0, k)

null_found : (index : ℕ) (bytes : List ℕ) (states : States) (r : Result PacketView PacketError) → found_of 8191 (findings_by index bytes states r) ≡ []
unfolding findings_by
null_found index bytes states (Err error) = refl
null_found index bytes states (Ok packet) = by packet.header.transport_error_indicator (packet.header.pid == 8191) refl
  where
    by : (e z : Bool) → (packet.header.pid == 8191) ≡ z → found_of 8191 (cond e ((record { packet = index; pid = None; begun = None; what = IsErrored }) ∷ [])
        (cond z [] (map (with_pid packet.header.pid index) (found_by (state_of packet.header.pid states) (entry_of index bytes packet))))) ≡ []
    by true z h = refl
    by false true h = refl
    by false false h = of_with_pid 8191 index packet.header.pid false h (found_by (state_of packet.header.pid states) (entry_of index bytes packet))

null_states : (index : ℕ) (bytes : List ℕ) (states : States) (r : Result PacketView PacketError) → no_null states → no_null (states_by index bytes states r)
unfolding states_by
null_states index bytes states (Err error) h = h
null_states index bytes states (Ok packet) h = by packet.header.transport_error_indicator (packet.header.pid == 8191) refl
  where
    by : (e z : Bool) → (packet.header.pid == 8191) ≡ z →
        no_null (cond e states (cond z states (with_state packet.header.pid (step (state_of packet.header.pid states) (entry_of index bytes packet)) states)))
    by true z k = h
    by false true k = h
    by false false k = no_null_with packet.header.pid (step (state_of packet.header.pid states) (entry_of index bytes packet)) states k h

null_all : (s : StreamState) (packets : List (List ℕ)) → no_null s.states → (found_of 8191 (found_in_all s packets) ≡ []) × no_null (taken_all s packets).states
unfolding found_in_all taken_all found_in taken
null_all s [] h = (refl, h)
null_all s (packet ∷ packets) h =
    let r = packet_at packet in
    let next = null_all (taken s packet) packets (null_states s.packets packet s.states r h) in (
      of_append 8191 (found_in s packet) (found_in_all (taken s packet) packets)
          ∙ ap₂ (λ (xs ys : List FindingView). xs ++ ys) (null_found s.packets packet s.states r) next.0,
      next.1,
    )

null_ended : (packet : ℕ) (states : States) → no_null states → found_of 8191 (ended_found packet states) ≡ []
unfolding ended_found
null_ended packet [] h = refl
null_ended packet (x ∷ states) h =
    of_append 8191 (map (with_pid x.0 packet) (ended true x.1.open_unit)) (ended_found packet states)
    ∙ ap₂ (λ (xs ys : List FindingView). xs ++ ys) (of_with_pid 8191 packet x.0 false h.0 (ended true x.1.open_unit)) (null_ended packet states h.1)

of_null : (bytes : List ℕ) → found_of 8191 (found_whole bytes) ≡ []
of_null bytes =
    let packets = cut_packets bytes in
    let s = taken_all start packets in
    let all = null_all start packets tt in
    of_append 8191 (found_in_all start packets) (finished s).found
    ∙ ap₂ (λ (xs ys : List FindingView). xs ++ ys) all.0
    (finished_of 8191 s (kept_open start packets) ∙ ap₂ (λ (xs ys : List FindingView). xs ++ ys) (ap (found_of 8191) (kept_found start packets))
    (null_ended s.packets s.states all.1))

pub of_each : (bytes : List ℕ) → length bytes / 188 < 2 ^ 64 - 1 → (pid : ℕ) → found_of pid (found_whole bytes) ≡ map (with_pid_at pid) (found_on pid bytes)
of_each bytes n pid = by (pid == 8191) refl
  where
    by : (t : Bool) → (pid == 8191) ≡ t →
        found_of pid (found_whole bytes) ≡ map (with_pid_at pid) (cond t [] (findings_to_end (length bytes / 188) (pid_list pid bytes)))
    by true e = ap (λ (k : ℕ). found_of k (found_whole bytes)) (same_number pid 8191 e) ∙ of_null bytes
    by false e = of_one_pid pid bytes e n

-- 6. The order of the findings, and the begins of their units

abbrev all_at : ℕ → List FindingView → Type 0
all_at packet [] = Unit {0}
all_at packet (f ∷ found) = (f.packet ≡ packet) × all_at packet found

at_reported : (q index : ℕ) (found : List Found) → all_at index (map (with_pid q index) found)
at_reported q index [] = tt
at_reported q index (x ∷ found) = (refl, at_reported q index found)

at_findings : (index : ℕ) (bytes : List ℕ) (states : States) (r : Result PacketView PacketError) → all_at index (findings_by index bytes states r)
unfolding findings_by
at_findings index bytes states (Err error) = (refl, tt)
at_findings index bytes states (Ok packet) = by packet.header.transport_error_indicator (packet.header.pid == 8191)
  where
    by : (e z : Bool) → all_at index (cond e ((record { packet = index; pid = None; begun = None; what = IsErrored }) ∷ [])
        (cond z [] (map (with_pid packet.header.pid index) (found_by (state_of packet.header.pid states) (entry_of index bytes packet)))))
    by true z = (refl, tt)
    by false true = tt
    by false false = at_reported packet.header.pid index (found_by (state_of packet.header.pid states) (entry_of index bytes packet))

at_append : (packet : ℕ) (xs ys : List FindingView) → all_at packet xs → all_at packet ys → all_at packet (xs ++ ys)
at_append packet [] ys h k = k
at_append packet (x ∷ xs) ys h k = (h.0, at_append packet xs ys h.1 k)

at_ended : (packet : ℕ) (states : States) → all_at packet (ended_found packet states)
unfolding ended_found
at_ended packet [] = tt
at_ended packet (x ∷ states) =
    at_append packet (map (with_pid x.0 packet) (ended true x.1.open_unit)) (ended_found packet states) (at_reported x.0 packet (ended true x.1.open_unit))
    (at_ended packet states)

rising_less : (low high : ℕ) (found : List FindingView) → low ≤ high → rising_from high found → rising_from low found
rising_less low high [] n h = tt
rising_less low high (f ∷ found) n h = let k : high ≤ f.packet = h.0 in (omega arith, h.1)

rising_front : (low packet : ℕ) (xs ys : List FindingView) → low ≤ packet → all_at packet xs → rising_from packet ys → rising_from low (xs ++ ys)
rising_front low packet [] ys n h k = rising_less low packet ys n k
rising_front low packet (x ∷ xs) ys n h k =
    let e : x.packet ≡ packet = h.0 in (omega arith, rising_front x.packet packet xs ys (omega arith) h.1 k)

rising_all : (s : StreamState) (packets : List (List ℕ)) (count : ℕ) (tail : List FindingView) → s.packets + length packets ≡ count → count < 2 ^ 64 →
    rising_from count tail → rising_from s.packets (found_in_all s packets ++ tail)
unfolding found_in_all found_in taken
rising_all s [] count tail e n h = rising_less s.packets count tail (omega arith) h
rising_all s (packet ∷ packets) count tail e n h =
    let k : next_packet s.packets ≡ s.packets + 1 = omega arith in
    let rest = rising_all (taken s packet) packets count tail (omega arith) n h in
    subst (λ (xs : List FindingView). rising_from s.packets xs) (sym (append_assoc (found_in s packet) (found_in_all (taken s packet) packets) tail))
    (rising_front s.packets s.packets (found_in s packet) (found_in_all (taken s packet) packets ++ tail) (omega arith)
    (at_findings s.packets packet s.states (packet_at packet))
    (rising_less s.packets (next_packet s.packets) (found_in_all (taken s packet) packets ++ tail) (omega arith) rest))

pub ended_whole : (bytes : List ℕ) →
    (finished (taken_all start (cut_packets bytes))).found ≡ ended_found (taken_all start (cut_packets bytes)).packets
    (taken_all start (cut_packets bytes)).states
ended_whole bytes =
    let packets = cut_packets bytes in
    let s = taken_all start packets in
    finished_if s (kept_open start packets)
    ∙ ap₂ (λ (xs : List FindingView) (held : List ℕ). xs ++ (held_found s.packets held ++ ended_found s.packets s.states)) (kept_found start packets)
    (kept_held start packets)

pub rises : (bytes : List ℕ) → length bytes / 188 < 2 ^ 64 - 1 → rising_from 0 (found_whole bytes)
rises bytes n =
    let packets = cut_packets bytes in
    let s = taken_all start packets in
    let k : length packets ≡ length bytes / 188 = packet_count (length bytes / 188) bytes in
    let fits : 0 + length packets < 2 ^ 64 = omega arith in
    let c : s.packets ≡ 0 + length packets = count_all start packets fits in
    let tail : rising_from s.packets (ended_found s.packets s.states ++ []) =
    rising_front s.packets s.packets (ended_found s.packets s.states) [] (omega arith) (at_ended s.packets s.states) tt in
    let last : rising_from s.packets (finished s).found =
    subst (λ (xs : List FindingView). rising_from s.packets xs) (append-nil (ended_found s.packets s.states) ∙ sym (ended_whole bytes)) tail in
    rising_all start packets s.packets (finished s).found (sym c) (omega arith) last

begun_append : (xs ys : List FindingView) → all_begun_by_then xs → all_begun_by_then ys → all_begun_by_then (xs ++ ys)
begun_append [] ys h k = k
begun_append (x ∷ xs) ys h k = (h.0, begun_append xs ys h.1 k)

begun_all : (s : StreamState) (packets : List (List ℕ)) → s.packets + length packets < 2 ^ 64 → states_within s.packets s.states →
    all_begun_by_then (found_in_all s packets) × states_within (taken_all s packets).packets (taken_all s packets).states
unfolding found_in_all taken_all found_in taken
begun_all s [] n h = (tt, h)
begun_all s (packet ∷ packets) n h =
    let k : next_packet s.packets ≡ s.packets + 1 = omega arith in
    let states = states_by s.packets packet s.states (packet_at packet) in
    let next = begun_all (taken s packet) packets (omega arith)
    (states_longer s.packets (next_packet s.packets) states (omega arith) (states_next s.packets packet s.states (packet_at packet) h)) in
    (begun_append (found_in s packet) (found_in_all (taken s packet) packets) (findings_within s.packets packet s.states (packet_at packet) h) next.0, next.1)

begun_ended : (packet : ℕ) (states : States) → states_within packet states → all_begun_by_then (ended_found packet states)
unfolding ended_found
begun_ended packet [] h = tt
begun_ended packet (x ∷ states) h =
    begun_append (map (with_pid x.0 packet) (ended true x.1.open_unit)) (ended_found packet states)
    (reported_by x.0 packet (ended true x.1.open_unit) (ended_by packet true x.1.open_unit h.0)) (begun_ended packet states h.1)

pub begun_whole : (bytes : List ℕ) → length bytes / 188 < 2 ^ 64 - 1 → all_begun_by_then (found_whole bytes)
begun_whole bytes n =
    let packets = cut_packets bytes in
    let s = taken_all start packets in
    let k : length packets ≡ length bytes / 188 = packet_count (length bytes / 188) bytes in
    let all = begun_all start packets (omega arith) tt in
    begun_append (found_in_all start packets) (finished s).found all.0
    (subst (λ (xs : List FindingView). all_begun_by_then xs) (sym (ended_whole bytes)) (begun_ended s.packets s.states all.1))
