-- The findings on one PID in a whole stream.
use Rattle.std.proofs.Common.{◌≡◌, ℕ, zero, suc, zero-add, ◌+◌, ◌-◌, ◌*◌, ◌/◌, ◌^◌, ◌<◌, ◌≤◌, ◌==◌, Bool, true, false, cond, List, [], ◌∷◌, ◌++◌, length, take}
use Rattle.std.proofs.Common.{drop, map, Result, Ok, Err, refl, sym, ap, ap₂, subst, ◌∙◌, arith, length-drop}
use Rattle.std.specs.Simd.{first_chunks}
use Rattle.std.proofs.lemmas.List.{append-nil, map-append, length-take-le}
use Rattle.ts_packet.specs.Views.{PacketView}
use Rattle.ts_packet.specs.declared.packet.PacketError.{PacketError}
use Rattle.ts_packet.specs.Reading.{packet_at}
use Rattle.ts_packet.specs.PidList.{Entry, pid_list, cut_packets}
use Rattle.pid_findings.specs.Views.{FindingView}
use Rattle.pid_findings.specs.Findings.{at_packet, ended, findings, findings_to_end}
use Rattle.pid_findings.specs.Machine.{PidState, fresh, step, run, run_to}
use Rattle.pid_findings.specs.Shown.{with_pid}
use Rattle.demux.specs.Stream.{States, StreamState, start, state_of, with_state, states_by, entry_of, taken, packet_pushed, pushed, finished, held_found}
use Rattle.demux.specs.Stream.{ended_found}
use Rattle.demux.specs.Laws.{EachPidAlone, PacketsDecide, PiecesJoin, found_of, with_pid_at}
use Rattle.demux.proofs.EachPid.{of_append, of_with_pid, packets_pushed, passed_count, passed_found, passed_to, same_number, with_pid_all, turned_test}
use Rattle.demux.proofs.PushedBytes.{pushed_append, pushed_less, pushed_whole}
use Rattle.pid_findings.proofs.MachineRun.{run_finds_all}

-- 1. The bytes as packets

take_drop : (n : ℕ) (xs : List ℕ) → take n xs ++ drop n xs ≡ xs
take_drop zero xs = refl
take_drop (suc n) [] = refl
take_drop (suc n) (x ∷ xs) = ap (λ (ys : List ℕ). x ∷ ys) (take_drop n xs)

drop_none : (k : ℕ) → drop {A = ℕ} k [] ≡ []
drop_none zero = refl
drop_none (suc k) = refl

drop_drop : (n m : ℕ) (xs : List ℕ) → drop n (drop m xs) ≡ drop (m + n) xs
drop_drop n zero xs = ap (λ (k : ℕ). drop k xs) (sym (zero-add n))
drop_drop n (suc m) [] = drop_none n ∙ sym (drop_none (suc m + n))
drop_drop n (suc m) (x ∷ xs) = let e : suc m + n ≡ suc (m + n) = omega arith in rw e (drop_drop n m xs)

-- The whole packets are taken one by one, and the remaining bytes are held.
pushed_packets : (k : ℕ) (s : StreamState) (bytes : List ℕ) → s.held ≡ [] → 188 * k ≤ length bytes → length bytes < 188 * k + 188 →
    pushed s bytes ≡ record (packets_pushed s (first_chunks 188 k bytes)) { held = drop (188 * k) bytes }
pushed_packets zero s bytes e h g =
    let less : length s.held + length bytes < 188 = rw e (omega arith) in
    pushed_less s bytes less ∙ ap (λ (x : List ℕ). record s { held = x ++ bytes }) e
pushed_packets (suc k) s bytes e h g =
    let front = take 188 bytes in
    let rest = drop 188 bytes in
    let n : length front ≡ 188 = length-take-le 188 bytes (omega arith) in
    let m : length rest ≡ length bytes - 188 = length-drop 188 bytes in
    let whole : pushed s front ≡ packet_pushed s front =
    pushed_whole s front (omega arith) (rw e (omega arith)) ∙ ap (λ (x : List ℕ). packet_pushed s (x ++ front)) e in
    let at : 188 + 188 * k ≡ 188 * suc k = omega arith in
    ap (pushed s) (sym (take_drop 188 bytes)) ∙ pushed_append s front rest ∙ ap (λ (t : StreamState). pushed t rest) whole
    ∙ pushed_packets k (packet_pushed s front) rest refl (omega arith) (omega arith)
    ∙ ap (λ (x : List ℕ). record (packets_pushed (packet_pushed s front) (first_chunks 188 k rest)) { held = x })
    (drop_drop (188 * k) 188 bytes ∙ ap (λ (i : ℕ). drop i bytes) at)

chunk_count : (k : ℕ) (bytes : List ℕ) → length (first_chunks 188 k bytes) ≡ k
chunk_count zero bytes = refl
chunk_count (suc k) bytes = let e = chunk_count k (drop 188 bytes) in omega arith

pushed_whole_packets : (bytes : List ℕ) →
    pushed start bytes ≡ record (packets_pushed start (cut_packets bytes)) { held = drop (188 * (length bytes / 188)) bytes }
pushed_whole_packets bytes =
    let n = length bytes in
    pushed_packets (n / 188) start bytes refl (omega arith) (omega arith)

-- 2. The states, with one entry for each PID

abbrev absent : ℕ → States → Type 0
absent pid [] = Unit {0}
absent pid (x ∷ states) = ((pid == x.0) ≡ false) × absent pid states

abbrev unique : States → Type 0
unique [] = Unit {0}
unique (x ∷ states) = absent x.0 states × unique states

absent_with : (pid q : ℕ) (state : PidState) (states : States) → (pid == q) ≡ false → absent pid states → absent pid (with_state q state states)
absent_with pid q state [] e h = (e, tt)
absent_with pid q state (x ∷ states) e h = by (absent_with pid q state states e h.1) (q == x.0)
  where
    by : absent pid (with_state q state states) → (t : Bool) → absent pid (cond t ((x.0, state) ∷ states) (x ∷ with_state q state states))
    by k true = (h.0, h.1)
    by k false = (h.0, k)

unique_with : (q : ℕ) (state : PidState) (states : States) → unique states → unique (with_state q state states)
unique_with q state [] h = (tt, tt)
unique_with q state (x ∷ states) h = by (unique_with q state states h.1) (q == x.0) refl
  where
    by : unique (with_state q state states) → (t : Bool) → (q == x.0) ≡ t → unique (cond t ((x.0, state) ∷ states) (x ∷ with_state q state states))
    by k true e = (h.0, h.1)
    by k false e = (absent_with x.0 q state states (turned_test x.0 q ∙ e) h.0, k)

unique_by : (index : ℕ) (bytes : List ℕ) (states : States) (r : Result PacketView PacketError) → unique states → unique (states_by index bytes states r)
unfolding states_by
unique_by index bytes states (Err error) h = h
unique_by index bytes states (Ok packet) h = by packet.header.transport_error_indicator (packet.header.pid == 8191)
  where
    by : (e z : Bool) →
        unique (cond e states (cond z states (with_state packet.header.pid (step (state_of packet.header.pid states) (entry_of index bytes packet)) states)))
    by true z = h
    by false true = h
    by false false = unique_with packet.header.pid (step (state_of packet.header.pid states) (entry_of index bytes packet)) states h

passed_unique : (s : StreamState) (packets : List (List ℕ)) → unique s.states → unique (packets_pushed s packets).states
unfolding taken
passed_unique s [] h = h
passed_unique s (bytes ∷ packets) h = passed_unique (packet_pushed s bytes) packets (unique_by s.packets bytes s.states (packet_at bytes) h)

passed_open : (s : StreamState) (packets : List (List ℕ)) → (packets_pushed s packets).ended ≡ s.ended
unfolding taken
passed_open s [] = refl
passed_open s (bytes ∷ packets) = passed_open (packet_pushed s bytes) packets

-- 3. The end of the stream

ended_absent : (pid packet : ℕ) (states : States) → absent pid states → found_of pid (ended_found packet states) ≡ []
unfolding ended_found
ended_absent pid packet [] h = refl
ended_absent pid packet (x ∷ states) h =
    of_append pid (map (with_pid x.0 packet) (ended true x.1.open_unit)) (ended_found packet states)
    ∙ ap₂ (λ (xs ys : List FindingView). xs ++ ys) (of_with_pid pid packet x.0 false (turned_test x.0 pid ∙ h.0) (ended true x.1.open_unit))
    (ended_absent pid packet states h.1)

ended_of : (pid packet : ℕ) (states : States) → unique states →
    found_of pid (ended_found packet states) ≡ map (with_pid pid packet) (ended true (state_of pid states).open_unit)
unfolding ended_found ended
ended_of pid packet [] h = refl
ended_of pid packet (x ∷ states) h =
    of_append pid (map (with_pid x.0 packet) (ended true x.1.open_unit)) (ended_found packet states) ∙ by (ended_of pid packet states h.1) (x.0 == pid) refl
  where
    by : found_of pid (ended_found packet states) ≡ map (with_pid pid packet) (ended true (state_of pid states).open_unit) → (t : Bool) → (x.0 == pid) ≡ t →
        found_of pid (map (with_pid x.0 packet) (ended true x.1.open_unit))
        ++ found_of pid (ended_found packet states) ≡ map (with_pid pid packet) (ended true (cond (pid == x.0) x.1 (state_of pid states)).open_unit)
    by k true e =
        let n : x.0 ≡ pid = same_number x.0 pid e in
        let f : (pid == x.0) ≡ true = turned_test pid x.0 ∙ e in
        let none : absent pid states = subst (λ (k : ℕ). absent k states) n h.0 in
        rw f (ap₂ (λ (xs ys : List FindingView). xs ++ ys)
        (of_with_pid pid packet x.0 true e (ended true x.1.open_unit) ∙ ap (λ (k : ℕ). map (with_pid k packet) (ended true x.1.open_unit)) n)
        (ended_absent pid packet states none)
        ∙ append-nil (map (with_pid pid packet) (ended true x.1.open_unit)))
    by k false e =
        let f : (pid == x.0) ≡ false = turned_test pid x.0 ∙ e in
        rw f (ap₂ (λ (xs ys : List FindingView). xs ++ ys) (of_with_pid pid packet x.0 false e (ended true x.1.open_unit)) k)

held_of : (pid packet : ℕ) (held : List ℕ) → found_of pid (held_found packet held) ≡ []
held_of pid packet [] = refl
held_of pid packet (x ∷ held) = refl

finished_found : (s : StreamState) → s.ended ≡ false → (finished s).found ≡ s.found ++ (held_found s.packets s.held ++ ended_found s.packets s.states)
finished_found s e = rw e refl

-- 4. The laws

pub pieces_join : PiecesJoin
pieces_join s piece more = sym (pushed_append s piece more)

pub each_pid_alone : EachPidAlone
each_pid_alone pid bytes n h =
    let packets = cut_packets bytes in
    let count = length bytes / 188 in
    let last : StreamState = record (packets_pushed start packets) { held = drop (188 * count) bytes } in
    let entries = pid_list pid bytes in
    let all : pushed start bytes ≡ last = pushed_whole_packets bytes in
    let size : length packets ≡ count = chunk_count count bytes in
    let fits : 0 + length packets < 2 ^ 64 = omega arith in
    let found : found_of pid last.found ≡ map (with_pid_at pid) (run fresh entries) = passed_found pid start packets n fits in
    let state : state_of pid last.states ≡ run_to fresh entries = passed_to pid start packets n fits in
    let packet : last.packets ≡ count = passed_count start packets fits ∙ zero-add (length packets) ∙ size in
    let laws = run_finds_all count entries in
    let held = held_found last.packets last.held in
    let ends = ended_found last.packets last.states in
    let tail : found_of pid (held ++ ends) ≡ map (with_pid_at pid) (map (at_packet count) (ended true (run_to fresh entries).open_unit)) =
    of_append pid held ends
    ∙ ap₂ (λ (xs ys : List FindingView). xs ++ ys) (held_of pid last.packets last.held) (ended_of pid last.packets last.states (passed_unique start packets tt))
    ∙ ap₂ (λ (i : ℕ) (s : PidState). map (with_pid pid i) (ended true s.open_unit)) packet state
    ∙ sym (with_pid_all pid count (ended true (run_to fresh entries).open_unit)) in (
      ap (λ (s : StreamState). found_of pid s.found) all ∙ found ∙ ap (map (with_pid_at pid)) laws.0,
      ap (λ (s : StreamState). found_of pid (finished s).found) all
          ∙ ap (found_of pid) (finished_found last (passed_open start packets))
          ∙ of_append pid last.found (held ++ ends)
          ∙ ap₂ (λ (xs ys : List FindingView). xs ++ ys) found tail
          ∙ sym (map-append (with_pid_at pid) (run fresh entries) (map (at_packet count) (ended true (run_to fresh entries).open_unit)))
          ∙ ap (map (with_pid_at pid)) laws.1,
    )

pub packets_decide : PacketsDecide
packets_decide pid bytes others n h k e =
    let a = each_pid_alone pid bytes n h in
    let b = each_pid_alone pid others n k in (
      a.0 ∙ ap (λ (es : List Entry). map (with_pid_at pid) (findings es)) e ∙ sym b.0,
      λ c. a.1 ∙ ap₂ (λ (i : ℕ) (es : List Entry). map (with_pid_at pid) (findings_to_end i es)) c e ∙ sym b.1,
    )
