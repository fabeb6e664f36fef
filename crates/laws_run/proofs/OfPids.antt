-- Each finding in the finished bytes has a PID.
use Rattle.std.proofs.Common.{◌≡◌, ℕ, zero, suc, ◌+◌, ◌-◌, ◌^◌, ◌<◌, ◌≤◌, arith, ◌==◌, Bool, true, false, cond, List, [], ◌∷◌, ◌++◌, length, map, All, Ok, refl}
use Rattle.std.proofs.Common.{sym, ap, subst, ◌∙◌, append-nil}
use Rattle.std.specs.List.{concat}
use Rattle.std.proofs.lemmas.List.Elements.{All-nil, All-cons, All-head, All-tail}
use Rattle.ts_packet.specs.Views.{PacketView}
use Rattle.ts_packet.specs.Reading.{packet_at}
use Rattle.slot_contents.specs.Contents.{Content, PayloadContent, PcrContent, NullContent, view_of, packet_of, run_bytes}
use Rattle.slot_contents.specs.RunLaws.{Fits}
use Rattle.slot_contents.proofs.Runs.{content_again}
use Rattle.pid_findings.specs.Views.{IsErrored, Found, FindingView}
use Rattle.pid_findings.specs.Findings.{ended}
use Rattle.pid_findings.specs.Machine.{PidState, step, found_by}
use Rattle.pid_findings.specs.Shown.{with_pid}
use Rattle.demux.specs.Stream.{States, StreamState, start, state_of, with_state, states_by, findings_by, entry_of, without_pid, taken, found_in, pushed}
use Rattle.demux.specs.Stream.{finished, ended_found, next_packet}
use Rattle.demux.specs.FoundSoFar.{FoundSoFar, taken_all, found_in_all}
use Rattle.demux.proofs.FoundSoFar.{nothing_at_first, packets_add, all_are_found}
use Rattle.laws_run.specs.PidLaws.{IsRun, IsOfPid, all_found, AllIsOfPids, InOrder, FoundInOrder}

-- Lists of findings

both : (xs ys : List FindingView) → All IsOfPid xs → All IsOfPid ys → All IsOfPid (xs ++ ys)
both [] ys h k = k
both (x ∷ xs) ys h k = All-cons IsOfPid x (xs ++ ys) (All-head IsOfPid x xs h) (both xs ys (All-tail IsOfPid x xs h) k)

found_is : (pid packet : ℕ) (found : List Found) → (pid == 8191) ≡ false → All IsOfPid (map (with_pid pid packet) found)
found_is pid packet [] e = All-nil IsOfPid
found_is pid packet (f ∷ found) e =
    All-cons IsOfPid (with_pid pid packet f) (map (with_pid pid packet) found) (pid, refl, e) (found_is pid packet found e)

-- States of PIDs other than the null PID

abbrev NoNull : ℕ × PidState → Type 0
NoNull entry = (entry.0 == 8191) ≡ false

with_no_null : (pid : ℕ) (state : PidState) (states : States) → (pid == 8191) ≡ false → All NoNull states → All NoNull (with_state pid state states)
with_no_null pid state [] e h = All-cons NoNull (pid, state) [] e (All-nil NoNull)
with_no_null pid state (x ∷ states) e h = by (with_no_null pid state states e (All-tail NoNull x states h)) (pid == x.0)
  where
    by : All NoNull (with_state pid state states) → (t : Bool) → All NoNull (cond t ((x.0, state) ∷ states) (x ∷ with_state pid state states))
    by k true = All-cons NoNull (x.0, state) states (All-head NoNull x states h) (All-tail NoNull x states h)
    by k false = All-cons NoNull x (with_state pid state states) (All-head NoNull x states h) k

ended_is : (packet : ℕ) (states : States) → All NoNull states → All IsOfPid (ended_found packet states)
unfolding ended_found
ended_is packet [] h = All-nil IsOfPid
ended_is packet (x ∷ states) h =
    both (map (with_pid x.0 packet) (ended true x.1.open_unit)) (ended_found packet states)
    (found_is x.0 packet (ended true x.1.open_unit) (All-head NoNull x states h))
    (ended_is packet states (All-tail NoNull x states h))

-- One packet

-- A packet that is readable and not flagged in error
abbrev IsPlain : List ℕ → Type 0
IsPlain bytes = (view : PacketView) × (packet_at bytes ≡ Ok view) × (view.header.transport_error_indicator ≡ false)

no_error : (c : Content) → (view_of c).header.transport_error_indicator ≡ false
unfolding view_of
no_error (PayloadContent pid number _ payload) = refl
no_error (PcrContent pid pcr) = refl
no_error NullContent = refl

plain_found : (index pid : ℕ) (found : List Found) (e z : Bool) → e ≡ false → (pid == 8191) ≡ z →
    All IsOfPid (cond e (without_pid index IsErrored ∷ []) (cond z [] (map (with_pid pid index) found)))
plain_found index pid found true z clear h = absurd cc
plain_found index pid found false true clear h = All-nil IsOfPid
plain_found index pid found false false clear h = found_is pid index found h

plain_states : (pid : ℕ) (state : PidState) (states : States) (e z : Bool) → (pid == 8191) ≡ z → All NoNull states →
    All NoNull (cond e states (cond z states (with_state pid state states)))
plain_states pid state states true z k h = h
plain_states pid state states false true k h = h
plain_states pid state states false false k h = with_no_null pid state states k h

found_one : (index : ℕ) (bytes : List ℕ) (states : States) → IsPlain bytes → All IsOfPid (findings_by index bytes states (packet_at bytes))
unfolding findings_by
found_one index bytes states (view, read, clear) =
    rw read (plain_found index view.header.pid (found_by (state_of view.header.pid states) (entry_of index bytes view)) view.header.transport_error_indicator
    (view.header.pid == 8191) clear refl)

states_one : (index : ℕ) (bytes : List ℕ) (states : States) → IsPlain bytes → All NoNull states → All NoNull (states_by index bytes states (packet_at bytes))
unfolding states_by
states_one index bytes states (view, read, clear) h =
    rw read (plain_states view.header.pid (step (state_of view.header.pid states) (entry_of index bytes view)) states view.header.transport_error_indicator
    (view.header.pid == 8191) refl h)

-- The packets of a run

unfoldable run_packets : (ℕ → Content) → ℕ → ℕ → List (List ℕ)
run_packets content s zero = []
run_packets content s (suc n) = packet_of (content s) ∷ run_packets content (suc s) n

run_joined : (content : ℕ → Content) (s n : ℕ) → concat (run_packets content s n) ≡ run_bytes content s n
unfolding run_packets run_bytes
run_joined content s zero = refl
run_joined content s (suc n) = ap (λ (bytes : List ℕ). packet_of (content s) ++ bytes) (run_joined content (suc s) n)

abbrev IsWhole : List ℕ → Type 0
IsWhole packet = length packet ≡ 188

run_sizes : (content : ℕ → Content) (s n : ℕ) → Fits content → All IsWhole (run_packets content s n)
unfolding run_packets
run_sizes content s zero fits = All-nil IsWhole
run_sizes content s (suc n) fits =
    All-cons IsWhole (packet_of (content s)) (run_packets content (suc s) n) (content_again (content s) (fits s)).size (run_sizes content (suc s) n fits)

run_plain : (content : ℕ → Content) (s n : ℕ) → Fits content → All IsPlain (run_packets content s n)
unfolding run_packets
run_plain content s zero fits = All-nil IsPlain
run_plain content s (suc n) fits =
    All-cons IsPlain (packet_of (content s)) (run_packets content (suc s) n)
    (view_of (content s), (content_again (content s) (fits s)).read, no_error (content s)) (run_plain content (suc s) n fits)

found_all : (s : StreamState) (packets : List (List ℕ)) → All IsPlain packets → All IsOfPid (found_in_all s packets)
unfolding found_in_all found_in
found_all s [] h = All-nil IsOfPid
found_all s (packet ∷ packets) h =
    both (found_in s packet) (found_in_all (taken s packet) packets) (found_one s.packets packet s.states (All-head IsPlain packet packets h))
    (found_all (taken s packet) packets (All-tail IsPlain packet packets h))

-- After packets the states remain: no part of a packet, no findings, and the stream has not ended.
record Left (s : StreamState) : Type 0 where
  states : All NoNull s.states
  held : s.held ≡ []
  found : s.found ≡ []
  ended : s.ended ≡ false

left_all : (s : StreamState) (packets : List (List ℕ)) → All IsPlain packets → Left s → Left (taken_all s packets)
unfolding taken_all taken
left_all s [] h l = l
left_all s (packet ∷ packets) h l =
    left_all (taken s packet) packets (All-tail IsPlain packet packets h)
    (record { states = states_one s.packets packet s.states (All-head IsPlain packet packets h) l.states; held = l.held; found = l.found; ended = l.ended })

finished_is : (s : StreamState) → Left s → All IsOfPid (finished s).found
finished_is s l = rw (l.ended, l.found, l.held) (ended_is s.packets s.states l.states)

-- The findings in the bytes of a run are the findings of its packets and of its end.
run_found : (n : ℕ) (content : ℕ → Content) → IsRun n content →
    all_found (run_bytes content 0 n) ≡ found_in_all start (run_packets content 0 n) ++ (finished (taken_all start (run_packets content 0 n))).found
run_found n content run =
    let packets : List (List ℕ) = run_packets content 0 n in
    let s : StreamState = taken_all start packets in
    let so_far : FoundSoFar ([] ++ concat packets) s ([] ++ found_in_all start packets) =
    packets_add [] packets start [] nothing_at_first refl (run_sizes content 0 n run.fits) in
    let all : (finished (pushed start (concat packets ++ []))).found ≡ found_in_all start packets ++ (finished s).found =
    (all_are_found (concat packets) [] s (found_in_all start packets) so_far).2 in
    let bytes : concat packets ++ [] ≡ run_bytes content 0 n = append-nil (concat packets) ∙ run_joined content 0 n in
    ap (λ (b : List ℕ). (finished (pushed start b)).found) (sym bytes) ∙ all

left_at_end : (n : ℕ) (content : ℕ → Content) → IsRun n content → Left (taken_all start (run_packets content 0 n))
left_at_end n content run =
    left_all start (run_packets content 0 n) (run_plain content 0 n run.fits) (record { states = All-nil NoNull; held = refl; found = refl; ended = refl })

pub all_is_of_pids : AllIsOfPids
all_is_of_pids n content run =
    let packets : List (List ℕ) = run_packets content 0 n in
    let s : StreamState = taken_all start packets in
    subst (All IsOfPid) (sym (run_found n content run))
    (both (found_in_all start packets) (finished s).found (found_all start packets (run_plain content 0 n run.fits))
    (finished_is s (left_at_end n content run)))

-- Findings in the order of the packets

later : (a b last : ℕ) (xs : List FindingView) → a ≤ b → InOrder b last xs → InOrder a last xs
unfolding InOrder
later a b last [] le h = tt
later a b last (x ∷ xs) le h = (omega (arith, h.0), h.1, h.2)

joined : (a m last : ℕ) (xs ys : List FindingView) → a ≤ m → m ≤ last → InOrder a m xs → InOrder m last ys → InOrder a last (xs ++ ys)
unfolding InOrder
joined a m last [] ys le more h k = later a m last ys le k
joined a m last (x ∷ xs) ys le more h k = (h.0, omega (arith, h.1), joined x.packet m last xs ys h.1 more h.2 k)

found_in_order_one : (pid packet last : ℕ) (found : List Found) → packet ≤ last → InOrder packet last (map (with_pid pid packet) found)
unfolding InOrder
found_in_order_one pid packet last [] le = tt
found_in_order_one pid packet last (f ∷ found) le = (omega arith, le, found_in_order_one pid packet last found le)

ended_rise : (packet : ℕ) (states : States) → InOrder packet packet (ended_found packet states)
unfolding ended_found InOrder
ended_rise packet [] = tt
ended_rise packet (x ∷ states) =
    joined packet packet packet (map (with_pid x.0 packet) (ended true x.1.open_unit)) (ended_found packet states) (omega arith) (omega arith)
    (found_in_order_one x.0 packet packet (ended true x.1.open_unit) (omega arith)) (ended_rise packet states)

plain_rise : (index last pid : ℕ) (found : List Found) (e z : Bool) → index ≤ last →
    InOrder index last (cond e (without_pid index IsErrored ∷ []) (cond z [] (map (with_pid pid index) found)))
unfolding InOrder
plain_rise index last pid found true z le = (omega arith, le, tt)
plain_rise index last pid found false true le = tt
plain_rise index last pid found false false le = found_in_order_one pid index last found le

one_rise : (index last : ℕ) (bytes : List ℕ) (states : States) → index ≤ last → IsPlain bytes →
    InOrder index last (findings_by index bytes states (packet_at bytes))
unfolding findings_by
one_rise index last bytes states le (view, read, clear) =
    rw read (plain_rise index last view.header.pid (found_by (state_of view.header.pid states) (entry_of index bytes view))
    view.header.transport_error_indicator (view.header.pid == 8191) le)

all_rise : (s : StreamState) (packets : List (List ℕ)) → All IsPlain packets → s.packets + length packets < 2 ^ 64 - 1 →
    InOrder s.packets (s.packets + length packets) (found_in_all s packets) × ((taken_all s packets).packets ≡ s.packets + length packets)
unfolding found_in_all found_in taken_all taken InOrder
all_rise s [] h few = (tt, omega arith)
all_rise s (packet ∷ packets) h few =
    let i : ℕ = s.packets in
    let next : next_packet i ≡ i + 1 = omega (arith, few) in
    let rest = all_rise (taken s packet) packets (All-tail IsPlain packet packets h) (omega (arith, few, next)) in
    let end : next_packet i + length packets ≡ i + suc (length packets) = omega (arith, next) in
    let others : InOrder (next_packet i) (i + suc (length packets)) (found_in_all (taken s packet) packets) =
    subst (λ (m : ℕ). InOrder (next_packet i) m (found_in_all (taken s packet) packets)) end rest.0 in (
      joined i (next_packet i) (i + suc (length packets)) (found_in s packet) (found_in_all (taken s packet) packets) (omega (arith, next))
          (omega (arith, next))
          (one_rise i (next_packet i) packet s.states (omega (arith, next)) (All-head IsPlain packet packets h)) others,
      rest.1 ∙ end,
    )

run_count : (content : ℕ → Content) (s n : ℕ) → length (run_packets content s n) ≡ n
unfolding run_packets
run_count content s zero = refl
run_count content s (suc n) = ap suc (run_count content (suc s) n)

finished_rises : (s : StreamState) → Left s → InOrder s.packets s.packets (finished s).found
finished_rises s l = rw (l.ended, l.found, l.held) (ended_rise s.packets s.states)

pub found_in_order : FoundInOrder
found_in_order n content run =
    let packets : List (List ℕ) = run_packets content 0 n in
    let s : StreamState = taken_all start packets in
    let count : length packets ≡ n = run_count content 0 n in
    let rise = all_rise start packets (run_plain content 0 n run.fits) (omega (arith, count, run.few)) in
    let all : 0 + length packets ≡ n = omega (arith, count) in
    let end : s.packets ≡ n = rise.1 ∙ all in
    subst (InOrder 0 n) (sym (run_found n content run))
    (joined 0 n n (found_in_all start packets) (finished s).found (omega arith) (omega arith)
    (subst (λ (m : ℕ). InOrder 0 m (found_in_all start packets)) all rise.0)
    (subst (λ (m : ℕ). InOrder m m (finished s).found) end (finished_rises s (left_at_end n content run))))
