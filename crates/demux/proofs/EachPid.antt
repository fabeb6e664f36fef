-- The findings on one PID, packet by packet of a stream.
use Rattle.std.proofs.Common.{◌≡◌, ℕ, ◌+◌, ◌^◌, ◌<◌, ◌==◌, Bool, true, false, cond, List, [], ◌∷◌, ◌++◌, length, map, filter, Result, Ok, Err, refl, sym, ap}
use Rattle.std.proofs.Common.{ap₂, subst, ◌∙◌, arith, append_assoc}
use Rattle.std.specs.Prelude.{not, ◌&&◌}
use Rattle.std.specs.List.{enumerate_from, filter_map, cons_option}
use Rattle.std.proofs.lemmas.List.{append-nil, map-append}
use Rattle.std.proofs.lemmas.List.Elements.{filter-append}
use Rattle.std.proofs.lemmas.Bool.Decides.{nat_tests}
use Rattle.ts_packet.specs.declared.packet.PacketError.{PacketError}
use Rattle.ts_packet.specs.Views.{PacketView}
use Rattle.ts_packet.specs.Reading.{packet_at}
use Rattle.ts_packet.specs.PidList.{Entry, is_of_pid}
use Rattle.ts_packet.specs.PidList as lists
use Rattle.pid_findings.specs.Views.{IsErrored, Found, FindingView}
use Rattle.pid_findings.specs.Findings.{at_packet}
use Rattle.pid_findings.specs.Machine.{PidState, step, found_by, run, run_to}
use Rattle.pid_findings.specs.Shown.{with_pid}
use Rattle.demux.specs.Stream.{States, StreamState, state_of, with_state, states_by, findings_by, entry_of, without_pid, next_packet, packet_pushed, taken}
use Rattle.demux.specs.Stream.{found_in}
use Rattle.demux.specs.Laws.{found_of, with_pid_at}

-- 1. Findings on one PID

pub same_number : (a b : ℕ) → (a == b) ≡ true → a ≡ b
same_number a b e = grind (arith, nat_tests)

pub turned_test : (a b : ℕ) → (a == b) ≡ (b == a)
turned_test a b = by (a == b) (b == a) refl refl
  where
    by : (s t : Bool) → (a == b) ≡ s → (b == a) ≡ t → s ≡ t
    by true true p q = refl
    by false false p q = refl
    by true false p q = absurd (grind (arith, nat_tests))
    by false true p q = absurd (grind (arith, nat_tests))

pub of_append : (pid : ℕ) (xs ys : List FindingView) → found_of pid (xs ++ ys) ≡ found_of pid xs ++ found_of pid ys
of_append pid xs ys = filter-append _ xs ys

-- A PID's findings are all on this PID.
pub of_with_pid : (pid packet : ℕ) (q : ℕ) (t : Bool) → (q == pid) ≡ t → (xs : List Found) →
    found_of pid (map (with_pid q packet) xs) ≡ cond t (map (with_pid q packet) xs) []
of_with_pid pid packet q true e [] = refl
of_with_pid pid packet q false e [] = refl
of_with_pid pid packet q true e (x ∷ xs) = rw e (ap (λ (ys : List FindingView). with_pid q packet x ∷ ys) (of_with_pid pid packet q true e xs))
of_with_pid pid packet q false e (x ∷ xs) = rw e (of_with_pid pid packet q false e xs)

pub with_pid_all : (pid packet : ℕ) (xs : List Found) → map (with_pid_at pid) (map (at_packet packet) xs) ≡ map (with_pid pid packet) xs
with_pid_all pid packet [] = refl
with_pid_all pid packet (x ∷ xs) = ap (λ (ys : List FindingView). with_pid pid packet x ∷ ys) (with_pid_all pid packet xs)

-- 2. The states

same_test : (pid q x : ℕ) (t : Bool) → (pid == q) ≡ true → (q == x) ≡ t → (pid == x) ≡ t
same_test pid q x t e h = ap (λ (n : ℕ). n == x) (same_number pid q e) ∙ h

other_test : (pid q x : ℕ) → (pid == q) ≡ false → (q == x) ≡ true → (pid == x) ≡ false
other_test pid q x e h = subst (λ (n : ℕ). (pid == n) ≡ false) (same_number q x h) e

state_with : (pid q : ℕ) (state : PidState) (states : States) (t : Bool) → (pid == q) ≡ t →
    state_of pid (with_state q state states) ≡ cond t state (state_of pid states)
state_with pid q state [] true e = rw e refl
state_with pid q state [] false e = rw e refl
state_with pid q state (x ∷ states) t e = by t (state_with pid q state states t e) (q == x.0) refl e
  where
    by : (u : Bool) → state_of pid (with_state q state states) ≡ cond u state (state_of pid states) → (s : Bool) → (q == x.0) ≡ s → (pid == q) ≡ u →
        state_of pid (cond s ((x.0, state) ∷ states) (x ∷ with_state q state states)) ≡ cond u state (cond (pid == x.0) x.1 (state_of pid states))
    by true k true h f = rw (same_test pid q x.0 true f h) refl
    by false k true h f = rw (other_test pid q x.0 f h) refl
    by true k false h f = rw (same_test pid q x.0 false f h) k
    by false k false h f = ap (λ (y : PidState). cond (pid == x.0) x.1 y) k

-- 3. One packet

-- The packets of a PID in a list whose first packet has this index
abbrev pub listed : ℕ → ℕ → List (List ℕ) → List Entry
listed pid index packets =
    filter (λ entry. is_of_pid pid entry.packet) (filter_map (λ p. lists.entry_of p.0 p.1 (packet_at p.1)) (enumerate_from index packets))

abbrev listed_by : ℕ → ℕ → List ℕ → Result PacketView PacketError → List Entry → List Entry
listed_by pid index bytes (Err error) rest = rest
listed_by pid index bytes (Ok packet) rest = cond (is_of_pid pid packet) (entry_of index bytes packet ∷ rest) rest

listed_next : (pid index : ℕ) (bytes : List ℕ) (packets : List (List ℕ)) →
    listed pid index (bytes ∷ packets) ≡ listed_by pid index bytes (packet_at bytes) (listed pid (index + 1) packets)
unfolding lists.entry_of
listed_next pid index bytes packets = by (packet_at bytes)
  where
    by : (r : Result PacketView PacketError) →
        filter (λ entry. is_of_pid pid entry.packet)
        (cons_option (lists.entry_of index bytes r) (filter_map (λ p. lists.entry_of p.0 p.1 (packet_at p.1)) (enumerate_from (index + 1) packets)))
        ≡ listed_by pid index bytes r (listed pid (index + 1) packets)
    by (Err e) = refl
    by (Ok p) = refl

-- The findings and the state of a PID after a packet with these two tests
found_by_it : (pid index : ℕ) (states : States) (entry : Entry) (q : ℕ) (e z : Bool) → List FindingView
found_by_it pid index states entry q e z =
    found_of pid (cond e (without_pid index IsErrored ∷ []) (cond z [] (map (with_pid q index) (found_by (state_of q states) entry))))

states_after : (states : States) (entry : Entry) (q : ℕ) (e z : Bool) → States
states_after states entry q e z = cond e states (cond z states (with_state q (step (state_of q states) entry) states))

state_own : (pid q : ℕ) (states : States) (entry : Entry) → q ≡ pid → (q == pid) ≡ true →
    state_of pid (with_state q (step (state_of q states) entry) states) ≡ step (state_of pid states) entry
state_own pid q states entry h t =
    state_with pid q (step (state_of q states) entry) states true (turned_test pid q ∙ t)
    ∙ ap (λ (n : ℕ). step (state_of n states) entry) h

state_other : (pid q : ℕ) (states : States) (entry : Entry) → (q == pid) ≡ false →
    state_of pid (with_state q (step (state_of q states) entry) states) ≡ state_of pid states
state_other pid q states entry t = state_with pid q (step (state_of q states) entry) states false (turned_test pid q ∙ t)

found_step : (pid : ℕ) (states : States) (entry : Entry) (q : ℕ) (rest : List Entry) (e z t : Bool) → (q == 8191) ≡ z → (q == pid) ≡ t → (pid == 8191) ≡ false →
    found_by_it pid entry.index states entry q e z ++ map (with_pid_at pid) (run (state_of pid (states_after states entry q e z)) rest)
    ≡ map (with_pid_at pid) (run (state_of pid states) (cond (t && not e) (entry ∷ rest) rest))
unfolding found_by_it states_after run
found_step pid states entry q rest true z true hz ht n = refl
found_step pid states entry q rest true z false hz ht n = refl
found_step pid states entry q rest false true true hz ht n = absurd (grind (arith, nat_tests))
found_step pid states entry q rest false true false hz ht n = refl
found_step pid states entry q rest false false true hz ht n =
    let h : q ≡ pid = same_number q pid ht in
    let own : found_of pid (map (with_pid q entry.index) (found_by (state_of q states) entry)) ≡ map (with_pid pid entry.index)
    (found_by (state_of pid states) entry) =
    of_with_pid pid entry.index q true ht (found_by (state_of q states) entry)
    ∙ ap (λ (m : ℕ). map (with_pid m entry.index) (found_by (state_of m states) entry)) h in
    let then : map (with_pid_at pid) (run (state_of pid (with_state q (step (state_of q states) entry) states)) rest) ≡ map (with_pid_at pid)
    (run (step (state_of pid states) entry) rest) =
    ap (λ (s : PidState). map (with_pid_at pid) (run s rest)) (state_own pid q states entry h ht) in
    ap₂ (λ (xs ys : List FindingView). xs ++ ys) (own ∙ sym (with_pid_all pid entry.index (found_by (state_of pid states) entry))) then
    ∙ sym (map-append (with_pid_at pid) (map (at_packet entry.index) (found_by (state_of pid states) entry)) (run (step (state_of pid states) entry) rest))
found_step pid states entry q rest false false false hz ht n =
    ap₂ (λ (xs ys : List FindingView). xs ++ ys)
    (of_with_pid pid entry.index q false ht (found_by (state_of q states) entry))
    (ap (λ (s : PidState). map (with_pid_at pid) (run s rest)) (state_other pid q states entry ht))

to_step : (pid : ℕ) (states : States) (entry : Entry) (q : ℕ) (rest : List Entry) (e z t : Bool) → (q == 8191) ≡ z → (q == pid) ≡ t → (pid == 8191) ≡ false →
    run_to (state_of pid (states_after states entry q e z)) rest ≡ run_to (state_of pid states) (cond (t && not e) (entry ∷ rest) rest)
unfolding states_after run_to
to_step pid states entry q rest true z true hz ht n = refl
to_step pid states entry q rest true z false hz ht n = refl
to_step pid states entry q rest false true true hz ht n = absurd (grind (arith, nat_tests))
to_step pid states entry q rest false true false hz ht n = refl
to_step pid states entry q rest false false true hz ht n =
    ap (λ (s : PidState). run_to s rest) (state_own pid q states entry (same_number q pid ht) ht)
to_step pid states entry q rest false false false hz ht n = ap (λ (s : PidState). run_to s rest) (state_other pid q states entry ht)

found_next : (pid index : ℕ) (bytes : List ℕ) (states : States) (rest : List Entry) (r : Result PacketView PacketError) → (pid == 8191) ≡ false →
    found_of pid (findings_by index bytes states r) ++ map (with_pid_at pid) (run (state_of pid (states_by index bytes states r)) rest)
    ≡ map (with_pid_at pid) (run (state_of pid states) (listed_by pid index bytes r rest))
unfolding findings_by states_by found_by_it states_after
found_next pid index bytes states rest (Err error) n = refl
found_next pid index bytes states rest (Ok packet) n =
    found_step pid states (entry_of index bytes packet) packet.header.pid rest packet.header.transport_error_indicator (packet.header.pid == 8191)
    (packet.header.pid == pid) refl refl n

to_next : (pid index : ℕ) (bytes : List ℕ) (states : States) (rest : List Entry) (r : Result PacketView PacketError) → (pid == 8191) ≡ false →
    run_to (state_of pid (states_by index bytes states r)) rest ≡ run_to (state_of pid states) (listed_by pid index bytes r rest)
unfolding states_by states_after
to_next pid index bytes states rest (Err error) n = refl
to_next pid index bytes states rest (Ok packet) n =
    to_step pid states (entry_of index bytes packet) packet.header.pid rest packet.header.transport_error_indicator (packet.header.pid == 8191)
    (packet.header.pid == pid) refl refl n

-- 4. All packets, one by one

abbrev pub packets_pushed : StreamState → List (List ℕ) → StreamState
packets_pushed s [] = s
packets_pushed s (bytes ∷ packets) = packets_pushed (packet_pushed s bytes) packets

pub passed_count : (s : StreamState) (packets : List (List ℕ)) → s.packets + length packets < 2 ^ 64 → (packets_pushed s packets).packets ≡ s.packets
    + length packets
unfolding taken
passed_count s [] h = omega arith
passed_count s (bytes ∷ packets) h =
    let e : next_packet s.packets ≡ s.packets + 1 = omega arith in
    passed_count (packet_pushed s bytes) packets (omega arith) ∙ omega arith

pub passed_found : (pid : ℕ) (s : StreamState) (packets : List (List ℕ)) → (pid == 8191) ≡ false → s.packets + length packets < 2 ^ 64 →
    found_of pid (packets_pushed s packets).found ≡ found_of pid s.found ++ map (with_pid_at pid) (run (state_of pid s.states) (listed pid s.packets packets))
unfolding taken found_in run
passed_found pid s [] n h = sym (append-nil (found_of pid s.found))
passed_found pid s (bytes ∷ packets) n h =
    let e : next_packet s.packets ≡ s.packets + 1 = omega arith in
    let r = packet_at bytes in
    let new = findings_by s.packets bytes s.states r in
    let after = state_of pid (states_by s.packets bytes s.states r) in
    let rest = listed pid (s.packets + 1) packets in
    passed_found pid (packet_pushed s bytes) packets n (omega arith)
    ∙ ap₂ (λ (xs : List FindingView) (i : ℕ). xs ++ map (with_pid_at pid) (run after (listed pid i packets))) (of_append pid s.found new) e
    ∙ append_assoc (found_of pid s.found) (found_of pid new) (map (with_pid_at pid) (run after rest))
    ∙ ap (λ (xs : List FindingView). found_of pid s.found ++ xs)
    (found_next pid s.packets bytes s.states rest r n
    ∙ ap (λ (es : List Entry). map (with_pid_at pid) (run (state_of pid s.states) es)) (sym (listed_next pid s.packets bytes packets)))

pub passed_to : (pid : ℕ) (s : StreamState) (packets : List (List ℕ)) → (pid == 8191) ≡ false → s.packets + length packets < 2 ^ 64 →
    state_of pid (packets_pushed s packets).states ≡ run_to (state_of pid s.states) (listed pid s.packets packets)
unfolding taken run_to
passed_to pid s [] n h = refl
passed_to pid s (bytes ∷ packets) n h =
    let e : next_packet s.packets ≡ s.packets + 1 = omega arith in
    let r = packet_at bytes in
    let after = state_of pid (states_by s.packets bytes s.states r) in
    passed_to pid (packet_pushed s bytes) packets n (omega arith)
    ∙ ap (λ (i : ℕ). run_to after (listed pid i packets)) e
    ∙ to_next pid s.packets bytes s.states (listed pid (s.packets + 1) packets) r n
    ∙ ap (λ (es : List Entry). run_to (state_of pid s.states) es) (sym (listed_next pid s.packets bytes packets))
