-- Leaving out the bodies of PES packets on some PIDs changes nothing else in a stream.
use Rattle.std.proofs.Common.{◌≡◌, ℕ, ◌==◌, Bool, true, false, cond, List, [], ◌∷◌, ◌++◌, length, map, Result, Ok, Err, refl, sym, ap, ap₂, ◌∙◌}
use Rattle.std.proofs.lemmas.List.{map-append}
use Rattle.ts_packet.specs.PidList.{Entry}
use Rattle.ts_packet.specs.Views.{PacketView}
use Rattle.ts_packet.specs.Reading.{packet_at}
use Rattle.ts_packet.specs.declared.packet.PacketError.{PacketError}
use Rattle.pid_findings.specs.Views.{Found, FindingView, IsErrored, IsTruncated}
use Rattle.pid_findings.specs.Findings.{ended}
use Rattle.pid_findings.specs.Machine.{PidState, found_by, fresh, step}
use Rattle.pid_findings.specs.Shown.{with_pid}
use Rattle.demux.specs.Stream.{States, StreamState, completed, ended_found, entry_of, finished, findings_by, found_in, held_found, packet_pushed, pushed}
use Rattle.demux.specs.Stream.{state_of, states_by, taken, with_state, without_pid}
use Rattle.pid_findings.specs.Bodies.{finding_without_body, found_without_body, state_without_body}
use Rattle.demux.specs.KeptBodies.{OthersDecideNothing, all_but, bodies_left_out_but, finding_but, is_kept, is_of_kept, state_if, states_but}
use Rattle.pid_findings.proofs.Bodies.{bodies_decide_nothing, ended_same, state_again}
use Rattle.demux.proofs.EachPid.{same_number}
use Rattle.demux.proofs.StreamBodies.{what_again}

-- 1. One PID

once : (b : Bool) (s : PidState) → state_if b (state_if b s) ≡ state_if b s
once true s = refl
once false s = state_again s

fresh_if : (b : Bool) → fresh ≡ state_if b fresh
fresh_if true = refl
fresh_if false = refl

step_if : (b : Bool) (s : PidState) (entry : Entry) → state_if b (step (state_if b s) entry) ≡ state_if b (step s entry)
step_if true s entry = refl
step_if false s entry = (bodies_decide_nothing s entry).1

found_if : Bool → List Found → List Found
found_if true found = found
found_if false found = map found_without_body found

by_if : (b : Bool) (s : PidState) (entry : Entry) → found_if b (found_by (state_if b s) entry) ≡ found_if b (found_by s entry)
unfolding found_if
by_if true s entry = refl
by_if false s entry = (bodies_decide_nothing s entry).0

ended_if : (b : Bool) (s : PidState) → found_if b (ended true (state_if b s).open_unit) ≡ found_if b (ended true s.open_unit)
unfolding found_if
ended_if true s = refl
ended_if false s = ended_same true s.open_unit

-- 2. The states of all PIDs

pub states_again : (kept : List ℕ) (states : States) → states_but kept (states_but kept states) ≡ states_but kept states
states_again kept [] = refl
states_again kept (x ∷ states) = ap₂ (λ (s : PidState) (rest : States). (x.0, s) ∷ rest) (once (is_kept kept x.0) x.1) (states_again kept states)

state_by : (kept : List ℕ) (pid other : ℕ) (b : Bool) (x y z : PidState) → (b ≡ true → pid ≡ other) → z ≡ state_if (is_kept kept pid) y →
    cond b (state_if (is_kept kept other) x) z ≡ state_if (is_kept kept pid) (cond b x y)
state_by kept pid other true x y z same e = ap (λ (n : ℕ). state_if (is_kept kept n) x) (sym (same refl))
state_by kept pid other false x y z same e = e

state_left : (kept : List ℕ) (pid : ℕ) (states : States) → state_of pid (states_but kept states) ≡ state_if (is_kept kept pid) (state_of pid states)
state_left kept pid [] = fresh_if (is_kept kept pid)
state_left kept pid (x ∷ states) =
    state_by kept pid x.0 (pid == x.0) x.1 (state_of pid states) _ (same_number pid x.0) (state_left kept pid states)

with_by : (kept : List ℕ) (pid other : ℕ) (b : Bool) (state x : PidState) (rest more last : States) → (b ≡ true → pid ≡ other) →
    states_but kept more ≡ last →
    states_but kept (cond b ((other, state) ∷ rest) ((other, x) ∷ more))
    ≡ cond b ((other, state_if (is_kept kept pid) state) ∷ states_but kept rest) ((other, state_if (is_kept kept other) x) ∷ last)
with_by kept pid other true state x rest more last same e =
    ap (λ (n : ℕ). (other, state_if (is_kept kept n) state) ∷ states_but kept rest) (sym (same refl))
with_by kept pid other false state x rest more last same e = ap (λ (states : States). (other, state_if (is_kept kept other) x) ∷ states) e

with_left : (kept : List ℕ) (pid : ℕ) (state : PidState) (states : States) →
    states_but kept (with_state pid state states) ≡ with_state pid (state_if (is_kept kept pid) state) (states_but kept states)
with_left kept pid state [] = refl
with_left kept pid state (x ∷ states) =
    with_by kept pid x.0 (pid == x.0) state x.1 states (with_state pid state states) _ (same_number pid x.0) (with_left kept pid state states)

-- The states after a packet of a PID
stepped_same : (kept : List ℕ) (pid : ℕ) (entry : Entry) (states : States) →
    states_but kept (with_state pid (step (state_of pid (states_but kept states)) entry) (states_but kept states))
    ≡ states_but kept (with_state pid (step (state_of pid states) entry) states)
stepped_same kept pid entry states =
    let b = is_kept kept pid in
    let s = state_of pid states in
    let left = states_but kept states in
    with_left kept pid (step (state_of pid left) entry) left
    ∙ ap (λ (t : PidState). with_state pid (state_if b (step t entry)) (states_but kept left)) (state_left kept pid states)
    ∙ ap₂ (λ (t : PidState) (rest : States). with_state pid t rest) (step_if b s entry) (states_again kept states)
    ∙ sym (with_left kept pid (step s entry) states)

same_by : (kept : List ℕ) (b : Bool) (x y z w : States) → states_but kept x ≡ states_but kept z → states_but kept y ≡ states_but kept w →
    states_but kept (cond b x y) ≡ states_but kept (cond b z w)
same_by kept true x y z w e f = e
same_by kept false x y z w e f = f

states_same : (kept : List ℕ) (index : ℕ) (bytes : List ℕ) (states : States) (r : Result PacketView PacketError) →
    states_but kept (states_by index bytes (states_but kept states) r) ≡ states_but kept (states_by index bytes states r)
unfolding states_by
states_same kept index bytes states (Err error) = states_again kept states
states_same kept index bytes states (Ok packet) =
    same_by kept packet.header.transport_error_indicator _ _ _ _ (states_again kept states)
    (same_by kept (packet.header.pid == 8191) _ _ _ _ (states_again kept states)
    (stepped_same kept packet.header.pid (entry_of index bytes packet) states))

-- The findings in a packet
all_if : Bool → List FindingView → List FindingView
all_if true found = found
all_if false found = map finding_without_body found

placed_by : (b : Bool) (pid packet : ℕ) (found : List Found) → all_if b (map (with_pid pid packet) found) ≡ map (with_pid pid packet) (found_if b found)
unfolding all_if found_if
placed_by true pid packet found = refl
placed_by false pid packet [] = refl
placed_by false pid packet (x ∷ found) =
    ap (λ (rest : List FindingView). finding_without_body (with_pid pid packet x) ∷ rest) (placed_by false pid packet found)

all_cons : (b : Bool) (x : FindingView) (found : List FindingView) → all_if b (x ∷ found) ≡ cond b x (finding_without_body x) ∷ all_if b found
unfolding all_if
all_cons true x found = refl
all_cons false x found = refl

all_none : (b : Bool) → all_if b [] ≡ []
unfolding all_if
all_none true = refl
all_none false = refl

placed_all : (kept : List ℕ) (pid packet : ℕ) (found : List Found) →
    all_but kept (map (with_pid pid packet) found) ≡ all_if (is_kept kept pid) (map (with_pid pid packet) found)
placed_all kept pid packet [] = sym (all_none (is_kept kept pid))
placed_all kept pid packet (x ∷ found) =
    let first = with_pid pid packet x in
    ap (λ (rest : List FindingView). cond (is_kept kept pid) first (finding_without_body first) ∷ rest) (placed_all kept pid packet found)
    ∙ sym (all_cons (is_kept kept pid) first (map (with_pid pid packet) found))

placed_same : (kept : List ℕ) (pid packet : ℕ) (x y : List Found) → found_if (is_kept kept pid) x ≡ found_if (is_kept kept pid) y →
    all_but kept (map (with_pid pid packet) x) ≡ all_but kept (map (with_pid pid packet) y)
placed_same kept pid packet x y e =
    let b = is_kept kept pid in
    placed_all kept pid packet x ∙ placed_by b pid packet x ∙ ap (map (with_pid pid packet)) e ∙ sym (placed_by b pid packet y)
    ∙ sym (placed_all kept pid packet y)

found_by_test : (kept : List ℕ) (b : Bool) (first x y : List FindingView) → all_but kept x ≡ all_but kept y →
    all_but kept (cond b first x) ≡ all_but kept (cond b first y)
found_by_test kept true first x y e = refl
found_by_test kept false first x y e = e

findings_same : (kept : List ℕ) (index : ℕ) (bytes : List ℕ) (states : States) (r : Result PacketView PacketError) →
    all_but kept (findings_by index bytes (states_but kept states) r) ≡ all_but kept (findings_by index bytes states r)
unfolding findings_by
findings_same kept index bytes states (Err error) = refl
findings_same kept index bytes states (Ok packet) =
    let pid = packet.header.pid in
    let entry = entry_of index bytes packet in
    let same = ap (λ (s : PidState). found_if (is_kept kept pid) (found_by s entry)) (state_left kept pid states)
    ∙ by_if (is_kept kept pid) (state_of pid states) entry in
    found_by_test kept packet.header.transport_error_indicator (without_pid index IsErrored ∷ []) _ _
    (found_by_test kept (pid == 8191) [] _ _ (placed_same kept pid index _ _ same))

-- 3. A stream

-- A stream without the bodies of other PIDs, both in its states and in its findings
abbrev lean : List ℕ → StreamState → StreamState
lean kept s = record s { states = states_but kept s.states; found = all_but kept s.found }

finding_by : (b : Bool) (x : FindingView) → cond b (cond b x (finding_without_body x)) (finding_without_body (cond b x (finding_without_body x)))
    ≡ cond b x (finding_without_body x)
finding_by true x = refl
finding_by false x = rw (what_again x.what) refl

pid_by : (kept : List ℕ) (b : Bool) (x : FindingView) → is_of_kept kept x.pid ≡ b → is_of_kept kept (cond b x (finding_without_body x)).pid ≡ b
pid_by kept true x e = e
pid_by kept false x e = e

finding_again : (kept : List ℕ) (b : Bool) (x : FindingView) → is_of_kept kept x.pid ≡ b →
    finding_but kept (cond b x (finding_without_body x)) ≡ cond b x (finding_without_body x)
finding_again kept b x e =
    let y = cond b x (finding_without_body x) in
    ap (λ (c : Bool). cond c y (finding_without_body y)) (pid_by kept b x e) ∙ finding_by b x

pub found_again : (kept : List ℕ) (found : List FindingView) → all_but kept (all_but kept found) ≡ all_but kept found
found_again kept [] = refl
found_again kept (x ∷ found) =
    ap₂ (λ (y : FindingView) (rest : List FindingView). y ∷ rest) (finding_again kept (is_of_kept kept x.pid) x refl) (found_again kept found)

found_with : (kept : List ℕ) (found x y : List FindingView) → all_but kept x ≡ all_but kept y →
    all_but kept (all_but kept found ++ x) ≡ all_but kept (found ++ y)
found_with kept found x y e =
    map-append (finding_but kept) (all_but kept found) x ∙ ap₂ (λ (a b : List FindingView). a ++ b) (found_again kept found) e
    ∙ sym (map-append (finding_but kept) found y)

lean_again : (kept : List ℕ) (s : StreamState) → lean kept (lean kept s) ≡ lean kept s
lean_again kept s = rw (states_again kept s.states, found_again kept s.found) refl

lean_left : (kept : List ℕ) (s : StreamState) → lean kept (bodies_left_out_but kept s) ≡ lean kept s
lean_left kept s = rw (states_again kept s.states) refl

pub left_again : (kept : List ℕ) (s : StreamState) → bodies_left_out_but kept (bodies_left_out_but kept s) ≡ bodies_left_out_but kept s
left_again kept s = rw (states_again kept s.states) refl

pub taken_same : (kept : List ℕ) (s : StreamState) (bytes : List ℕ) →
    bodies_left_out_but kept (taken (bodies_left_out_but kept s) bytes) ≡ bodies_left_out_but kept (taken s bytes)
unfolding taken
taken_same kept s bytes = rw (states_same kept s.packets bytes s.states (packet_at bytes)) refl

pub found_in_same : (kept : List ℕ) (s : StreamState) (bytes : List ℕ) →
    all_but kept (found_in (bodies_left_out_but kept s) bytes) ≡ all_but kept (found_in s bytes)
unfolding found_in
found_in_same kept s bytes = findings_same kept s.packets bytes s.states (packet_at bytes)

packet_same : (kept : List ℕ) (s : StreamState) (bytes : List ℕ) → lean kept (packet_pushed (lean kept s) bytes) ≡ lean kept (packet_pushed s bytes)
unfolding taken found_in
packet_same kept s bytes =
    let states = states_same kept s.packets bytes s.states (packet_at bytes) in
    let found = found_with kept s.found _ _ (findings_same kept s.packets bytes s.states (packet_at bytes)) in
    rw (states, found) refl

completed_by : (kept : List ℕ) (b : Bool) (s : StreamState) (held : List ℕ) →
    lean kept (cond b (packet_pushed (lean kept s) held) (record (lean kept s) { held = held }))
    ≡ lean kept (cond b (packet_pushed s held) (record s { held = held }))
completed_by kept true s held = packet_same kept s held
completed_by kept false s held = lean_again kept (record s { held = held })

completed_same : (kept : List ℕ) (s : StreamState) (held : List ℕ) → lean kept (completed (lean kept s) held) ≡ lean kept (completed s held)
unfolding completed
completed_same kept s held = completed_by kept (length held == 188) s held

-- Streams that differ only in bodies of other PIDs differ only in these after more bytes.
pushed_alike : (kept : List ℕ) (s t : StreamState) (bytes : List ℕ) → lean kept s ≡ lean kept t → lean kept (pushed s bytes) ≡ lean kept (pushed t bytes)
pushed_alike kept s t [] e = e
pushed_alike kept s t (byte ∷ bytes) e =
    let held : s.held ≡ t.held = ap (λ (x : StreamState). x.held) e in
    let next : lean kept (completed s (s.held ++ byte ∷ [])) ≡ lean kept (completed t (t.held ++ byte ∷ [])) =
    sym (completed_same kept s (s.held ++ byte ∷ []))
    ∙ ap₂ (λ (x : StreamState) (xs : List ℕ). lean kept (completed x (xs ++ byte ∷ []))) e held
    ∙ completed_same kept t (t.held ++ byte ∷ []) in
    pushed_alike kept (completed s (s.held ++ byte ∷ [])) (completed t (t.held ++ byte ∷ [])) bytes next

-- The end of a stream
flat_same : (kept : List ℕ) (packets : ℕ) (states : States) →
    all_but kept (ended_found packets (states_but kept states)) ≡ all_but kept (ended_found packets states)
unfolding ended_found
flat_same kept packets [] = refl
flat_same kept packets (x ∷ states) =
    map-append (finding_but kept) _ _
    ∙ ap₂ (λ (a b : List FindingView). a ++ b) (placed_same kept x.0 packets _ _ (ended_if (is_kept kept x.0) x.1)) (flat_same kept packets states)
    ∙ sym (map-append (finding_but kept) _ _)

finished_by : (kept : List ℕ) (b : Bool) (s : StreamState) →
    lean kept (cond b (lean kept s) (record (lean kept s) {
      held = [];
      found = all_but kept s.found ++ (held_found s.packets s.held ++ ended_found s.packets (states_but kept s.states));
      ended = true;
    }))
    ≡ lean kept (cond b s (record s { held = []; found = s.found ++ (held_found s.packets s.held ++ ended_found s.packets s.states); ended = true }))
finished_by kept true s = lean_again kept s
finished_by kept false s =
    let last : all_but kept (held_found s.packets s.held ++ ended_found s.packets (states_but kept s.states)) ≡ all_but kept
    (held_found s.packets s.held ++ ended_found s.packets s.states) =
    map-append (finding_but kept) (held_found s.packets s.held) _
    ∙ ap (λ (rest : List FindingView). all_but kept (held_found s.packets s.held) ++ rest) (flat_same kept s.packets s.states)
    ∙ sym (map-append (finding_but kept) (held_found s.packets s.held) _) in
    rw (states_again kept s.states, found_with kept s.found _ _ last) refl

finished_same : (kept : List ℕ) (s : StreamState) → lean kept (finished (lean kept s)) ≡ lean kept (finished s)
finished_same kept s = finished_by kept s.ended s

pub ends_same : (kept : List ℕ) (s : StreamState) (bytes : List ℕ) →
    all_but kept (finished (pushed (bodies_left_out_but kept s) bytes)).found ≡ all_but kept (finished (pushed s bytes)).found
ends_same kept s bytes =
    let t = bodies_left_out_but kept s in
    ap (λ (x : StreamState). x.found)
    (sym (finished_same kept (pushed t bytes))
    ∙ ap (λ (x : StreamState). lean kept (finished x)) (pushed_alike kept t s bytes (lean_left kept s))
    ∙ finished_same kept (pushed s bytes))

pub others_decide_nothing : OthersDecideNothing
others_decide_nothing kept s bytes = (left_again kept s, taken_same kept s bytes, found_in_same kept s bytes, ends_same kept s bytes)
