-- Leaving out the bodies of PES packets changes nothing else in a stream.
use Rattle.std.proofs.Common.{◌≡◌, ℕ, zero, suc, ◌==◌, ◌≤◌, Bool, true, false, cond, List, [], ◌∷◌, ◌++◌, length, map, slice_get, Option, None, Some, subst}
use Rattle.std.proofs.Common.{Result, Ok, Err, refl, sym, ap, ap₂, ◌∙◌, arith}
use Rattle.std.specs.Prelude.{IfSome}
use Rattle.std.proofs.lemmas.List.{length-take-le, map-append}
use Rattle.bit_fields.specs.Fields.{IsBytes}
use Rattle.pes_packet.specs.Reading.{header_at}
use Rattle.pes_packet.specs.declared.reading.PesHeader.{PesHeader}
use Rattle.pes_packet.specs.declared.refusal.PesError.{PesError}
use Rattle.pes_packet.specs.declared.refusal.PesError.TheVariants as pes_errors
use Rattle.psi_tables.specs.Reading.{section_at}
use Rattle.psi_tables.specs.Views.{SectionView}
use Rattle.psi_tables.specs.declared.error.SectionError.{SectionError}
use Rattle.psi_tables.specs.declared.error.SectionError.TheVariants as section_errors
use Rattle.ts_packet.specs.PidList.{Entry}
use Rattle.ts_packet.specs.Views.{PacketView}
use Rattle.ts_packet.specs.Reading.{packet_at}
use Rattle.ts_packet.specs.declared.packet.PacketError.{PacketError}
use Rattle.pid_findings.specs.Views.{WhatView, IsDuplicate, BreaksCounter, IsScrambled, IsTruncated, IsSection, IsBadSection, IsPes, IsBadPes, IsBadPacket}
use Rattle.pid_findings.specs.Views.{IsErrored}
use Rattle.pid_findings.specs.Views.{IsStray}
use Rattle.pid_findings.specs.Views.{Found, FindingView}
use Rattle.pid_findings.specs.OpenUnits.{decided, of_pes, of_section}
use Rattle.pid_findings.specs.declared.open_unit.UnitKind.{UnitKind}
use Rattle.pid_findings.specs.declared.open_unit.UnitKind.TheVariants as unit_kinds
use Rattle.pid_findings.specs.Findings.{ended}
use Rattle.pid_findings.specs.Machine.{PidState, found_by, step}
use Rattle.pid_findings.specs.Shown.{with_pid}
use Rattle.demux.specs.Stream.{States, StreamState, completed, ended_found, entry_of, finished, findings_by, found_in, held_found, packet_pushed, pushed, start}
use Rattle.demux.specs.Stream.{state_of, states_by, taken, with_state, without_pid}
use Rattle.demux.specs.FoundSoFar.{with_found}
use Rattle.pid_findings.specs.Bodies.{FewAreKept, all_without_body}
use Rattle.demux.specs.StreamBodies.{HeadersAlone, HeadersAreFound, HeadersSoFar, NoHeadersAtFirst, headers_pushed, bodies_left_out}
use Rattle.pid_findings.specs.Bodies.{finding_without_body, found_without_body, header_bytes, kept_bytes, state_without_body}
use Rattle.demux.specs.StreamBodies.{states_without_bodies, without_bodies}
use Rattle.pid_findings.specs.Bodies.{without_body}
use Rattle.pid_findings.proofs.Bodies.{bodies_decide_nothing, ended_same, state_again, zeros_again}
use Rattle.demux.proofs.FoundSoFar.{cleared, pushed_after}
use Rattle.demux.proofs.PushedBytes.{pushed_append}
use Rattle.pid_findings.proofs.HeaderFronts.{header_size, header_there}
use Rattle.pid_findings.proofs.ShortReads.{header_bound, section_bound}

-- 1. The states of all PIDs

pub states_again : (states : States) → states_without_bodies (states_without_bodies states) ≡ states_without_bodies states
states_again [] = refl
states_again (x ∷ states) = ap₂ (λ (s : PidState) (rest : States). (x.0, s) ∷ rest) (state_again x.1) (states_again states)

state_by : (b : Bool) (x y z : PidState) → z ≡ state_without_body y → cond b (state_without_body x) z ≡ state_without_body (cond b x y)
state_by true x y z e = refl
state_by false x y z e = e

state_left : (pid : ℕ) (states : States) → state_of pid (states_without_bodies states) ≡ state_without_body (state_of pid states)
state_left pid [] = refl
state_left pid (x ∷ states) = state_by (pid == x.0) x.1 (state_of pid states) _ (state_left pid states)

with_by : (b : Bool) (other : ℕ) (state x : PidState) (rest more last : States) → states_without_bodies more ≡ last →
    states_without_bodies (cond b ((other, state) ∷ rest) ((other, x) ∷ more))
    ≡ cond b ((other, state_without_body state) ∷ states_without_bodies rest) ((other, state_without_body x) ∷ last)
with_by true other state x rest more last e = refl
with_by false other state x rest more last e = ap (λ (states : States). (other, state_without_body x) ∷ states) e

with_left : (pid : ℕ) (state : PidState) (states : States) →
    states_without_bodies (with_state pid state states) ≡ with_state pid (state_without_body state) (states_without_bodies states)
with_left pid state [] = refl
with_left pid state (x ∷ states) =
    with_by (pid == x.0) x.0 state x.1 states (with_state pid state states) _ (with_left pid state states)

-- The states after a packet of a PID
stepped_same : (pid : ℕ) (entry : Entry) (states : States) →
    states_without_bodies (with_state pid (step (state_of pid (states_without_bodies states)) entry) (states_without_bodies states))
    ≡ states_without_bodies (with_state pid (step (state_of pid states) entry) states)
stepped_same pid entry states =
    let s = state_of pid states in
    with_left pid (step (state_of pid (states_without_bodies states)) entry) (states_without_bodies states)
    ∙ ap (λ (t : PidState). with_state pid (state_without_body (step t entry)) (states_without_bodies (states_without_bodies states))) (state_left pid states)
    ∙ ap₂ (λ (t : PidState) (rest : States). with_state pid t rest) (bodies_decide_nothing s entry).1 (states_again states)
    ∙ sym (with_left pid (step s entry) states)

same_by : (b : Bool) (x y z w : States) → states_without_bodies x ≡ states_without_bodies z → states_without_bodies y ≡ states_without_bodies w →
    states_without_bodies (cond b x y) ≡ states_without_bodies (cond b z w)
same_by true x y z w e f = e
same_by false x y z w e f = f

states_same : (index : ℕ) (bytes : List ℕ) (states : States) (r : Result PacketView PacketError) →
    states_without_bodies (states_by index bytes (states_without_bodies states) r) ≡ states_without_bodies (states_by index bytes states r)
unfolding states_by
states_same index bytes states (Err error) = states_again states
states_same index bytes states (Ok packet) =
    same_by packet.header.transport_error_indicator _ _ _ _ (states_again states)
    (same_by (packet.header.pid == 8191) _ _ _ _ (states_again states) (stepped_same packet.header.pid (entry_of index bytes packet) states))

-- The findings in a packet
placed : (pid packet : ℕ) (found : List Found) → all_without_body (map (with_pid pid packet) found) ≡ map (with_pid pid packet) (map found_without_body found)
placed pid packet [] = refl
placed pid packet (x ∷ found) = ap (λ (rest : List FindingView). finding_without_body (with_pid pid packet x) ∷ rest) (placed pid packet found)

placed_same : (pid packet : ℕ) (x y : List Found) → map found_without_body x ≡ map found_without_body y →
    all_without_body (map (with_pid pid packet) x) ≡ all_without_body (map (with_pid pid packet) y)
placed_same pid packet x y e = placed pid packet x ∙ ap (map (with_pid pid packet)) e ∙ sym (placed pid packet y)

found_by_test : (b : Bool) (first x y : List FindingView) → all_without_body x ≡ all_without_body y →
    all_without_body (cond b first x) ≡ all_without_body (cond b first y)
found_by_test true first x y e = refl
found_by_test false first x y e = e

findings_same : (index : ℕ) (bytes : List ℕ) (states : States) (r : Result PacketView PacketError) →
    all_without_body (findings_by index bytes (states_without_bodies states) r) ≡ all_without_body (findings_by index bytes states r)
unfolding findings_by
findings_same index bytes states (Err error) = refl
findings_same index bytes states (Ok packet) =
    let pid = packet.header.pid in
    let entry = entry_of index bytes packet in
    let same = ap (λ (s : PidState). map found_without_body (found_by s entry)) (state_left pid states)
    ∙ (bodies_decide_nothing (state_of pid states) entry).0 in
    found_by_test packet.header.transport_error_indicator (without_pid index IsErrored ∷ []) _ _
    (found_by_test (pid == 8191) [] _ _ (placed_same pid index _ _ same))

-- 2. A stream

pub what_again : (w : WhatView) → without_body (without_body w) ≡ without_body w
what_again (IsPes header unended body) = ap (IsPes header unended) (zeros_again body)
what_again (IsTruncated bytes) = ap IsTruncated (zeros_again bytes)
what_again IsDuplicate = refl
what_again (BreaksCounter expected found) = refl
what_again IsScrambled = refl
what_again (IsSection bytes) = refl
what_again (IsBadSection error) = refl
what_again (IsBadPes error) = refl
what_again (IsBadPacket error) = refl
what_again IsErrored = refl
what_again (IsStray size) = refl

pub found_again : (found : List FindingView) → all_without_body (all_without_body found) ≡ all_without_body found
found_again [] = refl
found_again (x ∷ found) =
    ap₂ (λ (w : WhatView) (rest : List FindingView). (record x { what = w }) ∷ rest) (what_again x.what) (found_again found)

found_with : (found x y : List FindingView) → all_without_body x ≡ all_without_body y →
    all_without_body (all_without_body found ++ x) ≡ all_without_body (found ++ y)
found_with found x y e =
    map-append finding_without_body (all_without_body found) x ∙ ap₂ (λ (a b : List FindingView). a ++ b) (found_again found) e
    ∙ sym (map-append finding_without_body found y)

pub stream_again : (s : StreamState) → without_bodies (without_bodies s) ≡ without_bodies s
stream_again s = rw (states_again s.states, found_again s.found) refl

pub left_again : (s : StreamState) → without_bodies (bodies_left_out s) ≡ without_bodies s
left_again s = rw (states_again s.states) refl

pub taken_same : (s : StreamState) (bytes : List ℕ) → without_bodies (taken (without_bodies s) bytes) ≡ without_bodies (taken s bytes)
unfolding taken
taken_same s bytes = rw (states_same s.packets bytes s.states (packet_at bytes), found_again s.found) refl

pub found_in_same : (s : StreamState) (bytes : List ℕ) → all_without_body (found_in (without_bodies s) bytes) ≡ all_without_body (found_in s bytes)
unfolding found_in
found_in_same s bytes = findings_same s.packets bytes s.states (packet_at bytes)

packet_same : (s : StreamState) (bytes : List ℕ) → without_bodies (packet_pushed (without_bodies s) bytes) ≡ without_bodies (packet_pushed s bytes)
unfolding taken found_in
packet_same s bytes =
    let states = states_same s.packets bytes s.states (packet_at bytes) in
    let found = found_with s.found _ _ (findings_same s.packets bytes s.states (packet_at bytes)) in
    rw (states, found) refl

completed_by : (b : Bool) (s : StreamState) (held : List ℕ) →
    without_bodies (cond b (packet_pushed (without_bodies s) held) (record (without_bodies s) { held = held }))
    ≡ without_bodies (cond b (packet_pushed s held) (record s { held = held }))
completed_by true s held = packet_same s held
completed_by false s held = stream_again (record s { held = held })

completed_same : (s : StreamState) (held : List ℕ) → without_bodies (completed (without_bodies s) held) ≡ without_bodies (completed s held)
unfolding completed
completed_same s held = completed_by (length held == 188) s held

-- Streams that differ only in bodies differ only in bodies after more bytes.
pushed_alike : (s t : StreamState) (bytes : List ℕ) → without_bodies s ≡ without_bodies t → without_bodies (pushed s bytes) ≡ without_bodies (pushed t bytes)
pushed_alike s t [] e = e
pushed_alike s t (byte ∷ bytes) e =
    let held : s.held ≡ t.held = ap (λ (x : StreamState). x.held) e in
    let next : without_bodies (completed s (s.held ++ byte ∷ [])) ≡ without_bodies (completed t (t.held ++ byte ∷ [])) =
    sym (completed_same s (s.held ++ byte ∷ []))
    ∙ ap₂ (λ (x : StreamState) (xs : List ℕ). without_bodies (completed x (xs ++ byte ∷ []))) e held
    ∙ completed_same t (t.held ++ byte ∷ []) in
    pushed_alike (completed s (s.held ++ byte ∷ [])) (completed t (t.held ++ byte ∷ [])) bytes next

pub pushed_same : (s : StreamState) (bytes : List ℕ) → without_bodies (pushed (without_bodies s) bytes) ≡ without_bodies (pushed s bytes)
pushed_same s bytes = pushed_alike (without_bodies s) s bytes (stream_again s)

-- The end of a stream
pub flat_same : (packets : ℕ) (states : States) →
    all_without_body (ended_found packets (states_without_bodies states)) ≡ all_without_body (ended_found packets states)
unfolding ended_found
flat_same packets [] = refl
flat_same packets (x ∷ states) =
    map-append finding_without_body _ _
    ∙ ap₂ (λ (a b : List FindingView). a ++ b) (placed_same x.0 packets _ _ (ended_same true x.1.open_unit)) (flat_same packets states)
    ∙ sym (map-append finding_without_body _ _)

finished_by : (b : Bool) (s : StreamState) →
    without_bodies (cond b (without_bodies s) (record (without_bodies s) {
      held = [];
      found = all_without_body s.found ++ (held_found s.packets s.held ++ ended_found s.packets (states_without_bodies s.states));
      ended = true;
    }))
    ≡ without_bodies (cond b s (record s { held = []; found = s.found ++ (held_found s.packets s.held ++ ended_found s.packets s.states); ended = true }))
finished_by true s = stream_again s
finished_by false s =
    let last : all_without_body (held_found s.packets s.held ++ ended_found s.packets (states_without_bodies s.states)) ≡ all_without_body
    (held_found s.packets s.held ++ ended_found s.packets s.states) =
    map-append finding_without_body (held_found s.packets s.held) _
    ∙ ap (λ (rest : List FindingView). all_without_body (held_found s.packets s.held) ++ rest) (flat_same s.packets s.states)
    ∙ sym (map-append finding_without_body (held_found s.packets s.held) _) in
    rw (states_again s.states, found_with s.found _ _ last) refl

pub finished_same : (s : StreamState) → without_bodies (finished (without_bodies s)) ≡ without_bodies (finished s)
finished_same s = finished_by s.ended s

pub headers_are_alone : HeadersAlone
headers_are_alone s bytes = (left_again s, taken_same s bytes, found_in_same s bytes, pushed_same s bytes, finished_same s)

-- 3. Findings that the caller takes away

pub no_headers_at_first : NoHeadersAtFirst
no_headers_at_first = record { none = refl; unended = refl; state = refl }

ended_by : (b : Bool) (s : StreamState) (held : List ℕ) → (cond b (packet_pushed s held) (record s { held = held })).ended ≡ s.ended
unfolding taken
ended_by true s held = refl
ended_by false s held = refl

pushed_ended : (s : StreamState) (bytes : List ℕ) → (pushed s bytes).ended ≡ s.ended
unfolding completed
pushed_ended s [] = refl
pushed_ended s (byte ∷ bytes) =
    pushed_ended (completed s (s.held ++ byte ∷ [])) bytes ∙ ended_by (length (s.held ++ byte ∷ []) == 188) s (s.held ++ byte ∷ [])

-- One more piece
pushed_so_far : (bytes piece : List ℕ) (s : StreamState) (found : List FindingView) → HeadersSoFar bytes s found →
    without_bodies (pushed start (bytes ++ piece)) ≡ with_found (all_without_body (found ++ (pushed s piece).found)) (headers_pushed s piece)
pushed_so_far bytes piece s found h =
    let so_far = all_without_body found in
    ap without_bodies (pushed_append start bytes piece)
    ∙ sym (pushed_same (pushed start bytes) piece)
    ∙ ap (λ (t : StreamState). without_bodies (pushed t piece)) (h.state ∙ cleared so_far s h.none)
    ∙ ap without_bodies (pushed_after so_far s piece)
    ∙ ap (λ (x : List FindingView). with_found x (headers_pushed s piece)) (found_with found (pushed s piece).found (pushed s piece).found refl)

ended_is : (s : StreamState) → s.ended ≡ false → (finished s).found ≡ s.found ++ (held_found s.packets s.held ++ ended_found s.packets s.states)
ended_is s e = rw e refl

ended_so_far : (bytes : List ℕ) (s : StreamState) (found : List FindingView) → HeadersSoFar bytes s found →
    all_without_body (finished (pushed start bytes)).found ≡ all_without_body (found ++ (held_found s.packets s.held ++ ended_found s.packets s.states))
ended_so_far bytes s found h =
    let so_far = all_without_body found in
    let rest = held_found s.packets s.held ++ ended_found s.packets s.states in
    ap (λ (t : StreamState). t.found) (sym (finished_same (pushed start bytes)))
    ∙ ap (λ (t : StreamState). all_without_body (finished t).found) h.state
    ∙ ap all_without_body (ended_is (with_found so_far s) h.unended)
    ∙ found_with found rest rest refl

pub headers_are_found : HeadersAreFound
headers_are_found bytes piece s found h = (
  record { none = refl; unended = pushed_ended s piece ∙ h.unended; state = pushed_so_far bytes piece s found h },
  ended_so_far bytes s found h,
)

-- If the findings without bodies are an empty list, there are no findings.
pub none_besides : (found : List FindingView) → all_without_body found ≡ [] → found ≡ []
none_besides [] e = refl
none_besides (x ∷ found) e = absurd cc

same_entry : (x y : ℕ × PidState) → ◌≡◌ {A = Option (ℕ × PidState)} (Some x) (Some y) → x ≡ y
same_entry x y e = cc

-- The end of a PID gives the same findings, besides bodies.
pub entry_ends : (packet index : ℕ) (states : States) (x : ℕ × PidState) → slice_get (states_without_bodies states) index ≡ Some x →
    IfSome (slice_get states index) (λ y. (y.0 ≡ x.0) × (
    all_without_body (map (with_pid y.0 packet) (ended true y.1.open_unit)) ≡ all_without_body (map (with_pid x.0 packet) (ended true x.1.open_unit))))
entry_ends packet index [] x e = tt
entry_ends packet zero (y ∷ states) x e = by x (same_entry (y.0, state_without_body y.1) x e)
  where
    by : (x : ℕ × PidState) → (y.0, state_without_body y.1) ≡ x → (y.0 ≡ x.0) × (
        all_without_body (map (with_pid y.0 packet) (ended true y.1.open_unit)) ≡ all_without_body (map (with_pid x.0 packet) (ended true x.1.open_unit)))
    by x f = subst (λ (z : ℕ × PidState). (y.0 ≡ z.0) × (
        all_without_body (map (with_pid y.0 packet) (ended true y.1.open_unit)) ≡ all_without_body (map (with_pid z.0 packet) (ended true z.1.open_unit)))) f
        (refl, placed_same y.0 packet (ended true y.1.open_unit) (ended true (state_without_body y.1).open_unit) (sym (ended_same true y.1.open_unit)))
entry_ends packet (suc index) (y ∷ states) x e = entry_ends packet index states x e

-- 4. The number of bytes that a state keeps

pes_few : (bytes : List ℕ) (r : Result (PesHeader × ℕ) PesError) → IsBytes bytes → header_at bytes ≡ r → of_pes bytes r ≡ None →
    length (header_bytes bytes r) ≤ 4098
unfolding of_pes header_bytes
pes_few bytes (Ok h) b is none =
    let n = length-take-le h.1 bytes (header_there bytes h is) in omega (arith, n, header_size bytes h b is)
pes_few bytes (Err pes_errors.Short) b is none = let n = header_bound bytes b is in omega (arith, n)
pes_few bytes (Err pes_errors.Prefix) b is none = absurd cc
pes_few bytes (Err pes_errors.BadFlags) b is none = absurd cc
pes_few bytes (Err pes_errors.Marker) b is none = absurd cc
pes_few bytes (Err pes_errors.Length) b is none = absurd cc

section_few : (bytes : List ℕ) (r : Result (SectionView × ℕ) SectionError) → IsBytes bytes → section_at bytes ≡ r → of_section bytes r ≡ None →
    length bytes ≤ 4098
unfolding of_section
section_few bytes (Ok s) b is none = absurd cc
section_few bytes (Err section_errors.Short) b is none = let n = section_bound bytes b is in omega (arith, n)
section_few bytes (Err e) b is none = absurd cc

few_by : (kind : UnitKind) (bytes : List ℕ) → IsBytes bytes → decided kind bytes ≡ None → length (kept_bytes kind bytes) ≤ 4098
unfolding decided
few_by unit_kinds.Pes bytes b none = pes_few bytes (header_at bytes) b refl none
few_by unit_kinds.Section bytes b none = section_few bytes (section_at bytes) b refl none

pub few_are_kept : FewAreKept
few_are_kept unit b none = few_by unit.kind unit.bytes b none
