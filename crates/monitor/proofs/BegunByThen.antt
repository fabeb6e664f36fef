-- In each packet of a stream, the unit of a finding begins no later than this packet.
use Rattle.std.proofs.Common.{ℕ, zero, suc, ◌-◌, ◌≤◌, ◌==◌, Bool, true, false, cond, List, [], ◌∷◌, ◌++◌, length, map, Option, Some, None, Result, Ok, Err}
use Rattle.std.proofs.Common.{arith}
use Rattle.std.specs.Prelude.{option_map}
use Rattle.ts_packet.specs.declared.packet.PacketError.{PacketError}
use Rattle.ts_packet.specs.Views.{PacketView}
use Rattle.pid_findings.specs.Views.{WhatView, IsDuplicate, IsErrored, IsStray, Found}
use Rattle.pid_findings.specs.Marks.{Marked, mark}
use Rattle.pid_findings.specs.Roles.{Role, NoPayload, ScrambledPayload, PesStart, SectionStart, PointerPastEnd, Continuation, role}
use Rattle.pid_findings.specs.declared.open_unit.UnitKind.{UnitKind}
use Rattle.pid_findings.specs.declared.open_unit.UnitKind.TheVariants as unit_kinds
use Rattle.pid_findings.specs.OpenUnits.{OpenUnit, about_within, decided, appended, last_in, plain, section, sections_in, taken_by}
use Rattle.pid_findings.specs.Findings.{by_break, by_role, cut_short, decided_within, ended, found_at, found_if, found_or_cut, found_within, found_appended}
use Rattle.pid_findings.specs.Findings.{last_bytes, last_bytes_by, past_end, undecided, unless_decided}
use Rattle.pid_findings.specs.Machine.{PidState, found_by, next_open, step, step_marked, unbroken}
use Rattle.pid_findings.specs.Shown.{with_pid}
use Rattle.demux.specs.Stream.{States, entry_of, findings_by, state_of, states_by, without_pid, with_state}
use Rattle.monitor.proofs.MapSteps.{all_begun_by_then, begun_by_then}

-- 1. The findings at one packet

abbrev pub founds_by : ℕ → List Found → Type 0
founds_by index [] = Unit {0}
founds_by index (x ∷ found) = begun_by_then index x.begun × founds_by index found

abbrev pub part_by : ℕ → Option OpenUnit → Type 0
part_by index None = Unit {0}
part_by index (Some part) = part.packet ≤ index

join : (index : ℕ) (xs ys : List Found) → founds_by index xs → founds_by index ys → founds_by index (xs ++ ys)
join index [] ys h k = k
join index (x ∷ xs) ys h k = (h.0, join index xs ys h.1 k)

cut_by : (index : ℕ) (held : Option OpenUnit) → part_by index held → founds_by index (cut_short held)
cut_by index None h = tt
cut_by index (Some part) h = (h, tt)

pub ended_by : (index : ℕ) (unended : Bool) (held : Option OpenUnit) → part_by index held → founds_by index (ended unended held)
unfolding ended
ended_by index unended None h = tt
ended_by index unended (Some part) h = (h, tt)

stray_by : (index n : ℕ) (none : Bool) → founds_by index (cond none [] (plain (IsStray n) ∷ []))
stray_by index n true = tt
stray_by index n false = (tt, tt)

if_by : (index : ℕ) (part : OpenUnit) (what : Option WhatView) → part.packet ≤ index → founds_by index (found_if part what)
unfolding found_if
if_by index part None h = tt
if_by index part (Some what) h = let n = past_end (length part.bytes) what in (h, stray_by index n (n == 0))

within_by : (index : ℕ) (part : OpenUnit) (what : Option WhatView) → part.packet ≤ index → founds_by index (found_within part what)
unfolding found_within
within_by index part None h = tt
within_by index part (Some what) h = let n = past_end (length part.bytes) what in (h, stray_by index n (n == 0))

or_cut_by : (index : ℕ) (part : OpenUnit) (what : Option WhatView) → part.packet ≤ index → founds_by index (found_or_cut part what)
unfolding found_or_cut
or_cut_by index part None h = (h, tt)
or_cut_by index part (Some what) h = (h, tt)

last_by : (index : ℕ) (bytes : List ℕ) (held : Option OpenUnit) → part_by index held → founds_by index (last_bytes bytes held)
unfolding last_bytes last_bytes_by
last_by index bytes None h = tt
last_by index bytes (Some part) h = by part.kind
  where
    by : (kind : UnitKind) → founds_by index (last_bytes_by bytes part kind)
    by unit_kinds.Pes = ended_by index false (Some part) h
    by unit_kinds.Section = or_cut_by index (appended part bytes) (decided unit_kinds.Section (part.bytes ++ bytes)) h

goes_by : (index : ℕ) (payload : List ℕ) (held : Option OpenUnit) → part_by index held → founds_by index (found_appended payload held)
unfolding found_appended
goes_by index payload None h = stray_by index (length payload) (length payload == 0)
goes_by index payload (Some part) h = if_by index (appended part payload) (decided part.kind (part.bytes ++ payload)) h

itself : (n : ℕ) → n ≤ n
itself n = omega arith

sections_by : (index k : ℕ) (bytes : List ℕ) → founds_by index (sections_in index k bytes)
unfolding sections_in
sections_by index k [] = tt
sections_by index (suc k) (b ∷ bytes) = sections_by index k bytes
sections_by index zero (b ∷ bytes) = by (b == 0xFF) (decided unit_kinds.Section (b ∷ bytes)) (λ n. sections_by index n bytes)
  where
    by : (t : Bool) (o : Option WhatView) → ((n : ℕ) → founds_by index (sections_in index n bytes)) →
        founds_by index (cond t [] (elim o [
          | None ↦ []
          | Some what ↦ about_within (section index (b ∷ bytes)) what ∷ sections_in index (taken_by (b ∷ bytes) what - 1) bytes
        ]))
    by true o h = tt
    by false None h = tt
    by false (Some what) h = (itself index, h (taken_by (b ∷ bytes) what - 1))

role_by : (index : ℕ) (r : Role) (held : Option OpenUnit) → part_by index held → founds_by index (by_role index r held)
unfolding by_role
role_by index NoPayload held h = tt
role_by index ScrambledPayload held h = (tt, cut_by index held h)
role_by index (PesStart access payload) held h =
    join index (ended false held) (decided_within (record { packet = index; kind = unit_kinds.Pes; access = access; bytes = payload }))
    (ended_by index false held h)
    (within_by index (record { packet = index; kind = unit_kinds.Pes; access = access; bytes = payload }) (decided unit_kinds.Pes payload) (itself index))
role_by index (SectionStart before bytes) held h =
    join index (last_bytes before held) (sections_in index 0 bytes) (last_by index before held h) (sections_by index 0 bytes)
role_by index PointerPastEnd held h = (tt, cut_by index held h)
role_by index (Continuation payload) held h = goes_by index payload held h

break_by : (index : ℕ) (broken : Option (ℕ × ℕ)) (r : Role) (held : Option OpenUnit) → part_by index held → founds_by index (by_break index broken r held)
unfolding by_break
break_by index None r held h = role_by index r held h
break_by index (Some b) r held h = (tt, join index (cut_short held) (by_role index r None) (cut_by index held h) (role_by index r None tt))

at_by : (m : Marked) (held : Option OpenUnit) → part_by m.entry.index held → founds_by m.entry.index (found_at m held)
unfolding found_at
at_by m held h = by m.duplicate
  where
    by : (t : Bool) → founds_by m.entry.index (cond t (plain IsDuplicate ∷ []) (by_break m.entry.index m.broken (role m) held))
    by true = (tt, tt)
    by false = break_by m.entry.index m.broken (role m) held h

-- 2. The open unit of a PID

open_by : (index : ℕ) (part : OpenUnit) (o : Option WhatView) → part.packet ≤ index → part_by index (unless_decided part o)
unfolding unless_decided
open_by index part None h = h
open_by index part (Some what) h = tt

section_by : (index : ℕ) (o : Option (List ℕ)) → part_by index (option_map (section index) o)
section_by index None = tt
section_by index (Some bytes) = itself index

next_by : (index : ℕ) (r : Role) (held : Option OpenUnit) → part_by index held → part_by index (next_open index r held)
unfolding next_open undecided
next_by index NoPayload held h = h
next_by index ScrambledPayload held h = tt
next_by index (PesStart access payload) held h =
    open_by index (record { packet = index; kind = unit_kinds.Pes; access = access; bytes = payload }) (decided unit_kinds.Pes payload) (itself index)
next_by index (SectionStart before bytes) held h = section_by index (last_in 0 bytes)
next_by index PointerPastEnd held h = tt
next_by index (Continuation payload) None h = tt
next_by index (Continuation payload) (Some part) h = open_by index (appended part payload) (decided part.kind (part.bytes ++ payload)) h

unbroken_by : (index : ℕ) (broken : Option (ℕ × ℕ)) (held : Option OpenUnit) → part_by index held → part_by index (unbroken broken held)
unfolding unbroken
unbroken_by index None held h = h
unbroken_by index (Some b) held h = tt

step_by : (m : Marked) (s : PidState) → part_by m.entry.index s.open_unit → part_by m.entry.index (step_marked m s).open_unit
unfolding step_marked
step_by m s h = next_by m.entry.index (role m) (unbroken m.broken s.open_unit) (unbroken_by m.entry.index m.broken s.open_unit h)

-- 3. The states of all PIDs of a stream

abbrev pub states_within : ℕ → States → Type 0
states_within index [] = Unit {0}
states_within index (x ∷ states) = part_by index x.1.open_unit × states_within index states

part_longer : (index more : ℕ) (held : Option OpenUnit) → index ≤ more → part_by index held → part_by more held
part_longer index more None n h = tt
part_longer index more (Some part) n h = let k : part.packet ≤ index = h in omega arith

pub states_longer : (index more : ℕ) (states : States) → index ≤ more → states_within index states → states_within more states
states_longer index more [] n h = tt
states_longer index more (x ∷ states) n h = (part_longer index more x.1.open_unit n h.0, states_longer index more states n h.1)

state_within : (index pid : ℕ) (states : States) → states_within index states → part_by index (state_of pid states).open_unit
state_within index pid [] h = tt
state_within index pid (x ∷ states) h = by (pid == x.0) (state_within index pid states h.1)
  where
    by : (t : Bool) → part_by index (state_of pid states).open_unit → part_by index (cond t x.1 (state_of pid states)).open_unit
    by true k = h.0
    by false k = k

with_within : (index pid : ℕ) (state : PidState) (states : States) → part_by index state.open_unit → states_within index states →
    states_within index (with_state pid state states)
with_within index pid state [] k h = (k, tt)
with_within index pid state (x ∷ states) k h = by (pid == x.0) (with_within index pid state states k h.1)
  where
    by : (t : Bool) → states_within index (with_state pid state states) → states_within index (cond t ((x.0, state) ∷ states) (x ∷ with_state pid state states))
    by true l = (k, h.1)
    by false l = (h.0, l)

pub reported_by : (pid index : ℕ) (found : List Found) → founds_by index found → all_begun_by_then (map (with_pid pid index) found)
reported_by pid index [] h = tt
reported_by pid index (x ∷ found) h = (h.0, reported_by pid index found h.1)

pub findings_within : (index : ℕ) (bytes : List ℕ) (states : States) (r : Result PacketView PacketError) → states_within index states →
    all_begun_by_then (findings_by index bytes states r)
unfolding findings_by mark
findings_within index bytes states (Err error) h = (tt, tt)
findings_within index bytes states (Ok packet) h = by packet.header.transport_error_indicator (packet.header.pid == 8191)
  where
    s : PidState
    s = state_of packet.header.pid states

    by : (e z : Bool) → all_begun_by_then (cond e (without_pid index IsErrored ∷ [])
        (cond z [] (map (with_pid packet.header.pid index) (found_by s (entry_of index bytes packet)))))
    by true z = (tt, tt)
    by false true = tt
    by false false = reported_by packet.header.pid index (found_by s (entry_of index bytes packet))
        (at_by (mark s.last (entry_of index bytes packet)) s.open_unit (state_within index packet.header.pid states h))

pub states_next : (index : ℕ) (bytes : List ℕ) (states : States) (r : Result PacketView PacketError) → states_within index states →
    states_within index (states_by index bytes states r)
unfolding states_by mark
states_next index bytes states (Err error) h = h
states_next index bytes states (Ok packet) h = by packet.header.transport_error_indicator (packet.header.pid == 8191)
  where
    s : PidState
    s = state_of packet.header.pid states

    by : (e z : Bool) → states_within index (cond e states (cond z states (with_state packet.header.pid (step s (entry_of index bytes packet)) states)))
    by true z = h
    by false true = h
    by false false = with_within index packet.header.pid (step s (entry_of index bytes packet)) states
        (step_by (mark s.last (entry_of index bytes packet)) s (state_within index packet.header.pid states h)) h
