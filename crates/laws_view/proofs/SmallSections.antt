-- If a stream consists of bytes, each table_id that is found is one byte, and each part two bytes.
use Rattle.std.proofs.Common.{◌≡◌, ℕ, zero, suc, ◌+◌, ◌-◌, ◌*◌, ◌/◌, ◌<◌, ◌==◌, Bool, true, false, cond, List, [], ◌∷◌, ◌++◌, length, map, take, drop, Option}
use Rattle.std.proofs.Common.{Some, None}
use Rattle.std.proofs.Common.{Result, Ok, Err, refl, sym, subst, ◌∙◌, arith, All}
use Rattle.std.specs.Prelude.{◌%◌, nat_lt, option_map, slice_index}
use Rattle.std.specs.Simd.{first_chunks}
use Rattle.std.proofs.lemmas.List.Elements.{All-append, All-drop, All-head, All-nil, All-tail, All-take}
use Rattle.ts_packet.specs.declared.header.Header.{Header}
use Rattle.ts_packet.specs.declared.packet.PacketError.{PacketError}
use Rattle.ts_packet.specs.declared.packet.PacketError.TheVariants as packet_errors
use Rattle.ts_packet.specs.declared.start.Start.{Start}
use Rattle.ts_packet.specs.declared.start.Start.TheVariants.{Access, Begins, Continues}
use Rattle.ts_packet.specs.Beginnings.{start_in}
use Rattle.ts_packet.specs.PidList.{Entry, cut_packets}
use Rattle.ts_packet.specs.Reading.{adaptation_at, body_at, field_at, header_of, packet_at}
use Rattle.ts_packet.specs.Views.{AdaptationView, PacketView}
use Rattle.bit_fields.specs.Reading.{◌>>=◌}
use Rattle.pes_packet.specs.Reading.{header_at}
use Rattle.psi_tables.specs.declared.error.SectionError.{SectionError}
use Rattle.psi_tables.specs.declared.error.SectionError.TheVariants as refusals
use Rattle.psi_tables.specs.Reading.{section_at}
use Rattle.psi_tables.specs.Views.{SectionView}
use Rattle.pid_findings.specs.Findings.{by_break, by_role, cut_short, decided_by, decided_within, end_of, ended, found_appended, found_at, found_if}
use Rattle.pid_findings.specs.Findings.{found_or_cut}
use Rattle.pid_findings.specs.Findings.{found_within}
use Rattle.pid_findings.specs.Findings.{last_bytes, last_bytes_by, past_end, stray_bytes, undecided, unless_decided}
use Rattle.demux.specs.FoundSoFar.{found_in_all}
use Rattle.pid_findings.specs.Machine.{PidState, found_by, next_open, step, step_marked, unbroken}
use Rattle.pid_findings.specs.Marks.{LastView, Marked, is_repeat, mark}
use Rattle.pid_findings.specs.OpenUnits.{OpenUnit, about, about_within, appended, begun_kind, decided, last_in, of_section, section, sections_in, taken_by}
use Rattle.pid_findings.specs.Roles.{Continuation, NoPayload, PesStart, PointerPastEnd, Role, ScrambledPayload, SectionStart, may_begin_pes, role, role_by}
use Rattle.pid_findings.specs.Roles.{role_by_pointer, role_of}
use Rattle.pid_findings.specs.Roles.{role_of_start}
use Rattle.pid_findings.specs.Shown.{with_pid}
use Rattle.demux.specs.Stream.{States, StreamState, entry_of, findings_by, found_in, start, state_of, states_by, taken, with_state}
use Rattle.pid_findings.specs.Views.{BreaksCounter, FindingView, Found, IsBadSection, IsDuplicate, IsErrored, IsScrambled, IsSection, IsStray, IsTruncated}
use Rattle.pid_findings.specs.Views.{WhatView}
use Rattle.pid_findings.specs.declared.open_unit.UnitKind.{UnitKind}
use Rattle.pid_findings.specs.declared.open_unit.UnitKind.TheVariants as unit_kinds
use Rattle.tr101290.specs.Parts.{has_parts, is_map, part_of}
use Rattle.tr101290.specs.Sections.{begin_of, section_begin, section_by}
use Rattle.laws_view.proofs.LateEvents.{AllSmall, IsSmall, IsSmallPart}
use Rattle.laws_view.proofs.ViewedFindings.{state_kept}

abbrev Byte : ℕ → Type 0
Byte b = b < 256

abbrev pub Bytes : List ℕ → Type 0
Bytes bytes = All Byte bytes

byte_at : (xs : List ℕ) (i : ℕ) → Bytes xs → slice_index xs i < 256
byte_at [] i h = omega arith
byte_at (x ∷ xs) zero h = All-head Byte x xs h
byte_at (x ∷ xs) (suc i) h = byte_at xs i (All-tail Byte x xs h)

-- 1. The findings of a section

-- The part is small on any PID.
abbrev IsCalm : WhatView → Type 0
IsCalm what = (pid table_id : ℕ) → IsSmallPart (part_of pid table_id what)

section_calm : (bytes : List ℕ) → Bytes bytes → IsCalm (IsSection bytes)
unfolding part_of IsSmallPart
section_calm bytes h pid table_id = by (has_parts pid table_id) (is_map table_id)
  where
    by : (a b : Bool) → IsSmallPart (cond a (Some (cond b (slice_index bytes 3 * 256 + slice_index bytes 4) (slice_index bytes 6))) None)
    by true true = let x = byte_at bytes 3 h in let y = byte_at bytes 4 h in omega (arith, x, y)
    by true false = let z = byte_at bytes 6 h in omega (arith, z)
    by false b = tt

unfoldable IsCalmIf : Option WhatView → Type 0
IsCalmIf None = Unit {0}
IsCalmIf (Some what) = IsCalm what

of_section_calm : (bytes : List ℕ) (r : Result (SectionView × ℕ) SectionError) → Bytes bytes → IsCalmIf (of_section bytes r)
unfolding of_section IsCalmIf part_of IsSmallPart
of_section_calm bytes (Ok s) h = section_calm (take s.1 bytes) (All-take Byte s.1 bytes h)
of_section_calm bytes (Err refusals.Short) h = tt
of_section_calm bytes (Err refusals.Length) h = λ pid table_id. tt
of_section_calm bytes (Err refusals.CheckWord) h = λ pid table_id. tt
of_section_calm bytes (Err refusals.Syntax) h = λ pid table_id. tt
of_section_calm bytes (Err refusals.Body) h = λ pid table_id. tt
of_section_calm bytes (Err refusals.TooLong) h = λ pid table_id. tt

decided_calm : (bytes : List ℕ) → Bytes bytes → IsCalmIf (decided unit_kinds.Section bytes)
unfolding decided
decided_calm bytes h = of_section_calm bytes (section_at bytes) h

cut_calm : (bytes : List ℕ) → IsCalm (IsTruncated bytes)
unfolding part_of IsSmallPart
cut_calm bytes pid table_id = tt

-- 2. The findings of a PID

abbrev IsSmallFound : Found → Type 0
IsSmallFound f = (pid : ℕ) → IsSmall (section_by (Some pid) f.begun f.what)

abbrev AllFound : List Found → Type 0
AllFound [] = Unit {0}
AllFound (f ∷ found) = IsSmallFound f × AllFound found

both : (xs ys : List Found) → AllFound xs → AllFound ys → AllFound (xs ++ ys)
both [] ys h k = k
both (x ∷ xs) ys h k = (h.0, both xs ys h.1 k)

-- A unit that begins is a PES packet, or has a calm section.
by_kind : (pid packet : ℕ) (kind : UnitKind) (access : Bool) (bytes : List ℕ) (what : WhatView) → Bytes bytes → (kind ≡ unit_kinds.Section → IsCalm what) →
    IsSmall (section_by (Some pid) (Some (packet, begun_kind kind access bytes)) what)
unfolding section_by begin_of begun_kind IsSmall
by_kind pid packet unit_kinds.Section access bytes what h calm = (byte_at bytes 0 h, calm refl pid (slice_index bytes 0))
by_kind pid packet unit_kinds.Pes access bytes what h calm = tt

about_small : (unit : OpenUnit) (what : WhatView) → Bytes unit.bytes → (unit.kind ≡ unit_kinds.Section → IsCalm what) → IsSmallFound (about unit what)
about_small unit what h calm pid = by_kind pid unit.packet unit.kind unit.access unit.bytes what h calm

plain_small : (what : WhatView) → IsSmallFound (record { begun = None; what = what; within = false })
unfolding section_by IsSmall
plain_small what pid = tt

stray_small : (n : ℕ) (t : Bool) → AllFound (cond t [] ((record { begun = None; what = IsStray n; within = false }) ∷ []))
stray_small n true = tt
stray_small n false = (plain_small (IsStray n), tt)

-- The bytes past the end of a unit
past_small : (unit : OpenUnit) (what : WhatView) → AllFound (stray_bytes (past_end (length unit.bytes) what))
past_small unit what = let n = past_end (length unit.bytes) what in stray_small n (n == 0)

found_if_small : (unit : OpenUnit) (kind : UnitKind) → unit.kind ≡ kind → (bytes : List ℕ) → Bytes unit.bytes → Bytes bytes →
    AllFound (found_if unit (decided kind bytes))
unfolding found_if IsCalmIf
found_if_small unit unit_kinds.Section e bytes h k = by (decided unit_kinds.Section bytes) (decided_calm bytes k)
  where
    by : (o : Option WhatView) → IsCalmIf o → AllFound (found_if unit o)
    by None calm = tt
    by (Some what) calm = (about_small unit what h (λ s. calm), past_small unit what)
found_if_small unit unit_kinds.Pes e bytes h k = by (decided unit_kinds.Pes bytes)
  where
    by : (o : Option WhatView) → AllFound (found_if unit o)
    by None = tt
    by (Some what) = (
      about_small unit what h (λ s. let no : unit_kinds.Pes ≡ unit_kinds.Section = sym e ∙ s in absurd (let none : ⊥ = cc in none)),
      past_small unit what,
    )

within_small : (unit : OpenUnit) (kind : UnitKind) → unit.kind ≡ kind → Bytes unit.bytes → AllFound (found_within unit (decided kind unit.bytes))
unfolding found_within IsCalmIf
within_small unit unit_kinds.Section e h = by (decided unit_kinds.Section unit.bytes) (decided_calm unit.bytes h)
  where
    by : (o : Option WhatView) → IsCalmIf o → AllFound (found_within unit o)
    by None calm = tt
    by (Some what) calm = (λ pid. by_kind pid unit.packet unit.kind unit.access unit.bytes what h (λ s. calm), past_small unit what)
within_small unit unit_kinds.Pes e h = by (decided unit_kinds.Pes unit.bytes)
  where
    by : (o : Option WhatView) → AllFound (found_within unit o)
    by None = tt
    by (Some what) = (
      λ pid. by_kind pid unit.packet unit.kind unit.access unit.bytes what h
          (λ s. let no : unit_kinds.Pes ≡ unit_kinds.Section = sym e ∙ s in absurd (let none : ⊥ = cc in none)),
      past_small unit what,
    )

-- The open unit, if any, consists of bytes.
unfoldable IsByteUnit : Option OpenUnit → Type 0
IsByteUnit None = Unit {0}
IsByteUnit (Some unit) = Bytes unit.bytes

cut_small : (o : Option OpenUnit) → IsByteUnit o → AllFound (cut_short o)
unfolding IsByteUnit
cut_small None h = tt
cut_small (Some unit) h = (about_small unit (IsTruncated unit.bytes) h (λ s. cut_calm unit.bytes), tt)

ended_small : (unended : Bool) (o : Option OpenUnit) → IsByteUnit o → AllFound (ended unended o)
unfolding IsByteUnit ended
ended_small unended None h = tt
ended_small unended (Some unit) h = (λ pid. by pid unit.kind, tt)
  where
    by : (pid : ℕ) (kind : UnitKind) →
        IsSmall (section_by (Some pid) (Some (unit.packet, begun_kind kind unit.access unit.bytes)) (end_of unended unit.bytes kind (header_at unit.bytes)))
    by pid unit_kinds.Section = by_kind pid unit.packet unit_kinds.Section unit.access unit.bytes (IsTruncated unit.bytes) h (λ s. cut_calm unit.bytes)
    by pid unit_kinds.Pes = by_kind pid unit.packet unit_kinds.Pes unit.access unit.bytes _ h (λ s. absurd (let none : ⊥ = cc in none))

or_cut_small : (unit : OpenUnit) (o : Option WhatView) → Bytes unit.bytes → IsCalmIf o → AllFound (found_or_cut unit o)
unfolding found_or_cut IsCalmIf IsByteUnit
or_cut_small unit None h calm = cut_small (Some unit) h
or_cut_small unit (Some what) h calm = (about_small unit what h (λ s. calm), tt)

last_small : (bytes : List ℕ) (o : Option OpenUnit) → Bytes bytes → IsByteUnit o → AllFound (last_bytes bytes o)
unfolding last_bytes last_bytes_by IsByteUnit
last_small bytes None h k = tt
last_small bytes (Some unit) h k = by unit.kind
  where
    by : (kind : UnitKind) → AllFound (last_bytes_by bytes unit kind)
    by unit_kinds.Pes = ended_small false (Some unit) k
    by unit_kinds.Section =
        or_cut_small (appended unit bytes) (decided unit_kinds.Section (unit.bytes ++ bytes)) (All-append Byte unit.bytes bytes k h)
        (decided_calm (unit.bytes ++ bytes) (All-append Byte unit.bytes bytes k h))

sections_small : (packet k : ℕ) (bytes : List ℕ) → Bytes bytes → AllFound (sections_in packet k bytes)
unfolding sections_in IsCalmIf
sections_small packet k [] h = tt
sections_small packet (suc k) (b ∷ bytes) h = sections_small packet k bytes (All-tail Byte b bytes h)
sections_small packet zero (b ∷ bytes) h =
    by (λ k. sections_small packet k bytes (All-tail Byte b bytes h)) (b == 0xFF) (decided unit_kinds.Section (b ∷ bytes)) (decided_calm (b ∷ bytes) h)
  where
    by : ((k : ℕ) → AllFound (sections_in packet k bytes)) → (t : Bool) (o : Option WhatView) → IsCalmIf o → AllFound (cond t [] (elim o as (λ _. List Found) [
      | None ↦ []
      | Some what ↦ about_within (section packet (b ∷ bytes)) what ∷ sections_in packet (taken_by (b ∷ bytes) what - 1) bytes
    ]))
    by rest true o calm = tt
    by rest false None calm = tt
    by rest false (Some what) calm =
        (λ pid. by_kind pid packet unit_kinds.Section false (b ∷ bytes) what h (λ s. calm), rest (taken_by (b ∷ bytes) what - 1))

-- 3. The unit that is open after a packet

unfoldable IsByteList : Option (List ℕ) → Type 0
IsByteList None = Unit {0}
IsByteList (Some bytes) = Bytes bytes

last_in_bytes : (k : ℕ) (bytes : List ℕ) → Bytes bytes → IsByteList (last_in k bytes)
unfolding last_in IsByteList
last_in_bytes k [] h = tt
last_in_bytes (suc k) (b ∷ bytes) h = last_in_bytes k bytes (All-tail Byte b bytes h)
last_in_bytes zero (b ∷ bytes) h = by (λ k. last_in_bytes k bytes (All-tail Byte b bytes h)) (b == 0xFF) (decided unit_kinds.Section (b ∷ bytes))
  where
    by : ((k : ℕ) → IsByteList (last_in k bytes)) → (t : Bool) (o : Option WhatView) → IsByteList (cond t None (elim o as (λ _. Option (List ℕ)) [
      | None ↦ Some (b ∷ bytes)
      | Some what ↦ last_in (taken_by (b ∷ bytes) what - 1) bytes
    ]))
    by rest true o = tt
    by rest false None = h
    by rest false (Some what) = rest (taken_by (b ∷ bytes) what - 1)

unfoldable IsByteRole : Role → Type 0
IsByteRole NoPayload = Unit {0}
IsByteRole ScrambledPayload = Unit {0}
IsByteRole (PesStart access payload) = Bytes payload
IsByteRole (SectionStart before bytes) = Bytes before × Bytes bytes
IsByteRole PointerPastEnd = Unit {0}
IsByteRole (Continuation payload) = Bytes payload

undecided_bytes : (unit : OpenUnit) → Bytes unit.bytes → IsByteUnit (undecided unit)
unfolding undecided unless_decided IsByteUnit
undecided_bytes unit h = by (decided unit.kind unit.bytes)
  where
    by : (o : Option WhatView) → IsByteUnit (unless_decided unit o)
    by None = h
    by (Some what) = tt

section_open : (packet : ℕ) (o : Option (List ℕ)) → IsByteList o → IsByteUnit (option_map (section packet) o)
unfolding IsByteUnit IsByteList
section_open packet None h = tt
section_open packet (Some bytes) h = h

next_bytes : (packet : ℕ) (r : Role) (o : Option OpenUnit) → IsByteRole r → IsByteUnit o → IsByteUnit (next_open packet r o)
unfolding next_open IsByteRole IsByteUnit
next_bytes packet NoPayload o h k = k
next_bytes packet ScrambledPayload o h k = tt
next_bytes packet (PesStart access payload) o h k = undecided_bytes (record { packet = packet; kind = unit_kinds.Pes; access = access; bytes = payload }) h
next_bytes packet (SectionStart before bytes) o h k = section_open packet (last_in 0 bytes) (last_in_bytes 0 bytes h.1)
next_bytes packet PointerPastEnd o h k = tt
next_bytes packet (Continuation payload) None h k = tt
next_bytes packet (Continuation payload) (Some unit) h k = undecided_bytes (appended unit payload) (All-append Byte unit.bytes payload k h)

unbroken_bytes : (broken : Option (ℕ × ℕ)) (o : Option OpenUnit) → IsByteUnit o → IsByteUnit (unbroken broken o)
unfolding unbroken IsByteUnit
unbroken_bytes None o h = h
unbroken_bytes (Some b) o h = tt

-- 4. The findings at a packet

role_small : (packet : ℕ) (r : Role) (o : Option OpenUnit) → IsByteRole r → IsByteUnit o → AllFound (by_role packet r o)
unfolding by_role found_appended IsByteRole IsByteUnit
role_small packet NoPayload o h k = tt
role_small packet ScrambledPayload o h k = (plain_small IsScrambled, cut_small o k)
role_small packet (PesStart access payload) o h k =
    both (ended false o) _ (ended_small false o k)
    (within_small (record { packet = packet; kind = unit_kinds.Pes; access = access; bytes = payload }) unit_kinds.Pes refl h)
role_small packet (SectionStart before bytes) o h k =
    both (last_bytes before o) (sections_in packet 0 bytes) (last_small before o h.0 k) (sections_small packet 0 bytes h.1)
role_small packet PointerPastEnd o h k = (plain_small (IsBadSection refusals.Body), cut_small o k)
role_small packet (Continuation payload) None h k = stray_small (length payload) (length payload == 0)
role_small packet (Continuation payload) (Some unit) h k =
    let more : Bytes (unit.bytes ++ payload) = All-append Byte unit.bytes payload k h in
    found_if_small (appended unit payload) unit.kind refl (unit.bytes ++ payload) more more

break_small : (packet : ℕ) (broken : Option (ℕ × ℕ)) (r : Role) (o : Option OpenUnit) → IsByteRole r → IsByteUnit o → AllFound (by_break packet broken r o)
unfolding by_break IsByteUnit
break_small packet None r o h k = role_small packet r o h k
break_small packet (Some b) r o h k =
    (plain_small (BreaksCounter b.0 b.1), both (cut_short o) (by_role packet r None) (cut_small o k) (role_small packet r None h tt))

at_small : (m : Marked) (o : Option OpenUnit) → IsByteRole (role m) → IsByteUnit o → AllFound (found_at m o)
unfolding found_at
at_small m o h k = by m.duplicate
  where
    by : (t : Bool) → AllFound (cond t ((record { begun = None; what = IsDuplicate; within = false }) ∷ []) (by_break m.entry.index m.broken (role m) o))
    by true = (plain_small IsDuplicate, tt)
    by false = break_small m.entry.index m.broken (role m) o h k

-- 5. Packets of bytes

unfoldable IsBytePacket : Result PacketView PacketError → Type 0
IsBytePacket (Err error) = Unit {0}
IsBytePacket (Ok packet) = IsByteList packet.payload

pointed : (bytes : List ℕ) → Bytes bytes → IsByteRole (role_by_pointer bytes)
unfolding role_by_pointer IsByteRole
pointed [] k = tt
pointed (n ∷ bytes) k = over (nat_lt (length bytes) n)
  where
    rest : Bytes bytes
    rest = All-tail Byte n bytes k

    over : (t : Bool) → IsByteRole (cond t PointerPastEnd (SectionStart (take n bytes) (drop n bytes)))
    over true = tt
    over false = (All-take Byte n bytes rest, All-drop Byte n bytes rest)

started : (access : Bool) (payload : List ℕ) → Bytes payload → IsByteRole (role_of_start access payload)
unfolding IsByteRole
started access payload h = by (may_begin_pes payload)
  where
    by : (t : Bool) → IsByteRole (cond t (PesStart access payload) (role_by_pointer payload))
    by true = h
    by false = pointed payload h

by_start : (s : Start) (o : Option (List ℕ)) → IsByteList o → IsByteRole (role_by s o)
unfolding role_by IsByteRole IsByteList
by_start Continues None h = tt
by_start Begins None h = tt
by_start Access None h = tt
by_start Continues (Some payload) h = h
by_start Begins (Some payload) h = started false payload h
by_start Access (Some payload) h = started true payload h

role_bytes : (last : Option LastView) (entry : Entry) → IsByteList entry.packet.payload → IsByteRole (role (mark last entry))
unfolding role mark role_of IsByteRole
role_bytes last entry h = by (is_repeat last entry) (entry.packet.header.transport_scrambling_control == 0)
  where
    by : (t z : Bool) → IsByteRole (cond t NoPayload (cond z (role_by (start_in entry.packet) entry.packet.payload) ScrambledPayload))
    by true z = tt
    by false true = by_start (start_in entry.packet) entry.packet.payload h
    by false false = tt

unfoldable IsByteField : Result (AdaptationView × List ℕ) PacketError → Type 0
IsByteField (Err error) = Unit {0}
IsByteField (Ok field) = Bytes field.1

field_bytes : (most : ℕ) (bytes : List ℕ) → Bytes bytes → IsByteField (field_at most bytes)
unfolding field_at IsByteField
field_bytes most [] h = tt
field_bytes most (n ∷ bytes) h = by (nat_lt most n) (adaptation_at (take n bytes))
  where
    by : (t : Bool) (r : Result AdaptationView PacketError) →
        IsByteField (cond t (Err packet_errors.FieldTooLong) (r >>= (λ adaptation. Ok (adaptation, drop n bytes))))
    by true r = tt
    by false (Err error) = tt
    by false (Ok adaptation) = All-drop Byte n bytes (All-tail Byte n bytes h)

body_bytes : (header : Header) (control : ℕ) (bytes : List ℕ) → Bytes bytes → IsBytePacket (body_at header control bytes)
unfolding body_at IsBytePacket IsByteList IsByteField
body_bytes header control bytes h = by (control == 0) (control == 1) (control == 2) (field_at 183 bytes) (field_at 182 bytes) (field_bytes 182 bytes h)
  where
    by : (a b c : Bool) (x y : Result (AdaptationView × List ℕ) PacketError) → IsByteField y →
        IsBytePacket (cond a (Err packet_errors.ReservedControl)
        (cond b (Ok (record { header = header; adaptation = None; payload = Some bytes }))
        (cond c (x >>= (λ field. Ok (record { header = header; adaptation = Some field.0; payload = None })))
        (y >>= (λ field. Ok (record { header = header; adaptation = Some field.0; payload = Some field.1 }))))))
    by true b c x y k = tt
    by false true c x y k = h
    by false false true (Err error) y k = tt
    by false false true (Ok field) y k = tt
    by false false false x (Err error) k = tt
    by false false false x (Ok field) k = k

packet_bytes : (bytes : List ℕ) → Bytes bytes → IsBytePacket (packet_at bytes)
unfolding packet_at IsBytePacket
packet_bytes bytes h = by (slice_index bytes 0 == 0x47)
  where
    by : (t : Bool) → IsBytePacket (cond t (body_at (header_of bytes) (slice_index bytes 3 / 16 % 4) (drop 4 bytes)) (Err packet_errors.Sync))
    by true = body_bytes (header_of bytes) (slice_index bytes 3 / 16 % 4) (drop 4 bytes) (All-drop Byte 4 bytes h)
    by false = tt

-- 6. All packets

AreByteStates : States → Type 0
AreByteStates states = (pid : ℕ) → IsByteUnit (state_of pid states).open_unit

step_bytes : (s : PidState) (entry : Entry) → IsByteUnit s.open_unit → IsByteList entry.packet.payload → IsByteUnit (step s entry).open_unit
unfolding step_marked
step_bytes s entry h k =
    let m : Marked = mark s.last entry in
    next_bytes m.entry.index (role m) (unbroken m.broken s.open_unit) (role_bytes s.last entry k) (unbroken_bytes m.broken s.open_unit h)

by_small : (s : PidState) (entry : Entry) → IsByteUnit s.open_unit → IsByteList entry.packet.payload → AllFound (found_by s entry)
by_small s entry h k = at_small (mark s.last entry) s.open_unit (role_bytes s.last entry k) h

reported_small : (q index : ℕ) (found : List Found) → AllFound found → AllSmall (map (with_pid q index) found)
unfolding AllSmall
reported_small q index [] h = tt
reported_small q index (f ∷ found) h = (h.0 q, reported_small q index found h.1)

packet_small : (index : ℕ) (bytes : List ℕ) (states : States) (r : Result PacketView PacketError) → AreByteStates states → IsBytePacket r →
    AllSmall (findings_by index bytes states r)
unfolding findings_by AllSmall section_by IsSmall IsBytePacket AreByteStates
packet_small index bytes states (Err error) h k = (tt, tt)
packet_small index bytes states (Ok packet) h k = by packet.header.transport_error_indicator (packet.header.pid == 8191)
  where
    wrong : FindingView
    wrong = record { packet = index; pid = None; begun = None; what = IsErrored }

    by : (e z : Bool) → AllSmall (cond e (wrong ∷ []) (cond z []
        (map (with_pid packet.header.pid index) (found_by (state_of packet.header.pid states) (entry_of index bytes packet)))))
    by true z = (tt, tt)
    by false true = tt
    by false false =
        reported_small packet.header.pid index _ (by_small (state_of packet.header.pid states) (entry_of index bytes packet) (h packet.header.pid) k)

states_bytes : (index : ℕ) (bytes : List ℕ) (states : States) (r : Result PacketView PacketError) → AreByteStates states → IsBytePacket r →
    AreByteStates (states_by index bytes states r)
unfolding states_by IsBytePacket AreByteStates
states_bytes index bytes states (Err error) h k = h
states_bytes index bytes states (Ok packet) h k = by packet.header.transport_error_indicator (packet.header.pid == 8191)
  where
    q : ℕ
    q = packet.header.pid

    next : PidState
    next = step (state_of q states) (entry_of index bytes packet)

    which : (pid : ℕ) (t : Bool) → IsByteUnit (cond t next (state_of pid states)).open_unit
    which pid true = step_bytes (state_of q states) (entry_of index bytes packet) (h q) k
    which pid false = h pid

    of : (pid : ℕ) (t : Bool) → (q == pid) ≡ t → IsByteUnit (state_of pid (with_state q next states)).open_unit
    of pid t e = subst (λ (s : PidState). IsByteUnit s.open_unit) (sym (state_kept pid q next states t e)) (which pid t)

    by : (e z : Bool) → AreByteStates (cond e states (cond z states (with_state q next states)))
    by true z = h
    by false true = h
    by false false = λ pid. of pid (q == pid) refl

AllBytes : List (List ℕ) → Type 0
AllBytes [] = Unit {0}
AllBytes (bytes ∷ packets) = Bytes bytes × AllBytes packets

-- The findings in packets, one after another
unfoldable pub AllSmallIn : StreamState → List (List ℕ) → Type 0
AllSmallIn s [] = Unit {0}
AllSmallIn s (bytes ∷ packets) = AllSmall (found_in s bytes) × AllSmallIn (taken s bytes) packets

all_small : (s : StreamState) (packets : List (List ℕ)) → AreByteStates s.states → AllBytes packets → AllSmallIn s packets
unfolding AllSmallIn AllBytes found_in taken
all_small s [] h k = tt
all_small s (bytes ∷ packets) h k =
    let p = packet_bytes bytes k.0 in (
      packet_small s.packets bytes s.states (packet_at bytes) h p,
      all_small (taken s bytes) packets (states_bytes s.packets bytes s.states (packet_at bytes) h p) k.1,
    )

chunks_bytes : (k : ℕ) (bytes : List ℕ) → Bytes bytes → AllBytes (first_chunks 188 k bytes)
unfolding AllBytes
chunks_bytes zero bytes h = tt
chunks_bytes (suc k) bytes h = (All-take Byte 188 bytes h, chunks_bytes k (drop 188 bytes) (All-drop Byte 188 bytes h))

pub small_sections : (bytes : List ℕ) → Bytes bytes → AllSmallIn start (cut_packets bytes)
unfolding AreByteStates IsByteUnit
small_sections bytes h = all_small start (cut_packets bytes) (λ pid. tt) (chunks_bytes (length bytes / 188) bytes h)
