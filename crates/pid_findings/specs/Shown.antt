-- What the program's values say, without where their bytes lie in memory.
use Rattle.std.specs.Prelude.{if◌then◌else◌, ◌&&◌, ◌≡◌, ℕ, ◌-◌, List, ◌∷◌, ◌++◌, [], map, take, drop, false, true, Bool, Option, Some, None, option_map}
use Rattle.std.specs.List.{list_any}
use Rattle.pid_findings.specs.declared.finding.Part.{Part}
use Rattle.pid_findings.specs.declared.finding.Part.TheVariants.{Span, Joined}
use Rattle.pid_findings.specs.declared.finding.What.{What}
use Rattle.pid_findings.specs.declared.finding.What.TheVariants.{Duplicate, CounterBreak, Scrambled, Truncated, Section, BadSection, Pes, BadPes, BadPacket}
use Rattle.pid_findings.specs.declared.finding.What.TheVariants.{Errored}
use Rattle.pid_findings.specs.declared.finding.What.TheVariants.{Stray}
use Rattle.pid_findings.specs.declared.finding.Finding.{Finding}
use Rattle.pid_findings.specs.declared.payload_bytes.PayloadBytes.{PayloadBytes}
use Rattle.pid_findings.specs.declared.payload_bytes.PayloadBytes.TheVariants.{Borrowed, Copied}
use Rattle.pid_findings.specs.declared.verdicts.Verdict.{Verdict}
use Rattle.pid_findings.specs.declared.verdicts.Verdict.TheVariants as verdicts
use Rattle.pid_findings.specs.declared.place.Place.{Place}
use Rattle.ts_packet.specs.declared.packet.Packet.{Packet}
use Rattle.ts_packet.specs.Views.{packet_view, bytes_view}
use Rattle.ts_packet.specs.PidList.{Entry}
use Rattle.pid_findings.specs.declared.marks.Mark.{Mark}
use Rattle.pid_findings.specs.declared.marks.Mark.TheVariants as marked_as
use Rattle.pid_findings.specs.declared.roles.PayloadRole.{PayloadRole}
use Rattle.pid_findings.specs.declared.roles.PayloadRole.TheVariants as payload_roles
use Rattle.pid_findings.specs.Roles.{Role, NoPayload, ScrambledPayload, PesStart, SectionStart, PointerPastEnd, Continuation}
use Rattle.pid_findings.specs.OpenUnits.{OpenUnit, plain}
use Rattle.pid_findings.specs.Findings.{by_break}
use Rattle.pid_findings.specs.Roles.{role_divides}
use Rattle.pid_findings.specs.Views.{WhatView, IsDuplicate, BreaksCounter, IsScrambled, IsTruncated, IsSection, IsBadSection, IsPes, IsBadPes, IsBadPacket}
use Rattle.pid_findings.specs.Views.{IsErrored}
use Rattle.pid_findings.specs.Views.{IsStray}
use Rattle.pid_findings.specs.Views.{Found, FindingView}

-- the bytes of a finding
abbrev pub part_bytes : {A : Type 0} → Part A → List ℕ
part_bytes (Span bytes) = bytes.now
part_bytes (Joined bytes) = bytes.items

-- the content of a finding
abbrev pub what_view : {A : Type 0} → What A → WhatView
what_view Duplicate = IsDuplicate
what_view (CounterBreak expected found) = BreaksCounter expected found
what_view Scrambled = IsScrambled
what_view (Truncated part) = IsTruncated (part_bytes part)
what_view (Section part) = IsSection (part_bytes part)
what_view (BadSection error) = IsBadSection error
what_view (Pes header unended body) = IsPes header unended (part_bytes body)
what_view (BadPes error) = IsBadPes error
what_view (BadPacket error) = IsBadPacket error
what_view Errored = IsErrored
what_view (Stray size) = IsStray size

-- the bytes are a slice of the packet
abbrev pub part_is_span : {A : Type 0} → Part A → Bool
part_is_span (Span bytes) = true
part_is_span (Joined bytes) = false

abbrev pub has_span : {A : Type 0} → What A → Bool
has_span Duplicate = false
has_span (CounterBreak expected found) = false
has_span Scrambled = false
has_span (Truncated part) = part_is_span part
has_span (Section part) = part_is_span part
has_span (BadSection error) = false
has_span (Pes header unended body) = part_is_span body
has_span (BadPes error) = false
has_span (BadPacket error) = false
has_span Errored = false
has_span (Stray size) = false

abbrev pub is_span : {A : Type 0} → Finding A → Bool
is_span finding = has_span finding.what

abbrev pub finding_view : {A : Type 0} → Finding A → FindingView
finding_view finding = record { packet = finding.packet; pid = finding.pid; begun = finding.begun; what = what_view finding.what }

-- a finding of a PID at a packet
abbrev pub with_pid : ℕ → ℕ → Found → FindingView
with_pid pid packet found = record { packet = packet; pid = Some pid; begun = found.begun; what = found.what }

-- a finding as it is given: its content, and whether its bytes are a slice of the packet
pub record GivenView : Type 0 where
  pub finding : FindingView
  pub span : Bool

abbrev pub given_view : {A : Type 0} → Finding A → GivenView
given_view finding = record { finding = finding_view finding; span = is_span finding }

-- a finding at a place: if findings borrow the packet's bytes, a unit that lies whole in it is a slice of it
abbrev pub given : Place → Found → GivenView
given place found = record { finding = with_pid place.pid place.packet found; span = found.within && place.borrowed }

-- the earlier findings are followed by these findings at a place
abbrev pub Finds : {A : Type 0} → Place → List (Finding A) → List (Finding A) → List Found → Type 0
Finds place old new found = map given_view new ≡ map given_view old ++ map (given place) found

-- the earlier findings are followed by findings with these contents
abbrev pub AddsFindings : {A : Type 0} → List (Finding A) → List (Finding A) → List FindingView → Type 0
AddsFindings old new views = map finding_view new ≡ map finding_view old ++ views

-- for each new finding, whether its bytes are a slice of a packet
abbrev pub Spans : {A : Type 0} → List (Finding A) → List (Finding A) → List Bool → Type 0
Spans old new spans = map is_span new ≡ map is_span old ++ spans

-- the earlier findings are followed by findings at a place with these contents
abbrev pub AddsFindingsAt : {A : Type 0} → Place → List (Finding A) → List (Finding A) → List Found → Type 0
AddsFindingsAt place old new found = AddsFindings old new (map (with_pid place.pid place.packet) found)

-- the findings have the same contents as before
abbrev pub KeepsFindings : {A : Type 0} → List (Finding A) → List (Finding A) → Type 0
KeepsFindings old new = map given_view new ≡ map given_view old

-- if no finding's bytes were a slice of a packet, none are
abbrev pub KeepsJoined : {A : Type 0} → List (Finding A) → List (Finding A) → Type 0
KeepsJoined old new = list_any is_span old ≡ false → list_any is_span new ≡ false

-- findings borrow the bytes
abbrev pub is_borrowed : PayloadBytes → Bool
is_borrowed (Borrowed bytes) = true
is_borrowed (Copied bytes) = false

-- whether findings borrow a payload, if there is one
abbrev pub payload_borrowed : Bool → Option PayloadBytes → Bool
payload_borrowed otherwise None = otherwise
payload_borrowed otherwise (Some payload) = is_borrowed payload

-- bytes of a payload
abbrev pub payload_list : PayloadBytes → List ℕ
payload_list (Borrowed bytes) = bytes.now
payload_list (Copied bytes) = bytes.now

-- the payload of a packet as it is handed on: its bytes, and whether findings borrow them
abbrev pub IsPayloadOf : Packet → Bool → Option PayloadBytes → Type 0
IsPayloadOf packet borrowed payload = (option_map payload_list payload ≡ bytes_view packet.payload) × (payload_borrowed borrowed payload ≡ borrowed)

-- the content of a finding for bytes and the verdict on them
abbrev pub what_of : List ℕ → Verdict → WhatView
what_of bytes verdicts.TooLong = IsTruncated bytes
what_of bytes (verdicts.Pes header start end) = IsPes header false (take (end - start) (drop start bytes))
what_of bytes (verdicts.BadPes error) = IsBadPes error
what_of bytes (verdicts.Section size) = IsSection (take size bytes)
what_of bytes (verdicts.BadSection error) = IsBadSection error

-- the role of a packet's payload
abbrev pub role_view : PayloadRole → Role
role_view payload_roles.NoPayload = NoPayload
role_view payload_roles.Scrambled = ScrambledPayload
role_view (payload_roles.PesStart access payload) = PesStart access (payload_list payload)
role_view (payload_roles.SectionStart before payload) = SectionStart before.now (payload_list payload)
role_view payload_roles.PointerPastEnd = PointerPastEnd
role_view (payload_roles.Continuation payload) = Continuation payload.now

-- whether findings borrow the bytes that begin something, if there are any
abbrev pub role_borrowed : Bool → PayloadRole → Bool
role_borrowed otherwise (payload_roles.PesStart access payload) = is_borrowed payload
role_borrowed otherwise (payload_roles.SectionStart before payload) = is_borrowed payload
role_borrowed otherwise payload_roles.NoPayload = otherwise
role_borrowed otherwise payload_roles.Scrambled = otherwise
role_borrowed otherwise payload_roles.PointerPastEnd = otherwise
role_borrowed otherwise (payload_roles.Continuation payload) = otherwise

-- a packet that was read, with its index and its bytes
abbrev pub entry_with : ℕ → List ℕ → Packet → Entry
entry_with index bytes packet = record { index = index; bytes = bytes; packet = packet_view packet }

abbrev pub mark_duplicate : Mark → Bool
mark_duplicate marked_as.Duplicate = true
mark_duplicate marked_as.Follows = false
mark_duplicate (marked_as.Breaks expected found) = false

abbrev pub mark_broken : Mark → Option (ℕ × ℕ)
mark_broken marked_as.Duplicate = None
mark_broken marked_as.Follows = None
mark_broken (marked_as.Breaks expected found) = Some (expected, found)

-- the open unit at a packet that divides stretches; none if a break comes before
abbrev pub kept_by : Role → Option OpenUnit → Option OpenUnit
kept_by role open_unit = if role_divides role then open_unit else None

-- a duplicate is read no further
abbrev pub marked_role : Mark → Role → Role
marked_role mark role = if mark_duplicate mark then NoPayload else role

abbrev pub marked_findings : ℕ → Mark → Role → Option OpenUnit → List Found
marked_findings packet mark role open_unit = if mark_duplicate mark then plain IsDuplicate ∷ [] else by_break packet (mark_broken mark) role open_unit
