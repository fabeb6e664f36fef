-- The findings in a PID's packets: at each packet, a function of that packet and of the PID's packets before it.
use Rattle.std.specs.Prelude.{ℕ, ◌==◌, ◌||◌, Bool, true, false, if◌then◌else◌, List, [], ◌∷◌, ◌++◌, drop, map, reverse, Option, Some, None, is_some, option_map}
use Rattle.std.specs.Prelude.{◌+◌, ◌-◌, length, option_and_then, Result, Ok}
use Rattle.pes_packet.specs.Reading.{header_at}
use Rattle.pes_packet.specs.declared.reading.PesHeader.{PesHeader}
use Rattle.pes_packet.specs.declared.refusal.PesError.{PesError}
use Rattle.ts_packet.specs.PidList.{Entry}
use Rattle.psi_tables.specs.declared.error.SectionError.TheVariants as section_errors
use Rattle.pid_findings.specs.Views.{WhatView, IsDuplicate, BreaksCounter, IsScrambled, IsTruncated, IsBadSection, IsPes, IsStray, Found, PidFinding}
use Rattle.pid_findings.specs.Marks.{Marked, marked}
use Rattle.pid_findings.specs.Roles.{Role, NoPayload, ScrambledPayload, PesStart, SectionStart, PointerPastEnd, Continuation, role, role_divides}
use Rattle.pid_findings.specs.OpenUnits.{UnitKind, OpenUnit, decided, about, about_within, plain, appended, section, sections_in, last_in}
use Rattle.pid_findings.specs.declared.open_unit.UnitKind.TheVariants as unit_kinds

-- 1. Stretches. In these definitions a list of packets has the last one first.

-- a break, a scrambled packet or a start
unfoldable pub divides : Marked → Bool
divides m = is_some m.broken || role_divides (role m)

-- the payload that continues the open unit
abbrev pub continuing : Role → List ℕ
continuing (Continuation payload) = payload
continuing _ = []

-- the last packet that divides
unfoldable pub divider : List Marked → Option Marked
divider [] = None
divider (m ∷ before) = if divides m then Some m else divider before

-- the payloads after this packet, joined
unfoldable pub joined : List Marked → List ℕ
joined [] = []
joined (m ∷ before) = if divides m then [] else joined before ++ continuing (role m)

-- the unit that begins in a packet and does not end by its own bytes, with these bytes after them
unfoldable pub begins : ℕ → Role → List ℕ → Option OpenUnit
begins packet (PesStart access payload) more = Some (record { packet = packet; kind = unit_kinds.Pes; access = access; bytes = payload ++ more })
begins packet (SectionStart before bytes) more = option_map (λ rest. section packet (rest ++ more)) (last_in 0 bytes)
begins packet _ more = None

-- the unit that begins a stretch, with all its bytes
unfoldable pub stretch : List Marked → Option OpenUnit
stretch before = option_and_then (λ m. begins m.entry.index (role m) (joined before)) (divider before)

unfoldable pub unless_decided : OpenUnit → Option WhatView → Option OpenUnit
unless_decided unit None = Some unit
unless_decided unit (Some what) = None

unfoldable pub undecided : OpenUnit → Option OpenUnit
undecided unit = unless_decided unit (decided unit.kind unit.bytes)

-- the unit that is open after these packets: a section or a PES packet
unfoldable pub open_after : List Marked → Option OpenUnit
open_after before = option_and_then undecided (stretch before)

-- 2. The findings at a packet, with the unit that is open before it

-- the open unit is cut short
abbrev pub cut_short : Option OpenUnit → List Found
cut_short None = []
cut_short (Some unit) = about unit (IsTruncated unit.bytes) ∷ []

-- how a unit ends if nothing more follows: a PES packet without a length is whole
abbrev pub end_of : Bool → List ℕ → UnitKind → Result (PesHeader × ℕ) PesError → WhatView
end_of unended bytes unit_kinds.Pes (Ok h) = if h.0.len == 0 then IsPes h.0 unended (drop h.1 bytes) else IsTruncated bytes
end_of unended bytes _ _ = IsTruncated bytes

unfoldable pub ended : Bool → Option OpenUnit → List Found
ended unended None = []
ended unended (Some unit) = about unit (end_of unended unit.bytes unit.kind (header_at unit.bytes)) ∷ []

-- bytes that belong to no unit, if there are any
abbrev pub stray_bytes : ℕ → List Found
stray_bytes size = if size == 0 then [] else plain (IsStray size) ∷ []

abbrev pub stray : List ℕ → List Found
stray payload = stray_bytes (length payload)

-- how many of these bytes are past the end of a PES packet: PES_packet_length is the number of the packet's bytes after this field (2.4.3.7)
abbrev pub past_end : ℕ → WhatView → ℕ
past_end size (IsPes header unended body) = size - (6 + header.len)
past_end size _ = 0

-- a PES packet may end inside a payload: the rest of this payload belongs to no PES packet
unfoldable pub found_if : OpenUnit → Option WhatView → List Found
found_if unit None = []
found_if unit (Some what) = about unit what ∷ stray_bytes (past_end (length unit.bytes) what)

-- the findings that the bytes of a unit decide
abbrev pub decided_by : OpenUnit → List Found
decided_by unit = found_if unit (decided unit.kind unit.bytes)

-- the same in the packet in which the unit begins
unfoldable pub found_within : OpenUnit → Option WhatView → List Found
found_within unit None = []
found_within unit (Some what) = about_within unit what ∷ stray_bytes (past_end (length unit.bytes) what)

abbrev pub decided_within : OpenUnit → List Found
decided_within unit = found_within unit (decided unit.kind unit.bytes)

unfoldable pub found_or_cut : OpenUnit → Option WhatView → List Found
found_or_cut unit None = cut_short (Some unit)
found_or_cut unit (Some what) = about unit what ∷ []

-- the bytes before the place to which pointer_field points are the last bytes of an open section, and no bytes of an open PES packet
unfoldable pub last_bytes_by : List ℕ → OpenUnit → UnitKind → List Found
last_bytes_by bytes unit unit_kinds.Pes = ended false (Some unit)
last_bytes_by bytes unit unit_kinds.Section = found_or_cut (appended unit bytes) (decided unit_kinds.Section (unit.bytes ++ bytes))

unfoldable pub last_bytes : List ℕ → Option OpenUnit → List Found
last_bytes bytes None = []
last_bytes bytes (Some unit) = last_bytes_by bytes unit unit.kind

-- a payload that continues the open unit; if no unit is open, the payload is stray
unfoldable pub found_appended : List ℕ → Option OpenUnit → List Found
found_appended payload None = stray payload
found_appended payload (Some unit) = decided_by (appended unit payload)

unfoldable pub by_role : ℕ → Role → Option OpenUnit → List Found
by_role packet NoPayload open_unit = []
by_role packet ScrambledPayload open_unit = plain IsScrambled ∷ cut_short open_unit
by_role packet (PesStart access payload) open_unit =
    ended false open_unit ++ decided_within (record { packet = packet; kind = unit_kinds.Pes; access = access; bytes = payload })
by_role packet (SectionStart before bytes) open_unit = last_bytes before open_unit ++ sections_in packet 0 bytes
by_role packet PointerPastEnd open_unit = plain (IsBadSection section_errors.Body) ∷ cut_short open_unit
by_role packet (Continuation payload) open_unit = found_appended payload open_unit

-- a break cuts short the open unit
unfoldable pub by_break : ℕ → Option (ℕ × ℕ) → Role → Option OpenUnit → List Found
by_break packet None role open_unit = by_role packet role open_unit
by_break packet (Some b) role open_unit = plain (BreaksCounter b.0 b.1) ∷ cut_short open_unit ++ by_role packet role None

unfoldable pub found_at : Marked → Option OpenUnit → List Found
found_at m open_unit = if m.duplicate then plain IsDuplicate ∷ [] else by_break m.entry.index m.broken (role m) open_unit

-- 3. The findings of a PID

abbrev pub at_packet : ℕ → Found → PidFinding
at_packet packet found = record { packet = packet; found = found }

-- the findings at packets that come after `before` (its last packet first)
unfoldable pub findings_after : List Marked → List Marked → List PidFinding
findings_after before [] = []
findings_after before (m ∷ ms) = map (at_packet m.entry.index) (found_at m (open_after before)) ++ findings_after (m ∷ before) ms

-- the findings of a PID's packets
abbrev pub findings : List Entry → List PidFinding
findings entries = findings_after [] (marked None entries)

-- the findings of a PID's packets and of the end of the stream, after this number of whole packets
abbrev pub findings_to_end : ℕ → List Entry → List PidFinding
findings_to_end count entries = findings entries ++ map (at_packet count) (ended true (open_after (reverse (marked None entries))))
