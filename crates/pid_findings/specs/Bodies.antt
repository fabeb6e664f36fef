-- The state of a PID that keeps only the headers of open PES packets, and the number of bytes of each body. Zeros in the same number take the place of a
-- body.
use Rattle.std.specs.Prelude.{◌≡◌, ◌≤◌, ℕ, List, ◌++◌, length, take, drop, map, replicate, None, option_map, Result, Ok, Err}
use Rattle.bit_fields.specs.Fields.{IsBytes}
use Rattle.ts_packet.specs.PidList.{Entry}
use Rattle.pes_packet.specs.Reading.{header_at}
use Rattle.pes_packet.specs.declared.reading.PesHeader.{PesHeader}
use Rattle.pes_packet.specs.declared.refusal.PesError.{PesError}
use Rattle.pid_findings.specs.Views.{WhatView, IsDuplicate, BreaksCounter, IsScrambled, IsTruncated, IsSection, IsBadSection, IsPes, IsBadPes, IsBadPacket}
use Rattle.pid_findings.specs.Views.{IsErrored}
use Rattle.pid_findings.specs.Views.{IsStray}
use Rattle.pid_findings.specs.Views.{Found, FindingView}
use Rattle.pid_findings.specs.OpenUnits.{UnitKind, OpenUnit, decided}
use Rattle.pid_findings.specs.declared.open_unit.UnitKind.TheVariants as unit_kinds
use Rattle.pid_findings.specs.Machine.{PidState, step, found_by}

-- zeros in place of bytes, in the same number
abbrev pub left_out : List ℕ → List ℕ
left_out bytes = replicate (length bytes) 0

-- 1. Findings

-- a finding's content without the body of a PES packet, and without the bytes of a unit that was cut short
abbrev pub without_body : WhatView → WhatView
without_body (IsPes header unended body) = IsPes header unended (left_out body)
without_body (IsTruncated bytes) = IsTruncated (left_out bytes)
without_body IsDuplicate = IsDuplicate
without_body (BreaksCounter expected found) = BreaksCounter expected found
without_body IsScrambled = IsScrambled
without_body (IsSection bytes) = IsSection bytes
without_body (IsBadSection error) = IsBadSection error
without_body (IsBadPes error) = IsBadPes error
without_body (IsBadPacket error) = IsBadPacket error
without_body IsErrored = IsErrored
without_body (IsStray size) = IsStray size

abbrev pub found_without_body : Found → Found
found_without_body found = record found { what = without_body found.what }

abbrev pub finding_without_body : FindingView → FindingView
finding_without_body finding = record finding { what = without_body finding.what }

abbrev pub all_without_body : List FindingView → List FindingView
all_without_body found = map finding_without_body found

-- 2. The state

-- the header bytes among the bytes of a PES packet, once its header is read
unfoldable pub header_bytes : List ℕ → Result (PesHeader × ℕ) PesError → List ℕ
header_bytes bytes (Ok h) = take h.1 bytes
header_bytes bytes (Err e) = bytes

-- the bytes of an open unit that are kept: of a PES packet the header, of a section all
abbrev pub kept_bytes : UnitKind → List ℕ → List ℕ
kept_bytes unit_kinds.Pes bytes = header_bytes bytes (header_at bytes)
kept_bytes unit_kinds.Section bytes = bytes

-- the unit's bytes, with zeros in place of the body
unfoldable pub bodiless : List ℕ → Result (PesHeader × ℕ) PesError → List ℕ
bodiless bytes (Ok h) = take h.1 bytes ++ left_out (drop h.1 bytes)
bodiless bytes (Err e) = bytes

unfoldable pub bytes_without_body : UnitKind → List ℕ → List ℕ
bytes_without_body unit_kinds.Pes bytes = bodiless bytes (header_at bytes)
bytes_without_body unit_kinds.Section bytes = bytes

abbrev pub unit_without_body : OpenUnit → OpenUnit
unit_without_body unit = record unit { bytes = bytes_without_body unit.kind unit.bytes }

abbrev pub state_without_body : PidState → PidState
state_without_body s = record s { open_unit = option_map unit_without_body s.open_unit }

-- 3. What the laws say

-- for one PID: the bytes left out change nothing that is found or kept later, except bodies
abbrev pub BodiesDecideNothing : Type 0
BodiesDecideNothing = (s : PidState) (entry : Entry) →
    (map found_without_body (found_by (state_without_body s) entry) ≡ map found_without_body (found_by s entry))
    × (state_without_body (step (state_without_body s) entry) ≡ state_without_body (step s entry))

-- the most bytes that are kept of an open unit: a section that is not whole has at most 4,098 bytes (section_length has 12 bits, 2.4.4.1), a PES
-- header has at most 264 (PES_header_data_length has 8 bits, 2.4.3.6)
abbrev pub most_kept : ℕ
most_kept = 4098

abbrev pub FewAreKept : Type 0
FewAreKept = (unit : OpenUnit) → IsBytes unit.bytes → decided unit.kind unit.bytes ≡ None → length (kept_bytes unit.kind unit.bytes) ≤ most_kept
