-- The lines of findings: words and decimal numbers with one space between, and LF.
use Rattle.std.specs.Prelude.{ℕ, Bool, true, false, List, [], ◌++◌, length, slice_index, Option, Some, None, if◌then◌else◌, codes, decimal}
use Rattle.std.specs.List.{flat_map, list_any}
use Rattle.pes_packet.specs.declared.time_stamps.Stamps.{Stamps}
use Rattle.pes_packet.specs.declared.time_stamps.Stamps.TheVariants.{Absent, Pts, PtsDts}
use Rattle.pes_packet.specs.declared.reading.PesHeader.{PesHeader}
use Rattle.pes_packet.specs.Codes.{code_of as pes_code}
use Rattle.psi_tables.specs.Codes.{code_of as section_code}
use Rattle.ts_packet.specs.Codes.{code_of as packet_code}
use Rattle.pid_findings.specs.Views.{WhatView, IsDuplicate, BreaksCounter, IsScrambled, IsTruncated, IsSection, IsBadSection, IsPes, IsBadPes, IsBadPacket}
use Rattle.pid_findings.specs.Views.{IsErrored}
use Rattle.pid_findings.specs.Views.{IsStray}
use Rattle.pid_findings.specs.Views.{FindingView}

-- `I pid P`, or `I` if the packet has no PID
abbrev pub place_text : ℕ → Option ℕ → List ℕ
place_text packet None = decimal packet
place_text packet (Some pid) = decimal packet ++ codes " pid " ++ decimal pid

-- a time stamp, or `-`
abbrev pub stamp_text : Option ℕ → List ℕ
stamp_text None = codes "-"
stamp_text (Some stamp) = decimal stamp

abbrev pub pts_of : Stamps → Option ℕ
pts_of Absent = None
pts_of (Pts pts) = Some pts
pts_of (PtsDts pts dts) = Some pts

abbrev pub dts_of : Stamps → Option ℕ
dts_of Absent = None
dts_of (Pts pts) = None
dts_of (PtsDts pts dts) = Some dts

-- `pes ID pts X dts Y size N`, N the bytes after the header; ` open` if the stream ended before its end was known
abbrev pub pes_text : PesHeader → Bool → ℕ → List ℕ
pes_text header unended size = codes " pes " ++ decimal header.id ++ codes " pts " ++ stamp_text (pts_of header.stamps)
    ++ codes " dts " ++ stamp_text (dts_of header.stamps) ++ codes " size " ++ decimal size ++ (if unended then codes " open" else [])

abbrev pub section_text : ℕ → ℕ → List ℕ
section_text table_id size = codes " section " ++ decimal table_id ++ codes " size " ++ decimal size

-- the text of a finding, after its place
unfoldable pub what_text : WhatView → List ℕ
what_text IsDuplicate = codes " duplicate"
what_text (BreaksCounter expected found) = codes " counter " ++ decimal expected ++ codes " " ++ decimal found
what_text IsScrambled = codes " scrambled"
what_text (IsTruncated bytes) = codes " truncated " ++ decimal (length bytes)
what_text (IsSection bytes) = section_text (slice_index bytes 0) (length bytes)
what_text (IsBadSection error) = codes " bad-section " ++ decimal (section_code error)
what_text (IsPes header unended bytes) = pes_text header unended (length bytes)
what_text (IsBadPes error) = codes " bad-pes " ++ decimal (pes_code error)
what_text (IsBadPacket error) = codes " bad-packet " ++ decimal (packet_code error)
what_text IsErrored = codes " errored"
what_text (IsStray size) = []

-- a finding's line
abbrev pub finding_line : FindingView → List ℕ
finding_line finding = place_text finding.packet finding.pid ++ what_text finding.what ++ codes "\n"

-- stray payload has none
unfoldable pub is_listed : WhatView → Bool
is_listed (IsStray size) = false
is_listed _ = true

abbrev pub listed_line : FindingView → List ℕ
listed_line finding = if is_listed finding.what then finding_line finding else []

abbrev pub finding_lines : List FindingView → List ℕ
finding_lines found = flat_map listed_line found

-- a finding that is a fault: any but PES packets, sections, duplicates, scrambled packets and stray payload
unfoldable pub is_fault : WhatView → Bool
is_fault IsDuplicate = false
is_fault IsScrambled = false
is_fault (IsSection bytes) = false
is_fault (IsPes header unended bytes) = false
is_fault (IsStray size) = false
is_fault _ = true

abbrev pub has_fault : List FindingView → Bool
has_fault found = list_any (λ finding. is_fault finding.what) found
