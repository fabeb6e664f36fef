-- The packets at which recurring things begin: sections, PES packets with a PTS, and clock references.
use Rattle.std.specs.Prelude.{ℕ, ◌/◌, ◌==◌, true, false, if◌then◌else◌, List, [], length, map, filter, Option, Some, None}
use Rattle.std.specs.List.{filter_map}
use Rattle.ts_packet.specs.PcrBytes.{has_pcr}
use Rattle.ts_packet.specs.PidList.{Entry, pid_list}
use Rattle.pid_findings.specs.declared.finding.Kind.{Kind}
use Rattle.pid_findings.specs.declared.finding.Kind.TheVariants.{Table, Pes}
use Rattle.pid_findings.specs.Views.{PidFinding}
use Rattle.pid_findings.specs.Findings.{findings_to_end}

-- the findings of a PID in a stream, to its end; null packets have no findings
abbrev pub found_on : ℕ → List ℕ → List PidFinding
found_on pid bytes = if pid == 8191 then [] else findings_to_end (length bytes / 188) (pid_list pid bytes)

-- the packet at which a section of a table_id begins
unfoldable pub table_begin : ℕ → Option (ℕ × Kind) → Option ℕ
table_begin table_id None = None
table_begin table_id (Some (packet, Table other)) = if other == table_id then Some packet else None
table_begin table_id (Some (packet, Pes stamped access)) = None

-- the packet at which a PES packet begins whose header has a PTS
unfoldable pub pts_begin : Option (ℕ × Kind) → Option ℕ
pts_begin None = None
pts_begin (Some (packet, Table table_id)) = None
pts_begin (Some (packet, Pes true access)) = Some packet
pts_begin (Some (packet, Pes false access)) = None

abbrev pub table_begins : ℕ → List PidFinding → List ℕ
table_begins table_id found = filter_map (λ at. table_begin table_id at.found.begun) found

abbrev pub pts_begins : List PidFinding → List ℕ
pts_begins found = filter_map (λ at. pts_begin at.found.begun) found

-- the packets with a program_clock_reference
abbrev pub pcr_places : List Entry → List ℕ
pcr_places entries = map (λ entry. entry.index) (filter (λ entry. has_pcr entry.packet.adaptation) entries)
