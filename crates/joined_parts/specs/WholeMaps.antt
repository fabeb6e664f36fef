-- A recording that was joined from several with the tables and the clock of one: each map names the streams of all maps of its program, and the clock
-- references of a program have the PID that its last map names.
use Rattle.std.specs.Prelude.{ℕ, ◌+◌, ◌==◌, ◌&&◌, nat_eq, nat_lt, nat_le, Bool, if◌then◌else◌, Option, Some, None, List, length, map}
use Rattle.std.specs.List.{list_all}
use Rattle.std.specs.Map.{lookup}
use Rattle.psi_tables.specs.Encoding.{section_bytes}
use Rattle.psi_tables.specs.ProgramMap.{PmtView, StreamView, pmt_body, pmt_section}
use Rattle.psi_tables.specs.declared.section.LongHeader.{LongHeader}
use Rattle.pid_findings.specs.Views.{FindingView, WhatView, IsSection}
use Rattle.program_tables.specs.MapPlaces.{program_found}
use Rattle.program_tables.specs.ProgramMaps.{any_map}
use Rattle.packet_pcr.specs.declared.pcr_reading.FoundPcr.{FoundPcr}
use Rattle.joined_parts.specs.MapStreams.{KnownMapView, MapsView, all_streams, clocked_if, is_named, known_if, maps_in}

-- 1. Maps

-- a map names all of these streams, by PID
unfoldable pub names_all : List StreamView → List StreamView → Bool
names_all named streams = list_all (λ s. is_named named s.elementary_pid) streams

-- its numbers have room, and so have its descriptors and streams in one section
abbrev pub is_writable : PmtView → Bool
is_writable m = nat_lt m.header.version_number 32 && (nat_lt m.pcr_pid 8192 && nat_le (9 + length (pmt_body m)) 1021)

unfoldable pub written_map : PmtView → Option (List ℕ)
written_map m = if is_writable m then Some (section_bytes (pmt_section m)) else None

abbrev pub map_with : LongHeader → ℕ → List ℕ → List StreamView → PmtView
map_with header pcr_pid program_info streams = record { header = header; pcr_pid = pcr_pid; program_info = program_info; streams = streams }

abbrev pub section_with : LongHeader → ℕ → List ℕ → List StreamView → Option (List ℕ)
section_with header pcr_pid program_info streams = written_map (map_with header pcr_pid program_info streams)

-- the section of a map with the streams that it does not name after its own
abbrev pub whole_bytes : PmtView → List StreamView → Option (List ℕ)
whole_bytes m streams = section_with m.header m.pcr_pid m.program_info (all_streams m.streams streams)

-- the section of a map with the streams of all maps of its program, unless it names them all
unfoldable pub whole_section : Option PmtView → Option KnownMapView → Option (List ℕ)
whole_section None known = None
whole_section (Some m) None = None
whole_section (Some m) (Some k) = if names_all m.streams k.streams then None else whole_bytes m k.streams

unfoldable pub with_section : Option (List ℕ) → WhatView → WhatView
with_section None what = what
with_section (Some bytes) what = IsSection bytes

abbrev pub with_whole_map : MapsView → FindingView → FindingView
with_whole_map maps f = record {
  packet = f.packet;
  pid = f.pid;
  begun = f.begun;
  what = with_section (whole_section (any_map f) (known_if maps (program_found f))) f.what;
}

abbrev pub whole_maps : List FindingView → List FindingView
whole_maps findings = map (with_whole_map (maps_in findings)) findings

-- 2. Clock references

-- the PID of a program's references, if it has them (2.4.4.9)
unfoldable pub clock_with : ℕ → Option KnownMapView → ℕ
clock_with pid None = pid
clock_with pid (Some k) = if k.pcr_pid == 8191 then pid else k.pcr_pid

abbrev pub with_clock : MapsView → FoundPcr → FoundPcr
with_clock maps r = record {
  packet = r.packet;
  pid = clock_with r.pid (clocked_if maps (lookup (nat_eq r.pid) maps.clocks));
  base = r.base;
  discontinuity = r.discontinuity;
}

abbrev pub one_clock : List FindingView → List FoundPcr → List FoundPcr
one_clock findings references = map (with_clock (maps_in findings)) references
