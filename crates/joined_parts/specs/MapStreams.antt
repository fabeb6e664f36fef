-- The streams of the maps of a recording that was joined from several: its map names the streams that any map of its program names (ISO/IEC 13818-1,
-- 2.4.4.8).
use Rattle.std.specs.Prelude.{ℕ, ◌+◌, ◌==◌, ◌&&◌, nat_eq, nat_lt, nat_le, Bool, if◌then◌else◌, Option, Some, None, List, [], ◌∷◌, ◌++◌, length}
use Rattle.std.specs.List.{list_any}
use Rattle.std.specs.Map.{lookup}
use Rattle.indexmap.specs.IndexMap.{insert_entry}
use Rattle.psi_tables.specs.ProgramMap.{PmtView, StreamView, streams_bytes}
use Rattle.psi_tables.specs.declared.pat.programs.Program.{Program}
use Rattle.pid_findings.specs.Views.{FindingView}
use Rattle.program_tables.specs.MapPlaces.{map_key, program_found}
use Rattle.program_tables.specs.ProgramMaps.{any_map}

-- 1. The streams of a map, and the streams of the maps before it that it does not name

unfoldable pub is_named : List StreamView → ℕ → Bool
is_named streams pid = list_any (λ s. s.elementary_pid == pid) streams

-- a loop has at most 1,012 bytes
unfoldable pub has_room : List StreamView → StreamView → Bool
has_room streams s = nat_lt s.elementary_pid 8192 && nat_le (length (streams_bytes streams) + 5 + length s.descriptors) 1012

unfoldable pub with_stream : List StreamView → StreamView → List StreamView
with_stream streams s = if has_room streams s then streams ++ s ∷ [] else streams

unfoldable pub with_streams : List StreamView → List StreamView → List StreamView
with_streams streams [] = streams
with_streams streams (s ∷ ss) = with_streams (with_stream streams s) ss

-- with another stream, unless these name its PID
unfoldable pub with_other : List StreamView → List StreamView → StreamView → List StreamView
with_other named streams s = if is_named named s.elementary_pid then streams else with_stream streams s

unfoldable pub with_others : List StreamView → List StreamView → List StreamView → List StreamView
with_others named streams [] = streams
with_others named streams (s ∷ ss) = with_others named (with_other named streams s) ss

abbrev pub all_streams : List StreamView → List StreamView → List StreamView
all_streams named before = with_others named (with_streams [] named) before

-- 2. The maps of all programs, by key: of each the PID of its clock references, and the streams of all its maps up to here, the last map's first

pub record KnownMapView : Type 0 where
  pub pcr_pid : ℕ
  pub streams : List StreamView

unfoldable pub streams_if : Option KnownMapView → List StreamView
streams_if None = []
streams_if (Some m) = m.streams

-- a map after the known maps of its program
abbrev pub map_after : Option KnownMapView → PmtView → KnownMapView
map_after before pmt = record { pcr_pid = pmt.pcr_pid; streams = all_streams pmt.streams (streams_if before) }

-- the maps by key, and for each PID of clock references the key of the last map that names it
pub record MapsView : Type 0 where
  pub known : List (ℕ × KnownMapView)
  pub clocks : List (ℕ × ℕ)

abbrev pub no_maps : MapsView
no_maps = record { known = []; clocks = [] }

abbrev pub with_map : MapsView → ℕ → PmtView → MapsView
with_map maps key pmt = record {
  known = insert_entry nat_eq maps.known key (map_after (lookup (nat_eq key) maps.known) pmt);
  clocks = insert_entry nat_eq maps.clocks pmt.pcr_pid key;
}

unfoldable pub with_map_if : MapsView → Option Program → Option PmtView → MapsView
with_map_if maps None found = maps
with_map_if maps (Some p) None = maps
with_map_if maps (Some p) (Some pmt) = with_map maps (map_key p) pmt

abbrev pub with_finding : MapsView → FindingView → MapsView
with_finding maps f = with_map_if maps (program_found f) (any_map f)

unfoldable pub maps_after : MapsView → List FindingView → MapsView
maps_after maps [] = maps
maps_after maps (f ∷ fs) = maps_after (with_finding maps f) fs

abbrev pub maps_in : List FindingView → MapsView
maps_in findings = maps_after no_maps findings

-- 3. The known maps of a program, and of the program with this key

unfoldable pub known_if : MapsView → Option Program → Option KnownMapView
known_if maps None = None
known_if maps (Some p) = lookup (nat_eq (map_key p)) maps.known

unfoldable pub clocked_if : MapsView → Option ℕ → Option KnownMapView
clocked_if maps None = None
clocked_if maps (Some key) = lookup (nat_eq key) maps.known
