-- The maps of a description's programs while a stream comes: where one is of another version than the one before it
-- (ISO/IEC 13818-1, 2.4.4.8 and 2.4.4.9: version_number goes up by one when what the table says changes), and on which PID the
-- clock references come.
use Rattle.std.specs.Prelude.{ℕ, ◌+◌, ◌==◌, ◌&&◌, Bool, false, if◌then◌else◌, Option, Some, None, is_some, option_map, List, [], ◌∷◌, slice_get, slice_set}
use Rattle.std.specs.List.{list_any}
use Rattle.psi_tables.specs.ProgramMap.{PmtView, StreamView}
use Rattle.pid_findings.specs.Views.{FindingView}
use Rattle.pid_findings.specs.declared.finding.Kind.{Kind}
use Rattle.pid_findings.specs.declared.finding.Kind.TheVariants as kinds
use Rattle.program_tables.specs.ProgramMaps.{program_map}
use Rattle.fed_streams.specs.declared.fed_map.CurrentMap.{CurrentMap}
use Rattle.fed_streams.specs.declared.fed_map.NamedStream.{NamedStream}
use Rattle.fed_streams.specs.declared.feed_fault.OtherStream.{OtherStream}
use Rattle.fed_streams.specs.declared.feed_fault.NewMap.{NewMap}

-- 1. One map

-- a program, its map that came last, and the streams that a description has of it
pub record MapView : Type 0 where
  pub program_number : ℕ
  pub current : Option CurrentMap
  pub named : List NamedStream

-- the parts that are kept from the program map table in force
abbrev pub current_of : PmtView → CurrentMap
current_of pmt = record { version = pmt.header.version_number; pcr_pid = pmt.pcr_pid }

-- a section of a program map table begins: its table_id is 2
unfoldable pub is_map : Option (ℕ × Kind) → Bool
is_map None = false
is_map (Some (packet, kinds.Table id)) = id == 2
is_map (Some (packet, kinds.Pes stamped access)) = false

-- the map of a program that a finding has, by program_number: on whatever PID
unfoldable pub map_on : ℕ → FindingView → Option ℕ → Option PmtView
map_on number f None = None
map_on number f (Some pid) = program_map (record { program_number = number; pid = pid }) (f ∷ [])

unfoldable pub map_found : ℕ → FindingView → Option PmtView
map_found number f = if is_map f.begun then map_on number f f.pid else None

unfoldable pub current_found : ℕ → FindingView → Option CurrentMap
current_found number f = option_map current_of (map_found number f)

-- after this map, if there is one
unfoldable pub map_with : MapView → Option CurrentMap → MapView
map_with m None = m
map_with m (Some current) = record m { current = Some current }

-- a version that is not the one before it, at a packet; the first one changes nothing
unfoldable pub change_from : ℕ → ℕ → ℕ → Option CurrentMap → Option NewMap
change_from number packet version None = None
change_from number packet version (Some before) =
    if before.version == version then None else Some (record { program = number; packet = packet; before = before.version; version = version })

unfoldable pub map_change : MapView → ℕ → Option CurrentMap → Option NewMap
map_change m packet None = None
map_change m packet (Some current) = change_from m.program_number packet current.version m.current

-- 2. The first map that a finding has

-- the number of the map of a finding; the first of these maps has number k
unfoldable pub map_from : FindingView → ℕ → List MapView → Option ℕ
map_from f k [] = None
map_from f k (m ∷ ms) = if is_some (current_found m.program_number f) then Some k else map_from f (k + 1) ms

unfoldable pub set_at : FindingView → ℕ → Option MapView → List MapView → List MapView
set_at f k None ms = ms
set_at f k (Some m) ms = slice_set ms k (map_with m (current_found m.program_number f))

unfoldable pub change_of : FindingView → Option MapView → Option NewMap
change_of f None = None
change_of f (Some m) = map_change m f.packet (current_found m.program_number f)

unfoldable pub set_place : FindingView → Option ℕ → List MapView → List MapView
set_place f None ms = ms
set_place f (Some k) ms = set_at f k (slice_get ms k) ms

unfoldable pub change_place : FindingView → Option ℕ → List MapView → Option NewMap
change_place f None ms = None
change_place f (Some k) ms = change_of f (slice_get ms k)

-- the maps after a finding, and what it changes
abbrev pub maps_after : FindingView → List MapView → List MapView
maps_after f ms = set_place f (map_from f 0 ms) ms

abbrev pub new_map : FindingView → List MapView → Option NewMap
new_map f ms = change_place f (map_from f 0 ms) ms

-- 3. The clock

-- the PID of the clock references of the first program, once its map has come (2.4.4.9: PCR_PID)
unfoldable pub pcr_pid_of : Option CurrentMap → Option ℕ
pcr_pid_of None = None
pcr_pid_of (Some current) = Some current.pcr_pid

unfoldable pub clock_pid : List MapView → Option ℕ
clock_pid [] = None
clock_pid (m ∷ ms) = pcr_pid_of m.current

-- 4. The streams that a description has of a program, other than the streams that its first map names, by PID and stream_type

unfoldable pub is_named : List StreamView → NamedStream → Bool
is_named streams n = list_any (λ s. s.stream_type == n.stream_type && s.elementary_pid == n.pid) streams

-- the first stream that the map does not name
unfoldable pub first_other : List StreamView → List NamedStream → Option NamedStream
first_other streams [] = None
first_other streams (n ∷ ns) = if is_named streams n then first_other streams ns else Some n

unfoldable pub other_of : ℕ → ℕ → Option NamedStream → Option OtherStream
other_of program packet None = None
other_of program packet (Some n) = Some (record { program = program; packet = packet; pid = n.pid; stream_type = n.stream_type })

-- later maps are not looked at: they may change
unfoldable pub other_by : MapView → ℕ → Option PmtView → Option OtherStream
other_by m packet None = None
other_by m packet (Some pmt) = if is_some m.current then None else other_of m.program_number packet (first_other pmt.streams m.named)

unfoldable pub other_at : FindingView → Option MapView → Option OtherStream
other_at f None = None
other_at f (Some m) = other_by m f.packet (map_found m.program_number f)

unfoldable pub other_place : FindingView → Option ℕ → List MapView → Option OtherStream
other_place f None ms = None
other_place f (Some k) ms = other_at f (slice_get ms k)

abbrev pub other_stream : FindingView → List MapView → Option OtherStream
other_stream f ms = other_place f (map_from f 0 ms) ms
