-- The parts of a table that each recur by themselves: in an event information table section 0, the present event, and section 1, the following
-- event (ETSI TR 101 290, 5.2.3, 3.6.a and 3.6.b; ETSI EN 300 468, 5.2.4); the map of each program, if programs share a PID for
-- their maps (TR 101 290, 5.2.1, 1.5.a; ISO/IEC 13818-1, 2.4.4.8).
use Rattle.std.specs.Prelude.{ℕ, ◌+◌, ◌*◌, ◌==◌, ◌&&◌, ◌||◌, Bool, if◌then◌else◌, List, slice_index, Option, Some, None}
use Rattle.pid_findings.specs.Views.{WhatView, IsSection}

abbrev pub is_map : ℕ → Bool
is_map table_id = table_id == 0x02

abbrev pub is_present_following : ℕ → ℕ → Bool
is_present_following pid table_id = pid == 0x12 && (table_id == 0x4E || table_id == 0x4F)

abbrev pub has_parts : ℕ → ℕ → Bool
has_parts pid table_id = is_map table_id || is_present_following pid table_id

-- for a map its program_number, bytes 3 and 4 of its section; for events section_number, byte 6
abbrev pub part_in : ℕ → List ℕ → ℕ
part_in table_id bytes = if is_map table_id then slice_index bytes 3 * 256 + slice_index bytes 4 else slice_index bytes 6

-- the part of a section; what does not become whole is of no part
unfoldable pub part_of : ℕ → ℕ → WhatView → Option ℕ
part_of pid table_id (IsSection bytes) = if has_parts pid table_id then Some (part_in table_id bytes) else None
part_of pid table_id _ = None
