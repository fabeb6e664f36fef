-- The label of a PID: what its packets carry, as far as it is known: by the numbers that the standards give to PIDs (ISO/IEC 13818-1, table 2-3; EN 300
-- 468, table 1), or by the first tables.
use Rattle.std.specs.Prelude.{ℕ, ◌==◌, if◌then◌else◌, List, [], ◌∷◌, Option, Some, None}
use Rattle.stream_coding.specs.Codings.{coding_of}
use Rattle.stream_programs.specs.Programs.{FoundProgramView, FoundProgramsView}
use Rattle.stream_programs.specs.Streams.{FoundStreamView}
use Rattle.ts_tables.specs.NamedStreams.{NamedView, stream_of}
use Rattle.events.specs.PidNames.{fixed, of_coding}
use Rattle.events.specs.declared.pid_name.PidName.{PidName}
use Rattle.events.specs.declared.pid_name.PidName.TheVariants.{Other, Pcr, Pmt}
use Rattle.ts_watch.specs.declared.pid_labels.PidLabel.{PidLabel}

-- the first of these programs whose map has the PID, or whose clock references do
unfoldable pub of_map : ℕ → List FoundProgramView → Option ℕ
of_map pid [] = None
of_map pid (p ∷ ps) = if p.map_pid == pid then Some p.number else of_map pid ps

unfoldable pub of_clock : ℕ → List FoundProgramView → Option ℕ
of_clock pid [] = None
of_clock pid (p ∷ ps) = if p.pcr_pid == pid then Some p.number else of_clock pid ps

-- a map, else clock references alone
unfoldable pub by_program : Option ℕ → Option ℕ → PidLabel
by_program (Some program) clock = record { program = Some program; coding = Pmt }
by_program None (Some program) = record { program = Some program; coding = Pcr }
by_program None None = record { program = None; coding = Other }

unfoldable pub in_programs : ℕ → Option FoundProgramsView → PidLabel
in_programs pid None = by_program None None
in_programs pid (Some found) = by_program (of_map pid found.programs) (of_clock pid found.programs)

-- a stream, by its entry in the map
abbrev pub of_stream : FoundStreamView → PidLabel
of_stream s = record { program = Some s.program; coding = of_coding (coding_of s.stream_type s.descriptors []) }

unfoldable pub in_tables : NamedView → ℕ → Option FoundStreamView → PidLabel
in_tables named pid None = in_programs pid named.streams
in_tables named pid (Some s) = of_stream s

-- a PID that always carries the same, or one by these tables
unfoldable pub label_by : NamedView → ℕ → Option PidName → PidLabel
label_by named pid None = in_tables named pid (stream_of named pid)
label_by named pid (Some name) = record { program = None; coding = name }

-- the label of a PID by the known tables
abbrev pub label_of : NamedView → ℕ → PidLabel
label_of named pid = label_by named pid (fixed pid)
