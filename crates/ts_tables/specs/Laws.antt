-- The streams that are known, by the packets alone: lists have the last packet first.
use Rattle.std.specs.Prelude.{◌≡◌, ℕ, List, [], ◌∷◌, ◌++◌, length, Option, None}
use Rattle.std.specs.Option.{option_or}
use Rattle.pid_findings.specs.Views.{FindingView}
use Rattle.demux.specs.Stream.{start, pushed}
use Rattle.stream_programs.specs.Programs.{FoundProgramsView}
use Rattle.ts_tables.specs.NamedStreams.{NamedView, none_taken, taken, is_last, streams_at}

-- after these packets
unfoldable pub state_of : List (List ℕ) → NamedView
state_of [] = none_taken
state_of (packet ∷ earlier) = taken (state_of earlier) packet

-- the bytes of these packets, and the findings in them
unfoldable pub bytes_of : List (List ℕ) → List ℕ
bytes_of [] = []
bytes_of (packet ∷ earlier) = bytes_of earlier ++ packet

abbrev pub found_of : List (List ℕ) → List FindingView
found_of packets = (pushed start (bytes_of packets)).found

-- the streams that the first packets name: the fewest packets with a map for each program of the association table, or all packets that are read for
-- tables
unfoldable pub first_streams : List (List ℕ) → Option FoundProgramsView
first_streams [] = None
first_streams (packet ∷ earlier) =
    option_or (first_streams earlier) (streams_at (is_last (length (packet ∷ earlier))) (found_of (packet ∷ earlier)))

-- these are the streams that are known
abbrev pub FirstLaw : Type 0
FirstLaw = (packets : List (List ℕ)) → (state_of packets).streams ≡ first_streams packets
