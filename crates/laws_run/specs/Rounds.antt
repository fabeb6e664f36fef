-- The sections that a table sends in rounds, as one list, and the units of a stream in its own slots.
use Rattle.std.specs.Prelude.{◌≡◌, ℕ, suc, ◌<◌, ◌≤◌, IsTrue, List, [], ◌∷◌, None, length, map, take, All, slice_index_or}
use Rattle.std.specs.List.{flat_map}
use Rattle.own_slots.specs.Slots.{own_slots}
use Rattle.own_slots.specs.Rounds.{starts}
use Rattle.pes_packet.specs.AccessUnits.{AccessUnit}
use Rattle.pes_packet.specs.StreamIds.{fits_packet}
use Rattle.slot_contents.specs.Contents.{Content, run_bytes}
use Rattle.demux.specs.Laws.{with_pid_at}
use Rattle.table_rounds.specs.Tables.{Table, round_places, moment_of}
use Rattle.table_rounds.specs.Payloads.{TableIsAlone, table_payloads}
use Rattle.table_rounds.specs.Laws.{HasPlaces}
use Rattle.unit_queue.specs.OwnedStreams.{OwnedStream}
use Rattle.unit_queue.specs.Payloads.{StreamIsAlone}
use Rattle.unit_queue.specs.Payloads.{piece_in}
use Rattle.laws_run.specs.Sent.{sendings, each_found}
use Rattle.laws_run.specs.Units.{unit_packets, unit_pieces, unit_found}
use Rattle.laws_run.specs.Sections.{section_packets, section_pieces, section_found, IsRecognized}
use Rattle.laws_run.specs.PidLaws.{IsRun, CarriesPieces, found_on, packets_on}

-- sections from number j on, one for each length
unfoldable pub sections_from : (ℕ → List ℕ) → ℕ → List ℕ → List (List ℕ)
sections_from section j [] = []
sections_from section j (l ∷ lengths) = section j ∷ sections_from section (suc j) lengths

-- the sections of a round that begins in slot s, as they are at the begin of that slot
abbrev pub round_sections : Table → ℕ → List (List ℕ)
round_sections table s = sections_from (λ j. table.bytes s j (moment_of table s)) 0 table.lengths

-- the sections of all rounds that begin in the first n slots
abbrev pub sections_of_rounds : Table → ℕ → List (List ℕ)
sections_of_rounds table n = flat_map (round_sections table) (own_slots (starts table.own (round_places table.lengths) 0) 0 n)

-- the table is on air from slot 0 on, its texts do not change from slot to slot, and no section is ever longer than its places were made for
pub record HasRoom (table : Table) : Type 0 where
  pub from : table.from ≡ None
  pub steady : (s other j moment : ℕ) → table.bytes s j moment ≡ table.bytes other j moment
  pub fits : (s j moment : ℕ) → j < length table.lengths → length (table.bytes s j moment) ≤ slice_index_or table.lengths j 0

-- the payloads of a table in its own slots are the first payloads of these sections
abbrev pub RoundsAreSections : Type 0
RoundsAreSections = (table : Table) (n : ℕ) → HasPlaces table → HasRoom table →
    map piece_in (table_payloads table n) ≡ take (length (table_payloads table n)) (flat_map section_pieces (sections_of_rounds table n))

-- if a table in its own slots is alone on its PID, its packets carry the first payloads of these sections
abbrev pub TablesCarry : Type 0
TablesCarry = (table : Table) (n : ℕ) (content : ℕ → Content) → TableIsAlone table content → HasPlaces table → HasRoom table →
    CarriesPieces table.pid (run_bytes content 0 n) (flat_map section_pieces (sections_of_rounds table n))

-- the packets of a stream in its own slots carry the first payloads of its units
abbrev pub StreamsCarry : Type 0
StreamsCarry = (l : OwnedStream) (n : ℕ) (us : List AccessUnit) (content : ℕ → Content) → StreamIsAlone l us content →
    CarriesPieces l.parameters.pid (run_bytes content 0 n) (flat_map (unit_pieces l.parameters.stream_id l.parameters.base0) us)

-- a table in its own slots, alone on its PID: the findings are its sections, round after round
abbrev pub TablesComeBack : Type 0
TablesComeBack = (table : Table) (n : ℕ) (content : ℕ → Content) → IsRun n content → TableIsAlone table content → HasPlaces table → HasRoom table →
    All IsRecognized (sections_of_rounds table n) →
    found_on table.pid (run_bytes content 0 n)
    ≡ map (with_pid_at table.pid)
    (each_found section_found n (sendings section_packets (sections_of_rounds table n) (packets_on table.pid (run_bytes content 0 n))))

-- a stream in its own slots, alone on its PID: the findings are its units
abbrev pub StreamsComeBack : Type 0
StreamsComeBack = (l : OwnedStream) (n : ℕ) (us : List AccessUnit) (content : ℕ → Content) → IsRun n content → StreamIsAlone l us content →
    All (λ u. IsTrue (fits_packet l.parameters.stream_id (length u.bytes))) us →
    found_on l.parameters.pid (run_bytes content 0 n)
    ≡ map (with_pid_at l.parameters.pid) (each_found (unit_found l.parameters.stream_id l.parameters.base0) n
    (sendings (unit_packets l.parameters.stream_id l.parameters.base0) us (packets_on l.parameters.pid (run_bytes content 0 n))))
