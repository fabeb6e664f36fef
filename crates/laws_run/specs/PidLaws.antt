-- The laws of this crate: the findings in the finished bytes of a run of slots, with their end, by what the packets of a PID carry.
use Rattle.std.specs.Prelude.{◌≡◌, ℕ, ◌-◌, ◌%◌, ◌^◌, ◌<◌, ◌≤◌, ◌==◌, false, List, [], ◌∷◌, length, map, take, All, IsTrue, Some, slice_get}
use Rattle.std.specs.List.{flat_map}
use Rattle.pes_packet.specs.AccessUnits.{AccessUnit}
use Rattle.pes_packet.specs.StreamIds.{fits_packet}
use Rattle.ts_packet.specs.PidList.{Entry, pid_list}
use Rattle.slot_contents.specs.Contents.{Content, run_bytes, Piece, payload_at, payload_in, payloads_in, Numbered}
use Rattle.slot_contents.specs.RunLaws.{Fits}
use Rattle.pid_findings.specs.Views.{FindingView}
use Rattle.demux.specs.Stream.{start, pushed, finished}
use Rattle.demux.specs.Laws.{found_of, with_pid_at}
use Rattle.unit_queue.specs.Payloads.{piece_in}
use Rattle.laws_run.specs.Sent.{sendings, each_found}
use Rattle.laws_run.specs.Units.{unit_packets, unit_pieces, unit_found}
use Rattle.laws_run.specs.Sections.{section_packets, section_pieces, section_found, IsRecognized}

-- all that is found in finished bytes, with their end, and what of it is of one PID
abbrev pub all_found : List ℕ → List FindingView
all_found bytes = (finished (pushed start bytes)).found

abbrev pub found_on : ℕ → List ℕ → List FindingView
found_on pid bytes = found_of pid (all_found bytes)

-- the indices of a PID's packets
abbrev pub packets_on : ℕ → List ℕ → List ℕ
packets_on pid bytes = map (λ e. e.index) (pid_list pid bytes)

-- slots that can be packets, fewer than a demultiplexer counts
pub record IsRun (n : ℕ) (content : ℕ → Content) : Type 0 where
  pub fits : Fits content
  pub few : n < 2 ^ 64 - 1

-- a PID whose packets carry the first of these payloads
pub record CarriesPieces (pid : ℕ) (bytes : List ℕ) (pieces : List Piece) : Type 0 where
  -- packet number j of the PID has the continuity_counter j modulo 16 (ISO/IEC 13818-1, 2.4.3.3)
  pub counters : (j : ℕ) (e : Entry) → slice_get (pid_list pid bytes) j ≡ Some e → e.packet.header.continuity_counter ≡ j % 16
  -- the start indicator is set where something begins, and there alone
  pub payloads : map (λ e. piece_in (payload_at e)) (pid_list pid bytes) ≡ take (length (pid_list pid bytes)) pieces

-- units of a stream: one finding for each unit with a sent packet, in order, and nothing else
abbrev pub UnitsComeBack : Type 0
UnitsComeBack = (pid n id base0 : ℕ) (content : ℕ → Content) (us : List AccessUnit) → IsRun n content → (pid == 8191) ≡ false →
    CarriesPieces pid (run_bytes content 0 n) (flat_map (unit_pieces id base0) us) → All (λ u. IsTrue (fits_packet id (length u.bytes))) us →
    found_on pid (run_bytes content 0 n)
    ≡ map (with_pid_at pid) (each_found (unit_found id base0) n (sendings (unit_packets id base0) us (packets_on pid (run_bytes content 0 n))))

-- sections, of a table or of several: one finding for each section with a sent packet, in order, and nothing else
abbrev pub SectionsComeBack : Type 0
SectionsComeBack = (pid n : ℕ) (content : ℕ → Content) (sections : List (List ℕ)) → IsRun n content → (pid == 8191) ≡ false →
    CarriesPieces pid (run_bytes content 0 n) (flat_map section_pieces sections) → All IsRecognized sections →
    found_on pid (run_bytes content 0 n) ≡ map (with_pid_at pid)
    (each_found section_found n (sendings section_packets sections (packets_on pid (run_bytes content 0 n))))

-- a PID without payloads, with clock references or with nothing: no finding
abbrev pub NothingComesBack : Type 0
NothingComesBack = (pid n : ℕ) (content : ℕ → Content) → IsRun n content → (pid == 8191) ≡ false → ((t : ℕ) → t < n → payload_in pid t (content t) ≡ []) →
    found_on pid (run_bytes content 0 n) ≡ []

-- a finding of a PID other than the PID of null packets
abbrev pub IsOfPid : FindingView → Type 0
IsOfPid f = (pid : ℕ) × (f.pid ≡ Some pid) × ((pid == 8191) ≡ false)

-- all that is found is of PIDs: no packet is damaged, none is flagged in error, none is cut, and nothing is found of null packets
abbrev pub AllIsOfPids : Type 0
AllIsOfPids = (n : ℕ) (content : ℕ → Content) → IsRun n content → All IsOfPid (all_found (run_bytes content 0 n))

-- the packets of these findings rise, the first not below one, the last not above another
unfoldable pub InOrder : ℕ → ℕ → List FindingView → Type 0
InOrder from last [] = Unit {0}
InOrder from last (f ∷ fs) = (from ≤ f.packet) × (f.packet ≤ last) × InOrder f.packet last fs

-- all findings come in the order of the packets; findings that the end of the stream decides have the number of packets
abbrev pub FoundInOrder : Type 0
FoundInOrder = (n : ℕ) (content : ℕ → Content) → IsRun n content → InOrder 0 n (all_found (run_bytes content 0 n))

-- if the payloads on a PID, slot by slot, are numbered from 0 on, and nothing else is on the PID, its packets carry them
abbrev pub NumberedPayloads : Type 0
NumberedPayloads = (pid n : ℕ) (content : ℕ → Content) (pieces : List Piece) → Fits content → (pid == 8191) ≡ false → Numbered pid content 0 n 0 →
    map piece_in (payloads_in pid content 0 n) ≡ take (length (payloads_in pid content 0 n)) pieces →
    CarriesPieces pid (run_bytes content 0 n) pieces
