-- Tables and streams in their own slots.
use Rattle.std.proofs.Common.{◌≡◌, ℕ, suc, ◌+◌, Bool, true, false, List, [], ◌∷◌, ◌++◌, length, map, take, drop, refl, sym, ap, ap₂, ◌∙◌, arith}
use Rattle.std.proofs.lemmas.List.{length-drop}
use Rattle.std.proofs.lemmas.List.Concat.{flat_map-cons}
use Rattle.std.specs.List.{flat_map}
use Rattle.pes_packet.specs.AccessUnits.{AccessUnit}
use Rattle.pes_packet.specs.Marks.{field_size}
use Rattle.pes_packet.specs.Payloads.{pieces, piece_count, unit_pieces as cut_into}
use Rattle.ts_packet.specs.Beginnings.{start_by}
use Rattle.ts_packet.specs.PidList.{Entry, pid_list}
use Rattle.slot_contents.specs.Contents.{Piece, run_bytes}
use Rattle.table_rounds.specs.Payloads.{table_payloads}
use Rattle.table_rounds.proofs.CarriedBytes.{table_carried}
use Rattle.unit_queue.specs.OwnedStreams.{OwnedStream, pes_bytes, has_access}
use Rattle.unit_queue.specs.Payloads.{all_pieces}
use Rattle.unit_queue.proofs.CarriedBytes.{carried_law}
use Rattle.unit_queue.specs.Payloads.{marked, piece_in}
use Rattle.unit_queue.proofs.SentPlaces.{pieces_cons}
use Rattle.laws_run.specs.Sent.{access_chunks, start_chunks}
use Rattle.laws_run.specs.Units.{unit_pieces}
use Rattle.laws_run.specs.Sections.{section_pieces}
use Rattle.laws_run.specs.Rounds.{sections_of_rounds, TablesCarry, StreamsCarry, TablesComeBack, StreamsComeBack}
use Rattle.laws_run.proofs.FoundInRun.{piece_lists, same_length, units_come_back, sections_come_back}
use Rattle.laws_run.proofs.TablePieces.{rounds_are_sections}

pub tables_carry : TablesCarry
tables_carry table n content alone some room =
    let bytes : List ℕ = run_bytes content 0 n in
    let es : List Entry = pid_list table.pid bytes in
    let all : List Piece = flat_map section_pieces (sections_of_rounds table n) in
    let c = table_carried table n content alone in
    let size : length (table_payloads table n) ≡ length es = sym (ap length c.payloads) ∙ sym (same_length es) in record {
      counters = c.counters;
      payloads = sym (piece_lists es) ∙ ap (map piece_in) c.payloads ∙ rounds_are_sections table n some room ∙ ap (λ (m : ℕ). take m all) size;
    }

pub tables_come_back : TablesComeBack
tables_come_back table n content run alone some room given =
    sections_come_back table.pid n content (sections_of_rounds table n) run alone.no_null (tables_carry table n content alone some room) given

-- The payloads of a unit, by their number
pub same_chunks : (access : Bool) (pes : List ℕ) → cut_into access pes ≡ start_chunks (start_by true access) (piece_count (field_size access + length pes)) pes
unfolding cut_into pieces access_chunks
same_chunks true pes =
    let more : piece_count (2 + length pes) ≡ suc (piece_count (length (drop 182 pes))) = omega (arith, length-drop 182 pes) in
    rw more refl
same_chunks false pes =
    let none : piece_count (0 + length pes) ≡ piece_count (length pes) = omega arith in
    rw none refl

same_pieces : (l : OwnedStream) (us : List AccessUnit) → all_pieces l us ≡ flat_map (unit_pieces l.parameters.stream_id l.parameters.base0) us
same_pieces l [] = refl
same_pieces l (u ∷ us) =
    let f : AccessUnit → List Piece = unit_pieces l.parameters.stream_id l.parameters.base0 in
    pieces_cons l u us
    ∙ ap₂ (λ (c : List (List ℕ)) (ps : List Piece). marked (start_by true (has_access u)) c ++ ps) (same_chunks (has_access u) (pes_bytes l u))
    (same_pieces l us)
    ∙ sym (flat_map-cons f u us)

pub streams_carry : StreamsCarry
streams_carry l n us content alone =
    let bytes : List ℕ = run_bytes content 0 n in
    let c = carried_law l us content n alone in
    record { counters = c.counters; payloads = c.pieces ∙ ap (take (length (pid_list l.parameters.pid bytes))) (same_pieces l us) }

pub streams_come_back : StreamsComeBack
streams_come_back l n us content run alone fits =
    units_come_back l.parameters.pid n l.parameters.stream_id l.parameters.base0 content us run alone.no_null (streams_carry l n us content alone) fits
