-- What a decoder reassembles from the packets of a PID (ISO/IEC 13818-1, 2.4.3), defined without reference to a multiplexer.
use Rattle.std.specs.Prelude.{◌≡◌, ◌≤◌, ℕ, suc, ◌+◌, ◌%◌, Bool, true, if◌then◌else◌, List, [], ◌∷◌, ◌++◌, length, map, take, slice_get, Some, All}
use Rattle.std.specs.List.{concat, flat_map}
use Rattle.ts_packet.specs.PidList.{Entry, pid_list}
use Rattle.ts_packet.specs.Beginnings.{is_start, start_by}
use Rattle.slot_contents.specs.Contents.{Piece, payload_at}
use Rattle.unit_queue.specs.Payloads.{marked, piece_in}

-- the packets of a PID are consecutive: each has the continuity_counter of the packet before it plus one, modulo 16 (2.4.3.3)
abbrev pub Follow : List Entry → Type 0
Follow packets = (j : ℕ) (e f : Entry) → slice_get packets j ≡ Some e → slice_get packets (suc j) ≡ Some f →
    f.packet.header.continuity_counter ≡ (e.packet.header.continuity_counter + 1) % 16

-- the pieces in the packets of a PID: what begins at the first byte of a payload, and its bytes
abbrev pub pieces_on : ℕ → List ℕ → List Piece
pieces_on pid bytes = map (λ e. piece_in (payload_at e)) (pid_list pid bytes)

-- payloads, joined, up to the next payload where something begins
unfoldable pub until_next : List Piece → List ℕ
until_next [] = []
until_next (p ∷ ps) = if is_start p.start then [] else p.bytes ++ until_next ps

-- a PES packet, or a section with its pointer_field, begins in a payload with the start indicator and extends to the next payload that has it (2.4.3.3)
unfoldable pub put_together : List Piece → List (List ℕ)
put_together [] = []
put_together (p ∷ ps) = if is_start p.start then (p.bytes ++ until_next ps) ∷ put_together ps else put_together ps

-- the pieces of a PES packet or section: whether a decoder may begin with it, and its payloads
abbrev pub cut_thing : Bool × List (List ℕ) → List Piece
cut_thing c = marked (start_by true c.0) c.1

-- if payloads are the first pieces of these PES packets or sections, at least up to the end of number i, then number i is reassembled whole
abbrev pub PutLaw : Type 0
PutLaw = (cs : List (Bool × List (List ℕ))) (c : Bool × List (List ℕ)) (m i : ℕ) → All (λ x. 1 ≤ length x.1) cs → slice_get cs i ≡ Some c →
    length (flat_map cut_thing (take (suc i) cs)) ≤ m → slice_get (put_together (take m (flat_map cut_thing cs))) i ≡ Some (concat c.1)
