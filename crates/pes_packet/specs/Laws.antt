-- What the laws of this crate say.
use Rattle.std.specs.Prelude.{◌≡◌, ◌≢◌, ℕ, option_map, IfSome, ◌+◌, ◌*◌, ◌<◌, ◌≤◌, ◌==◌, if◌then◌else◌, Ok, Err, Some, List, [], ◌∷◌, ◌++◌, length, take, drop}
use Rattle.std.specs.Prelude.{slice_get, All, Bool, IsTrue}
use Rattle.std.specs.List.{concat}
use Rattle.pes_packet.specs.StreamIds.{fits_packet}
use Rattle.pes_packet.specs.Reading.{header_at}
use Rattle.pes_packet.specs.HeaderMarks.{header_marks}
use Rattle.pes_packet.specs.Marks.{data_length, field_size, marks_size, no_marks, sixteen}
use Rattle.pes_packet.specs.Encoding.{packet_length, on_wire, pes_start_bytes, stamp_bytes, pes_header_bytes, header_size}
use Rattle.pes_packet.specs.Syntax.{IsPesHeader}
use Rattle.pes_packet.specs.Payloads.{pieces, piece_count, part_of, unit_pieces}
use Rattle.pes_packet.specs.declared.refusal.PesError.TheVariants.{Short}
use Rattle.pes_packet.specs.declared.time_stamps.Stamps.TheVariants.{Pts, PtsDts}
use Rattle.pes_packet.specs.declared.reading.PesHeader.{PesHeader}
use Rattle.pes_packet.specs.declared.marks.Marks.{Marks}

-- the header that is written for a unit, as it is read: a DTS exactly if the stamps on the wire differ
unfoldable pub written_header : ℕ → ℕ → Marks → ℕ → ℕ → PesHeader
written_header id size marks pts dts =
    if on_wire pts == on_wire dts
    then record {
      id = id;
      len = packet_length (3 + data_length marks 5 + size);
      stamps = Pts (on_wire pts);
      flags = marks.flags;
      data_length = data_length marks 5;
      private_data = option_map sixteen marks.private_data;
    }
    else record {
      id = id;
      len = packet_length (3 + data_length marks 10 + size);
      stamps = PtsDts (on_wire pts) (on_wire dts);
      flags = marks.flags;
      data_length = data_length marks 10;
      private_data = option_map sixteen marks.private_data;
    }

-- a written header, whatever follows it, is read again as the same value
abbrev pub WrittenIsRead : Type 0
WrittenIsRead =
    (id size : ℕ) (marks : Marks) (pts dts : ℕ) (rest : List ℕ) → IsTrue (fits_packet id size)
    → header_at (pes_header_bytes id size marks pts dts ++ rest)
    ≡ Ok (written_header id size marks pts dts, length (pes_header_bytes id size marks pts dts))

-- a written header is the standard's
abbrev pub WrittenIsHeader : Type 0
WrittenIsHeader =
    (id size : ℕ) (marks : Marks) (pts dts : ℕ) (rest : List ℕ) → IsTrue (fits_packet id size)
    → IsPesHeader (pes_header_bytes id size marks pts dts ++ rest) (written_header id size marks pts dts) (length (pes_header_bytes id size marks pts dts))

-- PES_private_data, if there is any, has 16 bytes (2.4.3.7), as it has wherever a program holds it
abbrev pub HasSixteen : Marks → Type 0
HasSixteen marks = IfSome marks.private_data (λ bytes. length bytes ≡ 16)

-- with the marks of its unit
abbrev pub MarksAreRead : Type 0
MarksAreRead =
    (id size : ℕ) (marks : Marks) (pts dts : ℕ) → HasSixteen marks
    → header_marks marks.random_access (written_header id size marks pts dts) ≡ marks

-- whatever header it is
abbrev pub MarksHaveSixteen : Type 0
MarksHaveSixteen = (access : Bool) (header : PesHeader) → HasSixteen (header_marks access header)

-- a written header has 45 bytes if it is long, otherwise 14, or 19 with a DTS, and 17 more with PES_private_data
abbrev pub HeaderSizes : Type 0
HeaderSizes = (id size : ℕ) (marks : Marks) (pts dts : ℕ) → length (pes_header_bytes id size marks pts dts) ≡ header_size marks pts dts

-- PES_packet_length counts the rest of the packet if the unit and what its marks take have at most 65,522 bytes
abbrev pub HeaderCounts : Type 0
HeaderCounts =
    (id size : ℕ) (marks : Marks) (pts dts : ℕ) → size + marks_size marks ≤ 65_522
    → 6 + (written_header id size marks pts dts).len ≡ length (pes_header_bytes id size marks pts dts) + size

-- a header without marks: flag bytes 80 80 and a PTS, or 80 C0, a PTS and a DTS
unfoldable pub plain_header : ℕ → ℕ → ℕ → ℕ → List ℕ
plain_header id size pts dts =
    if on_wire pts == on_wire dts
    then pes_start_bytes id (packet_length (8 + size)) ++ (0x80 ∷ 0x80 ∷ 5 ∷ []) ++ stamp_bytes 2 (on_wire pts)
    else pes_start_bytes id (packet_length (13 + size)) ++ (0x80 ∷ 0xC0 ∷ 10 ∷ []) ++ stamp_bytes 3 (on_wire pts) ++ stamp_bytes 1 (on_wire dts)

-- the header bytes of a unit without marks are the plain header
abbrev pub WithoutMarks : Type 0
WithoutMarks = (id size pts dts : ℕ) → pes_header_bytes id size no_marks pts dts ≡ plain_header id size pts dts

-- bytes that are no longer too short for an answer keep it, whatever follows
abbrev pub LongerIsRead : Type 0
LongerIsRead = (bytes more : List ℕ) → header_at bytes ≢ Err Short → header_at (bytes ++ more) ≡ header_at bytes

-- the payloads of a PES packet: their number, their bytes, that none is empty and none too long, and that joined they are the
-- packet
pub record PayloadsJoin (bytes : List ℕ) : Type 0 where
  pub count : length (pieces bytes) ≡ piece_count (length bytes)
  pub each : (q : ℕ) → q < piece_count (length bytes) → slice_get (pieces bytes) q ≡ Some (take 184 (drop (184 * q) bytes))
  pub some : All (λ piece. 1 ≤ length piece) (pieces bytes)
  pub most : All (λ piece. length piece ≤ 184) (pieces bytes)
  pub joined : concat (pieces bytes) ≡ bytes

-- the payloads of a unit: their number, their bytes, and that joined they are its PES packet
pub record UnitPiecesJoin (access : Bool) (pes : List ℕ) : Type 0 where
  pub count : length (unit_pieces access pes) ≡ piece_count (field_size access + length pes)
  pub each : (q : ℕ) → q < piece_count (field_size access + length pes) →
      slice_get (unit_pieces access pes) q ≡ Some (part_of (field_size access) (184 * q) pes)
  pub joined : concat (unit_pieces access pes) ≡ pes
