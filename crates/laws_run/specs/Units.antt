-- The findings of access units that are sent on one PID, each as its own PES packet.
use Rattle.std.specs.Prelude.{ℕ, ◌+◌, ◌-◌, ◌*◌, ◌==◌, nat_le, Bool, true, false, if◌then◌else◌, List, ◌∷◌, length, take, Some}
use Rattle.pes_packet.specs.AccessUnits.{AccessUnit}
use Rattle.pes_packet.specs.Encoding.{header_size, pes_packet_bytes}
use Rattle.pes_packet.specs.Payloads.{piece_count}
use Rattle.pes_packet.specs.Laws.{written_header}
use Rattle.pes_packet.specs.declared.reading.PesHeader.{PesHeader}
use Rattle.ts_packet.specs.declared.start.Start.{Start}
use Rattle.ts_packet.specs.Beginnings.{start_by}
use Rattle.pes_packet.specs.Marks.{field_size}
use Rattle.unit_queue.specs.OwnedStreams.{has_access}
use Rattle.slot_contents.specs.Contents.{Piece}
use Rattle.pid_findings.specs.declared.finding.Kind.TheVariants.{Pes}
use Rattle.pid_findings.specs.Views.{WhatView, IsPes, IsTruncated, Found, PidFinding}
use Rattle.laws_run.specs.Sent.{first_pieces, Ending, last_of, is_none}

-- the packets that a unit takes, and its payloads
abbrev pub unit_packets : ℕ → ℕ → AccessUnit → ℕ
unit_packets id base0 u = piece_count (field_size (has_access u) + length (pes_packet_bytes id base0 u))

-- what begins with the first of them
abbrev pub unit_start : AccessUnit → Start
unit_start u = start_by true (has_access u)

abbrev pub unit_pieces : ℕ → ℕ → AccessUnit → List Piece
unit_pieces id base0 u = first_pieces (unit_start u) (unit_packets id base0 u) (pes_packet_bytes id base0 u)

-- the header of a unit as it is read: its stamps modulo 2^33, and its marks
abbrev pub unit_header : ℕ → ℕ → AccessUnit → PesHeader
unit_header id base0 u = written_header id (length u.bytes) u.marks (u.pts + base0) (u.dts + base0)

-- the size of that header, in bytes
abbrev pub unit_header_size : ℕ → AccessUnit → ℕ
unit_header_size base0 u = header_size u.marks (u.pts + base0) (u.dts + base0)

-- a PES packet with a PTS that begins in packet i, which has the random_access_indicator or not
abbrev pub begun_pes : ℕ → Bool → WhatView → Bool → Found
begun_pes i access what within = record { begun = Some (i, Pes true access); what = what; within = within }

-- the number of bytes of a unit that these packets have room for
abbrev pub carried_in : Bool → List ℕ → ℕ
carried_in access packets = 184 * length packets - field_size access

-- the finding of a unit that has packets i and `is`. Without a PES_packet_length the unit ends where the next begins, with the bytes that were
-- sent; otherwise it is whole in its last packet, or cut short where the next begins
unfoldable pub unit_found : ℕ → ℕ → Ending → AccessUnit → ℕ → List ℕ → PidFinding
unit_found id base0 e u i is =
    if (unit_header id base0 u).len == 0
    then record {
      packet = e.packet;
      found =
          begun_pes i (has_access u)
          (IsPes (unit_header id base0 u) e.open_ended (take (carried_in (has_access u) (i ∷ is) - unit_header_size base0 u) u.bytes))
          false;
    }
    else (if nat_le (length (pes_packet_bytes id base0 u)) (carried_in (has_access u) (i ∷ is))
    then record { packet = last_of i is; found = begun_pes i (has_access u) (IsPes (unit_header id base0 u) false u.bytes) (is_none is) }
    else record {
      packet = e.packet;
      found =
          begun_pes i (has_access u) (IsTruncated (take (carried_in (has_access u) (i ∷ is)) (pes_packet_bytes id base0 u))) false;
    })
