-- What the own slots of a stream carry, counted from 0 over all time: the units in order, each from its release on.
use Rattle.std.specs.Prelude.{ℕ, ◌+◌, ◌-◌, ◌*◌, ◌==◌, cond, nat_lt, Option, Some, None, List, [], ◌∷◌}
use Rattle.own_slots.specs.Slots.{own_before}
use Rattle.pes_packet.specs.AccessUnits.{AccessUnit}
use Rattle.pes_packet.specs.Marks.{field_size}
use Rattle.pes_packet.specs.Payloads.{part_of}
use Rattle.ts_packet.specs.declared.start.Start.{Start}
use Rattle.ts_packet.specs.Beginnings.{start_by}
use Rattle.slot_contents.specs.Contents.{Content, PayloadContent, NullContent}
use Rattle.unit_queue.specs.OwnedStreams.{OwnedStream, pes_bytes, has_access, packet_count, first_slot, end_slot}

-- a packet of a unit: which piece of the PES packet it carries, and its number among the stream's packets
pub record UnitPlace : Type 0 where
  pub unit : AccessUnit
  pub piece : ℕ
  pub number : ℕ

-- what own slot number i carries, if the first `free` slots are taken and `number` packets have been sent
unfoldable pub place_at : OwnedStream → ℕ → ℕ → List AccessUnit → ℕ → Option UnitPlace
place_at l free number [] i = None
place_at l free number (u ∷ us) i =
    cond (nat_lt i (first_slot l free u)) None
    (cond (nat_lt i (end_slot l free u)) (Some (record { unit = u; piece = i - first_slot l free u; number = number + (i - first_slot l free u) }))
    (place_at l (end_slot l free u) (number + packet_count l u) us i))

-- the bytes of that piece
abbrev pub piece_bytes : OwnedStream → UnitPlace → List ℕ
piece_bytes l x = part_of (field_size (has_access x.unit)) (184 * x.piece) (pes_bytes l x.unit)

-- what begins with that piece: the PES packet, if it is the first piece
abbrev pub piece_start : UnitPlace → Start
piece_start x = start_by (x.piece == 0) (has_access x.unit)

-- the place as the content of a slot: a payload, or nothing
abbrev pub content_of : OwnedStream → Option UnitPlace → Content
content_of l None = NullContent
content_of l (Some x) = PayloadContent l.parameters.pid x.number (piece_start x) (piece_bytes l x)

-- what slot s carries of these units, if it is an own slot
abbrev pub stream_content : OwnedStream → List AccessUnit → ℕ → Content
stream_content l us s = content_of l (place_at l 0 0 us (own_before l.own s))

-- what remains before an own slot: the units not sent whole, the own slots that the units before them took, and the number of their packets
pub record Left : Type 0 where
  pub free : ℕ
  pub number : ℕ
  pub units : List AccessUnit

unfoldable pub left_at : OwnedStream → ℕ → ℕ → ℕ → List AccessUnit → Left
left_at l p free number [] = record { free = free; number = number; units = [] }
left_at l p free number (u ∷ us) =
    cond (nat_lt p (end_slot l free u)) (record { free = free; number = number; units = u ∷ us })
    (left_at l p (end_slot l free u) (number + packet_count l u) us)

-- the number of packets of the first unit that are sent before own slot number p
unfoldable pub begun : OwnedStream → ℕ → ℕ → List AccessUnit → ℕ
begun l p free [] = 0
begun l p free (u ∷ us) = p - first_slot l free u

-- what remains when the slots before s are written
abbrev pub left_before : OwnedStream → ℕ → List AccessUnit → Left
left_before l s us = left_at l (own_before l.own s) 0 0 us

abbrev pub begun_before : OwnedStream → ℕ → List AccessUnit → ℕ
begun_before l s us = begun l (own_before l.own s) (left_before l s us).free (left_before l s us).units
