-- Why bytes can't be measured, and which refusal is the answer.
use Rattle.std.specs.Prelude.{◌≡◌, ⊤, ℕ, ◌+◌, ◌%◌, ◌==◌, ◌&&◌, nat_le, Bool, true, false, List, [], ◌∷◌, length, slice_get, Option, Some, None, Result, Ok, Err}
use Rattle.std.specs.Prelude.{if◌then◌else◌}
use Rattle.std.specs.List.{list_all}
use Rattle.std.specs.Option.{option_or}
use Rattle.description_parts.specs.Described.{Described, DescribedStream}
use Rattle.pes_packet.specs.AccessUnits.{AccessUnit}
use Rattle.ts_packet.specs.declared.packet.PacketError.{PacketError}
use Rattle.ts_packet.specs.Views.{PacketView}
use Rattle.ts_packet.specs.Reading.{packet_at}
use Rattle.ts_packet.specs.PidList.{cut_packets}
use Rattle.pes_packet.specs.Units.{units_of}
use Rattle.tstd.specs.Carried.{carries}
use Rattle.tstd.specs.declared.refusal.MeasureError.{MeasureError}
use Rattle.tstd.specs.declared.refusal.MeasureError.TheVariants.{Length, Packet, Carried, Memory}

-- a packet that can't be read, or otherwise the refusal of a later packet
abbrev pub unreadable_or : ℕ → Result PacketView PacketError → Option MeasureError → Option MeasureError
unreadable_or index (Err error) later = Some (Packet index error)
unreadable_or index (Ok packet) later = later

-- the first of these packets that can't be read; the first has this index
unfoldable pub first_unreadable : ℕ → List (List ℕ) → Option MeasureError
first_unreadable index [] = None
first_unreadable index (packet ∷ packets) = unreadable_or index (packet_at packet) (first_unreadable (index + 1) packets)

-- a unit of this size is within the declaration of its stream, if there is such a stream
abbrev pub is_within : ℕ → Option DescribedStream → Bool
is_within size None = false
is_within size (Some s) = nat_le 1 size && nat_le size s.size

-- a unit names a stream of the description and has from one byte to the stream's greatest size
abbrev pub is_declared : Described → ℕ × AccessUnit → Bool
is_declared d unit = is_within (length unit.1.bytes) (slice_get d.streams unit.0)

-- each of these streams, which have the numbers from `number` on, carries a beginning of its units
unfoldable pub all_carried : Described → List (ℕ × AccessUnit) → List ℕ → ℕ → List DescribedStream → Bool
all_carried d units bytes number [] = true
all_carried d units bytes number (s ∷ streams) =
    carries s.pid s.stream_id d.base0 (units_of number units) bytes && all_carried d units bytes (number + 1) streams

-- the bytes carry these units
abbrev pub are_carried : Described → List (ℕ × AccessUnit) → List ℕ → Bool
are_carried d units bytes = list_all (is_declared d) units && all_carried d units bytes 0 d.streams

-- the first reason why the bytes can't be measured
abbrev pub unless_carried : Bool → Option MeasureError
unless_carried true = None
unless_carried false = Some Carried

abbrev pub cause : Described → List (ℕ × AccessUnit) → List ℕ → Option MeasureError
cause d units bytes =
    if length bytes % 188 == 0 then option_or (first_unreadable 0 (cut_packets bytes)) (unless_carried (are_carried d units bytes))
    else Some Length

-- a measurement is refused exactly if there is such a reason, and for this reason; memory may run out earlier
abbrev pub Answers : {V : Type 0} → Result V MeasureError → Option MeasureError → Type 0
Answers (Ok value) reason = reason ≡ None
Answers (Err Memory) reason = ⊤
Answers (Err error) reason = reason ≡ Some error
