-- The own slot of a stream that carries each part of each unit.
use Rattle.std.specs.Prelude.{◌≡◌, ℕ, ◌+◌, ◌-◌, ◌*◌, max, min, Bool, cond, nat_lt, Option, Some, None, List, [], ◌∷◌, ◌++◌, take, drop}
use Rattle.clock27.specs.Release.{release}
use Rattle.own_slots.specs.Slots.{own_before, own_slots}
use Rattle.unit_timing.specs.PesPacket.{PesPacket, packets_of_unit}

-- a transport packet of the stream: its slot, and the bytes of its payload
pub record Packet : Type 0 where
  pub slot : ℕ
  pub size : ℕ

-- the number of the own slot where a unit begins: none before its release, and none of the first `free`, which are taken
unfoldable pub first_slot : (ℕ → Bool) → ℕ → ℕ → ℕ → PesPacket → ℕ
first_slot own rate lead free unit = max free (own_before own (release rate lead unit.dts))

-- the payload bytes of packet number j of a unit of `size` bytes: 184, less the part of `front` that this packet holds; the last
-- packet has the remaining bytes
abbrev pub payload_size : ℕ → ℕ → ℕ → ℕ
payload_size front size j = min (184 - (front - 184 * j)) (size - (184 * j - front))

-- the payload bytes that own slot number i carries, none if it carries no packet of the stream
unfoldable pub payload_size_at : (ℕ → Bool) → ℕ → ℕ → ℕ → List PesPacket → ℕ → Option ℕ
payload_size_at own rate lead free [] i = None
payload_size_at own rate lead free (unit ∷ units) i =
    cond (nat_lt i (first_slot own rate lead free unit)) None
    (cond (nat_lt i (first_slot own rate lead free unit + packets_of_unit unit))
    (Some (payload_size unit.front unit.size (i - first_slot own rate lead free unit)))
    (payload_size_at own rate lead (first_slot own rate lead free unit + packets_of_unit unit) units i))

-- the packet in slot s, if the slot carries one
abbrev pub packet_in : ℕ → Option ℕ → List Packet
packet_in s None = []
packet_in s (Some size) = record { slot = s; size = size } ∷ []

-- the packets in these own slots, by what each own slot number carries
unfoldable pub packets_by_slot : (ℕ → Bool) → (ℕ → Option ℕ) → List ℕ → List Packet
packets_by_slot own carried [] = []
packets_by_slot own carried (s ∷ slots) = packet_in s (carried (own_before own s)) ++ packets_by_slot own carried slots

-- the packets that carry `size` bytes in these slots, `front` bytes in front of them: 184 with these, the last one the rest
unfoldable pub cut : ℕ → ℕ → List ℕ → List Packet
cut front size [] = []
cut front size (s ∷ slots) = record { slot = s; size = min (184 - front) size } ∷ cut (front - 184) (size - (184 - front)) slots

-- the packets of these units, one unit after another, if `slots` has the own slots of the run from number 0 on, and the first
-- `free` of them are taken
unfoldable pub packets_in_slots : (ℕ → Bool) → ℕ → ℕ → ℕ → List PesPacket → List ℕ → List Packet
packets_in_slots own rate lead free [] slots = []
packets_in_slots own rate lead free (unit ∷ units) slots =
    cut unit.front unit.size (take (packets_of_unit unit) (drop (first_slot own rate lead free unit) slots))
    ++ packets_in_slots own rate lead (first_slot own rate lead free unit + packets_of_unit unit) units slots

-- slot by slot and unit by unit the packets of a run of n slots are the same
abbrev pub SlotwiseLaw : Type 0
SlotwiseLaw = (own : ℕ → Bool) (rate lead n : ℕ) (units : List PesPacket) →
    packets_by_slot own (payload_size_at own rate lead 0 units) (own_slots own 0 n) ≡ packets_in_slots own rate lead 0 units (own_slots own 0 n)
