-- Laws of captures.
use Rattle.std.specs.Prelude.{◌≡◌, ℕ, ◌%◌, List, [], ◌∷◌, ◌++◌, length, map, None}
use Rattle.ts_packet.specs.PidList.{cut_packets}
use Rattle.packet_sync.specs.Laws.{IsInStep}
use Rattle.packet_sync.specs.OtherPackets.{other_packets}
use Rattle.packet_sync.specs.Slips.{carried, slips}
use Rattle.packet_sync.specs.declared.slip.Slip.{Slip}
use Rattle.capture.specs.Captures.{Capture, IsPacket, IsSize, IsSlip, IsStamped, Part, capture_of}

-- a stream in step from its first byte on is read as it is
pub record IsReadAsItIs (bs : List ℕ) : Type 0 where
  pub parts : (capture_of bs).parts ≡ map IsPacket (cut_packets bs)
  pub rest : length (capture_of bs).rest ≡ length bs % 188

abbrev pub InStepAsItIs : Type 0
InStepAsItIs = (bs : List ℕ) → IsInStep bs → IsReadAsItIs bs

-- the bytes of packets, and the slips among parts
unfoldable pub packet_bytes : List Part → List ℕ
packet_bytes [] = []
packet_bytes (IsPacket bytes ∷ parts) = bytes ++ packet_bytes parts
packet_bytes (IsStamped head bytes ∷ parts) = bytes ++ packet_bytes parts
packet_bytes (IsSlip s ∷ parts) = packet_bytes parts
packet_bytes (IsSize other ∷ parts) = packet_bytes parts

unfoldable pub slips_among : List Part → List Slip
slips_among [] = []
slips_among (IsPacket bytes ∷ parts) = slips_among parts
slips_among (IsStamped head bytes ∷ parts) = slips_among parts
slips_among (IsSlip s ∷ parts) = s ∷ slips_among parts
slips_among (IsSize other ∷ parts) = slips_among parts

-- for packets of 188 bytes: the bytes that are carried, and the slips
pub record IsOfSync (bs : List ℕ) : Type 0 where
  pub carried_is : packet_bytes (capture_of bs).parts ++ (capture_of bs).rest ≡ carried bs
  pub slips_are : slips_among (capture_of bs).parts ≡ slips bs

abbrev pub CarriedAndSlips : Type 0
CarriedAndSlips = (bs : List ℕ) → other_packets bs ≡ None → IsOfSync bs
