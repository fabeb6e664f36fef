-- PES packets of several access units, as audio often has: each access unit is removed from the main buffer at its own decoding
-- time, the first at the packet's stamp and together with the packet's header, each further one a fixed time after the one before
-- (ISO/IEC 13818-1, 2.4.2.3).
use Rattle.std.specs.Prelude.{◌≡◌, ℕ, ◌+◌, ◌-◌, ◌*◌, ◌<◌, ◌≤◌, min, Bool, cond, nat_lt, List, [], ◌∷◌, length, take, drop, map, count_by, slice_index_or, All}
use Rattle.std.specs.List.{sum}
use Rattle.own_slots.specs.Period.{own}
use Rattle.unit_timing.specs.declared.framing.Framing.{Framing}
use Rattle.unit_timing.specs.declared.framing.FrameDeclaration.{FrameDeclaration}
use Rattle.unit_timing.specs.declared.framing.LastBytes.{LastBytes}
use Rattle.unit_timing.specs.declared.framing.LastBytes.TheVariants.{Each, Sums}
use Rattle.unit_timing.specs.PesPacket.{PesPacket, Spaced}
use Rattle.unit_timing.specs.Transport.{NoneLeavesEarly}
use Rattle.unit_timing.specs.MainBuffer.{is_in_main_buffer}
use Rattle.unit_timing.specs.Plans.{Declaration, KeepsDeclaration, run_packets}
use Rattle.unit_timing.specs.Conditions.{IsProper, StreamClaim, Share, share_of, bytes_waiting, bytes_across, StreamConditions, StreamSwitchConditions}
use Rattle.unit_timing.specs.PlanLaws.{in_turn}

-- a PES packet and the sizes of its access units in order: together they are all bytes of the packet; its header is a part of the
-- first access unit
pub record FramedPacket : Type 0 where
  pub packet : PesPacket
  pub access_units : List ℕ

-- the bytes of one packet in the main buffer at the moment x, of access units that are `apart` units of 90 kHz after one
-- another, the first of them due at `due`; `left` has the departures of their bytes from the transport buffer
unfoldable pub access_units_held : ℕ → ℕ → ℕ → ℕ → ℕ → List ℕ → List ℕ → ℕ
access_units_held rate r x apart due [] left = 0
access_units_held rate r x apart due (size ∷ sizes) left =
    count_by (is_in_main_buffer rate r x due) (take size left) + access_units_held rate r x apart (due + apart) sizes (drop size left)

-- the bytes of all packets
unfoldable pub framed_fullness : ℕ → ℕ → ℕ → ℕ → List FramedPacket → List ℕ → ℕ
framed_fullness rate r x apart [] left = 0
framed_fullness rate r x apart (p ∷ packets) left =
    access_units_held rate r x apart p.packet.dts p.access_units (take p.packet.size left) + framed_fullness rate r x apart packets (drop p.packet.size left)

abbrev pub packets_of : List FramedPacket → List PesPacket
packets_of packets = map (λ p. p.packet) packets

-- ---- the declaration

-- the most bytes of the last j access units of a packet that has more than j
abbrev pub left_of : LastBytes → ℕ → ℕ
left_of (Each size) j = j * size
left_of (Sums sums) j = slice_index_or sums (j - 1) 0

-- a packet keeps the numbers of its access units and of their bytes. The first access unit, which has the header too, is not among
-- the last j: it is removed when the packet is due
pub record KeepsFraming (f : FrameDeclaration) (p : FramedPacket) : Type 0 where
  pub few : length p.access_units ≤ f.frames
  pub small : (j : ℕ) → 0 < j → j < length p.access_units → sum (drop (length p.access_units - j) p.access_units) ≤ left_of f.left j

-- when the last access unit of a packet is removed
abbrev pub last_removed : FrameDeclaration → FramedPacket → ℕ
last_removed f p = p.packet.dts + (length p.access_units - 1) * f.frame

-- the first packet is due no earlier than `from`, and each further one `rest` or more after the last access unit of the one before
unfoldable pub Followed : FrameDeclaration → ℕ → List FramedPacket → Type 0
Followed f from [] = Unit {0}
Followed f from (p ∷ packets) = (from ≤ p.packet.dts) × Followed f (last_removed f p + f.rest) packets

-- ---- the bytes that wait when j access units of a packet are left

-- the next packet is due at least this long after the moment
abbrev pub ahead_of : Declaration → FrameDeclaration → ℕ → ℕ
ahead_of s f j = min (f.rest + (j - 1) * f.frame) s.lead

-- the declaration with a lead that is shorter by `less`
abbrev pub led : Declaration → ℕ → Declaration
led s less = record s { lead = s.lead - less }

-- the bytes of the access units that are left, and the bytes of later packets, if these may have arrived
abbrev pub framed_waiting : ℕ → Declaration → FrameDeclaration → Share → ℕ → ℕ
framed_waiting rate s f own j =
    left_of f.left j + cond (nat_lt (ahead_of s f j) s.lead) (bytes_waiting rate (led s (ahead_of s f j)) own) 0

abbrev pub framed_across : ℕ → Declaration → FrameDeclaration → Share → Share → ℕ → ℕ
framed_across rate s f first second j =
    left_of f.left j + cond (nat_lt (ahead_of s f j) s.lead) (bytes_across rate (led s (ahead_of s f j)) first second) 0

-- ---- the law

-- besides the conditions of each stream: the waiting bytes find room in the main buffer when some access units of a packet have
-- been removed and j are left
abbrev pub FramedConditions : ℕ → Declaration → FrameDeclaration → Share → Type 0
FramedConditions rate s f own = (j : ℕ) → 0 < j → j < f.frames → framed_waiting rate s f own j ≤ s.main

abbrev pub FramedSwitchConditions : ℕ → Declaration → FrameDeclaration → Share → Share → Type 0
FramedSwitchConditions rate s f first second = (j : ℕ) → 0 < j → j < f.frames → framed_across rate s f first second j ≤ s.main

-- so the main buffer has room for access units that are removed one by one, at any moment, over one plan and over two in turn,
-- whenever bytes leave the transport buffer after their packet's slot has begun
pub record FramedLaw : Type 0 where
  pub one_plan : (rate : ℕ) (s : Declaration) (f : FrameDeclaration) (claim : StreamClaim) (marks : List Bool) (packets : List FramedPacket)
      (n x : ℕ) (left : List ℕ) → IsProper rate s → StreamConditions rate s claim marks → FramedConditions rate s f (share_of claim marks) →
      All (KeepsFraming f) packets → Followed f 0 packets → KeepsDeclaration s (packets_of packets) →
      NoneLeavesEarly s.drain (run_packets (own marks) rate s (packets_of packets) n) left → framed_fullness rate s.drain x f.frame packets left ≤ s.main
  pub two_plans : (rate : ℕ) (s : Declaration) (f : FrameDeclaration) (claim : StreamClaim) (first : List Bool) (next : StreamClaim)
      (second : List Bool) (periods : ℕ) (packets : List FramedPacket) (n x : ℕ) (left : List ℕ) → IsProper rate s → StreamConditions rate s claim first →
      StreamConditions rate s next second → StreamSwitchConditions rate s claim first next second →
      FramedSwitchConditions rate s f (share_of claim first) (share_of next second) → All (KeepsFraming f) packets → Followed f 0 packets →
      KeepsDeclaration s (packets_of packets) → NoneLeavesEarly s.drain (run_packets (in_turn first periods second) rate s (packets_of packets) n) left →
      framed_fullness rate s.drain x f.frame packets left ≤ s.main

-- ---- a declaration by the greatest access unit

-- every access unit but the first of a packet has at most `frame_size` bytes, and packets are at least the stream's interval apart
abbrev pub frame_declaration : ℕ → Framing → FrameDeclaration
frame_declaration interval f = record {
  frames = f.frames;
  frame = f.frame;
  rest = interval - (f.frames - 1) * f.frame;
  left = Each f.frame_size;
}

-- packets of such access units keep it, and follow one another as it says if they are due an interval apart; when i access units of
-- a packet of most access units have been removed, the next packet is due an interval after that packet
pub record FrameSizeLaw : Type 0 where
  pub kept : (interval : ℕ) (f : Framing) (p : FramedPacket) → length p.access_units ≤ f.frames →
      All (λ size. size ≤ f.frame_size) (drop 1 p.access_units) → KeepsFraming (frame_declaration interval f) p
  pub followed : (interval from : ℕ) (f : Framing) (packets : List FramedPacket) → (f.frames - 1) * f.frame ≤ interval →
      All (KeepsFraming (frame_declaration interval f)) packets → Spaced interval from (packets_of packets) →
      Followed (frame_declaration interval f) 0 packets
  pub ahead : (s : Declaration) (f : Framing) (i : ℕ) → (f.frames - 1) * f.frame ≤ s.interval → i < f.frames →
      ahead_of s (frame_declaration s.interval f) (f.frames - i) ≡ min (s.interval - i * f.frame) s.lead
