-- What a packet does with its payload (ISO/IEC 13818-1, 2.4.3.3, 2.4.3.6 and 2.4.4).
use Rattle.std.specs.Prelude.{ℕ, ◌==◌, nat_lt, Bool, true, false, if◌then◌else◌, List, [], ◌∷◌, length, take, drop, Option, Some, None}
use Rattle.std.specs.List.{zip, list_all}
use Rattle.ts_packet.specs.declared.start.Start.{Start}
use Rattle.ts_packet.specs.declared.start.Start.TheVariants.{Continues, Begins, Access}
use Rattle.ts_packet.specs.Beginnings.{start_in}
use Rattle.ts_packet.specs.Views.{PacketView}
use Rattle.pid_findings.specs.Marks.{Marked}

pub data Role : Type 0 where
  -- the packet has no payload, or repeats one
  NoPayload : Role
  -- the packet's payload is scrambled
  ScrambledPayload : Role
  -- a PES packet begins at the payload's first byte; whether the packet has the random_access_indicator (2.4.3.5)
  PesStart : Bool → List ℕ → Role
  -- pointer_field points to a place in the payload: the bytes before that place, and the bytes from it on
  SectionStart : List ℕ → List ℕ → Role
  -- pointer_field points past the end
  PointerPastEnd : Role
  -- the payload continues the open unit
  Continuation : List ℕ → Role

-- packet_start_code_prefix, or the beginning of it if the payload is shorter
abbrev pub may_begin_pes : List ℕ → Bool
may_begin_pes payload = list_all (λ p. p.0 == p.1) (zip (0x00 ∷ 0x00 ∷ 0x01 ∷ []) payload)

-- pointer_field and the bytes after it
unfoldable pub role_by_pointer : List ℕ → Role
role_by_pointer [] = PointerPastEnd
role_by_pointer (n ∷ bytes) = if nat_lt (length bytes) n then PointerPastEnd else SectionStart (take n bytes) (drop n bytes)

-- the payload of a packet with the payload_unit_start_indicator
abbrev pub role_of_start : Bool → List ℕ → Role
role_of_start access payload = if may_begin_pes payload then PesStart access payload else role_by_pointer payload

unfoldable pub role_by : Start → Option (List ℕ) → Role
role_by start None = NoPayload
role_by Continues (Some payload) = Continuation payload
role_by Begins (Some payload) = role_of_start false payload
role_by Access (Some payload) = role_of_start true payload

unfoldable pub role_of : PacketView → Role
role_of packet = if packet.header.transport_scrambling_control == 0 then role_by (start_in packet) packet.payload else ScrambledPayload

-- a duplicate is read no further
unfoldable pub role : Marked → Role
role m = if m.duplicate then NoPayload else role_of m.entry.packet

-- a break, a scrambled packet and a start start_unit the packets into stretches
abbrev pub role_divides : Role → Bool
role_divides NoPayload = false
role_divides (Continuation payload) = false
role_divides _ = true
