-- A stream at a constant rate that carries the PES packets of units on a PID, whoever wrote it, and whose clock goes with the rate (ISO/IEC
-- 13818-1, 2.4.2 and 2.4.3).
use Rattle.std.specs.Prelude.{◌≡◌, ℕ, ◌+◌, ◌*◌, ◌/◌, ◌%◌, ◌≤◌, Bool, true, false, IsTrue, is_some, List, [], ◌∷◌, length, map, take, replicate, count_by}
use Rattle.std.specs.Prelude.{slice_get, unwrap_or, Some, All}
use Rattle.std.specs.List.{concat, flat_map}
use Rattle.ts_packet.specs.PidList.{Entry, pid_list, payload_of}
use Rattle.pes_packet.specs.AccessUnits.{AccessUnit}
use Rattle.pes_packet.specs.Encoding.{header_size, pes_packet_bytes}
use Rattle.pes_packet.specs.StreamIds.{fits_packet}
use Rattle.arrival.specs.declared.clock.PcrSample.{PcrSample}
use Rattle.arrival.specs.Clock.{pcr_period}
use Rattle.es_events.specs.Clocks.{longest_stay, tick_of}
use Rattle.laws_view.specs.StreamPackets.{Before, Followed, clocks_seen}

-- ---- the PES packets of units, in payloads

-- a payload: whether a PES packet begins with its first byte, and its bytes
pub record BegunPayload : Type 0 where
  pub start : Bool
  pub bytes : List ℕ

-- the payload of a packet, whatever its random_access_indicator
abbrev pub payload_in : Entry → BegunPayload
payload_in e = record { start = e.packet.header.payload_unit_start_indicator; bytes = payload_of e.packet }

-- payloads; with `start` a PES packet begins in the first payload, in no other
unfoldable pub begun : Bool → List (List ℕ) → List BegunPayload
begun start [] = []
begun start (bytes ∷ rest) = record { start = start; bytes = bytes } ∷ begun false rest

-- a unit, and the payloads that carry its PES packet
pub record CutUnit : Type 0 where
  pub unit : AccessUnit
  pub payloads : List (List ℕ)

-- joined they are the PES packet, and the first has its header whole; none has more bytes than a packet has room for
pub record IsCut (id base0 : ℕ) (c : CutUnit) : Type 0 where
  pub fits : IsTrue (fits_packet id (length c.unit.bytes))
  pub joined : concat c.payloads ≡ pes_packet_bytes id base0 c.unit
  pub header : header_size c.unit.marks (c.unit.pts + base0) (c.unit.dts + base0) ≤ length (unwrap_or (slice_get c.payloads 0) [])
  pub most : All (λ b. length b ≤ 184) c.payloads

-- the units; all payloads, where a unit's first payload begins its PES packet; and for each payload its unit
abbrev pub cut_units : List CutUnit → List AccessUnit
cut_units cuts = map (λ c. c.unit) cuts

abbrev pub cut_pieces : List CutUnit → List BegunPayload
cut_pieces cuts = flat_map (λ c. begun true c.payloads) cuts

abbrev pub cut_senders : List CutUnit → List AccessUnit
cut_senders cuts = flat_map (λ c. replicate (length c.payloads) c.unit) cuts

-- the packets of a PID carry these payloads in order, up to the end of the stream: each packet the next payload, a packet without a payload no
-- byte; the continuity_counter of each packet with a payload follows the counter of the packet with a payload before it
pub record CarriesUnits (id base0 pid : ℕ) (cuts : List CutUnit) (bytes : List ℕ) : Type 0 where
  pub cut : All (IsCut id base0) cuts
  pub pieces : map payload_in (pid_list pid bytes) ≡ take (length (pid_list pid bytes)) (cut_pieces cuts)
  pub first : ℕ
  pub counters : (j : ℕ) (e : Entry) → slice_get (pid_list pid bytes) j ≡ Some e → is_some e.packet.payload ≡ true →
      e.packet.header.continuity_counter ≡ (first + count_by (λ p. is_some p.packet.payload) (take j (pid_list pid bytes))) % 16

-- ---- its clock

-- a clock reference has the value, at its byte, of a clock that shows `base0`, in units of 90 kHz, at the stream's first byte; and the unit
-- is due at most a minute after it, the longest stay of a unit, and at most half a period of the clock before it
pub record GoesBy (rate base0 : ℕ) (clock : PcrSample) (u : AccessUnit) : Type 0 where
  pub agrees : clock.ticks % pcr_period ≡ (tick_of rate clock + 300 * base0) % pcr_period
  pub soon : 300 * u.dts ≤ tick_of rate clock + longest_stay
  pub late : tick_of rate clock ≤ 300 * u.dts + pcr_period / 2

-- each unit that begins in one of these packets of the PID goes by the program's last clock reference at that packet, if there is one; `packets`
-- are all packets from the first packet after the state `b`
abbrev pub KeepsClock : Followed → Before → ℕ → ℕ → List CutUnit → List Entry → List (List ℕ) → Type 0
KeepsClock f b rate base0 cuts entries packets = (j : ℕ) (e : Entry) (u : AccessUnit) (clock : PcrSample) → slice_get entries j ≡ Some e →
    slice_get (cut_senders cuts) j ≡ Some u →
    e.packet.header.payload_unit_start_indicator ≡ true → slice_get (clocks_seen f b packets) j ≡ Some (Some clock) → GoesBy rate base0 clock u
