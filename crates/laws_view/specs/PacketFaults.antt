-- Faults that packets have by themselves (ETSI TR 101 290, 5.2.1, indicator 1.2, and 5.2.2, indicator 2.1), by their bytes.
--
-- Each law is an equation of lists: it gives the packets at which a fault is reported, their order and number, and so that no other is reported.
use Rattle.std.specs.Prelude.{◌≡◌, ℕ, ◌/◌, ◌%◌, ◌==◌, ◌&&◌, not, is_ok, if◌then◌else◌, Bool, List, [], ◌∷◌, length, map, filter, slice_index, None}
use Rattle.std.specs.List.{enumerate_from}
use Rattle.ts_packet.specs.Reading.{packet_at}
use Rattle.ts_packet.specs.PidList.{cut_packets}
use Rattle.monitor.specs.declared.fault.Rule.{Rule}
use Rattle.monitor.specs.declared.fault.Rule.TheVariants as rules
use Rattle.monitor.specs.Rules.{fault}
use Rattle.laws_view.specs.FaultsByRule.{monitored}

-- the indices of the packets that pass a test
abbrev pub packets_where : (List ℕ → Bool) → List ℕ → List ℕ
packets_where test bytes = map (λ p. p.0) (filter (λ p. test p.1) (enumerate_from 0 (cut_packets bytes)))

-- by a rule the report names the packets that pass a test, each once, without a PID, at any rate
abbrev pub NamesPackets : Rule → (List ℕ → Bool) → Type 0
NamesPackets rule test = (rate limit : ℕ) (bytes : List ℕ) → monitored rule rate limit bytes ≡ map (fault rule None) (packets_where test bytes)

-- 1.2 Sync_byte_error: sync_byte is not 0x47
abbrev pub has_sync_byte_error : List ℕ → Bool
has_sync_byte_error packet = not (slice_index packet 0 == 0x47)

-- the packet can be read: sync_byte is 0x47, adaptation_field_control is not reserved, and the adaptation field and its parts end within the
-- packet and the field (ISO/IEC 13818-1, 2.4.3.2 to 2.4.3.5)
abbrev pub is_readable : List ℕ → Bool
is_readable packet = is_ok (packet_at packet)

-- rule 2, which ETSI TR 101 290 does not have: sync_byte is 0x47, and the packet can't be read
abbrev pub is_unreadable : List ℕ → Bool
is_unreadable packet = (slice_index packet 0 == 0x47) && not (is_readable packet)

-- 2.1 Transport_error: transport_error_indicator, the first bit of byte 1, is 1
abbrev pub has_transport_error : List ℕ → Bool
has_transport_error packet = is_readable packet && (slice_index packet 1 / 128 % 2 == 1)

-- rule 15, which ETSI TR 101 290 does not have: at the end, if bytes remain after the last whole packet
abbrev pub EndLaw : Type 0
EndLaw = (rate limit : ℕ) (bytes : List ℕ) →
    monitored rules.Cut rate limit bytes ≡ (if length bytes % 188 == 0 then [] else fault rules.Cut None (length bytes / 188) ∷ [])
