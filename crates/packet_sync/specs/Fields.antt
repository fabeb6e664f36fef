-- The fields of packets and of PES headers that are not written again (ISO/IEC 13818-1, 2.4.3.5 and 2.4.3.7).
use Rattle.std.specs.Prelude.{ℕ, ◌+◌, ◌*◌, ◌/◌, ◌%◌, ◌==◌, ◌&&◌, ◌||◌, not, nat_lt, nat_le, Bool, true, false, if◌then◌else◌, List, [], length, slice_index}
use Rattle.std.specs.Prelude.{slice_range}
use Rattle.pes_packet.specs.StreamIds.{has_flags}
use Rattle.packet_sync.specs.declared.field.Field.{Field}
use Rattle.packet_sync.specs.declared.field.Field.TheVariants.{TransportPriority, Discontinuity, RandomAccess, StreamPriority, OriginalClock, SpliceCountdown}
use Rattle.packet_sync.specs.declared.field.Field.TheVariants.{AdaptationPrivateData, AdaptationExtension, Alignment, Flags, Scrambling, LongHeader}
use Rattle.packet_sync.specs.declared.field.Field.TheVariants.{PrivateData, OtherHeaderData, UnreadHeader}

-- 1. The header and the adaptation field of a packet

-- transport_priority (ISO/IEC 13818-1, 2.4.3.3)
abbrev pub has_priority : List ℕ → Bool
has_priority packet = slice_index packet 1 / 32 % 2 == 1

-- the flag byte of the adaptation field; 0 if there is none, or an empty one
unfoldable pub adaptation_flags : List ℕ → ℕ
adaptation_flags packet = if slice_index packet 3 / 32 % 2 == 1 && not (slice_index packet 4 == 0) then slice_index packet 5 else 0

-- discontinuity_indicator
abbrev pub is_discontinuity : ℕ → Bool
is_discontinuity flags = flags / 128 % 2 == 1

-- random_access_indicator
abbrev pub is_random_access : ℕ → Bool
is_random_access flags = flags / 64 % 2 == 1

-- elementary_stream_priority_indicator
abbrev pub has_stream_priority : ℕ → Bool
has_stream_priority flags = flags / 32 % 2 == 1

-- OPCR_flag
abbrev pub has_original_clock : ℕ → Bool
has_original_clock flags = flags / 8 % 2 == 1

-- splicing_point_flag
abbrev pub has_splice_countdown : ℕ → Bool
has_splice_countdown flags = flags / 4 % 2 == 1

-- transport_private_data_flag
abbrev pub has_adaptation_private_data : ℕ → Bool
has_adaptation_private_data flags = flags / 2 % 2 == 1

-- adaptation_field_extension_flag
abbrev pub has_adaptation_extension : ℕ → Bool
has_adaptation_extension flags = flags % 2 == 1

-- 2. The payload where a PES packet begins

-- payload_unit_start_indicator and a payload, without transport_error_indicator, not scrambled
unfoldable pub is_clear_start : List ℕ → Bool
is_clear_start packet =
    slice_index packet 1 / 64 == 1
    && slice_index packet 3 / 64 == 0
    && slice_index packet 3 / 16 % 2 == 1

-- the place where the payload begins: after the four bytes of the header and an adaptation field
unfoldable pub payload_place : List ℕ → ℕ
payload_place packet = if slice_index packet 3 / 32 % 2 == 1 then 5 + slice_index packet 4 else 4

-- the payload; empty if no PES packet begins in it
unfoldable pub start_payload : List ℕ → List ℕ
start_payload packet = if is_clear_start packet && nat_le (payload_place packet) 188 then slice_range packet (payload_place packet) 188 else []

-- packet_start_code_prefix and a stream_id that flag bytes follow
unfoldable pub is_flagged : List ℕ → Bool
is_flagged p = slice_index p 0 == 0 && slice_index p 1 == 0 && slice_index p 2 == 1 && has_flags (slice_index p 3)

-- 3. Its PES header: two flag bytes, PES_header_data_length, and what they announce

-- PTS_DTS_flags announce no PTS: the PES packet continues a unit, and its marks belong to the unit's first PES packet
abbrev pub goes_on : List ℕ → Bool
goes_on p = nat_lt (slice_index p 7) 128

-- a PES header at the front of a payload whose PTS_DTS_flags announce a PTS: a unit begins with it; a header that continues in
-- another packet before its PTS_DTS_flags is taken to begin a unit, too
unfoldable pub begins_unit : List ℕ → Bool
begins_unit p = if nat_lt (length p) 9 then not (length p == 0) else is_flagged p && not (goes_on p)

-- data_alignment_indicator
abbrev pub is_aligned : List ℕ → Bool
is_aligned p = slice_index p 6 / 4 % 2 == 1

-- PES_priority, copyright, original_or_copy
abbrev pub has_other_flags : List ℕ → Bool
has_other_flags p = slice_index p 6 / 8 % 2 == 1 || not (slice_index p 6 % 4 == 0)

-- PES_scrambling_control
abbrev pub is_scrambled : List ℕ → Bool
is_scrambled p = not (slice_index p 6 / 16 % 4 == 0)

-- 36 bytes of header data in private_stream_1: the header of teletext (EN 300 472, 4.2) and of VBI data (EN 301 775, 4.3)
abbrev pub is_long : List ℕ → Bool
is_long p = slice_index p 3 == 189 && slice_index p 8 == 36

-- the place of the flags of PES_extension: after PTS and DTS, ESCR, ES_rate, DSM_trick_mode, additional_copy_info, PES_CRC
unfoldable pub extension_place : ℕ → ℕ
extension_place flags =
    9 + flags / 128 * 5 + flags / 64 % 2 * 5 + flags / 32 % 2 * 6 + flags / 16 % 2 * 3 + flags / 8 % 2 + flags / 4 % 2 + flags / 2 % 2 * 2

-- these flags; 0 if there are none
unfoldable pub extension_flags : List ℕ → ℕ
extension_flags p =
    if slice_index p 7 % 2 == 1 && nat_lt (extension_place (slice_index p 7)) (9 + slice_index p 8) && nat_lt (extension_place (slice_index p 7)) (length p)
    then slice_index p (extension_place (slice_index p 7)) else 0

-- PES_private_data_flag
abbrev pub has_private_data : ℕ → Bool
has_private_data extension = extension / 128 == 1

-- the header data end before the 16 bytes of PES_private_data do
abbrev pub lacks_private_data : List ℕ → Bool
lacks_private_data p = nat_lt (9 + slice_index p 8) (extension_place (slice_index p 7) + 17)

-- PES_private_data that no unit carries: in a PES packet that continues a unit, or cut short
abbrev pub loses_private_data : List ℕ → Bool
loses_private_data p = has_private_data (extension_flags p) && (goes_on p || lacks_private_data p)

-- ESCR, ES_rate, DSM_trick_mode, additional_copy_info, PES_CRC; of the extension pack_header, program_packet_sequence_counter,
-- P-STD_buffer and PES_extension_flag_2
abbrev pub has_other_data : ℕ → ℕ → Bool
has_other_data flags extension = not (flags / 2 % 32 == 0) || not (extension / 16 % 8 == 0) || extension % 2 == 1

-- the header continues in another packet
abbrev pub is_cut : List ℕ → Bool
is_cut p = nat_lt (length p) (9 + slice_index p 8)

-- 4. What a receiver loses

-- a viewer may lose something without it
unfoldable pub is_loss : Field → Bool
is_loss Scrambling = true
is_loss LongHeader = true
is_loss PrivateData = true
is_loss UnreadHeader = true
is_loss _ = false

-- the number of a field
unfoldable pub number_of : Field → ℕ
number_of TransportPriority = 0
number_of Discontinuity = 1
number_of RandomAccess = 2
number_of StreamPriority = 3
number_of OriginalClock = 4
number_of SpliceCountdown = 5
number_of AdaptationPrivateData = 6
number_of AdaptationExtension = 7
number_of Alignment = 8
number_of Flags = 9
number_of Scrambling = 10
number_of LongHeader = 11
number_of PrivateData = 12
number_of OtherHeaderData = 13
number_of UnreadHeader = 14

-- the field is in the header or the adaptation field of a packet, and not in a PES header
abbrev pub is_of_packet : Field → Bool
is_of_packet field = nat_lt (number_of field) 8
