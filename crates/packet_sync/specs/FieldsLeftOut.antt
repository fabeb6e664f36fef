-- The fields that are not written again, each once for a PID, in packets that are in step.
use Rattle.std.specs.Prelude.{ℕ, zero, suc, ◌+◌, ◌*◌, ◌%◌, ◌==◌, ◌&&◌, not, nat_lt, Bool, true, if◌then◌else◌, List, [], ◌∷◌, ◌++◌, length, slice_index}
use Rattle.std.specs.Prelude.{slice_range, Option, None, Some}
use Rattle.std.specs.List.{list_any}
use Rattle.packet_sync.specs.Slips.{slip_size}
use Rattle.packet_sync.specs.Fields.{adaptation_flags, begins_unit, extension_flags, goes_on, has_adaptation_extension, has_adaptation_private_data}
use Rattle.packet_sync.specs.Fields.{has_original_clock, has_other_data, has_other_flags, has_priority, has_splice_countdown, has_stream_priority, is_aligned}
use Rattle.packet_sync.specs.Fields.{is_cut, is_discontinuity, is_flagged, is_long, is_random_access, is_scrambled, loses_private_data, number_of}
use Rattle.packet_sync.specs.Fields.{start_payload}
use Rattle.packet_sync.specs.declared.field.Field.{Field}
use Rattle.packet_sync.specs.declared.field.Field.TheVariants.{TransportPriority, Discontinuity, RandomAccess, StreamPriority, OriginalClock, SpliceCountdown}
use Rattle.packet_sync.specs.declared.field.Field.TheVariants.{AdaptationPrivateData, AdaptationExtension, Alignment, Flags, Scrambling, LongHeader}
use Rattle.packet_sync.specs.declared.field.Field.TheVariants.{PrivateData, OtherHeaderData, UnreadHeader}
use Rattle.packet_sync.specs.declared.left_out.FieldLeftOut.{FieldLeftOut}

-- 1. One packet

unfoldable pub pid_of : List ℕ → ℕ
pid_of packet = slice_index packet 1 % 32 * 256 + slice_index packet 2

-- a field with this number is there, for this PID
abbrev pub has_field : List FieldLeftOut → ℕ → ℕ → Bool
has_field found pid number = list_any (λ f. f.pid == pid && number_of f.field == number) found

-- the field of this PID is there already
abbrev pub is_noted : List FieldLeftOut → ℕ → Field → Bool
is_noted found pid field = has_field found pid (number_of field)

-- `found`, with a field of a PID if it is in the packet and not noted yet
unfoldable pub with_field : ℕ → Field → Bool → List FieldLeftOut → List FieldLeftOut
with_field pid field present found = if present && not (is_noted found pid field) then found ++ record { pid = pid; field = field } ∷ [] else found

-- with the indicators and the clock reference of an adaptation field; the random_access_indicator of a unit's first packet is carried
unfoldable pub with_indicators : ℕ → ℕ → Bool → List FieldLeftOut → List FieldLeftOut
with_indicators pid flags begins found =
    with_field pid OriginalClock (has_original_clock flags)
    (with_field pid StreamPriority (has_stream_priority flags)
    (with_field pid RandomAccess (is_random_access flags && not begins) (with_field pid Discontinuity (is_discontinuity flags) found)))

-- with the data of an adaptation field
unfoldable pub with_adaptation_data : ℕ → ℕ → List FieldLeftOut → List FieldLeftOut
with_adaptation_data pid flags found =
    with_field pid AdaptationExtension (has_adaptation_extension flags)
    (with_field pid AdaptationPrivateData (has_adaptation_private_data flags) (with_field pid SpliceCountdown (has_splice_countdown flags) found))

-- with both
abbrev pub with_adaptation : ℕ → ℕ → Bool → List FieldLeftOut → List FieldLeftOut
with_adaptation pid flags begins found = with_adaptation_data pid flags (with_indicators pid flags begins found)

-- `found`, with the fields of the first flag byte of a PES header; the flags of the first PES packet of a unit are carried
unfoldable pub with_flags : ℕ → List ℕ → List FieldLeftOut → List FieldLeftOut
with_flags pid p found =
    with_field pid Scrambling (is_scrambled p)
    (with_field pid Flags (goes_on p && has_other_flags p) (with_field pid Alignment (goes_on p && is_aligned p) found))

-- `found`, with the fields of the PES header's data; a long header and PES_private_data of the first PES packet of a unit are
-- carried
unfoldable pub with_data : ℕ → List ℕ → List FieldLeftOut → List FieldLeftOut
with_data pid p found =
    with_field pid UnreadHeader (is_cut p)
    (with_field pid OtherHeaderData (has_other_data (slice_index p 7) (extension_flags p))
    (with_field pid PrivateData (loses_private_data p) (with_field pid LongHeader (goes_on p && is_long p) found)))

-- `found`, with the fields of the PES header at the front of a payload; a header that is cut before its header data is not read
unfoldable pub with_header : ℕ → List ℕ → List FieldLeftOut → List FieldLeftOut
with_header pid p found =
    if length p == 0 then found
    else (if nat_lt (length p) 9 then with_field pid UnreadHeader true found
    else (if is_flagged p then with_data pid p (with_flags pid p found) else found))

-- `found`, with the fields of a packet
unfoldable pub with_packet : List ℕ → List FieldLeftOut → List FieldLeftOut
with_packet packet found =
    with_header (pid_of packet) (start_payload packet)
    (with_adaptation (pid_of packet) (adaptation_flags packet) (begins_unit (start_payload packet))
    (with_field (pid_of packet) TransportPriority (has_priority packet) found))

-- 2. All packets

-- the packet at a place
abbrev pub packet_at : List ℕ → ℕ → List ℕ
packet_at bs at = slice_range bs at (at + 188)

-- `found`, with the packet at this place, or none if a slip is there, and then with the packets after it
unfoldable pub with_next : List ℕ → Option ℕ → ℕ → List FieldLeftOut → (ℕ → List FieldLeftOut → List FieldLeftOut) → List FieldLeftOut
with_next bs None at found after = after (at + 188) (with_packet (packet_at bs at) found)
with_next bs (Some size) at found after = after (at + size) found

-- from a place on, in at most n steps
unfoldable pub fields_from : ℕ → List ℕ → ℕ → List FieldLeftOut → List FieldLeftOut
fields_from zero bs at found = found
fields_from (suc n) bs at found = if nat_lt (length bs) (at + 188) then found else with_next bs (slip_size bs at) at found (fields_from n bs)

-- each step takes a byte at least
unfoldable pub fields_left_out : List ℕ → List FieldLeftOut
fields_left_out bs = fields_from (length bs) bs 0 []

-- 3. Packets one after another

-- `found`, with the fields of the first n packets of bytes that are in step
unfoldable pub with_packets : ℕ → List ℕ → List FieldLeftOut → List FieldLeftOut
with_packets zero bs found = found
with_packets (suc n) bs found = with_packet (packet_at bs (188 * n)) (with_packets n bs found)
