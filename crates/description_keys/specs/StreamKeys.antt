-- The keys of a table of the array `stream`.
use Rattle.std.specs.Prelude.{ℕ, pos, ◌+◌, ◌-◌, ◌*◌, ◌/◌, max, ◌&&◌, ◌||◌, ◌==◌, not, nat_le, Bool, true, false, List, [], ◌∷◌, ◌++◌, length, Option, None, Some}
use Rattle.std.specs.Prelude.{codes, is_none, is_some, unwrap_or, option_and_then, replicate, if◌then◌else◌}
use Rattle.std.specs.List.{list_any, list_all, filter_map}
use Rattle.toml.specs.Data.{Data, get}
use Rattle.unit_timing.specs.declared.allowance.Allowance.{Allowance}
use Rattle.unit_timing.specs.declared.allowance.Allowance.TheVariants as allowance
use Rattle.unit_timing.specs.declared.framing.FrameDeclaration.{FrameDeclaration}
use Rattle.unit_timing.specs.declared.framing.LastBytes.{LastBytes}
use Rattle.unit_timing.specs.declared.framing.LastBytes.TheVariants.{Each, Sums}
use Rattle.unit_timing.specs.declared.multiplexing_buffer.MultiplexingBuffer.{MultiplexingBuffer}
use Rattle.description_values.specs.Values.{at_key, integer_in, integer_at, integer_or, optional_integer, optional_language, descriptors_or_none, elements}
use Rattle.description_values.specs.Values.{array_in, is_distinct}
use Rattle.description_keys.specs.ProgramKeys.{has_number}
use Rattle.description_keys.specs.Rules.{Rule, needs, rule}
use Rattle.description_keys.specs.TopKeys.{limit_in}
use Rattle.description_keys.specs.declared.key_row.KeyPart.TheVariants as part

-- the number of the program that a stream or an event belongs to
abbrev pub owner_number : Data → Option ℕ
owner_number = integer_at (codes "program") (pos 1) (pos 65535)

-- a program of the document has that number
abbrev pub declares : Data → ℕ → Bool
declares document number = list_any (has_number number) (elements (codes "program") document)

abbrev pub has_owner : Data → Data → Bool
has_owner document part = elim (owner_number part) [ None ↦ false | Some number ↦ declares document number ]

-- it names the program of that number
abbrev pub is_owned_by : ℕ → Data → Bool
is_owned_by number part = elim (owner_number part) [ None ↦ false | Some n ↦ n == number ]

abbrev pub stream_pid : Data → Option ℕ
stream_pid = integer_at (codes "pid") (pos 32) (pos 8190)

-- stream_id (ISO/IEC 13818-1, table 2-22): private_stream_1, audio or video
abbrev pub is_stream_id : ℕ → Bool
is_stream_id id = id == 189 || nat_le 192 id

abbrev pub stream_id : Data → Option ℕ
stream_id stream = option_and_then (λ id. if is_stream_id id then Some id else None) (integer_at (codes "id") (pos 189) (pos 239) stream)

abbrev pub is_audio_id : ℕ → Bool
is_audio_id id = nat_le 192 id && nat_le id 223

abbrev pub is_video_id : ℕ → Bool
is_video_id id = nat_le 224 id

-- the stream_id, or 189 (private_stream_1) if it is refused
abbrev pub id_or_private : Data → ℕ
id_or_private stream = unwrap_or (stream_id stream) 189

-- stream_type (ISO/IEC 13818-1, table 2-34)
abbrev pub stream_type : Data → Option ℕ
stream_type = integer_at (codes "type") (pos 0) (pos 255)

-- the least time between two units, in units of 90 kHz
abbrev pub stream_interval : Data → Option ℕ
stream_interval = integer_at (codes "interval") (pos 1) (pos 90000)

-- the greatest unit, in bytes: only video may pass what PES_packet_length counts (ISO/IEC 13818-1, 2.4.3.7)
abbrev pub greatest_size : Data → ℕ
greatest_size stream = if is_video_id (id_or_private stream) then 4000000 else 65522

abbrev pub stream_size : Data → Option ℕ
stream_size stream = integer_at (codes "size") (pos 1) (pos (greatest_size stream)) stream

-- the greatest time from the arrival of a unit to its decoding, in units of 90 kHz
abbrev pub stream_lead : Data → Option ℕ
stream_lead = integer_at (codes "lead") (pos 1) (pos 90000)

-- the greatest time from the decoding of a unit to its presentation, in units of 90 kHz: a second if the key is absent. The longest
-- stay of data in the decoder model is a second, of AVC and HEVC 10, of still pictures 60 (ISO/IEC 13818-1, 2.4.2.6 and 2.14.3.1)
abbrev pub stream_pts_limit : Data → Option ℕ
stream_pts_limit = integer_or 90000 (codes "pts_limit") (pos 1) (pos 5400000)

-- the rate of the transport buffer in bits a second, and the main buffer in bytes (ISO/IEC 13818-1, 2.4.2): both are
-- there, or neither, which only audio may leave out: it then has 2,000,000 bits a second and 3,584 bytes
abbrev pub leaves_out_buffers : Data → Bool
leaves_out_buffers stream = is_audio_id (id_or_private stream) && is_none (get (codes "main") stream)

abbrev pub stream_rx : Data → Option ℕ
stream_rx stream = at_key (codes "rx") (if leaves_out_buffers stream then Some 2000000 else None) (integer_in (pos 64000) (pos 200000000)) stream

abbrev pub stream_main : Data → Option ℕ
stream_main stream = at_key (codes "main") (if is_none (get (codes "rx") stream) then Some 3584 else None) (integer_in (pos 1) (pos 10000000)) stream

-- component_tag (EN 300 468, 6.2.40)
abbrev pub stream_tag : Data → Option (Option ℕ)
stream_tag = optional_integer (codes "tag") (pos 0) (pos 255)

abbrev pub stream_language : Data → Option (Option (List ℕ))
stream_language = optional_language (codes "language")

abbrev pub stream_descriptors : Data → Option (List ℕ)
stream_descriptors = descriptors_or_none 700 (codes "descriptors")

-- how many successive units are counted together
abbrev pub stream_group : Data → Option ℕ
stream_group = integer_or 1 (codes "group") (pos 1) (pos 64)

-- the packets of a unit of the greatest size, with the longest PES header of 19 bytes
abbrev pub unit_packets : Data → ℕ
unit_packets stream = (19 + unwrap_or (stream_size stream) 1 + 183) / 184

-- the packets of a group of units of the greatest size
abbrev pub greatest_group_packets : Data → ℕ
greatest_group_packets stream = unwrap_or (stream_group stream) 1 * unit_packets stream

abbrev pub stream_group_packets : Data → Option ℕ
stream_group_packets stream =
    integer_or (greatest_group_packets stream) (codes "group_packets") (pos (unit_packets stream)) (pos (greatest_group_packets stream)) stream

-- the packets are declared by time if the stream has one of these keys, otherwise by groups
abbrev pub is_paced : Data → Bool
is_paced stream = is_some (get (codes "burst_packets") stream) || is_some (get (codes "pace") stream)

-- by time: the packets that units in a row may have beyond the packets of the pace, in bits a second of whole packets
abbrev pub stream_burst_packets : Data → Option ℕ
stream_burst_packets stream = integer_at (codes "burst_packets") (pos (unit_packets stream)) (pos 100000) stream

abbrev pub stream_pace : Data → Option ℕ
stream_pace = integer_at (codes "pace") (pos 1) (pos 100000000)

-- the declared allowance, with the least value of its range for each key that is refused
abbrev pub stream_allowance : Data → Allowance
stream_allowance stream = if is_paced stream
    then allowance.Pace (unwrap_or (stream_burst_packets stream) (unit_packets stream)) (unwrap_or (stream_pace stream) 1)
    else allowance.Groups (unwrap_or (stream_group stream) 1) (unwrap_or (stream_group_packets stream) (unit_packets stream))

-- if the packets are declared by time, keys of groups are refused, and both keys of time are required
abbrev pub refuses_group : Data → Bool
refuses_group stream = if is_paced stream then is_some (get (codes "group") stream) else is_none (stream_group stream)

abbrev pub refuses_group_packets : Data → Bool
refuses_group_packets stream = if is_paced stream then is_some (get (codes "group_packets") stream) else is_none (stream_group_packets stream)

abbrev pub refuses_burst_packets : Data → Bool
refuses_burst_packets stream = is_paced stream && is_none (stream_burst_packets stream)

abbrev pub refuses_pace : Data → Bool
refuses_pace stream = is_paced stream && is_none (stream_pace stream)

-- the programs, other than its own, whose PMTs name it: up to 15 numbers of declared programs, with `transponder` up to 63, each once
abbrev pub number_in : Data → Option ℕ
number_in = integer_in (pos 1) (pos 65535)

abbrev pub names_another : Data → Data → Data → Bool
names_another document stream d = elim (number_in d) [ None ↦ false | Some number ↦ declares document number && not (is_owned_by number stream) ]

abbrev pub are_sharers : Data → Data → Data → Bool
are_sharers document stream d = elim (array_in d) [
  | None ↦ false
  | Some ds ↦ nat_le (length ds) (limit_in document 15 63) && (list_all (names_another document stream) ds && is_distinct (filter_map number_in ds))
]

abbrev pub has_sharers : Data → Data → Bool
has_sharers document stream = elim (get (codes "shared_with") stream) [ None ↦ true | Some value ↦ are_sharers document stream value ]

abbrev pub sharers_of : List Data → List ℕ
sharers_of ds = if nat_le (length ds) 63 then filter_map number_in ds else []

abbrev pub stream_sharers : Data → List ℕ
stream_sharers stream = sharers_of (elements (codes "shared_with") stream)

-- the multiplexing buffer MB (ISO/IEC 13818-1, 2.4.2.3): `rbx` is the rate of its leak into the elementary stream buffer
-- EB in bits a second, `mb` its size in bytes. A stream has both keys, or neither; if it has them, `main` is the size of EB.
-- The leak is not faster than the transport buffer is emptied
abbrev pub has_multiplexing : Data → Bool
has_multiplexing stream = is_some (get (codes "rbx") stream) || is_some (get (codes "mb") stream)

abbrev pub greatest_rbx : Data → ℕ
greatest_rbx stream = unwrap_or (stream_rx stream) 64000

abbrev pub stream_rbx : Data → Option ℕ
stream_rbx stream = integer_at (codes "rbx") (pos 64000) (pos (greatest_rbx stream)) stream

abbrev pub stream_mb : Data → Option ℕ
stream_mb = integer_at (codes "mb") (pos 1) (pos 10000000)

-- the declared buffer, with the least value of its range for each key that is refused
abbrev pub multiplexing_of : Data → MultiplexingBuffer
multiplexing_of stream = record { rbx = unwrap_or (stream_rbx stream) 64000; size = unwrap_or (stream_mb stream) 1 }

abbrev pub stream_multiplexing : Data → Option MultiplexingBuffer
stream_multiplexing stream = if has_multiplexing stream then Some (multiplexing_of stream) else None

abbrev pub refuses_rbx : Data → Bool
refuses_rbx stream = has_multiplexing stream && is_none (stream_rbx stream)

abbrev pub refuses_mb : Data → Bool
refuses_mb stream = has_multiplexing stream && is_none (stream_mb stream)

-- the access units of a unit that is a PES packet of several: each is removed from the main buffer at its own decoding time
-- (ISO/IEC 13818-1, 2.4.2.3; 2.7.5 for access units without a stamp). `frames` is the most access units in a unit, `frame` the
-- longest time from one to the next. Their sizes are `frame_size`, the greatest size except the first in a unit, which has the header
-- too, or `frame_left`, the most bytes of the last 1, 2, .. access units of a unit that has more. `frame_rest` is the least time from
-- the last access unit of a unit to the next unit; without it, units of most access units are an interval apart
abbrev pub has_rest : Data → Bool
has_rest stream = is_some (get (codes "frame_rest") stream)

abbrev pub has_left : Data → Bool
has_left stream = is_some (get (codes "frame_left") stream)

-- a stream has none of these keys, or `frames`, `frame`, and one of the keys of sizes: without it, the only bound on the bytes that
-- remain when some access units are gone is the whole unit
abbrev pub has_framing : Data → Bool
has_framing stream = is_some (get (codes "frames") stream) || is_some (get (codes "frame") stream) || is_some (get (codes "frame_size") stream)
    || has_rest stream || has_left stream

abbrev pub stream_frames : Data → Option ℕ
stream_frames = integer_at (codes "frames") (pos 1) (pos 64)

-- the access units of a unit but one
abbrev pub other_frames : Data → ℕ
other_frames stream = unwrap_or (stream_frames stream) 1 - 1

-- the longest time from one access unit to the next: without `frame_rest`, the last of a unit is due by the time of the next unit at
-- the latest. It is a fact of the stream, so a range of this key and no condition on a plan
abbrev pub greatest_frame : Data → ℕ
greatest_frame stream = if has_rest stream then 90000 else unwrap_or (stream_interval stream) 1 / max (other_frames stream) 1

-- in units of 90 kHz
abbrev pub stream_frame : Data → Option ℕ
stream_frame stream = integer_at (codes "frame") (pos 1) (pos (greatest_frame stream)) stream

-- in bytes
abbrev pub stream_frame_size : Data → Option ℕ
stream_frame_size stream = integer_at (codes "frame_size") (pos 1) (pos (unwrap_or (stream_size stream) 1)) stream

-- in units of 90 kHz
abbrev pub stream_frame_rest : Data → Option (Option ℕ)
stream_frame_rest = optional_integer (codes "frame_rest") (pos 0) (pos 90000)

-- what an interval leaves after most access units, if the key is absent
abbrev pub rest_of : Data → ℕ
rest_of stream = unwrap_or (unwrap_or (stream_frame_rest stream) None)
    (unwrap_or (stream_interval stream) 1 - other_frames stream * unwrap_or (stream_frame stream) 0)

-- in bytes
abbrev pub bytes_in : Data → Data → Option ℕ
bytes_in stream = integer_in (pos 1) (pos (unwrap_or (stream_size stream) 1))

-- no number is less than one before it
abbrev pub never_falls : List ℕ → Bool
never_falls [] = true
never_falls (n ∷ ns) = list_all (λ m. nat_le n m) ns && never_falls ns

-- a number for each access unit of a unit but one
abbrev pub are_frame_left : Data → Data → Bool
are_frame_left stream d = elim (array_in d) [
  | None ↦ false
  | Some ds ↦ length ds == other_frames stream && (list_all (λ d. is_some (bytes_in stream d)) ds && never_falls (filter_map (bytes_in stream) ds))
]

abbrev pub has_frame_left : Data → Bool
has_frame_left stream = elim (get (codes "frame_left") stream) [ None ↦ true | Some value ↦ are_frame_left stream value ]

-- 63 numbers: these, and zeros
abbrev pub padded : List ℕ → List ℕ
padded numbers = numbers ++ replicate (63 - length numbers) 0

abbrev pub frame_left_of : Data → List Data → List ℕ
frame_left_of stream ds = padded (if nat_le (length ds) 63 then filter_map (bytes_in stream) ds else [])

abbrev pub last_bytes : Data → LastBytes
last_bytes stream = if has_left stream then Sums (frame_left_of stream (elements (codes "frame_left") stream))
    else Each (unwrap_or (stream_frame_size stream) 1)

-- the declared framing; a key that is refused has the least value: one access unit, of one byte, and no time
abbrev pub framing_of : Data → FrameDeclaration
framing_of stream = record {
  frames = unwrap_or (stream_frames stream) 1;
  frame = unwrap_or (stream_frame stream) 0;
  rest = rest_of stream;
  left = last_bytes stream;
}

abbrev pub stream_framing : Data → Option FrameDeclaration
stream_framing stream = if has_framing stream then Some (framing_of stream) else None

-- a key is refused that is absent beside another, or out of its range
abbrev pub refuses_frames : Data → Bool
refuses_frames stream = has_framing stream && is_none (stream_frames stream)

abbrev pub refuses_frame : Data → Bool
refuses_frame stream = has_framing stream && is_none (stream_frame stream)

-- `frame_size` is refused beside `frame_left`
abbrev pub refuses_size : Data → Bool
refuses_size stream = if has_left stream then is_some (get (codes "frame_size") stream) else is_none (stream_frame_size stream)

abbrev pub refuses_frame_size : Data → Bool
refuses_frame_size stream = has_framing stream && refuses_size stream

-- the rules of the keys, by their numbers but for those from 84 on
abbrev pub stream_rules : List Rule
stream_rules = rule part.Stream 41 (codes "program") (λ document stream. not (has_owner document stream))
    ∷ needs part.Stream 42 (codes "pid") stream_pid ∷ needs part.Stream 43 (codes "id") stream_id
    ∷ needs part.Stream 44 (codes "type") stream_type ∷ needs part.Stream 45 (codes "interval") stream_interval
    ∷ needs part.Stream 46 (codes "size") stream_size ∷ needs part.Stream 47 (codes "lead") stream_lead
    ∷ needs part.Stream 48 (codes "rx") stream_rx ∷ needs part.Stream 49 (codes "main") stream_main
    ∷ needs part.Stream 50 (codes "tag") stream_tag ∷ needs part.Stream 51 (codes "language") stream_language
    ∷ needs part.Stream 52 (codes "descriptors") stream_descriptors
    ∷ rule part.Stream 53 (codes "group") (λ document stream. refuses_group stream)
    ∷ rule part.Stream 54 (codes "group_packets") (λ document stream. refuses_group_packets stream)
    ∷ rule part.Stream 55 (codes "burst_packets") (λ document stream. refuses_burst_packets stream)
    ∷ rule part.Stream 56 (codes "pace") (λ document stream. refuses_pace stream)
    ∷ rule part.Stream 57 (codes "shared_with") (λ document stream. not (has_sharers document stream))
    ∷ rule part.Stream 58 (codes "rbx") (λ document stream. refuses_rbx stream)
    ∷ rule part.Stream 59 (codes "mb") (λ document stream. refuses_mb stream)
    ∷ rule part.Stream 84 (codes "frames") (λ document stream. refuses_frames stream)
    ∷ rule part.Stream 85 (codes "frame") (λ document stream. refuses_frame stream)
    ∷ rule part.Stream 86 (codes "frame_size") (λ document stream. refuses_frame_size stream)
    ∷ needs part.Stream 87 (codes "pts_limit") stream_pts_limit
    ∷ needs part.Stream 100 (codes "frame_rest") stream_frame_rest
    ∷ rule part.Stream 101 (codes "frame_left") (λ document stream. not (has_frame_left stream)) ∷ []
