-- Each part of a description is in its ranges.
use Rattle.std.proofs.Common.{◌≡◌, ℕ, pos, suc, zero, ◌≤◌, ◌<◌, ◌-◌, ◌*◌, ◌/◌, max, ◌==◌, nat_le, Bool, true, false, List, [], ◌∷◌, length, map, filter, get_or}
use Rattle.std.proofs.Common.{Option, None, Some, IfSome, unwrap_or, refl, arith, if◌then◌else◌, All, codes, inl, inr, is_none, replicate}
use Rattle.std.proofs.Math.Nat.{le_trans, div-le_self}
use Rattle.std.proofs.lemmas.Bool.{leb-true, or_cases, eqb-true}
use Rattle.std.proofs.lemmas.List.{length-map}
use Rattle.std.proofs.lemmas.List.Elements.{All-nil, All-cons, All-map, All-weaker, All-append, All-replicate}
use Rattle.std.specs.Option.{option_or, option_to_list}
use Rattle.std.specs.List.{filter_map, cons_option}
use Rattle.toml.specs.Data.{Data, get}
use Rattle.unit_timing.specs.declared.allowance.Allowance.{Allowance}
use Rattle.unit_timing.specs.declared.framing.FrameDeclaration.{FrameDeclaration}
use Rattle.unit_timing.specs.declared.framing.LastBytes.TheVariants.{Each, Sums}
use Rattle.unit_timing.specs.declared.multiplexing_buffer.MultiplexingBuffer.{MultiplexingBuffer}
use Rattle.description_parts.specs.Ranges.{IsPid, IsBytes, IsNetwork, IsNetworkStream, IsEvent, IsProgram, IsStreamId, IsGroups, IsPace, IsAllowance, IsMultiplexingBuffer}
use Rattle.description_parts.specs.Ranges.{AreLastBytes, IsFraming, IsStream, IsEntry, IsTable}
use Rattle.description_values.specs.Values.{integer_in, integer_at, elements, is_one_section, section_in}
use Rattle.description_keys.specs.StreamKeys.{is_owned_by, sharers_of, number_in, is_stream_id, stream_id, is_video_id, id_or_private}
use Rattle.description_keys.specs.StreamKeys.{greatest_size, leaves_out_buffers, stream_rx, stream_main, stream_size, stream_tag, stream_group, unit_packets}
use Rattle.description_keys.specs.StreamKeys.{greatest_group_packets, stream_group_packets, is_paced, stream_burst_packets, stream_pace, stream_allowance}
use Rattle.description_keys.specs.StreamKeys.{has_multiplexing, greatest_rbx, multiplexing_of, has_framing, greatest_frame, stream_frame, stream_interval}
use Rattle.description_keys.specs.StreamKeys.{stream_frame_size, stream_frame_rest, other_frames, has_rest, has_left, bytes_in, padded, frame_left_of, framing_of}
use Rattle.description_parts.specs.Contents.{described_network, described_other, described_event, described_number, described_program, described_stream, described_sections}
use Rattle.description_parts.specs.Contents.{described_entry, described_table}
use Rattle.description_parts.specs.Channels.{described_channels}
use Rattle.description_parts.specs.Described.{DescribedEntry}
use Rattle.description_parts.specs.declared.network_stream.NetworkStream.{NetworkStream}
use Rattle.description_keys.specs.ProgramKeys.{clock_pid_in, program_pcr_pid}
use Rattle.description_keys.specs.TableKeys.{is_listed}
use Rattle.description_keys.specs.TopKeys.{clock_pid_of}
use Rattle.description_keys.specs.Refusals.{events_of, other_streams_of, programs_of}
use Rattle.description_parts.proofs.KeyRanges.{Within, holds_of, at_key-all, integer_in-within, integer_at-within, integer_or-within, optional_integer-within}
use Rattle.description_parts.proofs.KeyRanges.{moment_at-within}
use Rattle.description_parts.proofs.TextRanges.{descriptors-is, descriptors_at-is, optional_language-is, IsSectionBytes}
use Rattle.description_parts.proofs.TextRanges.{sections-are, weaker, then_tested}
use Rattle.description_parts.proofs.ChannelRanges.{channels_are, two_are}
use Rattle.description_parts.proofs.Counts.{HasLength}
use Rattle.description_parts.proofs.LoopRanges.{event_loop_is, network_loop_is, service_loop_is}
use Rattle.description_parts.proofs.VersionRanges.{version_at-is}
use Rattle.description_keys.specs.declared.version_keys.NamedTable.TheVariants as table

pid_is : (key : List ℕ) (d : Data) → IsPid (unwrap_or (integer_at key (pos 32) (pos 8190) d) 32)
pid_is key d = let w = integer_at-within key 32 8190 32 d (omega arith) (omega arith) in record { low = w.least; high = w.most }

-- The PID of a program's clock references, its own or shared
or_all : {X : Type 0} (P : X → Type 0) (a b : Option X) → IfSome a P → IfSome b P → IfSome (option_or a b) P
or_all P None b h k = k
or_all P (Some x) b h k = h

clock_is : (document d : Data) → IsPid (clock_pid_in document d)
clock_is document d =
    let own = at_key-all (Within 32 8190) (codes "pcr_pid") None (integer_in (pos 32) (pos 8190)) d tt (integer_in-within 32 8190) in
    let shared = optional_integer-within (codes "clock_pid") 32 8190 document in
    let w = holds_of (Within 32 8190) (option_or (program_pcr_pid d) (clock_pid_of document)) 32
    (or_all (Within 32 8190) (program_pcr_pid d) (clock_pid_of document) own shared) (record { least = omega arith; most = omega arith }) in
    record { low = w.least; high = w.most }

-- The other transport streams of the network
other_is : (d : Data) → IsNetworkStream (described_other d)
other_is d = record {
  transport_stream_id = (integer_at-within (codes "ts_id") 0 65535 0 d (omega arith) (omega arith)).most;
  original_network_id = (integer_at-within (codes "original_network_id") 0 65535 0 d (omega arith) (omega arith)).most;
  descriptors = descriptors-is 700 (codes "descriptors") d;
}

record AreOthers (ss : List NetworkStream) : Type 0 where
  few : length ss ≤ 64
  streams : All IsNetworkStream ss

others_if : (b : Bool) (ds : List Data) → (b ≡ true → length ds ≤ 64) → AreOthers (if b then map described_other ds else [])
others_if false ds h = record { few = omega arith; streams = All-nil IsNetworkStream }
others_if true ds h = record {
  few = omega (arith, length-map ds described_other, h refl);
  streams = All-map IsNetworkStream described_other ds (λ k other within. other_is (get_or ds k other));
}

pub network_is : (document d : Data) → IsNetwork (described_network document d)
network_is document d =
    let ds = other_streams_of (Some d) in
    let others = others_if (nat_le (length ds) 64) ds (leb-true (length ds) 64) in
    record {
      id = (integer_at-within (codes "id") 0 65535 0 d (omega arith) (omega arith)).most;
      network_descriptors = network_loop_is d;
      descriptors = two_are 700 266 _ (described_channels (programs_of document)) (descriptors-is 700 (codes "descriptors") d)
          (channels_are (programs_of document));
      most_streams = others.few;
      streams = others.streams;
    }

pub event_is : (d : Data) → IsEvent (described_event d)
event_is d =
    let duration = integer_at-within (codes "duration") 1 359999 1 d (omega arith) (omega arith) in
    record {
      id = (integer_at-within (codes "id") 0 65535 0 d (omega arith) (omega arith)).most;
      start = (moment_at-within (codes "start") d).most;
      some_time = duration.least;
      most_time = duration.most;
      descriptors = event_loop_is d;
    }

pub program_is : (document d : Data) → IsProgram (described_program document d)
program_is document d =
    let number = integer_at-within (codes "number") 1 65535 1 d (omega arith) (omega arith) in
    let limit = integer_or-within (codes "pcr_limit") 1 100 40 1 d (omega arith) (omega arith) (omega arith) (omega arith) in
    let packets = integer_or-within (codes "pmt_packets") 1 6 1 1 d (omega arith) (omega arith) (omega arith) (omega arith) in
    let status = integer_or-within (codes "running_status") 0 7 4 0 d (omega arith) (omega arith) (omega arith) (omega arith) in
    record {
      some_number = number.least;
      most_number = number.most;
      pmt_pid = pid_is (codes "pmt_pid") d;
      pcr_pid = clock_is document d;
      some_limit = limit.least;
      most_limit = limit.most;
      some_packets = packets.least;
      most_packets = packets.most;
      pmt_version = version_at-is table.Pmt (described_number d) document;
      eit_count = version_at-is table.Eit (described_number d) document;
      descriptors = descriptors-is 700 (codes "descriptors") d;
      service_descriptors = service_loop_is d;
      running_status = omega (arith, status.most);
      events = All-map IsEvent described_event (filter (is_owned_by (described_number d)) (events_of document))
          (λ k other within. event_is (get_or (filter (is_owned_by (described_number d)) (events_of document)) k other));
    }

-- The stream_id of a stream
id_tested : (id : ℕ) → Within 189 239 id → is_stream_id id ≡ true → IsStreamId id
id_tested id w h = elim (or_cases (id == 189) (nat_le 192 id) h) [
  | inl is ↦ inl (eqb-true id 189 is)
  | inr above ↦ inr (leb-true 192 id above, w.most)
]

id_is : (d : Data) → IsStreamId (id_or_private d)
id_is d =
    holds_of IsStreamId (stream_id d) 189
    (weaker (λ id. Within 189 239 id × (is_stream_id id ≡ true)) IsStreamId (stream_id d) (λ id p. id_tested id p.0 p.1)
    (then_tested (Within 189 239) is_stream_id (integer_at (codes "id") (pos 189) (pos 239) d)
    (at_key-all (Within 189 239) (codes "id") None (integer_in (pos 189) (pos 239)) d tt (integer_in-within 189 239))))
    (inl refl)

-- The largest unit
record SizeBounds (id most : ℕ) : Type 0 where
  some : 1 ≤ most
  any : most ≤ 4000000
  bounded : id < 224 → most ≤ 65522

size_bounds : (id : ℕ) (b : Bool) → nat_le 224 id ≡ b → SizeBounds id (if b then 4000000 else 65522)
size_bounds id true is = let above = leb-true 224 id is in record { some = omega arith; any = omega arith; bounded = λ low. absurd (omega arith) }
size_bounds id false is = record { some = omega arith; any = omega arith; bounded = λ low. omega arith }

-- A group of units has no fewer packets than one unit.
group_most : (g u : ℕ) → 1 ≤ g → u ≤ g * u
group_most zero u h = absurd (omega arith)
group_most (suc g) u h = omega arith

if_some : {X : Type 0} (P : X → Type 0) (b : Bool) (x : X) → P x → IfSome (if b then Some x else None) P
if_some P true x h = h
if_some P false x h = tt

groups_are : (d : Data) → IsGroups (unit_packets d) (unwrap_or (stream_group d) 1) (unwrap_or (stream_group_packets d) (unit_packets d))
groups_are d =
    let group = integer_or-within (codes "group") 1 64 1 1 d (omega arith) (omega arith) (omega arith) (omega arith) in
    let more = group_most (unwrap_or (stream_group d) 1) (unit_packets d) group.least in
    let packets = integer_or-within (codes "group_packets") (unit_packets d) (greatest_group_packets d) (greatest_group_packets d) (unit_packets d) d more
    (omega arith) (omega arith) more in
    record { some_units = group.least; most_units = group.most; some_packets = packets.least; most_packets = packets.most }

pace_is : (d : Data) → unit_packets d ≤ 100000 → IsPace (unit_packets d) (unwrap_or (stream_burst_packets d) (unit_packets d)) (unwrap_or (stream_pace d) 1)
pace_is d few =
    let burst = integer_at-within (codes "burst_packets") (unit_packets d) 100000 (unit_packets d) d (omega arith) few in
    let pace = integer_at-within (codes "pace") 1 100000000 1 d (omega arith) (omega arith) in
    record { some_burst = burst.least; most_burst = burst.most; some_pace = pace.least; most_pace = pace.most }

either_is : (n : ℕ) (b : Bool) (p g : Allowance) → IsAllowance n p → IsAllowance n g → IsAllowance n (if b then p else g)
either_is n true p g hp hg = hp
either_is n false p g hp hg = hg

allowance_is : (d : Data) → unwrap_or (stream_size d) 1 ≤ 4000000 → IsAllowance (unit_packets d) (stream_allowance d)
allowance_is d small = either_is (unit_packets d) (is_paced d) _ _ (pace_is d (omega (arith, small))) (groups_are d)

tag_in : (o : Option ℕ) → IfSome o (Within 0 255) → All (λ t. t ≤ 255) (option_to_list o)
tag_in None h = All-nil (λ t. t ≤ 255)
tag_in (Some t) w = All-cons (λ t. t ≤ 255) t [] w.most (All-nil (λ t. t ≤ 255))

tag_is : (d : Data) → All (λ t. t ≤ 255) (option_to_list (unwrap_or (stream_tag d) None))
tag_is d = tag_in (unwrap_or (stream_tag d) None) (optional_integer-within (codes "tag") 0 255 d)

rx_within : (d : Data) → Within 64000 200000000 (unwrap_or (stream_rx d) 64000)
rx_within d =
    holds_of (Within 64000 200000000) (stream_rx d) 64000
    (at_key-all (Within 64000 200000000) (codes "rx") (if leaves_out_buffers d then Some 2000000 else None) (integer_in (pos 64000) (pos 200000000)) d
    (if_some (Within 64000 200000000) (leaves_out_buffers d) 2000000 (record { least = omega arith; most = omega arith })) (integer_in-within 64000 200000000))
    (record { least = omega arith; most = omega arith })

main_within : (d : Data) → Within 1 10000000 (unwrap_or (stream_main d) 1)
main_within d =
    holds_of (Within 1 10000000) (stream_main d) 1
    (at_key-all (Within 1 10000000) (codes "main") (if is_none (get (codes "rx") d) then Some 3584 else None) (integer_in (pos 1) (pos 10000000)) d
    (if_some (Within 1 10000000) (is_none (get (codes "rx") d)) 3584 (record { least = omega arith; most = omega arith })) (integer_in-within 1 10000000))
    (record { least = omega arith; most = omega arith })

within_trans : {a b c : ℕ} → a ≤ b → b ≤ c → a ≤ c
within_trans h k = omega arith

few_kept : (o : Option ℕ) (ns : List ℕ) (n : ℕ) → length ns ≤ n → length (cons_option o ns) ≤ suc n
few_kept None ns n h = omega (arith, h)
few_kept (Some x) ns n h = omega (arith, h)

few_numbers : (ds : List Data) → length (filter_map number_in ds) ≤ length ds
few_numbers [] = omega arith
few_numbers (d ∷ ds) = few_kept (number_in d) (filter_map number_in ds) (length ds) (few_numbers ds)

few_if : (b : Bool) (ns : List ℕ) → (b ≡ true → length ns ≤ 63) → length (if b then ns else []) ≤ 63
few_if true ns h = h refl
few_if false ns h = omega arith

few_sharers : (ds : List Data) → length (sharers_of ds) ≤ 63
few_sharers ds = few_if (nat_le (length ds) 63) (filter_map number_in ds) (λ is. omega (arith, leb-true (length ds) 63 is, few_numbers ds))

buffer_is : (d : Data) → 64000 ≤ greatest_rbx d → IsMultiplexingBuffer (greatest_rbx d) (multiplexing_of d)
buffer_is d least =
    let rbx = integer_at-within (codes "rbx") 64000 (greatest_rbx d) 64000 d (omega arith) least in
    let size = integer_at-within (codes "mb") 1 10000000 1 d (omega arith) (omega arith) in
    record { least_rbx = rbx.least; most_rbx = rbx.most; some_size = size.least; most_size = size.most }

buffer_if : (rx : ℕ) (b : Bool) (m : MultiplexingBuffer) → IsMultiplexingBuffer rx m
    → All (IsMultiplexingBuffer rx) (option_to_list (if b then Some m else None))
buffer_if rx true m is = All-cons (IsMultiplexingBuffer rx) m [] is (All-nil (IsMultiplexingBuffer rx))
buffer_if rx false m is = All-nil (IsMultiplexingBuffer rx)

-- Of the times from one access unit to the next the greatest is in its range.
frame_most : (b : Bool) (n interval : ℕ) → interval ≤ 90000 → (if b then 90000 else interval / n) ≤ 90000
frame_most true n interval le = omega arith
frame_most false n interval le = le_trans (div-le_self interval n) le

frame_within : (d : Data) → unwrap_or (stream_frame d) 0 ≤ greatest_frame d
frame_within d =
    holds_of (λ n. n ≤ greatest_frame d) (stream_frame d) 0
    (weaker (Within 1 (greatest_frame d)) (λ n. n ≤ greatest_frame d) (stream_frame d) (λ n w. w.most)
    (at_key-all (Within 1 (greatest_frame d)) (codes "frame") None (integer_in (pos 1) (pos (greatest_frame d))) d tt
    (integer_in-within 1 (greatest_frame d))))
    (omega arith)

all_kept : (size : ℕ) (o : Option ℕ) (ns : List ℕ) → IfSome o (Within 1 size) → All (λ n. n ≤ size) ns → All (λ n. n ≤ size) (cons_option o ns)
all_kept size None ns within all = all
all_kept size (Some n) ns within all = All-cons (λ n. n ≤ size) n ns within.most all

all_bytes : (d : Data) (ds : List Data) → All (λ n. n ≤ unwrap_or (stream_size d) 1) (filter_map (bytes_in d) ds)
all_bytes d [] = All-nil (λ n. n ≤ unwrap_or (stream_size d) 1)
all_bytes d (one ∷ ds) = let size = unwrap_or (stream_size d) 1 in
    all_kept size (bytes_in d one) (filter_map (bytes_in d) ds) (integer_in-within 1 size one) (all_bytes d ds)

all_if : (size : ℕ) (b : Bool) (ns : List ℕ) → All (λ n. n ≤ size) ns → All (λ n. n ≤ size) (if b then ns else [])
all_if size true ns all = all
all_if size false ns all = All-nil (λ n. n ≤ size)

all_padded : (size : ℕ) (ns : List ℕ) → All (λ n. n ≤ size) ns → All (λ n. n ≤ size) (padded ns)
all_padded size ns all = let P = λ (n : ℕ). n ≤ size in
    All-append P ns (replicate (63 - length ns) 0) all (All-replicate P (63 - length ns) 0 (omega arith))

last_if : (size : ℕ) (b : Bool) (sums : List ℕ) (bytes : ℕ) → All (λ n. n ≤ size) sums → 1 ≤ bytes → bytes ≤ size →
    AreLastBytes size (if b then Sums sums else Each bytes)
last_if size true sums bytes all least most = all
last_if size false sums bytes all least most = (least, most)

framing_is : (d : Data) → unwrap_or (stream_interval d) 1 ≤ 90000 → 1 ≤ unwrap_or (stream_size d) 1 → IsFraming (unwrap_or (stream_size d) 1) (framing_of d)
framing_is d short some =
    let frames = integer_at-within (codes "frames") 1 64 1 d (omega arith) (omega arith) in
    let most = unwrap_or (stream_size d) 1 in
    let size = integer_at-within (codes "frame_size") 1 most 1 d (omega arith) some in
    let interval = unwrap_or (stream_interval d) 1 in
    let ds = elements (codes "frame_left") d in
    let passed = other_frames d * unwrap_or (stream_frame d) 0 in
    record {
      some_frames = frames.least;
      most_frames = frames.most;
      most_frame = le_trans (frame_within d) (frame_most (has_rest d) (max (other_frames d) 1) interval short);
      most_rest = (holds_of (Within 0 90000) (unwrap_or (stream_frame_rest d) None) (interval - passed)
          (optional_integer-within (codes "frame_rest") 0 90000 d) (record { least = omega arith; most = omega (arith, short) })).most;
      left = last_if most (has_left d) (frame_left_of d ds) (unwrap_or (stream_frame_size d) 1)
          (all_padded most (if nat_le (length ds) 63 then filter_map (bytes_in d) ds else [])
          (all_if most (nat_le (length ds) 63) (filter_map (bytes_in d) ds) (all_bytes d ds)))
          size.least size.most;
    }

framing_if : (size : ℕ) (b : Bool) (f : FrameDeclaration) → IsFraming size f → All (IsFraming size) (option_to_list (if b then Some f else None))
framing_if size true f is = All-cons (IsFraming size) f [] is (All-nil (IsFraming size))
framing_if size false f is = All-nil (IsFraming size)

pub stream_is : (d : Data) → IsStream (described_stream d)
stream_is d =
    let interval = integer_at-within (codes "interval") 1 90000 1 d (omega arith) (omega arith) in
    let lead = integer_at-within (codes "lead") 1 90000 1 d (omega arith) (omega arith) in
    let pts_limit = integer_or-within (codes "pts_limit") 1 5400000 90000 1 d (omega arith) (omega arith) (omega arith) (omega arith) in
    let bounds = size_bounds (id_or_private d) (is_video_id (id_or_private d)) refl in
    let size = integer_at-within (codes "size") 1 (greatest_size d) 1 d (omega arith) bounds.some in
    let rx = rx_within d in
    let main = main_within d in
    let small = within_trans size.most bounds.any in
    record {
      pid = pid_is (codes "pid") d;
      stream_id = id_is d;
      stream_type = (integer_at-within (codes "type") 0 255 0 d (omega arith) (omega arith)).most;
      some_interval = interval.least;
      most_interval = interval.most;
      some_size = size.least;
      most_size = small;
      bounded_size = λ low. within_trans size.most (bounds.bounded low);
      some_lead = lead.least;
      most_lead = lead.most;
      some_pts_limit = pts_limit.least;
      most_pts_limit = pts_limit.most;
      least_rx = rx.least;
      most_rx = rx.most;
      some_main = main.least;
      most_main = main.most;
      tag = tag_is d;
      language = optional_language-is (codes "language") d;
      descriptors = descriptors-is 700 (codes "descriptors") d;
      allowance = allowance_is d small;
      few_sharers = few_sharers (elements (codes "shared_with") d);
      multiplexing = buffer_if (greatest_rbx d) (has_multiplexing d) (multiplexing_of d) (buffer_is d rx.least);
      framing = framing_if (unwrap_or (stream_size d) 1) (has_framing d) (framing_of d) (framing_is d interval.most size.least);
    }

entry_is : (d : Data) → IsEntry (described_entry d)
entry_is d =
    let kind = integer_at-within (codes "stream_type") 1 255 1 d (omega arith) (omega arith) in
    record { some_type = kind.least; most_type = kind.most; descriptors = descriptors_at-is 700 (codes "descriptors") d }

listed_is : (b : Bool) (e : DescribedEntry) → IsEntry e → All IsEntry (option_to_list (if b then Some e else None))
listed_is true e is = All-cons IsEntry e [] is (All-nil IsEntry)
listed_is false e is = All-nil IsEntry

pub table_is : (d : Data) → HasLength 1 8 (length (described_sections d)) → IsTable (described_table d)
table_is d counted =
    let limit = integer_at-within (codes "limit") 1 30000 1 d (omega arith) (omega arith) in
    let are = sections-are (elements (codes "sections") d) in
    record {
      pid = pid_is (codes "pid") d;
      some_limit = limit.least;
      most_limit = limit.most;
      some_sections = counted.least;
      most_sections = counted.most;
      sections = All-weaker IsSectionBytes (IsBytes 4096) (λ s h. h.octets) (filter_map section_in (elements (codes "sections") d)) are;
      no_empty_section = All-weaker IsSectionBytes (λ s. 3 ≤ length s) (λ s h. h.three) (filter_map section_in (elements (codes "sections") d)) are;
      whole_sections = All-weaker IsSectionBytes (λ s. is_one_section s ≡ true) (λ s h. h.whole) (filter_map section_in (elements (codes "sections") d)) are;
      entry = listed_is (is_listed d) (described_entry d) (entry_is d);
    }
