-- The packets that a stream asks for in a unit of 90 kHz, in parts of 2^40 of a packet, rounded up.
use Rattle.std.specs.Prelude.{ℕ, ◌+◌, ◌-◌, ◌*◌, ◌/◌, ◌^◌, min, max, nat_lt, if◌then◌else◌, List, length, slice_index, Option, Some, None}
use Rattle.std.specs.Int.{div_ceil}
use Rattle.clock27.specs.Units.{byte_units_at_1bps, slot_units_at_1bps}
use Rattle.own_slots.specs.Extremes.{greatest, least}
use Rattle.unit_timing.specs.Buffers.{tb_size}
use Rattle.unit_timing.specs.Shares.{parts}
use Rattle.unit_timing.specs.declared.multiplexing_buffer.MultiplexingBuffer.{MultiplexingBuffer}
use Rattle.stream_choice.specs.declared.needs.Needs.{Needs}

-- the share of packets in a time
abbrev pub share_in : ℕ → ℕ → ℕ
share_in time packets = div_ceil (parts * packets) time

-- the packets of the greatest unit: a PES header of at most 19 bytes, and 184 bytes to a packet
abbrev pub packets_of_unit : Needs → ℕ
packets_of_unit needs = (19 + needs.size + 183) / 184

-- the most packets of m units in a row, at most the packets of a group
abbrev pub packets_in_row : Needs → ℕ → ℕ → ℕ
packets_in_row needs packets m = min (m * packets_of_unit needs) packets

-- groups of units arrive one after another: the packets of each group in the time of its units
abbrev pub group_share : Needs → ℕ → ℕ → ℕ
group_share needs group packets = share_in (group * needs.interval) packets

-- m units in a row arrive at once and leave by their decoding times: the last unit's packets in the first unit's free time plus the time from the first unit to
-- the last
abbrev pub row_share : Needs → ℕ → ℕ → ℕ → ℕ
row_share needs packets free m = share_in (free + (m - 1) * needs.interval) (packets_in_row needs packets m)

-- the share of both groups and rows, with this time free for each unit
abbrev pub share_for_time : Needs → ℕ → ℕ → ℕ → ℕ
share_for_time needs group packets free = max (group_share needs group packets) (greatest group (λ before. row_share needs packets free (before + 1)))

-- the distance of two packets of that share, in whole units of 90 kHz
abbrev pub packet_distance : ℕ → ℕ
packet_distance share = div_ceil parts share

-- how long the last packet of a unit may take beyond the time that its packets ask for: the transport delay, and one
-- distance of packets of the share
abbrev pub lateness : ℕ → ℕ → ℕ
lateness delay share = delay + packet_distance share

-- with a lead: the free time is the lead less the transport delay, and then also less one distance of packets at the share that this asks for
abbrev pub lead_share : Needs → ℕ → ℕ → ℕ → ℕ → Option ℕ
lead_share needs group packets delay lead =
    if nat_lt delay lead then
    (let late = lateness delay (share_for_time needs group packets (lead - delay)) in
    if nat_lt late lead then Some (share_for_time needs group packets (lead - late)) else None)
    else None

-- packets arrive at a pace, in bit/s of whole packets
abbrev pub pace_share : ℕ → ℕ
pace_share pace = share_in slot_units_at_1bps pace

-- the least share that any group asks for, whatever the lead
abbrev pub least_share : Needs → List ℕ → ℕ
least_share needs max_packets = least (2 ^ 64 - 1) (length max_packets) (λ i. group_share needs (i + 1) (slice_index max_packets i))

-- the longest time from a packet's slot until its last byte leaves a buffer with at most `bytes` bytes waiting, by the buffer's drain: all bytes before it, and
-- three slots of an output with this share
abbrev pub buffer_delay : ℕ → ℕ → ℕ → ℕ
buffer_delay bytes drain share = div_ceil (bytes * byte_units_at_1bps) drain + div_ceil (3 * parts) share

-- the most bytes that wait after a packet, before the buffer of units: a whole transport buffer; with a multiplexing buffer the bytes of four packets in it,
-- since own slots that stray from even spacing by two of their distances bring no more at once, and a byte that is still in the transport buffer
unfoldable pub held_bytes : Option MultiplexingBuffer → ℕ
held_bytes None = tb_size
held_bytes (Some b) = max (min b.size 752) tb_size + 1

-- the needs of a stream, with the leak rate of its multiplexing buffer in place of the rate out of its transport buffer (ISO/IEC 13818-1, 2.4.2.3)
unfoldable pub leaking_needs : Option MultiplexingBuffer → Needs → Needs
leaking_needs None needs = needs
leaking_needs (Some b) needs = record { interval = needs.interval; size = needs.size; rx = b.rbx; main = needs.main }

-- the longest time from a packet's slot until its last byte leaves the last buffer before the buffer of units, which drains at `rx` bit/s
abbrev pub delay_before : Option MultiplexingBuffer → Needs → ℕ → ℕ
delay_before buffer needs share = buffer_delay (held_bytes buffer) needs.rx share
