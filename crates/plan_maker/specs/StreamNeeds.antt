-- What a stream asks of own slots that are evenly spaced, or that stray from even spacing: slots enough for its rate, units
-- in a row in time, and room in its main buffer (ISO/IEC 13818-1, 2.4.2.3). Times are on the scale of the output's rate
-- times the drain, so that a slot and a byte are whole numbers.
use Rattle.std.specs.Prelude.{ℕ, ◌+◌, ◌-◌, ◌*◌, ◌/◌, ◌==◌, max, min, [], ◌∷◌, Option, Some, None, nat_le, nat_lt, if◌then◌else◌}
use Rattle.std.specs.Option.{option_and_then}
use Rattle.clock27.specs.Units.{slot_units_at_1bps, byte_units_at_1bps}
use Rattle.unit_timing.specs.declared.framing.FrameDeclaration.{FrameDeclaration}
use Rattle.unit_timing.specs.declared.multiplexing_buffer.MultiplexingBuffer.{MultiplexingBuffer}
use Rattle.unit_timing.specs.Allowances.{allowance_rows, steady_packets, steady_time}
use Rattle.unit_timing.specs.Buffers.{tb_size}
use Rattle.unit_timing.specs.Conditions.{packets_in_row, bytes_by_units}
use Rattle.description_parts.specs.Described.{DescribedStream}
use Rattle.slot_plan.specs.Claims.{declaration}
use Rattle.unit_timing.specs.AccessUnits.{ahead_of, left_of}
use Rattle.plan_maker.specs.Bounded.{product, plus, less, rounded_up, narrowed, all_narrowed, most_wide}
use Rattle.plan_maker.specs.Joined.{greatest_of, least_of}
use Rattle.plan_maker.specs.declared.search.stream_rate.StreamRate.{StreamRate}

-- a stream, the bytes of its units that can wait for their decoding at once, and the rate of the output
pub record StreamView : Type 0 where
  pub stream : DescribedStream
  pub waiting : ℕ
  pub rate : ℕ

abbrev pub stream_view : StreamRate → StreamView
stream_view s = record { stream = s.stream.now; waiting = s.waiting_bytes; rate = s.rate }

abbrev pub stream_at : DescribedStream → ℕ → StreamView
stream_at s rate = record { stream = s; waiting = bytes_by_units (declaration s); rate = rate }

-- ---- the time of units in a row

-- the drain of the buffer before the buffer where units wait: the transport buffer's, or the multiplexing buffer's leak
abbrev pub last_drain : ℕ → Option MultiplexingBuffer → ℕ
last_drain rx None = rx
last_drain rx (Some b) = b.rbx

-- the most bytes in the buffers before, after a packet; own slots that stray by two of their distances bring four packets
abbrev pub most_held : Option MultiplexingBuffer → ℕ
most_held None = tb_size
most_held (Some b) = max (min b.size (4 * 188)) tb_size + 1

abbrev pub drain_of : StreamView → ℕ
drain_of v = last_drain v.stream.rx v.stream.multiplexing

-- a slot
abbrev pub slot_time : StreamView → ℕ
slot_time v = product (slot_units_at_1bps ∷ drain_of v ∷ [])

-- from the first of m units in a row to the last one's decoding, less the longest time of the last packet in the buffers
-- before
abbrev pub row_time : StreamView → ℕ → ℕ
row_time v m = product (plus (product ((m - 1) ∷ v.stream.interval ∷ [])) v.stream.lead ∷ v.rate ∷ drain_of v ∷ [])
    - product (most_held v.stream.multiplexing ∷ v.rate ∷ byte_units_at_1bps ∷ [])

-- ---- the least own slots

-- slots enough for the packets of the long run
abbrev pub steady_count : StreamView → ℕ → Option ℕ
steady_count v period =
    rounded_up (product (steady_packets v.stream.allowance ∷ period ∷ [])) (product (steady_time v.stream.allowance v.stream.interval ∷ v.rate ∷ []))

-- the last of m units in a row is in time, even if it is three slots late
abbrev pub row_count : StreamView → ℕ → ℕ → Option ℕ
row_count v period m = option_and_then
    (λ time. rounded_up (product (packets_in_row (declaration v.stream) m ∷ period ∷ slot_time v ∷ [])) time)
    (less (row_time v m) (product (3 ∷ slot_time v ∷ [])))

-- the greatest of the steady count and the row counts, for each number of units in a row, from 1 on, that the lead has to pay for
abbrev pub least_count : StreamView → ℕ → Option ℕ
least_count v period = greatest_of (steady_count v period) (allowance_rows v.stream.allowance) (λ before. row_count v period (before + 1))

-- none if such slots bring bytes faster than the last buffer is drained
abbrev pub paced : StreamView → ℕ → ℕ → Option ℕ
paced v period count = if nat_lt (product (period ∷ drain_of v ∷ [])) (product (count ∷ v.rate ∷ [])) then None else Some (narrowed count)

abbrev pub stream_count : StreamView → ℕ → Option ℕ
stream_count v period = option_and_then (paced v period) (least_count v period)

-- ---- the most that own slots may stray from even spacing, in slots times own slots

-- for the last of m units in a row: the slots of its time, less the slots of the packets and one slot
abbrev pub row_width : StreamView → ℕ → ℕ → ℕ → Option ℕ
row_width v period count m = if slot_time v == 0 then None else
    less (product (count ∷ row_time v m ∷ []) / slot_time v) (plus (product (packets_in_row (declaration v.stream) m ∷ period ∷ [])) count)

-- for units that arrive at most `lead` before their decoding, `waiting` bytes of them at once, in `room` bytes: all can wait there,
-- or the packets that the slots of the lead bring have room
abbrev pub room_width : StreamView → ℕ → ℕ → ℕ → ℕ → ℕ → Option ℕ
room_width v period count lead waiting room = if nat_le waiting room then Some most_wide else option_and_then
    (λ window. less (product (period ∷ (room / 184) ∷ [])) (plus (product ((window - 1) ∷ count ∷ [])) 1))
    (rounded_up (product (lead ∷ v.rate ∷ [])) slot_units_at_1bps)

-- for the later units, when some access units of a unit are left: they arrive within the rest of the lead, and have the room beside
-- these access units
abbrev pub frame_width : StreamView → ℕ → ℕ → FrameDeclaration → ℕ → Option ℕ
frame_width v period count f left =
    let lead = v.stream.lead - ahead_of (declaration v.stream) f left in
    option_and_then (λ room. option_and_then (λ units. room_width v period count lead (product (units ∷ (19 + v.stream.size) ∷ [])) room)
    (rounded_up lead v.stream.interval))
    (less v.stream.main (left_of f.left left))

abbrev pub frames_width : StreamView → ℕ → ℕ → Option ℕ → Option FrameDeclaration → Option ℕ
frames_width v period count first None = first
frames_width v period count first (Some f) = least_of first (f.frames - 1) (λ before. frame_width v period count f (before + 1))

-- for the main buffer alone
abbrev pub main_width : StreamView → ℕ → ℕ → Option ℕ
main_width v period count = frames_width v period count (room_width v period count v.stream.lead v.waiting v.stream.main) v.stream.framing

-- for all conditions
abbrev pub least_width : StreamView → ℕ → ℕ → Option ℕ
least_width v period count = least_of (main_width v period count) (allowance_rows v.stream.allowance) (λ before. row_width v period count (before + 1))

abbrev pub stream_width : StreamView → ℕ → ℕ → Option ℕ
stream_width v period count = all_narrowed (least_width v period count)
