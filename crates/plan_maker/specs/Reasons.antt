-- Why no plan at all can serve a description: numbers of its own that no slots can keep.
use Rattle.std.specs.Prelude.{◌≡◌, ℕ, ◌+◌, ◌-◌, ◌*◌, ◌/◌, max, min, List, [], ◌∷◌, ◌++◌, Option, Some, None, nat_lt, if◌then◌else◌}
use Rattle.std.specs.Int.{div_ceil}
use Rattle.clock27.specs.Units.{slot_ms_at_1bps, slot_units_at_1bps}
use Rattle.own_slots.specs.Extremes.{greatest}
use Rattle.unit_timing.specs.declared.multiplexing_buffer.MultiplexingBuffer.{MultiplexingBuffer}
use Rattle.unit_timing.specs.Allowances.{allowance_rows, steady_packets, steady_time}
use Rattle.unit_timing.specs.Conditions.{packets_in_row, waiting_slots, bytes_by_units}
use Rattle.description_parts.specs.Described.{Described, DescribedProgram, DescribedStream}
use Rattle.description_parts.specs.Tables.{table_kinds, table_limit, round_packets}
use Rattle.slot_plan.specs.Numbered.{numbered}
use Rattle.slot_plan.specs.Planned.{Planned}
use Rattle.slot_plan.specs.Claims.{declaration}
use Rattle.slot_plan.specs.Conditions.{IsServing}
use Rattle.plan_maker.specs.declared.reason.Reason.{Reason}
use Rattle.plan_maker.specs.declared.reason.Reason.TheVariants.{PcrLimit, TableLimit, SlowDrain, SlowLeak, ShortLead, SmallMain, Overload}
use Rattle.plan_maker.specs.Loads.{has_slots, least_rate}

-- ---- limits

-- the least limit in ms that has time for that number of slots of 1,504 bits
abbrev pub least_limit : Described → ℕ → ℕ
least_limit d slots = div_ceil (slot_ms_at_1bps * slots) d.rate

-- a program's PCRs recur within its limit only if the limit is not shorter than a slot (ISO/IEC 13818-1, 2.7.2)
abbrev pub pcr_reason : Described → ℕ → DescribedProgram → List Reason
pcr_reason d i p = if nat_lt (p.pcr_limit * d.rate) slot_ms_at_1bps then PcrLimit i (least_limit d 1) ∷ [] else []

-- the sections of a table recur within its limit only if the limit is not shorter than the slots of a round (ETSI TR 101 290, 5.2)
abbrev pub table_reason : Described → ℕ → List Reason
table_reason d t = if nat_lt (table_limit d t * d.rate) (round_packets d t * slot_ms_at_1bps) then TableLimit t (least_limit d (round_packets d t)) ∷ [] else []

-- ---- streams (their transport and main buffers: ISO/IEC 13818-1, 2.4.2.3)

-- the least drain of a stream's transport buffer in bits a second, for its whole packets in the long run
abbrev pub least_drain : DescribedStream → ℕ
least_drain s = div_ceil (steady_packets s.allowance) (steady_time s.allowance s.interval)

-- the reason that the stream's transport buffer is drained slower than the least drain
abbrev pub drain_reason : ℕ → DescribedStream → List Reason
drain_reason i s = if nat_lt (steady_time s.allowance s.interval * s.rx) (steady_packets s.allowance) then SlowDrain i (least_drain s) ∷ [] else []

-- the reason that the stream's multiplexing buffer, if it has one, leaks slower than the least drain
abbrev pub leak_reason : ℕ → DescribedStream → Option MultiplexingBuffer → List Reason
leak_reason i s None = []
leak_reason i s (Some b) = if nat_lt (steady_time s.allowance s.interval * b.rbx) (steady_packets s.allowance) then SlowLeak i (least_drain s) ∷ [] else []

-- the least lead in units of 90 kHz for m units in a row: their packets come neither faster than slots do nor faster
-- than the transport buffer is drained, one slot is lost until the first, and the last packet is drained in its turn
abbrev pub units_lead : Described → DescribedStream → ℕ → ℕ
units_lead d s m = div_ceil ((packets_in_row (declaration s) m * max d.rate s.rx + s.rx + d.rate) * slot_units_at_1bps) (d.rate * s.rx) - (m - 1) * s.interval

-- for one and up to a group of units
abbrev pub least_lead : Described → DescribedStream → ℕ
least_lead d s = greatest (allowance_rows s.allowance) (λ before. units_lead d s (before + 1))

-- units leave the transport buffer by their decoding times only with that lead
abbrev pub lead_reason : Described → ℕ → DescribedStream → List Reason
lead_reason d i s = if nat_lt s.lead (least_lead d s) then ShortLead i (least_lead d s) ∷ [] else []

-- the least main buffer in bytes: for all units that can wait at once, or for the packets that arrive within the lead
-- if the stream has no more slots than its units ask for
abbrev pub least_main : Described → DescribedStream → ℕ
least_main d s = min (bytes_by_units (declaration s))
    (184 * ((waiting_slots d.rate (declaration s) - 1) * steady_packets s.allowance / (steady_time s.allowance s.interval * d.rate) + 1))

-- units find room until their decoding times only in such a buffer
abbrev pub main_reason : Described → ℕ → DescribedStream → List Reason
main_reason d i s = if nat_lt s.main (least_main d s) then SmallMain i (least_main d s) ∷ [] else []

abbrev pub stream_reason : Described → ℕ → DescribedStream → List Reason
stream_reason d i s = drain_reason i s ++ (leak_reason i s s.multiplexing ++ (lead_reason d i s ++ main_reason d i s))

-- ---- all items together

-- each slot carries one item
abbrev pub load_reason : Described → List Reason
load_reason d = if has_slots d d.rate then [] else Overload (least_rate d) ∷ []

-- ---- all reasons

abbrev pub pcr_reasons : Described → List Reason
pcr_reasons d = numbered (pcr_reason d) 0 d.programs

abbrev pub table_reasons : Described → List Reason
table_reasons d = numbered (λ t _. table_reason d t) 0 (table_kinds d)

abbrev pub stream_reasons : Described → List Reason
stream_reasons d = numbered (stream_reason d) 0 d.streams

-- programs, tables, streams, each by number, and then the items together
abbrev pub reasons_of : Described → List Reason
reasons_of d = pcr_reasons d ++ (table_reasons d ++ (stream_reasons d ++ load_reason d))

-- if there is a reason, no plan serves
abbrev pub ReasonLaw : Type 0
ReasonLaw = (d : Described) (p : Planned) → IsServing d p → reasons_of d ≡ []
