-- The distances at which the plain plan sets the slots of each item: the greatest power of two that the item's own
-- condition lets evenly spaced slots be apart.
use Rattle.std.specs.Prelude.{ℕ, ◌*◌, ◌/◌, ◌^◌, List, [], ◌∷◌, ◌++◌, nat_le, if◌then◌else◌}
use Rattle.clock27.specs.Units.{slot_ms_at_1bps}
use Rattle.own_slots.specs.Extremes.{greatest}
use Rattle.unit_timing.specs.Allowances.{steady_packets, steady_time}
use Rattle.description_parts.specs.Described.{Described, DescribedProgram, DescribedStream}
use Rattle.description_parts.specs.Tables.{table_kinds, table_limit, round_packets, has_references, only_if}
use Rattle.slot_plan.specs.declared.slot.Slot.TheVariants.{Stream, Pcr, Table}
use Rattle.slot_plan.specs.Numbered.{numbered}
use Rattle.plan_maker.specs.Clocks.{clock_limit}
use Rattle.plan_maker.specs.declared.spacing.Spaced.{Spaced}

-- a number of slots if there is room for it, otherwise 0
abbrev pub within : ℕ → ℕ → ℕ
within room slots = if nat_le slots room then slots else 0

-- the greatest power of two that is at most 65,536 and for which there is room; 0 if there is none
abbrev pub spacing : ℕ → ℕ
spacing room = greatest 17 (λ e. within room (2 ^ e))

-- the slots for each packet of a stream in the long run, rounded down (the condition on a stream's rate)
abbrev pub stream_room : Described → DescribedStream → ℕ
stream_room d s = steady_time s.allowance s.interval * d.rate / steady_packets s.allowance

-- the slots within which a program's clock needs a PCR (ISO/IEC 13818-1, 2.7.2); a slot is 1,504 bits, the limit in ms
abbrev pub pcr_room : Described → DescribedProgram → ℕ
pcr_room d p = clock_limit d p * d.rate / slot_ms_at_1bps

-- the slots within which a table needs a packet, if its rounds are sent within its limit (ETSI TR 101 290, 5.2)
abbrev pub table_room : Described → ℕ → ℕ
table_room d t = table_limit d t * d.rate / (slot_ms_at_1bps * round_packets d t)

abbrev pub spaced_streams : Described → List Spaced
spaced_streams d = numbered (λ i s. record { slot = Stream i; spacing = spacing (stream_room d s) } ∷ []) 0 d.streams

-- of a program whose slots carry clock references
abbrev pub spaced_clock : Described → ℕ → DescribedProgram → List Spaced
spaced_clock d i p = only_if (has_references d i) (record { slot = Pcr i; spacing = spacing (pcr_room d p) })

abbrev pub spaced_pcrs : Described → List Spaced
spaced_pcrs d = numbered (spaced_clock d) 0 d.programs

abbrev pub spaced_tables : Described → List Spaced
spaced_tables d = numbered (λ t _. record { slot = Table t; spacing = spacing (table_room d t) } ∷ []) 0 (table_kinds d)

-- the items of a description: its streams, the PCRs of its programs, its tables, each by number
abbrev pub spaced_items : Described → List Spaced
spaced_items d = spaced_streams d ++ (spaced_pcrs d ++ spaced_tables d)
