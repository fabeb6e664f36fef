-- What two line-ups have in common. A line-up is a description with the plan that serves it, which is repeated from slot 0 of the run on. What has slots in
-- both is known by its PID: a table, clock references, a stream.
use Rattle.std.specs.Prelude.{ℕ, ◌+◌, ◌-◌, ◌==◌, nat_lt, Bool, true, false, List, length, map, Option, None, Some, is_some, option_map, option_and_then}
use Rattle.std.specs.Prelude.{position, slice_get, if◌then◌else◌}
use Rattle.std.specs.List.{range_with_len}
use Rattle.description_parts.specs.Described.{Described}
use Rattle.description_parts.specs.Tables.{table_kind, table_count}
use Rattle.description_parts.specs.declared.table_kind.TableKind.{TableKind}
use Rattle.description_parts.specs.declared.table_kind.TableKind.TheVariants as kind
use Rattle.slot_plan.specs.declared.slot.Slot.{Slot}
use Rattle.slot_plan.specs.declared.slot.Slot.TheVariants.{Stream, Pcr, Table, Null}
use Rattle.slot_plan.specs.Schedule.{repeated}
use Rattle.slot_plan.specs.SlotPids.{slot_pid}
use Rattle.changed_texts.specs.Fixed.{is_same_option, is_same_program, is_same_stream, is_same_table}
use Rattle.plan_checker.specs.Served.{Served}

-- ---- the slots of a description

-- the slot of a number: the tables, the programs' clock references, the streams
abbrev pub numbered_slot : Described → ℕ → Slot
numbered_slot d n =
    if nat_lt n (table_count d) then Table n
    else (if nat_lt n (table_count d + length d.programs) then Pcr (n - table_count d) else Stream (n - (table_count d + length d.programs)))

abbrev pub slot_count : Described → ℕ
slot_count d = table_count d + length d.programs + length d.streams

-- their PIDs: none of a program whose clock references have another program's slots
abbrev pub slot_pids : Described → List (Option ℕ)
slot_pids d = map (λ n. slot_pid d (numbered_slot d n)) (range_with_len 0 (slot_count d))

abbrev pub is_pid : ℕ → Option ℕ → Bool
is_pid pid None = false
is_pid pid (Some other) = pid == other

-- ---- what a description has on a PID

abbrev pub number_with : Described → ℕ → Option ℕ
number_with d pid = position (is_pid pid) (slot_pids d)

abbrev pub has_listed : List (Option ℕ) → Option ℕ → Bool
has_listed pids None = false
has_listed pids (Some pid) = is_some (position (is_pid pid) pids)

abbrev pub has_pid : Described → Option ℕ → Bool
has_pid d pid = has_listed (slot_pids d) pid

-- null packets if it has nothing there
abbrev pub slot_with : Described → ℕ → Slot
slot_with d pid = elim (number_with d pid) [ None ↦ Null | Some n ↦ numbered_slot d n ]

-- what the other description has on the PID of this slot
abbrev pub slot_in : Described → Described → Slot → Slot
slot_in other d slot = elim (slot_pid d slot) [ None ↦ Null | Some pid ↦ slot_with other pid ]

abbrev pub is_null : Slot → Bool
is_null Null = true
is_null slot = false

-- the PID on which a line-up has a packet in a slot of the run
abbrev pub carried : Served → ℕ → Option ℕ
carried l s = slot_pid l.description (repeated l.plan.slots s)

-- ---- what is the same in both

abbrev pub is_same_kind : Described → Described → TableKind → TableKind → Bool
is_same_kind old new kind.Pat kind.Pat = true
is_same_kind old new kind.Nit kind.Nit = true
is_same_kind old new kind.Sdt kind.Sdt = true
is_same_kind old new kind.Eit kind.Eit = true
is_same_kind old new kind.Tdt kind.Tdt = true
is_same_kind old new (kind.Pmt i) (kind.Pmt j) = is_same_option is_same_program (slice_get old.programs i) (slice_get new.programs j)
is_same_kind old new (kind.Private i) (kind.Private j) = is_same_option is_same_table (slice_get old.tables i) (slice_get new.tables j)
is_same_kind old new one other = false

-- two slots of one PID are of one thing: tables of a kind (PMTs of one program, private tables with one limit), clock references, streams with one
-- declaration
abbrev pub is_same_slot : Described → Described → Slot → Slot → Bool
is_same_slot old new (Table t) (Table u) = is_same_option (is_same_kind old new) (table_kind old t) (table_kind new u)
is_same_slot old new (Pcr i) (Pcr j) = true
is_same_slot old new (Stream i) (Stream j) = is_same_option is_same_stream (slice_get old.streams i) (slice_get new.streams j)
is_same_slot old new one other = false

-- ---- the numbers before

-- the number that a stream, a table and a program with clock references of the new description had in the old one, if it stays
abbrev pub stream_number : Slot → Option ℕ
stream_number (Stream i) = Some i
stream_number slot = None

abbrev pub table_number : Slot → Option ℕ
table_number (Table t) = Some t
table_number slot = None

abbrev pub clock_number : Slot → Option ℕ
clock_number (Pcr i) = Some i
clock_number slot = None

abbrev pub stream_before : Described → Described → ℕ → Option ℕ
stream_before old new k = stream_number (slot_in old new (Stream k))

abbrev pub table_before : Described → Described → ℕ → Option ℕ
table_before old new t = table_number (slot_in old new (Table t))

abbrev pub clock_before : Described → Described → ℕ → Option ℕ
clock_before old new i = clock_number (slot_in old new (Pcr i))

-- the program of the same number
abbrev pub program_number : Described → ℕ → Option ℕ
program_number d j = option_map (λ p. p.number) (slice_get d.programs j)

abbrev pub program_before : Described → Described → ℕ → Option ℕ
program_before old new j = option_and_then (λ n. position (λ q. q.number == n) old.programs) (program_number new j)

-- a stream of the old description goes
abbrev pub is_gone : Described → Described → ℕ → Bool
is_gone old new i = elim (stream_number (slot_in new old (Stream i))) [ None ↦ true | Some k ↦ false ]
