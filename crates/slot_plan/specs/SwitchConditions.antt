-- The conditions for a second plan of the same description to follow a plan at the end of one of its periods.
use Rattle.std.specs.Prelude.{◌≡◌, ℕ, suc, ◌+◌, ◌-◌, ◌*◌, ◌==◌, ◌&&◌, ◌||◌, Bool, List, [], ◌∷◌, ◌++◌, length, is_none, is_some, Option, Some, None}
use Rattle.std.specs.Prelude.{if◌then◌else◌}
use Rattle.std.specs.Bool.{beq}
use Rattle.std.specs.List.{list_any, list_all, zip}
use Rattle.clock27.specs.Units.{slot_ms_at_1bps, slot_seconds_at_1bps}
use Rattle.own_slots.specs.Period.{position, back}
use Rattle.own_slots.specs.Extremes.{greatest}
use Rattle.own_slots.specs.Work.{work_left}
use Rattle.own_slots.specs.Switch.{shift}
use Rattle.unit_timing.specs.Buffers.{system_tb_drain, bsys_drain}
use Rattle.unit_timing.specs.declared.framing.FrameDeclaration.{FrameDeclaration}
use Rattle.unit_timing.specs.declared.multiplexing_buffer.MultiplexingBuffer.{MultiplexingBuffer as LeakingBuffer}
use Rattle.unit_timing.specs.Allowances.{allowance_rows}
use Rattle.unit_timing.specs.Conditions.{Share, lead_across, time_given, bytes_across}
use Rattle.unit_timing.specs.AccessUnits.{framed_across}
use Rattle.description_parts.specs.Described.{Described, DescribedProgram, DescribedStream}
use Rattle.description_parts.specs.Tables.{table_kinds, table_limit, round_packets, clock_of}
use Rattle.slot_plan.specs.declared.slot.Item.{Item}
use Rattle.slot_plan.specs.declared.slot.Slot.{Slot}
use Rattle.slot_plan.specs.declared.slot.Item.TheVariants.{Stream as StreamItem, Pcr as PcrItem, Table as TableItem, System}
use Rattle.slot_plan.specs.declared.condition.Condition.{Condition}
use Rattle.slot_plan.specs.declared.condition.Condition.TheVariants.{PcrSwitch, TableSwitch, WorkSwitch, LeadSwitch, MainSwitch, ElementarySwitch}
use Rattle.slot_plan.specs.Numbered.{numbered}
use Rattle.slot_plan.specs.Planned.{Planned}
use Rattle.slot_plan.specs.EmptySlots.{empty_slots}
use Rattle.slot_plan.specs.Items.{is_own, marks}
use Rattle.slot_plan.specs.Entries.{Entry, at_most, first_failing}
use Rattle.slot_plan.specs.Claims.{declaration, stream_claim, program_claim, stream_share, drained_declaration, multiplexing_claim, elementary_share}
use Rattle.slot_plan.specs.SectionDistances.{section_switch_entries}
use Rattle.slot_plan.specs.Conditions.{group_part, entries_from, entries}

-- the greatest gap across the switch between k own slots in a row: from own slot -x of the first plan to own slot k - x
-- of the second, x from 1 to k
abbrev pub gap_across : List Bool → List Bool → ℕ → ℕ
gap_across first second k = greatest k (λ x. position second (k - suc x) + back first (suc x))

-- code 12: the PCRs of a program's clock recur across the switch
abbrev pub pcr_switch_entry : Described → Planned → Planned → ℕ → DescribedProgram → Entry
pcr_switch_entry d first second i program = let clock = PcrItem (clock_of d i) in
    at_most PcrSwitch 0 i (gap_across (marks clock first.slots) (marks clock second.slots) 1 * slot_ms_at_1bps) (program.pcr_limit * d.rate)

-- code 13: each section of a table recurs across the switch
abbrev pub table_switch_entry : Described → Planned → Planned → ℕ → Entry
table_switch_entry d first second t =
    at_most TableSwitch 0 t (gap_across (marks (TableItem t) first.slots) (marks (TableItem t) second.slots) (round_packets d t) * slot_ms_at_1bps)
    (table_limit d t * d.rate)

-- code 14: a period of the first plan leaves at most the work in a buffer that the second plan begins with
abbrev pub work_switch_entry : ℕ → ℕ → ℕ → ℕ → List Bool → ℕ → Entry
work_switch_entry item rate drain start own next_start = at_most WorkSwitch 0 item (work_left rate drain start own) next_start

-- code 14, part 1: a buffer that has to be empty at least once a second becomes empty in a slot of the second plan that comes
-- within a second of the last such slot of the first
abbrev pub emptied_switch_entry : ℕ → ℕ → ℕ → ℕ → List Bool → ℕ → List Bool → Entry
emptied_switch_entry item rate drain start own next_start next =
    at_most WorkSwitch 1 item ((position (empty_slots rate drain next_start next) 0 + back (empty_slots rate drain start own) 1) * slot_seconds_at_1bps) rate

abbrev pub stream_work_entry : Described → Planned → Planned → ℕ → DescribedStream → Entry
stream_work_entry d first second i s =
    work_switch_entry i d.rate s.rx (stream_claim first i).start (marks (StreamItem i) first.slots) (stream_claim second i).start

abbrev pub stream_emptied_switch_entries : Described → Planned → Planned → ℕ → DescribedStream → Option LeakingBuffer → List Entry
stream_emptied_switch_entries d first second i s None = []
stream_emptied_switch_entries d first second i s (Some b) =
    emptied_switch_entry i d.rate s.rx (stream_claim first i).start (marks (StreamItem i) first.slots)
    (stream_claim second i).start (marks (StreamItem i) second.slots) ∷ []

-- both parts of the transport buffer of a stream
abbrev pub stream_work_entries : Described → Planned → Planned → ℕ → DescribedStream → List Entry
stream_work_entries d first second i s = stream_work_entry d first second i s ∷ stream_emptied_switch_entries d first second i s s.multiplexing

abbrev pub transport_work_entry : Described → Planned → Planned → ℕ → Entry
transport_work_entry d first second i = work_switch_entry (length d.streams + i) d.rate system_tb_drain
    (program_claim first i).transport_start (marks (System i) first.slots) (program_claim second i).transport_start

abbrev pub system_work_entry : Described → Planned → Planned → ℕ → Entry
system_work_entry d first second i = work_switch_entry (length d.streams + length d.programs + i) d.rate bsys_drain
    (program_claim first i).system_start (marks (System i) first.slots) (program_claim second i).system_start

abbrev pub multiplexing_work_entries : Described → Planned → Planned → ℕ → Option LeakingBuffer → List Entry
multiplexing_work_entries d first second i None = []
multiplexing_work_entries d first second i (Some b) = let item = length d.streams + 2 * length d.programs + i in
    work_switch_entry item d.rate b.rbx (multiplexing_claim first i).start (marks (StreamItem i) first.slots) (multiplexing_claim second i).start
    ∷ emptied_switch_entry item d.rate b.rbx (multiplexing_claim first i).start (marks (StreamItem i) first.slots)
    (multiplexing_claim second i).start (marks (StreamItem i) second.slots) ∷ []

-- the last of m units in a row, sent across the switch, has left a buffer with that drain by its decoding time; late is by
-- how many slots the own slots of the second plan come later
abbrev pub across_entry : Condition → ℕ → ℕ → Share → Share → ℕ → ℕ → DescribedStream → ℕ → Entry
across_entry condition rate drain own next late i s m = let declared = drained_declaration s drain in
    at_most condition (group_part s m) i (lead_across declared own next late m) (time_given rate declared (own.count * next.count) m)

abbrev pub stream_shift : Planned → Planned → ℕ → ℕ
stream_shift first second i = shift (marks (StreamItem i) first.slots) (marks (StreamItem i) second.slots)

-- code 15: it has left the transport buffer
abbrev pub lead_switch_entry : Described → Planned → Planned → ℕ → DescribedStream → ℕ → Entry
lead_switch_entry d first second i s =
    across_entry LeadSwitch d.rate s.rx (stream_share first i) (stream_share second i) (stream_shift first second i) i s

-- code 16: the bytes that wait for their decoding time across the switch find room in the main buffer
abbrev pub main_switch_entry : Described → Planned → Planned → ℕ → DescribedStream → Entry
main_switch_entry d first second i s =
    at_most MainSwitch 0 i (bytes_across d.rate (declaration s) (stream_share first i) (stream_share second i)) s.main

-- code 16, part i: it does when i access units of a unit of most access units have been removed, for i from 1 to frames - 1
abbrev pub frame_switch_entry : Described → Planned → Planned → ℕ → DescribedStream → FrameDeclaration → ℕ → Entry
frame_switch_entry d first second number s f i = let left = f.frames - i in
    at_most MainSwitch i number (framed_across d.rate (declaration s) f (stream_share first number) (stream_share second number) left) s.main

abbrev pub frame_switch_entries : Described → Planned → Planned → ℕ → DescribedStream → Option FrameDeclaration → List Entry
frame_switch_entries d first second number s None = []
frame_switch_entries d first second number s (Some f) = entries_from (frame_switch_entry d first second number s f) 1 (f.frames - 1)

-- code 17: the last of m units in a row, sent across the switch, has left the multiplexing buffer by its decoding time
abbrev pub elementary_switch_entry : Described → Planned → Planned → ℕ → DescribedStream → LeakingBuffer → ℕ → Entry
elementary_switch_entry d first second i s b =
    across_entry ElementarySwitch d.rate b.rbx (elementary_share d.rate first i) (elementary_share d.rate second i) (stream_shift first second i) i s

abbrev pub elementary_switch_entries : Described → Planned → Planned → ℕ → DescribedStream → Option LeakingBuffer → List Entry
elementary_switch_entries d first second i s None = []
elementary_switch_entries d first second i s (Some b) = entries_from (elementary_switch_entry d first second i s b) 1 (allowance_rows s.allowance)

-- ---- streams whose own slots continue

-- an item owns the same slots of both periods
abbrev pub owns_same : Item → List Slot → List Slot → Bool
owns_same item first second = (length first == length second) && list_all (λ p. beq (is_own item p.0) (is_own item p.1)) (zip first second)

-- some stream declares its decoder as ISO/IEC 13818-1, 2.4.2.3 has it: a multiplexing buffer, or access units that leave one by one
abbrev pub is_finer : Described → Bool
is_finer d = list_any (λ s. is_some s.multiplexing || is_some s.framing) d.streams

-- a stream of such a description owns the same slots in both plans: over the switch they continue as over the end of a period
abbrev pub continues : Described → Planned → Planned → ℕ → Bool
continues d first second i = is_finer d && owns_same (StreamItem i) first.slots second.slots

-- the conditions on stream number i, if its own slots change
abbrev pub if_changed : Described → Planned → Planned → ℕ → List Entry → List Entry
if_changed d first second i es = if continues d first second i then [] else es

-- each code for all its items, in their order
abbrev pub pcr_switches : Described → Planned → Planned → List Entry
pcr_switches d first second = numbered (λ i program. pcr_switch_entry d first second i program ∷ []) 0 d.programs

abbrev pub table_switches : Described → Planned → Planned → List Entry
table_switches d first second = numbered (λ t _. table_switch_entry d first second t ∷ []) 0 (table_kinds d)

abbrev pub section_switches : Described → Planned → Planned → List Entry
section_switches d first second = numbered (λ t _. section_switch_entries d first second t) 0 (table_kinds d)

abbrev pub stream_works : Described → Planned → Planned → List Entry
stream_works d first second = numbered (λ i s. stream_work_entries d first second i s) 0 d.streams

abbrev pub transport_works : Described → Planned → Planned → List Entry
transport_works d first second = numbered (λ i _. transport_work_entry d first second i ∷ []) 0 d.programs

abbrev pub system_works : Described → Planned → Planned → List Entry
system_works d first second = numbered (λ i _. system_work_entry d first second i ∷ []) 0 d.programs

abbrev pub multiplexing_works : Described → Planned → Planned → List Entry
multiplexing_works d first second = numbered (λ i s. multiplexing_work_entries d first second i s.multiplexing) 0 d.streams

abbrev pub lead_switches : Described → Planned → Planned → List Entry
lead_switches d first second =
    numbered (λ i s. if_changed d first second i (entries_from (lead_switch_entry d first second i s) 1 (allowance_rows s.allowance))) 0 d.streams

abbrev pub main_switches : Described → Planned → Planned → List Entry
main_switches d first second =
    numbered (λ i s. if_changed d first second i (main_switch_entry d first second i s ∷ frame_switch_entries d first second i s s.framing)) 0 d.streams

abbrev pub elementary_switches : Described → Planned → Planned → List Entry
elementary_switches d first second =
    numbered (λ i s. if_changed d first second i (elementary_switch_entries d first second i s s.multiplexing)) 0 d.streams

-- codes 12 and 13, then code 18, then codes 14 to 17, by code, then item, then part
abbrev pub joint_entries : Described → Planned → Planned → List Entry
joint_entries d first second = pcr_switches d first second ++ (table_switches d first second ++ (section_switches d first second
    ++ (stream_works d first second ++ (transport_works d first second ++ (system_works d first second ++ (multiplexing_works d first second
    ++ (lead_switches d first second ++ (main_switches d first second ++ elementary_switches d first second))))))))

-- the conditions of a second plan after a first plan: the second plan's own conditions and, if these hold, the joint conditions
abbrev pub switch_entries : Described → Planned → Planned → List Entry
switch_entries d first second =
    if is_none (first_failing (entries d second)) then entries d second ++ joint_entries d first second else entries d second

-- a second plan that may follow the first
abbrev pub IsSwitchable : Described → Planned → Planned → Type 0
IsSwitchable d first second = first_failing (switch_entries d first second) ≡ None
