-- The conditions under which a plan serves a service description: each compares two whole numbers. The first, code 1, is the shape
-- of the plan; the further conditions apply only if it holds. Rates are in bits a second, a slot is 188 bytes.
use Rattle.std.specs.Prelude.{◌≡◌, ℕ, zero, suc, ◌+◌, ◌-◌, ◌*◌, ◌==◌, Bool, None, List, [], ◌∷◌, ◌++◌, Option, Some, length, is_none, if◌then◌else◌}
use Rattle.clock27.specs.Units.{slot_ms_at_1bps, slot_seconds_at_1bps}
use Rattle.own_slots.specs.Period.{per_period}
use Rattle.own_slots.specs.Gaps.{gap}
use Rattle.own_slots.specs.Spread.{spread}
use Rattle.own_slots.specs.Work.{most_before, most_after, work_left}
use Rattle.unit_timing.specs.Buffers.{tb_size, system_tb_drain, bsys_size, bsys_drain}
use Rattle.unit_timing.specs.declared.framing.FrameDeclaration.{FrameDeclaration}
use Rattle.unit_timing.specs.declared.multiplexing_buffer.MultiplexingBuffer.{MultiplexingBuffer as LeakingBuffer}
use Rattle.unit_timing.specs.Allowances.{allowance_rows}
use Rattle.unit_timing.specs.Conditions.{Share, rate_needed, rate_given, lead_needed, time_given, bytes_waiting}
use Rattle.unit_timing.specs.AccessUnits.{framed_waiting}
use Rattle.description_parts.specs.Described.{Described, DescribedProgram, DescribedStream}
use Rattle.description_parts.specs.Tables.{table_kinds, table_count, table_limit, round_packets, clock_of, has_references, only_if}
use Rattle.slot_plan.specs.declared.slot.Slot.{Slot}
use Rattle.slot_plan.specs.declared.slot.Item.{Item}
use Rattle.slot_plan.specs.declared.slot.Slot.TheVariants.{Stream, Pcr, Table, Null}
use Rattle.slot_plan.specs.declared.slot.Item.TheVariants.{Stream as StreamItem, Pcr as PcrItem, Table as TableItem, System}
use Rattle.slot_plan.specs.declared.condition.Condition.{Condition}
use Rattle.slot_plan.specs.declared.condition.Condition.TheVariants.{Shape, PcrGap, TableGap, Spread, StreamRate, TransportBuffer, StreamLead, MainBuffer}
use Rattle.slot_plan.specs.declared.condition.Condition.TheVariants.{SystemBuffer, MultiplexingBuffer, ElementaryLead}
use Rattle.slot_plan.specs.Numbered.{numbered}
use Rattle.slot_plan.specs.Planned.{Planned}
use Rattle.slot_plan.specs.EmptySlots.{empty_slots}
use Rattle.slot_plan.specs.Items.{marks}
use Rattle.slot_plan.specs.Claims.{declaration, stream_claim, program_claim, stream_share, drained_declaration, multiplexing_claim, elementary_share}
use Rattle.slot_plan.specs.SectionDistances.{section_distance_entries}
use Rattle.slot_plan.specs.Entries.{Entry, at_most, equal_counts, first_failing}

-- the most slots of a period
abbrev pub longest_period : ℕ
longest_period = 65536

-- code 1, part 3: a slot names an item that the description has; a program whose clock references are another's has no slot for them
abbrev pub named_entry : Described → ℕ → Slot → Entry
named_entry d s (Stream number) = at_most Shape 3 s (number + 1) (length d.streams)
named_entry d s (Pcr number) = at_most Shape 3 s (number + 1) (if has_references d number then length d.programs else 0)
named_entry d s (Table number) = at_most Shape 3 s (number + 1) (table_count d)
named_entry d s Null = at_most Shape 3 s 0 0

-- code 1, part 4: an item has a slot
abbrev pub owner_entry : Planned → ℕ → Item → Entry
owner_entry p number item = at_most Shape 4 number 1 (per_period (marks item p.slots))

-- code 1, parts 1 and 2: a period has slots, and not too many
abbrev pub length_entries : Planned → List Entry
length_entries p = at_most Shape 1 0 1 (length p.slots) ∷ at_most Shape 2 0 (length p.slots) longest_period ∷ []

-- code 1, part 3 for each slot
abbrev pub name_entries : Described → Planned → List Entry
name_entries d p = numbered (λ s slot. named_entry d s slot ∷ []) 0 p.slots

-- code 1, part 4 for each stream, program with clock references of its own and table; their numbers are counted on, also over the
-- programs on another's clock
abbrev pub stream_owner_entries : Described → Planned → List Entry
stream_owner_entries d p = numbered (λ i _. owner_entry p i (StreamItem i) ∷ []) 0 d.streams

abbrev pub clock_owner_entries : Described → Planned → ℕ → List Entry
clock_owner_entries d p i = only_if (has_references d i) (owner_entry p (length d.streams + i) (PcrItem i))

abbrev pub program_owner_entries : Described → Planned → List Entry
program_owner_entries d p = numbered (λ i _. clock_owner_entries d p i) 0 d.programs

abbrev pub table_owner_entries : Described → Planned → List Entry
table_owner_entries d p = numbered (λ t _. owner_entry p (length d.streams + length d.programs + t) (TableItem t) ∷ []) 0 (table_kinds d)

-- code 1, parts 5 and 6: the certificate has an entry for each stream and each program
abbrev pub claim_entries : Described → Planned → List Entry
claim_entries d p = equal_counts Shape 5 0 (length p.certificate.streams) (length d.streams)
    ∷ equal_counts Shape 6 0 (length p.certificate.programs) (length d.programs) ∷ []

-- code 1: the shape of a plan
abbrev pub shape_entries : Described → Planned → List Entry
shape_entries d p =
    length_entries p ++ (name_entries d p ++ (stream_owner_entries d p ++ (program_owner_entries d p ++ (table_owner_entries d p ++ claim_entries d p))))

-- code 2: the PCRs of a program's clock recur within the program's limit, in ms (ISO/IEC 13818-1, 2.7.2)
abbrev pub pcr_gap_entry : Described → Planned → ℕ → DescribedProgram → Entry
pcr_gap_entry d p i program = at_most PcrGap 0 i (gap (marks (PcrItem (clock_of d i)) p.slots) 1 * slot_ms_at_1bps) (program.pcr_limit * d.rate)

-- code 3: each section of a table recurs within the table's limit, in ms (ETSI TR 101 290, 5.2)
abbrev pub table_gap_entry : Described → Planned → ℕ → Entry
table_gap_entry d p t = at_most TableGap 0 t (gap (marks (TableItem t) p.slots) (round_packets d t) * slot_ms_at_1bps) (table_limit d t * d.rate)

-- code 4: a stream's slots are spread as claimed
abbrev pub spread_entry : Planned → ℕ → Entry
spread_entry p i = at_most Spread 0 i (spread (marks (StreamItem i) p.slots)) (stream_claim p i).spread

-- code 5: a stream has slots enough for the packets of its units in the long run
abbrev pub stream_rate_entry : Described → Planned → ℕ → DescribedStream → Entry
stream_rate_entry d p i s = let own = stream_share p i in
    at_most StreamRate 0 i (rate_needed (declaration s) own) (rate_given d.rate (declaration s) own)

-- the three parts of a buffer of `room` bytes: each packet finds room, the work after a packet is at most the peak, a period leaves
-- at most the work `start` that it began with
abbrev pub buffer_entries : Condition → ℕ → ℕ → ℕ → ℕ → ℕ → ℕ → List Bool → List Entry
buffer_entries condition item rate drain room start peak own =
    at_most condition 1 item (most_before rate drain start own) (room * rate)
    ∷ at_most condition 2 item (most_after rate drain start own) peak
    ∷ at_most condition 3 item (work_left rate drain start own) start ∷ []

-- two parts more for a buffer that has to be empty at least once a second (ISO/IEC 13818-1, 2.4.2.6): it becomes empty in some slot
-- of a period, and the longest time from one such slot to the next, also across the period's end, is at most a second
abbrev pub emptied_entries : Condition → ℕ → ℕ → ℕ → ℕ → List Bool → List Entry
emptied_entries condition item rate drain start own = let empties = empty_slots rate drain start own in
    at_most condition 4 item 1 (per_period empties)
    ∷ at_most condition 5 item (gap empties 1 * slot_seconds_at_1bps) rate ∷ []

-- code 6, parts 4 and 5: the transport buffer of a stream, if there is a multiplexing buffer after it
abbrev pub stream_emptied_entries : Described → Planned → ℕ → DescribedStream → Option LeakingBuffer → List Entry
stream_emptied_entries d p i s None = []
stream_emptied_entries d p i s (Some b) =
    emptied_entries TransportBuffer i d.rate s.rx (stream_claim p i).start (marks (StreamItem i) p.slots)

-- code 6: the transport buffer of a stream, of 512 bytes (ISO/IEC 13818-1, 2.4.2.3)
abbrev pub stream_buffer_entries : Described → Planned → ℕ → DescribedStream → List Entry
stream_buffer_entries d p i s = let claim = stream_claim p i in
    buffer_entries TransportBuffer i d.rate s.rx tb_size claim.start claim.peak (marks (StreamItem i) p.slots)
    ++ stream_emptied_entries d p i s s.multiplexing

-- code 6: the transport buffer of a program's system packets, drained at 1,000,000 bits a second
abbrev pub transport_buffer_entries : Described → Planned → ℕ → List Entry
transport_buffer_entries d p i = let claim = program_claim p i in
    buffer_entries TransportBuffer (length d.streams + i) d.rate system_tb_drain tb_size claim.transport_start claim.transport_peak (marks (System i) p.slots)

-- the part of a condition on m units in a row: 0 if it is asked of one unit alone
abbrev pub group_part : DescribedStream → ℕ → ℕ
group_part s m = if allowance_rows s.allowance == 1 then 0 else m

-- the last of m units in a row has left a buffer with that drain by its decoding time
abbrev pub lead_entry : Condition → ℕ → ℕ → Share → ℕ → DescribedStream → ℕ → Entry
lead_entry condition rate drain own i s m = let declared = drained_declaration s drain in
    at_most condition (group_part s m) i (lead_needed declared own m) (time_given rate declared own.count m)

-- code 7: it has left the transport buffer
abbrev pub stream_lead_entry : Described → Planned → ℕ → DescribedStream → ℕ → Entry
stream_lead_entry d p i s = lead_entry StreamLead d.rate s.rx (stream_share p i) i s

-- an entry for each of the n numbers from m on
abbrev pub entries_from : (ℕ → Entry) → ℕ → ℕ → List Entry
entries_from f m zero = []
entries_from f m (suc n) = f m ∷ entries_from f (suc m) n

-- code 8: what waits for its decoding time finds room in the main buffer; with a multiplexing buffer before it that is the
-- elementary stream buffer, which then has room for what waits in both
abbrev pub main_buffer_entry : Described → Planned → ℕ → DescribedStream → Entry
main_buffer_entry d p i s = at_most MainBuffer 0 i (bytes_waiting d.rate (declaration s) (stream_share p i)) s.main

-- code 8, part i of a stream whose units are PES packets of several access units (ISO/IEC 13818-1, 2.4.2.3): when i access units of
-- a unit of most access units have been removed, those that are left and the bytes of later units that can have arrived find room in
-- the main buffer. i is 1 to frames - 1; a stream without these keys has part 0 only
abbrev pub frame_entry : Described → Planned → ℕ → DescribedStream → FrameDeclaration → ℕ → Entry
frame_entry d p number s f i = let left = f.frames - i in
    at_most MainBuffer i number (framed_waiting d.rate (declaration s) f (stream_share p number) left) s.main

abbrev pub frame_entries : Described → Planned → ℕ → DescribedStream → Option FrameDeclaration → List Entry
frame_entries d p number s None = []
frame_entries d p number s (Some f) = entries_from (frame_entry d p number s f) 1 (f.frames - 1)

-- code 9: a program's system buffer, of 1,536 bytes and drained at 80,000 bits a second
abbrev pub system_buffer_entries : Described → Planned → ℕ → List Entry
system_buffer_entries d p i = let claim = program_claim p i in
    buffer_entries SystemBuffer i d.rate bsys_drain bsys_size claim.system_start claim.system_peak (marks (System i) p.slots)

-- code 10: the multiplexing buffer of a stream of video, if it has one, with its leak (ISO/IEC 13818-1, 2.4.2.3). It has to be
-- empty at least once a second too
abbrev pub multiplexing_buffer_entries : Described → Planned → ℕ → Option LeakingBuffer → List Entry
multiplexing_buffer_entries d p i None = []
multiplexing_buffer_entries d p i (Some b) = let claim = multiplexing_claim p i in
    buffer_entries MultiplexingBuffer i d.rate b.rbx b.size claim.start claim.peak (marks (StreamItem i) p.slots)
    ++ emptied_entries MultiplexingBuffer i d.rate b.rbx claim.start (marks (StreamItem i) p.slots)

-- code 11: the last of m units in a row has left the multiplexing buffer, and is in the elementary stream buffer, by its
-- decoding time
abbrev pub elementary_lead_entry : Described → Planned → ℕ → DescribedStream → LeakingBuffer → ℕ → Entry
elementary_lead_entry d p i s b = lead_entry ElementaryLead d.rate b.rbx (elementary_share d.rate p i) i s

abbrev pub elementary_lead_entries : Described → Planned → ℕ → DescribedStream → Option LeakingBuffer → List Entry
elementary_lead_entries d p i s None = []
elementary_lead_entries d p i s (Some b) = entries_from (elementary_lead_entry d p i s b) 1 (allowance_rows s.allowance)

-- each code for all its items, in their order
abbrev pub pcr_gaps : Described → Planned → List Entry
pcr_gaps d p = numbered (λ i program. pcr_gap_entry d p i program ∷ []) 0 d.programs

abbrev pub table_gaps : Described → Planned → List Entry
table_gaps d p = numbered (λ t _. table_gap_entry d p t ∷ []) 0 (table_kinds d)

abbrev pub spreads : Described → Planned → List Entry
spreads d p = numbered (λ i _. spread_entry p i ∷ []) 0 d.streams

abbrev pub stream_rates : Described → Planned → List Entry
stream_rates d p = numbered (λ i s. stream_rate_entry d p i s ∷ []) 0 d.streams

abbrev pub stream_buffers : Described → Planned → List Entry
stream_buffers d p = numbered (stream_buffer_entries d p) 0 d.streams

abbrev pub transport_buffers : Described → Planned → List Entry
transport_buffers d p = numbered (λ i _. transport_buffer_entries d p i) 0 d.programs

abbrev pub stream_leads : Described → Planned → List Entry
stream_leads d p = numbered (λ i s. entries_from (stream_lead_entry d p i s) 1 (allowance_rows s.allowance)) 0 d.streams

abbrev pub main_buffers : Described → Planned → List Entry
main_buffers d p = numbered (λ i s. main_buffer_entry d p i s ∷ frame_entries d p i s s.framing) 0 d.streams

abbrev pub system_buffers : Described → Planned → List Entry
system_buffers d p = numbered (λ i _. system_buffer_entries d p i) 0 d.programs

abbrev pub multiplexing_buffers : Described → Planned → List Entry
multiplexing_buffers d p = numbered (λ i s. multiplexing_buffer_entries d p i s.multiplexing) 0 d.streams

abbrev pub elementary_leads : Described → Planned → List Entry
elementary_leads d p = numbered (λ i s. elementary_lead_entries d p i s s.multiplexing) 0 d.streams

abbrev pub section_distances : Described → Planned → List Entry
section_distances d p = numbered (λ t _. section_distance_entries d p t) 0 (table_kinds d)

-- codes 2 to 11, then code 18, by code, then item, then part
abbrev pub timing_entries : Described → Planned → List Entry
timing_entries d p = pcr_gaps d p ++ (table_gaps d p ++ (spreads d p ++ (stream_rates d p ++ (stream_buffers d p ++ (transport_buffers d p
    ++ (stream_leads d p ++ (main_buffers d p ++ (system_buffers d p ++ (multiplexing_buffers d p ++ (elementary_leads d p ++ section_distances d p))))))))))

-- the conditions of a plan for a description, in their order
abbrev pub entries : Described → Planned → List Entry
entries d p = if is_none (first_failing (shape_entries d p)) then shape_entries d p ++ timing_entries d p else shape_entries d p

-- a plan that keeps all conditions
abbrev pub IsServing : Described → Planned → Type 0
IsServing d p = first_failing (entries d p) ≡ None
