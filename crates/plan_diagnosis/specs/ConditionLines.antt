-- The lines for the conditions that a plan does not keep: numbers in the units of a description's and a plan's keys, and the
-- number that would do.
use Rattle.std.specs.Prelude.{ℕ, ◌+◌, ◌-◌, ◌*◌, ◌/◌, ◌==◌, max, List, [], ◌++◌, length, Option, Some, None, codes, decimal, nat_lt, slice_get, if◌then◌else◌}
use Rattle.std.specs.Int.{div_ceil}
use Rattle.std.specs.List.{flat_map}
use Rattle.clock27.specs.Units.{slot_ms_at_1bps, slot_seconds_at_1bps}
use Rattle.unit_timing.specs.Allowances.{steady_time}
use Rattle.description_parts.specs.Described.{Described, DescribedProgram, DescribedStream}
use Rattle.slot_plan.specs.Entries.{Entry, code_of}
use Rattle.slot_plan.specs.Planned.{Planned}
use Rattle.slot_plan.specs.declared.condition.Condition.{Condition}
use Rattle.slot_plan.specs.declared.condition.Condition.TheVariants.{Shape, PcrGap, TableGap, Spread, StreamRate, TransportBuffer, StreamLead, MainBuffer}
use Rattle.slot_plan.specs.declared.condition.Condition.TheVariants.{SystemBuffer, MultiplexingBuffer, ElementaryLead, SectionDistance, PcrSwitch, TableSwitch}
use Rattle.slot_plan.specs.declared.condition.Condition.TheVariants.{WorkSwitch, LeadSwitch, MainSwitch, ElementarySwitch}
use Rattle.plan_checker.specs.Failing.{failing}
use Rattle.plan_diagnosis.specs.ItemNames.{name_of_stream, program_name, stream_name, table_name}
use Rattle.plan_diagnosis.specs.ReasonLines.{greatest_lead, key_of, key_words, least_words, pcr_words, steady_cause, stream_line}
use Rattle.plan_diagnosis.specs.declared.stream_numbers.StreamNumber.TheVariants.{Lead, Main}

-- 1. The shape

-- streams, programs and tables have one row of numbers
abbrev pub counted_name : Described → ℕ → List ℕ
counted_name d i =
    if nat_lt i (length d.streams) then stream_name d i
    else (if nat_lt i (length d.streams + length d.programs) then program_name d (i - length d.streams)
    else table_name d (i - length d.streams - length d.programs))

abbrev pub length_line : Entry → List ℕ
length_line e = codes "plan has " ++ decimal e.left ++ codes " slots, more than " ++ decimal e.right ++ codes "\n"

abbrev pub slot_line : Entry → List ℕ
slot_line e = codes "slot " ++ decimal e.item ++ codes " names one of " ++ decimal e.left ++ codes ", and there are " ++ decimal e.right ++ codes "\n"

abbrev pub owner_line : Described → Entry → List ℕ
owner_line d e = counted_name d e.item ++ codes " has no slot\n"

abbrev pub stream_claims_line : Entry → List ℕ
stream_claims_line e = codes "plan has " ++ decimal e.left ++ codes " stream lines, and there are " ++ decimal e.right ++ codes "\n"

abbrev pub program_claims_line : Entry → List ℕ
program_claims_line e = codes "plan has " ++ decimal e.left ++ codes " program lines, and there are " ++ decimal e.right ++ codes "\n"

unfoldable pub shape_line : Described → Entry → List ℕ
shape_line d e =
    if e.part == 1 then codes "plan has no slot\n"
    else (if e.part == 2 then length_line e
    else (if e.part == 3 then slot_line e
    else (if e.part == 4 then owner_line d e
    else (if e.part == 5 then stream_claims_line e
    else program_claims_line e))))

-- 2. Recurrence, in ms; spread and slots

unfoldable pub gap_cause : List ℕ
gap_cause = codes " for the gaps of its slots\n"

-- there is no line for a number that names nothing
unfoldable pub pcr_gap_line : ℕ → Entry → Option DescribedProgram → List ℕ
pcr_gap_line rate e None = []
pcr_gap_line rate e (Some p) = pcr_words e.item p (div_ceil e.left rate) gap_cause

abbrev pub claim_words : List ℕ → ℕ → ℕ → List ℕ
claim_words key claimed counted = codes " " ++ key ++ codes " " ++ decimal claimed ++ codes " is less than " ++ decimal counted ++ codes " for its slots\n"

abbrev pub table_gap_line : Described → Entry → List ℕ
table_gap_line d e = table_name d e.item ++ claim_words (codes "limit") (e.right / d.rate) (div_ceil e.left d.rate)

-- how long after the end of a section the next one of its sub-table begins, in ms, rounded down
abbrev pub distance_of : ℕ → Entry → ℕ
distance_of rate e = (e.right - slot_ms_at_1bps) / rate

unfoldable pub distance_words : ℕ → List ℕ
distance_words distance = codes " sections " ++ decimal distance ++ codes " ms apart, at least 25\n"

abbrev pub section_distance_line : Described → Entry → List ℕ
section_distance_line d e = table_name d e.item ++ distance_words (distance_of d.rate e)

abbrev pub spread_line : Described → Entry → List ℕ
spread_line d e = stream_name d e.item ++ claim_words (codes "spread") e.right e.left

-- the share that one slot of a period gives
abbrev pub slot_share : ℕ → DescribedStream → ℕ
slot_share rate s = max (steady_time s.allowance s.interval * rate) 1

unfoldable pub count_words : ℕ → ℕ → List ℕ
count_words given wanted = codes " slots " ++ decimal given ++ codes " is less than " ++ decimal wanted

abbrev pub slots_words : Entry → ℕ → List ℕ
slots_words e share = count_words (e.right / share) (div_ceil e.left share)

unfoldable pub stream_rate_line : ℕ → Entry → Option DescribedStream → List ℕ
stream_rate_line rate e None = []
stream_rate_line rate e (Some s) = name_of_stream e.item (Some s) ++ (slots_words e (slot_share rate s) ++ steady_cause s.allowance)

-- 3. Buffers, in bytes; leads in units of 90 kHz

unfoldable pub size_words : List ℕ → ℕ → ℕ → List ℕ
size_words buffer room wanted = buffer ++ decimal room ++ codes " is less than " ++ decimal wanted ++ codes " for its slots\n"

abbrev pub room_words : List ℕ → ℕ → Entry → List ℕ
room_words buffer rate e = size_words buffer (e.right / rate) (div_ceil e.left rate)

-- a buffer is never empty; or there are more slots than a second has between two slots when it becomes empty
unfoldable pub never_empty_words : List ℕ → List ℕ
never_empty_words buffer = buffer ++ codes "is never empty\n"

unfoldable pub seldom_words : List ℕ → ℕ → ℕ → List ℕ
seldom_words buffer slots second = buffer ++ codes "is empty only once in " ++ decimal slots ++ codes " slots, and a second has " ++ decimal second
    ++ codes "\n"

abbrev pub seldom_empty_words : List ℕ → Entry → List ℕ
seldom_empty_words buffer e = seldom_words buffer (e.left / slot_seconds_at_1bps) (e.right / slot_seconds_at_1bps)

-- a packet finds no room; or the claims of a peak and of a start are too little; or it is not empty at least once a second
unfoldable pub buffer_words : List ℕ → List ℕ → List ℕ → ℕ → Entry → List ℕ
buffer_words buffer peak start rate e =
    if e.part == 1 then room_words buffer rate e
    else (if e.part == 2 then claim_words peak e.right e.left
    else (if e.part == 3 then claim_words start e.right e.left
    else (if e.part == 4 then never_empty_words buffer
    else seldom_empty_words buffer e)))

-- streams and programs have one row of numbers
abbrev pub transport_line : Described → Entry → List ℕ
transport_line d e =
    if nat_lt e.item (length d.streams)
    then stream_name d e.item ++ buffer_words (codes " transport buffer ") (codes "peak") (codes "start") d.rate e
    else program_name d (e.item - length d.streams) ++ buffer_words (codes " transport buffer ") (codes "tpeak") (codes "tstart") d.rate e

abbrev pub system_line : Described → Entry → List ℕ
system_line d e = program_name d e.item ++ buffer_words (codes " system buffer ") (codes "bpeak") (codes "bstart") d.rate e

abbrev pub multiplexing_line : Described → Entry → List ℕ
multiplexing_line d e = stream_name d e.item ++ buffer_words (codes " multiplexing buffer ") (codes "mpeak") (codes "mstart") d.rate e

-- the units in a row, and the time from the first to the last
abbrev pub units_in_row : Entry → ℕ
units_in_row e = max e.part 1

abbrev pub time_of_row : Entry → DescribedStream → ℕ
time_of_row e s = (units_in_row e - 1) * s.interval

-- the share that a unit of 90 kHz gives
abbrev pub lead_share : Entry → DescribedStream → ℕ
lead_share e s = max (e.right / max (s.lead + time_of_row e s) 1) 1

-- the least lead that keeps the condition
abbrev pub lead_for : Entry → DescribedStream → ℕ
lead_for e s = div_ceil e.left (lead_share e s) - time_of_row e s

unfoldable pub row_words : ℕ → List ℕ
row_words units = codes " for " ++ decimal units ++ codes " in a row\n"

unfoldable pub least_lead_words : ℕ → ℕ → List ℕ
least_lead_words lead least = key_words (key_of Lead) lead ++ least_words least greatest_lead

abbrev pub lead_words : Entry → DescribedStream → List ℕ
lead_words e s = least_lead_words s.lead (lead_for e s) ++ row_words (units_in_row e)

unfoldable pub stream_lead_line : Entry → Option DescribedStream → List ℕ
stream_lead_line e None = []
stream_lead_line e (Some s) = name_of_stream e.item (Some s) ++ lead_words e s

-- 4. All of them

-- a condition on two plans has the two numbers that it compares
abbrev pub switch_line : Entry → List ℕ
switch_line e = codes "condition " ++ decimal (code_of e.condition) ++ codes " part " ++ decimal e.part ++ codes " item " ++ decimal e.item
    ++ codes ": " ++ decimal e.left ++ codes ", at most " ++ decimal e.right ++ codes "\n"

unfoldable pub line_for : Condition → Described → Entry → List ℕ
line_for Shape d e = shape_line d e
line_for PcrGap d e = pcr_gap_line d.rate e (slice_get d.programs e.item)
line_for TableGap d e = table_gap_line d e
line_for Spread d e = spread_line d e
line_for StreamRate d e = stream_rate_line d.rate e (slice_get d.streams e.item)
line_for TransportBuffer d e = transport_line d e
line_for StreamLead d e = stream_lead_line e (slice_get d.streams e.item)
line_for MainBuffer d e = stream_line Main e.item e.left (slice_get d.streams e.item)
line_for SystemBuffer d e = system_line d e
line_for MultiplexingBuffer d e = multiplexing_line d e
line_for ElementaryLead d e = stream_lead_line e (slice_get d.streams e.item)
line_for SectionDistance d e = section_distance_line d e
line_for PcrSwitch d e = switch_line e
line_for TableSwitch d e = switch_line e
line_for WorkSwitch d e = switch_line e
line_for LeadSwitch d e = switch_line e
line_for MainSwitch d e = switch_line e
line_for ElementarySwitch d e = switch_line e

abbrev pub condition_line : Described → Entry → List ℕ
condition_line d e = line_for e.condition d e

-- a line for each condition that a plan does not keep
abbrev pub condition_lines : Described → Planned → List ℕ
condition_lines d p = flat_map (condition_line d) (failing d p)
