-- The lines for the reasons why no plan serves a description.
use Rattle.std.specs.Prelude.{ℕ, ◌==◌, List, [], ◌++◌, Option, Some, None, codes, decimal, nat_lt, slice_get, if◌then◌else◌}
use Rattle.std.specs.List.{flat_map}
use Rattle.unit_timing.specs.declared.allowance.Allowance.{Allowance}
use Rattle.unit_timing.specs.declared.allowance.Allowance.TheVariants.{Groups, Pace}
use Rattle.unit_timing.specs.declared.multiplexing_buffer.MultiplexingBuffer.{MultiplexingBuffer}
use Rattle.description_parts.specs.Described.{Described, DescribedProgram, DescribedStream}
use Rattle.plan_maker.specs.declared.reason.Reason.{Reason}
use Rattle.plan_maker.specs.declared.reason.Reason.TheVariants.{PcrLimit, TableLimit, SlowDrain, SlowLeak, ShortLead, SmallMain, Overload}
use Rattle.plan_maker.specs.Reasons.{reasons_of}
use Rattle.plan_diagnosis.specs.declared.stream_numbers.StreamNumber.{StreamNumber}
use Rattle.plan_diagnosis.specs.declared.stream_numbers.StreamNumber.TheVariants.{Rx, Rbx, Lead, Main}
use Rattle.plan_diagnosis.specs.ItemNames.{name_of_program, name_of_stream, table_name}

-- the greatest values of keys: ms between clock references, bits a second, units of 90 kHz, bytes
abbrev pub greatest_pcr_limit : ℕ
greatest_pcr_limit = 100

abbrev pub greatest_rx : ℕ
greatest_rx = 200000000

abbrev pub greatest_lead : ℕ
greatest_lead = 90000

abbrev pub greatest_main : ℕ
greatest_main = 10000000

-- a key and its value
abbrev pub key_words : List ℕ → ℕ → List ℕ
key_words key value = codes " " ++ key ++ codes " " ++ decimal value

-- the least sufficient value; if it exceeds the greatest value of the key, none is sufficient
abbrev pub least_words : ℕ → ℕ → List ℕ
least_words least greatest = if nat_lt greatest least then codes ": none is enough" else codes " is less than " ++ decimal least

-- a value that is less than the least sufficient value, and what asks for that value
abbrev pub less_words : List ℕ → ℕ → ℕ → ℕ → List ℕ → List ℕ
less_words key value least greatest cause = key_words key value ++ (least_words least greatest ++ cause)

-- the causes that ask for it: a slot; the units within the lead
unfoldable pub slot_cause : List ℕ
slot_cause = codes " for a slot\n"

unfoldable pub within_lead_cause : List ℕ
within_lead_cause = codes " for what comes within its lead\n"

-- the numbers that make units ask for slots and for a drain in the long run
unfoldable pub steady_cause : Allowance → List ℕ
steady_cause (Groups units packets) = if units == 1 then codes " for its size and interval\n" else codes " for its group_packets and interval\n"
steady_cause (Pace burst pace) = codes " for its pace\n"

-- the numbers that make units ask for slots at once
unfoldable pub row_cause : Allowance → List ℕ
row_cause (Groups units packets) = if units == 1 then codes " for its size\n" else codes " for its group_packets\n"
row_cause (Pace burst pace) = codes " for its burst_packets\n"

-- the words for the limit of a program's clock references
abbrev pub pcr_words : ℕ → DescribedProgram → ℕ → List ℕ → List ℕ
pcr_words i p least cause = name_of_program i (Some p) ++ less_words (codes "pcr_limit") p.pcr_limit least greatest_pcr_limit cause

-- there is no line for a number that names nothing
unfoldable pub pcr_line : ℕ → ℕ → Option DescribedProgram → List ℕ
pcr_line i least None = []
pcr_line i least (Some p) = pcr_words i p least slot_cause

-- the numbers of a stream: the key of each, its value, the greatest that it may have, and what asks for more
unfoldable pub key_of : StreamNumber → List ℕ
key_of Rx = codes "rx"
key_of Rbx = codes "rbx"
key_of Lead = codes "lead"
key_of Main = codes "main"

-- the rate of a leak; 0 if there is none
abbrev pub rbx_of : Option MultiplexingBuffer → ℕ
rbx_of None = 0
rbx_of (Some b) = b.rbx

abbrev pub value_of : StreamNumber → DescribedStream → ℕ
value_of Rx s = s.rx
value_of Rbx s = rbx_of s.multiplexing
value_of Lead s = s.lead
value_of Main s = s.main

abbrev pub greatest_of : StreamNumber → ℕ
greatest_of Rx = greatest_rx
greatest_of Rbx = greatest_rx
greatest_of Lead = greatest_lead
greatest_of Main = greatest_main

abbrev pub cause_of : StreamNumber → Allowance → List ℕ
cause_of Rx allowance = steady_cause allowance
cause_of Rbx allowance = steady_cause allowance
cause_of Lead allowance = row_cause allowance
cause_of Main allowance = within_lead_cause

-- the line for a number of a stream that is too small
unfoldable pub stream_line : StreamNumber → ℕ → ℕ → Option DescribedStream → List ℕ
stream_line number i least None = []
stream_line number i least (Some s) =
    name_of_stream i (Some s) ++ less_words (key_of number) (value_of number s) least (greatest_of number) (cause_of number s.allowance)

abbrev pub table_line : Described → ℕ → ℕ → List ℕ
table_line d t least = table_name d t ++ codes " limit is less than " ++ decimal least ++ codes " for the slots of a round\n"

-- a rate is known by reckoning: it is the least at which all items have slots
unfoldable pub rate_line : ℕ → Option ℕ → List ℕ
rate_line rate (Some least) = codes "rate " ++ decimal rate ++ codes " is less than " ++ decimal least ++ codes " by reckoning\n"
rate_line rate None = codes "rate " ++ decimal rate ++ codes ": none is enough by reckoning\n"

unfoldable pub reason_line : Described → Reason → List ℕ
reason_line d (PcrLimit i least) = pcr_line i least (slice_get d.programs i)
reason_line d (TableLimit t least) = table_line d t least
reason_line d (SlowDrain i least) = stream_line Rx i least (slice_get d.streams i)
reason_line d (SlowLeak i least) = stream_line Rbx i least (slice_get d.streams i)
reason_line d (ShortLead i least) = stream_line Lead i least (slice_get d.streams i)
reason_line d (SmallMain i least) = stream_line Main i least (slice_get d.streams i)
reason_line d (Overload least) = rate_line d.rate least

-- a line for each reason
abbrev pub reason_lines : Described → List ℕ
reason_lines d = flat_map (reason_line d) (reasons_of d)
