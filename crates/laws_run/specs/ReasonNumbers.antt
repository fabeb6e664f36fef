-- Numbers of reasons why no plan serves a description: the least number with which the description no longer has the reason.
use Rattle.std.specs.Prelude.{◌≡◌, ◌↔◌, ℕ, ◌<◌, ◌≤◌, true, false, List, [], ◌∷◌, Some, None}
use Rattle.clock27.specs.declared.rate.TheConstants.{GREATEST_RATE}
use Rattle.unit_timing.specs.declared.multiplexing_buffer.MultiplexingBuffer.{MultiplexingBuffer}
use Rattle.description_parts.specs.Described.{Described, DescribedProgram, DescribedStream}
use Rattle.description_parts.specs.Ranges.{IsStream}
use Rattle.description_parts.specs.Tables.{round_packets, table_limit}
use Rattle.plan_maker.specs.declared.reason.Reason.{Reason}
use Rattle.plan_maker.specs.declared.reason.Reason.TheVariants.{Overload, PcrLimit, ShortLead, SlowDrain, SlowLeak, SmallMain, TableLimit}
use Rattle.plan_maker.specs.Loads.{has_slots}
use Rattle.plan_maker.specs.Reasons.{drain_reason, lead_reason, leak_reason, load_reason, main_reason, pcr_reason, table_reason}

-- there is no reason with the least number and with greater ones, and a reason with each less number
abbrev pub GoesAt : (ℕ → List Reason) → ℕ → Type 0
GoesAt reason least = (n : ℕ) → (reason n ≡ []) ↔ (least ≤ n)

-- 1. Limits, in ms

-- the limit of a program's clock references
abbrev pub PcrNumber : Type 0
PcrNumber = (d : Described) (p : DescribedProgram) (i least : ℕ) → 0 < d.rate → pcr_reason d i p ≡ PcrLimit i least ∷ [] →
    GoesAt (λ n. pcr_reason d i (record p { pcr_limit = n })) least

-- the limit of a table, in a description whose rate and whose rounds of this table are the same
abbrev pub TableNumber : Type 0
TableNumber = (d e : Described) (t least : ℕ) → 0 < d.rate → e.rate ≡ d.rate → round_packets e t ≡ round_packets d t →
    table_reason d t ≡ TableLimit t least ∷ [] → (table_reason e t ≡ []) ↔ (least ≤ table_limit e t)

-- 2. Streams

-- the rate at which the transport buffer is drained
abbrev pub DrainNumber : Type 0
DrainNumber = (s : DescribedStream) (i least : ℕ) → IsStream s → drain_reason i s ≡ SlowDrain i least ∷ [] →
    GoesAt (λ n. drain_reason i (record s { rx = n })) least

-- the rate at which the multiplexing buffer leaks
abbrev pub LeakNumber : Type 0
LeakNumber = (s : DescribedStream) (b : MultiplexingBuffer) (i least : ℕ) → IsStream s → leak_reason i s (Some b) ≡ SlowLeak i least ∷ [] →
    GoesAt (λ n. leak_reason i s (Some (record b { rbx = n }))) least

abbrev pub LeadNumber : Type 0
LeadNumber = (d : Described) (s : DescribedStream) (i least : ℕ) → lead_reason d i s ≡ ShortLead i least ∷ [] →
    GoesAt (λ n. lead_reason d i (record s { lead = n })) least

-- the size of the main buffer
abbrev pub MainNumber : Type 0
MainNumber = (d : Described) (s : DescribedStream) (i least : ℕ) → main_reason d i s ≡ SmallMain i least ∷ [] →
    GoesAt (λ n. main_reason d i (record s { main = n })) least

-- 3. The rate of the output

-- the items have slots enough at the rate of the reason, and at none that is less, down to the description's own
abbrev pub RateNumber : Type 0
RateNumber = (d : Described) (least : ℕ) → load_reason d ≡ Overload (Some least) ∷ [] →
    (has_slots d least ≡ true) × ((rate : ℕ) → d.rate ≤ rate → rate < least → has_slots d rate ≡ false)

-- if the reason has no rate, at no rate that a description can have
abbrev pub NoRate : Type 0
NoRate = (d : Described) → load_reason d ≡ Overload None ∷ [] → (rate : ℕ) → d.rate ≤ rate → rate ≤ GREATEST_RATE → has_slots d rate ≡ false
