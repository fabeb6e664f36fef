-- The load of a description: the least share of an output's slots that its items ask for, in parts of all slots, cut
-- down.
use Rattle.std.specs.Prelude.{ℕ, ◌+◌, ◌-◌, ◌*◌, ◌/◌, max, Bool, List, [], ◌∷◌, Option, option_map, nat_le, if◌then◌else◌}
use Rattle.std.specs.List.{sum_by}
use Rattle.clock27.specs.Units.{slot_ms_at_1bps}
use Rattle.clock27.specs.declared.rate.TheConstants.{GREATEST_RATE}
use Rattle.unit_timing.specs.Allowances.{steady_packets, steady_time}
use Rattle.unit_timing.specs.Shares.{parts}
use Rattle.description_parts.specs.Described.{Described, DescribedProgram, DescribedStream}
use Rattle.description_parts.specs.Tables.{table_kinds, table_limit, round_packets, has_references}
use Rattle.slot_plan.specs.Numbered.{numbered}
use Rattle.plan_maker.specs.Clocks.{clock_limit}
use Rattle.plan_maker.specs.FirstNumbers.{first_of}

-- the load of a stream: its packets arrive in the long run as it declares, the packets of a group of units in the time of a group
abbrev pub stream_load : ℕ → DescribedStream → ℕ
stream_load rate s = parts * steady_packets s.allowance / (steady_time s.allowance s.interval * rate)

-- the load of rounds of k packets, each round within a limit in ms
abbrev pub recurring_load : ℕ → ℕ → ℕ → ℕ
recurring_load rate limit k = parts * k / max 1 (limit * rate / slot_ms_at_1bps)

-- the sum of the numbers of the elements of a list, each made from the element and its number, from 0
abbrev pub total : {A : Type 0} → (ℕ → A → ℕ) → List A → ℕ
total f xs = sum_by (λ n. n) (numbered (λ i x. f i x ∷ []) 0 xs)

abbrev pub streams_load : Described → ℕ → ℕ
streams_load d rate = total (λ _ s. stream_load rate s) d.streams

-- the load of a program's clock references: none if another program's slots carry them
abbrev pub clock_load : Described → ℕ → ℕ → DescribedProgram → ℕ
clock_load d rate i p = if has_references d i then recurring_load rate (clock_limit d p) 1 else 0

abbrev pub pcrs_load : Described → ℕ → ℕ
pcrs_load d rate = total (clock_load d rate) d.programs

abbrev pub tables_load : Described → ℕ → ℕ
tables_load d rate = total (λ t _. recurring_load rate (table_limit d t) (round_packets d t)) (table_kinds d)

-- the load of all items, on an output of that rate
abbrev pub load : Described → ℕ → ℕ
load d rate = streams_load d rate + (pcrs_load d rate + tables_load d rate)

-- whether such an output has slots enough
abbrev pub has_slots : Described → ℕ → Bool
has_slots d rate = nat_le (load d rate) parts

-- the least rate above the description's own that has slots enough
abbrev pub least_rate : Described → Option ℕ
least_rate d = option_map (λ more. d.rate + 1 + more) (first_of (GREATEST_RATE - d.rate) (λ more. has_slots d (d.rate + 1 + more)))
