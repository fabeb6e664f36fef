-- The rate of an output that has slots enough for its items.
use Rattle.std.specs.Prelude.{ℕ, ◌+◌, ◌*◌, ◌/◌, ◌&&◌, nat_le, nat_lt, Bool, if◌then◌else◌, List, sum_by}
use Rattle.std.specs.Int.{div_ceil}
use Rattle.clock27.specs.Units.{slot_units_at_1bps, slot_ms_at_1bps}
use Rattle.clock27.specs.LeastRate.{IsLeastRate as IsLeast, HasNoRate}
use Rattle.clock27.specs.declared.rate.TheConstants.{LEAST_RATE}
use Rattle.stream_choice.specs.declared.recurring.Recurring.{Recurring}
use Rattle.unit_timing.specs.Shares.{parts}

-- the slots of a stream of that share, in parts of all slots, rounded up
abbrev pub stream_part : ℕ → ℕ → ℕ
stream_part rate share = div_ceil (share * slot_units_at_1bps) rate

-- the parts of a recurring item: its slots in each whole number of slots of its limit; more than all parts if they don't fit in
abbrev pub recurring_part : ℕ → Recurring → ℕ
recurring_part rate r =
    let gap = r.limit * rate / slot_ms_at_1bps in
    if nat_lt 0 gap && nat_le r.slots gap then div_ceil (parts * r.slots) gap else parts + 1

-- the parts of all items
abbrev pub all_parts : List ℕ → List Recurring → ℕ → ℕ
all_parts shares recurring rate = sum_by (stream_part rate) shares + sum_by (recurring_part rate) recurring

-- whether an output at this rate has slots enough
abbrev pub has_slots : List ℕ → List Recurring → ℕ → Bool
has_slots shares recurring rate = nat_le (all_parts shares recurring rate) parts

-- the least rate with slots enough
abbrev pub IsLeastRate : List ℕ → List Recurring → ℕ → Type 0
IsLeastRate shares recurring rate = IsLeast (has_slots shares recurring) LEAST_RATE rate

-- no rate has slots enough
abbrev pub IsTooMuch : List ℕ → List Recurring → Type 0
IsTooMuch shares recurring = HasNoRate (has_slots shares recurring) LEAST_RATE
