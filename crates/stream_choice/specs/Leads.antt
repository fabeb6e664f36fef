-- The leads that are tried.
use Rattle.std.specs.Prelude.{ℕ, ◌+◌, ◌-◌, ◌*◌, ◌/◌, ◌==◌, nat_le, if◌then◌else◌}
use Rattle.std.specs.Int.{div_ceil}
use Rattle.own_slots.specs.Extremes.{greatest}
use Rattle.stream_choice.specs.declared.needs.Needs.{Needs}
use Rattle.stream_choice.specs.Shares.{packets_in_row}

-- the lead that m units in a row need to ask for no more than the share of their groups
abbrev pub row_lead : Needs → ℕ → ℕ → ℕ → ℕ
row_lead needs group packets m = div_ceil (packets_in_row needs packets m * group * needs.interval) packets - (m - 1) * needs.interval

-- the least lead that lets no units in a row ask for more than their groups do
abbrev pub sufficient_lead : Needs → ℕ → ℕ → ℕ → ℕ
sufficient_lead needs group packets delay =
    greatest group (λ before. row_lead needs group packets (before + 1)) + delay + div_ceil (group * needs.interval) packets

-- the number of leads that are tried for each group
abbrev pub leads : ℕ
leads = 129

-- that lead, then 1 to 64 distances of units, then 64 even steps to the greatest lead
abbrev pub numbered_lead : Needs → ℕ → ℕ → ℕ → ℕ
numbered_lead needs sufficient max_lead number =
    if number == 0 then sufficient
    else (if nat_le number 64 then number * needs.interval else (number - 64) * max_lead / 64)
