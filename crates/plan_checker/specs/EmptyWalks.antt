-- A walk over the slots of a period, which notes the slots where a buffer becomes empty.
use Rattle.std.specs.Prelude.{ℕ, ◌+◌, ◌-◌, ◌==◌, max, Bool, if◌then◌else◌}
use Rattle.plan_checker.specs.declared.empties.EmptyWalk.{EmptyWalk}
use Rattle.plan_checker.specs.declared.empties.EmptySlots.{EmptySlots}

-- past slot number `at`, one more slot where the buffer becomes empty
abbrev pub one_more : EmptyWalk → ℕ → EmptyWalk
one_more w at = if w.count == 0 then record { count = 1; first = at; last = at; longest = 0 }
    else record { count = w.count + 1; first = w.first; last = at; longest = max w.longest (at - w.last) }

-- past slot number `at`, where the buffer becomes empty or not
abbrev pub passed : EmptyWalk → ℕ → Bool → EmptyWalk
passed w at is_empty = if is_empty then one_more w at else w

-- the greatest distance from one such slot to the next, also across the end of a period of n slots
abbrev pub round_gap : EmptyWalk → ℕ → ℕ
round_gap w n = if w.count == 0 then 0 else max w.longest (w.first + (n - w.last))

-- what a walk over a whole period of n slots has found
abbrev pub rounded : EmptyWalk → ℕ → EmptySlots
rounded w n = record { count = w.count; first = w.first; back = n - w.last; gap = round_gap w n }
