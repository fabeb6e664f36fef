-- Rounds of a table and recurrence (ISO/IEC 13818-1, 2.7.2; ETSI TR 101 290, 5.2). The sections of a table take k
-- places, one after another, and own slot number i of the table is place i modulo k, counted over the whole run.
use Rattle.std.specs.Prelude.{ℕ, ◌+◌, ◌*◌, ◌%◌, ◌<◌, ◌≤◌, Bool, false, cond, nat_eq, map}
use Rattle.clock27.specs.Recurrence.{Recur}
use Rattle.clock27.specs.Units.{slot_ms_at_1bps}
use Rattle.own_slots.specs.Slots.{own_before, AtLeastPerWindow, own_slots}

-- the own slots that are place number `place` of a round of k places
abbrev pub starts : (ℕ → Bool) → ℕ → ℕ → ℕ → Bool
starts own k place s = cond (own s) (nat_eq (own_before own s % k) place) false

-- where each window of g slots has k own slots, it has each place of a round
abbrev pub RoundLaw : Type 0
RoundLaw = (own : ℕ → Bool) (k place g : ℕ) → place < k → AtLeastPerWindow own g k → AtLeastPerWindow (starts own k place) g 1

-- where each window of g slots has an own slot, and g slots last at most `limit` milliseconds, byte number `offset` of
-- the own slots' packets recurs within the limit, from the run's begin to its end
abbrev pub RecurrenceLaw : Type 0
RecurrenceLaw = (own : ℕ → Bool) (g offset rate limit slots : ℕ) → AtLeastPerWindow own g 1 → offset < 188 → g * slot_ms_at_1bps ≤ limit * rate →
    Recur rate limit 0 (map (λ s. 188 * s + offset) (own_slots own 0 slots)) (188 * slots)

-- PCRs are at byte 10 of each own slot's packet
abbrev pub PcrLaw : Type 0
PcrLaw = (own : ℕ → Bool) (g rate limit slots : ℕ) → AtLeastPerWindow own g 1 → g * slot_ms_at_1bps ≤ limit * rate →
    Recur rate limit 0 (map (λ s. 188 * s + 10) (own_slots own 0 slots)) (188 * slots)

-- a section begins at the begin of the slot that is its first place, once in each round
abbrev pub TableLaw : Type 0
TableLaw = (own : ℕ → Bool) (k place g rate limit slots : ℕ) → place < k → AtLeastPerWindow own g k → g * slot_ms_at_1bps ≤ limit * rate →
    Recur rate limit 0 (map (λ s. 188 * s) (own_slots (starts own k place) 0 slots)) (188 * slots)
