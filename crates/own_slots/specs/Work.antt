-- Work of a buffer that is filled by packets in its own slots and drained at a steady rate. With an output of `rate`
-- bits/s and a drain of `drain` bits/s, work is counted in units of 8 / (rate * drain) seconds: a byte is worth `rate`
-- units, and `drain` units pass while a byte of the output is sent. A slot is 188 bytes.
use Rattle.std.specs.Prelude.{◌≡◌, ℕ, ◌+◌, ◌-◌, ◌*◌, ◌%◌, ◌<◌, ◌≤◌, Bool, true, false, cond, List, take, length, slice_index_or, fold}
use Rattle.own_slots.specs.Period.{own}
use Rattle.own_slots.specs.Extremes.{greatest}

-- the work after a slot: what was left is drained, and a packet is added where the slot is the buffer's own
abbrev pub work_step : ℕ → ℕ → ℕ → Bool → ℕ
work_step rate drain work mark = (work - 188 * drain) + cond mark (188 * rate) 0

-- the work before slot s of a period (after its first s slots), from a claimed work at its start
unfoldable pub work_at : ℕ → ℕ → ℕ → List Bool → ℕ → ℕ
work_at rate drain start marks s = fold (work_step rate drain) start (take s marks)

-- the work before slot s with the slot's packet on top, 0 if it is no own slot
abbrev pub before_at : ℕ → ℕ → ℕ → List Bool → ℕ → ℕ
before_at rate drain start marks s = cond (slice_index_or marks s false) (work_at rate drain start marks s + 188 * rate) 0

-- the work right after slot s, 0 if it is no own slot
abbrev pub after_at : ℕ → ℕ → ℕ → List Bool → ℕ → ℕ
after_at rate drain start marks s = cond (slice_index_or marks s false) (work_at rate drain start marks (s + 1)) 0

-- the greatest work before an own slot of a period, with that slot's packet on top
abbrev pub most_before : ℕ → ℕ → ℕ → List Bool → ℕ
most_before rate drain start marks = greatest (length marks) (before_at rate drain start marks)

-- the greatest work after an own slot of a period
abbrev pub most_after : ℕ → ℕ → ℕ → List Bool → ℕ
most_after rate drain start marks = greatest (length marks) (after_at rate drain start marks)

-- the work after a whole period
abbrev pub work_left : ℕ → ℕ → ℕ → List Bool → ℕ
work_left rate drain start marks = work_at rate drain start marks (length marks)

-- the claims of one period: it begins with at most `start` and so may be repeated, never holds more than `room` bytes,
-- and leaves at most `peak` after an own slot
pub record HoldsWork (rate drain room start peak : ℕ) (marks : List Bool) : Type 0 where
  pub fits : most_before rate drain start marks ≤ room * rate
  pub peaks : most_after rate drain start marks ≤ peak
  pub carries : work_left rate drain start marks ≤ start

-- at slot s, W bounds the work before the slot and the next bounds it after; an own slot finds room for its packet, and
-- leaves at most `peak`
pub record WorkStep (own : ℕ → Bool) (rate drain room peak : ℕ) (W : ℕ → ℕ) (s : ℕ) : Type 0 where
  pub idle : own s ≡ false → W s - 188 * drain ≤ W (s + 1)
  pub busy : own s ≡ true → (W s - 188 * drain) + 188 * rate ≤ W (s + 1)
  pub fits : own s ≡ true → W s + 188 * rate ≤ room * rate
  pub peaks : own s ≡ true → (W s - 188 * drain) + 188 * rate ≤ peak

-- W bounds the work before each slot, over all time
abbrev pub BoundsWork : (ℕ → Bool) → ℕ → ℕ → ℕ → ℕ → (ℕ → ℕ) → Type 0
BoundsWork own rate drain room peak W = (s : ℕ) → WorkStep own rate drain room peak W s

-- the work before slot s of the repeated period, each period taken from the claimed start
abbrev pub periodic_work : ℕ → ℕ → ℕ → List Bool → ℕ → ℕ
periodic_work rate drain start marks s = work_at rate drain start marks (s % length marks)

-- the work is found by one walk over the slots of the period
abbrev pub WorkWalkLaw : Type 0
WorkWalkLaw = (rate drain start : ℕ) (marks : List Bool) →
    (work_at rate drain start marks 0 ≡ start) ×
    ((s : ℕ) → s < length marks →
    work_at rate drain start marks (s + 1) ≡ work_step rate drain (work_at rate drain start marks s) (slice_index_or marks s false))

-- the claims of one period bound the work over all time
abbrev pub WorkLaw : Type 0
WorkLaw = (rate drain room start peak : ℕ) (marks : List Bool) → 0 < length marks → HoldsWork rate drain room start peak marks →
    BoundsWork (own marks) rate drain room peak (periodic_work rate drain start marks)

-- the same on a scale q times as fine
abbrev pub WorkScaleLaw : Type 0
WorkScaleLaw = (own : ℕ → Bool) (rate drain room peak q : ℕ) (W : ℕ → ℕ) → BoundsWork own rate drain room peak W →
    BoundsWork own (q * rate) (q * drain) room (q * peak) (λ s. q * W s)
