-- Numbers of worked plans, as theorems: a wrong number fails the check. The plan has 120 slots at 1,504,000 bits/s: a
-- stream in each fourth slot from 0 on, PCRs in slots 1, 25, 49, 73 and 97, the PAT in slot 2, the PMT in slot 3.
use Rattle.std.proofs.Common.{◌≡◌, ℕ, zero, suc, Bool, true, false, List, [], ◌∷◌, ◌++◌, take, replicate, refl}
use Rattle.own_slots.specs.Slots.{own_before}
use Rattle.own_slots.specs.Period.{places}
use Rattle.own_slots.specs.Extremes.{greatest, least}
use Rattle.own_slots.specs.Gaps.{gap, ahead}
use Rattle.own_slots.specs.Spread.{spread, highest, lowest, most_within}
use Rattle.own_slots.specs.Work.{work_at, most_before, most_after, work_left}
use Rattle.own_slots.specs.Switch.{shift}

-- ---- The plan's items

-- A list, repeated n times
repeated : ℕ → List Bool → List Bool
repeated zero xs = []
repeated (suc n) xs = xs ++ repeated n xs

-- n slots that are not marked
others : ℕ → List Bool
others n = replicate n false

stream_marks : List Bool
stream_marks = repeated 30 (true ∷ others 3)

-- The stream with its slot 116 moved to 117
moved_marks : List Bool
moved_marks = repeated 29 (true ∷ others 3) ++ (false ∷ true ∷ others 2)

-- The stream with every slot one place later, the last slot first
turned_marks : List Bool
turned_marks = repeated 30 (false ∷ true ∷ others 2)

pcr_marks : List Bool
pcr_marks = repeated 5 (false ∷ true ∷ others 22)

-- The PCRs without the PCR of slot 97
sparse_pcr_marks : List Bool
sparse_pcr_marks = repeated 4 (false ∷ true ∷ others 22) ++ others 24

system_marks : List Bool
system_marks = false ∷ false ∷ true ∷ true ∷ others 116

-- ---- Gaps of the PCRs: 24 slots, and 48 across the period's end

pcr_gap : gap pcr_marks 1 ≡ 24
unfolding pcr_marks repeated others places greatest
pcr_gap = refl

sparse_pcr_gap : gap sparse_pcr_marks 1 ≡ 48
unfolding sparse_pcr_marks repeated others places greatest
sparse_pcr_gap = refl

sparse_pcr_walk : greatest 120 (ahead sparse_pcr_marks 1) ≡ 48
unfolding sparse_pcr_marks repeated others places greatest own_before
sparse_pcr_walk = refl

-- ---- Spread of the stream: 0, and 30 with one slot moved

stream_spread : spread stream_marks ≡ 0
unfolding stream_marks repeated others places greatest
stream_spread = refl

moved_spread : spread moved_marks ≡ 30
unfolding moved_marks repeated others places greatest
moved_spread = refl

moved_highest : highest moved_marks 120 ≡ 3630
unfolding moved_marks repeated others places greatest own_before
moved_highest = refl

moved_lowest : lowest moved_marks 120 ≡ 3600
unfolding moved_marks repeated others places least own_before
moved_lowest = refl

-- 2 own slots within a window of 2, as the code computes it: ((2 - 1) * 30 + 0) / 120 + 1
stream_share : most_within 30 120 0 2 ≡ 1
stream_share = refl

-- ---- Work of the stream's buffer (2,000,000 bits/s) and of the second buffer of the system (80,000 bits/s)

stream_peak : most_after 1504000 2000000 0 stream_marks ≡ 282752000
unfolding stream_marks repeated others greatest work_at
stream_peak = refl

stream_left : work_left 1504000 2000000 0 stream_marks ≡ 0
unfolding stream_marks repeated others work_at
stream_left = refl

system_peak : most_after 1504000 1000000 0 system_marks ≡ 377504000
unfolding system_marks others greatest work_at
system_peak = refl

second_peak : most_after 1504000 80000 0 system_marks ≡ 550464000
unfolding system_marks others greatest work_at
second_peak = refl

second_left : work_left 1504000 80000 0 system_marks ≡ 0
unfolding system_marks others work_at
second_left = refl

-- The work that the first 24 slots leave, taken as a period
short_left : work_left 1504000 80000 0 (take 24 system_marks) ≡ 249664000
unfolding system_marks others work_at
short_left = refl

-- At a rate of 38,000,000 in 600 slots, with the stream in slots 0 to 4, the greatest work before an own slot with its packet exceeds the work of 512 bytes.
crowded_before : most_before 38000000 2000000 0 (repeated 5 (true ∷ []) ++ others 595) ≡ 34592000000
unfolding repeated others greatest work_at
crowded_before = refl

crowded_spread : spread (repeated 5 (true ∷ []) ++ others 595) ≡ 2380
unfolding repeated others places greatest
crowded_spread = refl

-- ---- A switch to the turned plan

turned_shift : shift stream_marks turned_marks ≡ 1
unfolding stream_marks turned_marks repeated others places
turned_shift = refl

back_shift : shift turned_marks stream_marks ≡ 0
unfolding stream_marks turned_marks repeated others places
back_shift = refl
