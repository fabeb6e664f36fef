-- Each due unit has left the transport buffer whole by its stamp.
use Rattle.std.proofs.Common.{◌≡◌, ℕ, ◌+◌, ◌-◌, ◌*◌, ◌<◌, ◌≤◌, min, Bool, List, [], ◌∷◌, ◌++◌, length, take, drop, refl, ◌∙◌, inl, inr, arith, All}
use Rattle.std.proofs.Math.Nat.{mul-le-mul_right}
use Rattle.std.proofs.lemmas.Bool.{cases_lt}
use Rattle.std.proofs.lemmas.List.{take_at, drop_at, drop_all, append-nil, length-append, length-drop, length-take, drop-take}
use Rattle.std.proofs.lemmas.List.Elements.{All-nil, All-cons, All-head, All-tail, All-drop, All-weaker}
use Rattle.clock27.specs.Arrival.{arrivals}
use Rattle.clock27.specs.Departure.{last_left}
use Rattle.own_slots.specs.Slots.{own_before, Rises, own_slots}
use Rattle.own_slots.specs.Work.{BoundsWork}
use Rattle.own_slots.proofs.Counts.{own_before_le, list_law}
use Rattle.unit_timing.specs.PesPacket.{PesPacket, packets_of_unit}
use Rattle.unit_timing.specs.Schedule.{first_slot, cut, packets_in_slots}
use Rattle.unit_timing.specs.Deadline.{EndsInTime, InTime}
use Rattle.unit_timing.specs.Transport.{of_payloads, pes_left}
use Rattle.unit_timing.specs.Arrived.{AllLeft, ArrivedLaw}
use Rattle.unit_timing.proofs.TransportBuffer.{Level, left_by}
use Rattle.unit_timing.proofs.PacketsInSlots.{slots_of-cut, pes_left-append, length-left-cut, rises_take, slot_after, rises_begin, rises_following}
use Rattle.unit_timing.proofs.PacketsInSlots.{level_packets, length-own_slots, first_before, sent_nothing}

pub length-run : (own : ℕ → Bool) (n : ℕ) → length (own_slots own 0 n) ≡ own_before own n
unfolding own_before
length-run own n = let e : 0 + n ≡ n = omega arith in let h = length-own_slots own 0 n in omega (arith, rw e at h)

cut_before : (e front size : ℕ) (slots : List ℕ) → All (λ s. s < e) slots → All (λ p. p.slot < e) (cut front size slots)
unfolding cut
cut_before e front size [] all = All-nil (λ p. p.slot < e)
cut_before e front size (s ∷ slots) all =
    All-cons (λ p. p.slot < e) (record { slot = s; size = min (184 - front) size }) (cut (front - 184) (size - (184 - front)) slots)
    (All-head (λ t. t < e) s slots all)
    (cut_before e (front - 184) (size - (184 - front)) slots (All-tail (λ t. t < e) s slots all))

-- If the own slots b to b + p - 1 of a unit lie before slot e of the run, the unit is there whole and has left by the beginning of e plus the peak.
pub unit_there : (own : ℕ → Bool) (rate r room peak : ℕ) (W : ℕ → ℕ) (n e b p front size from prev : ℕ) → BoundsWork own rate r room peak W →
    b + p ≤ own_before own e → e ≤ n → front + size ≤ 184 * p → Rises own from (drop b (own_slots own 0 n)) → Level r W from prev →
    (length (pes_left rate r prev (cut front size (take p (drop b (own_slots own 0 n))))) ≡ size)
    × All (λ d. d ≤ 188 * r * e + peak) (pes_left rate r prev (cut front size (take p (drop b (own_slots own 0 n)))))
unfolding own_before
unit_there own rate r room peak W n e b p front size from prev bounds packets_in_slots within small rises h =
    let slots = own_slots own 0 n in
    let xs = take p (drop b slots) in
    let many : length (take p (drop b slots)) ≡ min p (own_before own n - b) =
    rw (length-take p (drop b slots), length-drop b slots, length-run own n) refl in
    let all : All (λ s. s < e) (take p (drop b slots)) =
    rw (← drop-take b p slots) (All-drop (λ s. s < e) b (take (b + p) slots) (first_before own e 0 n (b + p) (omega arith))) in (
      rw (length-left-cut rate r front size prev xs, many) (omega (arith, own_before_le own e n within)),
      left_by own rate r room peak W e (cut front size xs) from prev bounds (rw (slots_of-cut front size xs) (rises_take own from p (drop b slots) rises)) h
          (cut_before e front size xs all),
    )

-- The departures that are left after a unit are the departures of the later units.
pub after_unit : (own : ℕ → Bool) (rate lead r n b p front size prev next : ℕ) (units : List PesPacket) → front + size ≤ 184 * p →
    drop size (pes_left rate r prev (cut front size (take p (drop b (own_slots own 0 n))))
    ++ pes_left rate r next (packets_in_slots own rate lead (b + p) units (own_slots own 0 n)))
    ≡ pes_left rate r next (packets_in_slots own rate lead (b + p) units (own_slots own 0 n))
after_unit own rate lead r n b p front size prev next units small =
    let slots = own_slots own 0 n in
    let left = pes_left rate r prev (cut front size (take p (drop b slots))) in
    let many : length left ≡ min size (184 * min p (length slots - b) - front) =
    rw (length-left-cut rate r front size prev (take p (drop b slots)), length-take p (drop b slots), length-drop b slots) refl in
    elim (cases_lt (length slots) (b + p)) [
      | inl short ↦
          let nothing : pes_left rate r next (packets_in_slots own rate lead (b + p) units slots) ≡ [] =
          rw (sent_nothing own rate lead (b + p) units slots (omega arith)) (unfold of_payloads in refl) in
          rw (nothing, append-nil left) (drop_all size left (omega arith))
      | inr whole ↦ drop_at left (pes_left rate r next (packets_in_slots own rate lead (b + p) units slots)) size (omega arith)
    ]

-- A slot that begins before the stamp of a unit that is due in a run lies in the run.
slot_within : (slot late due rate r n : ℕ) → 0 < r → slot * 135360000 * r + late * 720000 ≤ due * rate * r → due * rate ≤ n * 135360000 → slot ≤ n
slot_within slot late due rate r n pos early due_in = elim (cases_lt n slot) [
  | inl over ↦ absurd (omega (arith, early, mul-le-mul_right r due_in, mul-le-mul_right (135360000 * r) over, pos))
  | inr le ↦ le
]

by_stamp : (d e r peak extra due rate : ℕ) → d ≤ 188 * r * e + peak → e * 135360000 * r + (peak + extra) * 720000 ≤ due * rate * r →
    (d + extra) * 720000 ≤ due * rate * r
by_stamp d e r peak extra due rate le early = omega (arith, le, early)

due_there : (own : ℕ → Bool) (rate r room peak extra : ℕ) (W : ℕ → ℕ) (n b p : ℕ) (unit : PesPacket) (from prev : ℕ) → BoundsWork own rate r room peak W →
    0 < r →
    unit.front + unit.size ≤ 184 * p → Rises own from (drop b (own_slots own 0 n)) → Level r W from prev → (later : List ℕ) →
    EndsInTime own rate r (peak + extra) (b + p) unit.dts → unit.dts * rate ≤ n * 135360000 →
    (unit.size ≤ length (pes_left rate r prev (cut unit.front unit.size (take p (drop b (own_slots own 0 n)))) ++ later))
    × All (λ d. (d + extra) * 720000 ≤ unit.dts * rate * r)
    (take unit.size (pes_left rate r prev (cut unit.front unit.size (take p (drop b (own_slots own 0 n)))) ++ later))
due_there own rate r room peak extra W n b p unit from prev bounds pos small here h later ends due =
    let left = pes_left rate r prev (cut unit.front unit.size (take p (drop b (own_slots own 0 n)))) in
    let within = slot_within ends.slot (peak + extra) unit.dts rate r n pos ends.early due in
    let there = unit_there own rate r room peak W n ends.slot b p unit.front unit.size from prev bounds ends.sent within small here h in (
      rw (length-append left later) (omega (arith, there.0)),
      rw (take_at left later unit.size there.0)
          (All-weaker (λ d. d ≤ 188 * r * ends.slot + peak) (λ d. (d + extra) * 720000 ≤ unit.dts * rate * r)
          (λ d le. by_stamp d ends.slot r peak extra unit.dts rate le ends.early) left there.1),
    )

-- Each unit that is due in a run of n slots has left whole `extra` before its stamp.
unfoldable pub AllLeftBefore : ℕ → ℕ → ℕ → ℕ → List PesPacket → List ℕ → Type 0
AllLeftBefore extra rate r n [] left = Unit {0}
AllLeftBefore extra rate r n (unit ∷ units) left =
    (unit.dts * rate ≤ n * 135360000 → (unit.size ≤ length left) × All (λ d. (d + extra) * 720000 ≤ unit.dts * rate * r) (take unit.size left))
    × AllLeftBefore extra rate r n units (drop unit.size left)

arrived : (own : ℕ → Bool) (rate lead r room peak extra : ℕ) (W : ℕ → ℕ) (n : ℕ) → 0 < r → BoundsWork own rate r room peak W →
    (units : List PesPacket) (free prev from : ℕ) →
    InTime own rate lead r (peak + extra) free units → Rises own from (drop free (own_slots own 0 n)) → Level r W from prev →
    AllLeftBefore extra rate r n units (pes_left rate r prev (packets_in_slots own rate lead free units (own_slots own 0 n)))
unfolding InTime AllLeftBefore packets_in_slots
arrived own rate lead r room peak extra W n pos bounds [] free prev from in_time rises h = tt
arrived own rate lead r room peak extra W n pos bounds (unit ∷ units) free prev from in_time rises h =
    let slots = own_slots own 0 n in
    let b = first_slot own rate lead free unit in
    let p = packets_of_unit unit in
    let xs = take p (drop b slots) in
    let next = last_left rate prev (arrivals r xs) in
    let small : unit.front + unit.size ≤ 184 * packets_of_unit unit = omega arith in
    let here = rises_begin own rate lead free from unit slots rises in
    let joined : pes_left rate r prev (cut unit.front unit.size xs ++ packets_in_slots own rate lead (b + p) units slots)
    ≡ pes_left rate r prev (cut unit.front unit.size xs) ++ pes_left rate r next (packets_in_slots own rate lead (b + p) units slots) =
    pes_left-append rate r prev (cut unit.front unit.size xs) (packets_in_slots own rate lead (b + p) units slots)
    ∙ rw (slots_of-cut unit.front unit.size xs) refl in
    rw joined (
      (λ due. due_there own rate r room peak extra W n b p unit from prev bounds pos small here h
          (pes_left rate r next (packets_in_slots own rate lead (b + p) units slots)) in_time.0 due),
      rw (after_unit own rate lead r n b p unit.front unit.size prev next units small)
          (arrived own rate lead r room peak extra W n pos bounds units (b + p) next (slot_after from xs) in_time.1
          (rises_following own from b p slots here)
          (level_packets own rate r room peak W from prev xs bounds (rises_take own from p (drop b slots) here) h)),
    )

-- If each unit ends in time for the peak and `extra`, each due unit has left `extra` before its stamp, in a run of any length.
pub arrived_before : (own : ℕ → Bool) (rate lead r room peak extra : ℕ) (W : ℕ → ℕ) (units : List PesPacket) (n : ℕ) → 0 < r →
    BoundsWork own rate r room peak W → InTime own rate lead r (peak + extra) 0 units →
    AllLeftBefore extra rate r n units (pes_left rate r 0 (packets_in_slots own rate lead 0 units (own_slots own 0 n)))
arrived_before own rate lead r room peak extra W units n pos bounds in_time =
    let start : Level r W 0 0 = omega arith in
    arrived own rate lead r room peak extra W n pos bounds units 0 0 0 in_time (list_law own 0 n) start

just_left : (rate r n : ℕ) (units : List PesPacket) (left : List ℕ) → AllLeftBefore 0 rate r n units left → AllLeft rate r n units left
unfolding AllLeft AllLeftBefore
just_left rate r n [] left all = tt
just_left rate r n (unit ∷ units) left all = (
  (λ due. let there = all.0 due in (
    there.0,
    All-weaker (λ d. (d + 0) * 720000 ≤ unit.dts * rate * r) (λ d. d * 720000 ≤ unit.dts * rate * r) (λ d le. omega (arith, le))
        (take unit.size left) there.1,
  )),
  just_left rate r n units (drop unit.size left) all.1,
)

pub arrived_law : ArrivedLaw
arrived_law own rate lead r room peak W units n pos bounds in_time =
    let none : peak + 0 ≡ peak = omega arith in
    just_left rate r n units (pes_left rate r 0 (packets_in_slots own rate lead 0 units (own_slots own 0 n)))
    (arrived_before own rate lead r room peak 0 W units n pos bounds (rw none in_time))
