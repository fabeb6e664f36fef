-- No byte waits longer than the lead for its stamp.
use Rattle.std.proofs.Common.{ℕ, ◌+◌, ◌-◌, ◌*◌, ◌≤◌, Bool, List, [], ◌∷◌, take, drop, arith}
use Rattle.std.proofs.Math.Nat.{mul-le-mul_left, mul-le-mul_right}
use Rattle.std.proofs.lemmas.List.Elements.{All-weaker}
use Rattle.clock27.specs.Release.{release}
use Rattle.own_slots.specs.Slots.{own_slots}
use Rattle.unit_timing.specs.PesPacket.{PesPacket, packets_of_unit}
use Rattle.unit_timing.specs.Schedule.{first_slot, packets_in_slots}
use Rattle.unit_timing.specs.Transport.{NoneLeavesEarly}
use Rattle.unit_timing.specs.LongestStay.{WaitsAtMost, LongestStayLaw}
use Rattle.unit_timing.proofs.MainBufferBytes.{unit_slots}
use Rattle.unit_timing.proofs.NotEarly.{unit_later, unit_parts}

slot_begins : (s t r : ℕ) → s ≤ t → 188 * s * r ≤ 188 * t * r
slot_begins s t r le = mul-le-mul_right r (mul-le-mul_left 188 le)

-- A byte from the release slot on waits at most the lead.
from_release : (rate lead r due t : ℕ) → 188 * release rate lead due * r ≤ t → due * rate * r ≤ t * 720000 + lead * rate * r
from_release rate lead r due t le = waits rate lead r (release rate lead due) (due - lead) due t (omega arith) (omega arith) le
  where
    waits : (rate lead r slot after due t : ℕ) → after * rate ≤ slot * 135360000 → due ≤ after + lead → 188 * slot * r ≤ t →
        due * rate * r ≤ t * 720000 + lead * rate * r
    waits rate lead r slot after due t begun near le = omega (arith, mul-le-mul_right r begun, mul-le-mul_right (rate * r) near, le)

waits_from : (own : ℕ → Bool) (rate lead r n : ℕ) (units : List PesPacket) (free : ℕ) (times : List ℕ) →
    NoneLeavesEarly r (packets_in_slots own rate lead free units (own_slots own 0 n)) times → WaitsAtMost lead rate r units times
unfolding packets_in_slots WaitsAtMost
waits_from own rate lead r n [] free times late = tt
waits_from own rate lead r n (unit ∷ units) free times late =
    let b = first_slot own rate lead free unit in
    let p = packets_of_unit unit in
    let xs = take p (drop b (own_slots own 0 n)) in
    let begins = release rate lead unit.dts in
    let parts = unit_parts own rate lead r n b p unit.front unit.size units times (omega arith) late in
    let all = unit_later r unit.front unit.size (188 * begins * r) xs (take unit.size times) parts.0
    (All-weaker (λ s. begins ≤ s) (λ s. 188 * begins * r ≤ 188 * s * r) (λ s le. slot_begins begins s r le) xs (unit_slots own rate lead free n unit)) in (
      All-weaker (λ t. 188 * begins * r ≤ t) (λ t. unit.dts * rate * r ≤ t * 720000 + lead * rate * r)
          (λ t le. from_release rate lead r unit.dts t le) (take unit.size times) all,
      waits_from own rate lead r n units (b + p) (drop unit.size times) parts.1,
    )

pub longest_stay_law : LongestStayLaw
longest_stay_law own rate lead r n units times late = waits_from own rate lead r n units 0 times late
