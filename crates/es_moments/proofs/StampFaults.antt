-- Units whose stamps have no fault
use Rattle.std.proofs.Common.{◌≡◌, ◌≤◌, ℕ, ◌+◌, ◌^◌, nat_lt, Bool, true, false, if◌then◌else◌, Option, Some, None, refl, arith}
use Rattle.pes_packet.specs.AccessUnits.{AccessUnit}
use Rattle.es_moments.specs.declared.stamps.StampFault.{StampFault}
use Rattle.es_moments.specs.declared.stamps.StampFault.TheVariants.{DtsTooFar}
use Rattle.es_moments.specs.Stamps.{distance, dts_at, unit_at, dts_not_increasing, pts_out_of_range, dts_too_far, or_fault, unit_fault, fault_or}
use Rattle.unit_queue.proofs.CauseLemmas.{not_lt}

pub or_none : (a b : Option StampFault) → or_fault a b ≡ None → (a ≡ None) × (b ≡ None)
unfolding or_fault
or_none (Some x) b is = absurd (let no : ⊥ = cc in no)
or_none None b is = (refl, is)

pub place_none : (place : ℕ) (fault : Option StampFault) (next : Option (ℕ × StampFault)) → fault_or place fault next ≡ None → (fault ≡ None) × (next ≡ None)
unfolding fault_or
place_none place (Some x) next is = absurd (let no : ⊥ = cc in no)
place_none place None next is = (refl, is)

pub test_none : (b : Bool) (fault : StampFault) → (if b then Some fault else None) ≡ None → b ≡ false
test_none true fault is = absurd (let no : ⊥ = cc in no)
test_none false fault is = refl

-- Without a fault, the DTS is at most 2^52.
pub last_of : (limit base : ℕ) (before : Option ℕ) (dts pts : ℕ) →
    or_fault (dts_not_increasing base before dts) (or_fault (pts_out_of_range limit base (dts_at base before dts) pts) (dts_too_far (dts_at base before dts))) ≡
    None → dts_at base before dts ≤ 2 ^ 52
last_of limit base before dts pts none =
    let two = or_none (pts_out_of_range limit base (dts_at base before dts) pts) (dts_too_far (dts_at base before dts))
    (or_none (dts_not_increasing base before dts) _ none).1 in
    not_lt (2 ^ 52) (dts_at base before dts) (test_none (nat_lt (2 ^ 52) (dts_at base before dts)) DtsTooFar two.1)

-- The moments of a unit without a fault: its DTS is no later than its PTS, and at most 2^52
pub record Timely (u : AccessUnit) : Type 0 where
  pub later : u.dts ≤ u.pts
  pub last : u.dts ≤ 2 ^ 52

pub timely : (limit base : ℕ) (before : Option ℕ) (u : AccessUnit) → unit_fault limit base before u ≡ None → Timely (unit_at base before u)
unfolding unit_at
timely limit base before u none =
    let dts = dts_at base before u.dts in
    let both = or_none (dts_not_increasing base before u.dts) _ none in
    let two = or_none (pts_out_of_range limit base dts u.pts) (dts_too_far dts) both.1 in
    let far = not_lt (2 ^ 52) dts (test_none (nat_lt (2 ^ 52) dts) DtsTooFar two.1) in
    record { later = omega arith; last = far }
