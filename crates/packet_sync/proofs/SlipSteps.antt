-- Slips, step by step.
use Rattle.std.proofs.Common.{◌≡◌, ◌≤◌, ◌<◌, ℕ, zero, suc, ◌+◌, ◌-◌, nat_lt, true, false, refl, sym, ap, arith, ◌∙◌, List, [], ◌∷◌, ◌++◌, append_assoc, length}
use Rattle.std.proofs.Common.{None, Some}
use Rattle.packet_sync.specs.Slips.{slips_from, slip_then, slip_size, new_step, is_new_step}
use Rattle.packet_sync.specs.declared.slip.Slip.{Slip}

-- 1. A packet, a slip, the end

pub at_end : (n : ℕ) (bs : List ℕ) (packet at : ℕ) → length bs < at + 188 → slips_from n bs packet at ≡ []
unfolding slips_from
at_end zero bs packet at short = refl
at_end (suc n) bs packet at short = let e : nat_lt (length bs) (at + 188) ≡ true = search (arith, short) in rw e refl

next : (n : ℕ) (bs : List ℕ) (packet at : ℕ) → at + 188 ≤ length bs → slips_from (suc n) bs packet at ≡ slip_then (slip_size bs at) packet at (slips_from n bs)
unfolding slips_from
next n bs packet at long = let e : nat_lt (length bs) (at + 188) ≡ false = search (arith, long) in rw e refl

pub one_packet : (n : ℕ) (bs : List ℕ) (packet at : ℕ) → at + 188 ≤ length bs → slip_size bs at ≡ None →
    slips_from (suc n) bs packet at ≡ slips_from n bs (packet + 1) (at + 188)
unfolding slip_then
one_packet n bs packet at long e = next n bs packet at long ∙ (rw e refl)

pub one_slip : (n : ℕ) (bs : List ℕ) (packet at size : ℕ) → at + 188 ≤ length bs → slip_size bs at ≡ Some size →
    slips_from (suc n) bs packet at ≡ record { packet = packet; start = at; size = size } ∷ slips_from n bs packet (at + size)
unfolding slip_then
one_slip n bs packet at size long e = next n bs packet at long ∙ (rw e refl)

-- 2. The places at which the search tries a new step

pub found_here : (bs : List ℕ) (at step size n : ℕ) → size < n → true ≡ is_new_step bs at step size → new_step bs at step size (n - size) ≡ Some size
unfolding new_step
found_here bs at step size n less is = let e : n - size ≡ suc (n - (size + 1)) = omega (arith, less) in rw e (rw (sym is) refl)

pub found_later : (bs : List ℕ) (at step size n : ℕ) → size < n → false ≡ is_new_step bs at step size →
    new_step bs at step size (n - size) ≡ new_step bs at step (size + 1) (n - (size + 1))
unfolding new_step
found_later bs at step size n less is = let e : n - size ≡ suc (n - (size + 1)) = omega (arith, less) in rw e (rw (sym is) refl)

pub found_nowhere : (bs : List ℕ) (at step size n : ℕ) → n ≤ size → new_step bs at step size (n - size) ≡ None
unfolding new_step
found_nowhere bs at step size n past = let e : n - size ≡ 0 = omega (arith, past) in rw e refl

-- 3. The slips found so far

pub with_packet : (n : ℕ) (bs : List ℕ) (packet at : ℕ) → length bs ≤ n + at → at + 188 ≤ length bs → None ≡ slip_size bs at →
    slips_from n bs packet at ≡ slips_from (n - 1) bs (packet + 1) (at + 188)
with_packet zero bs packet at left long e = absurd (let no : ⊥ = omega (arith, left, long) in no)
with_packet (suc n) bs packet at left long e =
    let m : suc n - 1 ≡ n = omega arith in rw m (one_packet n bs packet at long (sym e))

pub with_slip : (n : ℕ) (bs : List ℕ) (packet at size : ℕ) → length bs ≤ n + at → at + 188 ≤ length bs → Some size ≡ slip_size bs at →
    slips_from n bs packet at ≡ record { packet = packet; start = at; size = size } ∷ slips_from (n - 1) bs packet (at + size)
with_slip zero bs packet at size left long e = absurd (let no : ⊥ = omega (arith, left, long) in no)
with_slip (suc n) bs packet at size left long e =
    let m : suc n - 1 ≡ n = omega arith in rw m (one_slip n bs packet at size long (sym e))

pub one_more : (found more : List Slip) (s : Slip) (rest : List Slip) → more ≡ found ++ s ∷ [] → more ++ rest ≡ found ++ s ∷ rest
one_more found more s rest e = ap (λ (x : List Slip). x ++ rest) e ∙ append_assoc found (s ∷ []) rest
