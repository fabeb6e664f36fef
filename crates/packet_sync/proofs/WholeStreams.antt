-- A stream in step has no slip; in any stream only the slips are left out.
use Rattle.std.proofs.Common.{◌≡◌, ◌≤◌, ◌<◌, ◌⊎◌, inl, inr, ℕ, zero, suc, ◌+◌, ◌*◌, ◌-◌, ◌%◌, ◌==◌, ◌&&◌, not, nat_lt, Bool, true, false, refl, sym, subst}
use Rattle.std.proofs.Common.{arith, ◌∙◌, List, [], ◌∷◌, length, length-append, length-drop, length-take-le, drop, get_or, slice_get, slice_range, Option, None}
use Rattle.std.proofs.Common.{Some}
use Rattle.std.proofs.lemmas.Option.{slice_get_cases}
use Rattle.packet_sync.specs.Laws.{slipped, IsInStep}
use Rattle.packet_sync.specs.Slips.{slips, slips_from, slip_by, slip_size, new_step, is_new_step, are_apart, is_sync, is_next, goes_on, carried, carried_from}
use Rattle.packet_sync.specs.Slips.{AreOrdered}
use Rattle.packet_sync.specs.declared.slip.Slip.{Slip}
use Rattle.packet_sync.proofs.SlipSteps.{at_end, one_packet, one_slip}

-- 1. A stream in step

next_begins : (bs : List ℕ) (i : ℕ) → IsInStep bs →
    ((x : ℕ) × (i * 188 + 188 < length bs) × (slice_get bs (i * 188 + 188) ≡ Some x) × (get_or bs (i * 188 + 188) x ≡ x)) ⊎
    ((length bs ≤ i * 188 + 188) × (slice_get bs (i * 188 + 188) ≡ None)) →
    is_next bs (i * 188 + 188) ≡ true
unfolding is_next
next_begins bs i step (inl one) =
    let e : (i + 1) * 188 ≡ i * 188 + 188 = omega arith in
    let within : (i + 1) * 188 < length bs = omega (arith, one.1) in
    let is : slice_get bs (i * 188 + 188) ≡ Some 71 = subst (λ (k : ℕ). slice_get bs k ≡ Some 71) e (step (i + 1) within) in
    rw is refl
next_begins bs i step (inr none) = rw none.1 refl

no_slip : (bs : List ℕ) (at : ℕ) → is_next bs (at + 188) ≡ true → slip_size bs at ≡ None
unfolding slip_by goes_on
no_slip bs at e = rw e refl

none_after : (n : ℕ) (bs : List ℕ) (i : ℕ) → IsInStep bs → slips_from n bs (i + 1) ((i + 1) * 188) ≡ [] → (b : Bool) → nat_lt (length bs) (i * 188 + 188) ≡ b →
    slips_from (suc n) bs i (i * 188) ≡ []
none_after n bs i step rest true e = let short : length bs < i * 188 + 188 = search (arith, e) in at_end (suc n) bs i (i * 188) short
none_after n bs i step rest false e =
    let long : i * 188 + 188 ≤ length bs = search (arith, e) in
    let after : (i + 1) * 188 ≡ i * 188 + 188 = omega arith in
    one_packet n bs i (i * 188) long (no_slip bs (i * 188) (next_begins bs i step (slice_get_cases bs (i * 188 + 188)).1))
    ∙ subst (λ (k : ℕ). slips_from n bs (i + 1) k ≡ []) after rest

none_in : (n : ℕ) (bs : List ℕ) (i : ℕ) → IsInStep bs → slips_from n bs i (i * 188) ≡ []
unfolding slips_from
none_in zero bs i step = refl
none_in (suc n) bs i step = none_after n bs i step (none_in n bs (i + 1) step) (nat_lt (length bs) (i * 188 + 188)) refl

pub carried_whole : (bs : List ℕ) → IsInStep bs → (slips bs ≡ []) × (carried bs ≡ bs)
unfolding slips carried_from
carried_whole bs step = let e : slips_from (length bs) bs 0 0 ≡ [] = none_in (length bs) bs 0 step in (e, rw e refl)

-- 2. Slips within the stream

first_is_by : (bs : List ℕ) (at step size n k : ℕ) → (new_step bs at step (size + 1) n ≡ Some k → is_new_step bs at step k ≡ true) → (b : Bool) →
    is_new_step bs at step size ≡ b →
    new_step bs at step size (suc n) ≡ Some k → is_new_step bs at step k ≡ true
unfolding new_step
first_is_by bs at step size n k later true is e =
    let found : new_step bs at step size (suc n) ≡ Some size = rw is refl in
    let same : size ≡ k = (let both : Some size ≡ Some k = sym found ∙ e in cc) in
    subst (λ (x : ℕ). is_new_step bs at step x ≡ true) same is
first_is_by bs at step size n k later false is e =
    let after : new_step bs at step size (suc n) ≡ new_step bs at step (size + 1) n = rw is refl in
    later (sym after ∙ e)

first_is : (bs : List ℕ) (at step size n k : ℕ) → new_step bs at step size n ≡ Some k → is_new_step bs at step k ≡ true
unfolding new_step
first_is bs at step size zero k e = absurd cc
first_is bs at step size (suc n) k e = first_is_by bs at step size n k (first_is bs at step (size + 1) n k) (is_new_step bs at step size) refl e

sync_within : (bs : List ℕ) (at : ℕ) → is_sync bs at ≡ true →
    ((x : ℕ) × (at < length bs) × (slice_get bs at ≡ Some x) × (get_or bs at x ≡ x)) ⊎ ((length bs ≤ at) × (slice_get bs at ≡ None)) → at < length bs
unfolding is_sync
sync_within bs at e (inl one) = one.1
sync_within bs at e (inr none) =
    let no : is_sync bs at ≡ false = rw none.1 refl in absurd (let both : false ≡ true = sym no ∙ e in cc)

pub sync_inside : (bs : List ℕ) (at : ℕ) → is_sync bs at ≡ true → at < length bs
sync_inside bs at e = sync_within bs at e (slice_get_cases bs at).1

first_of_three : (a b c : Bool) → (a && b && c) ≡ true → a ≡ true
first_of_three true b c e = refl
first_of_three false b c e = absurd cc

second_of_two : (a b : Bool) → (a && b) ≡ true → b ≡ true
second_of_two true b e = e
second_of_two false b e = absurd cc

begins_in_step : (bs : List ℕ) (at step : ℕ) → are_apart bs at step ≡ true → is_sync bs at ≡ true
unfolding are_apart
begins_in_step bs at step e = first_of_three (is_sync bs at) (is_sync bs (at + step)) (is_sync bs (at + 2 * step)) e

new_is_in_step : (bs : List ℕ) (at step size : ℕ) → is_new_step bs at step size ≡ true → are_apart bs (at + size) step ≡ true
unfolding is_new_step
new_is_in_step bs at step size e = second_of_two (not (size % step == 0)) (are_apart bs (at + size) step) e

new_within : (bs : List ℕ) (at step size : ℕ) → is_new_step bs at step size ≡ true → at + size < length bs
new_within bs at step size e = sync_inside bs (at + size) (begins_in_step bs (at + size) step (new_is_in_step bs at step size e))

slip_within_by : (bs : List ℕ) (at step size : ℕ) (b : Bool) → goes_on bs at step ≡ b → slip_by bs at step ≡ Some size → at + size < length bs
unfolding slip_by
slip_within_by bs at step size true is e =
    let none : slip_by bs at step ≡ None = rw is refl in absurd (let both : None ≡ Some size = sym none ∙ e in cc)
slip_within_by bs at step size false is e =
    let looked : slip_by bs at step ≡ new_step bs at step 1 (4 * step - 1) = rw is refl in
    new_within bs at step size (first_is bs at step 1 (4 * step - 1) size (sym looked ∙ e))

pub slip_within : (bs : List ℕ) (at step size : ℕ) → slip_by bs at step ≡ Some size → at + size < length bs
slip_within bs at step size e = slip_within_by bs at step size (goes_on bs at step) refl e

-- 3. The order of slips

ordered_step : (n : ℕ) (bs : List ℕ) (packet at a : ℕ) → a ≤ at → at + 188 ≤ length bs →
    ((packet next a : ℕ) → a ≤ next → next ≤ length bs → AreOrdered bs a (slips_from n bs packet next)) → (o : Option ℕ) → slip_size bs at ≡ o →
    AreOrdered bs a (slips_from (suc n) bs packet at)
unfolding AreOrdered
ordered_step n bs packet at a order long rest None e =
    subst (λ (ss : List Slip). AreOrdered bs a ss) (sym (one_packet n bs packet at long e)) (rest (packet + 1) (at + 188) a (omega (arith, order)) long)
ordered_step n bs packet at a order long rest (Some size) e =
    let within : at + size < length bs = slip_within bs at 188 size e in
    let here : at + size ≤ length bs = omega (arith, within) in
    subst (λ (ss : List Slip). AreOrdered bs a ss) (sym (one_slip n bs packet at size long e))
    (order, here, rest packet (at + size) (at + size) (omega arith) here)

ordered_more : (n : ℕ) (bs : List ℕ) (packet at a : ℕ) → a ≤ at → at ≤ length bs →
    ((packet next a : ℕ) → a ≤ next → next ≤ length bs → AreOrdered bs a (slips_from n bs packet next)) → (b : Bool) → nat_lt (length bs) (at + 188) ≡ b →
    AreOrdered bs a (slips_from (suc n) bs packet at)
unfolding AreOrdered
ordered_more n bs packet at a order within rest true e =
    let short : length bs < at + 188 = search (arith, e) in
    let front : a ≤ length bs = omega (arith, order, within) in
    subst (λ (ss : List Slip). AreOrdered bs a ss) (sym (at_end (suc n) bs packet at short)) front
ordered_more n bs packet at a order within rest false e =
    let long : at + 188 ≤ length bs = search (arith, e) in ordered_step n bs packet at a order long rest (slip_size bs at) refl

ordered_from : (n : ℕ) (bs : List ℕ) (packet at a : ℕ) → a ≤ at → at ≤ length bs → AreOrdered bs a (slips_from n bs packet at)
unfolding slips_from AreOrdered
ordered_from zero bs packet at a order within = omega (arith, order, within)
ordered_from (suc n) bs packet at a order within = ordered_more n bs packet at a order within (ordered_from n bs) (nat_lt (length bs) (at + 188)) refl

ordered : (bs : List ℕ) → AreOrdered bs 0 (slips bs)
unfolding slips
ordered bs = ordered_from (length bs) bs 0 0 0 (omega arith) (omega arith)

pub are_ordered : (bs : List ℕ) (found : List Slip) → found ≡ slips bs → AreOrdered bs 0 found
are_ordered bs found e = subst (λ (ss : List Slip). AreOrdered bs 0 ss) (sym e) (ordered bs)

-- 4. Carried bytes, and bytes that are left out

length_between : (bs : List ℕ) (a b : ℕ) → b ≤ length bs → length (slice_range bs a b) ≡ b - a
length_between bs a b within = let short : b - a ≤ length (drop a bs) = omega (arith, length-drop a bs, within) in length-take-le (b - a) (drop a bs) short

both_parts : (bs : List ℕ) (at : ℕ) (ss : List Slip) → AreOrdered bs at ss → length (carried_from bs at ss) + slipped ss ≡ length bs - at
unfolding AreOrdered carried_from slipped
both_parts bs at [] order = omega (arith, length-drop at bs)
both_parts bs at (s ∷ ss) order =
    let rest = both_parts bs (s.start + s.size) ss order.2 in
    omega (
      arith,
      order.0,
      order.1,
      rest,
      length_between bs at s.start (omega (arith, order.1)),
      length-append (slice_range bs at s.start) (carried_from bs (s.start + s.size) ss),
    )

pub nothing_else : (bs : List ℕ) → length (carried bs) + slipped (slips bs) ≡ length bs
nothing_else bs = let whole : length bs - 0 ≡ length bs = omega arith in both_parts bs 0 (slips bs) (ordered bs) ∙ whole
