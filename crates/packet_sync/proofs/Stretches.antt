-- The carried bytes, from the front of a stream on.
use Rattle.std.proofs.Common.{◌≡◌, ◌≤◌, ◌<◌, ◌⊎◌, inl, inr, ℕ, zero, suc, ◌+◌, ◌*◌, ◌-◌, nat_lt, Bool, true, false, if◌then◌else◌, refl, sym, ap, subst, arith}
use Rattle.std.proofs.Common.{◌∙◌, List, [], ◌++◌, length, length-append, length-drop, take, drop, get_or, slice_get, slice_range, Option, None, Some}
use Rattle.std.proofs.Common.{append_assoc, append-nil, drop-drop, take-add}
use Rattle.std.proofs.lemmas.List.{take-append-drop, drop_all, take_all, get_or-drop, get_or_append_left, drop-append-le, take-append-le}
use Rattle.std.proofs.lemmas.Option.{slice_get_cases, slice_get_past, slice_get_read}
use Rattle.packet_sync.specs.Slips.{slips, slips_from, slip_by, slip_size, new_step, is_new_step, are_apart, is_in_step, is_sync, is_next, goes_on, carried, carried_from}
use Rattle.packet_sync.specs.Stretches.{IsNextOf, IsStepped}
use Rattle.packet_sync.specs.declared.slip.Slip.{Slip}
use Rattle.packet_sync.proofs.SlipSteps.{at_end, one_packet, one_slip}
use Rattle.packet_sync.proofs.WholeStreams.{slip_within}

-- 1. The bytes of six packets, which decide a slip

-- From a and b on, the two lists have the same bytes of six packets.
abbrev Agree : ℕ → List ℕ → ℕ → List ℕ → ℕ → Type 0
Agree step xs a ys b = (k : ℕ) → k < 6 * step → slice_get xs (a + k) ≡ slice_get ys (b + k)

same_sync : (step : ℕ) (xs ys : List ℕ) (a b k : ℕ) → Agree step xs a ys b → k < 6 * step → is_sync xs (a + k) ≡ is_sync ys (b + k)
unfolding is_sync
same_sync step xs ys a b k agree less = rw (agree k less) refl

same_next : (step : ℕ) (xs ys : List ℕ) (a b k : ℕ) → Agree step xs a ys b → k < 6 * step → is_next xs (a + k) ≡ is_next ys (b + k)
unfolding is_next
same_next step xs ys a b k agree less = rw (agree k less) refl

later_sync : (step : ℕ) (xs ys : List ℕ) (a b k m : ℕ) → Agree step xs a ys b → k + m < 6 * step → is_sync xs (a + k + m) ≡ is_sync ys (b + k + m)
later_sync step xs ys a b k m agree less =
    let e : a + (k + m) ≡ a + k + m = omega arith in
    let f : b + (k + m) ≡ b + k + m = omega arith in
    subst (λ (i : ℕ). is_sync xs i ≡ is_sync ys (b + k + m)) e
    (subst (λ (i : ℕ). is_sync xs (a + (k + m)) ≡ is_sync ys i) f (same_sync step xs ys a b (k + m) agree less))

same_step : (step : ℕ) (xs ys : List ℕ) (a b k : ℕ) → Agree step xs a ys b → k + 2 * step < 6 * step → are_apart xs (a + k) step ≡ are_apart ys (b + k) step
unfolding are_apart
same_step step xs ys a b k agree less =
    let one : k < 6 * step = omega (arith, less) in
    let two : k + step < 6 * step = omega (arith, less) in
    rw (same_sync step xs ys a b k agree one, later_sync step xs ys a b k step agree two, later_sync step xs ys a b k (2 * step) agree less) refl

same_new : (step : ℕ) (xs ys : List ℕ) (a b size : ℕ) → Agree step xs a ys b → size + 2 * step < 6 * step →
    is_new_step xs a step size ≡ is_new_step ys b step size
unfolding is_new_step
same_new step xs ys a b size agree less = rw (same_step step xs ys a b size agree less) refl

same_first : (step : ℕ) (xs ys : List ℕ) (a b size n : ℕ) → Agree step xs a ys b → size + n ≤ 4 * step → new_step xs a step size n ≡ new_step ys b step size n
unfolding new_step
same_first step xs ys a b size zero agree less = refl
same_first step xs ys a b size (suc n) agree less =
    rw (same_new step xs ys a b size agree (omega (arith, less)), same_first step xs ys a b (size + 1) n agree (omega (arith, less))) refl

same_slip : (step : ℕ) (xs ys : List ℕ) (a b : ℕ) → 1 ≤ step → Agree step xs a ys b → slip_by xs a step ≡ slip_by ys b step
unfolding slip_by goes_on
same_slip step xs ys a b some agree =
    rw (
      same_next step xs ys a b step agree (omega (arith, some)),
      same_step step xs ys a b (2 * step) agree (omega (arith, some)),
      same_first step xs ys a b 1 (4 * step - 1) agree (omega (arith, some)),
    ) refl

-- 2. The rest of a list

at_rest : (bs : List ℕ) (at k : ℕ) →
    ((x : ℕ) × (at + k < length bs) × (slice_get bs (at + k) ≡ Some x) × (get_or bs (at + k) x ≡ x)) ⊎ ((length bs ≤ at + k) × (slice_get bs (at + k) ≡ None)) →
    slice_get bs (at + k) ≡ slice_get (drop at bs) k
at_rest bs at k (inl one) =
    let within : k < length (drop at bs) = omega (arith, one.1, length-drop at bs) in
    one.2 ∙ sym (slice_get_read (drop at bs) (length (drop at bs)) k one.0 refl within (sym (get_or-drop at bs k one.0 ∙ one.3)))
at_rest bs at k (inr none) =
    let past : length (drop at bs) ≤ k = omega (arith, none.0, length-drop at bs) in
    none.1 ∙ sym (slice_get_past (drop at bs) k past)

at_drop : (bs : List ℕ) (at k : ℕ) → slice_get bs (at + k) ≡ slice_get (drop at bs) k
at_drop bs at k = at_rest bs at k (slice_get_cases bs (at + k)).1

at_front_by : (xs more : List ℕ) (k : ℕ) → k < length xs →
    ((x : ℕ) × (k < length xs) × (slice_get xs k ≡ Some x) × (get_or xs k x ≡ x)) ⊎ ((length xs ≤ k) × (slice_get xs k ≡ None)) →
    slice_get xs k ≡ slice_get (xs ++ more) k
at_front_by xs more k within (inl one) =
    let here : k < length (xs ++ more) = omega (arith, within, length-append xs more) in
    one.2 ∙ sym (slice_get_read (xs ++ more) (length (xs ++ more)) k one.0 refl here (sym (get_or_append_left xs more one.0 k within ∙ one.3)))
at_front_by xs more k within (inr none) = absurd (let no : ⊥ = omega (arith, within, none.0) in no)

pub at_front : (xs more : List ℕ) (k : ℕ) → k < length xs → slice_get xs k ≡ slice_get (xs ++ more) k
at_front xs more k within = at_front_by xs more k within (slice_get_cases xs k).1

-- With the bytes of six packets, or if no bytes follow, a slip is the same whatever bytes follow.
pub slip_front : (bs more : List ℕ) (at step : ℕ) → 1 ≤ step → (at + 6 * step ≤ length bs) ⊎ (more ≡ []) → slip_by (bs ++ more) at step ≡ slip_by bs at step
slip_front bs more at step some (inl long) =
    sym (same_slip step bs (bs ++ more) at at some (λ k less. at_front bs more (at + k) (omega (arith, less, long))))
slip_front bs more at step some (inr none) = ap (λ (r : List ℕ). slip_by r at step) (ap (λ (m : List ℕ). bs ++ m) none ∙ append-nil bs)

at_zero : (bs rest : List ℕ) (at k : ℕ) → slice_get bs (at + k) ≡ slice_get rest k → slice_get bs (at + k) ≡ slice_get rest (0 + k)
at_zero bs rest at k is = let e : 0 + k ≡ k = omega arith in rw e is

-- The present bytes decide the slip, if there are 1,128 or if no more bytes follow.
decided : (bs more : List ℕ) (at : ℕ) → (at + 1128 ≤ length bs) ⊎ (more ≡ []) → slip_size bs at ≡ slip_size (drop at bs ++ more) 0
decided bs more at (inl long) =
    same_slip 188 bs (drop at bs ++ more) at 0 (omega arith)
    (λ k less. at_zero bs (drop at bs ++ more) at k (at_drop bs at k ∙ at_front (drop at bs) more k (omega (arith, less, long, length-drop at bs))))
decided bs more at (inr none) =
    rw (none, append-nil (drop at bs)) (same_slip 188 bs (drop at bs) at 0 (omega arith) (λ k less. at_zero bs (drop at bs) at k (at_drop bs at k)))

-- A slip at a later place is a slip in the rest of the list.
pub slip_later : (bs : List ℕ) (a b : ℕ) → slip_size bs (a + b) ≡ slip_size (drop a bs) b
slip_later bs a b = same_slip 188 bs (drop a bs) (a + b) b (omega arith) (λ k less.
    let e : a + (b + k) ≡ a + b + k = omega arith in
    subst (λ (i : ℕ). slice_get bs i ≡ slice_get (drop a bs) (b + k)) e (at_drop bs a (b + k)))

-- Three packets in a row at a later place are three in the rest of the list.
pub step_later : (bs : List ℕ) (a b : ℕ) → is_in_step bs (a + b) ≡ is_in_step (drop a bs) b
step_later bs a b =
    let e : a + b + 0 ≡ a + b = omega arith in
    let f : b + 0 ≡ b = omega arith in
    let agree : Agree 188 bs (a + b) (drop a bs) b = λ k less.
    let g : a + (b + k) ≡ a + b + k = omega arith in
    subst (λ (i : ℕ). slice_get bs i ≡ slice_get (drop a bs) (b + k)) g (at_drop bs a (b + k)) in
    subst (λ (i : ℕ). is_in_step bs i ≡ is_in_step (drop a bs) b) e
    (subst (λ (i : ℕ). is_in_step bs (a + b + 0) ≡ is_in_step (drop a bs) i) f (same_step 188 bs (drop a bs) (a + b) b 0 agree (omega arith)))

-- 3. The carried bytes, packet by packet

kept_then : Option ℕ → List ℕ → (List ℕ → List ℕ) → List ℕ
kept_then None bs after = take 188 bs ++ after (drop 188 bs)
kept_then (Some size) bs after = after (drop size bs)

kept : ℕ → List ℕ → List ℕ
kept zero bs = bs
kept (suc n) bs = if nat_lt (length bs) 188 then bs else kept_then (slip_size bs 0) bs (kept n)

shift : (bs : List ℕ) (at : ℕ) → slip_size bs at ≡ slip_size (drop at bs) 0
shift bs at = same_slip 188 bs (drop at bs) at 0 (omega arith) (λ k less. at_zero bs (drop at bs) at k (at_drop bs at k))

two_parts : (bs : List ℕ) (a b : ℕ) → a ≤ b → drop a bs ≡ slice_range bs a b ++ drop b bs
two_parts bs a b order =
    let e : a + (b - a) ≡ b = omega (arith, order) in
    sym (take-append-drop (b - a) (drop a bs)) ∙ ap (λ (r : List ℕ). slice_range bs a b ++ r) (drop-drop (b - a) a bs ∙ ap (λ (k : ℕ). drop k bs) e)

longer_range : (bs : List ℕ) (a b : ℕ) → a ≤ b → slice_range bs a (b + 188) ≡ slice_range bs a b ++ take 188 (drop b bs)
longer_range bs a b order =
    let e : b + 188 - a ≡ (b - a) + 188 = omega (arith, order) in
    let f : a + (b - a) ≡ b = omega (arith, order) in
    ap (λ (n : ℕ). take n (drop a bs)) e ∙ take-add (b - a) 188 (drop a bs)
    ∙ ap (λ (r : List ℕ). slice_range bs a b ++ take 188 r) (drop-drop (b - a) a bs ∙ ap (λ (k : ℕ). drop k bs) f)

none_between : (bs : List ℕ) (a : ℕ) → slice_range bs a a ≡ []
none_between bs a = let e : a - a ≡ 0 = omega arith in rw e refl

kept_short : (n : ℕ) (bs : List ℕ) → length bs < 188 → kept n bs ≡ bs
unfolding kept
kept_short zero bs short = refl
kept_short (suc n) bs short = let e : nat_lt (length bs) 188 ≡ true = search (arith, short) in rw e refl

kept_packet : (n : ℕ) (bs : List ℕ) → 188 ≤ length bs → slip_size bs 0 ≡ None → kept (suc n) bs ≡ take 188 bs ++ kept n (drop 188 bs)
unfolding kept kept_then
kept_packet n bs long is = let e : nat_lt (length bs) 188 ≡ false = search (arith, long) in rw e (rw is refl)

kept_slip : (n : ℕ) (bs : List ℕ) (size : ℕ) → 188 ≤ length bs → slip_size bs 0 ≡ Some size → kept (suc n) bs ≡ kept n (drop size bs)
unfolding kept kept_then
kept_slip n bs size long is = let e : nat_lt (length bs) 188 ≡ false = search (arith, long) in rw e (rw is refl)

-- If no whole packet is left, the rest of the bytes is carried.
at_last : (n : ℕ) (bs : List ℕ) (packet a at : ℕ) → a ≤ at → length bs < at + 188 → carried_from bs a (slips_from n bs packet at) ≡ slice_range bs a at
    ++ kept n (drop at bs)
unfolding carried_from
at_last n bs packet a at order short =
    let few : length (drop at bs) < 188 = omega (arith, length-drop at bs, short) in
    rw (at_end n bs packet at short, kept_short n (drop at bs) few) (two_parts bs a at order)

at_packet : (n : ℕ) (bs : List ℕ) (packet a at : ℕ) → a ≤ at → at + 188 ≤ length bs → (o : Option ℕ) → slip_size bs at ≡ o →
    ((packet a at : ℕ) → a ≤ at → at ≤ length bs → carried_from bs a (slips_from n bs packet at) ≡ slice_range bs a at ++ kept n (drop at bs)) →
    carried_from bs a (slips_from (suc n) bs packet at) ≡ slice_range bs a at ++ kept (suc n) (drop at bs)
unfolding carried_from
at_packet n bs packet a at order long None is rest =
    let many : 188 ≤ length (drop at bs) = omega (arith, length-drop at bs, long) in
    let further : a ≤ at + 188 = omega (arith, order) in
    ap (λ (ss : List Slip). carried_from bs a ss) (one_packet n bs packet at long is)
    ∙ rest (packet + 1) a (at + 188) further long
    ∙ ap (λ (r : List ℕ). r ++ kept n (drop (at + 188) bs)) (longer_range bs a at order)
    ∙ append_assoc (slice_range bs a at) (take 188 (drop at bs)) (kept n (drop (at + 188) bs))
    ∙ ap (λ (r : List ℕ). slice_range bs a at ++ r)
    (ap (λ (r : List ℕ). take 188 (drop at bs) ++ kept n r) (sym (drop-drop 188 at bs)) ∙ sym (kept_packet n (drop at bs) many (sym (shift bs at) ∙ is)))
at_packet n bs packet a at order long (Some size) is rest =
    let many : 188 ≤ length (drop at bs) = omega (arith, length-drop at bs, long) in
    let within : at + size < length bs = slip_within bs at 188 size is in
    let here : at + size ≤ length bs = omega (arith, within) in
    ap (λ (ss : List Slip). carried_from bs a ss) (one_slip n bs packet at size long is)
    ∙ ap (λ (r : List ℕ). slice_range bs a at ++ r)
    (rest packet (at + size) (at + size) (omega arith) here
    ∙ ap (λ (r : List ℕ). r ++ kept n (drop (at + size) bs)) (none_between bs (at + size))
    ∙ ap (λ (r : List ℕ). kept n r) (sym (drop-drop size at bs)) ∙ sym (kept_slip n (drop at bs) size many (sym (shift bs at) ∙ is)))

at_place : (n : ℕ) (bs : List ℕ) (packet a at : ℕ) → a ≤ at → at ≤ length bs → (b : Bool) → nat_lt (length bs) (at + 188) ≡ b →
    ((packet a at : ℕ) → a ≤ at → at ≤ length bs → carried_from bs a (slips_from n bs packet at) ≡ slice_range bs a at ++ kept n (drop at bs)) →
    carried_from bs a (slips_from (suc n) bs packet at) ≡ slice_range bs a at ++ kept (suc n) (drop at bs)
at_place n bs packet a at order within true is rest = let short : length bs < at + 188 = search (arith, is) in at_last (suc n) bs packet a at order short
at_place n bs packet a at order within false is rest =
    let long : at + 188 ≤ length bs = search (arith, is) in at_packet n bs packet a at order long (slip_size bs at) refl rest

same_kept : (n : ℕ) (bs : List ℕ) (packet a at : ℕ) → a ≤ at → at ≤ length bs → carried_from bs a (slips_from n bs packet at) ≡ slice_range bs a at
    ++ kept n (drop at bs)
unfolding slips_from carried_from kept
same_kept zero bs packet a at order within = two_parts bs a at order
same_kept (suc n) bs packet a at order within = at_place n bs packet a at order within (nat_lt (length bs) (at + 188)) refl (same_kept n bs)

carried_kept : (bs : List ℕ) → carried bs ≡ kept (length bs) bs
unfolding slips
carried_kept bs = same_kept (length bs) bs 0 0 0 (omega arith) (omega arith)

-- The search returns no smaller size than its first, however many sizes it may try.
first_from : (bs : List ℕ) (at step size n k : ℕ) (b : Bool) → is_new_step bs at step size ≡ b →
    (new_step bs at step (size + 1) n ≡ Some k → size + 1 ≤ k) →
    new_step bs at step size (suc n) ≡ Some k → size ≤ k
unfolding new_step
first_from bs at step size n k true is later e =
    let found : new_step bs at step size (suc n) ≡ Some size = rw is refl in
    let same : size ≡ k = (let both : Some size ≡ Some k = sym found ∙ e in cc) in
    omega (arith, same)
first_from bs at step size n k false is later e =
    let after : new_step bs at step size (suc n) ≡ new_step bs at step (size + 1) n = rw is refl in
    omega (arith, later (sym after ∙ e))

not_before : (bs : List ℕ) (at step size n k : ℕ) → new_step bs at step size n ≡ Some k → size ≤ k
unfolding new_step
not_before bs at step size zero k e = absurd cc
not_before bs at step size (suc n) k e =
    first_from bs at step size n k (is_new_step bs at step size) refl (not_before bs at step (size + 1) n k) e

slip_some_by : (bs : List ℕ) (at step size : ℕ) (b : Bool) → goes_on bs at step ≡ b → slip_by bs at step ≡ Some size → 1 ≤ size
unfolding slip_by
slip_some_by bs at step size true is e =
    let none : slip_by bs at step ≡ None = rw is refl in absurd (let both : None ≡ Some size = sym none ∙ e in cc)
slip_some_by bs at step size false is e =
    let looked : slip_by bs at step ≡ new_step bs at step 1 (4 * step - 1) = rw is refl in not_before bs at step 1 (4 * step - 1) size (sym looked ∙ e)

pub some_slip : (bs : List ℕ) (at step size : ℕ) → slip_by bs at step ≡ Some size → 1 ≤ size
some_slip bs at step size e = slip_some_by bs at step size (goes_on bs at step) refl e

pub slip_some : (bs : List ℕ) (at size : ℕ) → slip_size bs at ≡ Some size → 1 ≤ size
slip_some bs at size e = some_slip bs at 188 size e

fuel_packet : (n m : ℕ) (bs : List ℕ) → length bs ≤ suc n → length bs ≤ suc m → 188 ≤ length bs → (o : Option ℕ) → slip_size bs 0 ≡ o →
    ((bs : List ℕ) → length bs ≤ n → length bs ≤ m → kept n bs ≡ kept m bs) → kept (suc n) bs ≡ kept (suc m) bs
fuel_packet n m bs some more long None is rest =
    let one : length (drop 188 bs) ≤ n = omega (arith, length-drop 188 bs, some, long) in
    let other : length (drop 188 bs) ≤ m = omega (arith, length-drop 188 bs, more, long) in
    kept_packet n bs long is ∙ ap (λ (r : List ℕ). take 188 bs ++ r) (rest (drop 188 bs) one other) ∙ sym (kept_packet m bs long is)
fuel_packet n m bs some more long (Some size) is rest =
    let least = slip_some bs 0 size is in
    let one : length (drop size bs) ≤ n = omega (arith, length-drop size bs, some, long, least) in
    let other : length (drop size bs) ≤ m = omega (arith, length-drop size bs, more, long, least) in
    kept_slip n bs size long is ∙ rest (drop size bs) one other ∙ sym (kept_slip m bs size long is)

fuel_place : (n m : ℕ) (bs : List ℕ) → length bs ≤ suc n → length bs ≤ suc m → (b : Bool) → nat_lt (length bs) 188 ≡ b →
    ((bs : List ℕ) → length bs ≤ n → length bs ≤ m → kept n bs ≡ kept m bs) → kept (suc n) bs ≡ kept (suc m) bs
fuel_place n m bs some more true is rest =
    let short : length bs < 188 = search (arith, is) in kept_short (suc n) bs short ∙ sym (kept_short (suc m) bs short)
fuel_place n m bs some more false is rest =
    let long : 188 ≤ length bs = search (arith, is) in fuel_packet n m bs some more long (slip_size bs 0) refl rest

same_fuel : (n m : ℕ) (bs : List ℕ) → length bs ≤ n → length bs ≤ m → kept n bs ≡ kept m bs
unfolding kept
same_fuel zero m bs some more =
    let short : length bs < 188 = omega (arith, some) in sym (kept_short m bs short)
same_fuel (suc n) zero bs some more =
    let short : length bs < 188 = omega (arith, more) in kept_short (suc n) bs short
same_fuel (suc n) (suc m) bs some more = fuel_place n m bs some more (nat_lt (length bs) 188) refl (same_fuel n m)

front_kept : (bs : List ℕ) → 188 ≤ length bs → kept (length bs) bs ≡ kept (suc (length bs)) bs
front_kept bs long = same_fuel (length bs) (suc (length bs)) bs (omega arith) (omega arith)

-- 4. Enough bytes for a decision

pub known_by : (ended : Bool) (bs more : List ℕ) (at n : ℕ) → n ≡ (if ended then 188 else 1128) → at ≤ length bs → n ≤ length bs - at →
    (ended ≡ true → more ≡ []) →
    (at + 1128 ≤ length bs) ⊎ (more ≡ [])
known_by true bs more at n is within test none = inr (none refl)
known_by false bs more at n is within test none = inl (omega (arith, is, within, test))

pub a_packet : (ended : Bool) (bs : List ℕ) (at n : ℕ) → n ≡ (if ended then 188 else 1128) → at ≤ length bs → n ≤ length bs - at → at + 188 ≤ length bs
a_packet true bs at n is within test = omega (arith, is, within, test)
a_packet false bs at n is within test = omega (arith, is, within, test)

pub no_packet : (ended : Bool) (bs : List ℕ) (at n : ℕ) → n ≡ (if ended then 188 else 1128) → ended ≡ true → length bs - at < n → length bs < at + 188
no_packet true bs at n is e test = omega (arith, is, test)
no_packet false bs at n is e test = absurd cc

-- 5. Stretches

pub carried_packet : (bs : List ℕ) → 188 ≤ length bs → slip_size bs 0 ≡ None → carried bs ≡ take 188 bs ++ carried (drop 188 bs)
carried_packet bs long is =
    let fewer : length (drop 188 bs) ≤ length bs = omega (arith, length-drop 188 bs) in
    carried_kept bs ∙ front_kept bs long ∙ kept_packet (length bs) bs long is
    ∙ ap (λ (r : List ℕ). take 188 bs ++ r) (same_fuel (length bs) (length (drop 188 bs)) (drop 188 bs) fewer (omega arith) ∙ sym (carried_kept (drop 188 bs)))

pub carried_slip : (bs : List ℕ) (size : ℕ) → 188 ≤ length bs → slip_size bs 0 ≡ Some size → carried bs ≡ carried (drop size bs)
carried_slip bs size long is =
    let fewer : length (drop size bs) ≤ length bs = omega (arith, length-drop size bs) in
    carried_kept bs ∙ front_kept bs long ∙ kept_slip (length bs) bs size long is
    ∙ same_fuel (length bs) (length (drop size bs)) (drop size bs) fewer (omega arith) ∙ sym (carried_kept (drop size bs))

pub carried_few : (bs : List ℕ) → length bs < 188 → carried bs ≡ bs
carried_few bs short = carried_kept bs ∙ kept_short (length bs) bs short

-- The bytes up to `at` are carried as they are.
abbrev pub SoFar : List ℕ → List ℕ → ℕ → Type 0
SoFar bs more at = carried (bs ++ more) ≡ take at bs ++ carried (drop at bs ++ more)

pub so_far_none : (bs more : List ℕ) → SoFar bs more 0
so_far_none bs more = refl

dropped : (bs more : List ℕ) (at n : ℕ) → at + n ≤ length bs → drop n (drop at bs ++ more) ≡ drop (at + n) bs ++ more
dropped bs more at n within =
    let fits : n ≤ length (drop at bs) = omega (arith, length-drop at bs, within) in
    drop-append-le n (drop at bs) more fits ∙ ap (λ (r : List ℕ). r ++ more) (drop-drop n at bs)

pub so_far_packet : (bs more : List ℕ) (at : ℕ) → at + 188 ≤ length bs → (at + 1128 ≤ length bs) ⊎ (more ≡ []) → None ≡ slip_size bs at → SoFar bs more at →
    SoFar bs more (at + 188)
so_far_packet bs more at long known is so =
    let rest = drop at bs ++ more in
    let fits : 188 ≤ length (drop at bs) = omega (arith, length-drop at bs, long) in
    let many : 188 ≤ length rest = omega (arith, length-append (drop at bs) more, fits) in
    so ∙ ap (λ (r : List ℕ). take at bs ++ r) (carried_packet rest many (sym (decided bs more at known) ∙ sym is)
    ∙ ap (λ (r : List ℕ). take 188 rest ++ carried r) (dropped bs more at 188 long)
    ∙ ap (λ (r : List ℕ). r ++ carried (drop (at + 188) bs ++ more)) (take-append-le 188 (drop at bs) more fits))
    ∙ sym (append_assoc (take at bs) (take 188 (drop at bs)) (carried (drop (at + 188) bs ++ more)))
    ∙ ap (λ (r : List ℕ). r ++ carried (drop (at + 188) bs ++ more)) (sym (take-add at 188 bs))

pub next_slip : (bs more : List ℕ) (at size : ℕ) → at + 188 ≤ length bs → at + size ≤ length bs → (at + 1128 ≤ length bs) ⊎ (more ≡ []) →
    Some size ≡ slip_size bs at → SoFar bs more at →
    IsNextOf bs more (record { in_step = at; slipped = size })
next_slip bs more at size long within known is so =
    let rest = drop at bs ++ more in
    let many : 188 ≤ length rest = omega (arith, length-append (drop at bs) more, length-drop at bs, long) in
    so ∙ ap (λ (r : List ℕ). take at bs ++ r) (carried_slip rest size many (sym (decided bs more at known) ∙ sym is)
    ∙ ap (λ (r : List ℕ). carried r) (dropped bs more at size within))

pub next_none : (bs more : List ℕ) (at : ℕ) → SoFar bs more at → IsNextOf bs more (record { in_step = at; slipped = 0 })
next_none bs more at so = let e : at + 0 ≡ at = omega arith in rw e so

at_end_is : (bs more : List ℕ) → more ≡ [] → carried (bs ++ more) ≡ bs → carried (bs ++ []) ≡ bs ++ carried ([] ++ [])
unfolding carried_from slips slips_from
at_end_is bs more none all = subst (λ (m : List ℕ). carried (bs ++ m) ≡ bs) none all ∙ sym (append-nil bs ∙ refl)

pub next_last : (bs more : List ℕ) (at : ℕ) → at ≤ length bs → length bs < at + 188 → more ≡ [] → SoFar bs more at →
    IsNextOf bs more (record { in_step = length bs; slipped = 0 })
next_last bs more at within short none so =
    let few : length (drop at bs) < 188 = omega (arith, length-drop at bs, short) in
    let all : carried (bs ++ more) ≡ bs =
    so ∙ (rw (none, append-nil (drop at bs)) (ap (λ (r : List ℕ). take at bs ++ r) (carried_few (drop at bs) few) ∙ take-append-drop at bs)) in
    let past : drop (length bs + 0) bs ≡ [] = drop_all (length bs + 0) bs (omega arith) in
    let front : take (length bs) bs ≡ bs = take_all (length bs) bs (omega arith) in
    rw (front, past, none) (at_end_is bs more none all)

-- 6. Steps

-- The present bytes decide the slip of the whole stream.
whole_slip : (bs more : List ℕ) (at : ℕ) → at + 188 ≤ length bs → (at + 1128 ≤ length bs) ⊎ (more ≡ []) → slip_size (bs ++ more) at ≡ slip_size bs at
whole_slip bs more at long known =
    let within : at ≤ length bs = omega (arith, long) in
    shift (bs ++ more) at ∙ ap (λ (r : List ℕ). slip_size r 0) (drop-append-le at bs more within) ∙ sym (decided bs more at known)

-- After each packet of the first `size` bytes the step continues.
abbrev pub Steady : List ℕ → ℕ → Type 0
Steady bs size = (k : ℕ) → 188 * k + 188 ≤ size → slip_size bs (188 * k) ≡ None

pub steady_none : (bs : List ℕ) → Steady bs 0
steady_none bs = λ k less. absurd (let no : ⊥ = omega (arith, less) in no)

steady_by : (bs more : List ℕ) (at n k : ℕ) → at ≡ 188 * n → at + 188 ≤ length bs → slip_size (bs ++ more) at ≡ None → Steady (bs ++ more) at →
    188 * k + 188 ≤ at + 188 →
    (b : Bool) → nat_lt k n ≡ b → slip_size (bs ++ more) (188 * k) ≡ None
steady_by bs more at n k place long is so less true e = let before : k < n = search (arith, e) in so k (omega (arith, before, place))
steady_by bs more at n k place long is so less false e =
    let past : n ≤ k = search (arith, e) in
    let same : at ≡ 188 * k = omega (arith, past, place, less) in
    subst (λ (i : ℕ). slip_size (bs ++ more) i ≡ None) same is

pub steady_packet : (bs more : List ℕ) (at n : ℕ) → at ≡ 188 * n → at + 188 ≤ length bs → (at + 1128 ≤ length bs) ⊎ (more ≡ []) → None ≡ slip_size bs at →
    Steady (bs ++ more) at →
    Steady (bs ++ more) (at + 188)
steady_packet bs more at n place long known is so =
    λ k less. steady_by bs more at n k place long (whole_slip bs more at long known ∙ sym is) so less (nat_lt k n) refl

pub steady_last : (bs : List ℕ) (at n size : ℕ) → at ≡ 188 * n → size < at + 188 → Steady bs at → Steady bs size
steady_last bs at n size place short so = λ k less. so k (omega (arith, less, short, place))

pub stepped_slip : (bs more : List ℕ) (at size : ℕ) → at + 188 ≤ length bs → (at + 1128 ≤ length bs) ⊎ (more ≡ []) → Some size ≡ slip_size bs at →
    Steady (bs ++ more) at →
    IsStepped (bs ++ more) (record { in_step = at; slipped = size })
stepped_slip bs more at size long known is so = record {
  steady = so;
  lost = λ some. (whole_slip bs more at long known ∙ sym is, omega (arith, long, length-append bs more));
}

pub stepped_none : (bs : List ℕ) (at : ℕ) → Steady bs at → IsStepped bs (record { in_step = at; slipped = 0 })
stepped_none bs at so = record { steady = so; lost = λ some. absurd (let no : ⊥ = omega (arith, some) in no) }
