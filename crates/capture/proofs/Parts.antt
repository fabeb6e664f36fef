-- The parts of a capture, one by one.
use Rattle.std.proofs.Common.{◌≡◌, ◌≤◌, ◌<◌, ℕ, zero, suc, ◌+◌, ◌*◌, ◌-◌, ◌/◌, nat_lt, Bool, true, false, refl, sym, ap, ap₂, subst, arith, ◌∙◌, List, [], ◌∷◌}
use Rattle.std.proofs.Common.{◌++◌, length, length-append, length-drop, map, take, drop, slice_range, Option, None, Some, append_assoc, append-nil, drop-drop}
use Rattle.std.proofs.Common.{take-add}
use Rattle.std.proofs.lemmas.List.{drop_all, drop-append-le, take-append-le, map-append}
use Rattle.packet_sync.specs.declared.file_form.FileForm.{FileForm}
use Rattle.packet_sync.specs.Slips.{slip_size}
use Rattle.packet_sync.specs.declared.packet_sizes.OtherPackets.{OtherPackets}
use Rattle.packet_sync.specs.declared.packet_sizes.OtherPackets.TheVariants.{Timed, Corrected}
use Rattle.packet_sync.proofs.Stretches.{slip_later, slip_some}
use Rattle.capture.specs.Captures.{Capture, IsPacket, NextPart, Part, after_packets, after_slip, capture_from, capture_in, capture_then, least_size, next_of}
use Rattle.capture.specs.Captures.{next_part, no_parts, part_in, plain_next, slip_at, with_parts}
use Rattle.packet_sync.specs.OtherPackets.{size_of}
use Rattle.capture.specs.declared.place.Place.{Place}

-- 1. The number of steps makes no difference

size_some : (other : OtherPackets) → 1 ≤ size_of other
unfolding size_of
size_some Timed = omega arith
size_some Corrected = omega arith

plain_some : (o : Option ℕ) (p : Place) (bs : List ℕ) → slip_size bs 0 ≡ o → 1 ≤ (plain_next o p bs).size
unfolding plain_next
plain_some None p bs e = omega arith
plain_some (Some size) p bs e = slip_some bs 0 size e

next_some : (other : Option OtherPackets) (p : Place) (bs : List ℕ) → 1 ≤ (next_of other p bs).size
unfolding next_of
next_some None p bs = plain_some (slip_size bs 0) p bs refl
next_some (Some other) p bs = size_some other

-- The next part, if any, takes at least one byte.
there_by : (other : Option OtherPackets) (p : Place) (bs : List ℕ) (x : NextPart) (b : Bool) → nat_lt (length bs) (least_size other) ≡ b →
    next_part other p bs ≡ Some x → 1 ≤ x.size
unfolding next_part
there_by other p bs x true is e = let none : next_part other p bs ≡ None = rw is refl in absurd (let both : None ≡ Some x = sym none ∙ e in cc)
there_by other p bs x false is e =
    let some : next_part other p bs ≡ Some (next_of other p bs) = rw is refl in
    let same : next_of other p bs ≡ x = (let both : Some (next_of other p bs) ≡ Some x = sym some ∙ e in cc) in
    subst (λ (y : NextPart). 1 ≤ y.size) same (next_some other p bs)

there : (other : Option OtherPackets) (p : Place) (bs : List ℕ) (x : NextPart) → next_part other p bs ≡ Some x → 1 ≤ x.size
there other p bs x e = there_by other p bs x (nat_lt (length bs) (least_size other)) refl e

fuel_then : (n m : ℕ) (form : FileForm) (other : Option OtherPackets) (bs : List ℕ) (o : Option NextPart) → length bs ≤ suc n → length bs ≤ suc m →
    ((x : NextPart) → o ≡ Some x → 1 ≤ x.size) →
    ((p : Place) (bs : List ℕ) → length bs ≤ n → length bs ≤ m → capture_in n form other p bs ≡ capture_in m form other p bs) →
    capture_then o form bs (capture_in n form other) ≡ capture_then o form bs (capture_in m form other)
unfolding capture_then
fuel_then n m form other bs None some more least rest = refl
fuel_then n m form other bs (Some x) some more least rest =
    let one : 1 ≤ x.size = least x refl in
    ap (with_parts (x.part ∷ []))
    (rest x.place (drop x.size bs) (omega (arith, length-drop x.size bs, some, one)) (omega (arith, length-drop x.size bs, more, one)))

least_some : (other : Option OtherPackets) → 1 ≤ least_size other
unfolding least_size
least_some None = omega arith
least_some (Some other) = size_some other

short_none : (other : Option OtherPackets) (p : Place) (bs : List ℕ) → length bs < least_size other → next_part other p bs ≡ None
unfolding next_part
short_none other p bs short = let e : nat_lt (length bs) (least_size other) ≡ true = search (arith, short) in rw e refl

pub few : (n : ℕ) (form : FileForm) (other : Option OtherPackets) (p : Place) (bs : List ℕ) → length bs < least_size other →
    capture_in n form other p bs ≡ no_parts form bs
unfolding capture_in capture_then
few zero form other p bs short = refl
few (suc n) form other p bs short = rw (short_none other p bs short) refl

same_fuel : (n m : ℕ) (form : FileForm) (other : Option OtherPackets) (p : Place) (bs : List ℕ) → length bs ≤ n → length bs ≤ m →
    capture_in n form other p bs ≡ capture_in m form other p bs
unfolding capture_in
same_fuel zero m form other p bs some more = sym (few m form other p bs (omega (arith, some, least_some other)))
same_fuel (suc n) zero form other p bs some more = few (suc n) form other p bs (omega (arith, more, least_some other))
same_fuel (suc n) (suc m) form other p bs some more =
    fuel_then n m form other bs (next_part other p bs) some more (there other p bs) (λ p bs some more. same_fuel n m form other p bs some more)

-- 2. The next part

one_part : (form : FileForm) (other : Option OtherPackets) (p : Place) (bs : List ℕ) (x : NextPart) → 1 ≤ length bs → next_part other p bs ≡ Some x →
    capture_from form other p bs ≡ with_parts (x.part ∷ []) (capture_from form other x.place (drop x.size bs))
unfolding capture_in capture_then
one_part form other p bs x some e =
    let one : 1 ≤ x.size = there other p bs x e in
    let fewer : length (drop x.size bs) ≤ length bs = omega (arith, length-drop x.size bs) in
    let more : length bs ≤ suc (length bs) = omega arith in
    let all : length bs ≤ length bs = omega arith in
    let step : capture_in (suc (length bs)) form other p bs ≡ with_parts (x.part ∷ []) (capture_in (length bs) form other x.place (drop x.size bs)) =
    rw e refl in
    same_fuel (length bs) (suc (length bs)) form other p bs all more ∙ step
    ∙ ap (with_parts (x.part ∷ [])) (same_fuel (length bs) (length (drop x.size bs)) form other x.place (drop x.size bs) fewer (omega arith))

long_some : (other : Option OtherPackets) (p : Place) (bs : List ℕ) → least_size other ≤ length bs → next_part other p bs ≡ Some (next_of other p bs)
unfolding next_part
long_some other p bs long = let e : nat_lt (length bs) (least_size other) ≡ false = search (arith, long) in rw e refl

plain_long : (p : Place) (bs : List ℕ) (o : Option ℕ) → 188 ≤ length bs → slip_size bs 0 ≡ o → next_part None p bs ≡ Some (plain_next o p bs)
unfolding least_size next_of
plain_long p bs o long e = long_some None p bs long ∙ ap (λ (x : Option ℕ). Some (plain_next x p bs)) e

pub packet_first : (form : FileForm) (p : Place) (bs : List ℕ) → 188 ≤ length bs → slip_size bs 0 ≡ None →
    capture_from form None p bs ≡ with_parts (IsPacket (take 188 bs) ∷ []) (capture_from form None (after_packets 188 p) (drop 188 bs))
unfolding plain_next
packet_first form p bs long e = one_part form None p bs (plain_next None p bs) (omega (arith, long)) (plain_long p bs None long e)

pub slip_first : (form : FileForm) (p : Place) (bs : List ℕ) (size : ℕ) → 188 ≤ length bs → slip_size bs 0 ≡ Some size →
    capture_from form None p bs ≡ with_parts (slip_at size p ∷ []) (capture_from form None (after_slip size p) (drop size bs))
unfolding plain_next
slip_first form p bs size long e = one_part form None p bs (plain_next (Some size) p bs) (omega (arith, long)) (plain_long p bs (Some size) long e)

pub other_first : (form : FileForm) (other : OtherPackets) (p : Place) (bs : List ℕ) → size_of other ≤ length bs →
    capture_from form (Some other) p bs ≡ with_parts (part_in other bs ∷ []) (capture_from form (Some other) p (drop (size_of other) bs))
unfolding next_of least_size
other_first form other p bs long =
    one_part form (Some other) p bs (next_of (Some other) p bs) (omega (arith, long, size_some other)) (long_some (Some other) p bs long)

pub plain_few : (form : FileForm) (p : Place) (bs : List ℕ) → length bs < 188 → capture_from form None p bs ≡ no_parts form bs
unfolding least_size
plain_few form p bs short = few (length bs) form None p bs short

pub other_few : (form : FileForm) (other : OtherPackets) (p : Place) (bs : List ℕ) → length bs < size_of other →
    capture_from form (Some other) p bs ≡ no_parts form bs
unfolding least_size
other_few form other p bs short = few (length bs) form (Some other) p bs short

-- 3. Parts before other parts

pub both_parts : (a b : List Part) (c : Capture) → with_parts a (with_parts b c) ≡ with_parts (a ++ b) c
both_parts a b c = ap (λ (parts : List Part). record { form = c.form; parts = parts; rest = c.rest }) (sym (append_assoc a b c.parts))

pub none_before : (c : Capture) → with_parts [] c ≡ c
none_before c = refl
