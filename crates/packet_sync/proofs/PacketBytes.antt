-- The packets of 188 bytes of a stream whose packets are of another size, piece by piece.
use Rattle.std.proofs.Common.{◌≡◌, ◌≤◌, ◌<◌, ◌⊎◌, inl, inr, ℕ, zero, suc, ◌+◌, ◌-◌, ◌*◌, min, nat_lt, Bool, true, false, List, [], ◌++◌, length, take, drop}
use Rattle.std.proofs.Common.{Option, None, Some, refl, sym, ap, ap₂, ◌∙◌, arith, append_assoc, append-nil, drop-drop, length-append, length-drop}
use Rattle.std.proofs.lemmas.List.{drop_all, drop_min, drop-append-le, take-append-le}
use Rattle.packet_sync.specs.OtherPackets.{front_of, size_of}
use Rattle.packet_sync.specs.PacketBytes.{AreInner, decisive, inner_bytes, inner_in, next_bytes, next_size, next_slip, packet_bytes}
use Rattle.packet_sync.specs.declared.packet_sizes.OtherPackets.{OtherPackets}
use Rattle.packet_sync.specs.declared.packet_sizes.OtherPackets.TheVariants.{Timed, Corrected}
use Rattle.packet_sync.proofs.Stretches.{slip_front, some_slip}
use Rattle.packet_sync.proofs.WholeStreams.{slip_within}

-- 1. Step by step

size_some : (other : OtherPackets) → 188 ≤ size_of other
unfolding size_of
size_some Timed = omega arith
size_some Corrected = omega arith

next_some : (o : Option ℕ) (other : OtherPackets) (bs : List ℕ) → next_slip other bs ≡ o → 1 ≤ next_size o other
unfolding next_size
next_some None other bs e = omega (arith, size_some other)
next_some (Some size) other bs e = some_slip bs (front_of other) (size_of other) size e

inner_short : (n : ℕ) (other : OtherPackets) (bs : List ℕ) → length bs < front_of other + 188 → inner_in n other bs ≡ drop (front_of other) bs
unfolding inner_in
inner_short zero other bs short = refl
inner_short (suc n) other bs short = let e : nat_lt (length bs) (front_of other + 188) ≡ true = search (arith, short) in rw e refl

inner_step : (n : ℕ) (other : OtherPackets) (bs : List ℕ) → front_of other + 188 ≤ length bs →
    inner_in (suc n) other bs ≡ next_bytes (next_slip other bs) other bs ++ inner_in n other (drop (next_size (next_slip other bs) other) bs)
unfolding inner_in
inner_step n other bs long = let e : nat_lt (length bs) (front_of other + 188) ≡ false = search (arith, long) in rw e refl

fuel_place : (n m : ℕ) (other : OtherPackets) (bs : List ℕ) → length bs ≤ suc n → length bs ≤ suc m → (b : Bool) → nat_lt (length bs) (front_of other + 188) ≡ b →
    ((bs : List ℕ) → length bs ≤ n → length bs ≤ m → inner_in n other bs ≡ inner_in m other bs) → inner_in (suc n) other bs ≡ inner_in (suc m) other bs
fuel_place n m other bs some more true is rest =
    let short : length bs < front_of other + 188 = search (arith, is) in inner_short (suc n) other bs short ∙ sym (inner_short (suc m) other bs short)
fuel_place n m other bs some more false is rest =
    let long : front_of other + 188 ≤ length bs = search (arith, is) in
    let size = next_size (next_slip other bs) other in
    let least : 1 ≤ size = next_some (next_slip other bs) other bs refl in
    let one : length (drop size bs) ≤ n = omega (arith, length-drop size bs, some, long, least) in
    let two : length (drop size bs) ≤ m = omega (arith, length-drop size bs, more, long, least) in
    inner_step n other bs long ∙ ap (λ (r : List ℕ). next_bytes (next_slip other bs) other bs ++ r) (rest (drop size bs) one two) ∙ sym (inner_step m other bs long)

same_fuel : (n m : ℕ) (other : OtherPackets) (bs : List ℕ) → length bs ≤ n → length bs ≤ m → inner_in n other bs ≡ inner_in m other bs
same_fuel zero m other bs some more =
    let short : length bs < front_of other + 188 = omega (arith, some) in inner_short zero other bs short ∙ sym (inner_short m other bs short)
same_fuel (suc n) zero other bs some more =
    let short : length bs < front_of other + 188 = omega (arith, more) in inner_short (suc n) other bs short ∙ sym (inner_short zero other bs short)
same_fuel (suc n) (suc m) other bs some more =
    fuel_place n m other bs some more (nat_lt (length bs) (front_of other + 188)) refl (same_fuel n m other)

-- The packet at the front, or bytes that are left out, and then the rest
inner_next : (other : OtherPackets) (bs : List ℕ) → front_of other + 188 ≤ length bs →
    inner_bytes other bs ≡ next_bytes (next_slip other bs) other bs ++ inner_bytes other (drop (next_size (next_slip other bs) other) bs)
inner_next other bs long =
    let size = next_size (next_slip other bs) other in
    same_fuel (length bs) (suc (length bs)) other bs (omega arith) (omega arith) ∙ inner_step (length bs) other bs long
    ∙ ap (λ (r : List ℕ). next_bytes (next_slip other bs) other bs ++ r)
    (same_fuel (length bs) (length (drop size bs)) other (drop size bs) (omega (arith, length-drop size bs)) (omega arith))

-- 2. Whatever bytes follow

-- With enough bytes, or if no bytes follow
abbrev Known : OtherPackets → List ℕ → List ℕ → Type 0
Known other bs more = (front_of other + 6 * size_of other ≤ length bs) ⊎ (more ≡ [])

same_next : (o : Option ℕ) (other : OtherPackets) (bs more : List ℕ) → front_of other + 188 ≤ length bs → next_bytes o other (bs ++ more) ≡ next_bytes o other bs
unfolding next_bytes
same_next None other bs more long =
    let front : front_of other ≤ length bs = omega (arith, long) in
    let fits : front_of other + 188 - front_of other ≤ length (drop (front_of other) bs) = omega (arith, length-drop (front_of other) bs, long) in
    ap (take (front_of other + 188 - front_of other)) (drop-append-le (front_of other) bs more front)
    ∙ take-append-le (front_of other + 188 - front_of other) (drop (front_of other) bs) more fits
same_next (Some size) other bs more long = refl

same_size : (other : OtherPackets) (bs more : List ℕ) → Known other bs more → next_slip other (bs ++ more) ≡ next_slip other bs
same_size other bs more known = slip_front bs more (front_of other) (size_of other) (omega (arith, size_some other)) known

slip_most : (o : Option ℕ) (other : OtherPackets) (bs : List ℕ) → next_slip other bs ≡ o → front_of other + size_of other ≤ length bs → next_size o other ≤ length bs
unfolding next_size
slip_most None other bs e long = omega (arith, long)
slip_most (Some size) other bs e long = omega (arith, slip_within bs (front_of other) (size_of other) size e)

rest_by : (n : ℕ) (bs more : List ℕ) → (n ≤ length bs) ⊎ (more ≡ []) → drop n (bs ++ more) ≡ drop (min n (length bs)) bs ++ more
rest_by n bs more (inl fits) = drop-append-le n bs more fits ∙ ap (λ (r : List ℕ). r ++ more) (sym (drop_min n bs))
rest_by n bs more (inr none) =
    ap (λ (m : List ℕ). drop n (bs ++ m)) none ∙ ap (drop n) (append-nil bs) ∙ sym (drop_min n bs) ∙ sym (append-nil (drop (min n (length bs)) bs))
    ∙ ap (λ (m : List ℕ). drop (min n (length bs)) bs ++ m) (sym none)

fits_by : (other : OtherPackets) (bs more : List ℕ) → Known other bs more → (next_size (next_slip other bs) other ≤ length bs) ⊎ (more ≡ [])
fits_by other bs more (inl long) = inl (slip_most (next_slip other bs) other bs refl (omega (arith, long, size_some other)))
fits_by other bs more (inr none) = inr none

-- One step of a list that goes on
step_front : (other : OtherPackets) (bs more : List ℕ) → front_of other + 188 ≤ length bs → Known other bs more →
    inner_bytes other (bs ++ more) ≡ next_bytes (next_slip other bs) other bs
    ++ inner_bytes other (drop (min (next_size (next_slip other bs) other) (length bs)) bs ++ more)
step_front other bs more long known =
    let all : front_of other + 188 ≤ length (bs ++ more) = omega (arith, long, length-append bs more) in
    inner_next other (bs ++ more) all
    ∙ ap (λ (o : Option ℕ). next_bytes o other (bs ++ more) ++ inner_bytes other (drop (next_size o other) (bs ++ more))) (same_size other bs more known)
    ∙ ap₂ (λ (x y : List ℕ). x ++ inner_bytes other y) (same_next (next_slip other bs) other bs more long)
    (rest_by (next_size (next_slip other bs) other) bs more (fits_by other bs more known))

-- 3. In a loop over the bytes

known_by : (ended : Bool) (other : OtherPackets) (bs more : List ℕ) → decisive other ended ≤ length bs → (ended ≡ true → more ≡ []) → Known other bs more
known_by true other bs more enough none = inr (none refl)
known_by false other bs more enough none = inl enough

next_by : (ended : Bool) (other : OtherPackets) (bs : List ℕ) → decisive other ended ≤ length bs → front_of other + 188 ≤ length bs
next_by true other bs enough = enough
next_by false other bs enough = omega (arith, enough, size_some other)

pub none_found : (other : OtherPackets) (bytes : List ℕ) (ended : Bool) → AreInner (Some other) bytes ended [] 0
none_found other bytes ended = λ more none. refl

pub more_found : (other : OtherPackets) (bytes rest found next : List ℕ) (ended : Bool) (at size step : ℕ) → rest ≡ drop at bytes → decisive other ended ≤ length rest →
    next ≡ next_bytes (next_slip other rest) other rest → size ≡ next_size (next_slip other rest) other →
    step ≡ min size (length rest) → AreInner (Some other) bytes ended found at → AreInner (Some other) bytes ended (found ++ next) (at + step)
unfolding packet_bytes
more_found other bytes rest found next ended at size step is enough bs n s so = λ more none.
    so more none
    ∙ ap (λ (r : List ℕ). found ++ inner_bytes other (r ++ more)) (sym is)
    ∙ ap (λ (r : List ℕ). found ++ r) (step_front other rest more (next_by ended other rest enough) (known_by ended other rest more enough none))
    ∙ ap₂ (λ (x : List ℕ) (k : ℕ). found ++ (x ++ inner_bytes other (drop (min k (length rest)) rest ++ more))) (sym bs) (sym n)
    ∙ ap (λ (k : ℕ). found ++ (next ++ inner_bytes other (drop k rest ++ more))) (sym s)
    ∙ sym (append_assoc found next (inner_bytes other (drop step rest ++ more)))
    ∙ ap (λ (r : List ℕ). (found ++ next) ++ inner_bytes other (r ++ more)) (ap (drop step) is ∙ drop-drop step at bytes)

-- 4. The end

pub last_found : (other : OtherPackets) (bytes last found all : List ℕ) (ended : Bool) (used : ℕ) → ended ≡ true → last ≡ drop used bytes →
    length bytes < used + decisive other ended → all ≡ found ++ drop (front_of other) last → AreInner (Some other) bytes ended found used →
    AreInner (Some other) bytes ended all (length bytes)
unfolding packet_bytes
last_found other bytes last found all false used e is short whole so = absurd cc
last_found other bytes last found all true used e is short whole so = λ more none.
    let few : length (last ++ []) < front_of other + 188 =
    omega (arith, short, ap (length {A = ℕ}) is, length-drop used bytes, length-append last []) in
    let past : drop (length bytes) bytes ≡ [] = drop_all (length bytes) bytes (omega arith) in
    let end : inner_bytes other [] ≡ [] = inner_short 0 other [] (omega arith) ∙ drop_all (front_of other) [] (omega arith) in
    so more none
    ∙ ap₂ (λ (r m : List ℕ). found ++ inner_bytes other (r ++ m)) (sym is) (none refl)
    ∙ ap (λ (r : List ℕ). found ++ r) (inner_short (length (last ++ [])) other (last ++ []) few ∙ ap (drop (front_of other)) (append-nil last))
    ∙ sym whole ∙ sym (append-nil all)
    ∙ ap (λ (r : List ℕ). all ++ r) (sym end)
    ∙ ap₂ (λ (x y : List ℕ). all ++ inner_bytes other (x ++ y)) (sym past) (sym (none refl))
