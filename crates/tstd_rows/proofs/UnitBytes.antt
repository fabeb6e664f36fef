-- Units and their bytes in a main buffer: one more unit, and more bytes of the last unit
use Rattle.std.proofs.Common.{◌≡◌, ℕ, zero, suc, ◌+◌, List, [], ◌∷◌, ◌++◌, length, take, drop, Option, Some, None, refl, ap, arith}
use Rattle.std.proofs.lemmas.List.{length-append}
use Rattle.unit_timing.specs.MainBuffer.{mb_fullness}
use Rattle.unit_timing.specs.PesPacket.{PesPacket}
use Rattle.unit_timing.proofs.MainBufferBytes.{kept, kept-append}
use Rattle.tstd_rows.specs.ConstantRate.{with_bytes_of_last, with_payload}

-- The bytes of all units
unfoldable pub sizes : List PesPacket → ℕ
sizes [] = 0
sizes (u ∷ units) = u.size + sizes units

-- When the last unit is due
unfoldable pub last_due : List PesPacket → ℕ
last_due [] = 0
last_due (u ∷ []) = u.dts
last_due (u ∷ v ∷ units) = last_due (v ∷ units)

take_whole : (n m : ℕ) (xs ys : List ℕ) → length xs ≡ n + m → take n (xs ++ ys) ≡ take n xs
take_whole zero m xs ys many = refl
take_whole (suc n) m [] ys many = absurd (omega (arith, many))
take_whole (suc n) m (x ∷ xs) ys many = ap (λ (l : List ℕ). x ∷ l) (take_whole n m xs ys (omega (arith, many)))

drop_whole : (n m : ℕ) (xs ys : List ℕ) → length xs ≡ n + m → drop n (xs ++ ys) ≡ drop n xs ++ ys
drop_whole zero m xs ys many = refl
drop_whole (suc n) m [] ys many = absurd (omega (arith, many))
drop_whole (suc n) m (x ∷ xs) ys many = drop_whole n m xs ys (omega (arith, many))

drop_many : (n m : ℕ) (xs : List ℕ) → length xs ≡ n + m → length (drop n xs) ≡ m
drop_many zero m xs many = omega (arith, many)
drop_many (suc n) m [] many = absurd (omega (arith, many))
drop_many (suc n) m (x ∷ xs) many = drop_many n m xs (omega (arith, many))

take_all_of : (n : ℕ) (xs : List ℕ) → length xs ≡ n → take n xs ≡ xs
take_all_of zero [] many = refl
take_all_of zero (x ∷ xs) many = absurd (omega (arith, many))
take_all_of (suc n) [] many = absurd (omega (arith, many))
take_all_of (suc n) (x ∷ xs) many = ap (λ (l : List ℕ). x ∷ l) (take_all_of n xs (omega (arith, many)))

-- One more unit adds its bytes that are in the buffer, and so do more bytes of the last unit.
pub unit_more : (rate r x due : ℕ) (units : List PesPacket) (left ds : List ℕ) → length left ≡ sizes units →
    mb_fullness rate r x (units ++ record { dts = due; size = length ds; front = 0 } ∷ []) (left ++ ds) ≡ mb_fullness rate r x units left + kept rate r x due ds
unfolding mb_fullness kept sizes
unit_more rate r x due [] [] ds many = rw (take_all_of (length ds) ds refl) (omega arith)
unit_more rate r x due [] (d ∷ left) ds many = absurd (omega (arith, many))
unit_more rate r x due (u ∷ units) left ds many =
    rw (take_whole u.size (sizes units) left ds many, drop_whole u.size (sizes units) left ds many)
    (omega (arith, unit_more rate r x due units (drop u.size left) ds (drop_many u.size (sizes units) left many)))

pub bytes_more : (rate r x : ℕ) (units : List PesPacket) (left ds : List ℕ) → length left ≡ sizes units →
    mb_fullness rate r x (with_bytes_of_last (length ds) units) (left ++ ds) ≡ mb_fullness rate r x units left + kept rate r x (last_due units) ds
unfolding mb_fullness sizes with_bytes_of_last last_due kept
bytes_more rate r x [] [] ds many = rw (take_all_of (length ds) ds refl) (omega arith)
bytes_more rate r x [] (d ∷ left) ds many = absurd (omega (arith, many))
bytes_more rate r x (u ∷ []) left ds many =
    let all : length (left ++ ds) ≡ u.size + length ds = omega (arith, length-append left ds, many) in
    let own : length left ≡ u.size = omega (arith, many) in
    rw (take_all_of (u.size + length ds) (left ++ ds) all, take_all_of u.size left own) (omega (arith, kept-append rate r x u.dts left ds))
bytes_more rate r x (u ∷ v ∷ units) left ds many =
    rw (take_whole u.size (sizes (v ∷ units)) left ds many, drop_whole u.size (sizes (v ∷ units)) left ds many)
    (omega (arith, bytes_more rate r x (v ∷ units) (drop u.size left) ds (drop_many u.size (sizes (v ∷ units)) left many)))

pub sizes_more : (due size : ℕ) (units : List PesPacket) → sizes (units ++ record { dts = due; size = size; front = 0 } ∷ []) ≡ sizes units + size
unfolding sizes
sizes_more due size [] = omega arith
sizes_more due size (u ∷ units) = omega (arith, sizes_more due size units)

pub sizes_last : (size : ℕ) (units : List PesPacket) → sizes (with_bytes_of_last size units) ≡ sizes units + size
unfolding sizes with_bytes_of_last
sizes_last size [] = omega arith
sizes_last size (u ∷ []) = omega arith
sizes_last size (u ∷ v ∷ units) = omega (arith, sizes_last size (v ∷ units))

pub sizes_with : (begins : Option ℕ) (size : ℕ) (units : List PesPacket) → sizes (with_payload begins size units) ≡ sizes units + size
unfolding with_payload
sizes_with None size units = sizes_last size units
sizes_with (Some due) size units = sizes_more due size units

pub due_more : (due size : ℕ) (units : List PesPacket) → last_due (units ++ record { dts = due; size = size; front = 0 } ∷ []) ≡ due
unfolding last_due
due_more due size [] = refl
due_more due size (u ∷ []) = refl
due_more due size (u ∷ v ∷ units) = due_more due size (v ∷ units)

pub due_last : (size : ℕ) (units : List PesPacket) → last_due (with_bytes_of_last size units) ≡ last_due units
unfolding last_due with_bytes_of_last
due_last size [] = refl
due_last size (u ∷ []) = refl
due_last size (u ∷ v ∷ []) = refl
due_last size (u ∷ v ∷ w ∷ units) = due_last size (v ∷ w ∷ units)
