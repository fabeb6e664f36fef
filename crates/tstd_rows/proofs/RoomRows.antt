-- Bytes that go to the elementary stream buffer, and the times at which it has room for the next bytes
use Rattle.std.proofs.Common.{◌≡◌, ◌∙◌, sym, ℕ, zero, suc, ◌+◌, ◌-◌, ◌*◌, ◌<◌, ◌≤◌, ◌^◌, max, min, List, [], ◌∷◌, ◌++◌, length, replicate, take, drop}
use Rattle.std.proofs.Common.{append_assoc, slice_index_or, refl, ap, ap₂, arith}
use Rattle.std.proofs.lemmas.List.{append-nil, drop-replicate, take-replicate, length-append, length-replicate, replicate-append-replicate}
use Rattle.tstd.specs.declared.buffered_units.BufferedUnit.{BufferedUnit}
use Rattle.clock27.specs.Departure.{last_left}
use Rattle.clock27.proofs.Departures.{last_left-append}
use Rattle.tstd_rows.specs.RoomTimes.{capped, raised, rooms_in, rooms_waiting}
use Rattle.tstd_rows.specs.Rooms.{rooms_now}
use Rattle.tstd_rows.specs.declared.eb_rooms.EbRooms.{EbRooms}
use Rattle.tstd_rows.proofs.Rooms.{raised_after, raised_past}

-- 1. Bytes for which EB has room at the same moment

after_room : (leak w n q : ℕ) → w ≤ q → last_left leak q (replicate n w) ≡ q + n * leak
unfolding last_left
after_room leak w zero q le = omega arith
after_room leak w (suc n) q le = omega (arith, after_room leak w n (max w q + leak) (omega (arith, le)), le)

pub gone_none : (last until leak count : ℕ) → count ≡ 0 → last ≤ 2 ^ 128 - 1 → last ≡ capped (last_left leak last (replicate count until))
unfolding last_left
gone_none last until leak count none fits = rw none (omega (arith, fits))

in_turn : (last until leak n : ℕ) → max last until + leak * suc n ≡ max until last + leak + n * leak
in_turn last until leak n = omega arith

pub gone_some : (last until leak count : ℕ) → 0 < count →
    min (max last until + leak * count) (2 ^ 128 - 1) ≡ capped (last_left leak last (replicate count until))
unfolding last_left
gone_some last until leak zero some = absurd (omega (arith, some))
gone_some last until leak (suc n) some =
    ap (λ (m : ℕ). capped m) (in_turn last until leak n ∙ sym (after_room leak until n (max until last + leak) (omega arith)))

-- If two times are equal once limited to `cap`, the last departures after them are equal once limited.
pub last_stopped : (leak cap p q : ℕ) (ts : List ℕ) → min p cap ≡ min q cap → min (last_left leak p ts) cap ≡ min (last_left leak q ts) cap
unfolding last_left
last_stopped leak cap p q [] h = h
last_stopped leak cap p q (t ∷ ts) h = last_stopped leak cap (max t p + leak) (max t q + leak) ts (omega (arith, h))

-- 2. A unit that is due

none_before : (n : ℕ) (w : ℕ) (xs ys : List ℕ) → replicate n w ++ (xs ++ ys) ≡ replicate n w ++ xs ++ ys
none_before n w xs ys = sym (append_assoc (replicate n w) xs ys)

pub settled : (from now free : ℕ) (unit current : BufferedUnit) (waiting : List BufferedUnit) → now ≤ from → unit.until ≤ now →
    raised from (rooms_in (free + unit.bytes) waiting current) ≡ raised from (rooms_in free (unit ∷ waiting) current)
unfolding rooms_waiting
settled from now free unit current waiting le past =
    let rest : List ℕ = rooms_waiting waiting ++ replicate current.bytes current.until in
    let both : replicate (free + unit.bytes) 0 ++ rest ≡ replicate free 0 ++ (replicate unit.bytes 0 ++ rest) =
    ap (λ (l : List ℕ). l ++ rest) (sym (replicate-append-replicate free unit.bytes 0)) ∙ append_assoc (replicate free 0) (replicate unit.bytes 0) rest in
    let there : replicate unit.bytes unit.until ++ rest ≡ replicate unit.bytes unit.until ++ rooms_waiting waiting ++ replicate current.bytes current.until =
    none_before unit.bytes unit.until (rooms_waiting waiting) (replicate current.bytes current.until) in
    ap (raised from) both
    ∙ raised_after from (replicate unit.bytes 0 ++ rest) (replicate unit.bytes unit.until ++ rest) (replicate free 0)
    (λ a more. raised_past a now unit.until unit.bytes rest (omega (arith, le, more)) past)
    ∙ ap (λ (l : List ℕ). raised from (replicate free 0 ++ l)) there

pub as_many_settled : (free : ℕ) (unit current : BufferedUnit) (waiting : List BufferedUnit) →
    length (rooms_in (free + unit.bytes) waiting current) ≡ length (rooms_in free (unit ∷ waiting) current)
unfolding rooms_waiting
as_many_settled free unit current waiting =
    let rest : List ℕ = rooms_waiting waiting ++ replicate current.bytes current.until in
    let left = length-append (replicate (free + unit.bytes) 0) rest ∙ ap (λ (n : ℕ). n + length rest) (length-replicate (free + unit.bytes) 0) in
    let there = ap (λ (l : List ℕ). length (replicate free 0 ++ l))
    (sym (none_before unit.bytes unit.until (rooms_waiting waiting) (replicate current.bytes current.until))) in
    let right = length-append (replicate free 0) (replicate unit.bytes unit.until ++ rest)
    ∙ ap (λ (n : ℕ). n + length (replicate unit.bytes unit.until ++ rest)) (length-replicate free 0) in
    let more = length-append (replicate unit.bytes unit.until) rest ∙ ap (λ (n : ℕ). n + length rest) (length-replicate unit.bytes unit.until) in
    omega (arith, left, there, right, more)

-- The list of units that wait is its first unit and the rest.
pub front_of : (items : List BufferedUnit) (u : BufferedUnit) → 0 < length items → u ≡ slice_index_or items 0 u → items ≡ u ∷ drop 1 items
front_of [] u some is = absurd (omega (arith, some))
front_of (x ∷ xs) u some is = ap (λ (v : BufferedUnit). v ∷ xs) (sym is)

at_least : (free : ℕ) (waiting : List BufferedUnit) (current : BufferedUnit) → free ≤ length (rooms_in free waiting current)
at_least free waiting current =
    let rest : List ℕ = rooms_waiting waiting ++ replicate current.bytes current.until in
    let len = length-append (replicate free 0) rest ∙ ap (λ (n : ℕ). n + length rest) (length-replicate free 0) in
    omega (arith, len)

-- The unit is added to the bytes for which there is room.
pub joined_fits : (free most : ℕ) (unit current : BufferedUnit) (items : List BufferedUnit) → 0 < length items → unit ≡ slice_index_or items 0 unit →
    length (rooms_in free items current) < most →
    length (rooms_in (free + unit.bytes) (drop 1 items) current) < most
joined_fits free most unit current items some is fits =
    let same = as_many_settled free unit current (drop 1 items)
    ∙ ap (λ (us : List BufferedUnit). length (rooms_in free us current)) (sym (front_of items unit some is)) in
    omega (arith, fits, same)

pub sum_fits : (free most : ℕ) (unit current : BufferedUnit) (items : List BufferedUnit) → 0 < length items → unit ≡ slice_index_or items 0 unit →
    length (rooms_in free items current) < most →
    free + unit.bytes < most
sum_fits free most unit current items some is fits =
    omega (arith, joined_fits free most unit current items some is fits, at_least (free + unit.bytes) (drop 1 items) current)

-- 3. Bytes go, some of a unit or all

pub taken_of : (m n w : ℕ) (xs : List ℕ) → m ≤ n → take m (replicate n w ++ xs) ≡ replicate m w
taken_of zero n w xs le = refl
taken_of (suc m) zero w xs le = absurd (omega (arith, le))
taken_of (suc m) (suc n) w xs le = ap (λ (l : List ℕ). w ∷ l) (taken_of m n w xs (omega (arith, le)))

pub left_of : (m n w : ℕ) (xs : List ℕ) → m ≤ n → drop m (replicate n w ++ xs) ≡ replicate (n - m) w ++ xs
left_of zero n w xs le = let e : n ≡ n - 0 = omega arith in ap (λ (k : ℕ). replicate k w ++ xs) e
left_of (suc m) zero w xs le = absurd (omega (arith, le))
left_of (suc m) (suc n) w xs le =
    let e : n - m ≡ suc n - suc m = omega arith in left_of m n w xs (omega (arith, le)) ∙ ap (λ (k : ℕ). replicate k w ++ xs) e

pub taken_past : (m n w : ℕ) (xs : List ℕ) → n ≤ m → take m (replicate n w ++ xs) ≡ replicate n w ++ take (m - n) xs
taken_past m zero w xs le = let e : m ≡ m - 0 = omega arith in ap (λ (k : ℕ). take k xs) e
taken_past zero (suc n) w xs le = absurd (omega (arith, le))
taken_past (suc m) (suc n) w xs le =
    let e : m - n ≡ suc m - suc n = omega arith in
    ap (λ (l : List ℕ). w ∷ l) (taken_past m n w xs (omega (arith, le)) ∙ ap (λ (k : ℕ). replicate n w ++ take k xs) e)

pub left_past : (m n w : ℕ) (xs : List ℕ) → n ≤ m → drop m (replicate n w ++ xs) ≡ drop (m - n) xs
left_past m zero w xs le = let e : m ≡ m - 0 = omega arith in ap (λ (k : ℕ). drop k xs) e
left_past zero (suc n) w xs le = absurd (omega (arith, le))
left_past (suc m) (suc n) w xs le =
    let e : m - n ≡ suc m - suc n = omega arith in left_past m n w xs (omega (arith, le)) ∙ ap (λ (k : ℕ). drop k xs) e

-- 4. An empty buffer, and bytes for which there is room at once

pub all_free : (size : ℕ) → rooms_in size [] (record { until = 0; bytes = 0 }) ≡ replicate size 0
unfolding rooms_waiting
all_free size = append-nil (replicate size 0)

taken_all : (count free : ℕ) → take {A = ℕ} count (replicate free 0) ≡ replicate (min count free) 0
taken_all zero free = let e : 0 ≡ min 0 free = omega arith in ap (λ (k : ℕ). replicate {A = ℕ} k 0) e
taken_all (suc count) zero = let e : 0 ≡ min (suc count) 0 = omega arith in ap (λ (k : ℕ). replicate {A = ℕ} k 0) e
taken_all (suc count) (suc free) =
    let e : suc (min count free) ≡ min (suc count) (suc free) = omega arith in
    ap (λ (l : List ℕ). 0 ∷ l) (taken_all count free) ∙ ap (λ (k : ℕ). replicate {A = ℕ} k 0) e

pub free_taken : (leak last count free m : ℕ) → m ≡ min count free →
    capped (last_left leak last (replicate m 0)) ≡ capped (last_left leak last (take {A = ℕ} count (replicate free 0)))
free_taken leak last count free m is =
    ap (λ (l : List ℕ). capped (last_left leak last l)) (ap (λ (k : ℕ). replicate {A = ℕ} k 0) is ∙ sym (taken_all count free))

pub fits_free : (size : ℕ) (waiting : List BufferedUnit) → waiting ≡ [] → size < 2 ^ 64 →
    length (rooms_in size waiting (record { until = 0; bytes = 0 })) < 2 ^ 64
fits_free size waiting none fits =
    let len : length (rooms_in size waiting (record { until = 0; bytes = 0 })) ≡ size =
    ap (λ (us : List BufferedUnit). length (rooms_in size us (record { until = 0; bytes = 0 }))) none ∙ ap length (all_free size) ∙ length-replicate size 0 in
    omega (arith, fits, len)

-- 5. Bytes of a unit enter, and as many go: first bytes for which there is room at once, then bytes of the units that wait, then bytes of the unit itself

take_both : (n : ℕ) (xs ys : List ℕ) → take n (xs ++ ys) ≡ take n xs ++ take (n - length xs) ys
take_both zero [] ys = let e : 0 ≡ 0 - 0 = omega arith in ap (λ (k : ℕ). take k ys) e
take_both zero (x ∷ xs) ys = let e : 0 ≡ 0 - suc (length xs) = omega arith in ap (λ (k : ℕ). take k ys) e
take_both (suc n) [] ys = let e : suc n ≡ suc n - 0 = omega arith in ap (λ (k : ℕ). take k ys) e
take_both (suc n) (x ∷ xs) ys =
    let e : n - length xs ≡ suc n - suc (length xs) = omega arith in
    ap (λ (l : List ℕ). x ∷ l) (take_both n xs ys ∙ ap (λ (k : ℕ). take n xs ++ take k ys) e)

drop_both : (n : ℕ) (xs ys : List ℕ) → drop n (xs ++ ys) ≡ drop n xs ++ drop (n - length xs) ys
drop_both zero [] ys = let e : 0 ≡ 0 - 0 = omega arith in ap (λ (k : ℕ). drop k ys) e
drop_both zero (x ∷ xs) ys = let e : 0 ≡ 0 - suc (length xs) = omega arith in ap (λ (k : ℕ). x ∷ (xs ++ drop k ys)) e
drop_both (suc n) [] ys = let e : suc n ≡ suc n - 0 = omega arith in ap (λ (k : ℕ). drop k ys) e
drop_both (suc n) (x ∷ xs) ys =
    let e : n - length xs ≡ suc n - suc (length xs) = omega arith in
    drop_both n xs ys ∙ ap (λ (k : ℕ). drop n xs ++ drop k ys) e

spread : (free b until count : ℕ) (waiting : List ℕ) →
    (replicate free 0 ++ (waiting ++ replicate b until)) ++ replicate count until ≡ replicate free 0 ++ (waiting ++ replicate (b + count) until)
spread free b until count waiting =
    append_assoc (replicate free 0) (waiting ++ replicate b until) (replicate count until)
    ∙ ap (λ (l : List ℕ). replicate free 0 ++ l)
    (append_assoc waiting (replicate b until) (replicate count until) ∙ ap (λ (l : List ℕ). waiting ++ l) (replicate-append-replicate b count until))

pub rooms_gone : (free b until count rest rest' : ℕ) (waiting : List ℕ) → rest ≡ count - free → rest' ≡ rest - length waiting →
    replicate (free - count) 0 ++ (drop rest waiting ++ replicate (b + (count - rest')) until)
    ≡ drop count ((replicate free 0 ++ (waiting ++ replicate b until)) ++ replicate count until)
rooms_gone free b until count rest rest' waiting is is' =
    let own : List ℕ = replicate (b + count) until in
    let left : b + count - rest' ≡ b + (count - rest') = omega (arith, is, is') in
    let len : count - length {A = ℕ} (replicate free 0) ≡ rest = ap (λ (k : ℕ). count - k) (length-replicate {A = ℕ} free 0) ∙ sym is in
    let last : drop rest' own ≡ replicate (b + (count - rest')) until = drop-replicate rest' (b + count) until ∙ ap (λ (k : ℕ). replicate k until) left in
    let inner : drop rest (waiting ++ own) ≡ drop rest waiting ++ replicate (b + (count - rest')) until =
    drop_both rest waiting own ∙ ap (λ (k : ℕ). drop rest waiting ++ drop k own) (sym is') ∙ ap (λ (l : List ℕ). drop rest waiting ++ l) last in
    sym (
    ap (drop count) (spread free b until count waiting)
    ∙ drop_both count (replicate free 0) (waiting ++ own)
    ∙ ap₂ (λ (l : List ℕ) (k : ℕ). l ++ drop k (waiting ++ own)) (drop-replicate count free 0) len
    ∙ ap (λ (l : List ℕ). replicate (free - count) 0 ++ l) inner
    )

-- The last of `count` bytes goes after the bytes with room at once, the bytes of units that wait, and the bytes of the unit itself.
pub last_gone : (leak free b until count rest rest' last last1 last2 last3 : ℕ) (waiting : List ℕ) → rest ≡ count - free → rest' ≡ rest - length waiting →
    last1 ≡ capped (last_left leak last (take {A = ℕ} count (replicate free 0))) → capped last2 ≡ capped (last_left leak last1 (take rest waiting)) →
    last3 ≡ capped (last_left leak last2 (replicate rest' until)) →
    last3 ≡ capped (last_left leak last (take count ((replicate free 0 ++ (waiting ++ replicate b until)) ++ replicate count until)))
last_gone leak free b until count rest rest' last last1 last2 last3 waiting is is' one two three =
    let cap : ℕ = 2 ^ 128 - 1 in
    let own : List ℕ = replicate (b + count) until in
    let firsts : List ℕ = take count (replicate free 0) in
    let len : count - length {A = ℕ} (replicate free 0) ≡ rest = ap (λ (k : ℕ). count - k) (length-replicate {A = ℕ} free 0) ∙ sym is in
    let few : rest' ≤ b + count = omega (arith, is, is') in
    let inner : take rest (waiting ++ own) ≡ take rest waiting ++ replicate rest' until =
    take_both rest waiting own ∙ ap (λ (k : ℕ). take rest waiting ++ take k own) (sym is')
    ∙ ap (λ (l : List ℕ). take rest waiting ++ l) (take-replicate rest' (b + count) until few) in
    let all : take count ((replicate free 0 ++ (waiting ++ replicate b until)) ++ replicate count until) ≡ firsts
    ++ (take rest waiting ++ replicate rest' until) =
    ap (take count) (spread free b until count waiting) ∙ take_both count (replicate free 0) (waiting ++ own)
    ∙ ap (λ (k : ℕ). firsts ++ take k (waiting ++ own)) len ∙ ap (λ (l : List ℕ). firsts ++ l) inner in
    let p : ℕ = last_left leak last firsts in
    let q : ℕ = last_left leak p (take rest waiting) in
    let first : min last1 cap ≡ min p cap = stops_at cap last1 p one in
    let second : min last2 cap ≡ min q cap = two ∙ last_stopped leak cap last1 p (take rest waiting) first in
    three
    ∙ last_stopped leak cap last2 q (replicate rest' until) second
    ∙ ap (λ (m : ℕ). capped m)
    (sym (last_left-append leak p (take rest waiting) (replicate rest' until))
    ∙ sym (last_left-append leak last firsts (take rest waiting ++ replicate rest' until)) ∙ ap (last_left leak last) (sym all))
  where
    stops_at : (cap m n : ℕ) → m ≡ min n cap → min m cap ≡ min n cap
    stops_at cap m n is = omega (arith, is)

pub rooms_after : (old s1 s2 : EbRooms) (free : ℕ) (waiting : List BufferedUnit) (current : BufferedUnit) (count rest rest' : ℕ) → rest ≡ count - old.free →
    s1.free ≡ old.free - count →
    s1.waiting ≡ old.waiting → s1.current ≡ old.current → rest' ≡ rest - length (rooms_waiting s1.waiting.items) →
    rooms_waiting s2.waiting.items ≡ drop rest (rooms_waiting s1.waiting.items) →
    s2.free ≡ s1.free → s2.current ≡ s1.current → free ≡ s2.free → waiting ≡ s2.waiting.items → current.until ≡ s2.current.until →
    current.bytes ≡ s2.current.bytes + (count - rest') →
    rooms_in free waiting current ≡ drop count (rooms_now old ++ replicate count old.current.until)
rooms_after old s1 s2 free waiting current count rest rest' is free1 waiting1 current1 is' waiting2 free2 current2 free3 waiting3 until3 bytes3 =
    let before : rooms_waiting s1.waiting.items ≡ rooms_waiting old.waiting.items = rw waiting1 refl in
    let waits : rooms_waiting waiting ≡ drop rest (rooms_waiting old.waiting.items) = rw waiting3 (waiting2 ∙ ap (drop rest) before) in
    let frees : free ≡ old.free - count = free3 ∙ free2 ∙ free1 in
    let until : current.until ≡ old.current.until = until3 ∙ ap (λ (u : BufferedUnit). u.until) (current2 ∙ current1) in
    let bytes : current.bytes ≡ old.current.bytes + (count - rest') = bytes3 ∙ ap (λ (u : BufferedUnit). u.bytes + (count - rest')) (current2 ∙ current1) in
    ap₂ (λ (f : ℕ) (l : List ℕ). replicate f 0 ++ l) frees
    (ap₂ (λ (l m : List ℕ). l ++ m) waits (ap₂ (λ (b u : ℕ). replicate b u) bytes until))
    ∙ rooms_gone old.free old.current.bytes old.current.until count rest rest' (rooms_waiting old.waiting.items) is
    (is' ∙ ap (λ (l : List ℕ). rest - length l) before)

pub last_after : (old s1 s2 : EbRooms) (leak count rest rest' last until : ℕ) → rest ≡ count - old.free → s1.waiting ≡ old.waiting → s1.current ≡ old.current →
    s1.last ≡ capped (last_left leak old.last (take {A = ℕ} count (replicate old.free 0))) → rest' ≡ rest - length (rooms_waiting s1.waiting.items) →
    s2.current ≡ s1.current →
    capped s2.last ≡ capped (last_left leak s1.last (take rest (rooms_waiting s1.waiting.items))) → until ≡ s2.current.until →
    last ≡ capped (last_left leak s2.last (replicate rest' until)) →
    last ≡ capped (last_left leak old.last (take count (rooms_now old ++ replicate count old.current.until)))
last_after old s1 s2 leak count rest rest' last until is waiting1 current1 last1 is' current2 last2 same last3 =
    let before : rooms_waiting s1.waiting.items ≡ rooms_waiting old.waiting.items = rw waiting1 refl in
    let ends : until ≡ old.current.until = same ∙ ap (λ (u : BufferedUnit). u.until) (current2 ∙ current1) in
    last_gone leak old.free old.current.bytes old.current.until count rest rest' old.last s1.last s2.last last (rooms_waiting old.waiting.items) is
    (is' ∙ ap (λ (l : List ℕ). rest - length l) before) last1
    (last2 ∙ ap (λ (l : List ℕ). capped (last_left leak s1.last (take rest l))) before)
    (last3 ∙ ap (λ (u : ℕ). capped (last_left leak s2.last (replicate rest' u))) ends)
