-- The current unit waits: joined to the last unit that waits, or after it
use Rattle.std.proofs.Common.{◌≡◌, ◌∙◌, sym, ℕ, zero, suc, ◌+◌, ◌-◌, ◌<◌, ◌≤◌, Bool, true, false, if◌then◌else◌, List, [], ◌∷◌, ◌++◌, length, replicate, take}
use Rattle.std.proofs.Common.{append_assoc, slice_index_or, slice_set, refl, ap, ap₂, arith}
use Rattle.std.proofs.lemmas.List.{append-nil, length-append, length-replicate, replicate-append-replicate}
use Rattle.tstd.specs.declared.buffered_units.BufferedUnit.{BufferedUnit}
use Rattle.tstd_rows.specs.RoomTimes.{raised, rooms_in, rooms_waiting}
use Rattle.tstd_rows.proofs.Rooms.{raised_after, raised_joined}
use Rattle.tstd_rows.proofs.WaitingRooms.{count_in}

-- 1. Lists of units

no_more : (us : List BufferedUnit) → length us ≡ 0 → us ≡ []
no_more [] none = refl
no_more (x ∷ us) none = absurd (omega (arith, none))

ends_in : (items : List BufferedUnit) (i : ℕ) (u : BufferedUnit) → i + 1 ≡ length items → u ≡ slice_index_or items i u → items ≡ take i items ++ u ∷ []
ends_in [] i u len is = absurd (omega (arith, len))
ends_in (x ∷ us) zero u len is = ap₂ (λ (v : BufferedUnit) (vs : List BufferedUnit). v ∷ vs) (sym is) (no_more us (omega (arith, len)))
ends_in (x ∷ us) (suc i) u len is = ap (λ (vs : List BufferedUnit). x ∷ vs) (ends_in us i u (omega (arith, len)) is)

last_set : (items : List BufferedUnit) (i : ℕ) (v : BufferedUnit) → i + 1 ≡ length items → slice_set items i v ≡ take i items ++ v ∷ []
last_set [] i v len = absurd (omega (arith, len))
last_set (x ∷ us) zero v len = ap (λ (vs : List BufferedUnit). v ∷ vs) (no_more us (omega (arith, len)))
last_set (x ∷ us) (suc i) v len = ap (λ (vs : List BufferedUnit). x ∷ vs) (last_set us i v (omega (arith, len)))

-- A unit that is written back unchanged leaves the list unchanged.
pub same_set : (items : List BufferedUnit) (n : ℕ) (u : BufferedUnit) → n ≡ length items → 0 < length items → u ≡ slice_index_or items (n - 1) u →
    slice_set items (n - 1) u ≡ items
same_set items n u is some last =
    let len : n - 1 + 1 ≡ length items = omega (arith, is, some) in
    last_set items (n - 1) u len ∙ sym (ends_in items (n - 1) u len last)

waiting_append : (us vs : List BufferedUnit) → rooms_waiting (us ++ vs) ≡ rooms_waiting us ++ rooms_waiting vs
unfolding rooms_waiting
waiting_append [] vs = refl
waiting_append (u ∷ us) vs =
    ap (λ (l : List ℕ). replicate u.bytes u.until ++ l) (waiting_append us vs)
    ∙ sym (append_assoc (replicate u.bytes u.until) (rooms_waiting us) (rooms_waiting vs))

only_one : (u : BufferedUnit) → rooms_waiting (u ∷ []) ≡ replicate u.bytes u.until
unfolding rooms_waiting
only_one u = append-nil (replicate u.bytes u.until)

in_order : (f w x y : List ℕ) → f ++ ((w ++ x) ++ y) ≡ (f ++ w) ++ (x ++ y)
in_order f w x y = ap (λ (l : List ℕ). f ++ l) (append_assoc w x y) ∙ sym (append_assoc f w (x ++ y))

-- The rooms of the last unit that waits come just before the rooms of the current unit.
split_last : (free : ℕ) (front : List BufferedUnit) (u current : BufferedUnit) →
    rooms_in free (front ++ u ∷ []) current ≡ (replicate free 0 ++ rooms_waiting front) ++ (replicate u.bytes u.until ++ replicate current.bytes current.until)
split_last free front u current =
    ap (λ (l : List ℕ). replicate free 0 ++ (l ++ replicate current.bytes current.until))
    (waiting_append front (u ∷ []) ∙ ap (λ (l : List ℕ). rooms_waiting front ++ l) (only_one u))
    ∙ in_order (replicate free 0) (rooms_waiting front) (replicate u.bytes u.until) (replicate current.bytes current.until)

abbrev more : BufferedUnit → ℕ → BufferedUnit
more u n = record { until = u.until; bytes = u.bytes + n }

abbrev emptied : BufferedUnit → BufferedUnit
emptied current = record { until = current.until; bytes = 0 }

-- 2. The current unit is joined to the last unit that waits

joins_last : (from free : ℕ) (front : List BufferedUnit) (u current : BufferedUnit) → current.until ≤ u.until → 0 < u.bytes →
    raised from (rooms_in free (front ++ more u current.bytes ∷ []) (emptied current)) ≡ raised from (rooms_in free (front ++ u ∷ []) current)
joins_last from free front u current low some =
    let before : List ℕ = replicate free 0 ++ rooms_waiting front in
    let own : List ℕ = replicate u.bytes u.until in
    let high : List ℕ = replicate current.bytes u.until in
    let lower : List ℕ = replicate current.bytes current.until in
    let all : replicate (u.bytes + current.bytes) u.until ++ [] ≡ own ++ (high ++ []) =
    ap (λ (l : List ℕ). l ++ []) (sym (replicate-append-replicate u.bytes current.bytes u.until)) ∙ append_assoc own high [] in
    ap (raised from) (split_last free front (more u current.bytes) (emptied current) ∙ ap (λ (l : List ℕ). before ++ l) all)
    ∙ raised_after from (own ++ (high ++ [])) (own ++ (lower ++ [])) before (λ a le. raised_joined a u.until current.until u.bytes current.bytes [] low some)
    ∙ ap (raised from) (ap (λ (l : List ℕ). before ++ (own ++ l)) (append-nil lower) ∙ sym (split_last free front u current))

count_last : (front : List BufferedUnit) (u : BufferedUnit) → length (rooms_waiting (front ++ u ∷ [])) ≡ length (rooms_waiting front) + u.bytes
count_last front u =
    ap length (waiting_append front (u ∷ [])) ∙ length-append (rooms_waiting front) (rooms_waiting (u ∷ []))
    ∙ ap (λ (n : ℕ). length (rooms_waiting front) + n) (ap length (only_one u) ∙ length-replicate u.bytes u.until)

as_many_joined : (free : ℕ) (front : List BufferedUnit) (u current : BufferedUnit) →
    length (rooms_in free (front ++ more u current.bytes ∷ []) (emptied current)) ≡ length (rooms_in free (front ++ u ∷ []) current)
as_many_joined free front u current =
    omega (
      arith,
      count_in free (front ++ more u current.bytes ∷ []) (emptied current),
      count_in free (front ++ u ∷ []) current,
      count_last front (more u current.bytes),
      count_last front u,
    )

pub joins_rooms : (from free n : ℕ) (items : List BufferedUnit) (u current : BufferedUnit) → n ≡ length items → 0 < length items →
    u ≡ slice_index_or items (n - 1) u → current.until ≤ u.until → 0 < u.bytes →
    raised from (rooms_in free (slice_set items (n - 1) (more u current.bytes)) (emptied current))
    ≡ raised from (rooms_in free items current)
joins_rooms from free n items u current is some last low bytes =
    let len : n - 1 + 1 ≡ length items = omega (arith, is, some) in
    ap (λ (us : List BufferedUnit). raised from (rooms_in free us (emptied current))) (last_set items (n - 1) (more u current.bytes) len)
    ∙ joins_last from free (take (n - 1) items) u current low bytes
    ∙ ap (λ (us : List BufferedUnit). raised from (rooms_in free us current)) (sym (ends_in items (n - 1) u len last))

pub joins_many : (free n : ℕ) (items : List BufferedUnit) (u current : BufferedUnit) → n ≡ length items → 0 < length items →
    u ≡ slice_index_or items (n - 1) u →
    length (rooms_in free (slice_set items (n - 1) (more u current.bytes)) (emptied current))
    ≡ length (rooms_in free items current)
joins_many free n items u current is some last =
    let len : n - 1 + 1 ≡ length items = omega (arith, is, some) in
    ap (λ (us : List BufferedUnit). length (rooms_in free us (emptied current))) (last_set items (n - 1) (more u current.bytes) len)
    ∙ as_many_joined free (take (n - 1) items) u current
    ∙ ap (λ (us : List BufferedUnit). length (rooms_in free us current)) (sym (ends_in items (n - 1) u len last))

pub joins_fits : (free n most : ℕ) (items : List BufferedUnit) (u current : BufferedUnit) → n ≡ length items → 0 < length items →
    u ≡ slice_index_or items (n - 1) u →
    length (rooms_in free items current) < most →
    length (rooms_in free (slice_set items (n - 1) (more u current.bytes)) (emptied current)) < most
joins_fits free n most items u current is some last fits = omega (arith, fits, joins_many free n items u current is some last)

pub both_fit : (free n most : ℕ) (items : List BufferedUnit) (u current : BufferedUnit) → n ≡ length items → 0 < length items →
    u ≡ slice_index_or items (n - 1) u →
    length (rooms_in free items current) < most → u.bytes + current.bytes < most
both_fit free n most items u current is some last fits =
    let len : n - 1 + 1 ≡ length items = omega (arith, is, some) in
    let all = ap (λ (us : List BufferedUnit). length (rooms_waiting us)) (ends_in items (n - 1) u len last) in
    omega (arith, fits, count_in free items current, all, count_last (take (n - 1) items) u)

-- 3. The current unit is added after the units that wait

last_rooms : (free : ℕ) (items : List BufferedUnit) (current : BufferedUnit) →
    rooms_in free (items ++ current ∷ []) (emptied current) ≡ rooms_in free items current
last_rooms free items current =
    split_last free items current (emptied current)
    ∙ append_assoc (replicate free 0) (rooms_waiting items) (replicate current.bytes current.until ++ [])
    ∙ ap (λ (l : List ℕ). replicate free 0 ++ (rooms_waiting items ++ l)) (append-nil (replicate current.bytes current.until))

pub after_them : (free : ℕ) (items items' : List BufferedUnit) (current : BufferedUnit) → items' ≡ items ++ current ∷ [] →
    rooms_in free items' (emptied current) ≡ rooms_in free items current
after_them free items items' current is = ap (λ (us : List BufferedUnit). rooms_in free us (emptied current)) is ∙ last_rooms free items current

-- If memory has run out, the bytes of the current unit are dropped.
pub last_fits : (free most : ℕ) (items items' : List BufferedUnit) (current : BufferedUnit) (done : Bool) →
    items' ≡ (if done then items ++ current ∷ [] else items) →
    length (rooms_in free items current) < most → length (rooms_in free items' (emptied current)) < most
last_fits free most items items' current true is fits =
    let same = ap (λ (us : List BufferedUnit). length (rooms_in free us (emptied current))) is ∙ ap length (last_rooms free items current) in
    omega (arith, fits, same)
last_fits free most items items' current false is fits =
    let same = ap (λ (us : List BufferedUnit). length (rooms_in free us (emptied current))) is in
    omega (arith, fits, same, count_in free items (emptied current), count_in free items current)

-- A current unit without bytes adds nothing.
pub none_comes : (free : ℕ) (items items' : List BufferedUnit) (current : BufferedUnit) → items' ≡ items → current.bytes ≤ 0 →
    rooms_in free items' (emptied current) ≡ rooms_in free items current
none_comes free items items' current is none =
    let same : 0 ≡ current.bytes = omega (arith, none) in
    ap₂ (λ (us : List BufferedUnit) (n : ℕ). replicate free 0 ++ (rooms_waiting us ++ replicate n current.until)) is same
