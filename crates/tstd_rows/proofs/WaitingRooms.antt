-- Bytes that go to EB from the units that wait, one unit after another
use Rattle.std.proofs.Common.{◌≡◌, ◌∙◌, sym, ℕ, zero, suc, ◌+◌, ◌-◌, ◌<◌, ◌≤◌, ◌^◌, min, Bool, true, false, List, [], ◌∷◌, ◌++◌, length, replicate, take, drop}
use Rattle.std.proofs.Common.{slice_index_or, slice_set, refl, ap, ap₂, arith}
use Rattle.std.proofs.lemmas.List.{length-append, length-replicate}
use Rattle.tstd.specs.declared.buffered_units.BufferedUnit.{BufferedUnit}
use Rattle.clock27.specs.Departure.{last_left}
use Rattle.clock27.proofs.Departures.{last_left-append}
use Rattle.tstd_rows.specs.RoomTimes.{capped, rooms_in, rooms_waiting}
use Rattle.tstd_rows.proofs.RoomRows.{last_stopped, left_of, left_past, taken_of, taken_past}

pub count_in : (free : ℕ) (waiting : List BufferedUnit) (current : BufferedUnit) → length (rooms_in free waiting current) ≡ free
    + (length (rooms_waiting waiting) + current.bytes)
count_in free waiting current =
    let own : List ℕ = replicate current.bytes current.until in
    omega (
      arith,
      length-append (replicate free 0) (rooms_waiting waiting ++ own),
      length-replicate {A = ℕ} free 0,
      length-append (rooms_waiting waiting) own,
      length-replicate current.bytes current.until,
    )

first_in : (u : BufferedUnit) (us : List BufferedUnit) → length (rooms_waiting (u ∷ us)) ≡ u.bytes + length (rooms_waiting us)
unfolding rooms_waiting
first_in u us = omega (arith, length-append (replicate u.bytes u.until) (rooms_waiting us), length-replicate u.bytes u.until)

abbrev less : BufferedUnit → ℕ → BufferedUnit
less u m = record { until = u.until; bytes = u.bytes - m }

stopped : (n m : ℕ) → n ≡ capped m → capped n ≡ capped m
stopped n m is = omega (arith, is)

-- Some bytes of the first unit go.
pub less_fits : (free m most : ℕ) (u current : BufferedUnit) (items : List BufferedUnit) → 0 < length items → u ≡ slice_index_or items 0 u →
    length (rooms_in free items current) < most →
    length (rooms_in free (slice_set items 0 (record { until = u.until; bytes = u.bytes - m })) current) < most
less_fits free m most u current [] some is fits = absurd (omega (arith, some))
less_fits free m most u current (x ∷ us) some is fits =
    let same : u.bytes ≡ x.bytes = ap (λ (v : BufferedUnit). v.bytes) is in
    omega (arith, fits, same, count_in free (less u m ∷ us) current, count_in free (x ∷ us) current, first_in (less u m) us, first_in x us)

pub gone_rest : (rest m whole : ℕ) (u : BufferedUnit) (items : List BufferedUnit) → 0 < length items → u ≡ slice_index_or items 0 u → m ≡ min rest u.bytes →
    0 < u.bytes - m →
    rest - length (rooms_waiting items) ≡ whole → 0 ≡ whole
gone_rest rest m whole u [] some is few left h = absurd (omega (arith, some))
gone_rest rest m whole u (x ∷ us) some is few left h =
    let same : u.bytes ≡ x.bytes = ap (λ (v : BufferedUnit). v.bytes) is in
    omega (arith, few, left, h, same, first_in x us)

pub gone_rooms : (rest m : ℕ) (u : BufferedUnit) (items : List BufferedUnit) (whole : List ℕ) → 0 < length items → u ≡ slice_index_or items 0 u →
    m ≡ min rest u.bytes → 0 < u.bytes - m →
    drop rest (rooms_waiting items) ≡ whole → rooms_waiting (slice_set items 0 (record { until = u.until; bytes = u.bytes - m })) ≡ whole
unfolding rooms_waiting
gone_rooms rest m u [] whole some is few left h = absurd (omega (arith, some))
gone_rooms rest m u (x ∷ us) whole some is few left h =
    let same : u.bytes ≡ x.bytes = ap (λ (v : BufferedUnit). v.bytes) is in
    let until : u.until ≡ x.until = ap (λ (v : BufferedUnit). v.until) is in
    let bytes : u.bytes - m ≡ x.bytes - rest = omega (arith, few, left, same) in
    let some_left : rest ≤ x.bytes = omega (arith, few, left, same) in
    ap₂ (λ (b v : ℕ). replicate b v ++ rooms_waiting us) bytes until ∙ sym (left_of rest x.bytes x.until (rooms_waiting us) some_left) ∙ h

pub gone_time : (leak last last' rest m whole : ℕ) (u : BufferedUnit) (items : List BufferedUnit) → 0 < length items → u ≡ slice_index_or items 0 u →
    m ≡ min rest u.bytes → 0 < u.bytes - m →
    last' ≡ capped (last_left leak last (replicate m u.until)) → capped (last_left leak last (take rest (rooms_waiting items))) ≡ whole → capped last' ≡ whole
unfolding rooms_waiting
gone_time leak last last' rest m whole u [] some is few left at h = absurd (omega (arith, some))
gone_time leak last last' rest m whole u (x ∷ us) some is few left at h =
    let same : u.bytes ≡ x.bytes = ap (λ (v : BufferedUnit). v.bytes) is in
    let until : u.until ≡ x.until = ap (λ (v : BufferedUnit). v.until) is in
    let all : m ≡ rest = omega (arith, few, left) in
    let some_left : rest ≤ x.bytes = omega (arith, few, left, same) in
    stopped last' (last_left leak last (replicate m u.until)) at ∙ ap₂ (λ (n v : ℕ). capped (last_left leak last (replicate n v))) all until
    ∙ ap (λ (l : List ℕ). capped (last_left leak last l)) (sym (taken_of rest x.bytes x.until (rooms_waiting us) some_left)) ∙ h

-- All bytes of the first unit go.
pub drop_set : (items : List BufferedUnit) (v : BufferedUnit) → drop 1 (slice_set items 0 v) ≡ drop 1 items
drop_set [] v = refl
drop_set (x ∷ us) v = refl

pub fewer_fits : (free most : ℕ) (u current : BufferedUnit) (items : List BufferedUnit) → 0 < length items → u ≡ slice_index_or items 0 u →
    length (rooms_in free items current) < most →
    length (rooms_in free (drop 1 items) current) < most
fewer_fits free most u current [] some is fits = absurd (omega (arith, some))
fewer_fits free most u current (x ∷ us) some is fits = omega (arith, fits, count_in free us current, count_in free (x ∷ us) current, first_in x us)

pub next_rest : (rest m whole : ℕ) (u : BufferedUnit) (items : List BufferedUnit) → 0 < length items → u ≡ slice_index_or items 0 u → m ≡ min rest u.bytes →
    u.bytes - m ≤ 0 →
    rest - length (rooms_waiting items) ≡ whole → rest - m - length (rooms_waiting (drop 1 items)) ≡ whole
next_rest rest m whole u [] some is few none h = absurd (omega (arith, some))
next_rest rest m whole u (x ∷ us) some is few none h =
    let same : u.bytes ≡ x.bytes = ap (λ (v : BufferedUnit). v.bytes) is in
    omega (arith, few, none, h, same, first_in x us)

pub next_rooms : (rest m : ℕ) (u : BufferedUnit) (items : List BufferedUnit) (whole : List ℕ) → 0 < length items → u ≡ slice_index_or items 0 u →
    m ≡ min rest u.bytes → u.bytes - m ≤ 0 →
    drop rest (rooms_waiting items) ≡ whole → drop (rest - m) (rooms_waiting (drop 1 items)) ≡ whole
unfolding rooms_waiting
next_rooms rest m u [] whole some is few none h = absurd (omega (arith, some))
next_rooms rest m u (x ∷ us) whole some is few none h =
    let same : u.bytes ≡ x.bytes = ap (λ (v : BufferedUnit). v.bytes) is in
    let all : rest - m ≡ rest - x.bytes = omega (arith, few, none, same) in
    let past : x.bytes ≤ rest = omega (arith, few, none, same) in
    ap (λ (k : ℕ). drop k (rooms_waiting us)) all ∙ sym (left_past rest x.bytes x.until (rooms_waiting us) past) ∙ h

pub next_time : (leak last last' rest m whole : ℕ) (u : BufferedUnit) (items : List BufferedUnit) → 0 < length items → u ≡ slice_index_or items 0 u →
    m ≡ min rest u.bytes → u.bytes - m ≤ 0 →
    last' ≡ capped (last_left leak last (replicate m u.until)) → capped (last_left leak last (take rest (rooms_waiting items))) ≡ whole →
    capped (last_left leak last' (take (rest - m) (rooms_waiting (drop 1 items)))) ≡ whole
unfolding rooms_waiting
next_time leak last last' rest m whole u [] some is few none at h = absurd (omega (arith, some))
next_time leak last last' rest m whole u (x ∷ us) some is few none at h =
    let same : u.bytes ≡ x.bytes = ap (λ (v : BufferedUnit). v.bytes) is in
    let until : u.until ≡ x.until = ap (λ (v : BufferedUnit). v.until) is in
    let own : m ≡ x.bytes = omega (arith, few, none, same) in
    let all : rest - m ≡ rest - x.bytes = omega (arith, own) in
    let past : x.bytes ≤ rest = omega (arith, few, none, same) in
    let more : List ℕ = take (rest - x.bytes) (rooms_waiting us) in
    let first : last' ≡ capped (last_left leak last (replicate x.bytes x.until)) =
    at ∙ ap₂ (λ (n v : ℕ). capped (last_left leak last (replicate n v))) own until in
    let stops : min last' (2 ^ 128 - 1) ≡ min (last_left leak last (replicate x.bytes x.until)) (2 ^ 128 - 1) = omega (arith, first) in
    ap (λ (k : ℕ). capped (last_left leak last' (take k (rooms_waiting us)))) all
    ∙ last_stopped leak (2 ^ 128 - 1) last' (last_left leak last (replicate x.bytes x.until)) more stops
    ∙ ap (λ (m : ℕ). capped m)
    (sym (last_left-append leak last (replicate x.bytes x.until) more)
    ∙ ap (last_left leak last) (sym (taken_past rest x.bytes x.until (rooms_waiting us) past)))
    ∙ h

-- No unit waits.
pub none_wait : (items : List BufferedUnit) (n : ℕ) → n ≡ length items → (0 < n → false ≡ true) → items ≡ []
none_wait [] n is h = refl
none_wait (x ∷ us) n is h = absurd (off (h (omega (arith, is))))
  where
    off : false ≡ true → ⊥
    off e = cc

pub end_rest : (rest whole : ℕ) (items : List BufferedUnit) → items ≡ [] → rest - length (rooms_waiting items) ≡ whole → rest ≡ whole
unfolding rooms_waiting
end_rest rest whole items none h = omega (arith, rw none at h)

none_left : (n : ℕ) → drop {A = ℕ} n [] ≡ []
none_left zero = refl
none_left (suc n) = refl

none_taken : (n : ℕ) → take {A = ℕ} n [] ≡ []
none_taken zero = refl
none_taken (suc n) = refl

pub end_rooms : (rest : ℕ) (items : List BufferedUnit) (whole : List ℕ) → items ≡ [] → drop rest (rooms_waiting items) ≡ whole → rooms_waiting items ≡ whole
unfolding rooms_waiting
end_rooms rest [] whole none h = sym (none_left rest) ∙ h
end_rooms rest (x ∷ us) whole none h = absurd cc

pub end_time : (leak last rest whole : ℕ) (items : List BufferedUnit) → items ≡ [] → capped (last_left leak last (take rest (rooms_waiting items))) ≡ whole →
    capped last ≡ whole
unfolding rooms_waiting last_left
end_time leak last rest whole [] none h = ap (λ (l : List ℕ). capped (last_left leak last l)) (sym (none_taken rest)) ∙ h
end_time leak last rest whole (x ∷ us) none h = absurd cc
