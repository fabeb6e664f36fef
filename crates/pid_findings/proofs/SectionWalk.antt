-- A walk over the sections of a payload, one section at a time.
use Rattle.std.proofs.Common.{◌≡◌, ℕ, zero, suc, ◌-◌, ◌<◌, ◌==◌, Bool, true, false, cond, List, [], ◌∷◌, length, drop, Option, Some, None, refl, sym, ap, ◌∙◌}
use Rattle.std.proofs.Common.{arith}
use Rattle.psi_tables.specs.declared.error.SectionError.TheVariants as section_errors
use Rattle.pid_findings.specs.Views.{WhatView, IsBadSection, Found}
use Rattle.pid_findings.specs.OpenUnits.{decided, about_within, section, is_stuffing, taken_by, sections_in, last_in}
use Rattle.pid_findings.specs.declared.open_unit.UnitKind.TheVariants as unit_kinds

what_is : (x y : WhatView) → ◌≡◌ {A = Option WhatView} (Some x) (Some y) → x ≡ y
what_is x y e = cc

-- One byte is skipped.
skip_one : (n b : ℕ) (bytes : List ℕ) → 0 < n → drop n (b ∷ bytes) ≡ drop (n - 1) bytes
skip_one zero b bytes h = absurd (omega arith)
skip_one (suc n) b bytes h = let e : suc n - 1 ≡ n = omega arith in rw e refl

taken_some : (b : ℕ) (bytes : List ℕ) (w : WhatView) → 0 < taken_by (b ∷ bytes) w
unfolding taken_by
taken_some b bytes (IsBadSection section_errors.Length) = omega arith
taken_some b bytes w = omega arith

skip_found : (packet k : ℕ) (bytes : List ℕ) → sections_in packet k bytes ≡ sections_in packet 0 (drop k bytes)
unfolding sections_in
skip_found packet zero [] = refl
skip_found packet (suc k) [] = refl
skip_found packet zero (b ∷ bytes) = refl
skip_found packet (suc k) (b ∷ bytes) = skip_found packet k bytes

skip_last : (k : ℕ) (bytes : List ℕ) → last_in k bytes ≡ last_in 0 (drop k bytes)
unfolding last_in
skip_last zero [] = refl
skip_last (suc k) [] = refl
skip_last zero (b ∷ bytes) = refl
skip_last (suc k) (b ∷ bytes) = skip_last k bytes

found_by : (packet b : ℕ) (bytes : List ℕ) (t : Bool) (d : Option WhatView) (w : WhatView) → t ≡ false → d ≡ Some w →
    cond t [] (elim d as (λ x. List Found)
    [ None ↦ [] | Some what ↦ about_within (section packet (b ∷ bytes)) what ∷ sections_in packet (taken_by (b ∷ bytes) what - 1) bytes ])
    ≡ about_within (section packet (b ∷ bytes)) w ∷ sections_in packet (taken_by (b ∷ bytes) w - 1) bytes
found_by packet b bytes true d w e f = absurd cc
found_by packet b bytes false None w e f = absurd cc
found_by packet b bytes false (Some what) w e f =
    ap (λ (x : WhatView). about_within (section packet (b ∷ bytes)) x ∷ sections_in packet (taken_by (b ∷ bytes) x - 1) bytes) (what_is what w f)

last_by : (b : ℕ) (bytes : List ℕ) (t : Bool) (d : Option WhatView) (w : WhatView) → t ≡ false → d ≡ Some w →
    cond t None (elim d as (λ x. Option (List ℕ)) [ None ↦ Some (b ∷ bytes) | Some what ↦ last_in (taken_by (b ∷ bytes) what - 1) bytes ])
    ≡ last_in (taken_by (b ∷ bytes) w - 1) bytes
last_by b bytes true d w e f = absurd cc
last_by b bytes false None w e f = absurd cc
last_by b bytes false (Some what) w e f = ap (λ (x : WhatView). last_in (taken_by (b ∷ bytes) x - 1) bytes) (what_is what w f)

none_by : (packet b : ℕ) (bytes : List ℕ) (t : Bool) (d : Option WhatView) → d ≡ None →
    cond t [] (elim d as (λ x. List Found)
    [ None ↦ [] | Some what ↦ about_within (section packet (b ∷ bytes)) what ∷ sections_in packet (taken_by (b ∷ bytes) what - 1) bytes ]) ≡ []
none_by packet b bytes true d e = refl
none_by packet b bytes false None e = refl
none_by packet b bytes false (Some what) e = absurd cc

rest_by : (b : ℕ) (bytes : List ℕ) (t : Bool) (d : Option WhatView) → t ≡ false → d ≡ None →
    cond t None (elim d as (λ x. Option (List ℕ)) [ None ↦ Some (b ∷ bytes) | Some what ↦ last_in (taken_by (b ∷ bytes) what - 1) bytes ]) ≡ Some (b ∷ bytes)
rest_by b bytes true d f e = absurd cc
rest_by b bytes false None f e = refl
rest_by b bytes false (Some what) f e = absurd cc

-- No section is at the front.
pub fill_found : (packet : ℕ) (bytes : List ℕ) → is_stuffing bytes ≡ true → sections_in packet 0 bytes ≡ []
unfolding sections_in
fill_found packet [] f = refl
fill_found packet (b ∷ bytes) f = rw f refl

pub fill_last : (bytes : List ℕ) → is_stuffing bytes ≡ true → last_in 0 bytes ≡ None
unfolding last_in
fill_last [] f = refl
fill_last (b ∷ bytes) f = rw f refl

pub some_left : (bytes : List ℕ) → is_stuffing bytes ≡ false → 0 < length bytes
some_left [] f = absurd cc
some_left (b ∷ bytes) f = omega arith

-- The section at the front is undecided.
pub cut_found : (packet : ℕ) (bytes : List ℕ) → decided unit_kinds.Section bytes ≡ None → sections_in packet 0 bytes ≡ []
unfolding sections_in
cut_found packet [] d = refl
cut_found packet (b ∷ bytes) d = none_by packet b bytes (b == 0xFF) (decided unit_kinds.Section (b ∷ bytes)) d

pub cut_last : (bytes : List ℕ) → is_stuffing bytes ≡ false → decided unit_kinds.Section bytes ≡ None → last_in 0 bytes ≡ Some bytes
unfolding last_in
cut_last [] f d = absurd cc
cut_last (b ∷ bytes) f d = rest_by b bytes (b == 0xFF) (decided unit_kinds.Section (b ∷ bytes)) f d

-- The section at the front is decided, and the walk continues after it.
pub more_found : (packet : ℕ) (bytes : List ℕ) (w : WhatView) → is_stuffing bytes ≡ false → decided unit_kinds.Section bytes ≡ Some w →
    sections_in packet 0 bytes ≡ about_within (section packet bytes) w ∷ sections_in packet 0 (drop (taken_by bytes w) bytes)
unfolding sections_in
more_found packet [] w f d = absurd cc
more_found packet (b ∷ bytes) w f d =
    let n = taken_by (b ∷ bytes) w in
    found_by packet b bytes (b == 0xFF) (decided unit_kinds.Section (b ∷ bytes)) w f d
    ∙ ap (λ (xs : List Found). about_within (section packet (b ∷ bytes)) w ∷ xs)
    (skip_found packet (n - 1) bytes ∙ ap (λ (x : List ℕ). sections_in packet 0 x) (sym (skip_one n b bytes (taken_some b bytes w))))

pub more_last : (bytes : List ℕ) (w : WhatView) → is_stuffing bytes ≡ false → decided unit_kinds.Section bytes ≡ Some w →
    last_in 0 bytes ≡ last_in 0 (drop (taken_by bytes w) bytes)
unfolding last_in
more_last [] w f d = absurd cc
more_last (b ∷ bytes) w f d =
    let n = taken_by (b ∷ bytes) w in
    last_by b bytes (b == 0xFF) (decided unit_kinds.Section (b ∷ bytes)) w f d
    ∙ skip_last (n - 1) bytes ∙ ap (λ (x : List ℕ). last_in 0 x) (sym (skip_one n b bytes (taken_some b bytes w)))
