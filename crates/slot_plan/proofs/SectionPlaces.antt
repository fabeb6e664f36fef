-- The places of sections in a round whose second half is as its first.
use Rattle.std.proofs.Common.{◌≡◌, ℕ, zero, suc, ◌+◌, ◌-◌, ◌*◌, ◌/◌, ◌%◌, ◌<◌, ◌≤◌, Bool, true, List, [], ◌∷◌, ◌++◌, length, get_or, take, ap, sym, ◌∙◌, inl, inr, arith}
use Rattle.std.specs.Prelude.{sum_by, slice_index_or}
use Rattle.std.proofs.Math.Nat.{add-mod_right, mod-add-div', mod-eq_of_lt, mul-le-mul_right}
use Rattle.std.proofs.lemmas.Nat.{mod_below}
use Rattle.std.proofs.lemmas.Bool.{cases_Bool, cases_lt, eqb-true}
use Rattle.std.proofs.lemmas.List.{get_or-append-add, get_or_append_left, length-append, take-append-le}
use Rattle.std.proofs.lemmas.List.Sums.{sum_by-append, sum_by-take-le, sum_by_more}
use Rattle.own_slots.specs.Slots.{own_before}
use Rattle.own_slots.specs.Rounds.{starts}
use Rattle.own_slots.specs.Extremes.{greatest}
use Rattle.own_slots.proofs.Extremes.{at_most_greatest}
use Rattle.description_parts.specs.Tables.{packets_of_section}

-- Section number j of the round is section number j % n of the half, `turn` halves later.
record Half (es : List ℕ) (j : ℕ) : Type 0 where
  turn : ℕ
  before : sum_by packets_of_section (take j (es ++ es)) ≡ sum_by packets_of_section (take (j % length es) es) + turn * sum_by packets_of_section es
  same : get_or (es ++ es) j 0 ≡ get_or es (j % length es) 0

take_past : (xs ys : List ℕ) (q : ℕ) → take (q + length xs) (xs ++ ys) ≡ xs ++ take q ys
take_past [] ys q = let e : q + zero ≡ q = omega arith in ap (λ (n : ℕ). take n ys) e
take_past (x ∷ xs) ys q = let e : q + suc (length xs) ≡ suc (q + length xs) = omega arith in
    ap (λ (n : ℕ). take n (x ∷ (xs ++ ys))) e ∙ ap (λ (zs : List ℕ). x ∷ zs) (take_past xs ys q)

half_at : (es : List ℕ) (j : ℕ) → j < length (es ++ es) → Half es j
half_at es j lt = elim (cases_lt j (length es)) [
  | inl early ↦ let e : j % length es ≡ j = mod-eq_of_lt early in record {
    turn = 0;
    before = ap (sum_by packets_of_section) (take-append-le j es es (omega (arith, early))) ∙ rw e (omega arith);
    same = get_or_append_left es es 0 j early ∙ ap (λ (i : ℕ). get_or es i 0) (sym e);
  }
  | inr late ↦ second (j - length es) (omega (arith, late)) (omega (arith, late, lt, length-append es es))
]
  where
    second : (q : ℕ) → q + length es ≡ j → q < length es → Half es j
    second q e few =
        let m : j % length es ≡ q = ap (λ (i : ℕ). i % length es) (sym e) ∙ add-mod_right q (length es) ∙ mod-eq_of_lt few in
        let f : length es + q ≡ j = omega (arith, e) in
        record {
          turn = 1;
          before = ap (λ (i : ℕ). sum_by packets_of_section (take i (es ++ es))) (sym e) ∙ ap (sum_by packets_of_section) (take_past es es q)
              ∙ sum_by-append packets_of_section es (take q es) ∙ rw m (omega arith);
          same = ap (λ (i : ℕ). get_or (es ++ es) i 0) (sym f) ∙ get_or-append-add es es q 0 ∙ ap (λ (i : ℕ). get_or es i 0) (sym m);
        }

-- A section of a sub-table ends at place i, and a later one begins at place b.
turns_on : (u v half before own i b : ℕ) → i + 1 ≡ before + own + u * half → b ≡ before + v * half → i < b → 1 ≤ own → own ≤ half → i + (half + 1 - own) ≤ b
turns_on u v half before own i b e f lt some fits = elim (cases_lt u v) [
  | inl more ↦ omega (arith, e, f, fits, mul-le-mul_right half more)
  | inr less ↦ absurd (omega (arith, e, f, lt, some, mul-le-mul_right half less))
]

in_rounds : (k i place : ℕ) → i % k ≡ place → i ≡ place + i / k * k
in_rounds k i place e = sym (mod-add-div' i k) ∙ ap (λ (p : ℕ). p + i / k * k) e

least_places : (half own before u v round most q r i b here first second : ℕ) → round ≡ half + half → i ≡ first + here - 1 + q * round → b ≡ second + r * round →
    here ≡ own → first ≡ before + u * half → second ≡ before + v * half → i < b → 1 ≤ own → own ≤ half → own ≤ most → i + suc (round / 2 - most) ≤ b
least_places half own before u v round most q r i b here first second twice ends begins is at_first at_second later some fits longest =
    let qs : q * round ≡ (q + q) * half = ap (λ (n : ℕ). q * n) twice ∙ omega arith in
    let rs : r * round ≡ (r + r) * half = ap (λ (n : ℕ). r * n) twice ∙ omega arith in
    let e : i + 1 ≡ before + own + (u + (q + q)) * half = omega (arith, ends, qs, is, at_first, some) in
    let f : b ≡ before + (v + (r + r)) * half = omega (arith, begins, rs, at_second) in
    omega (arith, twice, longest, turns_on (u + (q + q)) (v + (r + r)) half before own i b e f later some fits)

pub halves_apart : (es ls : List ℕ) (j next i b : ℕ) → ls ≡ es ++ es → j < length ls → next < length ls → j % length es ≡ next % length es →
    i % sum_by packets_of_section ls ≡ sum_by packets_of_section (take j ls) + packets_of_section (slice_index_or ls j 0) - 1 →
    b % sum_by packets_of_section ls ≡ sum_by packets_of_section (take next ls) → i < b →
    i + suc (sum_by packets_of_section ls / 2 - greatest (length ls) (λ m. packets_of_section (slice_index_or ls m 0))) ≤ b
halves_apart es ls j next i b is lt next_lt same ends begins later =
    let h : Half es j = half_at es j (rw is at lt) in
    let g : Half es next = half_at es next (rw is at next_lt) in
    let half : ℕ = sum_by packets_of_section es in
    let own : ℕ = packets_of_section (get_or es (j % length es) 0) in
    let before : ℕ = sum_by packets_of_section (take (j % length es) es) in
    let round : sum_by packets_of_section ls ≡ half + half = ap (sum_by packets_of_section) is ∙ sum_by-append packets_of_section es es in
    let here : packets_of_section (slice_index_or ls j 0) ≡ own = ap (λ (xs : List ℕ). packets_of_section (get_or xs j 0)) is ∙ ap packets_of_section h.same in
    let first : sum_by packets_of_section (take j ls) ≡ before + h.turn * half =
    ap (λ (xs : List ℕ). sum_by packets_of_section (take j xs)) is ∙ h.before in
    let second : sum_by packets_of_section (take next ls) ≡ before + g.turn * half =
    ap (λ (xs : List ℕ). sum_by packets_of_section (take next xs)) is ∙ g.before
    ∙ ap (λ (m : ℕ). sum_by packets_of_section (take m es) + g.turn * half) (sym same) in
    let few : j % length es < length es = mod_below j (length es) (some_sections es j (rw is at lt)) in
    let fits : own ≤ half = omega (arith, sum_by_more packets_of_section es (j % length es) 0 few, sum_by-take-le packets_of_section es (j % length es + 1)) in
    let one : 1 ≤ own = omega arith in
    let most : own ≤ greatest (length ls) (λ m. packets_of_section (slice_index_or ls m 0)) =
    omega (arith, here, at_most_greatest (length ls) (λ m. packets_of_section (slice_index_or ls m 0)) j lt) in
    least_places half own before h.turn g.turn (sum_by packets_of_section ls) (greatest (length ls) (λ m. packets_of_section (slice_index_or ls m 0)))
    (i / sum_by packets_of_section ls) (b / sum_by packets_of_section ls) i b (packets_of_section (slice_index_or ls j 0))
    (sum_by packets_of_section (take j ls)) (sum_by packets_of_section (take next ls)) round
    (in_rounds (sum_by packets_of_section ls) i _ ends) (in_rounds (sum_by packets_of_section ls) b _ begins) here first second later one fits most
  where
    some_sections : (xs : List ℕ) (n : ℕ) → n < length (xs ++ xs) → 0 < length xs
    some_sections xs n lt = omega (arith, lt, length-append xs xs)

-- A slot that is a place of a round is an own slot, and its number says the place.
pub starts_at : (own : ℕ → Bool) (k place s : ℕ) → starts own k place s ≡ true → (own s ≡ true) × (own_before own s % k ≡ place)
starts_at own k place s e = elim (cases_Bool (own s)) [
  | inl y ↦ (y, eqb-true (own_before own s % k) place (rw y at e))
  | inr n ↦ absurd (let t = rw n at e in cc)
]
