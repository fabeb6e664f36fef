-- The reader of the last words of a line accepts a peak, and after it a claim on a multiplexing buffer or nothing.
use Rattle.std.specs.Prelude.{ℕ, ◌+◌, ◌-◌, ◌*◌, ◌/◌, ◌%◌, ◌^◌, ◌<◌, ◌≤◌, ◌==◌, ◌&&◌, true, false, List, [], ◌∷◌, ◌++◌, Option, None, Some, nat_le, nat_lt}
use Rattle.std.specs.Prelude.{codes, decimal}
use Rattle.std.proofs.Common.{◌≡◌, refl, subst, ◌∙◌, append_assoc, arith}
use Rattle.std.proofs.lemmas.Bool.Decides.{nat_tests}
use Rattle.std.proofs.lemmas.Fmt.{decimal_by_steps}
use Rattle.slot_plan.specs.declared.certificate.MultiplexingEntry.{MultiplexingEntry}
use Rattle.slot_plan.specs.Words.{number_limit, field, more_digits, number_before, field_at}
use Rattle.slot_plan.specs.Planned.{is_small_multiplexing}
use Rattle.slot_plan.specs.Text.{peak_words}
use Rattle.slot_plan.specs.Readers.{multiplexing_at, peaks_beside, peaks_at}
use Rattle.slot_plan.proofs.WordReaders.{Exact, some_same, word-complete, field-exact, then-some, then-read}

pub joined : (xs a b r s : List ℕ) → xs ≡ a ++ r → r ≡ b ++ s → xs ≡ (a ++ b) ++ s
joined xs a b r s e f = rw (e, f, append_assoc) refl

-- The digits of a number are read, whatever follows them.
digits : (ending limit n : ℕ) → limit ≤ 10 ^ 18 → n < limit → (ys : List ℕ) →
    number_before ending limit (decimal n ++ ys) ≡ more_digits ending limit n ys
digits ending limit n small below ys = decimal_by_steps
    (λ m ds. (zs : List ℕ) → m < limit → number_before ending limit (ds ++ zs) ≡ more_digits ending limit m zs)
    (λ m one zs fits.
    let t : nat_le 48 (48 + m) && nat_le (48 + m) 57 && nat_lt (48 + m - 48) limit ≡ true = grind (arith, nat_tests) in
    let v : 48 + m - 48 ≡ m = omega arith in rw (t, v) refl)
    (λ m ds ten ih zs fits.
    let t : nat_le 48 (48 + m % 10) && nat_le (48 + m % 10) 57 ≡ true = grind (arith, nat_tests) in
    let v : m / 10 * 10 + (48 + m % 10 - 48) ≡ m = omega arith in
    let u : nat_lt 0 (m / 10) && nat_lt m limit ≡ true = grind (arith, nat_tests) in
    rw (append_assoc, ih ((48 + m % 10) ∷ zs) (omega arith), t, v, u) refl)
    n (omega arith) ys below

-- A field with a different ending is not read.
other_ending : (word : List ℕ) (ending other n : ℕ) (rest : List ℕ) → other < 48 → (other == ending) ≡ false → n < number_limit →
    field_at word ending (field word n other ++ rest) ≡ None
other_ending word ending other n rest ends differs below =
    rw (append_assoc word (decimal n) (other ∷ []), append_assoc word (decimal n ++ other ∷ []) rest)
    (then-some _ (number_before ending number_limit) _ (word-complete word ((decimal n ++ other ∷ []) ++ rest)) ∙ none)
  where
    none : number_before ending number_limit ((decimal n ++ other ∷ []) ++ rest) ≡ None
    none =
        let no_digit : nat_le 48 other && nat_le other 57 ≡ false = grind (arith, nat_tests) in
        rw (append_assoc, digits ending number_limit n (omega arith) below (other ∷ rest), no_digit, differs) refl

-- The claim on a multiplexing buffer
multiplexing_words : MultiplexingEntry → List ℕ
multiplexing_words m = field (codes "mstart ") m.start 32 ++ field (codes "mpeak ") m.peak 10

multiplexing-complete : (m : MultiplexingEntry) (rest : List ℕ) → is_small_multiplexing (Some m) ≡ true →
    multiplexing_at (multiplexing_words m ++ rest) ≡ Some (m, rest)
unfolding multiplexing_words
multiplexing-complete m rest small =
    let f : (m.start < number_limit) × (m.peak < number_limit) = grind (arith, nat_tests) in
    let a = field (codes "mstart ") m.start 32 in let b = field (codes "mpeak ") m.peak 10 in
    rw (
      append_assoc a b rest,
      (field-exact (codes "mstart ") 32 (omega arith)).complete m.start (b ++ rest) f.0,
      (field-exact (codes "mpeak ") 10 (omega arith)).complete m.peak rest f.1,
    ) refl

multiplexing-sound : (xs : List ℕ) (m : MultiplexingEntry) (rest : List ℕ) → multiplexing_at xs ≡ Some (m, rest) →
    (is_small_multiplexing (Some m) ≡ true) × (xs ≡ multiplexing_words m ++ rest)
unfolding multiplexing_words
multiplexing-sound xs m rest is =
    let w = then-read _ _ _ is in let v = then-read _ _ _ w.2 in
    let a = (field-exact (codes "mstart ") 32 (omega arith)).sound xs w.0.0 w.0.1 w.1 in
    let b = (field-exact (codes "mpeak ") 10 (omega arith)).sound w.0.1 v.0.0 v.0.1 v.1 in
    let P : MultiplexingEntry × List ℕ → Type 0 = λ p. (is_small_multiplexing (Some p.0) ≡ true) × (xs ≡ multiplexing_words p.0 ++ p.1) in
    let s = field (codes "mstart ") w.0.0 32 in let t = field (codes "mpeak ") v.0.0 10 in
    subst P (some_same _ _ v.2) (grind (arith, nat_tests), joined xs s t w.0.1 v.0.1 a.1 b.1)

-- The numbers of the last words are in range.
abbrev pub IsPeaks : ℕ × Option MultiplexingEntry → Type 0
IsPeaks p = (p.0 < number_limit) × (is_small_multiplexing p.1 ≡ true)

peaks-complete : (peak : ℕ) (m : Option MultiplexingEntry) (rest : List ℕ) → IsPeaks (peak, m) → peaks_at (peak_words peak m ++ rest) ≡ Some ((peak, m), rest)
unfolding multiplexing_words
peaks-complete peak None rest small = rw ((field-exact (codes "peak ") 10 (omega arith)).complete peak rest small.0) refl
peaks-complete peak (Some m) rest small =
    let a = field (codes "peak ") peak 32 in let b = field (codes "mstart ") m.start 32 ++ field (codes "mpeak ") m.peak 10 in
    rw (
      append_assoc a b rest,
      other_ending (codes "peak ") 10 32 peak (b ++ rest) (omega arith) refl small.0,
      (field-exact (codes "peak ") 32 (omega arith)).complete peak (b ++ rest) small.0,
      multiplexing-complete m rest small.1,
    ) refl

beside-sound : (o : Option (ℕ × List ℕ)) (xs : List ℕ) (p : ℕ × Option MultiplexingEntry) (rest : List ℕ) → field_at (codes "peak ") 10 xs ≡ o →
    peaks_beside o xs ≡ Some (p, rest) → IsPeaks p × (xs ≡ peak_words p.0 p.1 ++ rest)
unfolding multiplexing_words
beside-sound (Some peak) xs p rest is e =
    let P : (ℕ × Option MultiplexingEntry) × List ℕ → Type 0 = λ q. IsPeaks q.0 × (xs ≡ peak_words q.0.0 q.0.1 ++ q.1) in
    let a = (field-exact (codes "peak ") 10 (omega arith)).sound xs peak.0 peak.1 is in
    subst P (some_same _ _ e) ((a.0, refl), a.1)
beside-sound None xs p rest is e =
    let w = then-read _ _ _ e in let v = then-read _ _ _ w.2 in
    let a = (field-exact (codes "peak ") 32 (omega arith)).sound xs w.0.0 w.0.1 w.1 in
    let b = multiplexing-sound w.0.1 v.0.0 v.0.1 v.1 in
    let P : (ℕ × Option MultiplexingEntry) × List ℕ → Type 0 = λ q. IsPeaks q.0 × (xs ≡ peak_words q.0.0 q.0.1 ++ q.1) in
    subst P (some_same _ _ v.2) ((a.0, b.0), joined xs (field (codes "peak ") w.0.0 32) (multiplexing_words v.0.0) w.0.1 v.0.1 a.1 b.1)

pub peaks-exact : Exact peaks_at (λ p. peak_words p.0 p.1) IsPeaks
peaks-exact = record {
  sound = λ xs p rest e. beside-sound (field_at (codes "peak ") 10 xs) xs p rest refl e;
  complete = λ p rest small. peaks-complete p.0 p.1 rest small;
}
