-- The texts that the readers of slots and of lines accept.
use Rattle.std.specs.Prelude.{ℕ, ◌<◌, ◌==◌, true, List, [], ◌∷◌, ◌++◌, Some, codes, decimal}
use Rattle.std.proofs.Common.{◌≡◌, refl, subst, ◌∙◌, append_assoc, arith, inl, inr}
use Rattle.std.proofs.lemmas.Bool.{cases_Bool}
use Rattle.std.proofs.lemmas.Bool.Decides.{nat_tests}
use Rattle.slot_plan.specs.declared.slot.Slot.{Slot}
use Rattle.slot_plan.specs.declared.slot.Slot.TheVariants.{Stream, Pcr, Table, Null}
use Rattle.slot_plan.specs.declared.certificate.StreamEntry.{StreamEntry}
use Rattle.slot_plan.specs.declared.certificate.ProgramEntry.{ProgramEntry}
use Rattle.slot_plan.specs.Words.{number_limit, field, number_before, after_word}
use Rattle.slot_plan.specs.Planned.{is_small_multiplexing, is_small_stream, is_small_program}
use Rattle.slot_plan.specs.Plans.{IsByteSlot}
use Rattle.slot_plan.specs.Text.{slot_text, peak_words, stream_line, program_line}
use Rattle.slot_plan.specs.Readers.{slot_of_letter, slot_at, stream_claims, program_claims, stream_at, program_at}
use Rattle.slot_plan.proofs.WordReaders.{Exact, some_same, word-complete, word-sound, number-exact, field-exact, after-complete, after-sound, then-some}
use Rattle.slot_plan.proofs.WordReaders.{then-read}
use Rattle.slot_plan.proofs.PeakWords.{joined, peaks-exact}

-- The part of the line of a stream entry, or of a program entry, that follows the number
stream_tail : StreamEntry → List ℕ
stream_tail e = field (codes "spread ") e.spread 32 ++ (field (codes "start ") e.start 32 ++ peak_words e.peak e.multiplexing)

program_tail : ProgramEntry → List ℕ
program_tail e = field (codes "tstart ") e.transport_start 32 ++ (field (codes "tpeak ") e.transport_peak 32
    ++ (field (codes "bstart ") e.system_start 32 ++ field (codes "bpeak ") e.system_peak 10))

claims-complete : (e : StreamEntry) (rest : List ℕ) → is_small_stream e ≡ true → stream_claims (stream_tail e ++ rest) ≡ Some (e, rest)
unfolding stream_tail
claims-complete e rest small =
    let f : (e.spread < number_limit) × (e.start < number_limit) × (e.peak < number_limit) × (is_small_multiplexing e.multiplexing ≡ true) =
    grind (arith, nat_tests) in
    let a = field (codes "spread ") e.spread 32 in let b = field (codes "start ") e.start 32 in let d = peak_words e.peak e.multiplexing in
    rw (
      append_assoc a (b ++ d) rest,
      (field-exact (codes "spread ") 32 (omega arith)).complete e.spread ((b ++ d) ++ rest) f.0,
      append_assoc b d rest,
      (field-exact (codes "start ") 32 (omega arith)).complete e.start (d ++ rest) f.1,
      peaks-exact.complete (e.peak, e.multiplexing) rest (f.2, f.3),
    ) refl

claims-sound : (xs : List ℕ) (e : StreamEntry) (rest : List ℕ) → stream_claims xs ≡ Some (e, rest) → (is_small_stream e ≡ true) × (xs ≡ stream_tail e ++ rest)
unfolding stream_tail
claims-sound xs e rest is =
    let w = then-read _ _ _ is in let v = then-read _ _ _ w.2 in let u = then-read _ _ _ v.2 in
    let a = (field-exact (codes "spread ") 32 (omega arith)).sound xs w.0.0 w.0.1 w.1 in
    let b = (field-exact (codes "start ") 32 (omega arith)).sound w.0.1 v.0.0 v.0.1 v.1 in
    let d = peaks-exact.sound v.0.1 u.0.0 u.0.1 u.1 in
    let P : StreamEntry × List ℕ → Type 0 = λ p. (is_small_stream p.0 ≡ true) × (xs ≡ stream_tail p.0 ++ p.1) in
    let s = field (codes "spread ") w.0.0 32 in let t = field (codes "start ") v.0.0 32 in let p = peak_words u.0.0.0 u.0.0.1 in
    let few = d.0.0 in let small = d.0.1 in
    subst P (some_same _ _ u.2) (grind (arith, nat_tests), joined xs s (t ++ p) w.0.1 u.0.1 a.1 (joined w.0.1 t p v.0.1 u.0.1 b.1 d.1))

program-claims-complete : (e : ProgramEntry) (rest : List ℕ) → is_small_program e ≡ true → program_claims (program_tail e ++ rest) ≡ Some (e, rest)
unfolding program_tail
program-claims-complete e rest small =
    let f : (e.transport_start < number_limit) × (e.transport_peak < number_limit) × (e.system_start < number_limit) × (e.system_peak < number_limit) =
    grind (arith, nat_tests) in
    let a = field (codes "tstart ") e.transport_start 32 in let b = field (codes "tpeak ") e.transport_peak 32 in
    let d = field (codes "bstart ") e.system_start 32 in let g = field (codes "bpeak ") e.system_peak 10 in
    rw (
      append_assoc a (b ++ (d ++ g)) rest,
      (field-exact (codes "tstart ") 32 (omega arith)).complete e.transport_start ((b ++ (d ++ g)) ++ rest) f.0,
      append_assoc b (d ++ g) rest,
      (field-exact (codes "tpeak ") 32 (omega arith)).complete e.transport_peak ((d ++ g) ++ rest) f.1,
      append_assoc d g rest,
      (field-exact (codes "bstart ") 32 (omega arith)).complete e.system_start (g ++ rest) f.2,
      (field-exact (codes "bpeak ") 10 (omega arith)).complete e.system_peak rest f.3,
    ) refl

program-claims-sound : (xs : List ℕ) (e : ProgramEntry) (rest : List ℕ) → program_claims xs ≡ Some (e, rest) →
    (is_small_program e ≡ true) × (xs ≡ program_tail e ++ rest)
unfolding program_tail
program-claims-sound xs e rest is =
    let w = then-read _ _ _ is in let v = then-read _ _ _ w.2 in let u = then-read _ _ _ v.2 in let t = then-read _ _ _ u.2 in
    let a = (field-exact (codes "tstart ") 32 (omega arith)).sound xs w.0.0 w.0.1 w.1 in
    let b = (field-exact (codes "tpeak ") 32 (omega arith)).sound w.0.1 v.0.0 v.0.1 v.1 in
    let d = (field-exact (codes "bstart ") 32 (omega arith)).sound v.0.1 u.0.0 u.0.1 u.1 in
    let g = (field-exact (codes "bpeak ") 10 (omega arith)).sound u.0.1 t.0.0 t.0.1 t.1 in
    let P : ProgramEntry × List ℕ → Type 0 = λ p. (is_small_program p.0 ≡ true) × (xs ≡ program_tail p.0 ++ p.1) in
    let i = field (codes "tstart ") w.0.0 32 in let j = field (codes "tpeak ") v.0.0 32 in
    let k = field (codes "bstart ") u.0.0 32 in let l = field (codes "bpeak ") t.0.0 10 in
    subst P (some_same _ _ t.2) (
      grind (arith, nat_tests),
      joined xs i (j ++ (k ++ l)) w.0.1 t.0.1 a.1 (joined w.0.1 j (k ++ l) v.0.1 t.0.1 b.1 (joined v.0.1 k l u.0.1 t.0.1 d.1 g.1)),
    )

-- The reader of a stream entry accepts exactly its line.
pub stream-exact : (k : ℕ) → k < number_limit → Exact (stream_at k) (stream_line k) (λ e. is_small_stream e ≡ true)
unfolding stream_tail
stream-exact k below = record { sound = sound; complete = complete }
  where
    complete : (e : StreamEntry) (rest : List ℕ) → is_small_stream e ≡ true → stream_at k (stream_line k e ++ rest) ≡ Some (e, rest)
    complete e rest small = rw (append_assoc (field (codes "stream ") k 32) (stream_tail e) rest)
        (then-some _ stream_claims _ (after-complete (codes "stream ") k (stream_tail e ++ rest) below) ∙ claims-complete e rest small)

    sound : (xs : List ℕ) (e : StreamEntry) (rest : List ℕ) → stream_at k xs ≡ Some (e, rest) → (is_small_stream e ≡ true) × (xs ≡ stream_line k e ++ rest)
    sound xs e rest is = let w = then-read _ _ _ is in let v = claims-sound w.0 e rest w.2 in
        (v.0, joined xs (field (codes "stream ") k 32) (stream_tail e) w.0 rest (after-sound (codes "stream ") k xs w.0 w.1) v.1)

-- The reader of a program entry accepts exactly its line.
pub program-exact : (k : ℕ) → k < number_limit → Exact (program_at k) (program_line k) (λ e. is_small_program e ≡ true)
unfolding program_tail
program-exact k below = record { sound = sound; complete = complete }
  where
    complete : (e : ProgramEntry) (rest : List ℕ) → is_small_program e ≡ true → program_at k (program_line k e ++ rest) ≡ Some (e, rest)
    complete e rest small = rw (append_assoc (field (codes "program ") k 32) (program_tail e) rest)
        (then-some _ program_claims _ (after-complete (codes "program ") k (program_tail e ++ rest) below) ∙ program-claims-complete e rest small)

    sound : (xs : List ℕ) (e : ProgramEntry) (rest : List ℕ) → program_at k xs ≡ Some (e, rest) → (is_small_program e ≡ true) × (xs ≡ program_line k e ++ rest)
    sound xs e rest is = let w = then-read _ _ _ is in let v = program-claims-sound w.0 e rest w.2 in
        (v.0, joined xs (field (codes "program ") k 32) (program_tail e) w.0 rest (after-sound (codes "program ") k xs w.0 w.1) v.1)

-- The text of a slot and its ending is read as the slot.
slot-complete : (ending : ℕ) → ending < 48 → (s : Slot) (rest : List ℕ) → IsByteSlot s → slot_at ending ((slot_text s ++ ending ∷ []) ++ rest) ≡ Some (s, rest)
slot-complete ending ends (Stream n) rest below = rw ((number-exact ending 256 (omega arith) ends).complete n rest below) refl
slot-complete ending ends (Pcr n) rest below = rw ((number-exact ending 256 (omega arith) ends).complete n rest below) refl
slot-complete ending ends (Table n) rest below = rw ((number-exact ending 256 (omega arith) ends).complete n rest below) refl
slot-complete ending ends Null rest below = rw (word-complete (ending ∷ []) rest) refl

lettered-sound : (b n : ℕ) (s : Slot) → slot_of_letter b n ≡ Some s → n < 256 → IsByteSlot s × (b ∷ decimal n ≡ slot_text s)
lettered-sound b n s e below = elim (cases_Bool (b == 83)) [
  | inl is ↦ (let letter : b ≡ 83 = grind (arith, nat_tests) in let P : Slot → Type 0 = λ t. IsByteSlot t × (b ∷ decimal n ≡ slot_text t) in
      subst P (some_same _ _ (rw is at e)) (below, rw letter refl))
  | inr other ↦ elim (cases_Bool (b == 80)) [
    | inl is ↦ (let letter : b ≡ 80 = grind (arith, nat_tests) in let P : Slot → Type 0 = λ t. IsByteSlot t × (b ∷ decimal n ≡ slot_text t) in
        subst P (some_same _ _ (rw (other, is) at e)) (below, rw letter refl))
    | inr another ↦ elim (cases_Bool (b == 84)) [
      | inl is ↦ (let letter : b ≡ 84 = grind (arith, nat_tests) in let P : Slot → Type 0 = λ t. IsByteSlot t × (b ∷ decimal n ≡ slot_text t) in
          subst P (some_same _ _ (rw (other, another, is) at e)) (below, rw letter refl))
      | inr none ↦ absurd (let h = rw (other, another, none) at e in cc)
    ]
  ]
]

null_text : (b ending : ℕ) (bs rest : List ℕ) → b ≡ 45 → bs ≡ (ending ∷ []) ++ rest → b ∷ bs ≡ (slot_text Null ++ ending ∷ []) ++ rest
null_text b ending bs rest e f = rw (e, f) refl

item_text : (b n ending : ℕ) (bs rest text : List ℕ) → b ∷ decimal n ≡ text → bs ≡ (decimal n ++ ending ∷ []) ++ rest → b ∷ bs ≡ (text ++ ending ∷ []) ++ rest
item_text b n ending bs rest text e f = rw (f, ← e) refl

pub slot-exact : (ending : ℕ) → ending < 48 → Exact (slot_at ending) (λ s. slot_text s ++ ending ∷ []) IsByteSlot
slot-exact ending ends = record { sound = sound; complete = slot-complete ending ends }
  where
    sound : (xs : List ℕ) (s : Slot) (rest : List ℕ) → slot_at ending xs ≡ Some (s, rest) → IsByteSlot s × (xs ≡ (slot_text s ++ ending ∷ []) ++ rest)
    sound [] s rest e = absurd (cc)
    sound (b ∷ bs) s rest e = elim (cases_Bool (b == 45)) [
      | inl is ↦ (let letter : b ≡ 45 = grind (arith, nat_tests) in
          let w = then-read (after_word (ending ∷ []) bs) (λ r. Some (Null, r)) (s, rest) (rw is at e) in
          let P : Slot × List ℕ → Type 0 = λ p. IsByteSlot p.0 × (b ∷ bs ≡ (slot_text p.0 ++ ending ∷ []) ++ p.1) in
          subst P (some_same _ _ w.2) (tt, null_text b ending bs w.0 letter (word-sound (ending ∷ []) bs w.0 w.1)))
      | inr other ↦ (let w = then-read (number_before ending 256 bs) _ (s, rest) (rw other at e) in
          let v = then-read (slot_of_letter b w.0.0) _ (s, rest) w.2 in
          let n = (number-exact ending 256 (omega arith) ends).sound bs w.0.0 w.0.1 w.1 in
          let l = lettered-sound b w.0.0 v.0 v.1 n.0 in
          let P : Slot × List ℕ → Type 0 = λ p. IsByteSlot p.0 × (b ∷ bs ≡ (slot_text p.0 ++ ending ∷ []) ++ p.1) in
          subst P (some_same _ _ v.2) (l.0, item_text b (w.0.0) ending bs w.0.1 (slot_text v.0) l.1 n.1))
    ]
