-- A plan is read exactly if a text begins with its text.
use Rattle.std.specs.Prelude.{ℕ, ◌+◌, ◌-◌, ◌≤◌, ◌||◌, true, false, List, [], ◌∷◌, ◌++◌, Option, None, Some, Result, Ok, Err, length, drop, codes, nat_lt}
use Rattle.std.specs.List.{list_all}
use Rattle.std.proofs.Common.{◌≡◌, refl, ap, sym, subst, ◌∙◌, append_assoc, length-append, arith, inl, inr, if◌then◌else◌}
use Rattle.std.proofs.lemmas.Bool.{cases_Bool}
use Rattle.std.proofs.lemmas.Bool.Decides.{nat_tests}
use Rattle.std.proofs.Math.Seq.{drop-append_seam}
use Rattle.slot_plan.specs.declared.slot.Slot.{Slot}
use Rattle.slot_plan.specs.declared.certificate.ProgramEntry.{ProgramEntry}
use Rattle.slot_plan.specs.Numbered.{numbered}
use Rattle.slot_plan.specs.Planned.{Planned, Certified, plan_error, is_small_stream, is_small_program, has_small_numbers}
use Rattle.slot_plan.specs.Plans.{IsPlan}
use Rattle.slot_plan.specs.PlanTexts.{BeginsWithPlan}
use Rattle.slot_plan.specs.Words.{field, after_word, field_at}
use Rattle.slot_plan.specs.Text.{slot_word, stream_line, program_line, plan_text}
use Rattle.slot_plan.specs.Readers.{slots_at, streams_at, programs_at, begins_with, certificate_at, period_at, plan_at, slot_lines, or_line, ◌>>>◌}
use Rattle.slot_plan.proofs.WordReaders.{word-complete, word-sound, field-exact, then-read, some_same}
use Rattle.slot_plan.proofs.PeakWords.{joined}
use Rattle.slot_plan.proofs.TextLists.{slots-complete, slots-sound, streams-complete, SlotsRead, streams-sound, programs-complete, programs-sound, ok_same}

-- The entries and the end of a plan
certificate_text : Certified → List ℕ
certificate_text c = numbered stream_line 0 c.streams ++ (numbered program_line 0 c.programs ++ codes "end\n")

record IsCertificate (c : Certified) : Type 0 where
  few_streams : length c.streams ≤ 256
  few_programs : length c.programs ≤ 256
  small_streams : list_all is_small_stream c.streams ≡ true
  small_programs : list_all is_small_program c.programs ≡ true

-- Neither a program entry nor the end begins like a stream entry.
after_streams : (ps : List ProgramEntry) (rest : List ℕ) → begins_with 115 (numbered program_line 0 ps ++ (codes "end\n" ++ rest)) ≡ false
after_streams [] rest = refl
after_streams (p ∷ ps) rest = refl

certificate-complete : (line : ℕ) (c : Certified) (rest : List ℕ) → IsCertificate c → certificate_at line (certificate_text c ++ rest) ≡ Ok (c, rest)
unfolding certificate_text
certificate-complete line c rest is =
    let s = numbered stream_line 0 c.streams in let p = numbered program_line 0 c.programs in let e = codes "end\n" in
    rw (
      append_assoc s (p ++ e) rest,
      append_assoc p e rest,
      streams-complete 256 line 0 c.streams (p ++ (e ++ rest)) is.few_streams (omega arith) is.small_streams (after_streams c.programs rest),
      programs-complete 256 (line + length c.streams) 0 c.programs (e ++ rest) is.few_programs (omega arith) is.small_programs refl,
    ) refl

-- The results of two readers in sequence
then-ok : {A B : Type 0} (o : Result A ℕ) (f : A → Result B ℕ) (y : B) → (o >>> f) ≡ Ok y → (x : A) × (o ≡ Ok x) × (f x ≡ Ok y)
then-ok (Ok x) f y e = (x, refl, e)
then-ok (Err line) f y e = absurd (cc)

line-ok : {A : Type 0} (line : ℕ) (o : Option A) (x : A) → or_line line o ≡ Ok x → o ≡ Some x
line-ok line None x e = absurd (cc)
line-ok line (Some y) x e = ap Some (ok_same y x e)

certificate-sound : (line : ℕ) (xs : List ℕ) (c : Certified) (rest : List ℕ) → certificate_at line xs ≡ Ok (c, rest) →
    IsCertificate c × (xs ≡ certificate_text c ++ rest)
unfolding certificate_text
certificate-sound line xs c rest e =
    let s = then-ok (streams_at 256 line 0 xs) _ (c, rest) e in
    let p = then-ok (programs_at 256 (line + length s.0.0) 0 s.0.1) _ (c, rest) s.2 in
    let w = then-ok (or_line (line + length s.0.0 + length p.0.0) (after_word (codes "end\n") p.0.1)) _ (c, rest) p.2 in
    let sr = streams-sound 256 line 0 xs s.0.0 s.0.1 (omega arith) s.1 in
    let pr = programs-sound 256 (line + length s.0.0) 0 s.0.1 p.0.0 p.0.1 (omega arith) p.1 in
    let er = word-sound (codes "end\n") p.0.1 w.0 (line-ok _ _ _ w.1) in
    let P : Certified × List ℕ → Type 0 = λ t. IsCertificate t.0 × (xs ≡ certificate_text t.0 ++ t.1) in
    let st = numbered stream_line 0 s.0.0 in let pt = numbered program_line 0 p.0.0 in
    subst P (ok_same _ _ w.2) (
      record { few_streams = sr.few; few_programs = pr.few; small_streams = sr.small; small_programs = pr.small },
      joined xs st (pt ++ codes "end\n") s.0.1 w.0 sr.text (joined s.0.1 pt (codes "end\n") p.0.1 w.0 pr.text er),
    )

-- The first two lines and the slots
slot_bound : (p : Planned) → plan_error p.slots p.certificate ≡ None → (length p.slots ≤ 99999) × IsCertificate p.certificate
slot_bound p within = elim (cases_Bool (nat_lt 99999 (length p.slots))) [
  | inl many ↦ absurd (let h = rw many at within in cc)
  | inr few ↦ elim (cases_Bool (nat_lt 256 (length p.certificate.streams) || nat_lt 256 (length p.certificate.programs))) [
    | inl more ↦ absurd (let h = rw (few, more) at within in cc)
    | inr less ↦ elim (cases_Bool (has_small_numbers p.certificate)) [
      | inl small ↦ (let s : (list_all is_small_stream p.certificate.streams ≡ true) × (list_all is_small_program p.certificate.programs ≡ true) =
          grind (arith, nat_tests) in (
            grind (arith, nat_tests),
            record { few_streams = grind (arith, nat_tests); few_programs = grind (arith, nat_tests); small_streams = s.0; small_programs = s.1 },
          ))
      | inr great ↦ absurd (let h = rw (few, less, great) at within in cc)
    ]
  ]
]

no_error : (slots : List Slot) (c : Certified) → length slots ≤ 99999 → IsCertificate c → plan_error slots c ≡ None
no_error slots c few is =
    let a : nat_lt 99999 (length slots) ≡ false = grind (arith, nat_tests) in
    let fs = is.few_streams in let fp = is.few_programs in
    let b : nat_lt 256 (length c.streams) || nat_lt 256 (length c.programs) ≡ false = grind (arith, nat_tests) in
    rw (a, b, is.small_streams, is.small_programs) refl

period-complete : (n : ℕ) (rest : List ℕ) → n ≤ 99999 → period_at (field (codes "period ") n 10 ++ rest) ≡ Some (n, rest)
period-complete n rest few =
    let small : nat_lt 99999 n ≡ false = grind (arith, nat_tests) in
    rw ((field-exact (codes "period ") 10 (omega arith)).complete n rest (omega arith), small) refl

period-sound : (xs : List ℕ) (n : ℕ) (rest : List ℕ) → period_at xs ≡ Some (n, rest) → (n ≤ 99999) × (xs ≡ field (codes "period ") n 10 ++ rest)
period-sound xs n rest e =
    let w = then-read (field_at (codes "period ") 10 xs) (λ (m : ℕ × List ℕ). if nat_lt 99999 m.0 then None else Some m) (n, rest) e in
    elim (cases_Bool (nat_lt 99999 w.0.0)) [
      | inl many ↦ absurd (let h = rw many at w.2 in cc)
      | inr few ↦ (let P : ℕ × List ℕ → Type 0 = λ t. (t.0 ≤ 99999) × (xs ≡ field (codes "period ") t.0 10 ++ t.1) in
          subst P (some_same w.0 (n, rest) (rw few at w.2))
          (grind (arith, nat_tests), ((field-exact (codes "period ") 10 (omega arith)).sound xs w.0.0 w.0.1 w.1).1))
    ]

-- The parts of a plan's text, each followed by the next
in_parts : (p : Planned) (rest : List ℕ) → plan_text p ++ rest ≡ codes "tsplan 1\n" ++ (field (codes "period ") (length p.slots) 10
    ++ (numbered (slot_word (length p.slots)) 0 p.slots ++ (certificate_text p.certificate ++ rest)))
unfolding certificate_text
in_parts p rest = regroup (codes "tsplan 1\n") (field (codes "period ") (length p.slots) 10) (numbered (slot_word (length p.slots)) 0 p.slots)
    (numbered stream_line 0 p.certificate.streams) (numbered program_line 0 p.certificate.programs) (codes "end\n") rest
  where
    regroup : (a b c d e f r : List ℕ) → (((((a ++ b) ++ c) ++ d) ++ e) ++ f) ++ r ≡ a ++ (b ++ (c ++ ((d ++ (e ++ f)) ++ r)))
    regroup a b c d e f r = simp append_assoc

read_from : (xs u v w rest : List ℕ) (n : ℕ) (slots : List Slot) (c : Certified) → after_word (codes "tsplan 1\n") xs ≡ Some u → period_at u ≡ Some (n, v) →
    slots_at n n v ≡ Ok (slots, w) → certificate_at (3 + slot_lines n) w ≡ Ok (c, rest) → plan_at xs ≡ Ok (record { slots = slots; certificate = c }, rest)
read_from xs u v w rest n slots c a b d e = rw (a, b, d, e) refl

-- The text of a plan is read as the plan, whatever follows it.
pub plan-complete : (p : Planned) (rest : List ℕ) → IsPlan p → plan_at (plan_text p ++ rest) ≡ Ok (p, rest)
plan-complete p rest is =
    let few = slot_bound p is.within in let n = length p.slots in
    let slots = numbered (slot_word n) 0 p.slots in let after = certificate_text p.certificate ++ rest in
    let zero_left : n - n ≡ 0 = omega arith in
    let third : slots_at n n (slots ++ after) ≡ Ok (p.slots, after) = rw zero_left at (slots-complete n n p.slots after refl (omega arith) is.numbers) in
    read_from (plan_text p ++ rest) (field (codes "period ") n 10 ++ (slots ++ after)) (slots ++ after) after rest n p.slots p.certificate
    (ap (after_word (codes "tsplan 1\n")) (in_parts p rest) ∙ word-complete (codes "tsplan 1\n") (field (codes "period ") n 10 ++ (slots ++ after)))
    (period-complete n (slots ++ after) few.0) third (certificate-complete (3 + slot_lines n) p.certificate rest few.1)

-- If a plan is read, the text begins with its text.
pub plan-sound : (xs : List ℕ) (p : Planned) (rest : List ℕ) → plan_at xs ≡ Ok (p, rest) → IsPlan p × (xs ≡ plan_text p ++ rest)
plan-sound xs p rest e =
    let h = then-ok (or_line 1 (after_word (codes "tsplan 1\n") xs)) _ (p, rest) e in
    let n = then-ok (or_line 2 (period_at h.0)) _ (p, rest) h.2 in
    let s = then-ok (slots_at n.0.0 n.0.0 n.0.1) _ (p, rest) n.2 in
    let c = then-ok (certificate_at (3 + slot_lines n.0.0) s.0.1) _ (p, rest) s.2 in
    let a = word-sound (codes "tsplan 1\n") xs h.0 (line-ok _ _ _ h.1) in
    let b = period-sound h.0 n.0.0 n.0.1 (line-ok _ _ _ n.1) in
    let r = slots-sound n.0.0 n.0.0 n.0.1 s.0.0 s.0.1 (omega arith) s.1 in
    let d = certificate-sound (3 + slot_lines n.0.0) s.0.1 c.0.0 c.0.1 c.1 in
    let P : Planned × List ℕ → Type 0 = λ t. IsPlan t.0 × (xs ≡ plan_text t.0 ++ t.1) in
    subst P (ok_same _ _ c.2) (is_plan_text xs h.0 n.0.1 s.0.1 c.0.1 n.0.0 s.0.0 c.0.0 a b.1 r b.0 d)
  where
    is_plan_text : (xs u v w rest : List ℕ) (n : ℕ) (slots : List Slot) (c : Certified) → xs ≡ codes "tsplan 1\n" ++ u → u ≡ field (codes "period ") n 10 ++ v →
        SlotsRead n n v slots w → n ≤ 99999 → IsCertificate c × (w ≡ certificate_text c ++ rest) →
        IsPlan (record { slots = slots; certificate = c }) × (xs ≡ plan_text (record { slots = slots; certificate = c }) ++ rest)
    is_plan_text xs u v w rest n slots c a b r few d =
        let zero_left : n - n ≡ 0 = omega arith in
        let p : Planned = record { slots = slots; certificate = c } in
        let v_is : v ≡ numbered (slot_word n) 0 slots ++ w = rw zero_left at r.text in
        let text : xs ≡ codes "tsplan 1\n" ++ (field (codes "period ") n 10 ++ (numbered (slot_word n) 0 slots ++ (certificate_text c ++ rest))) =
        rw (a, b, v_is, d.1) refl in (
          record { numbers = r.small; within = no_error slots c (rw r.count few) d.0 },
          (rw (← r.count) at text) ∙ sym (in_parts p rest),
        )

-- The front of a text, by its length
cut_front : (xs t rest : List ℕ) → xs ≡ t ++ rest →
    (length rest ≤ length xs) × (length xs - length rest ≡ length t) × (xs ≡ t ++ drop (length xs - length rest) xs)
cut_front xs t rest e =
    let long : length xs ≡ length t + length rest = rw (e, length-append) refl in
    let bytes : length xs - length rest ≡ length t = omega arith in
    let after : drop (length xs - length rest) xs ≡ rest = rw (bytes, e) (drop-append_seam t rest) in
    (omega arith, bytes, rw after e)

-- The size of a plan's text at the front
pub begins_with_plan : (xs : List ℕ) (p : Planned) (rest : List ℕ) → plan_at xs ≡ Ok (p, rest) →
    (length rest ≤ length xs) × BeginsWithPlan xs p (length xs - length rest)
begins_with_plan xs p rest e =
    let s = plan-sound xs p rest e in let f = cut_front xs (plan_text p) rest s.1 in
    (f.0, record { is_plan = s.0; bytes_are = f.1; text_is = f.2 })
