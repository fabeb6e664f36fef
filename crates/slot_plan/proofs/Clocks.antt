-- The program whose slots carry the clock references of a program.
use Rattle.std.specs.Prelude.{not}
use Rattle.std.specs.List.{position_or_len}
use Rattle.std.proofs.Common.{◌≡◌, ◌⊎◌, ℕ, ◌<◌, ◌≤◌, Bool, true, false, cond, length, get_or, Option, None, Some, slice_get, refl, ap, sym, ◌∙◌, inl, inr}
use Rattle.std.proofs.Common.{IsTrue, All, nat_lt, eq-eqb, subst, arith}
use Rattle.std.proofs.lemmas.Bool.{cases_Bool}
use Rattle.std.proofs.lemmas.Bool.Decides.{nat_tests}
use Rattle.std.proofs.lemmas.List.Elements.{All-get_or}
use Rattle.std.proofs.lemmas.List.Quantifiers.{position-Some}
use Rattle.std.proofs.lemmas.List.Sums.{fails_before_first}
use Rattle.std.proofs.lemmas.Option.{get_or_from_slice_get, same_Some, slice_get-get_or, slice_get_within}
use Rattle.description_parts.specs.Described.{Described, DescribedProgram}
use Rattle.description_parts.specs.Ranges.{IsInRange}
use Rattle.description_parts.specs.Tables.{clock_holder, clock_of, has_references, shares_clock}
use Rattle.slot_plan.specs.declared.slot.Slot.TheVariants.{Pcr}
use Rattle.slot_plan.specs.SlotPids.{slot_pid}

-- Program number i is on a clock whose references are those of another program, or its own as the first on that clock
record OnShared (d : Described) (i : ℕ) : Type 0 where
  number : ℕ
  program : DescribedProgram
  holder : DescribedProgram
  own : slice_get d.programs i ≡ Some program
  shares : program.has_clock ≡ false
  found : slice_get d.programs number ≡ Some holder
  without : holder.has_clock ≡ false
  first : clock_holder d.programs ≡ Some number
  is : clock_of d i ≡ number

no_clock : (b : Bool) → not b ≡ true → b ≡ false
no_clock false e = refl
no_clock true e = absurd (cc)

none_passes : (n count : ℕ) → cond (nat_lt n count) (Some n) None ≡ None → count ≤ n
none_passes n count none = elim (cases_Bool (nat_lt n count)) [
  | inl less ↦ absurd (let h = rw less at none in cc)
  | inr fails ↦ grind (arith, nat_tests, fails)
]

-- If a program shares a clock, there is a first that does.
shared_somewhere : (d : Described) (i : ℕ) (p : DescribedProgram) → slice_get d.programs i ≡ Some p → p.has_clock ≡ false → clock_holder d.programs ≡ None → ⊥
shared_somewhere d i p at shares none =
    let past = none_passes (position_or_len shares_clock d.programs) (length d.programs) none in
    let fails = fails_before_first shares_clock d.programs i p (omega (arith, past, slice_get_within d.programs i p at)) in
    let there = get_or_from_slice_get d.programs i p p at in
    let h = rw (there, shares) at fails in cc

shared_clock : (d : Described) (i : ℕ) (p : DescribedProgram) (o : Option ℕ) → slice_get d.programs i ≡ Some p → p.has_clock ≡ false → clock_holder d.programs ≡ o →
    (clock_of d i ≡ i) ⊎ OnShared d i
shared_clock d i p None at shares e = absurd (shared_somewhere d i p at shares e)
shared_clock d i p (Some h) at shares e =
    let passes = position-Some shares_clock d.programs h p e in
    let there = get_or d.programs h p in
    inr (record {
      number = h;
      program = p;
      holder = there;
      own = at;
      shares = shares;
      found = slice_get-get_or d.programs h p passes.0;
      without = no_clock there.has_clock passes.1;
      first = e;
      is = rw (at, shares, e, clock_of) refl;
    })

clock_of_program : (d : Described) (i : ℕ) (p : DescribedProgram) (b : Bool) → slice_get d.programs i ≡ Some p → p.has_clock ≡ b →
    (clock_of d i ≡ i) ⊎ OnShared d i
clock_of_program d i p true at has = inl (rw (at, has, clock_of) refl)
clock_of_program d i p false at shares = shared_clock d i p (clock_holder d.programs) at shares refl

either : (d : Described) (i : ℕ) (o : Option DescribedProgram) → slice_get d.programs i ≡ o → (clock_of d i ≡ i) ⊎ OnShared d i
either d i None at = inl (rw (at, clock_of) refl)
either d i (Some p) at = clock_of_program d i p p.has_clock at refl

-- Programs that share a clock are on one.
pub one_clock : (d : Described) (i j : ℕ) (p q : DescribedProgram) → slice_get d.programs i ≡ Some p → p.has_clock ≡ false → slice_get d.programs j ≡ Some q →
    q.has_clock ≡ false → clock_of d i ≡ clock_of d j
one_clock d i j p q at shares there too = on (clock_holder d.programs) refl
  where
    on : (o : Option ℕ) → clock_holder d.programs ≡ o → clock_of d i ≡ clock_of d j
    on None e = absurd (shared_somewhere d i p at shares e)
    on (Some h) e =
        let first : clock_of d i ≡ h = rw (at, shares, e, clock_of) refl in
        let second : clock_of d j ≡ h = rw (there, too, e, clock_of) refl in
        first ∙ sym second

-- A program's clock is a program's.
pub clock_within : (d : Described) (i : ℕ) → i < length d.programs → clock_of d i < length d.programs
clock_within d i lt = elim (either d i (slice_get d.programs i) refl) [
  | inl own ↦ rw own lt
  | inr s ↦ rw (s.is) (slice_get_within d.programs s.number s.holder s.found)
]

-- The clock of a program has clock references.
pub clock_again : (d : Described) (i : ℕ) → clock_of d (clock_of d i) ≡ clock_of d i
clock_again d i = elim (either d i (slice_get d.programs i) refl) [
  | inl own ↦ ap (clock_of d) own
  | inr s ↦ let again : clock_of d s.number ≡ s.number = rw (s.found, s.without, s.first, clock_of) refl in ap (clock_of d) s.is ∙ again ∙ sym s.is
]

pub clock_referenced : (d : Described) (i : ℕ) → IsTrue (has_references d (clock_of d i))
clock_referenced d i = eq-eqb (clock_of d (clock_of d i)) (clock_of d i) (clock_again d i)

-- The slots of a program that has clock references have its PID.
pub slot_of_clock : (d : Described) (k : ℕ) (p : DescribedProgram) → IsTrue (has_references d k) → slice_get d.programs k ≡ Some p → slot_pid d (Pcr k) ≡ Some p.pcr_pid
unfolding slot_pid
slot_of_clock d k p referenced at = rw (referenced, at) refl

-- A program without a clock of its own names the PID of the shared clock.
on_shared_clock : (d : Described) (i : ℕ) (p : DescribedProgram) → IsInRange d → slice_get d.programs i ≡ Some p → p.has_clock ≡ false → d.clock_pid ≡ Some p.pcr_pid
on_shared_clock d i p r at =
    subst (λ (q : DescribedProgram). q.has_clock ≡ false → d.clock_pid ≡ Some q.pcr_pid) (get_or_from_slice_get d.programs i p p at)
    (All-get_or (λ (q : DescribedProgram). q.has_clock ≡ false → d.clock_pid ≡ Some q.pcr_pid) d.programs i p (slice_get_within d.programs i p at) r.clocks)

-- The slots of a program's clock have the PID that the program names.
pub clock_named : (d : Described) (i : ℕ) (p : DescribedProgram) → IsInRange d → slice_get d.programs i ≡ Some p → slot_pid d (Pcr (clock_of d i)) ≡ Some p.pcr_pid
clock_named d i p r at = elim (either d i (slice_get d.programs i) refl) [
  | inl own ↦ slot_of_clock d (clock_of d i) p (clock_referenced d i) (rw own at)
  | inr s ↦
      let same : s.program ≡ p = same_Some s.program p (sym s.own ∙ at) in
      let mine = on_shared_clock d i s.program r s.own s.shares in
      let its = on_shared_clock d s.number s.holder r s.found s.without in
      slot_of_clock d (clock_of d i) s.holder (clock_referenced d i) (rw (s.is) s.found)
      ∙ sym its ∙ mine ∙ ap (λ (z : DescribedProgram). Some z.pcr_pid) same
]
