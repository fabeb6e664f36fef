-- What stays, slot by slot: what one line-up has on a PID the other one has in the same slots.
use Rattle.std.proofs.Common.{◌≡◌, ◌⊎◌, ℕ, ◌<◌, ◌==◌, ◌&&◌, ◌||◌, not, Bool, true, false, length, Option, None, Some, is_some}
use Rattle.std.proofs.Common.{refl, sym, ap, subst, ◌∙◌, inl, inr, eq-eqb, eqb-true}
use Rattle.std.proofs.lemmas.Bool.{cases_Bool, false≢true}
use Rattle.description_parts.specs.Described.{Described}
use Rattle.description_parts.specs.Ranges.{IsInRange}
use Rattle.slot_plan.specs.declared.slot.Slot.{Slot}
use Rattle.slot_plan.specs.declared.slot.Slot.TheVariants.{Stream, Pcr, Table, Null}
use Rattle.slot_plan.specs.Schedule.{repeated}
use Rattle.slot_plan.specs.SlotPids.{slot_pid}
use Rattle.slot_plan.proofs.SlotPids.{slots_apart}
use Rattle.changed_texts.proofs.Sameness.{same_option}
use Rattle.plan_checker.specs.Served.{Served}
use Rattle.line_ups.specs.Kept.{numbered_slot, is_pid, number_with, slot_with, has_pid, slot_in, is_null, carried}
use Rattle.line_ups.specs.Faults.{is_same_pid, differs, differs_at, longer_period}
use Rattle.line_ups.proofs.Numbers.{pid_is, is_pid_of, number_found, number_missed, slot_numbered}
use Rattle.line_ups.proofs.Repeats.{Common, all_time}

-- ---- a PID and its slot

with_found : (d : Described) (pid : ℕ) (f : Option ℕ) (o : Slot) → number_with d pid ≡ f →
    elim f [ None ↦ Null | Some n ↦ numbered_slot d n ] ≡ o → is_null o ≡ false → slot_pid d o ≡ Some pid
with_found d pid None o is e some = absurd (false≢true (sym some ∙ sym (ap is_null e)))
with_found d pid (Some n) o is e some = subst (λ (s : Slot). slot_pid d s ≡ Some pid) e (number_found d pid n is).is

-- What a description has on a PID has that PID.
pub slot_found : (d : Described) (pid : ℕ) (o : Slot) → slot_with d pid ≡ o → is_null o ≡ false → slot_pid d o ≡ Some pid
slot_found d pid o e some = with_found d pid (number_with d pid) o refl e some

-- A slot with a PID is found.
missed_not : (d : Described) (slot : Slot) (pid : ℕ) → slot_pid d slot ≡ Some pid → number_with d pid ≡ None → ⊥
missed_not d slot pid e is =
    let n = slot_numbered d slot pid e in
    false≢true (sym (number_missed d pid n.number is n.within)
    ∙ is_pid_of pid (slot_pid d (numbered_slot d n.number)) (ap (slot_pid d) n.is ∙ e))

with_all : (d : Described) (slot : Slot) (pid : ℕ) (f : Option ℕ) → IsInRange d → slot_pid d slot ≡ Some pid → number_with d pid ≡ f →
    elim f [ None ↦ Null | Some n ↦ numbered_slot d n ] ≡ slot
with_all d slot pid None r e is = absurd (missed_not d slot pid e is)
with_all d slot pid (Some m) r e is = slots_apart d (numbered_slot d m) slot pid r (number_found d pid m is).is e

-- The slot of a PID is what the description has on it.
pub slot_is : (d : Described) (slot : Slot) (pid : ℕ) → IsInRange d → slot_pid d slot ≡ Some pid → slot_with d pid ≡ slot
slot_is d slot pid r e = with_all d slot pid (number_with d pid) r e refl

some_number : (d : Described) (slot : Slot) (pid : ℕ) (f : Option ℕ) → slot_pid d slot ≡ Some pid → number_with d pid ≡ f → is_some f ≡ true
some_number d slot pid None e is = absurd (missed_not d slot pid e is)
some_number d slot pid (Some n) e is = refl

has_it : (d : Described) (slot : Slot) (pid : ℕ) → slot_pid d slot ≡ Some pid → has_pid d (Some pid) ≡ true
has_it d slot pid e = some_number d slot pid (number_with d pid) e refl

-- ---- two line-ups

-- what slot n of the new description was in the old one
pub record Stays (old new : Described) (n o : Slot) : Type 0 where
  pub pid : ℕ
  pub now : slot_pid new n ≡ Some pid
  pub before : slot_pid old o ≡ Some pid

in_by : (old new : Described) (n o : Slot) (p : Option ℕ) → slot_pid new n ≡ p → elim p [ None ↦ Null | Some pid ↦ slot_with old pid ] ≡ o →
    is_null o ≡ false → Stays old new n o
in_by old new n o None is e some = absurd (false≢true (sym some ∙ sym (ap is_null e)))
in_by old new n o (Some pid) is e some = record { pid = pid; now = is; before = slot_found old pid o e some }

pub stays : (old new : Described) (n o : Slot) → slot_in old new n ≡ o → is_null o ≡ false → Stays old new n o
stays old new n o e some = in_by old new n o (slot_pid new n) refl e some

-- and the other way round
pub goes_back : (old new : Described) (n o : Slot) → IsInRange new → Stays old new n o → slot_in new old o ≡ n
goes_back old new n o r s =
    ap (λ (p : Option ℕ). elim p [ None ↦ Null | Some pid ↦ slot_with new pid ]) s.before ∙ slot_is new n s.pid r s.now

-- ---- slots

abbrev pub slot_eq : Slot → Slot → Bool
slot_eq (Stream i) (Stream j) = i == j
slot_eq (Pcr i) (Pcr j) = i == j
slot_eq (Table t) (Table u) = t == u
slot_eq Null Null = true
slot_eq one other = false

slot_same : (a b : Slot) → slot_eq a b ≡ true → a ≡ b
slot_same (Stream i) (Stream j) e = ap Stream (eqb-true i j e)
slot_same (Stream i) (Pcr j) e = absurd (false≢true e)
slot_same (Stream i) (Table j) e = absurd (false≢true e)
slot_same (Stream i) Null e = absurd (false≢true e)
slot_same (Pcr i) (Stream j) e = absurd (false≢true e)
slot_same (Pcr i) (Pcr j) e = ap Pcr (eqb-true i j e)
slot_same (Pcr i) (Table j) e = absurd (false≢true e)
slot_same (Pcr i) Null e = absurd (false≢true e)
slot_same (Table i) (Stream j) e = absurd (false≢true e)
slot_same (Table i) (Pcr j) e = absurd (false≢true e)
slot_same (Table i) (Table j) e = ap Table (eqb-true i j e)
slot_same (Table i) Null e = absurd (false≢true e)
slot_same Null (Stream j) e = absurd (false≢true e)
slot_same Null (Pcr j) e = absurd (false≢true e)
slot_same Null (Table j) e = absurd (false≢true e)
slot_same Null Null e = refl

same_slot : (a : Slot) → slot_eq a a ≡ true
same_slot (Stream i) = eq-eqb i i refl
same_slot (Pcr i) = eq-eqb i i refl
same_slot (Table t) = eq-eqb t t refl
same_slot Null = refl

-- A slot is the one of a PID exactly if it has the PID.
slot_by_pid : (d : Described) (n x : Slot) (pid : ℕ) → IsInRange d → slot_pid d n ≡ Some pid → slot_eq n x ≡ is_pid pid (slot_pid d x)
slot_by_pid d n x pid r e = elim (cases_Bool (slot_eq n x)) [
  | inl same ↦ same ∙ sym (is_pid_of pid (slot_pid d x) (ap (slot_pid d) (sym (slot_same n x same)) ∙ e))
  | inr apart ↦ elim (cases_Bool (is_pid pid (slot_pid d x))) [
    | inl has ↦ absurd (false≢true (sym apart ∙ ap (slot_eq n) (sym (slots_apart d n x pid r e (pid_is pid (slot_pid d x) has))) ∙ same_slot n))
    | inr not_has ↦ apart ∙ sym not_has
  ]
]

-- ---- what both carry

or_parts : (a b : Bool) → (a || b) ≡ false → (a ≡ false) × (b ≡ false)
or_parts true b h = absurd (false≢true (sym h))
or_parts false b h = (refl, h)

differ_by : (same h k : Bool) → (not same && (h || k)) ≡ false → (same ≡ true) ⊎ ((h ≡ false) × (k ≡ false))
differ_by true h k e = inl refl
differ_by false h k e = inr (or_parts h k e)

not_carried : (d : Described) (pid : ℕ) (p : Option ℕ) → has_pid d (Some pid) ≡ true → has_pid d p ≡ false → is_pid pid p ≡ false
not_carried d pid p has unlisted = elim (cases_Bool (is_pid pid p)) [
  | inl here ↦ absurd (false≢true (sym unlisted ∙ ap (has_pid d) (pid_is pid p here) ∙ has))
  | inr apart ↦ apart
]

carried_by : (old new : Described) (pid : ℕ) (one other : Option ℕ) → has_pid old (Some pid) ≡ true → has_pid new (Some pid) ≡ true →
    differs old new one other ≡ false → is_pid pid one ≡ is_pid pid other
carried_by old new pid one other before now h = elim (differ_by (is_same_pid one other) (has_pid old other) (has_pid new one) h) [
  | inl same ↦ ap (is_pid pid) (same_option (λ (a b : ℕ). a == b) eqb-true one other same)
  | inr apart ↦ not_carried new pid one now apart.1 ∙ sym (not_carried old pid other before apart.0)
]

-- A PID that both have is carried in the same slots over all time.
pub same_carried : (old new : Served) (n o : Slot) (s : ℕ) (st : Stays old.description new.description n o) →
    Common (length old.plan.slots) (length new.plan.slots) (longer_period old new) → ((t : ℕ) → t < longer_period old new → differs_at old new t ≡ false) →
    is_pid st.pid (carried old s) ≡ is_pid st.pid (carried new s)
same_carried old new n o s st period same =
    all_time old.plan.slots new.plan.slots (λ (x : Slot). is_pid st.pid (slot_pid old.description x)) (λ (x : Slot). is_pid st.pid (slot_pid new.description x)) s
    period (λ t lt. carried_by old.description new.description st.pid (carried old t) (carried new t) (has_it old.description o st.pid st.before)
    (has_it new.description n st.pid st.now) (same t lt))

pub same_own : (old new : Served) (n o : Slot) (s : ℕ) → IsInRange old.description → IsInRange new.description →
    (st : Stays old.description new.description n o) → is_pid st.pid (carried old s) ≡ is_pid st.pid (carried new s) →
    slot_eq o (repeated old.plan.slots s) ≡ slot_eq n (repeated new.plan.slots s)
same_own old new n o s r r' st h =
    slot_by_pid old.description o (repeated old.plan.slots s) st.pid r st.before ∙ h
    ∙ sym (slot_by_pid new.description n (repeated new.plan.slots s) st.pid r' st.now)
