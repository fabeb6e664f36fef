-- What began before a change and since, and the marks of it.
use Rattle.std.proofs.Common.{◌≡◌, ℕ, zero, suc, ◌+◌, ◌<◌, ◌≤◌, ◌==◌, ◌&&◌, ◌||◌, nat_le, nat_lt, not, Bool, true, false, cond, List, ◌∷◌, map}
use Rattle.std.proofs.Common.{set, length, get_or, Option, Some, None, slice_get, refl, sym, ap, subst, ◌∙◌, arith, inl, inr, get_or-set_same, get_or-set_other}
use Rattle.std.specs.Prelude.{option_and_then, option_map}
use Rattle.std.specs.List.{range_with_len}
use Rattle.std.proofs.lemmas.Bool.{cases_eq, eq-eqb, ne_eqb, le-leb, lt-leb}
use Rattle.std.proofs.lemmas.List.{length-set}
use Rattle.std.proofs.lemmas.List.FromFn.{get_or-map-range_with_len, length-map-range_with_len}
use Rattle.description_parts.specs.Described.{Described}
use Rattle.description_parts.specs.Tables.{table_kinds, table_count, section_count}
use Rattle.description.specs.declared.sub_table.SubTable.{SubTable}
use Rattle.description.specs.SubTables.{sub_table_count, sub_table_number, sub_table_of}
use Rattle.changed_texts.specs.Versions.{changed}
use Rattle.slot_plan.specs.declared.slot.Slot.{Slot}
use Rattle.slot_plan.specs.declared.slot.Slot.TheVariants.{Stream, Pcr, Table, Null}
use Rattle.slot_plan.specs.Schedule.{slot_of}
use Rattle.table_rounds.specs.Tables.{place_at}
use Rattle.table_rounds.specs.Carousels.{Carousel, next_section}
use Rattle.mux_core.specs.Scheduled.{Scheduled}
use Rattle.mux_core.specs.Histories.{Change, TextsSoFar, NextTexts, unchanged, past_of, until_of, by_past}
use Rattle.mux_core.specs.Histories.{table_over}
use Rattle.mux_core.specs.TextChanges.{since_of, sub_table_there, is_numbered, begins_at, begins_in, began_at, began_since}
use Rattle.mux_core.specs.SlotSteps.{marked, number_there, still_at, sent_still}
use Rattle.mux_core.proofs.TextChanges.{text_before, past_now}

pub and_false : (b : Bool) → (b && false) ≡ false
and_false true = refl
and_false false = refl

or_false : (b : Bool) → (b || false) ≡ b
or_false true = refl
or_false false = refl

begins_before : (d : Scheduled) (change : Change) (earlier : TextsSoFar) (x s : ℕ) (slot : Slot) → s < change.from →
    begins_in d (NextTexts change earlier) x s slot ≡ begins_in d earlier x s slot
unfolding begins_in
begins_before d change earlier x s (Stream k) lt = refl
begins_before d change earlier x s (Pcr p) lt = refl
begins_before d change earlier x s (Table t) lt =
    ap (λ (e : Described). begins_at e x t (place_at (table_over d unchanged t) s)) (text_before d.description change earlier s lt)
begins_before d change earlier x s Null lt = refl

-- What began before the change began by the texts before it.
began_before : (d : Scheduled) (change : Change) (earlier : TextsSoFar) (x since s : ℕ) → s ≤ change.from →
    began_since d (NextTexts change earlier) x since s ≡ began_since d earlier x since s
unfolding began_since
began_before d change earlier x since zero le = refl
began_before d change earlier x since (suc s) le =
    ap (λ (b : Bool). b || (nat_le since s && began_at d (NextTexts change earlier) x s))
    (began_before d change earlier x since s (omega (arith, le)))
    ∙ ap (λ (b : Bool). began_since d earlier x since s || (nat_le since s && by_past (past_of earlier) s (λ past. true) b))
    (begins_before d change earlier x s (slot_of d.schedule s) (omega (arith, le)))

-- Nothing began since a slot that is yet to come.
began_none : (d : Scheduled) (changes : TextsSoFar) (x since s : ℕ) → s ≤ since → began_since d changes x since s ≡ false
unfolding began_since
began_none d changes x since zero le = refl
began_none d changes x since (suc s) le =
    ap (λ (b : Bool). b || (nat_le since s && began_at d changes x s)) (began_none d changes x since s (omega (arith, le)))
    ∙ ap (λ (b : Bool). b && began_at d changes x s) (lt-leb since s (omega (arith, le)))

-- One slot more, after the past: what began, or begins there.
began_now : (d : Scheduled) (changes : TextsSoFar) (x s : ℕ) → until_of (past_of changes) ≤ s → began_at d changes x s ≡ begins_in d changes x s (slot_of d.schedule s)
began_now d changes x s over = past_now (past_of changes) s (λ past. true) (begins_in d changes x s (slot_of d.schedule s)) over

pub began_step : (d : Scheduled) (changes : TextsSoFar) (x since s : ℕ) → since ≤ s →
    began_since d changes x since (suc s) ≡ (began_since d changes x since s || began_at d changes x s)
unfolding began_since
began_step d changes x since s le = ap (λ (b : Bool). began_since d changes x since s || (b && began_at d changes x s)) (le-leb since s le)

pub began_more : (d : Scheduled) (changes : TextsSoFar) (x since s : ℕ) → since ≤ s → until_of (past_of changes) ≤ s →
    began_since d changes x since (suc s) ≡ (began_since d changes x since s || begins_in d changes x s (slot_of d.schedule s))
began_more d changes x since s le over =
    began_step d changes x since s le
    ∙ ap (λ (b : Bool). began_since d changes x since s || b) (began_now d changes x s over)

pub began_idle : (d : Scheduled) (changes : TextsSoFar) (x since s : ℕ) → until_of (past_of changes) ≤ s →
    begins_in d changes x s (slot_of d.schedule s) ≡ false → began_since d changes x since (suc s) ≡ began_since d changes x since s
unfolding began_since
began_idle d changes x since s over none =
    ap (λ (b : Bool). began_since d changes x since s || (nat_le since s && b)) (began_now d changes x s over ∙ none)
    ∙ ap (λ (b : Bool). began_since d changes x since s || b) (and_false (nat_le since s)) ∙ or_false (began_since d changes x since s)

-- The marks

pub marked_size : (sent : List Bool) (o : Option ℕ) → length (marked sent o) ≡ length sent
marked_size sent None = refl
marked_size sent (Some n) = length-set sent n true

pub or_true : (b : Bool) → (b || true) ≡ true
or_true true = refl
or_true false = refl

marked_is : (sent : List Bool) (x : ℕ) (o : Option SubTable) → x < length sent → get_or (marked sent (option_map sub_table_number o)) x false ≡ (get_or sent x false || is_numbered x o)
marked_is sent x None lt = sym (or_false (get_or sent x false))
marked_is sent x (Some y) lt = elim (cases_eq (sub_table_number y) x) [
  | inl e ↦ subst (λ (n : ℕ). get_or (set sent n true) x false ≡ (get_or sent x false || (n == x))) (sym e)
      (get_or-set_same sent x true false lt ∙ sym (ap (λ (b : Bool). get_or sent x false || b) (eq-eqb x x refl) ∙ or_true (get_or sent x false)))
  | inr ne ↦ get_or-set_other sent (sub_table_number y) x true false (λ e. ne (sym e))
      ∙ sym (ap (λ (b : Bool). get_or sent x false || b) (ne_eqb (sub_table_number y) x ne) ∙ or_false (get_or sent x false))
]

-- the section that begins at a place, if its part is 0
at_part : (sent : List Bool) (x section : ℕ) (b : Bool) (f : ℕ → Option SubTable) → x < length sent →
    get_or (marked sent (option_map sub_table_number (option_and_then f (cond b (Some section) None)))) x false ≡ (get_or sent x false || (b && is_numbered x (f section)))
at_part sent x section true f lt = marked_is sent x (f section) lt
at_part sent x section false f lt = marked_is sent x None lt

pub marked_at : (sent : List Bool) (texts : Described) (x t : ℕ) (carousel : Carousel) → x < length sent →
    get_or (marked sent (number_there texts t (next_section carousel))) x false
    ≡ (get_or sent x false || begins_at texts x t (record { section = carousel.section; part = carousel.part }))
marked_at sent texts x t carousel lt = at_part sent x carousel.section (carousel.part == 0) (sub_table_there texts t) lt

-- no section of a table that the description has not
pub none_there : (texts : Described) (t section : ℕ) → slice_get (table_kinds texts) t ≡ None → sub_table_there texts t section ≡ None
none_there texts t section none =
    let of : sub_table_of texts t section ≡ None = rw none refl in
    by (nat_lt t (table_count texts)) (nat_lt section (section_count texts t)) (sub_table_of texts t section) of
  where
    by : (a b : Bool) (o : Option SubTable) → o ≡ None → cond a (cond b o None) None ≡ None
    by true true o e = e
    by true false o e = refl
    by false b o e = refl

-- the marks after a change: those that were there, but for the sub-tables that change
still : (d : Scheduled) (change : Change) (earlier : TextsSoFar) (x : ℕ) (b : Bool) →
    change.since x ≡ cond b change.from (since_of earlier x) →
    (began_since d earlier x (since_of earlier x) change.from && not b) ≡ began_since d (NextTexts change earlier) x (change.since x) change.from
still d change earlier x true is =
    and_false (began_since d earlier x (since_of earlier x) change.from)
    ∙ sym (ap (λ (n : ℕ). began_since d (NextTexts change earlier) x n change.from) is
    ∙ began_none d (NextTexts change earlier) x change.from change.from (omega arith))
still d change earlier x false is =
    and_true (began_since d earlier x (since_of earlier x) change.from)
    ∙ sym (ap (λ (n : ℕ). began_since d (NextTexts change earlier) x n change.from) is
    ∙ began_before d change earlier x (since_of earlier x) change.from (omega arith))
  where
    and_true : (b : Bool) → (b && true) ≡ b
    and_true true = refl
    and_true false = refl

pub marks_go_on : (d : Scheduled) (change : Change) (earlier : TextsSoFar) (sent : List Bool) (now texts : Described) (moment x : ℕ) →
    x < sub_table_count → get_or sent x false ≡ began_since d earlier x (since_of earlier x) change.from →
    change.since x ≡ cond (changed now texts moment x) change.from (since_of earlier x) →
    get_or (sent_still sent (changed now texts moment)) x false ≡ began_since d (NextTexts change earlier) x (change.since x) change.from
marks_go_on d change earlier sent now texts moment x lt was is =
    get_or-map-range_with_len (still_at sent (changed now texts moment)) 0 sub_table_count x x false lt (omega arith)
    ∙ ap (λ (b : Bool). b && not (changed now texts moment x)) was
    ∙ still d change earlier x (changed now texts moment x) is

pub still_size : (sent : List Bool) (change : ℕ → Bool) → length (sent_still sent change) ≡ sub_table_count
still_size sent change = length-map-range_with_len (still_at sent change) 0 sub_table_count

same_map : (f g : ℕ → Bool) (a n : ℕ) → ((i : ℕ) → i < a + n → f i ≡ g i) → map f (range_with_len a n) ≡ map g (range_with_len a n)
same_map f g a zero same = refl
same_map f g a (suc n) same =
    ap (λ (b : Bool). b ∷ map f (range_with_len (a + 1) n)) (same a (omega arith))
    ∙ ap (λ (l : List Bool). g a ∷ l) (same_map f g (a + 1) n (λ i lt. same i (omega (arith, lt))))

-- Two tests that agree on all sub-tables leave the same marks.
pub still_same : (sent : List Bool) (change other : ℕ → Bool) → ((n : ℕ) → n < sub_table_count → change n ≡ other n) →
    sent_still sent change ≡ sent_still sent other
still_same sent change other same = same_map (still_at sent change) (still_at sent other) 0 sub_table_count
    (λ i lt. ap (λ (b : Bool). get_or sent i false && not b) (same i (omega (arith, lt))))
