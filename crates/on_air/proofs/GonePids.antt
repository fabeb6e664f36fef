-- PIDs that have gone stay known
use Rattle.std.proofs.Common.{◌≡◌, ◌⊎◌, ℕ, ◌==◌, ◌||◌, Bool, true, false, cond, List, [], ◌∷◌, Option, Some, None, refl, sym, ap, ◌∙◌}
use Rattle.std.proofs.Common.{inl, inr, position, eq-eqb, if◌then◌else◌}
use Rattle.std.specs.Prelude.{find, is_some, option_and_then}
use Rattle.std.specs.List.{cons_option, filter_map, list_any}
use Rattle.std.proofs.lemmas.Bool.{cases_Bool, false≢true}
use Rattle.std.proofs.lemmas.List.Folds.{list_any-append, list_any_at}
use Rattle.std.proofs.lemmas.List.Quantifiers.{position-Some}
use Rattle.description_parts.specs.Described.{Described}
use Rattle.slot_plan.specs.declared.slot.Slot.{Slot}
use Rattle.slot_plan.specs.declared.slot.Slot.TheVariants.{Null}
use Rattle.slot_plan.specs.SlotPids.{slot_pid}
use Rattle.plan_checker.specs.Served.{Served}
use Rattle.line_ups.specs.Kept.{has_listed, has_pid, is_pid, number_with, numbered_slot, slot_pids, slot_with}
use Rattle.line_ups.proofs.Numbers.{is_pid_of, number_found, number_missed, pid_is, slot_numbered}
use Rattle.turns.specs.TakenOver.{AreNew}
use Rattle.on_air.specs.LineUps.{is_among, pids_gone, returned_pid, unless_listed}
use Rattle.on_air.specs.Airing.{Air, Run}
use Rattle.on_air.specs.AirStates.{KnowsGone}
use Rattle.on_air.specs.Courses.{taken_over, with_line_up}

or_cases : (a b : Bool) → (a || b) ≡ true → (a ≡ true) ⊎ (b ≡ true)
or_cases true b e = inl refl
or_cases false b e = inr e

or_false : (a b : Bool) → (a || b) ≡ false → (a ≡ false) × (b ≡ false)
or_false true b e = absurd cc
or_false false b e = (refl, e)

-- ---- A PID in a list

listed_some : (pids : List (Option ℕ)) (pid : ℕ) (o : Option ℕ) → position (is_pid pid) pids ≡ o → is_some o ≡ true → list_any (is_pid pid) pids ≡ true
listed_some pids pid None is some = absurd (false≢true some)
listed_some pids pid (Some i) is some =
    let found = position-Some (is_pid pid) pids i None is in list_any_at (is_pid pid) pids i None found.0 found.1

listed : (d : Described) (pid : ℕ) → has_pid d (Some pid) ≡ true → list_any (is_pid pid) (slot_pids d) ≡ true
listed d pid some = listed_some (slot_pids d) pid (position (is_pid pid) (slot_pids d)) refl some

-- No PID of a description has gone if none returns.
none_among : (gone : List ℕ) (pids : List (Option ℕ)) (pid : ℕ) → option_and_then (λ (p : Option ℕ). p) (find (is_among gone) pids) ≡ None →
    list_any (is_pid pid) pids ≡ true → is_among gone (Some pid) ≡ false
none_among gone [] pid none some = absurd (false≢true some)
none_among gone (None ∷ pids) pid none some = none_among gone pids pid none some
none_among gone (Some q ∷ pids) pid none some = by (is_among gone (Some q)) refl none (λ e there. none_among gone pids pid e there)
  where
    by : (b : Bool) → is_among gone (Some q) ≡ b → option_and_then (λ (p : Option ℕ). p) (cond b (Some (Some q)) (find (is_among gone) pids)) ≡ None →
        (option_and_then (λ (p : Option ℕ). p) (find (is_among gone) pids) ≡ None → list_any (is_pid pid) pids ≡ true → is_among gone (Some pid) ≡ false) →
        is_among gone (Some pid) ≡ false
    by true is e later = absurd cc
    by false is e later = elim (or_cases (is_pid pid (Some q)) (list_any (is_pid pid) pids) some) [
      | inl here ↦ ap (is_among gone) (sym (pid_is pid (Some q) here)) ∙ is
      | inr there ↦ later e there
    ]

-- A PID of the old description that the new one does not have has gone.
any_more : (q : ℕ → Bool) (o : Option ℕ) (xs : List ℕ) → list_any q xs ≡ true → list_any q (cons_option o xs) ≡ true
any_more q None xs e = e
any_more q (Some y) xs e = by (q y)
  where
    by : (b : Bool) → (b || list_any q xs) ≡ true
    by true = refl
    by false = e

goes : (news pids : List (Option ℕ)) (pid : ℕ) → list_any (is_pid pid) pids ≡ true → has_listed news (Some pid) ≡ false →
    list_any (λ p. p == pid) (filter_map (unless_listed news) pids) ≡ true
goes news [] pid some missed = absurd (false≢true some)
goes news (o ∷ pids) pid some missed = elim (or_cases (is_pid pid o) (list_any (is_pid pid) pids) some) [
  | inl here ↦
      let is : unless_listed news o ≡ Some pid = ap (unless_listed news) (pid_is pid o here) ∙ ap (λ (b : Bool). if b then None else Some pid) missed in
      ap (λ (r : Option ℕ). list_any (λ p. p == pid) (cons_option r (filter_map (unless_listed news) pids))) is
      ∙ ap (λ (b : Bool). b || list_any (λ p. p == pid) (filter_map (unless_listed news) pids)) (eq-eqb pid pid refl)
  | inr there ↦ any_more (λ p. p == pid) (unless_listed news o) (filter_map (unless_listed news) pids) (goes news pids pid there missed)
]

-- ---- A PID that a description has or not

-- What a slot of a description has is among its PIDs.
has_it : (d : Described) (slot : Slot) (pid : ℕ) → slot_pid d slot ≡ Some pid → has_pid d (Some pid) ≡ true
has_it d slot pid e = by (number_with d pid) refl
  where
    by : (f : Option ℕ) → number_with d pid ≡ f → is_some f ≡ true
    by (Some n) is = refl
    by None is =
        let n = slot_numbered d slot pid e in
        absurd (false≢true (sym (number_missed d pid n.number is n.within)
        ∙ is_pid_of pid (slot_pid d (numbered_slot d n.number)) (ap (slot_pid d) n.is ∙ e)))

with_none : (d : Described) (pid : ℕ) (f : Option ℕ) → number_with d pid ≡ f → elim f [ None ↦ Null | Some n ↦ numbered_slot d n ] ≡ Null → is_some f ≡ false
unfolding slot_pid
with_none d pid None is e = refl
with_none d pid (Some n) is e =
    let found : slot_pid d Null ≡ Some pid = ap (slot_pid d) (sym e) ∙ (number_found d pid n is).is in
    absurd (let never : None ≡ Some pid = found in cc)

missing : (d : Described) (pid : ℕ) → slot_with d pid ≡ Null → has_pid d (Some pid) ≡ false
missing d pid e = with_none d pid (number_with d pid) refl e

none_with : (d : Described) (f : Option ℕ) → is_some f ≡ false → elim f [ None ↦ Null | Some n ↦ numbered_slot d n ] ≡ Null
none_with d None e = refl
none_with d (Some n) e = absurd cc

off : (d : Described) (pid : ℕ) → has_pid d (Some pid) ≡ false → slot_with d pid ≡ Null
off d pid e = none_with d (number_with d pid) e

-- ---- The PIDs of a run

-- What comes was not on air before.
pub are_new : (run : Run) (a : Air) (next : Served) → KnowsGone run a → returned_pid a.before.gone next.description ≡ None →
    AreNew run.scheduled next a.before.turns
are_new run a next knows none =
    λ pid slot named away. knows pid
    (none_among a.before.gone (slot_pids next.description) pid none (listed next.description pid (has_it next.description slot pid named))) away

-- The PIDs are known under the next line-up.
pub knows_next : (run : Run) (a : Air) (next : Served) → KnowsGone run a → KnowsGone (with_line_up run next) (taken_over run a next.description)
knows_next run a next knows = λ pid stays away.
    let parts = or_false (list_any (λ p. p == pid) a.before.gone)
    (list_any (λ p. p == pid) (pids_gone run.scheduled.description next.description))
    (sym (list_any-append (λ p. p == pid) a.before.gone (pids_gone run.scheduled.description next.description)) ∙ stays) in
    let old : has_pid run.scheduled.description (Some pid) ≡ false = elim (cases_Bool (has_pid run.scheduled.description (Some pid))) [
      | inl has ↦ absurd (false≢true (sym parts.1
          ∙ goes (slot_pids next.description) (slot_pids run.scheduled.description) pid (listed run.scheduled.description pid has)
          (missing next.description pid away)))
      | inr has_not ↦ has_not
    ] in
    (λ slot named. false≢true (sym old ∙ has_it run.scheduled.description slot pid named), knows pid parts.0 (off run.scheduled.description pid old))
