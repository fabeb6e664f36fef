-- A line-up that takes the place of the one in force: what it has on a PID stays or comes.
use Rattle.std.proofs.Common.{◌≡◌, ◌⊎◌, ℕ, Bool, true, false, List, [], ◌∷◌, Option, None, Some, slice_get, option_map, refl, sym, ap, subst, ◌∙◌, inl, inr}
use Rattle.std.proofs.lemmas.Bool.{false≢true}
use Rattle.std.proofs.lemmas.Option.{slice_get_within}
use Rattle.std.specs.Prelude.{not}
use Rattle.std.specs.Option.{option_or}
use Rattle.ts_packet.specs.PidList.{pid_list}
use Rattle.description_parts.specs.Described.{Described, DescribedStream}
use Rattle.description_parts.specs.Ranges.{IsInRange}
use Rattle.description_parts.specs.Tables.{table_kinds, table_kind, table_pid}
use Rattle.description_parts.specs.declared.table_kind.TableKind.{TableKind}
use Rattle.slot_plan.specs.declared.slot.Slot.{Slot}
use Rattle.slot_plan.specs.declared.slot.Slot.TheVariants.{Stream, Pcr, Table, Null}
use Rattle.slot_plan.specs.SlotPids.{slot_pid}
use Rattle.plan_checker.specs.Served.{Served}
use Rattle.changed_texts.proofs.Differences.{none_passes}
use Rattle.line_ups.specs.Faults.{is_other, is_reused, pid_fault}
use Rattle.line_ups.specs.Kept.{is_null, is_same_slot, slot_count, slot_in, slot_with, stream_number, table_number}
use Rattle.line_ups.proofs.KeptSlots.{slot_found, slot_is}
use Rattle.line_ups.proofs.Numbers.{slot_numbered}
use Rattle.mux_core.specs.Scheduled.{Scheduled}
use Rattle.mux_core.specs.Histories.{History}
use Rattle.mux_core.specs.LineUps.{scheduled_by, next_history, line_up_cause, bytes_by, UntouchedOver, SilentBefore}
use Rattle.turns.specs.Turns.{Turn, turn_with, is_clock, StaysOn, ComesOn}
use Rattle.turns.specs.TakenOver.{AreNew, FollowsLaw}

-- A line-up without a fault has on a PID of the one before it the same thing.
no_first : {X Y Z : Type 0} (f : X → Z) (g : Y → Z) (a : Option X) (b : Option Y) → option_or (option_map f a) (option_map g b) ≡ None → a ≡ None
no_first f g None b e = refl
no_first f g (Some x) b e = absurd (cc)

no_one : {X : Type 0} (a b : Option X) → option_or a b ≡ None → (a ≡ None) × (b ≡ None)
no_one None b e = (refl, e)
no_one (Some x) b e = absurd (cc)

no_number : {X Y : Type 0} (f : X → Y) (o : Option X) → option_map f o ≡ None → o ≡ None
no_number f None e = refl
no_number f (Some x) e = absurd (cc)

no_pid_fault : (d : Scheduled) (h : History) (next : Served) → line_up_cause d h next ≡ None → pid_fault d.description next.description ≡ None
no_pid_fault d h next none = (no_one _ _ (no_one _ _ (no_first _ _ _ _ none)).0).1

not_false : (b : Bool) → not b ≡ false → b ≡ true
not_false true e = refl
not_false false e = absurd (false≢true (sym e))

same_slot : (old new : Described) (o n : Slot) → is_other old new o n ≡ false → is_null o ≡ false → is_same_slot old new o n ≡ true
same_slot old new (Stream i) n e some = not_false (is_same_slot old new (Stream i) n) e
same_slot old new (Pcr i) n e some = not_false (is_same_slot old new (Pcr i) n) e
same_slot old new (Table i) n e some = not_false (is_same_slot old new (Table i) n) e
same_slot old new Null n e some = absurd (false≢true (sym some))

same_thing : (old new : Described) (n o : Slot) (pid : ℕ) → pid_fault old new ≡ None → slot_pid new n ≡ Some pid → slot_in old new n ≡ o → is_null o ≡ false →
    is_same_slot old new o n ≡ true
same_thing old new n o pid none named is some =
    let number = slot_numbered new n pid named in
    let kept : is_reused old new number.number ≡ false = none_passes (is_reused old new) (slot_count new) number.number (no_number _ _ none) number.within in
    same_slot old new o n (ap (λ (x : Slot). is_other old new x n) (sym is)
    ∙ ap (λ (x : Slot). is_other old new (slot_in old new x) x) (sym number.is) ∙ kept) some

-- A slot with a PID is not the null packet.
not_null : (d : Described) (slot : Slot) (pid : ℕ) → slot_pid d slot ≡ Some pid → is_null slot ≡ false
unfolding slot_pid
not_null d (Stream k) pid e = refl
not_null d (Pcr i) pid e = refl
not_null d (Table t) pid e = refl
not_null d Null pid e = absurd (cc)

-- The slots of one thing are of one kind.
one_kind : (old new : Described) (o n : Slot) → is_same_slot old new o n ≡ true → is_clock o ≡ is_clock n
one_kind old new (Stream i) (Stream j) e = refl
one_kind old new (Stream i) (Pcr j) e = absurd (false≢true e)
one_kind old new (Stream i) (Table j) e = refl
one_kind old new (Stream i) Null e = refl
one_kind old new (Pcr i) (Stream j) e = absurd (false≢true e)
one_kind old new (Pcr i) (Pcr j) e = refl
one_kind old new (Pcr i) (Table j) e = absurd (false≢true e)
one_kind old new (Pcr i) Null e = absurd (false≢true e)
one_kind old new (Table i) (Stream j) e = refl
one_kind old new (Table i) (Pcr j) e = absurd (false≢true e)
one_kind old new (Table i) (Table j) e = refl
one_kind old new (Table i) Null e = refl
one_kind old new Null (Stream j) e = refl
one_kind old new Null (Pcr j) e = absurd (false≢true e)
one_kind old new Null (Table j) e = refl
one_kind old new Null Null e = refl

was_in : (old new : Described) (slot o : Slot) (pid : ℕ) → slot_pid new slot ≡ Some pid → slot_with old pid ≡ o → slot_in old new slot ≡ o
was_in old new slot o pid named is = ap (λ (p : Option ℕ). elim p [ None ↦ Null | Some other ↦ slot_with old other ]) named ∙ is

-- ---- What stays

stays_on : (from : ℕ) (d : Scheduled) (h : History) (next : Served) (pid : ℕ) (slot o : Slot) → IsInRange next.description →
    line_up_cause d h next ≡ None → UntouchedOver d h next → slot_pid next.description slot ≡ Some pid → slot_with d.description pid ≡ o → is_null o ≡ false →
    StaysOn (turn_with h.slots (scheduled_by next) (next_history d h next.description)) (turn_with from d h) pid slot
stays_on from d h next pid slot o r none untouched named is some = record {
  slot_before = o;
  named = slot_found d.description pid o is some;
  clock = one_kind d.description next.description o slot
      (same_thing d.description next.description slot o pid (no_pid_fault d h next none) named (was_in d.description next.description slot o pid named is) some);
  same = untouched pid (ap is_null is ∙ some)
      (ap is_null (slot_is next.description slot pid r named) ∙ not_null next.description slot pid named);
}

-- ---- What comes

off_before : (d : Described) (pid : ℕ) (slot : Slot) → IsInRange d → slot_with d pid ≡ Null → slot_pid d slot ≡ Some pid → ⊥
off_before d pid slot r none named =
    false≢true (sym (not_null d slot pid named) ∙ ap is_null (sym (slot_is d slot pid r named) ∙ none))

abbrev IsSilent : Scheduled → History → Served → ℕ → Type 0
IsSilent d h next pid = pid_list pid (bytes_by d h next) ≡ []

stream_silent : (d : Scheduled) (h : History) (next : Served) (k pid : ℕ) (o : Option DescribedStream) → slice_get next.description.streams k ≡ o →
    option_map (λ s. s.pid) o ≡ Some pid → slot_in d.description next.description (Stream k) ≡ Null → SilentBefore d h next → IsSilent d h next pid
stream_silent d h next k pid None is e none silent = absurd (cc)
stream_silent d h next k pid (Some s) is e none silent =
    let same : s.pid ≡ pid = cc in subst (IsSilent d h next) same (silent.streams k s is (ap stream_number none))

table_silent : (d : Scheduled) (h : History) (next : Served) (t pid : ℕ) (o : Option TableKind) → table_kind next.description t ≡ o →
    option_map (λ k. table_pid next.description t) o ≡ Some pid → slot_in d.description next.description (Table t) ≡ Null → SilentBefore d h next →
    IsSilent d h next pid
table_silent d h next t pid None is e none silent = absurd (cc)
table_silent d h next t pid (Some kind) is e none silent =
    let same : table_pid next.description t ≡ pid = cc in
    subst (IsSilent d h next) same (silent.tables t (slice_get_within (table_kinds next.description) t kind is) (ap table_number none))

slot_silent : (d : Scheduled) (h : History) (next : Served) (pid : ℕ) (slot : Slot) → slot_pid next.description slot ≡ Some pid →
    slot_in d.description next.description slot ≡ Null → SilentBefore d h next → is_clock slot ≡ false → IsSilent d h next pid
unfolding slot_pid
slot_silent d h next pid (Stream k) named none silent other =
    stream_silent d h next k pid (slice_get next.description.streams k) refl named none silent
slot_silent d h next pid (Pcr i) named none silent other = absurd (false≢true (sym other))
slot_silent d h next pid (Table t) named none silent other = table_silent d h next t pid (table_kind next.description t) refl named none silent
slot_silent d h next pid Null named none silent other = absurd (cc)

comes_on : (from : ℕ) (d : Scheduled) (h : History) (next : Served) (earlier : List Turn) (pid : ℕ) (slot : Slot) → IsInRange d.description →
    SilentBefore d h next → AreNew d next earlier → slot_pid next.description slot ≡ Some pid → slot_with d.description pid ≡ Null →
    ComesOn (turn_with h.slots (scheduled_by next) (next_history d h next.description)) (turn_with from d h ∷ earlier) pid slot
comes_on from d h next earlier pid slot r silent new named none = record {
  off = (λ other e. off_before d.description pid other r none e, new pid slot named none);
  silent = λ other. slot_silent d h next pid slot named (was_in d.description next.description slot Null pid named none) silent other;
}

pub follows_law : FollowsLaw
follows_law from d h next earlier r r' le none untouched silent new = record {
  later = le;
  pids = λ pid slot named. by pid slot named (slot_with d.description pid) refl;
}
  where
    now : Turn
    now = turn_with h.slots (scheduled_by next) (next_history d h next.description)

    before : Turn
    before = turn_with from d h

    by : (pid : ℕ) (slot : Slot) → slot_pid next.description slot ≡ Some pid → (o : Slot) → slot_with d.description pid ≡ o →
        StaysOn now before pid slot ⊎ ComesOn now (before ∷ earlier) pid slot
    by pid slot named (Stream i) is = inl (stays_on from d h next pid slot (Stream i) r' none untouched named is refl)
    by pid slot named (Pcr i) is = inl (stays_on from d h next pid slot (Pcr i) r' none untouched named is refl)
    by pid slot named (Table i) is = inl (stays_on from d h next pid slot (Table i) r' none untouched named is refl)
    by pid slot named Null is = inr (comes_on from d h next earlier pid slot r silent new named is)
