-- On the PIDs of what stays, the slots so far carry what the new line-up has there; and what comes has carried nothing.
use Rattle.std.proofs.Common.{◌≡◌, ℕ, ◌+◌, ◌*◌, ◌<◌, true, false, [], Option, Some, None, slice_get}
use Rattle.std.proofs.Common.{refl, sym, ap, ◌∙◌, inl, inr, eqb-true}
use Rattle.std.proofs.lemmas.Bool.{cases_Bool, eq-eqb, false≢true}
use Rattle.clock27.specs.Reference.{pcr_at}
use Rattle.ts_packet.specs.PidList.{is_of_pid}
use Rattle.slot_contents.specs.Contents.{PcrContent, view_of}
use Rattle.description_parts.specs.Described.{Described}
use Rattle.description_parts.specs.Ranges.{IsInRange}
use Rattle.description_parts.specs.Tables.{table_kinds}
use Rattle.description_parts.specs.declared.table_kind.TableKind.{TableKind}
use Rattle.slot_plan.specs.declared.slot.Slot.{Slot}
use Rattle.slot_plan.specs.declared.slot.Slot.TheVariants.{Stream, Pcr, Table, Null}
use Rattle.slot_plan.specs.Schedule.{slot_of}
use Rattle.slot_plan.specs.SlotPids.{slot_pid}
use Rattle.slot_plan.proofs.SlotPids.{slots_below}
use Rattle.plan_checker.specs.Served.{Served}
use Rattle.unit_queue.specs.OwnedStreams.{OwnedStream}
use Rattle.unit_queue.specs.Places.{stream_content}
use Rattle.line_ups.specs.Kept.{slot_with, slot_in, is_null, is_pid, carried, is_same_slot, stream_number, table_number, stream_before, table_before}
use Rattle.line_ups.specs.Laws.{StreamStays, IsKept}
use Rattle.line_ups.proofs.KeptSlots.{slot_found, slot_is}
use Rattle.mux_core.specs.Scheduled.{Scheduled}
use Rattle.mux_core.specs.Histories.{History, owned_stream, stream_in, pcr_content, table_in, content_in, content_over}
use Rattle.mux_core.specs.Headline.{UnitsKept}
use Rattle.mux_core.specs.LineUps.{scheduled_by, next_history, UntouchedOver}
use Rattle.mux_core.proofs.ContentPids.{names_over}
use Rattle.mux_core.proofs.LineUps.{same_stream, table_moves}
use Rattle.mux_core.proofs.MovedTables.{content_there}
use Rattle.mux_core.proofs.TextLaws.{SameOn, same_lists}
use Rattle.mux_core.proofs.Whole.{contents_fit_over}

null_named : (d : Described) (pid : ℕ) → slot_pid d Null ≡ Some pid → ⊥
unfolding slot_pid
null_named d pid e = absurd (cc)

module _ (before next : Served) (kept : IsKept before next) (h : History) where
  abbrev d : Scheduled
  d = scheduled_by before

  abbrev z : Scheduled
  z = scheduled_by next

  abbrev now : History
  now = next_history d h next.description

  -- A slot of one thing carries the same in both.

  stream_same : (s i k : ℕ) → stream_before before.description next.description k ≡ Some i →
      stream_in d h.units s i (slice_get before.description.streams i) ≡ stream_in z now.units s k (slice_get next.description.streams k)
  unfolding stream_in
  stream_same s i k is =
      let st : StreamStays before next k i = kept.streams k i is in
      ap (stream_in d h.units s i) st.had
      ∙ ap (λ (l : OwnedStream). stream_content l (h.units i) s) (same_stream before next kept h k i st)
      ∙ sym (ap (λ (b : Option ℕ). stream_content (owned_stream z k st.stream) (elim b [ None ↦ [] | Some j ↦ h.units j ]) s) is)
      ∙ sym (ap (stream_in z now.units s k) st.has)

  table_same : (s i t : ℕ) (was kind : Option TableKind) → s < h.slots → table_before before.description next.description t ≡ Some i →
      slice_get (table_kinds before.description) i ≡ was → slice_get (table_kinds next.description) t ≡ kind →
      is_same_slot before.description next.description (Table i) (Table t) ≡ true →
      table_in d h.changes s i was ≡ table_in z now.changes s t kind
  unfolding table_in
  table_same s i t (Some was) (Some kind) lt is was_is kind_is same = content_there h.slots _ _ (table_moves before next kept h t i is) s lt
  table_same s i t None None lt is was_is kind_is same = refl
  table_same s i t (Some was) None lt is was_is kind_is same = absurd (cc)
  table_same s i t None (Some kind) lt is was_is kind_is same = absurd (cc)

  clock_same : (s pid : ℕ) (a b : Option ℕ) → a ≡ Some pid → b ≡ Some pid → pcr_content before.description s a ≡ pcr_content next.description s b
  unfolding pcr_content
  clock_same s pid a b is at =
      ap (pcr_content before.description s) is
      ∙ ap (λ (rate : ℕ). PcrContent pid (pcr_at rate before.description.base0 (188 * s + 10))) (sym kept.rate)
      ∙ ap (λ (base0 : ℕ). PcrContent pid (pcr_at next.description.rate base0 (188 * s + 10))) (sym kept.base0)
      ∙ sym (ap (pcr_content next.description s) at)

  slot_same : (s pid : ℕ) (was slot : Slot) → s < h.slots → slot_pid before.description was ≡ Some pid → slot_pid next.description slot ≡ Some pid →
      slot_in before.description next.description slot ≡ was → is_same_slot before.description next.description was slot ≡ true →
      content_in d h.changes h.units s was ≡ content_in z now.changes now.units s slot
  unfolding content_in
  slot_same s pid (Stream i) (Stream k) lt named is at same = stream_same s i k (ap stream_number at)
  slot_same s pid (Table i) (Table t) lt named is at same =
      table_same s i t (slice_get (table_kinds before.description) i) (slice_get (table_kinds next.description) t) lt (ap table_number at) refl refl same
  slot_same s pid (Pcr i) (Pcr j) lt named is at same = clock_same s pid (slot_pid before.description (Pcr i)) (slot_pid next.description (Pcr j)) named is
  slot_same s pid (Stream i) (Table t) lt named is at same = absurd (cc)
  slot_same s pid (Stream i) (Pcr j) lt named is at same = absurd (cc)
  slot_same s pid (Stream i) Null lt named is at same = absurd (cc)
  slot_same s pid (Table i) (Stream k) lt named is at same = absurd (cc)
  slot_same s pid (Table i) (Pcr j) lt named is at same = absurd (cc)
  slot_same s pid (Table i) Null lt named is at same = absurd (cc)
  slot_same s pid (Pcr i) (Stream k) lt named is at same = absurd (cc)
  slot_same s pid (Pcr i) (Table t) lt named is at same = absurd (cc)
  slot_same s pid (Pcr i) Null lt named is at same = absurd (cc)
  slot_same s pid Null slot lt named is at same = absurd (null_named before.description pid named)

  named_by : (pid : ℕ) (o : Option ℕ) → is_pid pid o ≡ true → o ≡ Some pid
  named_by pid None e = absurd (false≢true e)
  named_by pid (Some other) e = ap Some (sym (eqb-true pid other e))

  not_named : (pid : ℕ) (o : Option ℕ) → is_pid pid o ≡ false → o ≡ Some pid → ⊥
  not_named pid o e is = absurd (false≢true (sym e ∙ ap (is_pid pid) is ∙ eq-eqb pid pid refl))

  -- A slot on another PID
  other_pid : (l : Served) (g : History) (s pid : ℕ) → pid < 8191 → is_pid pid (carried l s) ≡ false →
      is_of_pid pid (view_of (content_over (scheduled_by l) g.changes g.units s)) ≡ false
  other_pid l g s pid below none = elim (cases_Bool (is_of_pid pid (view_of (content_over (scheduled_by l) g.changes g.units s)))) [
    | inl y ↦ absurd (not_named pid (carried l s) none (names_over (scheduled_by l) g.changes g.units s pid below y))
    | inr n ↦ n
  ]

  slot_alike : (s pid : ℕ) → IsInRange before.description → IsInRange next.description → s < h.slots → is_null (slot_with before.description pid) ≡ false →
      is_null (slot_with next.description pid) ≡ false →
      SameOn pid (content_over d h.changes h.units s) (content_over z now.changes now.units s)
  unfolding content_over
  slot_alike s pid r ranges lt had has = elim (cases_Bool (is_pid pid (carried before s))) [
    | inl y ↦
        let was = slot_of d.schedule s in
        let slot = slot_of z.schedule s in
        let named : slot_pid before.description was ≡ Some pid = named_by pid (carried before s) y in
        let is : slot_pid next.description slot ≡ Some pid = named_by pid (carried next s) (sym (kept.pids pid had has s) ∙ y) in
        let there : slot_with before.description pid ≡ was = slot_is before.description was pid r named in
        let at : slot_in before.description next.description slot ≡ was =
        ap (λ (o : Option ℕ). elim o [ None ↦ Null | Some p ↦ slot_with before.description p ]) is ∙ there in
        inl (slot_same s pid was slot lt named is at (kept.things slot was at (sym (ap is_null there) ∙ had)))
    | inr n ↦
        let below : pid < 8191 = slots_below before.description (slot_with before.description pid) pid r
        (slot_found before.description pid (slot_with before.description pid) refl had) in
        inr (other_pid before h s pid below n, other_pid next now s pid below (sym (kept.pids pid had has s) ∙ n))
  ]

  pub untouched_over : IsInRange before.description → IsInRange next.description → UnitsKept d h.units → UnitsKept z now.units → UntouchedOver d h next
  untouched_over r ranges units others pid had has =
      same_lists h.slots pid (content_over d h.changes h.units) (content_over z now.changes now.units)
      (contents_fit_over d h.changes h.units r units) (contents_fit_over z now.changes now.units ranges others)
      (λ s lt. slot_alike s pid r ranges lt had has)
