-- Feeding units and writing slots in any order.
use Rattle.std.proofs.Common.{◌≡◌, ℕ, suc, ◌+◌, ◌<◌, ◌≤◌, ◌^◌, Bool, true, false, cond, nat_lt, List, [], ◌∷◌, ◌++◌, Option, Some, None, Result, Ok, Err, refl, sym, ap, ◌∙◌}
use Rattle.std.proofs.Common.{subst, arith, append_assoc, append-nil, inl, inr}
use Rattle.std.specs.Prelude.{slice_get, IfErr}
use Rattle.std.proofs.Math.Path.{fun_ext}
use Rattle.std.proofs.lemmas.Bool.{lt-ltb, le-ltb, cases_lt}
use Rattle.pes_packet.specs.AccessUnits.{AccessUnit}
use Rattle.slot_contents.specs.Contents.{packet_of, run_bytes}
use Rattle.description_parts.specs.Ranges.{IsInRange}
use Rattle.slot_plan.specs.Promised.{Promised}
use Rattle.unit_queue.specs.Causes.{refusal}
use Rattle.unit_queue.specs.declared.refusal.FeedError.{FeedError}
use Rattle.mux_core.specs.Formats.{formatted}
use Rattle.mux_core.specs.Scheduled.{Scheduled}
use Rattle.mux_core.specs.Histories.{History, content_over, bytes_of, empty_history, next_slot, TextsSoFar}
use Rattle.mux_core.specs.MuxStates.{MuxState, Represents, Gives, Takes, feed_cause}
use Rattle.mux_core.specs.Headline.{HeadlineOver}
use Rattle.mux_core.specs.Events.{Step, FeedStep, SlotStep, fed_history, step_history, history_after, Adds, StillRepresents, WrittenStays, OrderIsFree}
use Rattle.mux_core.specs.declared.done.Done.{Done}
use Rattle.mux_core.specs.declared.room.Room.{Room}
use Rattle.mux_core.proofs.FedUnits.{bytes_kept}
use Rattle.mux_core.proofs.MuxStates.{feed_laws}
use Rattle.mux_core.proofs.Accepted.{any_state}
use Rattle.mux_core.proofs.JobWriting.{output_bytes, output_more}

-- Each slot appends its packet to the bytes of the history.
bytes_more : (d : Scheduled) (h : History) → bytes_of d (next_slot h) ≡ bytes_of d h ++ packet_of (content_over d h.changes h.units h.slots)
unfolding formatted
bytes_more d h =
    let next : suc h.slots ≡ h.slots + 1 = omega arith in
    ap (λ (n : ℕ). run_bytes (content_over d h.changes h.units) 0 n) next
    ∙ sym (output_bytes (content_over d h.changes h.units) 0 (h.slots + 1)) ∙ output_more false (content_over d h.changes h.units) h.slots
    ∙ ap (λ (l : List ℕ). l ++ packet_of (content_over d h.changes h.units h.slots)) (output_bytes (content_over d h.changes h.units) 0 h.slots)

adds_none : (d : Scheduled) (h : History) (out : List ℕ) → Adds d h h out out
adds_none d h out = record { added = []; bytes = sym (append-nil (bytes_of d h)); output = sym (append-nil out) }

adds_more : (d : Scheduled) (h g k : History) (old mid new : List ℕ) → Adds d h g old mid → Adds d g k mid new → Adds d h k old new
adds_more d h g k old mid new a b = record {
  added = a.added ++ b.added;
  bytes = b.bytes ∙ ap (λ (l : List ℕ). l ++ b.added) a.bytes ∙ append_assoc (bytes_of d h) a.added b.added;
  output = b.output ∙ ap (λ (l : List ℕ). l ++ b.added) a.output ∙ append_assoc old a.added b.added;
}

-- One slot

slot_there : (d : Scheduled) (capacity : Room) (h : History) → h.slots < 2 ^ 40 → step_history d capacity h SlotStep ≡ next_slot h
unfolding step_history
slot_there d capacity h lt = ap (λ (b : Bool). cond b (next_slot h) h) (lt-ltb h.slots (2 ^ 40) lt)

slot_past : (d : Scheduled) (capacity : Room) (h : History) → 2 ^ 40 ≤ h.slots → step_history d capacity h SlotStep ≡ h
unfolding step_history
slot_past d capacity h le = ap (λ (b : Bool). cond b (next_slot h) h) (le-ltb h.slots (2 ^ 40) le)

pub slot_given : (h : History) (old new : MuxState) (packet : List ℕ) → Gives h old (Ok packet) new →
    StillRepresents (step_history old.schedule old.capacity h SlotStep) old new
slot_given h old new packet g = record {
  represents = subst (λ (x : History). Represents x new) (sym (slot_there old.schedule old.capacity h g.0)) g.3;
  same_schedule = g.2;
  same_capacity = g.4;
}

pub slot_added : (h : History) (old new : MuxState) (packet out : List ℕ) → Gives h old (Ok packet) new →
    Adds old.schedule h (step_history old.schedule old.capacity h SlotStep) out (out ++ packet)
slot_added h old new packet out g =
    subst (λ (x : History). Adds old.schedule h x out (out ++ packet)) (sym (slot_there old.schedule old.capacity h g.0))
    (record { added = packet; bytes = bytes_more old.schedule h ∙ ap (λ (l : List ℕ). bytes_of old.schedule h ++ l) (sym g.1); output = refl })

pub done_represents : (h : History) (old new : MuxState) (e : Done) → Represents h old → Gives h old (Err e) new →
    StillRepresents (step_history old.schedule old.capacity h SlotStep) old new
done_represents h old new e st g = subst (λ (x : History). StillRepresents x old new) (sym (slot_past old.schedule old.capacity h g.0))
    (record {
      represents = subst (λ (m : MuxState). Represents h m) (sym g.1) st;
      same_schedule = ap (λ (m : MuxState). m.schedule) g.1;
      same_capacity =
          ap (λ (m : MuxState). m.capacity) g.1;
    })

pub done_added : (h : History) (old new : MuxState) (e : Done) (out : List ℕ) → Gives h old (Err e) new →
    Adds old.schedule h (step_history old.schedule old.capacity h SlotStep) out out
done_added h old new e out g =
    subst (λ (x : History). Adds old.schedule h x out out) (sym (slot_past old.schedule old.capacity h g.0)) (adds_none old.schedule h out)

-- One unit

unit_represents : {V : Type 0} (h : History) (old new : MuxState) (k : ℕ) (u : AccessUnit) (result : Result V (FeedError × AccessUnit)) → Represents h old →
    Takes h old k u (refusal result) new → IfErr result (λ e. (e.1 ≡ u) × (new ≡ old)) → StillRepresents (fed_history h k u (refusal result)) old new
unfolding fed_history
unit_represents h old new k u (Ok x) st t same = record { represents = t.represents refl; same_schedule = t.same_schedule; same_capacity = t.same_capacity }
unit_represents h old new k u (Err e) st t same = record {
  represents = subst (λ (m : MuxState). Represents h m) (sym same.1) st;
  same_schedule = t.same_schedule;
  same_capacity = t.same_capacity;
}

unit_kept_in : (d : Scheduled) (capacity : Room) (h : History) (k : ℕ) (u : AccessUnit) (refused : Option FeedError) →
    feed_cause d capacity h k u (slice_get d.description.streams k) ≡ refused → bytes_of d (fed_history h k u refused) ≡ bytes_of d h
unfolding fed_history
unit_kept_in d capacity h k u None e = bytes_kept feed_laws.later d h capacity k u e
unit_kept_in d capacity h k u (Some cause) e = refl

pub unit_kept : (d : Scheduled) (capacity : Room) (h : History) (k : ℕ) (u : AccessUnit) → bytes_of d (step_history d capacity h (FeedStep k u)) ≡ bytes_of d h
unfolding step_history
unit_kept d capacity h k u = unit_kept_in d capacity h k u (feed_cause d capacity h k u (slice_get d.description.streams k)) refl

pub unit_taken : {V : Type 0} (h : History) (old new : MuxState) (k : ℕ) (u : AccessUnit) (result : Result V (FeedError × AccessUnit)) → Represents h old →
    Takes h old k u (refusal result) new → IfErr result (λ e. (e.1 ≡ u) × (new ≡ old)) →
    StillRepresents (step_history old.schedule old.capacity h (FeedStep k u)) old new
unfolding step_history
unit_taken h old new k u result st t same =
    subst (λ (x : Option FeedError). StillRepresents (fed_history h k u x) old new) t.first (unit_represents h old new k u result st t same)

-- Steps in their order

pub record Driven (h : History) (old new : MuxState) (steps left : List Step) (out now : List ℕ) : Type 0 where
  pub so_far : History
  pub is : history_after old.schedule old.capacity h steps ≡ history_after old.schedule old.capacity so_far left
  pub represents : StillRepresents so_far old new
  pub adds : Adds old.schedule h so_far out now

pub driven_none : (h : History) (m : MuxState) (steps : List Step) (out : List ℕ) → Represents h m → Driven h m m steps steps out out
driven_none h m steps out st =
    record { so_far = h; is = refl; represents = record { represents = st; same_schedule = refl; same_capacity = refl }; adds = adds_none m.schedule h out }

pub driven_more : (h : History) (old mid new : MuxState) (steps left : List Step) (step : Step) (out now later : List ℕ)
    (w : Driven h old mid steps (step ∷ left) out now) →
    StillRepresents (step_history mid.schedule mid.capacity w.so_far step) mid new →
    Adds mid.schedule w.so_far (step_history mid.schedule mid.capacity w.so_far step) now later → Driven h old new steps left out later
unfolding history_after
driven_more h old mid new steps left step out now later w on adds =
    let same : step_history mid.schedule mid.capacity w.so_far step ≡ step_history old.schedule old.capacity w.so_far step =
    ap (λ (d : Scheduled). step_history d mid.capacity w.so_far step) w.represents.same_schedule
    ∙ ap (λ (n : Room). step_history old.schedule n w.so_far step) w.represents.same_capacity in
    let there = subst (λ (x : History). StillRepresents x mid new) same on in
    record {
      so_far = step_history old.schedule old.capacity w.so_far step;
      is = w.is;
      represents = record {
        represents = there.represents;
        same_schedule = there.same_schedule ∙ w.represents.same_schedule;
        same_capacity =
            there.same_capacity ∙ w.represents.same_capacity;
      };
      adds = adds_more old.schedule h w.so_far (step_history old.schedule old.capacity w.so_far step) out now later w.adds
          (subst (λ (x : History). Adds old.schedule w.so_far x now later) same
          (subst (λ (d : Scheduled). Adds d w.so_far (step_history mid.schedule mid.capacity w.so_far step) now later) w.represents.same_schedule adds));
    }

pub driven_unit : (d : Scheduled) (h later : History) (out : List ℕ) → bytes_of d later ≡ bytes_of d h → Adds d h later out out
driven_unit d h later out e = record { added = []; bytes = e ∙ sym (append-nil (bytes_of d h)); output = sym (append-nil out) }

-- Once no step is left, the history is the final history.
driven_to : (h : History) (old new : MuxState) (steps left : List Step) (out now : List ℕ) (w : Driven h old new steps left out now) → left ≡ [] →
    w.so_far ≡ history_after old.schedule old.capacity h steps
unfolding history_after
driven_to h old new steps left out now w none = sym (w.is ∙ ap (λ (l : List Step). history_after old.schedule old.capacity w.so_far l) none)

pub driven_represents : (h : History) (old new : MuxState) (steps left : List Step) (out now : List ℕ) → Driven h old new steps left out now → left ≡ [] →
    StillRepresents (history_after old.schedule old.capacity h steps) old new
driven_represents h old new steps left out now w none =
    subst (λ (x : History). StillRepresents x old new) (driven_to h old new steps left out now w none) w.represents

pub driven_adds : (h : History) (old new : MuxState) (steps left : List Step) (out now : List ℕ) → Driven h old new steps left out now → left ≡ [] →
    Adds old.schedule h (history_after old.schedule old.capacity h steps) out now
driven_adds h old new steps left out now w none = subst (λ (x : History). Adds old.schedule h x out now) (driven_to h old new steps left out now w none) w.adds

pub driven_headline : (h : History) (old new : MuxState) (steps left : List Step) (out now : List ℕ) → IsInRange old.schedule.description →
    Promised old.schedule.description old.schedule.schedule → Driven h old new steps left out now → left ≡ [] →
    HeadlineOver old.schedule (history_after old.schedule old.capacity h steps).changes (history_after old.schedule old.capacity h steps).units (history_after old.schedule old.capacity h steps).slots
    (bytes_of old.schedule (history_after old.schedule old.capacity h steps))
driven_headline h old new steps left out now ranges promised w none =
    let on = driven_represents h old new steps left out now w none in
    let after = history_after old.schedule old.capacity h steps in
    subst (λ (d : Scheduled). HeadlineOver d after.changes after.units after.slots (run_bytes (content_over d after.changes after.units) 0 after.slots)) on.same_schedule
    (any_state after new after.slots (subst (λ (d : Scheduled). IsInRange d.description) (sym on.same_schedule) ranges)
    (subst (λ (d : Scheduled). Promised d.description d.schedule) (sym on.same_schedule) promised) on.represents)

-- Laws of steps

step_stays : (d : Scheduled) (capacity : Room) (h : History) (step : Step) →
    (added : List ℕ) × (bytes_of d (step_history d capacity h step) ≡ bytes_of d h ++ added)
step_stays d capacity h (FeedStep k u) = ([], unit_kept d capacity h k u ∙ sym (append-nil (bytes_of d h)))
step_stays d capacity h SlotStep = elim (cases_lt h.slots (2 ^ 40)) [
  | inl lt ↦ (packet_of (content_over d h.changes h.units h.slots), ap (bytes_of d) (slot_there d capacity h lt) ∙ bytes_more d h)
  | inr le ↦ ([], ap (bytes_of d) (slot_past d capacity h le) ∙ sym (append-nil (bytes_of d h)))
]

pub written_stays : WrittenStays
unfolding history_after
written_stays d capacity h [] = ([], sym (append-nil (bytes_of d h)))
written_stays d capacity h (step ∷ rest) =
    let one = step_stays d capacity h step in
    let more = written_stays d capacity (step_history d capacity h step) rest in
    (one.0 ++ more.0, more.1 ∙ ap (λ (l : List ℕ). l ++ more.0) one.1 ∙ append_assoc (bytes_of d h) one.0 more.0)

-- Events do not change the texts.
fed_changes : (h : History) (k : ℕ) (u : AccessUnit) (o : Option FeedError) → (fed_history h k u o).changes ≡ h.changes
unfolding fed_history
fed_changes h k u None = refl
fed_changes h k u (Some cause) = refl

slot_changes : (h : History) (b : Bool) → (cond b (next_slot h) h).changes ≡ h.changes
slot_changes h true = refl
slot_changes h false = refl

step_changes : (d : Scheduled) (capacity : Room) (h : History) (step : Step) → (step_history d capacity h step).changes ≡ h.changes
unfolding step_history
step_changes d capacity h (FeedStep k u) = fed_changes h k u (feed_cause d capacity h k u (slice_get d.description.streams k))
step_changes d capacity h SlotStep = slot_changes h (nat_lt h.slots (2 ^ 40))

pub changes_after : (d : Scheduled) (capacity : Room) (h : History) (steps : List Step) → (history_after d capacity h steps).changes ≡ h.changes
unfolding history_after
changes_after d capacity h [] = refl
changes_after d capacity h (step ∷ rest) = changes_after d capacity (step_history d capacity h step) rest ∙ step_changes d capacity h step

pub order_is_free : OrderIsFree
order_is_free d capacity other first second same =
    let a = history_after d capacity empty_history first in
    let b = history_after d other empty_history second in
    ap (λ (l : TextsSoFar). run_bytes (content_over d l a.units) 0 a.slots)
    (changes_after d capacity empty_history first ∙ sym (changes_after d other empty_history second))
    ∙ ap (λ (units : ℕ → List AccessUnit). run_bytes (content_over d b.changes units) 0 a.slots) (fun_ext same.units)
    ∙ ap (λ (n : ℕ). run_bytes (content_over d b.changes b.units) 0 n) same.slots
