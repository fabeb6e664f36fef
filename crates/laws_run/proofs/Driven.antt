-- Whatever a caller feeds and writes, in any order, the multiplexer's state represents the history of these calls.
use Rattle.std.proofs.Common.{◌≡◌, ℕ, ◌^◌, ◌<◌, ◌≤◌, false, replicate, List, [], ◌∷◌, map, slice_get, Option, Some, None, refl, sym, ap₂, subst, ◌∙◌, arith, inl, inr, lt-ltb}
use Rattle.std.proofs.Common.{le-ltb}
use Rattle.std.proofs.lemmas.Bool.{cases_lt}
use Rattle.pes_packet.specs.AccessUnits.{AccessUnit}
use Rattle.slot_contents.specs.Contents.{packet_of, run_bytes}
use Rattle.description_parts.specs.Ranges.{IsInRange}
use Rattle.description_parts.specs.Tables.{table_count, stream_on_air}
use Rattle.slot_plan.specs.Schedule.{slot_of}
use Rattle.unit_queue.specs.declared.refusal.FeedError.{FeedError}
use Rattle.mux_core.specs.declared.room.Room.{Room}
use Rattle.mux_core.specs.Scheduled.{Scheduled}
use Rattle.mux_core.specs.Histories.{History, empty_history, next_slot, with_unit, content_at, content_over, TextsSoFar}
use Rattle.mux_core.specs.MuxStates.{MuxState, Represents, feed_cause, refusal_of}
use Rattle.mux_core.specs.SlotSteps.{sends, after, fed, queue_cause}
use Rattle.mux_core.specs.NewMux.{first_queue, first_carousels}
use Rattle.mux_core.specs.Events.{Step, FeedStep, SlotStep, fed_history, step_history, history_after}
use Rattle.mux_core.proofs.EventSteps.{changes_after}
use Rattle.mux_core.proofs.FirstStates.{represents_first}
use Rattle.mux_core.proofs.FedUnits.{takes}
use Rattle.mux_core.proofs.KnownRanges.{parameters_known}
use Rattle.mux_core.proofs.MuxStates.{feed_laws, gives}
use Rattle.laws_run.specs.GivenBack.{GivenBack, DrivenLaw}
use Rattle.laws_run.specs.Clean.{IsClean, DrivenCleanLaw}
use Rattle.laws_run.proofs.RunFindings.{any_state}
use Rattle.laws_run.proofs.Faultless.{any_state_clean}

-- A multiplexer whose state represents this history
pub record IsRepresented (d : Scheduled) (capacity : Room) (h : History) : Type 0 where
  pub mux : MuxState
  pub represents : Represents h mux
  pub schedule : mux.schedule ≡ d
  pub room : mux.capacity ≡ capacity
  pub few : h.slots ≤ 2 ^ 40

pub first : (d : Scheduled) (capacity : Room) → IsInRange d.description → IsRepresented d capacity empty_history
first d capacity r = record {
  mux = record {
    schedule = d;
    texts = d.description;
    sent = replicate 131 false;
    queues = map (first_queue d.description capacity) d.description.streams;
    carousels = first_carousels d.description 0 (table_count d.description);
    capacity = capacity;
    slots = 0;
  };
  represents = represents_first d capacity r;
  schedule = refl;
  room = refl;
  few = omega arith;
}

-- Feeding a unit

unit_represents : (h : History) (m : MuxState) (k : ℕ) (u : AccessUnit) → IsInRange m.schedule.description → Represents h m → refusal_of m h k u ≡ None →
    Represents (with_unit h k u) (fed m k u)
unit_represents h m k u r st none =
    let cause : Option FeedError = queue_cause (stream_on_air m.texts k) m.slots u (slice_get m.queues k) in
    let t = takes feed_laws h m k u cause (fed m k u) (parameters_known m.schedule r) st
    (record { first = refl; taken = λ e. refl; same_schedule = refl; same_capacity = refl }) in
    t.represents (t.first ∙ none)

pub fed_represents : (d : Scheduled) (capacity : Room) (h : History) (k : ℕ) (u : AccessUnit) (cause : Option FeedError) → IsInRange d.description →
    IsRepresented d capacity h →
    feed_cause d capacity h k u (slice_get d.description.streams k) ≡ cause → IsRepresented d capacity (fed_history h k u cause)
unfolding fed_history
fed_represents d capacity h k u (Some cause) r w e = w
fed_represents d capacity h k u None r w e =
    let m : MuxState = w.mux in
    let none : refusal_of m h k u ≡ None =
    ap₂ (λ (x : Scheduled) (n : Room). feed_cause x n h k u (slice_get x.description.streams k)) w.schedule w.room ∙ e in
    record {
      mux = fed m k u;
      represents = unit_represents h m k u (subst (λ (x : Scheduled). IsInRange x.description) (sym w.schedule) r) w.represents none;
      schedule = w.schedule;
      room = w.room;
      few = w.few;
    }

-- Writing a slot

slot_represents : (d : Scheduled) (capacity : Room) (h : History) → IsInRange d.description → IsRepresented d capacity h → h.slots < 2 ^ 40 →
    IsRepresented d capacity (next_slot h)
slot_represents d capacity h r w less =
    let m : MuxState = w.mux in
    let next : MuxState = after m (slot_of m.schedule.schedule m.slots) in
    let ranges : IsInRange m.schedule.description = subst (λ (x : Scheduled). IsInRange x.description) (sym w.schedule) r in
    let before : m.slots < 2 ^ 40 = subst (λ (n : ℕ). n < 2 ^ 40) (sym w.represents.written) less in
    let g = gives h m (packet_of (sends m (slot_of m.schedule.schedule m.slots))) next ranges w.represents before refl refl in
    record { mux = next; represents = g.3; schedule = g.2 ∙ w.schedule; room = g.4 ∙ w.room; few = omega (arith, less) }

-- One step, and all steps

step_represents : (d : Scheduled) (capacity : Room) (h : History) (step : Step) → IsInRange d.description → IsRepresented d capacity h →
    IsRepresented d capacity (step_history d capacity h step)
unfolding step_history
step_represents d capacity h (FeedStep k u) r w = fed_represents d capacity h k u (feed_cause d capacity h k u (slice_get d.description.streams k)) r w refl
step_represents d capacity h SlotStep r w = elim (cases_lt h.slots (2 ^ 40)) [
  | inl less ↦ let test = lt-ltb h.slots (2 ^ 40) less in rw test (slot_represents d capacity h r w less)
  | inr over ↦ let test = le-ltb h.slots (2 ^ 40) over in rw test w
]

all_represent : (d : Scheduled) (capacity : Room) (h : History) (steps : List Step) → IsInRange d.description → IsRepresented d capacity h →
    IsRepresented d capacity (history_after d capacity h steps)
unfolding history_after
all_represent d capacity h [] r w = w
all_represent d capacity h (step ∷ rest) r w = all_represent d capacity (step_history d capacity h step) rest r (step_represents d capacity h step r w)

-- The laws

pub given_back_of : (d : Scheduled) (capacity : Room) (h : History) (n : ℕ) → IsInRange d.description → IsRepresented d capacity h → n ≤ 2 ^ 40 →
    GivenBack d h.units n (run_bytes (content_at d h.units) 0 n)
given_back_of d capacity h n r w few =
    subst (λ (x : Scheduled). GivenBack x h.units n (run_bytes (content_at x h.units) 0 n)) w.schedule
    (any_state h w.mux n (subst (λ (x : Scheduled). IsInRange x.description) (sym w.schedule) r) w.represents few)

pub clean_of : (d : Scheduled) (capacity : Room) (h : History) (n : ℕ) → IsInRange d.description → IsRepresented d capacity h → n ≤ 2 ^ 40 →
    IsClean d (run_bytes (content_at d h.units) 0 n)
clean_of d capacity h n r w few =
    subst (λ (x : Scheduled). IsClean x (run_bytes (content_at x h.units) 0 n)) w.schedule
    (any_state_clean h w.mux n (subst (λ (x : Scheduled). IsInRange x.description) (sym w.schedule) r) w.represents few)

pub driven : DrivenLaw
driven d capacity steps r =
    let h : History = history_after d capacity empty_history steps in
    let w = all_represent d capacity empty_history steps r (first d capacity r) in
    subst (λ (l : TextsSoFar). GivenBack d h.units h.slots (run_bytes (content_over d l h.units) 0 h.slots))
    (sym (changes_after d capacity empty_history steps)) (given_back_of d capacity h h.slots r w w.few)

pub driven_clean : DrivenCleanLaw
driven_clean d capacity steps r =
    let h : History = history_after d capacity empty_history steps in
    let w = all_represent d capacity empty_history steps r (first d capacity r) in
    subst (λ (l : TextsSoFar). IsClean d (run_bytes (content_over d l h.units) 0 h.slots))
    (sym (changes_after d capacity empty_history steps)) (clean_of d capacity h h.slots r w w.few)
