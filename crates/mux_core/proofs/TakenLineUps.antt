-- A multiplexer takes or refuses a line-up exactly as the history says.
use Rattle.std.proofs.Common.{◌≡◌, ℕ, ◌&&◌, Bool, length, find, Option, Some, None, List, option_map, option_and_then, refl, sym, ap, subst, ◌∙◌, inl, inr}
use Rattle.std.proofs.Math.Path.{fun_ext}
use Rattle.std.specs.List.{range_with_len}
use Rattle.std.specs.Option.{option_or}
use Rattle.description_parts.specs.Ranges.{IsInRange}
use Rattle.description_parts.specs.Tables.{table_kinds}
use Rattle.plan_checker.specs.Served.{Served}
use Rattle.unit_queue.specs.Queues.{Queue}
use Rattle.table_rounds.specs.Carousels.{Carousel}
use Rattle.line_ups.specs.Kept.{is_gone}
use Rattle.line_ups.specs.Faults.{line_up_fault}
use Rattle.line_ups.specs.declared.fault.LineUpFault.{LineUpFault}
use Rattle.mux_core.specs.Exchanges.{IsEach}
use Rattle.mux_core.specs.Scheduled.{Scheduled}
use Rattle.mux_core.specs.Histories.{History}
use Rattle.mux_core.specs.MuxStates.{MuxState, Represents}
use Rattle.mux_core.specs.Headline.{UnitsKept}
use Rattle.mux_core.specs.LineUps.{scheduled_by, served_by, next_history, some_wait, pid_at, line_up_cause, JudgesLineUp, TakesOver}
use Rattle.mux_core.specs.LineUps.{UntouchedOver, SilentBefore, WholeGone}
use Rattle.mux_core.specs.LineUpSteps.{cause_by, left_pid, KeptOver, fresh_queue, made_carousel, PutOver}
use Rattle.mux_core.specs.declared.line_up.TakeOverError.{TakeOverError}
use Rattle.mux_core.specs.declared.line_up.TakeOverError.TheVariants as error
use Rattle.mux_core.proofs.Accepted.{units_kept}
use Rattle.mux_core.proofs.ComeAndGone.{two_none, map_none, silent_before, whole_gone}
use Rattle.mux_core.proofs.MuxStates.{waits}
use Rattle.mux_core.proofs.TakenOver.{FollowedLaws, line_up_taken}
use Rattle.mux_core.proofs.UntouchedSlots.{untouched_over}

-- The cause by the state is the cause by the history.
pub cause_is : (h : History) (m : MuxState) (next : Served) → Represents h m → cause_by m next ≡ line_up_cause m.schedule h next
cause_is h m next st =
    ap (λ (test : ℕ → Bool). option_or (option_map error.Fault (line_up_fault (served_by m.schedule) next)) (option_map error.Waiting
    (option_and_then (pid_at m.schedule.description) (find test (range_with_len 0 (length m.schedule.description.streams))))))
    (fun_ext (λ i. ap (λ (o : Option ℕ). is_gone m.schedule.description next.description i && some_wait o) (waits h m i st)))

-- The fault by a plan that the schedule has
pub fault_is : (d : Scheduled) (plan next : Served) → d ≡ scheduled_by plan → line_up_fault plan next ≡ line_up_fault (served_by d) next
fault_is d plan next is = sym (ap (λ (x : Scheduled). line_up_fault (served_by x) next) is)

pub no_line_up_fault : (m : MuxState) (next : Served) → cause_by m next ≡ None → line_up_fault (served_by m.schedule) next ≡ None
no_line_up_fault m next none =
    map_none error.Fault (line_up_fault (served_by m.schedule) next)
    ((two_none (option_map error.Fault (line_up_fault (served_by m.schedule) next)) (option_map error.Waiting (left_pid m next.description)) none).0)

pub cause_fault : (m : MuxState) (next : Served) (fault : LineUpFault) → line_up_fault (served_by m.schedule) next ≡ Some fault →
    Some (error.Fault fault) ≡ cause_by m next
cause_fault m next fault is =
    sym (ap (λ (o : Option LineUpFault). option_or (option_map error.Fault o) (option_map error.Waiting (left_pid m next.description))) is)

pub cause_left : (m : MuxState) (next : Served) (o : Option ℕ) → line_up_fault (served_by m.schedule) next ≡ None → o ≡ left_pid m next.description →
    option_map error.Waiting o ≡ cause_by m next
cause_left m next o none is =
    ap (option_map error.Waiting) is
    ∙ sym (ap (λ (f : Option LineUpFault). option_or (option_map error.Fault f) (option_map error.Waiting (left_pid m next.description))) none)

-- Refused
pub refused_over : (h : History) (m : MuxState) (next : Served) (cause : TakeOverError) → Represents h m → cause_by m next ≡ Some cause →
    TakesOver h m next (Some cause) m
refused_over h m next cause st is = record {
  first = subst (λ (o : Option TakeOverError). JudgesLineUp o (Some cause)) (sym is ∙ cause_is h m next st) refl;
  represents = λ none. absurd (cc);
  schedule = λ none. absurd (cc);
  same_capacity = refl;
}

pub starved_over : (h : History) (m : MuxState) (next : Served) → Represents h m → cause_by m next ≡ None → TakesOver h m next (Some error.Memory) m
starved_over h m next st none = record {
  first = subst (λ (o : Option TakeOverError). JudgesLineUp o (Some error.Memory)) (sym none ∙ cause_is h m next st) (inr refl);
  represents = λ none. absurd (cc);
  schedule = λ none. absurd (cc);
  same_capacity = refl;
}

-- Taken
pub takes_over : FollowedLaws → (h : History) (m new : MuxState) (next : Served) (queues : List Queue) (carousels : List Carousel) → IsInRange next.description →
    Represents h m → cause_by m next ≡ None → (line_up_fault (served_by m.schedule) next ≡ None → KeptOver m.schedule next) →
    IsEach (fresh_queue m.schedule.description next.description m.capacity) next.description.streams queues →
    IsEach (made_carousel next m.slots) (table_kinds next.description) carousels → PutOver m next next.description queues carousels new →
    TakesOver h m next None new
takes_over laws h m new next queues carousels ranges st none keeps fresh made put = record {
  first = subst (λ (o : Option TakeOverError). JudgesLineUp o None) (sym none ∙ cause_is h m next st) (inl refl);
  represents = λ accepted. line_up_taken laws h m new next queues carousels (keeps (no_line_up_fault m next none)) ranges st fresh made put;
  schedule = λ accepted. put.schedule;
  same_capacity = put.capacity;
}

-- What stays, what comes and what goes
pub record TakenEffects (h : History) (m : MuxState) (next : Served) : Type 0 where
  pub untouched : UntouchedOver m.schedule h next
  pub silent : SilentBefore m.schedule h next
  pub gone : WholeGone m.schedule h next.description

pub taken_effects : (h : History) (m new : MuxState) (next : Served) → IsInRange next.description → Represents h m → cause_by m next ≡ None →
    (line_up_fault (served_by m.schedule) next ≡ None → KeptOver m.schedule next) → TakesOver h m next None new → TakenEffects h m next
taken_effects h m new next ranges st none keeps takes =
    let over = keeps (no_line_up_fault m next none) in
    let before = over.before in
    let was = subst (λ (x : Scheduled). Represents h (record m { schedule = x })) over.is st in
    let units : UnitsKept (scheduled_by before) h.units = units_kept h (record m { schedule = scheduled_by before }) over.ranges was in
    let done = subst (λ (x : Scheduled). Represents (next_history x h next.description) new) over.is (takes.represents refl) in
    let now = subst (λ (x : Scheduled). Represents (next_history (scheduled_by before) h next.description) (record new { schedule = x })) (takes.schedule refl) done in
    let others : UnitsKept (scheduled_by next) (next_history (scheduled_by before) h next.description).units =
    units_kept (next_history (scheduled_by before) h next.description) (record new { schedule = scheduled_by next }) ranges now in
    record {
      untouched = subst (λ (x : Scheduled). UntouchedOver x h next) (sym over.is) (untouched_over before next over.kept h over.ranges ranges units others);
      silent = subst (λ (x : Scheduled). SilentBefore x h next) (sym over.is) (silent_before (scheduled_by before) next h ranges others);
      gone = whole_gone m.schedule h next (sym (cause_is h m next st) ∙ none);
    }
