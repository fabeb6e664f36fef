-- A record is judged, and its unit is fed.
use Rattle.std.proofs.Common.{◌≡◌, ℕ, ◌<◌, Bool, true, false, cond, List, [], ◌∷◌, ◌++◌, Option, Some, None, refl, sym, ap, ◌∙◌, subst, append_assoc}
use Rattle.std.specs.Prelude.{nat_eq, slice_get, option_map}
use Rattle.std.proofs.Math.Path.{fun_ext}
use Rattle.pes_packet.specs.AccessUnits.{AccessUnit}
use Rattle.pes_packet.specs.Units.{units_of}
use Rattle.slot_plan.specs.Schedule.{slot_of}
use Rattle.unit_queue.specs.declared.refusal.FeedError.{FeedError}
use Rattle.mux_core.specs.declared.room.Room.{Room}
use Rattle.mux_core.specs.Scheduled.{Scheduled}
use Rattle.mux_core.specs.Histories.{History, content_over, with_unit}
use Rattle.mux_core.specs.MuxStates.{MuxState, Represents, Takes, feed_cause, refusal_of}
use Rattle.mux_core.proofs.FedUnits.{content_kept}
use Rattle.mux_core.proofs.JobFeeding.{history_more}
use Rattle.mux_core.proofs.MuxStates.{feed_laws}
use Rattle.on_air.specs.declared.refusals.AirRefusal.TheVariants.{Feed}
use Rattle.on_air.specs.Airing.{Run, Air, history_by, job_of, output_with, air_output, is_tick, is_far_from, unit_refusal, fed_refusal}
use Rattle.on_air.specs.Airing.{accepted_by, air_cause, changes_run, refused_unit}
use Rattle.on_air.specs.AirStates.{Carries, Admits}
use Rattle.on_air.proofs.Contents.{output_same}

-- ---- One more unit

behind : (own : Bool) (xs ys zs : List AccessUnit) → cond own ((xs ++ ys) ++ zs) (xs ++ ys) ≡ xs ++ cond own (ys ++ zs) ys
behind true xs ys zs = append_assoc xs ys zs
behind false xs ys zs = refl

unit_more : (units : List (ℕ × AccessUnit)) (entry : ℕ × AccessUnit) (j : ℕ) →
    cond (nat_eq j entry.0) (units_of j units ++ (entry.1 ∷ [])) (units_of j units) ≡ units_of j (units ++ (entry ∷ []))
unit_more units entry j = ap (λ (h : History). h.units j) (history_more units entry)

-- The job with one more unit of a stream
pub joined : (a : Air) (entry : ℕ × AccessUnit) →
    with_unit (job_of a) entry.0 entry.1 ≡ history_by a.before (a.accepted ++ (entry ∷ [])) a.slots a.changes
joined a entry = ap (λ (units : ℕ → List AccessUnit). record { units = units; changes = a.changes; slots = a.slots })
    (fun_ext (λ j. behind (nat_eq j entry.0) (a.before.units j) (units_of j a.accepted) (entry.1 ∷ [])
    ∙ ap (λ (l : List AccessUnit). a.before.units j ++ l) (unit_more a.accepted entry j)))

-- It changes no slot that is already written.
kept_content : (d : Scheduled) (h : History) (capacity : Room) (k t : ℕ) (u : AccessUnit) → feed_cause d capacity h k u (slice_get d.description.streams k) ≡ None →
    t < h.slots → content_over d h.changes (with_unit h k u).units t ≡ content_over d h.changes h.units t
unfolding content_over
kept_content d h capacity k t u none lt = content_kept feed_laws.later d h capacity k t u (slot_of d.schedule t) refl none lt

slots_stay : (run : Run) (a : Air) (entry : ℕ × AccessUnit) → unit_refusal run a entry ≡ None → (t : ℕ) → t < a.slots →
    content_over run.scheduled a.changes (history_by a.before (a.accepted ++ (entry ∷ [])) a.slots a.changes).units t
    ≡ content_over run.scheduled a.changes (job_of a).units t
slots_stay run a entry none t lt =
    ap (λ (h : History). content_over run.scheduled a.changes h.units t) (sym (joined a entry))
    ∙ kept_content run.scheduled (job_of a) run.capacity entry.0 t entry.1 none lt

pub unit_stays : (run : Run) (a : Air) (entry : ℕ × AccessUnit) → unit_refusal run a entry ≡ None →
    output_with run a.before (a.accepted ++ (entry ∷ [])) a.slots a.changes ≡ air_output run a
unit_stays run a entry none =
    output_same run a.before a.accepted (a.accepted ++ (entry ∷ [])) a.slots a.changes a.changes (slots_stay run a entry none)

-- ---- The causes of refusal

cause_is : (run : Run) (a : Air) (old : MuxState) (entry : ℕ × AccessUnit) → Carries run (job_of a) old →
    refusal_of old (job_of a) entry.0 entry.1 ≡ unit_refusal run a entry
cause_is run a old entry c =
    ap (λ (d : Scheduled). feed_cause d old.capacity (job_of a) entry.0 entry.1 (slice_get d.description.streams entry.0)) c.scheduled
    ∙ ap (λ (n : Room). feed_cause run.scheduled n (job_of a) entry.0 entry.1 (slice_get run.scheduled.description.streams entry.0)) c.capacity

fed_cause : (run : Run) (a : Air) (entry : ℕ × AccessUnit) (refused : Option FeedError) → is_far_from run a entry ≡ false → is_tick entry ≡ false →
    changes_run run entry ≡ false → refused ≡ unit_refusal run a entry → option_map (fed_refusal entry) refused ≡ air_cause run a entry
fed_cause run a entry refused near unit alone is = rw (near, unit, alone) (ap (option_map (fed_refusal entry)) is)

-- ---- The state after a call

pub ticked : (run : Run) (a : Air) (m : MuxState) (entry : ℕ × AccessUnit) → Carries run (job_of a) m → is_far_from run a entry ≡ false → is_tick entry ≡ true →
    Admits run a entry None m
unfolding accepted_by
ticked run a m entry c near tick = record { cause = rw (near, tick) refl; mux = rw tick c; before = λ t lt. rw tick refl }

pub unfed : (run : Run) (a : Air) (old new : MuxState) (entry : ℕ × AccessUnit) (cause : FeedError) → Carries run (job_of a) old →
    is_far_from run a entry ≡ false → is_tick entry ≡ false → changes_run run entry ≡ false →
    Takes (job_of a) old entry.0 entry.1 (Some cause) new → new ≡ old → Admits run a entry (Some (Feed (refused_unit entry cause))) new
unfolding accepted_by
unfed run a old new entry cause c near unit alone takes same = record {
  cause = fed_cause run a entry (Some cause) near unit alone (takes.first ∙ cause_is run a old entry c);
  mux = subst (λ (m : MuxState). Carries run (job_of a) m) (sym same) c;
  before = λ t lt. refl;
}

pub fed : (run : Run) (a : Air) (old new : MuxState) (entry : ℕ × AccessUnit) → Carries run (job_of a) old →
    is_far_from run a entry ≡ false → is_tick entry ≡ false → changes_run run entry ≡ false →
    Takes (job_of a) old entry.0 entry.1 None new → Admits run a entry None new
unfolding accepted_by
fed run a old new entry c near unit alone takes = record {
  cause = fed_cause run a entry None near unit alone (takes.first ∙ cause_is run a old entry c);
  mux = rw unit (record {
    represents = subst (λ (h : History). Represents h new) (joined a entry) (takes.represents refl);
    scheduled = takes.same_schedule ∙ c.scheduled;
    capacity = takes.same_capacity ∙ c.capacity;
  });
  before = λ t lt. rw unit (slots_stay run a entry (sym (takes.first ∙ cause_is run a old entry c)) t lt);
}
