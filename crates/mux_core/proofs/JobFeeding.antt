-- The units of a job, fed one by one before the first slot.
use Rattle.std.proofs.Common.{◌≡◌, ℕ, ◌+◌, Bool, cond, nat_eq, List, [], ◌∷◌, ◌++◌, length, Option, Some, None, refl, sym, ap, ◌∙◌, subst, arith, inl, inr}
use Rattle.std.proofs.Common.{append-nil, append_assoc}
use Rattle.std.specs.Prelude.{slice_get}
use Rattle.std.proofs.Math.Path.{fun_ext}
use Rattle.std.proofs.lemmas.Bool.{eq-eqb, ne_eqb, cases_eq}
use Rattle.std.proofs.lemmas.List.{length-append}
use Rattle.pes_packet.specs.AccessUnits.{AccessUnit}
use Rattle.pes_packet.specs.Units.{units_of}
use Rattle.unit_queue.specs.declared.refusal.FeedError.{FeedError}
use Rattle.mux_core.specs.Scheduled.{Scheduled}
use Rattle.mux_core.specs.Histories.{History, with_unit, unchanged}
use Rattle.mux_core.specs.MuxStates.{MuxState, Represents, Takes, feed_cause}
use Rattle.mux_core.specs.WholeJobs.{job_history, or_cause, unit_refused, cause_after, first_refused, AllFed}
use Rattle.mux_core.specs.declared.multiplexing.MuxError.TheVariants.{Feed}
use Rattle.mux_core.specs.declared.room.Room.{Room}
use Rattle.mux_core.proofs.UnitCounts.{own_units, other_units, units_append}

-- A fed unit is appended to its own stream only.
units_more : (fed : List (ℕ × AccessUnit)) (entry : ℕ × AccessUnit) (j : ℕ) →
    cond (nat_eq j entry.0) (units_of j fed ++ (entry.1 ∷ [])) (units_of j fed) ≡ units_of j (fed ++ (entry ∷ []))
units_more fed entry j = elim (cases_eq j entry.0) [
  | inl e ↦ ap (λ (b : Bool). cond b (units_of j fed ++ (entry.1 ∷ [])) (units_of j fed)) (eq-eqb j entry.0 e)
      ∙ ap (λ (l : List AccessUnit). units_of j fed ++ l) (sym (own_units j entry [] (sym e))) ∙ sym (units_append j fed (entry ∷ []))
  | inr ne ↦ ap (λ (b : Bool). cond b (units_of j fed ++ (entry.1 ∷ [])) (units_of j fed)) (ne_eqb j entry.0 ne)
      ∙ sym (append-nil (units_of j fed)) ∙ ap (λ (l : List AccessUnit). units_of j fed ++ l) (sym (other_units j entry [] (λ e. ne (sym e))))
      ∙ sym (units_append j fed (entry ∷ []))
]

pub history_more : (fed : List (ℕ × AccessUnit)) (entry : ℕ × AccessUnit) → with_unit (job_history fed 0) entry.0 entry.1 ≡ job_history (fed ++ (entry ∷ [])) 0
history_more fed entry = ap (λ (units : ℕ → List AccessUnit). record { units = units; changes = unchanged; slots = 0 }) (fun_ext (units_more fed entry))

-- The units that are fed already, and the units that are left.
pub record FedSoFar (old : MuxState) (units : List (ℕ × AccessUnit)) (new : MuxState) (index : ℕ) (left : List (ℕ × AccessUnit)) : Type 0 where
  pub fed : List (ℕ × AccessUnit)
  pub all : units ≡ fed ++ left
  pub index_is : index ≡ length fed
  pub represents : Represents (job_history fed 0) new
  pub same_schedule : new.schedule ≡ old.schedule
  pub same_capacity : new.capacity ≡ old.capacity
  pub is : first_refused old.schedule old.capacity [] units ≡ first_refused old.schedule old.capacity fed left

-- The next unit is refused if and only if it is the first refused unit of the job.
judged : (old mid : MuxState) (units : List (ℕ × AccessUnit)) (index : ℕ) (entry : ℕ × AccessUnit) (left : List (ℕ × AccessUnit)) (refused : Option FeedError)
    (new : MuxState)
    (w : FedSoFar old units mid index (entry ∷ left)) → Takes (job_history w.fed 0) mid entry.0 entry.1 refused new →
    first_refused old.schedule old.capacity [] units ≡ or_cause (unit_refused index refused)
    (first_refused old.schedule old.capacity (w.fed ++ (entry ∷ [])) left)
unfolding first_refused
judged old mid units index entry left refused new w takes =
    let cause : cause_after old.schedule old.capacity w.fed entry ≡ refused =
    ap (λ (d : Scheduled). feed_cause d old.capacity (job_history w.fed 0) entry.0 entry.1 (slice_get d.description.streams entry.0)) (sym w.same_schedule)
    ∙ ap (λ (n : Room). feed_cause mid.schedule n (job_history w.fed 0) entry.0 entry.1 (slice_get mid.schedule.description.streams entry.0)) (sym w.same_capacity)
    ∙ sym takes.first in
    w.is ∙ ap (λ (x : Option FeedError). or_cause (unit_refused (length w.fed) x) (first_refused old.schedule old.capacity (w.fed ++ (entry ∷ [])) left)) cause
    ∙ ap (λ (n : ℕ). or_cause (unit_refused n refused) (first_refused old.schedule old.capacity (w.fed ++ (entry ∷ [])) left)) (sym w.index_is)

pub fed_more : (old mid : MuxState) (units : List (ℕ × AccessUnit)) (index : ℕ) (entry : ℕ × AccessUnit) (left : List (ℕ × AccessUnit)) (new : MuxState)
    (w : FedSoFar old units mid index (entry ∷ left)) → Takes (job_history w.fed 0) mid entry.0 entry.1 None new → FedSoFar old units new (index + 1) left
unfolding or_cause unit_refused
fed_more old mid units index entry left new w takes = record {
  fed = w.fed ++ (entry ∷ []);
  all = w.all ∙ sym (append_assoc w.fed (entry ∷ []) left);
  index_is = omega (arith, w.index_is, length-append w.fed (entry ∷ []));
  represents = subst (λ (h : History). Represents h new) (history_more w.fed entry) (takes.represents refl);
  same_schedule = takes.same_schedule ∙ w.same_schedule;
  same_capacity = takes.same_capacity ∙ w.same_capacity;
  is = judged old mid units index entry left None new w takes;
}

pub fed_refused : (old mid : MuxState) (units : List (ℕ × AccessUnit)) (index : ℕ) (entry : ℕ × AccessUnit) (left : List (ℕ × AccessUnit)) (cause : FeedError)
    (new : MuxState)
    (w : FedSoFar old units mid index (entry ∷ left)) → Takes (job_history w.fed 0) mid entry.0 entry.1 (Some cause) new →
    first_refused old.schedule old.capacity [] units ≡ Some (Feed index cause)
unfolding or_cause unit_refused
fed_refused old mid units index entry left cause new w takes = judged old mid units index entry left (Some cause) new w takes

pub fed_all : (old new : MuxState) (units : List (ℕ × AccessUnit)) (index : ℕ) (left : List (ℕ × AccessUnit)) → FedSoFar old units new index left → left ≡ [] →
    AllFed old units new
unfolding first_refused
fed_all old new units index left w none =
    let same : units ≡ w.fed = w.all ∙ ap (λ (l : List (ℕ × AccessUnit)). w.fed ++ l) none ∙ append-nil w.fed in
    record {
      none_refused = w.is ∙ ap (λ (l : List (ℕ × AccessUnit)). first_refused old.schedule old.capacity w.fed l) none;
      represents = subst (λ (l : List (ℕ × AccessUnit)). Represents (job_history l 0) new) (sym same) w.represents;
      same_schedule = w.same_schedule;
    }
