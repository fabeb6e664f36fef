-- Units without any refusal are aired exactly as a whole job of them is multiplexed.
use Rattle.std.proofs.Common.{◌≡◌, ℕ, zero, suc, ◌-◌, ◌*◌, ◌≤◌, ◌==◌, ◌&&◌, min, max, Bool, true, false, List, [], ◌∷◌, ◌++◌, length, Option, Some, None}
use Rattle.std.proofs.Common.{Result, Ok, Err, refl, sym, ap, ◌∙◌, subst, cond, arith, inl, inr, append_assoc, append-nil}
use Rattle.std.specs.Prelude.{slice_get}
use Rattle.std.proofs.Math.Nat.{mul-le-mul_right}
use Rattle.std.proofs.lemmas.Bool.{ne_eqb, cases_lt}
use Rattle.std.proofs.lemmas.List.Sums.{fold-append}
use Rattle.clock27.specs.Release.{release}
use Rattle.pes_packet.specs.AccessUnits.{AccessUnit}
use Rattle.pes_packet.specs.Units.{units_of}
use Rattle.description_parts.specs.Described.{DescribedStream}
use Rattle.description_parts.specs.Tables.{stream_on_air}
use Rattle.unit_queue.specs.Causes.{unit_cause}
use Rattle.unit_queue.specs.declared.refusal.FeedError.{FeedError}
use Rattle.unit_queue.proofs.CauseLemmas.{own_facts, or_none}
use Rattle.unit_records.specs.Records.{record_at}
use Rattle.unit_records.specs.declared.reading.UnitFileError.{UnitFileError}
use Rattle.mux_core.specs.declared.room.Room.{Room}
use Rattle.mux_core.specs.Rooms.{room_in}
use Rattle.mux_core.specs.RecordRuns.{after_records}
use Rattle.mux_core.specs.Scheduled.{Scheduled}
use Rattle.mux_core.specs.Histories.{owned_stream, TextsSoFar, unchanged}
use Rattle.mux_core.specs.MuxStates.{feed_cause}
use Rattle.mux_core.specs.WholeJobs.{job_history, output_of, or_cause, unit_refused, cause_after, first_refused}
use Rattle.mux_core.specs.declared.multiplexing.MuxError.{MuxError}
use Rattle.mux_core.proofs.FedUnits.{accepted_on_air}
use Rattle.on_air.specs.declared.refusals.AirRefusal.{AirRefusal}
use Rattle.on_air.specs.Airing.{Run, Air, Before, silence, air_output, lead_of, nothing, settled_at, limit_of, last_by, last_at, on_to, is_tick, air_cause, accepted_by}
use Rattle.on_air.specs.Airing.{caught_up, changed, changes_run, ended, judged_by, output_with, slots_followed, taken}
use Rattle.on_air.specs.Courses.{Course, heard, with_record}
use Rattle.on_air.specs.Laws.{with_entry, records_of, greatest_of, AiredAsMultiplexed}
use Rattle.on_air.proofs.Aired.{no_texts}
use Rattle.on_air.proofs.Courses.{known_alone}

-- ---- Slots of releases

-- A release slot begins no earlier than the release time.
pub release_begins : (rate lead due : ℕ) → (due - lead) * rate ≤ release rate lead due * 135360000
release_begins rate lead due = omega arith

pub release_rises : (rate a due b other : ℕ) → due - a ≤ other - b → release rate a due ≤ release rate b other
release_rises rate a due b other le =
    let wide : (due - a) * rate ≤ (other - b) * rate = mul-le-mul_right rate le in
    omega (arith, wide)

pub release_zero : (rate lead : ℕ) → release rate lead 0 ≡ 0
release_zero rate lead =
    let rises : release rate lead 0 ≤ release rate 0 0 = release_rises rate lead 0 0 0 (omega arith) in
    let none : release rate 0 0 ≡ 0 = omega arith in
    omega (arith, rises, none)

-- ---- The job, unit by unit

pub no_cause : (cause : Option FeedError) (index : ℕ) (next : Option MuxError) → or_cause (unit_refused index cause) next ≡ None →
    (cause ≡ None) × (next ≡ None)
unfolding or_cause unit_refused
no_cause None index next none = (refl, none)
no_cause (Some cause) index next none = absurd (let no : ⊥ = cc in no)

pub both_none : (cause : Option FeedError) (index : ℕ) (next : Option MuxError) → cause ≡ None → next ≡ None → or_cause (unit_refused index cause) next ≡ None
unfolding or_cause unit_refused
both_none cause index next none last = rw (none, last) refl

pub last_taken : (d : Scheduled) (other : Room) (fed units : List (ℕ × AccessUnit)) (entry : ℕ × AccessUnit) →
    first_refused d other fed (units ++ (entry ∷ [])) ≡ None →
    (first_refused d other fed units ≡ None) × (cause_after d other (fed ++ units) entry ≡ None)
unfolding first_refused
last_taken d other fed [] entry none =
    let one = no_cause (cause_after d other fed entry) (length fed) None none in
    (refl, ap (λ (l : List (ℕ × AccessUnit)). cause_after d other l entry) (append-nil fed) ∙ one.0)
last_taken d other fed (first ∷ units) entry none =
    let one = no_cause (cause_after d other fed first) (length fed) (first_refused d other (fed ++ (first ∷ [])) (units ++ (entry ∷ []))) none in
    let rest = last_taken d other (fed ++ (first ∷ [])) units entry one.1 in (
      both_none (cause_after d other fed first) (length fed) (first_refused d other (fed ++ (first ∷ [])) units) one.0 rest.0,
      ap (λ (l : List (ℕ × AccessUnit)). cause_after d other l entry) (sym (append_assoc fed (first ∷ []) units)) ∙ rest.1,
    )

pub first_taken : (d : Scheduled) (other : Room) (fed units more : List (ℕ × AccessUnit)) → first_refused d other fed (units ++ more) ≡ None →
    first_refused d other fed units ≡ None
unfolding first_refused
first_taken d other fed [] more none = refl
first_taken d other fed (entry ∷ units) more none =
    let one = no_cause (cause_after d other fed entry) (length fed) (first_refused d other (fed ++ (entry ∷ [])) (units ++ more)) none in
    both_none (cause_after d other fed entry) (length fed) (first_refused d other (fed ++ (entry ∷ [])) units) one.0
    (first_taken d other (fed ++ (entry ∷ [])) units more one.1)

-- The stream of an accepted unit
pub record StreamOf (d : Scheduled) (other : Room) (units : List (ℕ × AccessUnit)) (entry : ℕ × AccessUnit) (o : Option DescribedStream) : Type 0 where
  pub stream : DescribedStream
  pub is : o ≡ Some stream
  pub on_air : stream_on_air d.description entry.0 ≡ true
  pub cause : unit_cause (owned_stream d entry.0 stream) 0 (room_in other stream) (units_of entry.0 units) entry.1 ≡ None

pub stream_of : (d : Scheduled) (other : Room) (units : List (ℕ × AccessUnit)) (entry : ℕ × AccessUnit) (o : Option DescribedStream) →
    feed_cause d other (job_history units 0) entry.0 entry.1 o ≡ None → StreamOf d other units entry o
unfolding feed_cause
stream_of d other units entry None none = absurd (let no : ⊥ = cc in no)
stream_of d other units entry (Some s) none =
    let on_air = accepted_on_air _ _ none in
    record { stream = s; is = refl; on_air = on_air.0; cause = on_air.1 }

-- ---- Ticks

and_false : (b : Bool) → (b && false) ≡ false
and_false true = refl
and_false false = refl

pub no_tick : (entry : ℕ × AccessUnit) → 1 ≤ length entry.1.bytes → is_tick entry ≡ false
no_tick entry some = ap (λ (b : Bool). (entry.0 == 255) && b) (ne_eqb (length entry.1.bytes) 0 (λ e. absurd (omega (arith, e, some))))
    ∙ and_false (entry.0 == 255)

-- ---- The greatest DTS so far

pub more_settled : (run : Run) (g due : ℕ) → on_to (settled_at run g) (settled_at run due) ≡ settled_at run (max g due)
more_settled run g due = elim (cases_lt g due) [
  | inl lt ↦
      let rises = release_rises run.scheduled.description.rate (lead_of run) g (lead_of run) due (omega (arith, lt)) in
      let same : max g due ≡ due = omega (arith, lt) in
      rw same (omega (arith, rises))
  | inr le ↦
      let rises = release_rises run.scheduled.description.rate (lead_of run) due (lead_of run) g (omega (arith, le)) in
      let same : max g due ≡ g = omega (arith, le) in
      rw same (omega (arith, rises))
]

pub greatest_more : (units : List (ℕ × AccessUnit)) (entry : ℕ × AccessUnit) → greatest_of (units ++ (entry ∷ [])) ≡ max (greatest_of units) entry.1.dts
greatest_more units entry = fold-append (λ greatest e. max greatest e.1.dts) 0 units (entry ∷ [])

-- ---- Units without any refusal

-- All these units were accepted, and the slots that they settle are written.
pub record Taken (run : Run) (a : Air) (units : List (ℕ × AccessUnit)) : Type 0 where
  pub before : a.before ≡ nothing
  pub accepted : a.accepted ≡ units
  pub greatest : a.greatest ≡ greatest_of units
  pub slots : a.slots ≡ settled_at run (greatest_of units)
  pub changes : a.changes ≡ unchanged

pub none_taken : (run : Run) → Taken run silence []
none_taken run = record {
  before = refl;
  accepted = refl;
  greatest = refl;
  slots =
      let first : release run.scheduled.description.rate (lead_of run) 0 ≡ 0 = release_zero run.scheduled.description.rate (lead_of run) in
      omega (arith, first);
  changes = refl;
}

pub taken_more : (run : Run) (a : Air) (units : List (ℕ × AccessUnit)) (entry : ℕ × AccessUnit) → Taken run a units → is_tick entry ≡ false →
    changes_run run entry ≡ false → Taken run (caught_up run (judged_by run a entry None) None) (units ++ (entry ∷ []))
unfolding judged_by accepted_by slots_followed
taken_more run a units entry so tick alone =
    subst (λ (b : Bool). Taken run (caught_up run (cond b (changed run a entry) (taken run a entry (accepted_by a entry None) a.changes)) None)
    (units ++ (entry ∷ []))) (sym (no_texts run entry alone)) (record {
      before = so.before;
      accepted = rw tick (ap (λ (l : List (ℕ × AccessUnit)). l ++ (entry ∷ [])) so.accepted);
      greatest = ap (λ (g : ℕ). max g entry.1.dts) so.greatest ∙ sym (greatest_more units entry);
      slots = ap (λ (n : ℕ). on_to n (settled_at run entry.1.dts)) so.slots ∙ more_settled run (greatest_of units) entry.1.dts
          ∙ ap (λ (g : ℕ). settled_at run g) (sym (greatest_more units entry));
      changes = so.changes;
    })

-- A unit that is multiplexed has bytes, so it is no tick.
pub some_bytes : (d : Scheduled) (other : Room) (units : List (ℕ × AccessUnit)) (entry : ℕ × AccessUnit) → cause_after d other units entry ≡ None →
    is_tick entry ≡ false
some_bytes d other units entry none =
    let found = stream_of d other units entry (slice_get d.description.streams entry.0) none in
    let own = own_facts _ _ _ entry.1 (or_none _ _ found.cause).0 in
    no_tick entry own.some

-- It has a stream, so it brings no texts and no line-up.
pub own_stream_alone : (run : Run) (other : Room) (units : List (ℕ × AccessUnit)) (entry : ℕ × AccessUnit) → cause_after run.scheduled other units entry ≡ None →
    changes_run run entry ≡ false
own_stream_alone run other units entry none =
    let found = stream_of run.scheduled other units entry (slice_get run.scheduled.description.streams entry.0) none in
    rw found.is refl

not_empty : {V : Type 0} (xs : List V) (x : V) → xs ++ (x ∷ []) ≡ [] → ⊥
not_empty [] x e = cc
not_empty (y ∷ xs) x e = cc

none_added : (run : Run) (a : Air) (entry : ℕ × AccessUnit) → changes_run run entry ≡ false → (judged_by run a entry None).refused ≡ a.refused
unfolding judged_by
none_added run a entry alone =
    ap (λ (b : Bool). (cond b (changed run a entry) (taken run a entry (accepted_by a entry None) a.changes)).refused) (no_texts run entry alone)

-- A refusal remains in the list of refusals.
taken_by : (run : Run) (a : Air) (units : List (ℕ × AccessUnit)) (entry : ℕ × AccessUnit) (cause : Option AirRefusal) → (a.refused ≡ [] → Taken run a units) →
    is_tick entry ≡ false → changes_run run entry ≡ false → (judged_by run a entry cause).refused ≡ [] → Taken run (caught_up run (judged_by run a entry cause) cause) (units ++ (entry ∷ []))
unfolding judged_by
taken_by run a units entry None so tick alone none = taken_more run a units entry (so (sym (none_added run a entry alone) ∙ none)) tick alone
taken_by run a units entry (Some cause) so tick alone none = absurd (not_empty a.refused (a.records, cause) none)

-- The run is the one that began, and these units were taken if no record was refused.
record TakenIn (run : Run) (c : Course) (units : List (ℕ × AccessUnit)) : Type 0 where
  is : c.run ≡ run
  taken : c.air.refused ≡ [] → Taken run c.air units

taken_with : (run : Run) (c : Course) (other : Room) (units : List (ℕ × AccessUnit)) (found : Result (Option (ℕ × AccessUnit)) UnitFileError) →
    (first_refused run.scheduled other [] units ≡ None → TakenIn run c units) →
    first_refused run.scheduled other [] (with_entry found units) ≡ None → TakenIn run (with_record found c) (with_entry found units)
unfolding with_record with_entry
taken_with run c other units (Err fault) so job = so job
taken_with run c other units (Ok None) so job = so job
taken_with run c other units (Ok (Some entry)) so job =
    let last = last_taken run.scheduled other [] units entry job in
    let before = so last.0 in
    let alone = own_stream_alone run other units entry last.1 in
    subst (λ (d : Course). TakenIn run d (units ++ (entry ∷ []))) (sym (known_alone run c entry before.is alone)) (record {
      is = refl;
      taken = λ none. taken_by run c.air units entry (air_cause run c.air entry) before.taken (some_bytes run.scheduled other units entry last.1) alone none;
    })

all_taken : (run : Run) (other : Room) (n : ℕ) (xs : List ℕ) → first_refused run.scheduled other [] (records_of n xs) ≡ None →
    TakenIn run (heard run n xs) (records_of n xs)
unfolding heard records_of
all_taken run other zero xs job = record { is = refl; taken = λ none. none_taken run }
all_taken run other (suc n) xs job =
    taken_with run (heard run n xs) other (records_of n xs) (record_at (after_records n xs)) (all_taken run other n xs) job

-- ---- The output

no_later : (run : Run) (g limit : ℕ) (slots : Option ℕ) →
    min (release run.scheduled.description.rate (lead_of run) g) limit ≤ last_by run.scheduled.description.rate limit g slots
unfolding last_by
no_later run g limit None =
    let rises = release_rises run.scheduled.description.rate (lead_of run) g 0 g (omega arith) in
    omega (arith, rises)
no_later run g limit (Some slots) = omega arith

pub aired_as_multiplexed : AiredAsMultiplexed
aired_as_multiplexed run other n xs job none =
    let all = all_taken run other n xs job in
    let a = (heard run n xs).air in
    let so = all.taken none in
    let last = ap (λ (g : ℕ). last_at run g) so.greatest in
    let later = no_later run (greatest_of (records_of n xs)) (limit_of run.terms) run.terms.slots in
    let slots : on_to (heard run n xs).air.slots (last_at run (heard run n xs).air.greatest) ≡ last_at run (greatest_of (records_of n xs)) =
    omega (arith, last, later, so.slots) in
    ap (λ (r : Run). air_output r (ended r a)) all.is
    ∙ ap (λ (b : Before). output_with run b a.accepted (ended run a).slots a.changes) so.before
    ∙ ap (λ (cs : TextsSoFar). output_with run nothing a.accepted (ended run a).slots cs) so.changes
    ∙ ap (λ (us : List (ℕ × AccessUnit)). output_of run.hex run.scheduled (job_history us (ended run a).slots)) so.accepted
    ∙ ap (λ (k : ℕ). output_of run.hex run.scheduled (job_history (records_of n xs) k)) slots
