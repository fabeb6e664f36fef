-- What was written, accepted and refused stays, whatever records come later.
use Rattle.std.proofs.Common.{◌≡◌, ℕ, zero, suc, ◌+◌, ◌≤◌, Bool, true, false, List, [], ◌∷◌, ◌++◌, Option, Some, None, Result, Ok, Err, refl, sym, ap}
use Rattle.std.proofs.Common.{◌∙◌, subst, cond, arith, append_assoc}
use Rattle.pes_packet.specs.AccessUnits.{AccessUnit}
use Rattle.pes_packet.specs.Units.{units_of}
use Rattle.description_parts.specs.Ranges.{IsInRange}
use Rattle.changed_texts.specs.Reading.{description_in}
use Rattle.plan_checker.specs.Served.{Served}
use Rattle.unit_records.specs.Records.{record_at}
use Rattle.unit_records.specs.declared.reading.UnitFileError.{UnitFileError}
use Rattle.mux_core.specs.RecordRuns.{after_records}
use Rattle.mux_core.specs.Scheduled.{Scheduled}
use Rattle.mux_core.specs.Headline.{UnitsKept}
use Rattle.mux_core.proofs.KnownRanges.{parameters_known}
use Rattle.mux_core.proofs.Whole.{headline_over}
use Rattle.on_air.specs.declared.refusals.AirRefusal.{AirRefusal}
use Rattle.on_air.specs.declared.refusals.AirRefusal.TheVariants.{Feed, Ahead, Followed, LineUp, Texts}
use Rattle.on_air.specs.Airing.{Run, Air, Before, history_by, job_of, air_output, brings_line_up, brings_texts, changes_run, is_tick, air_cause, accepted_by}
use Rattle.on_air.specs.Airing.{caught_up, changed, judged_by, output_with, slots_followed, taken, with_count, settled_at, last_at, on_to}
use Rattle.on_air.specs.Courses.{Course, IsFirst, all_accepted, at_begin, course_after, course_ended, heard, lined_up, output_at, taken_over, takes_over, with_line_up}
use Rattle.on_air.specs.Courses.{with_record}
use Rattle.on_air.specs.AirStates.{KeepsHeadline, Promises}
use Rattle.on_air.specs.Laws.{with_entry, records_of}
use Rattle.on_air.specs.EndlessRuns.{aired_from, aired_all, BeginsWith, FirstHolds, StaysIn, EndlessRecords, EndlessInput}
use Rattle.on_air.proofs.Contents.{begins_more, begins_same, on_more}
use Rattle.on_air.proofs.Courses.{beside, course_over, course_same, neither}
use Rattle.on_air.proofs.FedRecords.{unit_stays}
use Rattle.on_air.proofs.InOrder.{AllKept}
use Rattle.on_air.proofs.LineUpsOn.{over_output, read_line_up}
use Rattle.on_air.proofs.Near.{Steady, SteadyIn, fed_of, steady_first, steady_more}
use Rattle.on_air.proofs.TextsOn.{read_output}

-- The course of a run at `a`
abbrev course_of : Run → Air → Course
course_of run a = record { run = run; air = a }

on_later : (slots target : ℕ) → slots ≤ on_to slots target
on_later slots target = omega arith

begins_behind : {V : Type 0} (xs first all : List V) → BeginsWith all first → BeginsWith (xs ++ all) (xs ++ first)
begins_behind {V} xs first all b = record {
  more = b.more;
  is = ap (λ (l : List V). xs ++ l) b.is ∙ sym (append_assoc xs first b.more);
}

-- ---- One record under the line-up in force

taken_stays : (run : Run) (a : Air) (entry : ℕ × AccessUnit) (tick : Bool) → is_tick entry ≡ tick → changes_run run entry ≡ false →
    air_cause run a entry ≡ None →
    (output_with run a.before (accepted_by a entry None) a.slots a.changes ≡ air_output run a) × BeginsWith (accepted_by a entry None) a.accepted
unfolding accepted_by
taken_stays run a entry true is alone none = rw is (refl, begins_same a.accepted a.accepted refl)
taken_stays run a entry false is alone none =
    rw is (unit_stays run a entry (fed_of run a entry none is alone), record { more = entry ∷ []; is = refl })

-- A unit, a tick or texts are taken.
accepted_stays : (run : Run) (a : Air) (entry : ℕ × AccessUnit) (brings : Bool) → brings_texts run entry ≡ brings → brings_line_up run entry ≡ false →
    air_cause run a entry ≡ None →
    StaysIn (course_of run a) (course_of run (cond brings (changed run a entry) (taken run a entry (accepted_by a entry None) a.changes)))
accepted_stays run a entry true brings other none = record {
  output = begins_more (air_output run a) (air_output run (taken run a entry a.accepted a.changes)) (air_output run (changed run a entry))
      (on_more run a.before a.accepted a.slots (settled_at run entry.1.dts) a.changes)
      (begins_same (air_output run (taken run a entry a.accepted a.changes)) (air_output run (changed run a entry))
      (read_output run (taken run a entry a.accepted a.changes) (description_in entry.1.bytes)));
  accepted = begins_same (all_accepted (course_of run a)) (all_accepted (course_of run a)) refl;
  refused = begins_same a.refused a.refused refl;
  slots = on_later a.slots (settled_at run entry.1.dts);
}
accepted_stays run a entry false brings other none =
    let units = taken_stays run a entry (is_tick entry) refl (neither run entry other brings) none in
    let before = output_with run a.before (accepted_by a entry None) a.slots a.changes in
    let after = output_with run a.before (accepted_by a entry None) (on_to a.slots (settled_at run entry.1.dts)) a.changes in
    record {
      output = begins_more (air_output run a) before after (begins_same (air_output run a) before units.0)
          (on_more run a.before (accepted_by a entry None) a.slots (settled_at run entry.1.dts) a.changes);
      accepted = begins_behind a.before.accepted a.accepted (accepted_by a entry None) units.1;
      refused = begins_same a.refused a.refused refl;
      slots = on_later a.slots (settled_at run entry.1.dts);
    }

counted_stays : (run : Run) (a b : Air) → StaysIn (course_of run a) (course_of run b) → StaysIn (course_of run a) (course_of run (with_count b b.slots))
counted_stays run a b stays = record { output = stays.output; accepted = stays.accepted; refused = stays.refused; slots = stays.slots }

-- A refused record that the run does not follow moves nothing.
refused_stays : (run : Run) (a : Air) (cause : AirRefusal) (b : Air) → b.before ≡ a.before → b.accepted ≡ a.accepted → b.slots ≡ a.slots → b.changes ≡ a.changes →
    b.refused ≡ a.refused ++ ((a.records, cause) ∷ []) → StaysIn (course_of run a) (course_of run b)
refused_stays run a cause b before accepted slots changes refused = record {
  output = begins_same (air_output run a) (air_output run b) (rw (before, accepted, slots, changes) refl);
  accepted = begins_same (all_accepted (course_of run a)) (all_accepted (course_of run b)) (rw (before, accepted) refl);
  refused = record { more = (a.records, cause) ∷ []; is = refused };
  slots = omega (arith, slots);
}

stays_by : (run : Run) (a : Air) (entry : ℕ × AccessUnit) (cause : Option AirRefusal) → air_cause run a entry ≡ cause → takes_over run a entry ≡ false →
    StaysIn (course_of run a) (course_of run (caught_up run (judged_by run a entry cause) cause))
unfolding judged_by slots_followed
stays_by run a entry None is stays =
    counted_stays run a (cond (brings_texts run entry) (changed run a entry) (taken run a entry (accepted_by a entry None) a.changes))
    (accepted_stays run a entry (brings_texts run entry) refl (beside run a entry stays is) is)
stays_by run a entry (Some (LineUp refusal)) is stays =
    refused_stays run a (LineUp refusal) (caught_up run (judged_by run a entry (Some (LineUp refusal))) (Some (LineUp refusal))) refl refl refl refl refl
stays_by run a entry (Some (Texts refusal)) is stays =
    refused_stays run a (Texts refusal) (caught_up run (judged_by run a entry (Some (Texts refusal))) (Some (Texts refusal))) refl refl refl refl refl
stays_by run a entry (Some (Feed unit)) is stays =
    refused_stays run a (Feed unit) (caught_up run (judged_by run a entry (Some (Feed unit))) (Some (Feed unit))) refl refl refl refl refl
stays_by run a entry (Some (Ahead far)) is stays =
    refused_stays run a (Ahead far) (caught_up run (judged_by run a entry (Some (Ahead far))) (Some (Ahead far))) refl refl refl refl refl
stays_by run a entry (Some (Followed packet from to)) is stays = record {
  output = on_more run a.before a.accepted a.slots (settled_at run to) a.changes;
  accepted = begins_same (all_accepted (course_of run a)) (all_accepted (course_of run a)) refl;
  refused = record { more = (a.records, Followed packet from to) ∷ []; is = refl };
  slots = on_later a.slots (settled_at run to);
}

-- ---- A line-up

-- A line-up changes nothing that was written, and the units before it were accepted under the line-up before it.
stays_over : (run : Run) (a : Air) (entry : ℕ × AccessUnit) (next : Served) → StaysIn (course_of run a) (lined_up run a entry next)
stays_over run a entry next =
    let later = with_line_up run next in
    let b = taken_over run a next.description in
    record {
      output = begins_more (air_output run a) (air_output (with_line_up run next) (taken_over run a next.description)) (output_at (lined_up run a entry next))
          (begins_same (air_output run a) (air_output (with_line_up run next) (taken_over run a next.description)) (over_output run a next))
          (on_more later b.before [] a.slots (settled_at later entry.1.dts) b.changes);
      accepted = record { more = []; is = refl };
      refused = begins_same a.refused a.refused refl;
      slots = on_later a.slots (settled_at (with_line_up run next) entry.1.dts);
    }

stays_after : (c : Course) (entry : ℕ × AccessUnit) (takes : Bool) → takes_over c.run c.air entry ≡ takes → StaysIn c (course_after c.run c.air entry)
stays_after c entry true takes =
    let read = read_line_up c.run c.air entry takes in
    subst (λ (d : Course). StaysIn c d) (sym (course_over c.run c.air entry read.0 takes read.1)) (stays_over c.run c.air entry read.0)
stays_after c entry false stays =
    subst (λ (d : Course). StaysIn c d) (sym (course_same c.run c.air entry stays))
    (stays_by c.run c.air entry (air_cause c.run c.air entry) refl stays)

-- ---- Records in a row

stays_same : (c : Course) → StaysIn c c
stays_same c = record {
  output = begins_same (output_at c) (output_at c) refl;
  accepted = begins_same (all_accepted c) (all_accepted c) refl;
  refused = begins_same c.air.refused c.air.refused refl;
  slots = omega arith;
}

stays_more : (a b c : Course) → StaysIn a b → StaysIn b c → StaysIn a c
stays_more a b c first next = record {
  output = begins_more (output_at a) (output_at b) (output_at c) first.output next.output;
  accepted = begins_more (all_accepted a) (all_accepted b) (all_accepted c) first.accepted next.accepted;
  refused = begins_more a.air.refused b.air.refused c.air.refused first.refused next.refused;
  slots = omega (arith, first.slots, next.slots);
}

stays_from : (c : Course) (entries : List (ℕ × AccessUnit)) → StaysIn c (aired_from c entries)
unfolding aired_from
stays_from c [] = stays_same c
stays_from c (entry ∷ entries) =
    stays_more c (course_after c.run c.air entry) (aired_from (course_after c.run c.air entry) entries)
    (stays_after c entry (takes_over c.run c.air entry) refl)
    (stays_from (course_after c.run c.air entry) entries)

steady_from : (run : Run) (c : Course) (entries : List (ℕ × AccessUnit)) → IsInRange run.scheduled.description → (IsFirst c → SteadyIn run c) →
    IsFirst (aired_from c entries) → SteadyIn run (aired_from c entries)
unfolding aired_from
steady_from run c [] ranges so first = so first
steady_from run c (entry ∷ entries) ranges so first =
    steady_from run (course_after c.run c.air entry) entries ranges (steady_more run c entry ranges so) first

-- Records in two parts
aired_parts : (c : Course) (first more : List (ℕ × AccessUnit)) → aired_from c (first ++ more) ≡ aired_from (aired_from c first) more
unfolding aired_from
aired_parts c [] more = refl
aired_parts c (entry ∷ first) more = aired_parts (course_after c.run c.air entry) first more

stays_all : (run : Run) (entries more : List (ℕ × AccessUnit)) → StaysIn (aired_all run entries) (aired_all run (entries ++ more))
stays_all run entries more =
    subst (λ (c : Course). StaysIn (aired_all run entries) c) (sym (aired_parts (at_begin run) entries more)) (stays_from (aired_all run entries) more)

-- The end of an input adds slots alone.
stays_ended : (c : Course) → StaysIn c (course_ended c)
stays_ended c = record {
  output = on_more c.run c.air.before c.air.accepted c.air.slots (last_at c.run c.air.greatest) c.air.changes;
  accepted = begins_same (all_accepted c) (all_accepted c) refl;
  refused = begins_same c.air.refused c.air.refused refl;
  slots = on_later c.air.slots (last_at c.run c.air.greatest);
}

-- ---- The first line-up

units_within : (d : Scheduled) (units : List (ℕ × AccessUnit)) → IsInRange d.description → AllKept d units → UnitsKept d (λ k. units_of k units)
units_within d units ranges kept = record { parameters = parameters_known d ranges; kept = kept }

first_headline : (run : Run) (a : Air) → Promises run.scheduled → Steady run a → KeepsHeadline run a
first_headline run a promises so =
    headline_over run.scheduled a.changes (job_of a).units a.slots promises.ranges promises.promised
    (subst (λ (b : Before). UnitsKept run.scheduled (history_by b a.accepted a.slots a.changes).units) (sym so.before)
    (units_within run.scheduled a.accepted promises.ranges so.kept))

first_holds : (run : Run) (c : Course) → Promises run.scheduled → SteadyIn run c → FirstHolds c
first_holds run c promises so = subst (λ (r : Run). FirstHolds (course_of r c.air)) (sym so.is)
    (record { slots = so.steady.slots; headline = first_headline run c.air promises so.steady })

pub endless_records : EndlessRecords
endless_records run entries promises = record {
  first = λ first. first_holds run (aired_all run entries) promises
      (steady_from run (at_begin run) entries promises.ranges (λ begun. record { is = refl; steady = steady_first run }) first);
  later = λ more. stays_all run entries more;
  last = λ more. stays_more (aired_all run entries) (aired_all run (entries ++ more)) (course_ended (aired_all run (entries ++ more)))
      (stays_all run entries more) (stays_ended (aired_all run (entries ++ more)));
}

-- ---- The first records of an input

heard_with : (run : Run) (c : Course) (entries : List (ℕ × AccessUnit)) (found : Result (Option (ℕ × AccessUnit)) UnitFileError) →
    c ≡ aired_all run entries → with_record found c ≡ aired_all run (with_entry found entries)
unfolding with_record with_entry aired_from
heard_with run c entries (Ok (Some entry)) is =
    ap (λ (d : Course). course_after d.run d.air entry) is ∙ sym (aired_parts (at_begin run) entries (entry ∷ []))
heard_with run c entries (Ok None) is = is
heard_with run c entries (Err fault) is = is

heard_is : (run : Run) (n : ℕ) (xs : List ℕ) → heard run n xs ≡ aired_all run (records_of n xs)
unfolding heard records_of aired_from
heard_is run zero xs = refl
heard_is run (suc n) xs = heard_with run (heard run n xs) (records_of n xs) (record_at (after_records n xs)) (heard_is run n xs)

entry_begins : (entries : List (ℕ × AccessUnit)) (found : Result (Option (ℕ × AccessUnit)) UnitFileError) → BeginsWith (with_entry found entries) entries
unfolding with_entry
entry_begins entries (Ok (Some entry)) = record { more = entry ∷ []; is = refl }
entry_begins entries (Ok None) = begins_same entries entries refl
entry_begins entries (Err fault) = begins_same entries entries refl

next_begins : (n : ℕ) (xs : List ℕ) → BeginsWith (records_of (suc n) xs) (records_of n xs)
unfolding records_of
next_begins n xs = entry_begins (records_of n xs) (record_at (after_records n xs))

records_begin : (n more : ℕ) (xs : List ℕ) → BeginsWith (records_of (n + more) xs) (records_of n xs)
records_begin n zero xs =
    let same : n + 0 ≡ n = omega arith in
    begins_same (records_of n xs) (records_of (n + 0) xs) (ap (λ (m : ℕ). records_of m xs) same)
records_begin n (suc more) xs =
    let next : suc (n + more) ≡ n + suc more = omega arith in
    begins_more (records_of n xs) (records_of (n + more) xs) (records_of (n + suc more) xs) (records_begin n more xs)
    (subst (λ (m : ℕ). BeginsWith (records_of m xs) (records_of (n + more) xs)) next (next_begins (n + more) xs))

heard_stays : (run : Run) (n more : ℕ) (xs : List ℕ) → StaysIn (heard run n xs) (heard run (n + more) xs)
heard_stays run n more xs =
    let first = records_begin n more xs in
    let later : aired_all run (records_of n xs ++ first.more) ≡ heard run (n + more) xs =
    ap (λ (l : List (ℕ × AccessUnit)). aired_all run l) (sym first.is) ∙ sym (heard_is run (n + more) xs) in
    subst (λ (c : Course). StaysIn c (heard run (n + more) xs)) (sym (heard_is run n xs))
    (subst (λ (c : Course). StaysIn (aired_all run (records_of n xs)) c) later (stays_all run (records_of n xs) first.more))

pub endless_input : EndlessInput
endless_input run n xs = record { is = heard_is run n xs; later = λ more. heard_stays run n more xs }
