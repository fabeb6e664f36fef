-- The state of a run after a record, and after the end
use Rattle.std.proofs.Common.{◌≡◌, ℕ, ◌+◌, max, Bool, true, false, cond, List, [], Option, Some, None, Result, Ok, refl, sym, ap, ◌∙◌, subst, arith}
use Rattle.std.specs.Prelude.{◌&&◌, IfErr, OnOk, is_none, not}
use Rattle.mux_core.specs.declared.output.OutputFault.{OutputFault}
use Rattle.description_parts.specs.Described.{Described}
use Rattle.description_parts.specs.Ranges.{IsInRange}
use Rattle.description_keys.specs.declared.fault.DescError.{DescError}
use Rattle.changed_texts.specs.Reading.{description_in}
use Rattle.pes_packet.specs.AccessUnits.{AccessUnit}
use Rattle.mux_core.specs.Buffer.{waiting_of, Buffered, IsOutput, Took}
use Rattle.mux_core.proofs.Written.{holds_none}
use Rattle.mux_core.specs.Scheduled.{Scheduled}
use Rattle.mux_core.specs.Headline.{HeadlineOver, UnitsKept}
use Rattle.mux_core.specs.Histories.{History, bytes_of, empty_history}
use Rattle.mux_core.specs.MuxStates.{MuxState}
use Rattle.mux_core.specs.WholeJobs.{run_output}
use Rattle.mux_core.proofs.Accepted.{units_kept}
use Rattle.mux_core.proofs.Whole.{headline_over}
use Rattle.on_air.specs.declared.leap.Leap.{Leap}
use Rattle.on_air.specs.declared.options.Terms.{Terms}
use Rattle.on_air.specs.declared.refusals.AirRefusal.{AirRefusal}
use Rattle.on_air.specs.declared.refusals.AirRefusal.TheVariants.{Feed, Ahead, Followed, Texts, LineUp}
use Rattle.on_air.specs.declared.refusals.FarRecord.{FarRecord}
use Rattle.on_air.specs.declared.refusals.RefusedUnit.{RefusedUnit}
use Rattle.on_air.specs.declared.refusals.LineUpRefusal.{LineUpRefusal}
use Rattle.on_air.specs.declared.refusals.TextsRefusal.{TextsRefusal}
use Rattle.on_air.specs.Airing.{Run, Air, silence, content_with, history_by, job_of, air_output, lead_of, limit_of, settled, settled_at, last_of, last_at, on_to}
use Rattle.on_air.specs.Airing.{accepted_by, air_cause, brings_line_up, brings_texts, changes_run, far_record, greatest_by, is_far_from, caught_up, changed, judged, judged_by, leap_by, leap_left}
use Rattle.on_air.specs.Airing.{slots_followed, taken, with_count, with_read, with_texts}
use Rattle.on_air.specs.Leaps.{is_far, is_followed, leap_with, no_leap}
use Rattle.on_air.specs.LineUps.{has_plan}
use Rattle.on_air.specs.AirStates.{AirState, Carries, with_slots, WroteOn, Promises, Admits, IsOnAir, run_with}
use Rattle.on_air.specs.Hearing.{Fails}
use Rattle.on_air.proofs.Contents.{output_same}
use Rattle.on_air.proofs.TurnsOn.{turn_kept, turns_go_on}

-- If a multiplexer carries a history, the bytes of its units keep every promise in any number of slots, whatever texts change.
pub keeps : (run : Run) (h later : History) (m : MuxState) → Promises run.scheduled → Carries run h m → later.units ≡ h.units →
    HeadlineOver run.scheduled later.changes later.units later.slots (bytes_of run.scheduled later)
keeps run h later m promises c same =
    headline_over run.scheduled later.changes later.units later.slots promises.ranges promises.promised
    (subst (λ (units : ℕ → List AccessUnit). UnitsKept run.scheduled units) (sym same)
    (subst (λ (d : Scheduled). UnitsKept d h.units) c.scheduled
    (units_kept h m (subst (λ (d : Scheduled). IsInRange d.description) (sym c.scheduled) promises.ranges) c.represents)))

-- Two states that differ only in the fields that a record may change
pub record Moves (old new : AirState) : Type 0 where
  pub terms : new.terms ≡ old.terms
  pub rate : new.rate ≡ old.rate
  pub lead : new.lead ≡ old.lead
  pub one_plan : new.one_plan ≡ old.one_plan
  pub gone : new.gone ≡ old.gone

-- The state after a record is refused
pub refused_by : (run : Run) (a : Air) (entry : ℕ × AccessUnit) (cause : AirRefusal) (start now : Option (List ℕ)) (old new : AirState) →
    IsOnAir run a start now old → Moves old new →
    new.packets ≡ old.packets → new.greatest ≡ greatest_by a cause → new.leap ≡ leap_left run a entry cause → new.records ≡ old.records + 1 →
    Carries run (job_of a) new.mux →
    IsOnAir run (judged_by run a entry (Some cause)) start now new
unfolding judged_by
refused_by run a entry cause start now old new h moves packets greatest leap records mux = record {
  mux = mux;
  promises = h.promises;
  terms = moves.terms ∙ h.terms;
  hex = ap (λ (p : Buffered). p.hex) packets ∙ h.hex;
  rate = moves.rate ∙ h.rate;
  lead = moves.lead ∙ h.lead;
  greatest = greatest;
  leap = leap;
  records = records ∙ ap (λ (n : ℕ). n + 1) h.records;
  one_plan = moves.one_plan ∙ h.one_plan;
  gone = moves.gone ∙ h.gone;
  line_ups = record { begun = h.line_ups.begun; turns = h.line_ups.turns; gone = h.line_ups.gone };
  output = subst (λ (p : Buffered). IsOutput start now p (air_output run a)) (sym packets) h.output;
  headline = h.headline;
}

-- The state after the multiplexer refuses a record
pub refused_on : (run : Run) (a : Air) (entry : ℕ × AccessUnit) (unit : RefusedUnit) (start now : Option (List ℕ)) (old new : AirState) →
    IsOnAir run a start now old → Moves old new →
    new.packets ≡ old.packets → new.greatest ≡ old.greatest → new.leap ≡ old.leap → new.records ≡ old.records + 1 →
    Admits run a entry (Some (Feed unit)) new.mux →
    (air_cause run a entry ≡ Some (Feed unit)) × IsOnAir run (judged run a entry) start now new
unfolding accepted_by greatest_by leap_left
refused_on run a entry unit start now old new h moves packets greatest leap records admits = (
  sym admits.cause,
  subst (λ (o : Option AirRefusal). IsOnAir run (judged_by run a entry o) start now new) admits.cause
      (refused_by run a entry (Feed unit) start now old new h moves packets (greatest ∙ h.greatest) (leap ∙ h.leap) records admits.mux),
)

-- A record that is too far ahead is refused as `Ahead`; the multiplexer does not change.
not_followed : (run : Run) (a : Air) (entry : ℕ × AccessUnit) → is_far_from run a entry ≡ true → is_followed (leap_by run a entry) ≡ false →
    air_cause run a entry ≡ Some (Ahead (far_record run a entry))
not_followed run a entry far few = rw (far, few) refl

far_same_record : (run : Run) (a : Air) (entry : ℕ × AccessUnit) (stream from to ahead : ℕ) → stream ≡ entry.0 → from ≡ a.greatest → to ≡ entry.1.dts →
    ahead ≡ run.terms.ahead → far_record run a entry ≡ record { stream = stream; from = from; to = to; ahead = ahead }
far_same_record run a entry stream from to ahead s f t l = rw (s, f, t, l) refl

pub passed_over : (run : Run) (a : Air) (entry : ℕ × AccessUnit) (stream from to ahead : ℕ) (start now : Option (List ℕ)) (old new : AirState) →
    IsOnAir run a start now old →
    Moves old new →
    is_far_from run a entry ≡ true → is_followed (leap_by run a entry) ≡ false → stream ≡ entry.0 → from ≡ old.greatest → to ≡ entry.1.dts →
    ahead ≡ old.terms.ahead → new.mux ≡ old.mux →
    new.packets ≡ old.packets → new.greatest ≡ old.greatest → new.leap ≡ leap_by run a entry → new.records ≡ old.records + 1 →
    (air_cause run a entry ≡ Some (Ahead (record { stream = stream; from = from; to = to; ahead = ahead }))) × IsOnAir run (judged run a entry) start now new
unfolding greatest_by leap_left
passed_over run a entry stream from to ahead start now old new h moves far few s f t l mux packets greatest leap records =
    let same = far_same_record run a entry stream from to ahead s (f ∙ h.greatest) t (l ∙ ap (λ (x : Terms). x.ahead) h.terms) in
    let cause = not_followed run a entry far few ∙ ap (λ (r : FarRecord). Some (Ahead r)) same in (
      cause,
      subst (λ (o : Option AirRefusal). IsOnAir run (judged_by run a entry o) start now new) (sym cause)
          (refused_by run a entry (Ahead (record { stream = stream; from = from; to = to; ahead = ahead })) start now old new h moves packets
          (greatest ∙ h.greatest) leap records
          (subst (λ (m : MuxState). Carries run (job_of a) m) (sym mux) h.mux)),
    )

-- If the run follows a leap, its last record is refused as `Followed`.
followed_cause : (run : Run) (a : Air) (entry : ℕ × AccessUnit) → is_far_from run a entry ≡ true → is_followed (leap_by run a entry) ≡ true →
    air_cause run a entry ≡ Some (Followed a.slots a.greatest entry.1.dts)
followed_cause run a entry far many = rw (far, many) refl

followed_same : (packet slots from greatest to due : ℕ) → packet ≡ slots → from ≡ greatest → to ≡ due → Followed packet from to ≡ Followed slots greatest due
followed_same packet slots from greatest to due p f t = rw (p, f, t) refl

pub passed_last : (run : Run) (a : Air) (entry : ℕ × AccessUnit) (packet from to : ℕ) (start now : Option (List ℕ)) (old new : AirState) →
    IsOnAir run a start now old → Moves old new →
    is_far_from run a entry ≡ true → is_followed (leap_by run a entry) ≡ true → packet ≡ a.slots → from ≡ old.greatest → to ≡ entry.1.dts → new.mux ≡ old.mux →
    new.packets ≡ old.packets → new.greatest ≡ to → new.leap ≡ no_leap → new.records ≡ old.records + 1 →
    (air_cause run a entry ≡ Some (Followed packet from to)) × IsOnAir run (judged run a entry) start now new
unfolding greatest_by leap_left
passed_last run a entry packet from to start now old new h moves far many p f t mux packets greatest leap records =
    let reported : Followed packet from to ≡ Followed a.slots a.greatest entry.1.dts =
    followed_same packet a.slots from a.greatest to entry.1.dts p (f ∙ h.greatest) t in
    let cause : air_cause run a entry ≡ Some (Followed packet from to) = followed_cause run a entry far many ∙ ap Some (sym reported) in (
      cause,
      subst (λ (o : Option AirRefusal). IsOnAir run (judged_by run a entry o) start now new) (sym cause)
          (refused_by run a entry (Followed packet from to) start now old new h moves packets greatest leap records
          (subst (λ (m : MuxState). Carries run (job_of a) m) (sym mux) h.mux)),
    )

-- The run after a record is accepted, before the slots that the record settles are written
pub admitted : Air → ℕ × AccessUnit → Air
admitted a entry = record {
  before = a.before;
  accepted = accepted_by a entry None;
  slots = a.slots;
  greatest = max a.greatest entry.1.dts;
  leap = no_leap;
  records = a.records + 1;
  refused = a.refused;
  changes = a.changes;
}

pub admitted_on : (run : Run) (a : Air) (entry : ℕ × AccessUnit) (start now : Option (List ℕ)) (old new : AirState) → IsOnAir run a start now old →
    Moves old new →
    new.packets ≡ old.packets → new.greatest ≡ max old.greatest entry.1.dts → new.leap ≡ no_leap → new.records ≡ old.records + 1 →
    Admits run a entry None new.mux →
    IsOnAir run (admitted a entry) start now new
unfolding admitted
admitted_on run a entry start now old new h moves packets greatest leap records admits = record {
  mux = admits.mux;
  promises = h.promises;
  terms = moves.terms ∙ h.terms;
  hex = ap (λ (p : Buffered). p.hex) packets ∙ h.hex;
  rate = moves.rate ∙ h.rate;
  lead = moves.lead ∙ h.lead;
  greatest = greatest ∙ ap (λ (n : ℕ). max n entry.1.dts) h.greatest;
  leap = leap;
  records = records ∙ ap (λ (n : ℕ). n + 1) h.records;
  one_plan = moves.one_plan ∙ h.one_plan;
  gone = moves.gone ∙ h.gone;
  line_ups = record {
    begun = h.line_ups.begun;
    turns = turns_go_on run a.before (job_of a) (history_by a.before (accepted_by a entry None) a.slots a.changes) a.slots h.line_ups.begun admits.before
        (turn_kept run a.before.from (history_by a.before (accepted_by a entry None) a.slots a.changes)
        (history_by a.before (accepted_by a entry None) a.slots a.changes) new.mux h.promises admits.mux refl) h.line_ups.turns;
    gone = h.line_ups.gone;
  };
  output = subst (λ (l : List ℕ). IsOutput start now new.packets l) (sym (output_same run a.before a.accepted (accepted_by a entry None) a.slots a.changes a.changes admits.before))
      (subst (λ (p : Buffered). IsOutput start now p (air_output run a)) (sym packets) h.output);
  headline = keeps run (history_by a.before (accepted_by a entry None) a.slots a.changes) (history_by a.before (accepted_by a entry None) a.slots a.changes)
      new.mux h.promises admits.mux refl;
}

-- A record that changes nothing in the run brings no texts and no line-up.
pub no_texts : (run : Run) (entry : ℕ × AccessUnit) → changes_run run entry ≡ false → brings_texts run entry ≡ false
no_texts run entry none = ap (λ (b : Bool). b && not (has_plan entry.1.bytes)) none

pub no_line_up : (run : Run) (entry : ℕ × AccessUnit) → changes_run run entry ≡ false → brings_line_up run entry ≡ false
no_line_up run entry none = ap (λ (b : Bool). b && has_plan entry.1.bytes) none

-- The progress after a unit or a tick is taken, and after texts are
pub judged_unit : (run : Run) (a : Air) (entry : ℕ × AccessUnit) → air_cause run a entry ≡ None → changes_run run entry ≡ false →
    judged run a entry ≡ taken run a entry (accepted_by a entry None) a.changes
unfolding judged_by
judged_unit run a entry none unit =
    ap (λ (o : Option AirRefusal). judged_by run a entry o) none
    ∙ ap (λ (b : Bool). cond b (changed run a entry) (taken run a entry (accepted_by a entry None) a.changes)) (no_texts run entry unit)

pub judged_texts : (run : Run) (a : Air) (entry : ℕ × AccessUnit) (texts : Described) → air_cause run a entry ≡ None → brings_texts run entry ≡ true →
    description_in entry.1.bytes ≡ Ok texts → judged run a entry ≡ with_texts run (taken run a entry a.accepted a.changes) texts
unfolding judged_by
judged_texts run a entry texts none brings is =
    ap (λ (o : Option AirRefusal). judged_by run a entry o) none
    ∙ ap (λ (b : Bool). cond b (changed run a entry) (taken run a entry (accepted_by a entry None) a.changes)) brings
    ∙ ap (λ (r : Result Described DescError). with_read run (taken run a entry a.accepted a.changes) r) is

-- The state after the settled slots are written
pub taken_on : (run : Run) (a : Air) (entry : ℕ × AccessUnit) (due : ℕ) (start later : Option (List ℕ)) (m : MuxState) (new : AirState) →
    Admits run a entry None m → changes_run run entry ≡ false → due ≡ entry.1.dts →
    IsOnAir run (with_count (admitted a entry) (on_to (admitted a entry).slots (settled_at run due))) start later new →
    (air_cause run a entry ≡ None) × ((changes_run run entry ≡ false) × IsOnAir run (judged run a entry) start later new)
unfolding admitted
taken_on run a entry due start later m new admits unit is on = (
  sym admits.cause,
  (
    unit,
    subst (λ (b : Air). IsOnAir run b start later new) (sym (judged_unit run a entry (sym admits.cause) unit))
        (subst (λ (n : ℕ). IsOnAir run (with_count (admitted a entry) (on_to (admitted a entry).slots (settled_at run n))) start later new) is on),
  ),
)

-- The writer fails while the settled slots are written.
pub fails_on : (run : Run) (a : Air) (entry : ℕ × AccessUnit) (due sent : ℕ) (start later : Option (List ℕ)) (m : MuxState) → Admits run a entry None m →
    changes_run run entry ≡ false → due ≡ entry.1.dts →
    Fails run (with_count (admitted a entry) (on_to (admitted a entry).slots (settled_at run due))) start later sent →
    (air_cause run a entry ≡ None) × Fails run (judged run a entry) start later sent
unfolding admitted
fails_on run a entry due sent start later m admits unit is fails = (
  sym admits.cause,
  subst (λ (b : Air). Fails run b start later sent) (sym (judged_unit run a entry (sym admits.cause) unit))
      (subst (λ (n : ℕ). Fails run (with_count (admitted a entry) (on_to (admitted a entry).slots (settled_at run n))) start later sent) is fails),
)

-- The state after buffered packets are written
pub flushed : (run : Run) (a : Air) (start now later : Option (List ℕ)) (old new : AirState) → IsOnAir run a start now old → Moves old new → new.mux ≡ old.mux →
    new.packets.hex ≡ old.packets.hex → new.greatest ≡ old.greatest → new.leap ≡ old.leap → new.records ≡ old.records →
    IsOutput start later new.packets (air_output run a) → IsOnAir run a start later new
flushed run a start now later old new h moves mux hex greatest leap records output = record {
  mux = subst (λ (m : MuxState). Carries run (job_of a) m) (sym mux) h.mux;
  promises = h.promises;
  terms = moves.terms ∙ h.terms;
  hex = hex ∙ h.hex;
  rate = moves.rate ∙ h.rate;
  lead = moves.lead ∙ h.lead;
  greatest = greatest ∙ h.greatest;
  leap = leap ∙ h.leap;
  records = records ∙ h.records;
  one_plan = moves.one_plan ∙ h.one_plan;
  gone = moves.gone ∙ h.gone;
  line_ups = record { begun = h.line_ups.begun; turns = h.line_ups.turns; gone = h.line_ups.gone };
  output = output;
  headline = h.headline;
}

pub not_flushed : (run : Run) (a : Air) (start now later : Option (List ℕ)) (sent : ℕ) (old : AirState) → IsOnAir run a start now old →
    Took start later sent (air_output run a) → Fails run a start later sent
not_flushed run a start now later sent old h took = record {
  took = took;
  line_ups = h.line_ups;
  headline = h.headline;
}

-- ---- The end

pub end_output : (run : Run) (a : Air) (start now : Option (List ℕ)) (old : AirState) (packets : Buffered) → IsOnAir run a start now old →
    packets ≡ old.packets →
    IsOutput start now packets (run_output packets.hex (content_with run a.before a.accepted a.changes) 0 a.slots)
end_output run a start now old packets h same =
    let content = content_with run a.before a.accepted a.changes in
    subst (λ (p : Buffered). IsOutput start now p (run_output p.hex content 0 a.slots)) (sym same)
    (subst (λ (b : Bool). IsOutput start now old.packets (run_output b content 0 a.slots)) (sym h.hex) h.output)

-- The state after all slots before `target` are written
pub counted_on : (run : Run) (a : Air) (target : ℕ) (hex : Bool) (start now later : Option (List ℕ)) (old new : AirState) → IsOnAir run a start now old →
    Moves old new →
    hex ≡ old.packets.hex → new.greatest ≡ old.greatest → new.leap ≡ old.leap → new.records ≡ old.records →
    WroteOn run (with_slots (job_of a) (on_to a.slots target)) (content_with run a.before a.accepted a.changes) hex start later new.mux new.packets →
    IsOnAir run (with_count a (on_to a.slots target)) start later new
counted_on run a target hex start now later old new h moves like greatest leap records wrote = record {
  mux = wrote.mux;
  promises = h.promises;
  terms = moves.terms ∙ h.terms;
  hex = wrote.hex_is ∙ like ∙ h.hex;
  rate = moves.rate ∙ h.rate;
  lead = moves.lead ∙ h.lead;
  greatest = greatest ∙ h.greatest;
  leap = leap ∙ h.leap;
  records = records ∙ h.records;
  one_plan = moves.one_plan ∙ h.one_plan;
  gone = moves.gone ∙ h.gone;
  line_ups = record {
    begun = omega (arith, h.line_ups.begun);
    turns = turns_go_on run a.before (job_of a) (job_of (with_count a (on_to a.slots target))) a.slots h.line_ups.begun (λ t lt. refl)
        (turn_kept run a.before.from (job_of a) (job_of (with_count a (on_to a.slots target))) old.mux h.promises h.mux refl) h.line_ups.turns;
    gone = h.line_ups.gone;
  };
  output = subst (λ (b : Bool). IsOutput start later new.packets (run_output b (content_with run a.before a.accepted a.changes) 0 (on_to a.slots target)))
      (like ∙ h.hex) wrote.output;
  headline = keeps run (job_of a) (job_of (with_count a (on_to a.slots target))) old.mux h.promises h.mux refl;
}

pub count_fails : (run : Run) (a : Air) (target sent : ℕ) (hex : Bool) (start now later : Option (List ℕ)) (old : AirState) → IsOnAir run a start now old →
    hex ≡ old.packets.hex → Took start later sent (run_output hex (content_with run a.before a.accepted a.changes) 0 (on_to a.slots target)) →
    Fails run (with_count a (on_to a.slots target)) start later sent
count_fails run a target sent hex start now later old h like took = record {
  took = subst (λ (b : Bool). Took start later sent (run_output b (content_with run a.before a.accepted a.changes) 0 (on_to a.slots target))) (like ∙ h.hex) took;
  line_ups = record {
    begun = omega (arith, h.line_ups.begun);
    turns = turns_go_on run a.before (job_of a) (job_of (with_count a (on_to a.slots target))) a.slots h.line_ups.begun (λ t lt. refl)
        (turn_kept run a.before.from (job_of a) (job_of (with_count a (on_to a.slots target))) old.mux h.promises h.mux refl) h.line_ups.turns;
    gone = h.line_ups.gone;
  };
  headline = keeps run (job_of a) (job_of (with_count a (on_to a.slots target))) old.mux h.promises h.mux refl;
}

-- The same by the number of slots that the caller asked for
pub counted_same : (run : Run) (a : Air) (target wanted : ℕ) (start later : Option (List ℕ)) (new : AirState) → target ≡ wanted →
    IsOnAir run (with_count a (on_to a.slots target)) start later new →
    IsOnAir run (with_count a (on_to a.slots wanted)) start later new
counted_same run a target wanted start later new is on = subst (λ (n : ℕ). IsOnAir run (with_count a (on_to a.slots n)) start later new) is on

pub fails_same : (run : Run) (a : Air) (target wanted sent : ℕ) (start later : Option (List ℕ)) → target ≡ wanted →
    Fails run (with_count a (on_to a.slots target)) start later sent →
    Fails run (with_count a (on_to a.slots wanted)) start later sent
fails_same run a target wanted sent start later is fails = subst (λ (n : ℕ). Fails run (with_count a (on_to a.slots n)) start later sent) is fails

-- If the run follows a record, the slots up to it are written.
pub followed_on : {V : Type 0} (run : Run) (a : Air) (refusal : AirRefusal) (packet from to : ℕ) (start later : Option (List ℕ)) (new : AirState)
    (result : Result V OutputFault) →
    refusal ≡ Followed packet from to → OnOk result (IsOnAir run (with_count a (on_to a.slots (settled_at run to))) start later new) →
    OnOk result (IsOnAir run (caught_up run a (Some refusal)) start later new)
unfolding slots_followed
followed_on run a refusal packet from to start later new result is on =
    subst (λ (r : AirRefusal). OnOk result (IsOnAir run (caught_up run a (Some r)) start later new)) (sym is) on

pub follow_fails : {V : Type 0} (run : Run) (a : Air) (refusal : AirRefusal) (packet from to : ℕ) (start later : Option (List ℕ))
    (result : Result V OutputFault) →
    refusal ≡ Followed packet from to → IfErr result (λ fault. Fails run (with_count a (on_to a.slots (settled_at run to))) start later fault.sent) →
    IfErr result (λ fault. Fails run (caught_up run a (Some refusal)) start later fault.sent)
unfolding slots_followed
follow_fails run a refusal packet from to start later result is fails =
    subst (λ (r : AirRefusal). IfErr result (λ fault. Fails run (caught_up run a (Some r)) start later fault.sent)) (sym is) fails

pub stays_ahead : (run : Run) (a : Air) (refusal : AirRefusal) (far : FarRecord) (start now : Option (List ℕ)) (s : AirState) → refusal ≡ Ahead far →
    IsOnAir run a start now s →
    IsOnAir run (caught_up run a (Some refusal)) start now s
unfolding slots_followed
stays_ahead run a refusal far start now s is on = subst (λ (r : AirRefusal). IsOnAir run (caught_up run a (Some r)) start now s) (sym is) on

pub stays_fed : (run : Run) (a : Air) (refusal : AirRefusal) (unit : RefusedUnit) (start now : Option (List ℕ)) (s : AirState) → refusal ≡ Feed unit →
    IsOnAir run a start now s →
    IsOnAir run (caught_up run a (Some refusal)) start now s
unfolding slots_followed
stays_fed run a refusal unit start now s is on = subst (λ (r : AirRefusal). IsOnAir run (caught_up run a (Some r)) start now s) (sym is) on

pub stays_texts : (run : Run) (a : Air) (refusal : AirRefusal) (cause : TextsRefusal) (start now : Option (List ℕ)) (s : AirState) → refusal ≡ Texts cause →
    IsOnAir run a start now s →
    IsOnAir run (caught_up run a (Some refusal)) start now s
unfolding slots_followed
stays_texts run a refusal cause start now s is on = subst (λ (r : AirRefusal). IsOnAir run (caught_up run a (Some r)) start now s) (sym is) on

pub stays_line_up : (run : Run) (a : Air) (refusal : AirRefusal) (cause : LineUpRefusal) (start now : Option (List ℕ)) (s : AirState) →
    refusal ≡ LineUp cause → IsOnAir run a start now s →
    IsOnAir run (caught_up run a (Some refusal)) start now s
unfolding slots_followed
stays_line_up run a refusal cause start now s is on = subst (λ (r : AirRefusal). IsOnAir run (caught_up run a (Some r)) start now s) (sym is) on

-- ---- The numbers that the calls count with

pub last_same : (run : Run) (a : Air) (start now : Option (List ℕ)) (old : AirState) (rate greatest : ℕ) (terms : Terms) → IsOnAir run a start now old →
    rate ≡ old.rate → terms ≡ old.terms → greatest ≡ old.greatest → last_of rate terms greatest ≡ last_at run a.greatest
last_same run a start now old rate greatest terms h r t g =
    ap (λ (n : ℕ). last_of n terms greatest) (r ∙ h.rate) ∙ ap (λ (x : Terms). last_of run.scheduled.description.rate x greatest) (t ∙ h.terms)
    ∙ ap (λ (n : ℕ). last_of run.scheduled.description.rate run.terms n) (g ∙ h.greatest)

pub settled_same : (run : Run) (a : Air) (start now : Option (List ℕ)) (old : AirState) (rate lead limit due dts : ℕ) (terms : Terms) →
    IsOnAir run a start now old →
    rate ≡ old.rate → lead ≡ old.lead → terms ≡ old.terms → limit ≡ limit_of terms → due ≡ dts → settled rate lead limit due ≡ settled_at run dts
settled_same run a start now old rate lead limit due dts terms h r l t m e =
    ap (λ (n : ℕ). settled n lead limit due) (r ∙ h.rate) ∙ ap (λ (n : ℕ). settled run.scheduled.description.rate n limit due) (l ∙ h.lead)
    ∙ ap (λ (n : ℕ). settled run.scheduled.description.rate (lead_of run) n due) (m ∙ ap (λ (x : Terms). limit_of x) (t ∙ h.terms))
    ∙ ap (λ (n : ℕ). settled run.scheduled.description.rate (lead_of run) (limit_of run.terms) n) e

-- Whether a record is too far ahead, and the records that leap with it
pub far_same : (run : Run) (a : Air) (entry : ℕ × AccessUnit) (start now : Option (List ℕ)) (old : AirState) (ahead greatest due : ℕ) →
    IsOnAir run a start now old → ahead ≡ old.terms.ahead → greatest ≡ old.greatest → due ≡ entry.1.dts → is_far ahead greatest due ≡ is_far_from run a entry
far_same run a entry start now old ahead greatest due h s g d =
    let terms : ahead ≡ run.terms.ahead = s ∙ ap (λ (t : Terms). t.ahead) h.terms in
    ap (λ (n : ℕ). is_far n greatest due) terms ∙ ap (λ (n : ℕ). is_far run.terms.ahead n due) (g ∙ h.greatest)
    ∙ ap (λ (n : ℕ). is_far run.terms.ahead a.greatest n) d

pub leap_same : (run : Run) (a : Air) (entry : ℕ × AccessUnit) (start now : Option (List ℕ)) (old : AirState) (before : Leap) (ahead due : ℕ) →
    IsOnAir run a start now old → ahead ≡ old.terms.ahead → before ≡ old.leap → due ≡ entry.1.dts → leap_with ahead before due ≡ leap_by run a entry
leap_same run a entry start now old before ahead due h s b d =
    let terms : ahead ≡ run.terms.ahead = s ∙ ap (λ (t : Terms). t.ahead) h.terms in
    ap (λ (n : ℕ). leap_with n before due) terms ∙ ap (λ (l : Leap). leap_with run.terms.ahead l due) (b ∙ h.leap)
    ∙ ap (λ (n : ℕ). leap_with run.terms.ahead a.leap n) d

-- The state before the first record
pub begins : (d : Scheduled) (terms : Terms) (hex : Bool) (start : Option (List ℕ)) (s : AirState) → Carries (run_with d terms hex) empty_history s.mux →
    Promises d →
    waiting_of s.packets ≡ [] → s.packets.sent ≡ 0 → s.packets.hex ≡ hex → s.terms ≡ terms → s.rate ≡ d.description.rate →
    s.lead ≡ lead_of (run_with d terms hex) →
    s.greatest ≡ 0 → s.leap ≡ no_leap → s.records ≡ 0 → s.one_plan ≡ is_none d.schedule.following → s.gone ≡ [] →
    IsOnAir (run_with d terms hex) silence start start s
unfolding run_output
begins d terms hex start s carries promises none unsent same t r l g leap n one gone = record {
  mux = carries;
  promises = promises;
  terms = t;
  hex = same;
  rate = r;
  lead = l;
  greatest = g;
  leap = leap;
  records = n;
  one_plan = one;
  gone = gone;
  line_ups = record {
    begun = omega arith;
    turns = (turn_kept (run_with d terms hex) 0 empty_history empty_history s.mux promises carries refl, refl);
    gone = λ pid other off. tt;
  };
  output = holds_none start s.packets none unsent;
  headline = keeps (run_with d terms hex) empty_history empty_history s.mux promises carries refl;
}
