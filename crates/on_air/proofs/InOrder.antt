-- Units in order, with ticks among them, are all accepted.
use Rattle.std.proofs.Common.{◌≡◌, ℕ, zero, suc, ◌-◌, ◌*◌, ◌<◌, ◌≤◌, ◌==◌, max, Bool, true, false, List, [], ◌∷◌, ◌++◌, length, map, Option, Some}
use Rattle.std.proofs.Common.{None, Result, Ok, Err, refl, sym, ap, ◌∙◌, subst, cond, arith, All, inl, inr, append_assoc, append-nil}
use Rattle.std.specs.Prelude.{slice_get, fold, not}
use Rattle.std.specs.Int.{div_ceil}
use Rattle.std.proofs.lemmas.Bool.{le-ltb, lt-leb, cases_eq}
use Rattle.std.proofs.lemmas.List.Elements.{All-nil, All-cons, All-get_or, All-map, All-filter, filter-append}
use Rattle.std.proofs.lemmas.Option.{get_or_from_slice_get, slice_get_within}
use Rattle.std.specs.List.{filter}
use Rattle.clock27.specs.Release.{release}
use Rattle.pes_packet.specs.AccessUnits.{AccessUnit}
use Rattle.pes_packet.specs.Units.{units_of}
use Rattle.description_parts.specs.Described.{DescribedStream}
use Rattle.description_parts.specs.Ranges.{IsInRange}
use Rattle.description_parts.specs.Tables.{stream_on_air}
use Rattle.slot_plan.specs.Promised.{declaration}
use Rattle.unit_timing.specs.Plans.{KeepsDeclaration}
use Rattle.unit_timing.specs.PesPacket.{PesPacket, packets_of_unit}
use Rattle.unit_timing.specs.Allowances.{pace_curve, Allows, KeepsAllowance}
use Rattle.unit_timing.specs.declared.allowance.Allowance.{Allowance}
use Rattle.unit_timing.specs.declared.allowance.Allowance.TheVariants.{Groups, Pace}
use Rattle.unit_queue.specs.OwnedStreams.{timed}
use Rattle.unit_queue.specs.Places.{left_before}
use Rattle.unit_queue.specs.Queues.{Kept, max_packets_per_unit}
use Rattle.unit_queue.specs.Causes.{unit_cause, is_full}
use Rattle.unit_queue.proofs.QueueStates.{first_law, kept_law}
use Rattle.unit_records.specs.Records.{record_at}
use Rattle.unit_records.specs.declared.reading.UnitFileError.{UnitFileError}
use Rattle.mux_core.specs.declared.room.Room.{Room}
use Rattle.mux_core.specs.Rooms.{declared_units, needed_units, room_in, spaced_units}
use Rattle.mux_core.specs.RecordRuns.{after_records}
use Rattle.mux_core.specs.Scheduled.{Scheduled}
use Rattle.mux_core.specs.Histories.{History, owned_stream, TextsSoFar, unchanged}
use Rattle.mux_core.specs.MuxStates.{if_on_air, feed_cause}
use Rattle.mux_core.specs.WholeJobs.{job_history, cause_after, first_refused}
use Rattle.mux_core.proofs.FedUnits.{accepted_on_air}
use Rattle.mux_core.proofs.KnownRanges.{parameters_known, stream_range}
use Rattle.mux_core.proofs.UnitCounts.{own_units, other_units, units_append}
use Rattle.on_air.specs.declared.refusals.AirRefusal.{AirRefusal}
use Rattle.on_air.specs.Airing.{Run, Air, Before, history_by, nothing, silence, greatest_lead, HasRoom, lead_of, settled_at, on_to, is_tick, is_far_from, unit_refusal}
use Rattle.on_air.specs.Airing.{air_cause, accepted_by, aired, caught_up, changed, changes_run, judged_by, slots_followed, taken}
use Rattle.on_air.specs.Courses.{Course, heard, with_record}
use Rattle.on_air.specs.AirStates.{Promises}
use Rattle.on_air.specs.Laws.{with_entry, records_of, without_ticks, greatest_of, IsJobInOrder, AiredInOrder}
use Rattle.on_air.proofs.Aired.{no_texts}
use Rattle.on_air.proofs.Courses.{known_alone}
use Rattle.on_air.proofs.InTime.{taken_in_time}
use Rattle.on_air.proofs.Room.{waiting_spaced, waiting_paced}
use Rattle.on_air.proofs.AsMultiplexed.{first_taken, greatest_more, last_taken, more_settled, none_taken, own_stream_alone, release_begins, release_rises}
use Rattle.on_air.proofs.AsMultiplexed.{stream_of}
use Rattle.on_air.proofs.TextsOn.{tick_alone}

-- ---- The units of each stream

-- The units of each stream are within its declaration.
abbrev pub AllKept : Scheduled → List (ℕ × AccessUnit) → Type 0
AllKept d units = (k : ℕ) (s : DescribedStream) → slice_get d.description.streams k ≡ Some s → Kept (owned_stream d k s) (units_of k units)

pub kept_none : (d : Scheduled) → AllKept d []
kept_none d k s is = (first_law (owned_stream d k s) 0).kept

kept_own : (d : Scheduled) (h : History) (other : Room) (k : ℕ) (u : AccessUnit) (s : DescribedStream) → IsInRange d.description →
    slice_get d.description.streams k ≡ Some s → feed_cause d other h k u (Some s) ≡ None → Kept (owned_stream d k s) (h.units k) →
    Kept (owned_stream d k s) (h.units k ++ (u ∷ []))
unfolding feed_cause
kept_own d h other k u s ranges is none kept =
    kept_law (owned_stream d k s) h.slots (room_in other s) (h.units k) u (parameters_known d ranges k s is) (accepted_on_air _ _ none).1 kept

-- The units of a history are these, with an accepted unit after them.
pub kept_more : (d : Scheduled) (slots : ℕ) (changes : TextsSoFar) (other : Room) (units : List (ℕ × AccessUnit)) (entry : ℕ × AccessUnit) →
    IsInRange d.description →
    feed_cause d other (history_by nothing units slots changes) entry.0 entry.1 (slice_get d.description.streams entry.0) ≡ None → AllKept d units →
    AllKept d (units ++ (entry ∷ []))
kept_more d slots changes other units entry ranges none kept k s is = elim (cases_eq entry.0 k) [
  | inl e ↦
      let more : units_of k (units ++ (entry ∷ [])) ≡ units_of k units ++ (entry.1 ∷ []) =
      units_append k units (entry ∷ []) ∙ ap (λ (l : List AccessUnit). units_of k units ++ l) (own_units k entry [] e) in
      subst (λ (l : List AccessUnit). Kept (owned_stream d k s) l) (sym more)
      (kept_own d (history_by nothing units slots changes) other k entry.1 s ranges is
      (ap (λ (o : Option DescribedStream). feed_cause d other (history_by nothing units slots changes) k entry.1 o) (sym is)
      ∙ subst (λ (j : ℕ). feed_cause d other (history_by nothing units slots changes) j entry.1 (slice_get d.description.streams j) ≡ None) e none) (kept k s is))
  | inr ne ↦
      let same : units_of k (units ++ (entry ∷ [])) ≡ units_of k units =
      units_append k units (entry ∷ []) ∙ ap (λ (l : List AccessUnit). units_of k units ++ l) (other_units k entry [] ne) ∙ append-nil (units_of k units) in
      subst (λ (l : List AccessUnit). Kept (owned_stream d k s) l) (sym same) (kept k s is)
]

-- ---- Greatest and least DTS

none_after : (g : ℕ) (units : List (ℕ × AccessUnit)) →
    (g ≤ fold (λ greatest entry. max greatest entry.1.dts) g units) × All (λ e. e.1.dts ≤ fold (λ greatest entry. max greatest entry.1.dts) g units) units
none_after g [] = (omega arith, All-nil (λ e. e.1.dts ≤ g))
none_after g (entry ∷ units) =
    let rest = none_after (max g entry.1.dts) units in (
      omega (arith, rest.0),
      All-cons (λ e. e.1.dts ≤ fold (λ greatest x. max greatest x.1.dts) (max g entry.1.dts) units) entry units (omega (arith, rest.0))
          rest.1,
    )

all_leads : (g : ℕ) (streams : List DescribedStream) →
    (g ≤ fold (λ lead s. max lead s.lead) g streams) × All (λ s. s.lead ≤ fold (λ lead x. max lead x.lead) g streams) streams
all_leads g [] = (omega arith, All-nil (λ s. s.lead ≤ g))
all_leads g (s ∷ streams) =
    let rest = all_leads (max g s.lead) streams in
    (omega (arith, rest.0), All-cons (λ x. x.lead ≤ fold (λ lead y. max lead y.lead) (max g s.lead) streams) s streams (omega (arith, rest.0)) rest.1)

pub lead_within : (streams : List DescribedStream) (k : ℕ) (s : DescribedStream) → slice_get streams k ≡ Some s → s.lead ≤ greatest_lead streams
lead_within streams k s is =
    rw (get_or_from_slice_get streams k s s is) at
    (All-get_or (λ x. x.lead ≤ greatest_lead streams) streams k s (slice_get_within streams k s is) (all_leads 0 streams).1)

units_within : (k x : ℕ) (units : List (ℕ × AccessUnit)) → All (λ e. e.1.dts ≤ x) units → All (λ u. u.dts ≤ x) (units_of k units)
units_within k x units all =
    All-map (λ u. u.dts ≤ x) (λ (e : ℕ × AccessUnit). e.1) (filter (λ e. e.0 == k) units) (All-filter (λ e. e.0 == k) (λ e. e.1.dts ≤ x) units all)

-- ---- Room

-- Fewer units wait than a stream needs room for.
fewer : (a : Allowance) (n unit_packets lead interval : ℕ) (units : List PesPacket) → n ≤ div_ceil lead (max interval 1) → KeepsAllowance a unit_packets units →
    ((burst pace : ℕ) → Allows packets_of_unit (pace_curve burst pace) units → n ≤ pace_curve burst pace lead) →
    n < declared_units a lead (spaced_units lead interval)
fewer (Groups g most) n unit_packets lead interval units spaced keeps paced = omega (arith, spaced)
fewer (Pace burst pace) n unit_packets lead interval units spaced keeps paced = let packets = paced burst pace keeps in omega (arith, spaced, packets)

-- If the slots settled by the greatest DTS are written, the stream has room for a unit.
pub has_room : (run : Run) (k slots last : ℕ) (units : List (ℕ × AccessUnit)) (s : DescribedStream) → Promises run.scheduled →
    HasRoom run run.scheduled.description.streams → slice_get run.scheduled.description.streams k ≡ Some s →
    AllKept run.scheduled units →
    slots ≡ release run.scheduled.description.rate (lead_of run) last → All (λ e. e.1.dts ≤ last) units →
    is_full (owned_stream run.scheduled k s) slots (room_in run.capacity s) (units_of k units) ≡ false
has_room run k slots last units s promises room is kept written within =
    let d = run.scheduled in
    let l = owned_stream d k s in
    let us = units_of k units in
    let mine = kept k s is in
    let keeps : KeepsDeclaration (declaration s) (map (timed (owned_stream run.scheduled k s)) (units_of k units)) =
    record { spaced = mine.spaced; sized = mine.sized; allowed = mine.allowed } in
    let served = promises.promised.streams k s (map (timed l) us) is keeps in
    let range = stream_range d.description k s promises.ranges is in
    let begins : (last - lead_of run) * run.scheduled.description.rate ≤ slots * 135360000 =
    rw written (release_begins d.description.rate (lead_of run) last) in
    let due = units_within k last units within in
    let left = served.arrived slots in
    let spaced = waiting_spaced l s.rx slots (lead_of run) last s.interval range.some_interval begins us 0 0 0 s.lead mine.spaced due left in
    let waits = fewer s.allowance (length (left_before l slots us).units) (max_packets_per_unit l.parameters) (lead_of run) s.interval (map (timed l) us) spaced
    mine.allowed (λ burst pace keeps. waiting_paced l s.rx slots (lead_of run) last burst pace begins us 0 0 0 keeps due left) in
    let enough : needed_units (lead_of run) s ≤ room_in run.capacity s =
    rw (get_or_from_slice_get d.description.streams k s s is) at
    (All-get_or (λ x. needed_units (lead_of run) x ≤ room_in run.capacity x) d.description.streams k s
    (slice_get_within d.description.streams k s is) room) in
    lt-leb (room_in run.capacity s) (length (left_before l slots us).units) (omega (arith, waits, enough))

-- ---- One record

with_tick : (records : List (ℕ × AccessUnit)) (entry : ℕ × AccessUnit) → is_tick entry ≡ true → without_ticks (records ++ (entry ∷ [])) ≡ without_ticks records
with_tick records entry tick =
    let none : without_ticks (entry ∷ []) ≡ [] = rw tick refl in
    filter-append (λ e. not (is_tick e)) records (entry ∷ []) ∙ ap (λ (l : List (ℕ × AccessUnit)). without_ticks records ++ l) none
    ∙ append-nil (without_ticks records)

with_unit : (records : List (ℕ × AccessUnit)) (entry : ℕ × AccessUnit) → is_tick entry ≡ false → without_ticks (records ++ (entry ∷ [])) ≡ without_ticks records
    ++ (entry ∷ [])
with_unit records entry tick =
    let one : without_ticks (entry ∷ []) ≡ entry ∷ [] = rw tick refl in
    filter-append (λ e. not (is_tick e)) records (entry ∷ []) ∙ ap (λ (l : List (ℕ × AccessUnit)). without_ticks records ++ l) one

-- These records were read without a refusal, and the slots that they settle are written.
record SoFar (run : Run) (a : Air) (records : List (ℕ × AccessUnit)) : Type 0 where
  before : a.before ≡ nothing
  accepted : a.accepted ≡ without_ticks records
  greatest : a.greatest ≡ greatest_of records
  slots : a.slots ≡ settled_at run (greatest_of records)
  refused : a.refused ≡ []
  changes : a.changes ≡ unchanged
  kept : AllKept run.scheduled (without_ticks records)

is_near : (run : Run) (a : Air) (other : Room) (records : List (ℕ × AccessUnit)) (entry : ℕ × AccessUnit) → SoFar run a records →
    IsJobInOrder run other (records ++ (entry ∷ [])) →
    is_far_from run a entry ≡ false
is_near run a other records entry so job =
    let comes = job.in_order records [] entry refl in
    le-ltb run.terms.ahead (entry.1.dts - a.greatest) (omega (arith, comes.near, so.greatest))

taken_stream : (d : Scheduled) (capacity : Room) (slots : ℕ) (units : List (ℕ × AccessUnit)) (entry : ℕ × AccessUnit) (s : DescribedStream) →
    stream_on_air d.description entry.0 ≡ true → unit_cause (owned_stream d entry.0 s) slots (room_in capacity s) (units_of entry.0 units) entry.1 ≡ None →
    feed_cause d capacity (job_history units slots) entry.0 entry.1 (Some s) ≡ None
unfolding feed_cause
taken_stream d capacity slots units entry s on_air none =
    ap (λ (b : Bool). if_on_air b (unit_cause (owned_stream d entry.0 s) slots (room_in capacity s) (units_of entry.0 units) entry.1)) on_air ∙ none

-- The next unit in order is not refused.
none_refused : (run : Run) (a : Air) (other : Room) (records : List (ℕ × AccessUnit)) (entry : ℕ × AccessUnit) → SoFar run a records →
    IsJobInOrder run other (records ++ (entry ∷ [])) →
    is_tick entry ≡ false →
    (first_refused run.scheduled other [] (without_ticks records) ≡ None) × (cause_after run.scheduled other (without_ticks records) entry ≡ None) →
    air_cause run a entry ≡ None
none_refused run a other records entry so job tick last =
    let d = run.scheduled in
    let units = without_ticks records in
    let comes = (job.in_order records [] entry refl).in_time tick in
    let found = stream_of d other units entry (slice_get d.description.streams entry.0) last.1 in
    let l = owned_stream d entry.0 found.stream in
    let near = is_near run a other records entry so job in
    let written : a.slots ≡ release run.scheduled.description.rate (lead_of run) (greatest_of records) = omega (arith, so.slots, comes.early) in
    let lead = lead_within d.description.streams entry.0 found.stream found.is in
    let rises = release_rises d.description.rate (lead_of run) (greatest_of records) found.stream.lead entry.1.dts (omega (arith, comes.in_order, lead)) in
    let within : All (λ e. e.1.dts ≤ greatest_of records) (without_ticks records) =
    All-filter (λ e. not (is_tick e)) (λ e. e.1.dts ≤ greatest_of records) records (none_after 0 records).1 in
    let room = has_room run entry.0 a.slots (greatest_of records) units found.stream job.promises job.room found.is so.kept written within in
    let taken =
    taken_in_time l a.slots (room_in run.capacity found.stream) (room_in other found.stream) (units_of entry.0 units) entry.1 found.cause
    (omega (arith, written, rises)) room in
    let none = taken_stream run.scheduled run.capacity a.slots units entry found.stream found.on_air taken in
    let unit : unit_refusal run a entry ≡ None =
    ap (λ (b : Before). feed_cause run.scheduled run.capacity (history_by b a.accepted a.slots a.changes) entry.0 entry.1
    (slice_get run.scheduled.description.streams entry.0)) so.before
    ∙ ap (λ (cs : TextsSoFar). feed_cause run.scheduled run.capacity (history_by nothing a.accepted a.slots cs) entry.0 entry.1
    (slice_get run.scheduled.description.streams entry.0)) so.changes
    ∙ ap (λ (us : List (ℕ × AccessUnit)). feed_cause run.scheduled run.capacity (job_history us a.slots) entry.0 entry.1
    (slice_get run.scheduled.description.streams entry.0)) so.accepted
    ∙ ap (λ (o : Option DescribedStream). feed_cause run.scheduled run.capacity (job_history units a.slots) entry.0 entry.1 o) found.is ∙ none in
    let alone = own_stream_alone run other units entry last.1 in
    rw (near, tick, alone, unit) refl

-- The slots that a record settles, added to the slots of earlier records
more_slots : (run : Run) (a : Air) (records : List (ℕ × AccessUnit)) (entry : ℕ × AccessUnit) → SoFar run a records →
    on_to a.slots (settled_at run entry.1.dts) ≡ settled_at run (greatest_of (records ++ (entry ∷ [])))
more_slots run a records entry so =
    ap (λ (n : ℕ). on_to n (settled_at run entry.1.dts)) so.slots ∙ more_settled run (greatest_of records) entry.1.dts
    ∙ ap (λ (g : ℕ). settled_at run g) (sym (greatest_more records entry))

so_far_unit : (run : Run) (a : Air) (other : Room) (records : List (ℕ × AccessUnit)) (entry : ℕ × AccessUnit) → SoFar run a records →
    IsJobInOrder run other (records ++ (entry ∷ [])) →
    is_tick entry ≡ false → SoFar run (aired run a entry) (records ++ (entry ∷ []))
unfolding judged_by accepted_by slots_followed
so_far_unit run a other records entry so job tick =
    let more = with_unit records entry tick in
    let last = last_taken run.scheduled other [] (without_ticks records) entry
    (ap (λ (us : List (ℕ × AccessUnit)). first_refused run.scheduled other [] us) (sym more) ∙ job.accepted) in
    let alone = own_stream_alone run other (without_ticks records) entry last.1 in
    subst (λ (o : Option AirRefusal). SoFar run (caught_up run (judged_by run a entry o) o) (records ++ (entry ∷ [])))
    (sym (none_refused run a other records entry so job tick last))
    (subst (λ (b : Bool). SoFar run (caught_up run (cond b (changed run a entry) (taken run a entry (accepted_by a entry None) a.changes)) None)
    (records ++ (entry ∷ []))) (sym (no_texts run entry alone)) (record {
      before = so.before;
      accepted = rw tick (ap (λ (l : List (ℕ × AccessUnit)). l ++ (entry ∷ [])) so.accepted ∙ sym more);
      greatest = ap (λ (g : ℕ). max g entry.1.dts) so.greatest ∙ sym (greatest_more records entry);
      slots = more_slots run a records entry so;
      refused = so.refused;
      changes = so.changes;
      kept = subst (AllKept run.scheduled) (sym more) (kept_more run.scheduled 0 unchanged other (without_ticks records) entry job.promises.ranges last.1 so.kept);
    }))

so_far_tick : (run : Run) (a : Air) (other : Room) (records : List (ℕ × AccessUnit)) (entry : ℕ × AccessUnit) → SoFar run a records →
    IsJobInOrder run other (records ++ (entry ∷ [])) →
    is_tick entry ≡ true → SoFar run (aired run a entry) (records ++ (entry ∷ []))
unfolding judged_by accepted_by slots_followed
so_far_tick run a other records entry so job tick =
    let same = with_tick records entry tick in
    let none : air_cause run a entry ≡ None = rw (is_near run a other records entry so job, tick) refl in
    subst (λ (o : Option AirRefusal). SoFar run (caught_up run (judged_by run a entry o) o) (records ++ (entry ∷ []))) (sym none)
    (subst (λ (b : Bool). SoFar run (caught_up run (cond b (changed run a entry) (taken run a entry (accepted_by a entry None) a.changes)) None)
    (records ++ (entry ∷ []))) (sym (no_texts run entry (tick_alone run entry tick))) (record {
      before = so.before;
      accepted = rw tick (so.accepted ∙ sym same);
      greatest = ap (λ (g : ℕ). max g entry.1.dts) so.greatest ∙ sym (greatest_more records entry);
      slots = more_slots run a records entry so;
      refused = so.refused;
      changes = so.changes;
      kept = subst (AllKept run.scheduled) (sym same) so.kept;
    }))

so_far_more : (run : Run) (a : Air) (other : Room) (records : List (ℕ × AccessUnit)) (entry : ℕ × AccessUnit) (tick : Bool) → SoFar run a records →
    IsJobInOrder run other (records ++ (entry ∷ [])) →
    is_tick entry ≡ tick → SoFar run (aired run a entry) (records ++ (entry ∷ []))
so_far_more run a other records entry true so job is = so_far_tick run a other records entry so job is
so_far_more run a other records entry false so job is = so_far_unit run a other records entry so job is

-- A record of such a job changes neither the texts nor the line-up.
job_alone : (run : Run) (other : Room) (records : List (ℕ × AccessUnit)) (entry : ℕ × AccessUnit) (tick : Bool) →
    IsJobInOrder run other (records ++ (entry ∷ [])) → is_tick entry ≡ tick → changes_run run entry ≡ false
job_alone run other records entry true job is = tick_alone run entry is
job_alone run other records entry false job is =
    let last = last_taken run.scheduled other [] (without_ticks records) entry
    (ap (λ (us : List (ℕ × AccessUnit)). first_refused run.scheduled other [] us) (sym (with_unit records entry is)) ∙ job.accepted) in
    own_stream_alone run other (without_ticks records) entry last.1

-- ---- All records

shorter : (run : Run) (other : Room) (records : List (ℕ × AccessUnit)) (entry : ℕ × AccessUnit) → IsJobInOrder run other (records ++ (entry ∷ [])) →
    IsJobInOrder run other records
shorter run other records entry job = record {
  promises = job.promises;
  room = job.room;
  accepted = first_taken run.scheduled other [] (without_ticks records) (without_ticks (entry ∷ []))
      (ap (λ (us : List (ℕ × AccessUnit)). first_refused run.scheduled other [] us) (sym (filter-append (λ e. not (is_tick e)) records (entry ∷ [])))
      ∙ job.accepted);
  in_order = λ before after e is.
      job.in_order before (after ++ (entry ∷ [])) e (ap (λ (l : List (ℕ × AccessUnit)). l ++ (entry ∷ [])) is ∙ append_assoc before (e ∷ after) (entry ∷ []));
}

-- The run is the one that began.
record SoFarIn (run : Run) (c : Course) (records : List (ℕ × AccessUnit)) : Type 0 where
  is : c.run ≡ run
  so_far : SoFar run c.air records

so_far_with : (run : Run) (c : Course) (other : Room) (records : List (ℕ × AccessUnit)) (found : Result (Option (ℕ × AccessUnit)) UnitFileError) →
    (IsJobInOrder run other records → SoFarIn run c records) → IsJobInOrder run other (with_entry found records) →
    SoFarIn run (with_record found c) (with_entry found records)
unfolding with_record with_entry
so_far_with run c other records (Err fault) so job = so job
so_far_with run c other records (Ok None) so job = so job
so_far_with run c other records (Ok (Some entry)) so job =
    let before = so (shorter run other records entry job) in
    subst (λ (d : Course). SoFarIn run d (records ++ (entry ∷ [])))
    (sym (known_alone run c entry before.is (job_alone run other records entry (is_tick entry) job refl)))
    (record { is = refl; so_far = so_far_more run c.air other records entry (is_tick entry) before.so_far job refl })

so_far_none : (run : Run) → SoFar run silence []
so_far_none run =
    let none = none_taken run in
    record { before = refl; accepted = refl; greatest = refl; slots = none.slots; refused = refl; changes = refl; kept = kept_none run.scheduled }

all_so_far : (run : Run) (other : Room) (n : ℕ) (xs : List ℕ) → IsJobInOrder run other (records_of n xs) → SoFarIn run (heard run n xs) (records_of n xs)
unfolding heard records_of
all_so_far run other zero xs job = record { is = refl; so_far = so_far_none run }
all_so_far run other (suc n) xs job =
    so_far_with run (heard run n xs) other (records_of n xs) (record_at (after_records n xs)) (all_so_far run other n xs) job

pub aired_in_order : AiredInOrder
aired_in_order run other n xs job =
    let so = (all_so_far run other n xs job).so_far in
    record { accepted = so.accepted; refused = so.refused }
