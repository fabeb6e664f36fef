-- After any input, a record that is near is refused only because of itself or of the units of its stream.
use Rattle.std.proofs.Common.{◌≡◌, ℕ, zero, suc, ◌+◌, ◌-◌, ◌≤◌, max, Bool, true, false, List, [], ◌∷◌, length, Option, Some, None, Result, Ok, Err, refl, ap}
use Rattle.std.proofs.Common.{sym, ◌∙◌, subst, cond, arith, All}
use Rattle.std.specs.Prelude.{⊤, ◌==◌, ◌^◌, map, nat_lt, option_map, slice_get, if◌then◌else◌}
use Rattle.std.proofs.lemmas.Bool.{le-ltb, ltb-true}
use Rattle.std.proofs.lemmas.List.Elements.{All-append, All-cons, All-nil, All-weaker}
use Rattle.clock27.specs.Release.{release}
use Rattle.description_parts.specs.Described.{DescribedStream}
use Rattle.description_parts.specs.Ranges.{IsInRange}
use Rattle.description_parts.specs.Tables.{stream_on_air}
use Rattle.pes_packet.specs.AccessUnits.{AccessUnit}
use Rattle.pes_packet.specs.Marks.{marks_size}
use Rattle.pes_packet.specs.Units.{units_of}
use Rattle.unit_timing.specs.Levels.{is_over}
use Rattle.unit_timing.specs.declared.allowance.Allowance.{Allowance}
use Rattle.unit_timing.specs.declared.allowance.Allowance.TheVariants.{Groups, Pace as ByPace}
use Rattle.unit_queue.specs.OwnedStreams.{OwnedStream, timed}
use Rattle.unit_queue.specs.Causes.{unit_cause, or_cause, own_cause, time_cause, room_cause, packets_cause, over_cause, is_bad_pts, is_late, is_full}
use Rattle.unit_queue.specs.Causes.{min_next_dts_of}
use Rattle.unit_queue.specs.declared.refusal.FeedError.{FeedError}
use Rattle.unit_queue.specs.declared.refusal.FeedError.TheVariants.{Empty, TooLarge, TooSoon, BadPts, TooFar}
use Rattle.unit_records.specs.Records.{record_at}
use Rattle.unit_records.specs.declared.reading.UnitFileError.{UnitFileError}
use Rattle.mux_core.specs.Rooms.{room_in}
use Rattle.mux_core.specs.RecordRuns.{after_records}
use Rattle.mux_core.specs.Histories.{last_texts, owned_stream}
use Rattle.mux_core.specs.MuxStates.{if_on_air, feed_cause}
use Rattle.on_air.specs.declared.refusals.AirRefusal.{AirRefusal}
use Rattle.on_air.specs.declared.refusals.AirRefusal.TheVariants.{Feed, Ahead, Followed, LineUp, Texts}
use Rattle.on_air.specs.declared.refusals.LineUpRefusal.{LineUpRefusal}
use Rattle.on_air.specs.declared.refusals.TextsRefusal.{TextsRefusal}
use Rattle.on_air.specs.Airing.{Run, Air, Before, nothing, lead_of, HasRoom, history_by, settled_at, is_tick, is_far_from, far_cause, unit_refusal, air_cause}
use Rattle.on_air.specs.Airing.{accepted_by, brings_line_up, brings_texts, changed, changes_run, fed_refusal, job_of, line_up_refusal, silence, taken, texts_refusal}
use Rattle.on_air.specs.Airing.{greatest_by, judged_by, caught_up, slots_followed}
use Rattle.on_air.specs.Courses.{Course, IsFirst, course_after, heard, takes_over, with_record}
use Rattle.on_air.specs.AirStates.{Promises}
use Rattle.on_air.specs.Laws.{ComesNear, IsJudgedAlone, IsOwnCause, NearIsJudgedAlone}
use Rattle.on_air.proofs.AsMultiplexed.{more_settled, none_taken, release_rises}
use Rattle.on_air.proofs.Courses.{aired_before, beside, course_over, course_same, neither}
use Rattle.on_air.proofs.InOrder.{AllKept, has_room, kept_more, kept_none, lead_within}
use Rattle.on_air.proofs.LineUpsOn.{read_line_up}
use Rattle.on_air.proofs.Leaping.{leap_reported}

-- ---- Facts about a run after any input

pub record Steady (run : Run) (a : Air) : Type 0 where
  pub before : a.before ≡ nothing
  pub slots : a.slots ≡ settled_at run a.greatest
  pub within : All (λ e. e.1.dts ≤ a.greatest) a.accepted
  pub kept : AllKept run.scheduled a.accepted

pub steady_first : (run : Run) → Steady run silence
steady_first run = record { before = refl; slots = (none_taken run).slots; within = All-nil (λ e. e.1.dts ≤ 0); kept = kept_none run.scheduled }

later : (g h : ℕ) (units : List (ℕ × AccessUnit)) → g ≤ h → All (λ e. e.1.dts ≤ g) units → All (λ e. e.1.dts ≤ h) units
later g h units le all = All-weaker (λ e. e.1.dts ≤ g) (λ e. e.1.dts ≤ h) (λ e few. omega (arith, le, few)) units all

-- An accepted unit has no cause of refusal.
fed_none : (far tick : Bool) (cause : AirRefusal) (entry : ℕ × AccessUnit) (refused : Option FeedError) →
    cond far (Some cause) (cond tick None (option_map (fed_refusal entry) refused)) ≡ None → tick ≡ false → refused ≡ None
fed_none true tick cause entry refused e unit = absurd cc
fed_none false true cause entry refused e unit = absurd cc
fed_none false false cause entry None e unit = refl
fed_none false false cause entry (Some c) e unit = absurd cc

pub fed_of : (run : Run) (a : Air) (entry : ℕ × AccessUnit) → air_cause run a entry ≡ None → is_tick entry ≡ false → changes_run run entry ≡ false →
    unit_refusal run a entry ≡ None
fed_of run a entry none tick alone =
    fed_none (is_far_from run a entry) (is_tick entry) (far_cause run a entry) entry (unit_refusal run a entry) (rw alone at none) tick

-- Under the first line-up, by the units of the run alone
first_refusal : (run : Run) (a : Air) (entry : ℕ × AccessUnit) → a.before ≡ nothing → unit_refusal run a entry ≡ None →
    feed_cause run.scheduled run.capacity (history_by nothing a.accepted a.slots a.changes) entry.0 entry.1
    (slice_get run.scheduled.description.streams entry.0) ≡ None
first_refusal run a entry is none =
    ap (λ (b : Before). feed_cause run.scheduled run.capacity (history_by b a.accepted a.slots a.changes) entry.0 entry.1
    (slice_get run.scheduled.description.streams entry.0)) (sym is) ∙ none

taken_units : (run : Run) (a : Air) (entry : ℕ × AccessUnit) (tick : Bool) → is_tick entry ≡ tick → changes_run run entry ≡ false →
    IsInRange run.scheduled.description → air_cause run a entry ≡ None → Steady run a →
    All (λ e. e.1.dts ≤ max a.greatest entry.1.dts) (accepted_by a entry None) × AllKept run.scheduled (accepted_by a entry None)
unfolding accepted_by
taken_units run a entry true is alone ranges none so = rw is (later a.greatest (max a.greatest entry.1.dts) a.accepted (omega arith) so.within, so.kept)
taken_units run a entry false is alone ranges none so =
    let fed = first_refusal run a entry so.before (fed_of run a entry none is alone) in
    rw is (
      All-append (λ e. e.1.dts ≤ max a.greatest entry.1.dts) a.accepted (entry ∷ [])
          (later a.greatest (max a.greatest entry.1.dts) a.accepted (omega arith) so.within)
          (All-cons (λ e. e.1.dts ≤ max a.greatest entry.1.dts) entry [] (omega arith) (All-nil (λ e. e.1.dts ≤ max a.greatest entry.1.dts))),
      kept_more run.scheduled a.slots a.changes run.capacity a.accepted entry ranges fed so.kept,
    )

steady_taken : (run : Run) (a : Air) (entry : ℕ × AccessUnit) (brings : Bool) → brings_texts run entry ≡ brings → brings_line_up run entry ≡ false →
    IsInRange run.scheduled.description → air_cause run a entry ≡ None → Steady run a →
    Steady run (caught_up run (cond brings (changed run a entry) (taken run a entry (accepted_by a entry None) a.changes)) None)
unfolding slots_followed
steady_taken run a entry true brings other ranges is so = record {
  before = so.before;
  slots = ap (λ (n : ℕ). n + (settled_at run entry.1.dts - n)) so.slots ∙ more_settled run a.greatest entry.1.dts;
  within = later a.greatest (max a.greatest entry.1.dts) a.accepted (omega arith) so.within;
  kept = so.kept;
}
steady_taken run a entry false brings other ranges is so =
    let units = taken_units run a entry (is_tick entry) refl (neither run entry other brings) ranges is so in
    record {
      before = so.before;
      slots = ap (λ (n : ℕ). n + (settled_at run entry.1.dts - n)) so.slots ∙ more_settled run a.greatest entry.1.dts;
      within = units.0;
      kept = units.1;
    }

pub steady_by : (run : Run) (a : Air) (entry : ℕ × AccessUnit) (cause : Option AirRefusal) → IsInRange run.scheduled.description → air_cause run a entry ≡ cause →
    takes_over run a entry ≡ false → Steady run a →
    Steady run (caught_up run (judged_by run a entry cause) cause)
unfolding judged_by slots_followed greatest_by
steady_by run a entry None ranges is stays so =
    steady_taken run a entry (brings_texts run entry) refl (beside run a entry stays is) ranges is so
steady_by run a entry (Some (LineUp refusal)) ranges is stays so =
    record { before = so.before; slots = so.slots; within = so.within; kept = so.kept }
steady_by run a entry (Some (Texts refusal)) ranges is stays so =
    record { before = so.before; slots = so.slots; within = so.within; kept = so.kept }
steady_by run a entry (Some (Feed unit)) ranges is stays so =
    record { before = so.before; slots = so.slots; within = so.within; kept = so.kept }
steady_by run a entry (Some (Ahead far)) ranges is stays so =
    record { before = so.before; slots = so.slots; within = so.within; kept = so.kept }
steady_by run a entry (Some (Followed packet from to)) ranges is stays so =
    let reported = leap_reported run a entry packet from to is in
    let far = ltb-true run.terms.ahead (entry.1.dts - a.greatest) reported.is_far in
    let after : a.greatest ≤ to = omega (arith, far, reported.to_is) in
    let last : max a.greatest to ≡ to = omega (arith, after) in
    record {
      before = so.before;
      slots = ap (λ (n : ℕ). n + (settled_at run to - n)) so.slots ∙ more_settled run a.greatest to ∙ ap (λ (g : ℕ). settled_at run g) last;
      within = later a.greatest to a.accepted after so.within;
      kept = so.kept;
    }

-- As long as the first line-up is in force
pub record SteadyIn (run : Run) (c : Course) : Type 0 where
  pub is : c.run ≡ run
  pub steady : Steady run c.air

some_turn : {V : Type 0} (x : V) (xs : List V) → (x ∷ xs) ≡ [] → ⊥
some_turn x xs e = cc

steady_on : (run : Run) (c : Course) (entry : ℕ × AccessUnit) (takes : Bool) → IsInRange run.scheduled.description → takes_over run c.air entry ≡ takes →
    c.run ≡ run → (IsFirst c → SteadyIn run c) → IsFirst (course_after run c.air entry) → SteadyIn run (course_after run c.air entry)
steady_on run c entry true ranges takes is so first =
    let read = read_line_up run c.air entry takes in
    let over = course_over run c.air entry read.0 takes read.1 in
    absurd (some_turn _ _ (ap (λ (d : Course). d.air.before.turns) (sym over) ∙ first))
steady_on run c entry false ranges stays is so first =
    let same = course_same run c.air entry stays in
    let before = ap (λ (d : Course). d.air.before) same ∙ aired_before run c.air entry in
    let was = so (ap (λ (b : Before). b.turns) (sym before) ∙ first) in
    subst (λ (d : Course). SteadyIn run d) (sym same)
    (record { is = refl; steady = steady_by run c.air entry (air_cause run c.air entry) ranges refl stays was.steady })

-- A line-up, once it has come, is not the first one.
stays_first : (c : Course) (entry : ℕ × AccessUnit) (takes : Bool) → takes_over c.run c.air entry ≡ takes → IsFirst (course_after c.run c.air entry) → IsFirst c
stays_first c entry true takes first =
    let read = read_line_up c.run c.air entry takes in
    let over = course_over c.run c.air entry read.0 takes read.1 in
    absurd (some_turn _ _ (ap (λ (d : Course). d.air.before.turns) (sym over) ∙ first))
stays_first c entry false stays first =
    ap (λ (b : Before). b.turns)
    (sym (ap (λ (d : Course). d.air.before) (course_same c.run c.air entry stays) ∙ aired_before c.run c.air entry)) ∙ first

pub steady_more : (run : Run) (c : Course) (entry : ℕ × AccessUnit) → IsInRange run.scheduled.description → (IsFirst c → SteadyIn run c) →
    IsFirst (course_after c.run c.air entry) → SteadyIn run (course_after c.run c.air entry)
steady_more run c entry ranges so first =
    let was = so (stays_first c entry (takes_over c.run c.air entry) refl first) in
    let same : course_after c.run c.air entry ≡ course_after run c.air entry = ap (λ (r : Run). course_after r c.air entry) was.is in
    subst (λ (d : Course). SteadyIn run d) (sym same)
    (steady_on run c entry (takes_over run c.air entry) ranges refl was.is so (subst (λ (d : Course). IsFirst d) same first))

steady_with : (run : Run) (c : Course) (found : Result (Option (ℕ × AccessUnit)) UnitFileError) → IsInRange run.scheduled.description →
    (IsFirst c → SteadyIn run c) → IsFirst (with_record found c) → SteadyIn run (with_record found c)
unfolding with_record
steady_with run c (Err fault) ranges so first = so first
steady_with run c (Ok None) ranges so first = so first
steady_with run c (Ok (Some entry)) ranges so first = steady_more run c entry ranges so first

steady : (run : Run) (n : ℕ) (xs : List ℕ) → IsInRange run.scheduled.description → IsFirst (heard run n xs) → SteadyIn run (heard run n xs)
unfolding heard
steady run zero xs ranges first = record { is = refl; steady = steady_first run }
steady run (suc n) xs ranges first =
    steady_with run (heard run n xs) (record_at (after_records n xs)) ranges (steady run n xs ranges) first

-- ---- Causes of refusal

abbrev IsOwn : Option FeedError → Type 0
IsOwn None = ⊤
IsOwn (Some cause) = IsOwnCause cause

own_or : (a b : Option FeedError) → IsOwn a → IsOwn b → IsOwn (or_cause a b)
unfolding or_cause
own_or None b own other = other
own_or (Some cause) b own other = own

own_four : (empty large soon bad : Bool) →
    IsOwn (if empty then Some Empty else (if large then Some TooLarge else (if soon then Some TooSoon else (if bad then Some BadPts else None))))
own_four true large soon bad = tt
own_four false true soon bad = tt
own_four false false true bad = tt
own_four false false false true = tt
own_four false false false false = tt

own_itself : (largest limit soonest : ℕ) (u : AccessUnit) → IsOwn (own_cause largest limit soonest u)
unfolding own_cause
own_itself largest limit soonest u =
    own_four (length u.bytes == 0) (nat_lt largest (length u.bytes + marks_size u.marks)) (nat_lt u.dts soonest) (is_bad_pts limit u.dts u.pts)

own_far : (far : Bool) → IsOwn (if far then Some TooFar else None)
own_far true = tt
own_far false = tt

own_time : (dts : ℕ) → IsOwn (time_cause false dts)
unfolding time_cause
own_time dts = own_far (nat_lt (2 ^ 52) dts)

own_packets : (allowance : Allowance) (over : Bool) → IsOwn (packets_cause allowance over)
own_packets (Groups g most) true = tt
own_packets (Groups g most) false = tt
own_packets (ByPace burst pace) true = tt
own_packets (ByPace burst pace) false = tt

own_room : (over : Option FeedError) → IsOwn over → IsOwn (room_cause false over)
unfolding room_cause
own_room over own = own

own_unit : (l : OwnedStream) (slots capacity : ℕ) (us : List AccessUnit) (u : AccessUnit) → is_late l slots u ≡ false → is_full l slots capacity us ≡ false →
    IsOwn (unit_cause l slots capacity us u)
own_unit l slots capacity us u late full =
    let over = over_cause l us u in
    let time : IsOwn (time_cause (is_late l slots u) u.dts) = subst (λ (b : Bool). IsOwn (time_cause b u.dts)) (sym late) (own_time u.dts) in
    let room : IsOwn (room_cause (is_full l slots capacity us) over) =
    subst (λ (b : Bool). IsOwn (room_cause b over)) (sym full)
    (own_room over (own_packets l.parameters.allowance (is_over l.parameters.allowance (map (timed l) us) (timed l u)))) in
    own_or (own_cause l.parameters.size l.parameters.pts_limit (min_next_dts_of l us) u)
    (or_cause (time_cause (is_late l slots u) u.dts) (room_cause (is_full l slots capacity us) over))
    (own_itself l.parameters.size l.parameters.pts_limit (min_next_dts_of l us) u)
    (own_or (time_cause (is_late l slots u) u.dts) (room_cause (is_full l slots capacity us) over) time room)

own_on_air : (on_air : Bool) (cause : Option FeedError) → IsOwn cause → IsOwn (if_on_air on_air cause)
own_on_air true cause own = own
own_on_air false cause own = tt

-- ---- A record that is near

own_stream : (run : Run) (a : Air) (entry : ℕ × AccessUnit) (o : Option DescribedStream) → slice_get run.scheduled.description.streams entry.0 ≡ o →
    Promises run.scheduled →
    HasRoom run run.scheduled.description.streams → ComesNear run a entry → Steady run a →
    IsOwn (feed_cause run.scheduled run.capacity (job_of a) entry.0 entry.1 o)
unfolding feed_cause
own_stream run a entry None is promises room comes so = tt
own_stream run a entry (Some s) is promises room comes so =
    let d = run.scheduled in
    let written : a.slots ≡ release run.scheduled.description.rate (lead_of run) a.greatest = omega (arith, so.slots, comes.early) in
    let lead = lead_within d.description.streams entry.0 s is in
    let rises = release_rises d.description.rate (lead_of run) a.greatest s.lead entry.1.dts (omega (arith, comes.in_order, comes.begun, lead)) in
    let begun : nat_lt entry.1.dts s.lead ≡ false = le-ltb entry.1.dts s.lead (omega (arith, lead, comes.begun)) in
    let early : nat_lt (release run.scheduled.description.rate s.lead entry.1.dts) a.slots ≡ false =
    le-ltb (release run.scheduled.description.rate s.lead entry.1.dts) a.slots (omega (arith, written, rises)) in
    let late : is_late (owned_stream run.scheduled entry.0 s) a.slots entry.1 ≡ false = rw (begun, early) refl in
    let full = has_room run entry.0 a.slots a.greatest a.accepted s promises room is so.kept written so.within in
    subst (λ (b : Before). IsOwn (if_on_air (stream_on_air (last_texts run.scheduled.description a.changes) entry.0)
    (unit_cause (owned_stream run.scheduled entry.0 s) a.slots (room_in run.capacity s) ((history_by b a.accepted a.slots a.changes).units entry.0) entry.1)))
    (sym so.before)
    (own_on_air (stream_on_air (last_texts run.scheduled.description a.changes) entry.0)
    (unit_cause (owned_stream run.scheduled entry.0 s) a.slots (room_in run.capacity s) (units_of entry.0 a.accepted) entry.1)
    (own_unit (owned_stream run.scheduled entry.0 s) a.slots (room_in run.capacity s) (units_of entry.0 a.accepted) entry.1 late full))

alone_by : (far tick texts brings : Bool) (cause : AirRefusal) (texts_cause : Option TextsRefusal) (line_up : Option LineUpRefusal) (entry : ℕ × AccessUnit)
    (refused : Option FeedError) → far ≡ false → IsOwn refused →
    IsJudgedAlone (cond far (Some cause) (cond tick None (cond texts (option_map Texts texts_cause)
    (cond brings (option_map LineUp line_up) (option_map (fed_refusal entry) refused)))))
alone_by true tick texts brings cause texts_cause line_up entry refused near own = absurd cc
alone_by false true texts brings cause texts_cause line_up entry refused near own = tt
alone_by false false true brings cause None line_up entry refused near own = tt
alone_by false false true brings cause (Some r) line_up entry refused near own = tt
alone_by false false false true cause texts_cause None entry refused near own = tt
alone_by false false false true cause texts_cause (Some r) entry refused near own = tt
alone_by false false false false cause texts_cause line_up entry None near own = tt
alone_by false false false false cause texts_cause line_up entry (Some c) near own = own

pub near_is_judged_alone : NearIsJudgedAlone
near_is_judged_alone run n xs entry promises room first comes =
    let a = (heard run n xs).air in
    let so = (steady run n xs promises.ranges first).steady in
    let near : is_far_from run (heard run n xs).air entry ≡ false =
    le-ltb run.terms.ahead (entry.1.dts - (heard run n xs).air.greatest) (omega (arith, comes.near)) in
    alone_by (is_far_from run a entry) (is_tick entry) (brings_texts run entry) (brings_line_up run entry) (far_cause run a entry) (texts_refusal run a entry)
    (line_up_refusal run a entry) entry (unit_refusal run a entry) near
    (own_stream run a entry (slice_get run.scheduled.description.streams entry.0) refl promises room comes so)
