-- No unit of a job is refused.
use Rattle.std.proofs.Common.{◌≡◌, ◌≤◌, ◌<◌, ℕ, zero, suc, ◌+◌, ◌==◌, ◌&&◌, Bool, true, false, if◌then◌else◌, List, [], ◌∷◌, ◌++◌, length, map, Option, Some}
use Rattle.std.proofs.Common.{None, slice_get, All, refl, sym, ap, ◌∙◌, subst, arith, append_assoc}
use Rattle.std.specs.List.{list_any}
use Rattle.std.proofs.lemmas.List.{length-append}
use Rattle.std.proofs.lemmas.List.Elements.{All-nil, All-cons, All-head, All-tail}
use Rattle.std.proofs.lemmas.Option.{slice_get_within}
use Rattle.pes_packet.specs.AccessUnits.{AccessUnit}
use Rattle.pes_packet.specs.Units.{units_of}
use Rattle.description_parts.specs.Described.{Described, DescribedStream}
use Rattle.description_parts.specs.Ranges.{IsInRange}
use Rattle.description_parts.specs.Tables.{has_on_air, stream_on_air}
use Rattle.pid_findings.specs.Views.{FindingView}
use Rattle.unit_queue.specs.Causes.{unit_cause}
use Rattle.unit_queue.specs.Queues.{Kept}
use Rattle.unit_queue.specs.declared.refusal.FeedError.{FeedError}
use Rattle.mux_core.specs.Scheduled.{Scheduled}
use Rattle.mux_core.specs.Histories.{owned_stream}
use Rattle.mux_core.specs.MuxStates.{feed_cause, if_on_air}
use Rattle.mux_core.specs.Headline.{UnitsKept}
use Rattle.mux_core.specs.WholeJobs.{or_cause, unit_refused, cause_after, first_refused, job_history}
use Rattle.mux_core.specs.declared.multiplexing.MuxError.{MuxError}
use Rattle.mux_core.specs.declared.room.Room.TheVariants.{Units}
use Rattle.mux_core.proofs.KnownRanges.{parameters_known}
use Rattle.mux_core.proofs.UnitCounts.{own_units, units_append}
use Rattle.es_moments.specs.ApartUnits.{apart_dts, apart_units}
use Rattle.es_units.specs.CarriedUnits.{RoleView, Ignored, Start, Continuation, Interruption, role_of, continuation, is_cut, is_split, with_more}
use Rattle.es_units.specs.CarriedUnits.{whole_unit, units_from, units_in, carried_units, wire_units}
use Rattle.es_moments.specs.MadeDts.{made_dts, made_units, pts_of, with_dts}
use Rattle.es_moments.specs.RisingDts.{dts_are_made, rising_units}
use Rattle.es_units.specs.Laws.{UnitsAreKept, TakenOneByOne, Declares as LaneDeclares}
use Rattle.stream_jobs.specs.Jobs.{AreUnits}
use Rattle.job_programs.specs.FoundUnits.{AreFound, Declares, source_of}
use Rattle.job_inputs.specs.JoinedInputs.{AreUnitsIn, IsStreamIn, findings_in}
use Rattle.job_inputs.specs.declared.joined_inputs.Origin.{Origin}
use Rattle.es_moments.specs.WireUnits.{CarriedUnit, unit_with}

-- 1. Units have bytes

abbrev HasBytes : AccessUnit → Type 0
HasBytes u = 1 ≤ length u.bytes

-- A unit is put before the later units, unless it is empty.
some_or : (u : CarriedUnit) (later : List CarriedUnit) (b : Bool) → length u.unit.bytes == 0 ≡ b → All HasBytes (map (λ x. x.unit) later) →
    All HasBytes (map (λ x. x.unit) (if b then later else u ∷ later))
some_or u later true e all = all
some_or u later false e all = All-cons HasBytes u.unit (map (λ x. x.unit) later) (grind (arith, e)) all

whole_or : (u : CarriedUnit) (later : List CarriedUnit) (lost : Bool) → All HasBytes (map (λ x. x.unit) later) →
    All HasBytes (map (λ x. x.unit) (whole_unit lost u later))
whole_or u later true all = all
whole_or u later false all = some_or u later (length u.unit.bytes == 0) refl all

by_have_bytes : (split : Bool) (pid : ℕ) (b : RoleView) (fs : List FindingView) (later : List CarriedUnit) → All HasBytes (map (λ x. x.unit) later) →
    All HasBytes (map (λ x. x.unit) (units_from split pid b fs later))
unfolding units_from
by_have_bytes split pid Ignored fs later all = all
by_have_bytes split pid (Continuation id body) fs later all = all
by_have_bytes split pid (Interruption unstamped) fs later all = all
by_have_bytes split pid (Start u) fs later all =
    whole_or (with_more u (continuation u.stream_id pid fs)) later (split && is_cut u.stream_id pid fs) all

each_has_bytes : (split : Bool) (pid : ℕ) (findings : List FindingView) → All HasBytes (map (λ x. x.unit) (units_in split pid findings))
unfolding units_in
each_has_bytes split pid [] = All-nil HasBytes
each_has_bytes split pid (f ∷ fs) = by_have_bytes split pid (role_of pid f) fs (units_in split pid fs) (each_has_bytes split pid fs)

have_bytes : (pid : ℕ) (findings : List FindingView) → All HasBytes (wire_units pid findings)
have_bytes pid findings = each_has_bytes (is_split pid findings) pid findings

-- The units have bytes with other DTS too.
still_have_bytes : (ds : List ℕ) (us : List CarriedUnit) → All HasBytes (map (λ x. x.unit) us) → All HasBytes (map (λ x. x.unit) (with_dts ds us))
unfolding with_dts
still_have_bytes [] us all = All-nil HasBytes
still_have_bytes (d ∷ ds) [] all = All-nil HasBytes
still_have_bytes (d ∷ ds) (u ∷ us) all =
    All-cons HasBytes (unit_with u.packet u.stream_id d u.unit.pts u.unit.marks u.unit.bytes).unit (map (λ x. x.unit) (with_dts ds us))
    (All-head HasBytes u.unit (map (λ x. x.unit) us) all) (still_have_bytes ds us (All-tail HasBytes u.unit (map (λ x. x.unit) us) all))

either_have_bytes : (made : Bool) (us : List CarriedUnit) → All HasBytes (map (λ x. x.unit) us) →
    All HasBytes (map (λ x. x.unit) (if made then made_units us else apart_units us))
either_have_bytes true us all = still_have_bytes (made_dts (pts_of us)) us all
either_have_bytes false us all = still_have_bytes (apart_dts 0 us) us all

sources_have_bytes : (made : Bool) (pid : ℕ) (findings : List FindingView) → All HasBytes (map (λ w. w.unit) (source_of made pid findings))
unfolding source_of rising_units
sources_have_bytes false pid findings =
    either_have_bytes (dts_are_made (carried_units pid findings)) (carried_units pid findings) (have_bytes pid findings)
sources_have_bytes true pid findings = still_have_bytes (made_dts (pts_of (carried_units pid findings))) (carried_units pid findings) (have_bytes pid findings)

-- 2. The units of a stream keep its declaration

found_kept : UnitsAreKept → (made : Bool) (line : Scheduled) (findings : List FindingView) (pid k : ℕ) (s : DescribedStream) (us : List AccessUnit) →
    AreFound made findings pid us → Declares line.description s us → Kept (owned_stream line k s) us
found_kept law made line findings pid k s us found n =
    let m = found.moved in
    let declares : LaneDeclares (owned_stream line k s) us =
    record { interval = n.interval; size = n.size; pts = n.pts; lead = n.lead; allowance = n.allowance } in
    subst (λ (x : List AccessUnit). Kept (owned_stream line k s) x) (sym m.are)
    (law (owned_stream line k s) m.limit found.base (map (λ w. w.unit) (source_of made pid findings)) m.sound (sources_have_bytes made pid findings)
    (subst (λ (x : List AccessUnit). LaneDeclares (owned_stream line k s) x) m.are declares))

pub all_kept : UnitsAreKept → (made : Bool) (line : Scheduled) (findings : List FindingView) (units : List (ℕ × AccessUnit)) → IsInRange line.description →
    AreUnits made findings line.description units → UnitsKept line (λ k. units_of k units)
all_kept law made line findings units ranges are = record {
  parameters = parameters_known line ranges;
  kept = λ k s is. (let stream = are.streams k s is in found_kept law made line findings s.pid k s (units_of k units) stream.found stream.declares);
}

-- A list has an element at each number below its length.
pub stream_there : {X : Type 0} (streams : List X) (k : ℕ) → k < length streams → (s : X) × (slice_get streams k ≡ Some s)
stream_there [] k lt = absurd (omega (arith, lt))
stream_there (s ∷ streams) zero lt = (s, refl)
stream_there (s ∷ streams) (suc k) lt = stream_there streams k (omega (arith, lt))

-- The units of a stream of a job of several inputs were found in one input.
pub record FoundSomewhere (made : Bool) (inputs : List (List FindingView)) (d : Described) (s : DescribedStream) (us : List AccessUnit) : Type 0 where
  pub origin : Origin
  pub is : IsStreamIn made inputs origin d s us

pub somewhere : (made : Bool) (inputs : List (List FindingView)) (origins : List Origin) (d : Described) (units : List (ℕ × AccessUnit)) →
    AreUnitsIn made inputs origins d units → (k : ℕ) (s : DescribedStream) → slice_get d.streams k ≡ Some s → FoundSomewhere made inputs d s (units_of k units)
somewhere made inputs origins d units are k s is =
    let o = stream_there origins k (omega (arith, slice_get_within d.streams k s is, are.same)) in
    record { origin = o.0; is = are.streams k o.0 s o.1 is }

pub all_kept_in : UnitsAreKept → (made : Bool) (line : Scheduled) (inputs : List (List FindingView)) (origins : List Origin) (units : List (ℕ × AccessUnit)) →
    IsInRange line.description → AreUnitsIn made inputs origins line.description units → UnitsKept line (λ k. units_of k units)
all_kept_in law made line inputs origins units ranges are = record {
  parameters = parameters_known line ranges;
  kept = λ k s is. (
      let one = somewhere made inputs origins line.description units are k s is in
      found_kept law made line (findings_in inputs one.origin.input) one.origin.pid k s (units_of k units) one.is.found one.is.declares);
}

-- 3. All units in turn

-- The streams of a line are on air, with rules in their ranges, and few units, which keep their declarations
record AllFit (line : Scheduled) (all : List (ℕ × AccessUnit)) : Type 0 where
  kept : UnitsKept line (λ k. units_of k all)
  few : (k : ℕ) (s : DescribedStream) → slice_get line.description.streams k ≡ Some s → length (units_of k all) ≤ 1048576
  on_air : (k : ℕ) (s : DescribedStream) → slice_get line.description.streams k ≡ Some s → list_any (has_on_air s) line.description.programs ≡ true

one_taken : TakenOneByOne → (line : Scheduled) (fed rest : List (ℕ × AccessUnit)) (entry : ℕ × AccessUnit) (s : DescribedStream) →
    AllFit line (fed ++ (entry ∷ rest)) →
    slice_get line.description.streams entry.0 ≡ Some s → cause_after line (Units 1048576) fed entry ≡ None
unfolding feed_cause
one_taken law line fed rest entry s fit is =
    let parts : units_of entry.0 (fed ++ (entry ∷ rest)) ≡ units_of entry.0 fed ++ (entry.1 ∷ units_of entry.0 rest) =
    units_append entry.0 fed (entry ∷ rest) ∙ ap (λ (us : List AccessUnit). units_of entry.0 fed ++ us) (own_units entry.0 entry rest refl) in
    let size : length (units_of entry.0 (fed ++ (entry ∷ rest))) ≡ length (units_of entry.0 fed) + suc (length (units_of entry.0 rest)) =
    ap (length {A = AccessUnit}) parts ∙ length-append (units_of entry.0 fed) (entry.1 ∷ units_of entry.0 rest) in
    let kept = subst (λ (us : List AccessUnit). Kept (owned_stream line entry.0 s) us) parts (fit.kept.kept entry.0 s is) in
    let on : stream_on_air line.description entry.0 ≡ true = rw (is, stream_on_air) (fit.on_air entry.0 s is) in
    ap (feed_cause line (Units 1048576) (job_history fed 0) entry.0 entry.1) is
    ∙ (ap (λ (b : Bool). if_on_air b (unit_cause (owned_stream line entry.0 s) 0 1048576 (units_of entry.0 fed) entry.1)) on
    ∙ law (owned_stream line entry.0 s) 1048576 (units_of entry.0 fed) entry.1 (units_of entry.0 rest) (fit.kept.parameters entry.0 s is).rows kept
    (omega (arith, size, fit.few entry.0 s is)))

none_then : (index : ℕ) (cause : Option FeedError) (next : Option MuxError) → cause ≡ None → next ≡ None → or_cause (unit_refused index cause) next ≡ None
unfolding or_cause unit_refused
none_then index cause next e none = rw (e, none) refl

all_taken : TakenOneByOne → (line : Scheduled) (fed rest : List (ℕ × AccessUnit)) → AllFit line (fed ++ rest) →
    All (λ e. e.0 < length line.description.streams) rest →
    first_refused line (Units 1048576) fed rest ≡ None
unfolding first_refused
all_taken law line fed [] fit below = refl
all_taken law line fed (entry ∷ rest) fit below =
    let s = stream_there line.description.streams entry.0 (All-head (λ e. e.0 < length line.description.streams) entry rest below) in
    none_then (length fed) (cause_after line (Units 1048576) fed entry) (first_refused line (Units 1048576) (fed ++ (entry ∷ [])) rest)
    (one_taken law line fed rest entry s.0 fit s.1)
    (all_taken law line (fed ++ (entry ∷ [])) rest (subst (λ (all : List (ℕ × AccessUnit)). AllFit line all) (sym (append_assoc fed (entry ∷ []) rest)) fit)
    (All-tail (λ e. e.0 < length line.description.streams) entry rest below))

pub none_refused : UnitsAreKept → TakenOneByOne → (made : Bool) (line : Scheduled) (findings : List FindingView) (units : List (ℕ × AccessUnit)) →
    IsInRange line.description → AreUnits made findings line.description units → first_refused line (Units 1048576) [] units ≡ None
none_refused keeping taking made line findings units ranges are =
    all_taken taking line [] units
    (record {
      kept = all_kept keeping made line findings units ranges are;
      few = λ k s is. (are.streams k s is).fits;
      on_air = λ k s is. (are.streams k s is).declares.on_air;
    })
    are.numbered

pub none_refused_in : UnitsAreKept → TakenOneByOne → (made : Bool) (line : Scheduled) (inputs : List (List FindingView)) (origins : List Origin)
    (units : List (ℕ × AccessUnit)) → IsInRange line.description → AreUnitsIn made inputs origins line.description units →
    first_refused line (Units 1048576) [] units ≡ None
none_refused_in keeping taking made line inputs origins units ranges are =
    all_taken taking line [] units
    (record {
      kept = all_kept_in keeping made line inputs origins units ranges are;
      few = λ k s is. (somewhere made inputs origins line.description units are k s is).is.fits;
      on_air = λ k s is. (somewhere made inputs origins line.description units are k s is).is.declares.on_air;
    })
    are.numbered
