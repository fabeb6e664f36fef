-- The first units of a job are due at least 2 s after the start of the run.
use Rattle.std.proofs.Common.{◌≡◌, ◌≤◌, ◌<◌, ℕ, zero, suc, ◌+◌, ◌-◌, ◌%◌, ◌^◌, Bool, true, false, min, List, [], ◌∷◌, map, Some, None, Ok, slice_get}
use Rattle.std.proofs.Common.{option_map, All, refl, sym, ap, subst, ◌∙◌, inl, inr, arith, eq-eqb}
use Rattle.std.proofs.Math.Nat.{le_trans}
use Rattle.std.specs.List.{list_any}
use Rattle.std.proofs.lemmas.Bool.{cases_Bool}
use Rattle.std.proofs.lemmas.List.Elements.{All-nil, All-cons, All-head, All-tail}
use Rattle.pes_packet.specs.AccessUnits.{AccessUnit}
use Rattle.pid_findings.specs.Views.{FindingView}
use Rattle.laws_run.specs.TablesFirst.{DueLate}
use Rattle.es_moments.specs.Stamps.{distance, dts_at, unit_at, moved, min_distance, constant_of, first_fault, after_half}
use Rattle.es_moments.proofs.StampMoments.{constant_least}
use Rattle.job_programs.specs.declared.program_clock.ProgramClock.{ProgramClock}
use Rattle.job_programs.specs.declared.program_clock.ProgramClock.TheVariants.{References, Own}
use Rattle.job_programs.specs.JobPrograms.{JobProgramView, clock_in}
use Rattle.job_programs.specs.JobTables.{JobTableView}
use Rattle.job_programs.specs.JobStreams.{TimedStreamView, WireStreamView}
use Rattle.job_units.specs.Moments.{is_long_map, earliest, first_dts, first_dts_of, firsts, is_on_clock, stamps_of, base_for, base_of, wire_of}
use Rattle.job_units.specs.Moments.{stamps_refusal, with_moments, moved_stream, pts_limit_of, moved_by, moved_streams}
use Rattle.job_programs.specs.ProgramClocks.{is_same_clock}
use Rattle.job_programs.proofs.Steps.{granted, same_value, each_all}
use Rattle.laws_job.specs.FirstUnits.{head_stamp, stamps_beside, BeginsNear}
use Rattle.es_moments.specs.WireUnits.{CarriedUnit}

-- The earliest of several stamps

min_more : (from least : ℕ) (stamps : List ℕ) → min_distance from least stamps ≤ least
unfolding min_distance
min_more from least [] = omega arith
min_more from least (stamp ∷ stamps) = omega (arith, min_more from (min least (distance from stamp)) stamps)

same_clock : (c : ProgramClock) → is_same_clock c c ≡ true
unfolding is_same_clock
same_clock (References pid) = eq-eqb pid pid refl
same_clock (Own number) = eq-eqb number number refl

-- Whether a stream uses this clock
abbrev counts_by : List JobProgramView → WireStreamView → ProgramClock → Bool
counts_by programs s clock = is_same_clock (clock_in programs s.program) clock

own_stamp : (programs : List JobProgramView) (x : WireStreamView) (clock : ProgramClock) (streams : List WireStreamView) → counts_by programs x clock ≡ true →
    stamps_of clock (firsts programs (x ∷ streams)) ≡ first_dts x.units ∷ stamps_of clock (firsts programs streams)
unfolding is_on_clock first_dts_of
own_stamp programs x clock streams own = rw own refl

other_stamp : (programs : List JobProgramView) (x : WireStreamView) (clock : ProgramClock) (streams : List WireStreamView) →
    counts_by programs x clock ≡ false →
    stamps_of clock (firsts programs (x ∷ streams)) ≡ stamps_of clock (firsts programs streams)
unfolding is_on_clock first_dts_of
other_stamp programs x clock streams other = rw other refl

-- A stream uses its own clock.
counts_by_own : (programs : List JobProgramView) (x s : WireStreamView) → x ≡ s → counts_by programs x (clock_in programs s.program) ≡ true
counts_by_own programs x s same =
    ap (λ (y : WireStreamView). is_same_clock (clock_in programs y.program) (clock_in programs s.program)) same ∙ same_clock (clock_in programs s.program)

-- The least distance of the stamps of a clock is no greater than the distance of any of its streams.
min_of : (programs : List JobProgramView) (from least i : ℕ) (s : WireStreamView) (streams : List WireStreamView) → slice_get streams i ≡ Some s →
    min_distance from least (stamps_beside programs streams s) ≤ distance from (first_dts s.units)
unfolding min_distance
min_of programs from least i s [] is = absurd (let no : ⊥ = cc in no)
min_of programs from least zero s (x ∷ streams) is =
    let same : x ≡ s = cc in
    let clock = clock_in programs s.program in
    let stamp : first_dts x.units ≡ first_dts s.units = ap (λ (y : WireStreamView). first_dts y.units) same in
    subst (λ (stamps : List ℕ). min_distance from least stamps ≤ distance from (first_dts s.units))
    (sym (own_stamp programs x clock streams (counts_by_own programs x s same) ∙ ap (λ (n : ℕ). n ∷ stamps_of clock (firsts programs streams)) stamp))
    (omega (arith, min_more from (min least (distance from (first_dts s.units))) (stamps_of clock (firsts programs streams))))
min_of programs from least (suc i) s (x ∷ streams) is =
    let clock = clock_in programs s.program in
    elim (cases_Bool (counts_by programs x clock)) [
      | inl y ↦
          subst (λ (stamps : List ℕ). min_distance from least stamps ≤ distance from (first_dts s.units)) (sym (own_stamp programs x clock streams y))
          (min_of programs from (min least (distance from (first_dts x.units))) i s streams is)
      | inr n ↦
          subst (λ (stamps : List ℕ). min_distance from least stamps ≤ distance from (first_dts s.units)) (sym (other_stamp programs x clock streams n))
          (min_of programs from least i s streams is)
    ]

-- The first DTS as a moment

due_from : (programs : List JobProgramView) (tables : List JobTableView) (streams : List WireStreamView) →
    (180000 ≤ earliest programs tables streams) × (earliest programs tables streams ≤ 225000)
unfolding earliest
due_from programs tables streams = elim (cases_Bool (list_any (is_long_map tables streams) programs)) [
  | inl y ↦ rw y (omega arith, omega arith)
  | inr n ↦ rw n (omega arith, omega arith)
]

at_base : (due first : ℕ) (stamps : List ℕ) (stamp : ℕ) → due ≤ 225000 → min_distance (first + 2 ^ 32) (2 ^ 32) stamps ≤ after_half first stamp →
    after_half first stamp + 225000 < 2 ^ 33 →
    due ≤ distance (constant_of due first stamps) stamp
at_base due first stamps stamp most least near =
    let is = constant_least due first stamps stamp (omega (arith, most)) least (omega (arith, near, most)) in
    omega (arith, is)

-- Counted from the base of a clock, each first DTS is at least `due`.
first_due : (due : ℕ) (stamps : List ℕ) (stamp : ℕ) → due ≤ 225000 →
    min_distance (head_stamp stamps % 2 ^ 33 + 2 ^ 32) (2 ^ 32) stamps ≤ after_half (head_stamp stamps % 2 ^ 33) stamp →
    after_half (head_stamp stamps % 2 ^ 33) stamp + 225000 < 2 ^ 33 → (stamps ≡ [] → ⊥) → due ≤ distance (base_for due stamps) stamp
unfolding base_for head_stamp
first_due due [] stamp most least near some = absurd (some refl)
first_due due (x ∷ xs) stamp most least near some = at_base due (x % 2 ^ 33) (x ∷ xs) stamp most least near

not_nil : (x : ℕ) (xs : List ℕ) → x ∷ xs ≡ [] → ⊥
not_nil x xs e = let no : ⊥ = cc in no

some_stamps : (programs : List JobProgramView) (i : ℕ) (s : WireStreamView) (streams : List WireStreamView) → slice_get streams i ≡ Some s →
    stamps_beside programs streams s ≡ [] → ⊥
some_stamps programs i s [] is none = let no : ⊥ = cc in no
some_stamps programs zero s (x ∷ streams) is none =
    let same : x ≡ s = cc in
    let clock = clock_in programs s.program in
    not_nil (first_dts x.units) (stamps_of clock (firsts programs streams)) (sym (own_stamp programs x clock streams (counts_by_own programs x s same)) ∙ none)
some_stamps programs (suc i) s (x ∷ streams) is none =
    let clock = clock_in programs s.program in
    elim (cases_Bool (counts_by programs x clock)) [
      | inl y ↦ not_nil (first_dts x.units) (stamps_of clock (firsts programs streams)) (sym (own_stamp programs x clock streams y) ∙ none)
      | inr n ↦ some_stamps programs i s streams is (sym (other_stamp programs x clock streams n) ∙ none)
    ]

-- All units after the first

later_due : (from base before : ℕ) (us : List AccessUnit) → from ≤ before → All (λ u. from ≤ u.dts) (moved base (Some before) us)
unfolding moved unit_at dts_at
later_due from base before [] le = All-nil (λ (u : AccessUnit). from ≤ u.dts)
later_due from base before (u ∷ us) le =
    let dts = before + distance (before + base) u.dts in
    All-cons (λ (v : AccessUnit). from ≤ v.dts) (unit_at base (Some before) u) (moved base (Some dts) us) (omega (arith, le))
    (later_due from base dts us (omega (arith, le)))

all_due : (from base : ℕ) (us : List AccessUnit) → ((u : AccessUnit) (rest : List AccessUnit) → us ≡ u ∷ rest → from ≤ distance base u.dts) →
    All (λ u. from ≤ u.dts) (moved base None us)
unfolding moved unit_at dts_at
all_due from base [] first = All-nil (λ (u : AccessUnit). from ≤ u.dts)
all_due from base (u ∷ us) first =
    All-cons (λ (v : AccessUnit). from ≤ v.dts) (unit_at base None u) (moved base (Some (distance base u.dts)) us) (first u us refl)
    (later_due from base (distance base u.dts) us (first u us refl))

-- A stream

-- The first unit on the wire has the first DTS.
wire_first : (units : List CarriedUnit) (u : AccessUnit) (rest : List AccessUnit) → map (λ c. c.unit) units ≡ u ∷ rest → u.dts ≡ first_dts units
unfolding first_dts
wire_first [] u rest is = absurd (let no : ⊥ = cc in no)
wire_first (c ∷ cs) u rest is = let same : c.unit ≡ u = cc in sym (ap (λ (v : AccessUnit). v.dts) same)

-- A stream of this list that begins near the rest of the streams on its clock
abbrev IsHere : List JobProgramView → List WireStreamView → WireStreamView → Type 0
IsHere programs streams s = ((i : ℕ) × (slice_get streams i ≡ Some s)) × BeginsNear programs streams s

stream_late : (findings : List FindingView) (due : ℕ) (programs : List JobProgramView) (streams : List WireStreamView) (s : WireStreamView)
    (t : TimedStreamView) → (180000 ≤ due) × (due ≤ 225000) →
    IsHere programs streams s → moved_by findings due programs (firsts programs streams) s ≡ Ok t → DueLate t.units
unfolding moved_by moved_stream with_moments base_of
stream_late findings due programs streams s t range here is =
    let stamps : List ℕ = stamps_beside programs streams s in
    let base = base_for due stamps in
    let timed = granted (option_map (stamps_refusal findings s.pid) (first_fault (pts_limit_of s.stream_type s.descriptors) base None 0 (wire_of s)))
    (Ok (with_moments base s)) t is in
    let same : with_moments base s ≡ t = same_value (with_moments base s) t timed in
    let least = min_of programs (head_stamp stamps % 2 ^ 33 + 2 ^ 32) (2 ^ 32) here.0.0 s streams here.0.1 in
    let from = first_due due stamps (first_dts s.units) range.1 least here.1 (some_stamps programs here.0.0 s streams here.0.1) in
    subst (λ (x : TimedStreamView). DueLate x.units) same
    (all_due 180000 base (wire_of s) (λ u rest e.
    let dts : u.dts ≡ first_dts s.units = wire_first s.units u rest e in
    subst (λ (n : ℕ). 180000 ≤ distance base n) (sym dts) (le_trans range.0 from)))

-- All streams

all_here : (programs : List JobProgramView) (streams rest : List WireStreamView) (from : ℕ) → ((i : ℕ) → slice_get streams (from + i) ≡ slice_get rest i) →
    All (BeginsNear programs streams) rest → All (IsHere programs streams) rest
all_here programs streams [] from same near = All-nil (IsHere programs streams)
all_here programs streams (s ∷ rest) from same near =
    let next = λ (i : ℕ). (let e : suc from + i ≡ from + suc i = omega arith in ap (slice_get streams) e ∙ same (suc i)) in
    All-cons (IsHere programs streams) s rest ((from + 0, same 0), All-head (BeginsNear programs streams) s rest near)
    (all_here programs streams rest (suc from) next (All-tail (BeginsNear programs streams) s rest near))

pub all_late : (findings : List FindingView) (programs : List JobProgramView) (tables : List JobTableView) (streams : List WireStreamView)
    (timed : List TimedStreamView) →
    moved_streams findings (earliest programs tables streams) programs streams ≡ Ok timed → All (BeginsNear programs streams) streams →
    All (λ t. DueLate t.units) timed
unfolding moved_streams
all_late findings programs tables streams timed is near =
    each_all (moved_by findings (earliest programs tables streams) programs (firsts programs streams)) (IsHere programs streams) (λ t. DueLate t.units)
    (λ s t here one. stream_late findings (earliest programs tables streams) programs streams s t (due_from programs tables streams) here one) streams timed
    (all_here programs streams streams 0 (λ i. let z : 0 + i ≡ i = omega arith in ap (slice_get streams) z) near) is
