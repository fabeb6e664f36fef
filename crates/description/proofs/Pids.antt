-- No two parts of a description share a PID, and all PIDs are below 8191.
use Rattle.std.proofs.Common.{◌≡◌, ◌⊎◌, ℕ, zero, suc, ◌+◌, ◌<◌, ◌≤◌, ◌==◌, Bool, true, false, cond, if◌then◌else◌, List, [], ◌∷◌, ◌++◌, length, map, slice_get}
use Rattle.std.proofs.Common.{not, Option, None, Some, is_some, option_map, unwrap_or, filter, find, refl, ap, sym, subst, ◌∙◌, arith, All, inl, inr, add-zero, zero-add, eq-eqb}
use Rattle.std.proofs.lemmas.Bool.{cases_lt, cases_Bool, eqb-true, ne_eqb}
use Rattle.std.proofs.lemmas.List.{length-map, map-append}
use Rattle.std.proofs.lemmas.List.Concat.{flat_map-append}
use Rattle.std.specs.Option.{option_to_list}
use Rattle.std.proofs.lemmas.List.Elements.{All-head, All-tail, All-nil, All-cons}
use Rattle.description_parts.specs.Described.{Described, DescribedProgram, DescribedStream, DescribedTable}
use Rattle.description_parts.specs.Ranges.{IsInRange, IsProgram, IsStream, IsTable, named_pids}
use Rattle.description_parts.specs.Tables.{shares_clock, clock_holder}
use Rattle.description_parts.specs.Tables.{numbers_from, only_if, has_events_table, service_tables, table_kinds, table_count, table_kind, kind_pid, table_pid}
use Rattle.description_parts.specs.declared.table_kind.TableKind.{TableKind}
use Rattle.description_parts.specs.declared.table_kind.TableKind.TheVariants.{Pat, Pmt, Nit, Sdt, Eit, Tdt, Private}
use Rattle.description.specs.Pids.{references_pid, all_pids, PidsApartLaw, PidsBelowLaw, PidPositionsLaw, StreamRangeLaw, ProgramRangeLaw}
use Rattle.description_parts.proofs.Distinct.{IsDistinct-is}
use Rattle.description.proofs.PidCounts.{times, times-append, present, present-map, some_times, two_times, at_most_once, none_low, none_outside, missed}

-- Elements that are looked up by their numbers, from n on
numbered : {X K : Type 0} (f : K → ℕ) (c : ℕ → K) (g : X → ℕ) (n : ℕ) (xs : List X) → ((i : ℕ) (x : X) → slice_get xs i ≡ Some x → f (c (n + i)) ≡ g x)
    → map f (map c (numbers_from n xs)) ≡ map g xs
numbered f c g n [] h = refl
numbered f c g n (x ∷ xs) h =
    let first : f (c n) ≡ g x = ap (λ (k : ℕ). f (c k)) (sym (add-zero n)) ∙ h 0 x refl in
    let rest : map f (map c (numbers_from (n + 1) xs)) ≡ map g xs =
    numbered f c g (n + 1) xs (λ i y e. let is : n + 1 + i ≡ n + suc i = omega arith in ap (λ (k : ℕ). f (c k)) is ∙ h (suc i) y e) in
    rw (first, rest) refl

pmt_pids : (d : Described) → map (kind_pid d) (map Pmt (numbers_from 0 d.programs)) ≡ map (λ p. p.pmt_pid) d.programs
pmt_pids d = numbered (kind_pid d) Pmt (λ p. p.pmt_pid) 0 d.programs (λ i p e. rw (zero-add i, e, kind_pid) refl)

private_pids : (d : Described) → map (kind_pid d) (map Private (numbers_from 0 d.tables)) ≡ map (λ t. t.pid) d.tables
private_pids d = numbered (kind_pid d) Private (λ t. t.pid) 0 d.tables (λ i t e. rw (zero-add i, e, kind_pid) refl)

-- The fixed PIDs (EN 300 468, 5.1.3)
fixed : List ℕ
fixed = 0 ∷ 0x10 ∷ 0x11 ∷ 0x12 ∷ 0x14 ∷ []

one_if : (d : Described) (x : ℕ) (b : Bool) (k : TableKind) → times x (map (kind_pid d) (only_if b k)) ≤ times x (kind_pid d k ∷ [])
unfolding times
one_if d x true k = omega arith
one_if d x false k = omega arith

service_times : (d : Described) (x : ℕ) → times x (0 ∷ []) + times x (map (kind_pid d) (service_tables d)) ≤ times x fixed
unfolding fixed
service_times d x =
    let n = only_if (is_some d.network) Nit in
    let s = only_if d.has_sdt Sdt in
    let e = only_if (has_events_table d) Eit in
    let t = only_if d.has_tdt Tdt in
    let f = kind_pid d in
    let parts : map f (service_tables d) ≡ map f n ++ map f s ++ map f e ++ map f t =
    map-append f (n ++ s ++ e) t ∙ ap (λ (l : List ℕ). l ++ map f t) (map-append f (n ++ s) e ∙ ap (λ (l : List ℕ). l ++ map f e) (map-append f n s)) in
    let a : times x (map f (service_tables d)) ≡ times x (map f n ++ map f s ++ map f e ++ map f t) = ap (times x) parts in
    omega (
      arith,
      a,
      times-append x (map f n ++ map f s ++ map f e) (map f t),
      times-append x (map f n ++ map f s) (map f e),
      times-append x (map f n) (map f s),
      one_if d x (is_some d.network) Nit,
      one_if d x d.has_sdt Sdt,
      one_if d x (has_events_table d) Eit,
      one_if d x d.has_tdt Tdt,
      times-append x (0 ∷ []) (0x10 ∷ 0x11 ∷ 0x12 ∷ 0x14 ∷ []),
      times-append x (0x10 ∷ []) (0x11 ∷ 0x12 ∷ 0x14 ∷ []),
      times-append x (0x11 ∷ []) (0x12 ∷ 0x14 ∷ []),
      times-append x (0x12 ∷ []) (0x14 ∷ []),
    )

-- The PID of the clock references of a program, if `holder` is the first program on the shared clock
abbrev reference_at : ℕ → ℕ → DescribedProgram → Option ℕ
reference_at holder i p = if p.has_clock then Some p.pcr_pid else (if holder == i then Some p.pcr_pid else None)

-- f gives the PIDs of the programs from number n on
abbrev Refers : ℕ → (ℕ → Option ℕ) → ℕ → List DescribedProgram → Type 0
Refers holder f n ps = (i : ℕ) (p : DescribedProgram) → slice_get ps i ≡ Some p → f (n + i) ≡ reference_at holder (n + i) p

abbrev references : (ℕ → Option ℕ) → ℕ → List DescribedProgram → List ℕ
references f n ps = present (map f (numbers_from n ps))

abbrev own_clocks : List DescribedProgram → List ℕ
own_clocks ps = map (λ p. p.pcr_pid) (filter (λ p. p.has_clock) ps)

first_refers : (holder : ℕ) (f : ℕ → Option ℕ) (n : ℕ) (p : DescribedProgram) (ps : List DescribedProgram) → Refers holder f n (p ∷ ps) →
    f n ≡ reference_at holder n p
first_refers holder f n p ps h = let is : n + 0 ≡ n = add-zero n in subst (λ (k : ℕ). f k ≡ reference_at holder k p) is (h 0 p refl)

later_refer : (holder : ℕ) (f : ℕ → Option ℕ) (n : ℕ) (p : DescribedProgram) (ps : List DescribedProgram) → Refers holder f n (p ∷ ps) →
    Refers holder f (n + 1) ps
later_refer holder f n p ps h i q e = let is : n + suc i ≡ n + 1 + i = omega arith in subst (λ (k : ℕ). f k ≡ reference_at holder k q) is (h (suc i) q e)

references_first : (x : ℕ) (f : ℕ → Option ℕ) (n : ℕ) (p : DescribedProgram) (ps : List DescribedProgram)
    → times x (references f n (p ∷ ps)) ≡ times x (option_to_list (f n)) + times x (references f (n + 1) ps)
references_first x f n p ps = times-append x (option_to_list (f n)) (present (map f (numbers_from (n + 1) ps)))

own_first : (x : ℕ) (p : DescribedProgram) (b : Bool) (ps : List DescribedProgram)
    → times x (map (λ q. q.pcr_pid) (cond b (p ∷ ps) ps)) ≡ times x (if b then p.pcr_pid ∷ [] else []) + times x (map (λ q. q.pcr_pid) ps)
unfolding times
own_first x p true ps = times-append x (p.pcr_pid ∷ []) (map (λ q. q.pcr_pid) ps)
own_first x p false ps = omega arith

-- After the first program on the shared clock only own PIDs are left.
one_after : (x : ℕ) (p : DescribedProgram) (b c : Bool) → c ≡ false
    → times x (option_to_list (if b then Some p.pcr_pid else (if c then Some p.pcr_pid else None))) ≤ times x (if b then p.pcr_pid ∷ [] else [])
unfolding times
one_after x p true c e = omega arith
one_after x p false true e = absurd (cc)
one_after x p false false e = omega arith

after_holder : (x holder : ℕ) (f : ℕ → Option ℕ) (n : ℕ) (ps : List DescribedProgram) → Refers holder f n ps → holder < n →
    times x (references f n ps) ≤ times x (own_clocks ps)
unfolding times
after_holder x holder f n [] h lt = omega arith
after_holder x holder f n (p ∷ ps) h lt =
    let other : (holder == n) ≡ false = ne_eqb holder n (λ e. omega (arith, e, lt)) in
    let one : times x (option_to_list (f n)) ≤ times x (if p.has_clock then p.pcr_pid ∷ [] else []) =
    rw (first_refers holder f n p ps h) (one_after x p p.has_clock (holder == n) other) in
    omega (
      arith,
      one,
      references_first x f n p ps,
      own_first x p p.has_clock (filter (λ q. q.has_clock) ps),
      after_holder x holder f (n + 1) ps (later_refer holder f n p ps h) (omega (arith, lt)),
    )

-- Among all of them the shared PID is once at most.
one_at : (x : ℕ) (clock : Option ℕ) (p : DescribedProgram) (b c : Bool) → (b ≡ false → clock ≡ Some p.pcr_pid)
    → times x (option_to_list (if b then Some p.pcr_pid else (if c then Some p.pcr_pid else None)))
    ≤ times x (if b then p.pcr_pid ∷ [] else []) + times x (option_to_list clock)
unfolding times
one_at x clock p true c h = omega arith
one_at x clock p false true h = let is : clock ≡ Some p.pcr_pid = h refl in rw is (omega arith)
one_at x clock p false false h = omega arith

references_once : (x holder : ℕ) (clock : Option ℕ) (f : ℕ → Option ℕ) (n : ℕ) (ps : List DescribedProgram) → Refers holder f n ps
    → All (λ p. p.has_clock ≡ false → clock ≡ Some p.pcr_pid) ps → times x (references f n ps) ≤ times x (own_clocks ps) + times x (option_to_list clock)
unfolding times
references_once x holder clock f n [] h all = omega arith
references_once x holder clock f n (p ∷ ps) h all =
    let first = All-head (λ q. q.has_clock ≡ false → clock ≡ Some q.pcr_pid) p ps all in
    let rest = All-tail (λ q. q.has_clock ≡ false → clock ≡ Some q.pcr_pid) p ps all in
    let next = later_refer holder f n p ps h in
    elim (cases_Bool (holder == n)) [
      | inl here ↦
          let one : times x (option_to_list (f n)) ≤ times x (if p.has_clock then p.pcr_pid ∷ [] else []) + times x (option_to_list clock) =
          rw (first_refers holder f n p ps h) (one_at x clock p p.has_clock (holder == n) first) in
          omega (
            arith,
            one,
            references_first x f n p ps,
            own_first x p p.has_clock (filter (λ q. q.has_clock) ps),
            after_holder x holder f (n + 1) ps next (omega (arith, eqb-true holder n here)),
          )
      | inr other ↦
          let one : times x (option_to_list (f n)) ≤ times x (if p.has_clock then p.pcr_pid ∷ [] else []) =
          rw (first_refers holder f n p ps h) (one_after x p p.has_clock (holder == n) other) in
          omega (
            arith,
            one,
            references_first x f n p ps,
            own_first x p p.has_clock (filter (λ q. q.has_clock) ps),
            references_once x holder clock f (n + 1) ps next rest,
          )
    ]

-- Each of them is the PID of a program's clock.
one_few : (x : ℕ) (p : DescribedProgram) (b c : Bool)
    → times x (option_to_list (if b then Some p.pcr_pid else (if c then Some p.pcr_pid else None))) ≤ times x (p.pcr_pid ∷ [])
unfolding times
one_few x p true c = omega arith
one_few x p false true = omega arith
one_few x p false false = omega arith

references_few : (x holder : ℕ) (f : ℕ → Option ℕ) (n : ℕ) (ps : List DescribedProgram) → Refers holder f n ps →
    times x (references f n ps) ≤ times x (map (λ p. p.pcr_pid) ps)
unfolding times
references_few x holder f n [] h = omega arith
references_few x holder f n (p ∷ ps) h =
    let one : times x (option_to_list (f n)) ≤ times x (p.pcr_pid ∷ []) =
    rw (first_refers holder f n p ps h) (one_few x p p.has_clock (holder == n)) in
    omega (
      arith,
      one,
      references_first x f n p ps,
      times-append x (p.pcr_pid ∷ []) (map (λ q. q.pcr_pid) ps),
      references_few x holder f (n + 1) ps (later_refer holder f n p ps h),
    )

-- The references of a description
found_later : (q : DescribedProgram) (ps : List DescribedProgram) (b : Bool) → q.has_clock ≡ b → find shares_clock (q ∷ ps) ≡ None →
    (b ≡ true) × (find shares_clock ps ≡ None)
found_later q ps true own n = (refl, sym (ap (λ (c : Bool). cond (not c) (Some q) (find shares_clock ps)) own) ∙ n)
found_later q ps false own n =
    let some : Some q ≡ None = sym (ap (λ (c : Bool). cond (not c) (Some q) (find shares_clock ps)) own) ∙ n in
    absurd (cc)

none_found : (ps : List DescribedProgram) (i : ℕ) (p : DescribedProgram) → find shares_clock ps ≡ None → slice_get ps i ≡ Some p → p.has_clock ≡ true
none_found [] i p n e = absurd (cc)
none_found (q ∷ ps) zero p n e =
    let same : q ≡ p = cc in
    ap (λ (r : DescribedProgram). r.has_clock) (sym same) ∙ (found_later q ps q.has_clock refl n).0
none_found (q ∷ ps) (suc i) p n e = none_found ps i p (found_later q ps q.has_clock refl n).1 e

abbrev reference_of : Option ℕ → ℕ → Option DescribedProgram → Option ℕ
reference_of h i o =
    if (elim o as (λ _. ℕ) [ None ↦ i | Some p ↦ if p.has_clock then i else unwrap_or h i ]) == i then option_map (λ p. p.pcr_pid) o else None

reference_is : (h : Option ℕ) (i : ℕ) (p : DescribedProgram) (b : Bool) → (h ≡ None → b ≡ true)
    → (if (if b then i else unwrap_or h i) == i then Some p.pcr_pid else None)
    ≡ (if b then Some p.pcr_pid else (if unwrap_or h 0 == i then Some p.pcr_pid else None))
reference_is h i p true own = rw (eq-eqb i i refl) refl
reference_is (Some k) i p false own = refl
reference_is None i p false own = let no : false ≡ true = own refl in absurd (cc)

described_references : (d : Described) → Refers (unwrap_or (clock_holder d.programs) 0) (references_pid d) 0 d.programs
described_references d i p e =
    let at : slice_get d.programs (0 + i) ≡ Some p = ap (slice_get d.programs) (zero-add i) ∙ e in
    let own : clock_holder d.programs ≡ None → p.has_clock ≡ true = λ n. none_found d.programs i p (missed shares_clock d.programs n) e in
    ap (reference_of (clock_holder d.programs) (0 + i)) at ∙ reference_is (clock_holder d.programs) (0 + i) p p.has_clock own

-- The number of times x is among the PIDs of a description
record Counts (d : Described) (x : ℕ) : Type 0 where
  all : times x (present (all_pids d)) ≤ times x fixed + times x (map (λ p. p.pmt_pid) d.programs) + times x (references (references_pid d) 0 d.programs)
      + times x (map (λ s. s.pid) d.streams) + times x (map (λ t. t.pid) d.tables)
  named : times x (named_pids d) ≡ times x (map (λ p. p.pmt_pid) d.programs) + times x (own_clocks d.programs) + times x (option_to_list d.clock_pid)
      + times x (map (λ s. s.pid) d.streams) + times x (map (λ t. t.pid) d.tables)

counts : (d : Described) (x : ℕ) → Counts d x
counts d x = record { all = omega (arith, a, b, c, e, service_times d x, pat_and_pmts); named = named_is }
  where
    pmts : List ℕ
    pmts = map (λ p. p.pmt_pid) d.programs

    clocks : List (Option ℕ)
    clocks = map (references_pid d) (numbers_from 0 d.programs)

    streams : List ℕ
    streams = map (λ s. s.pid) d.streams

    privates : List ℕ
    privates = map (λ t. t.pid) d.tables

    services : List ℕ
    services = map (kind_pid d) (service_tables d)

    named_is : times x (named_pids d) ≡ times x pmts + times x (own_clocks d.programs) + times x (option_to_list d.clock_pid) + times x streams
        + times x privates
    named_is =
        omega (
          arith,
          times-append x (pmts ++ own_clocks d.programs ++ option_to_list d.clock_pid ++ streams) privates,
          times-append x (pmts ++ own_clocks d.programs ++ option_to_list d.clock_pid) streams,
          times-append x (pmts ++ own_clocks d.programs) (option_to_list d.clock_pid),
          times-append x pmts (own_clocks d.programs),
        )

    tables_are : map (kind_pid d) (table_kinds d) ≡ (0 ∷ pmts) ++ (services ++ privates)
    tables_are =
        map-append (kind_pid d) (Pat ∷ map Pmt (numbers_from 0 d.programs)) (service_tables d ++ map Private (numbers_from 0 d.tables))
        ∙ ap (λ (l : List ℕ). (0 ∷ map (kind_pid d) (map Pmt (numbers_from 0 d.programs))) ++ l)
        (map-append (kind_pid d) (service_tables d) (map Private (numbers_from 0 d.tables)))
        ∙ ap (λ (l : List ℕ). (0 ∷ l) ++ (services ++ map (kind_pid d) (map Private (numbers_from 0 d.tables)))) (pmt_pids d)
        ∙ ap (λ (l : List ℕ). (0 ∷ pmts) ++ (services ++ l)) (private_pids d)

    present_are : present (all_pids d) ≡ ((0 ∷ pmts) ++ (services ++ privates)) ++ (present clocks ++ streams)
    present_are =
        flat_map-append option_to_list (map (λ k. Some (kind_pid d k)) (table_kinds d)) (clocks ++ map (λ s. Some s.pid) d.streams)
        ∙ ap (λ (l : List ℕ). l ++ present (clocks ++ map (λ s. Some s.pid) d.streams)) (present-map (kind_pid d) (table_kinds d) ∙ tables_are)
        ∙ ap (λ (l : List ℕ). ((0 ∷ pmts) ++ (services ++ privates)) ++ l)
        (flat_map-append option_to_list clocks (map (λ s. Some s.pid) d.streams) ∙ ap (λ (l : List ℕ). present clocks ++ l)
        (present-map (λ (s : DescribedStream). s.pid) d.streams))

    a : times x (present (all_pids d)) ≡ times x ((0 ∷ pmts) ++ (services ++ privates)) + times x (present clocks ++ streams)
    a = ap (times x) present_are ∙ times-append x ((0 ∷ pmts) ++ (services ++ privates)) (present clocks ++ streams)

    b : times x ((0 ∷ pmts) ++ (services ++ privates)) ≡ times x (0 ∷ pmts) + times x (services ++ privates)
    b = times-append x (0 ∷ pmts) (services ++ privates)

    c : times x (services ++ privates) ≡ times x services + times x privates
    c = times-append x services privates

    e : times x (present clocks ++ streams) ≡ times x (present clocks) + times x streams
    e = times-append x (present clocks) streams

    pat_and_pmts : times x (0 ∷ pmts) ≡ times x (0 ∷ []) + times x pmts
    pat_and_pmts = times-append x (0 ∷ []) pmts

each : {X : Type 0} {P Q : X → Type 0} → ((x : X) → P x → Q x) → (xs : List X) → All P xs → All Q xs
each {P} {Q} f [] h = All-nil Q
each {P} {Q} f (x ∷ xs) h = All-cons Q x xs (f x (All-head P x xs h)) (each f xs (All-tail P x xs h))

-- A number that cannot be a PID is only among the fixed PIDs.
outside : (d : Described) (x : ℕ) → IsInRange d → (x < 32) ⊎ (8190 < x) → times x (present (all_pids d)) ≤ times x fixed
outside d x r out =
    omega (
      arith,
      (counts d x).all,
      references_few x (unwrap_or (clock_holder d.programs) 0) (references_pid d) 0 d.programs (described_references d),
      none_outside (λ p. p.pmt_pid) x d.programs out (each (λ (p : DescribedProgram) (is : IsProgram p). is.pmt_pid) d.programs r.programs),
      none_outside (λ p. p.pcr_pid) x d.programs out (each (λ (p : DescribedProgram) (is : IsProgram p). is.pcr_pid) d.programs r.programs),
      none_outside (λ s. s.pid) x d.streams out (each (λ (s : DescribedStream) (is : IsStream s). is.pid) d.streams r.streams),
      none_outside (λ t. t.pid) x d.tables out (each (λ (t : DescribedTable) (is : IsTable t). is.pid) d.tables r.tables),
    )

pub once : (d : Described) (x : ℕ) → IsInRange d → times x (present (all_pids d)) ≤ 1
unfolding fixed
once d x r = elim (cases_lt x 32) [
  | inl low ↦ omega (arith, outside d x r (inl low), at_most_once x fixed (IsDistinct-is fixed refl))
  | inr high ↦ omega (
    arith,
    (counts d x).all,
    (counts d x).named,
    references_once x (unwrap_or (clock_holder d.programs) 0) d.clock_pid (references_pid d) 0 d.programs (described_references d) r.clocks,
    at_most_once x (named_pids d) r.distinct_pids,
    none_low x fixed refl high,
  )
]

pub pids_apart : PidsApartLaw
pids_apart d i j pid r e f = elim (cases_lt i j) [
  | inl lt ↦ absurd (omega (arith, two_times pid (all_pids d) i j lt e f, once d pid r))
  | inr ge ↦ elim (cases_lt j i) [
    | inl lt ↦ absurd (omega (arith, two_times pid (all_pids d) j i lt f e, once d pid r))
    | inr le ↦ omega (arith, ge, le)
  ]
]

pub pids_below : PidsBelowLaw
unfolding fixed
pids_below d i pid r e = elim (cases_lt pid 8191) [
  | inl lt ↦ lt
  | inr high ↦ absurd
      (omega (
        arith,
        some_times pid (all_pids d) i e,
        outside d pid r (inr (omega (arith, high))),
        none_low pid fixed refl (omega (arith, high)),
      ))
]

-- An element at a place of a list satisfies what all its elements satisfy.
pub at_place : {X : Type 0} (P : X → Type 0) (xs : List X) (i : ℕ) (x : X) → All P xs → slice_get xs i ≡ Some x → P x
at_place P [] i x h e = absurd (cc)
at_place P (y ∷ ys) zero x h e = let same : y ≡ x = cc in subst P same (All-head P y ys h)
at_place P (y ∷ ys) (suc i) x h e = at_place P ys i x (All-tail P y ys h) e

pub stream_range : StreamRangeLaw
stream_range d k s r e = at_place IsStream d.streams k s r.streams e

pub program_range : ProgramRangeLaw
program_range d i p r e = at_place IsProgram d.programs i p r.programs e

get_left : {X : Type 0} (xs ys : List X) (i : ℕ) (x : X) → slice_get xs i ≡ Some x → slice_get (xs ++ ys) i ≡ Some x
get_left [] ys i x e = absurd (cc)
get_left (y ∷ xs) ys zero x e = e
get_left (y ∷ xs) ys (suc i) x e = get_left xs ys i x e

get_right : {X : Type 0} (xs ys : List X) (i : ℕ) → slice_get (xs ++ ys) (length xs + i) ≡ slice_get ys i
get_right [] ys i = ap (slice_get ys) (zero-add i)
get_right (x ∷ xs) ys i = let is : length (x ∷ xs) + i ≡ suc (length xs + i) = omega arith in ap (slice_get (x ∷ xs ++ ys)) is ∙ get_right xs ys i

pub get_map : {X Y : Type 0} (f : X → Y) (xs : List X) (i : ℕ) (x : X) → slice_get xs i ≡ Some x → slice_get (map f xs) i ≡ Some (f x)
get_map f [] i x e = absurd (cc)
get_map f (y ∷ xs) zero x e = let same : y ≡ x = cc in ap (λ (z : _). Some (f z)) same
get_map f (y ∷ xs) (suc i) x e = get_map f xs i x e

get_number : {X Y : Type 0} (f : ℕ → Y) (n : ℕ) (xs : List X) (i : ℕ) → i < length xs → slice_get (map f (numbers_from n xs)) i ≡ Some (f (n + i))
get_number f n [] i lt = absurd (omega (arith, lt))
get_number f n (x ∷ xs) zero lt = ap (λ (k : ℕ). Some (f k)) (sym (add-zero n))
get_number f n (x ∷ xs) (suc i) lt =
    let is : n + 1 + i ≡ n + suc i = omega arith in
    get_number f (n + 1) xs i (omega (arith, lt)) ∙ ap (λ (k : ℕ). Some (f k)) is

length_numbers : {X : Type 0} (n : ℕ) (xs : List X) → length (numbers_from n xs) ≡ length xs
length_numbers n [] = refl
length_numbers n (x ∷ xs) = ap suc (length_numbers (n + 1) xs)

-- The three parts of the list
abbrev table_pids : Described → List (Option ℕ)
table_pids d = map (λ k. Some (kind_pid d k)) (table_kinds d)

abbrev clock_pids : Described → List (Option ℕ)
clock_pids d = map (references_pid d) (numbers_from 0 d.programs)

abbrev stream_pids : Described → List (Option ℕ)
stream_pids d = map (λ s. Some s.pid) d.streams

length_tables : (d : Described) → length (table_pids d) ≡ table_count d
length_tables d = length-map (table_kinds d) (λ k. Some (kind_pid d k))

table_place : (d : Described) (t : ℕ) (o : Option TableKind) → table_kind d t ≡ o → t < table_count d → slice_get (all_pids d) t ≡ Some (Some (table_pid d t))
table_place d t None e lt = absurd (none_there (table_kinds d) t lt e)
  where
    none_there : (ks : List TableKind) (i : ℕ) → i < length ks → slice_get ks i ≡ None → ⊥
    none_there [] i lt e = absurd (omega (arith, lt))
    none_there (k ∷ ks) zero lt e = absurd (cc)
    none_there (k ∷ ks) (suc i) lt e = none_there ks i (omega (arith, lt)) e
table_place d t (Some kind) e lt =
    let pid : kind_pid d kind ≡ table_pid d t = rw e refl in
    get_left (table_pids d) (clock_pids d ++ stream_pids d) t (Some (kind_pid d kind)) (get_map (λ k. Some (kind_pid d k)) (table_kinds d) t kind e)
    ∙ ap (λ (n : ℕ). Some (Some n)) pid

pub pid_positions : PidPositionsLaw
pid_positions d = record {
  table = λ t lt. table_place d t (table_kind d t) refl lt;
  clock = λ i lt. ap (λ (n : ℕ). slice_get (all_pids d) (n + i)) (sym (length_tables d))
      ∙ get_right (table_pids d) (clock_pids d ++ stream_pids d) i
      ∙ get_left (clock_pids d) (stream_pids d) i (references_pid d (0 + i)) (get_number (references_pid d) 0 d.programs i lt)
      ∙ ap (λ (n : ℕ). Some (references_pid d n)) (zero-add i);
  stream = λ k s e. ap (λ (n : ℕ). slice_get (all_pids d) n) (at k)
      ∙ get_right (table_pids d) (clock_pids d ++ stream_pids d) (length (clock_pids d) + k)
      ∙ get_right (clock_pids d) (stream_pids d) k
      ∙ get_map (λ (s : DescribedStream). Some s.pid) d.streams k s e;
}
  where
    at : (k : ℕ) → table_count d + length d.programs + k ≡ length (table_pids d) + (length (clock_pids d) + k)
    at k =
        let a : length (clock_pids d) ≡ length d.programs = length-map (numbers_from 0 d.programs) (references_pid d) ∙ length_numbers 0 d.programs in
        omega (arith, a, length_tables d)
