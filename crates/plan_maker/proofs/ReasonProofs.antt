-- If a description has a reason, no plan serves it.
use Rattle.std.proofs.Common.{◌≡◌, ℕ, zero, suc, ◌+◌, ◌-◌, ◌*◌, ◌/◌, ◌%◌, ◌<◌, ◌≤◌, max, min, Bool, true, false, List, [], ◌∷◌, Option, Some, None, length, get_or}
use Rattle.std.proofs.Common.{nat_lt, nat_le, refl, ap, ◌∙◌, inl, inr, arith, add-one}
use Rattle.std.specs.Prelude.{slice_get, fold, if◌then◌else◌}
use Rattle.std.proofs.Math.Nat.{mul-le-mul_left, le_of_mul-le-mul_right, mod-eq_of_lt}
use Rattle.std.proofs.lemmas.Nat.{le-div}
use Rattle.std.proofs.lemmas.Bool.{cases_Bool, cases_lt, eqb-true}
use Rattle.std.proofs.lemmas.Bool.Decides.{nat_tests}
use Rattle.std.proofs.lemmas.Option.{slice_get_within}
use Rattle.clock27.specs.Units.{slot_units_at_1bps}
use Rattle.clock27.specs.Units.{slot_ms_at_1bps}
use Rattle.own_slots.specs.Slots.{own_before}
use Rattle.own_slots.specs.Period.{own, per_period}
use Rattle.own_slots.specs.Gaps.{gap}
use Rattle.own_slots.specs.Work.{work_at, work_left}
use Rattle.own_slots.proofs.Gaps.{gap_law}
use Rattle.own_slots.proofs.Extremes.{greatest_at_most}
use Rattle.own_slots.proofs.Counts.{own_before_own, own_before_other}
use Rattle.own_slots.proofs.PositionLemmas.{own_before_period, per_period_le}
use Rattle.own_slots.proofs.WorkLemmas.{work_more, work_begin}
use Rattle.unit_timing.specs.declared.multiplexing_buffer.MultiplexingBuffer.{MultiplexingBuffer}
use Rattle.unit_timing.specs.Allowances.{allowance_rows, steady_packets, steady_time}
use Rattle.unit_timing.specs.Conditions.{StreamConditions, packets_in_row, waiting_slots}
use Rattle.description_parts.specs.Described.{Described, DescribedProgram, DescribedStream}
use Rattle.description_parts.specs.Tables.{table_kinds, table_count, table_limit, round_packets, clock_of, has_references}
use Rattle.slot_plan.specs.declared.slot.Item.TheVariants.{Stream, Pcr, Table}
use Rattle.slot_plan.specs.Numbered.{numbered}
use Rattle.slot_plan.specs.Planned.{Planned}
use Rattle.slot_plan.specs.Items.{marks}
use Rattle.slot_plan.specs.Claims.{declaration, multiplexing_claim}
use Rattle.slot_plan.proofs.Clocks.{one_clock}
use Rattle.slot_plan.proofs.ConditionLists.{ServingConditions, serves}
use Rattle.slot_plan.proofs.OnePlan.{length_marks, claim_of, stream_holds, leak_holds, pcr_gap_holds, table_gap_holds}
use Rattle.plan_maker.specs.declared.reason.Reason.{Reason}
use Rattle.unit_timing.specs.Shares.{parts}
use Rattle.plan_maker.specs.Clocks.{with_sharer, clock_limit}
use Rattle.plan_maker.specs.Loads.{stream_load, recurring_load, clock_load, streams_load, pcrs_load, tables_load, load}
use Rattle.plan_maker.specs.Reasons.{units_lead, least_lead, least_main, pcr_reason, table_reason, drain_reason, leak_reason, lead_reason, main_reason}
use Rattle.plan_maker.specs.Reasons.{stream_reason, load_reason, pcr_reasons, table_reasons, stream_reasons, ReasonLaw}
use Rattle.plan_maker.proofs.OwnSlotCounts.{owned, each_at_most, all_owned}
use Rattle.plan_maker.proofs.LeastShares.{recurs, least_peak, recurring_kept, stream_kept, window_kept, ceil_at_most, lead_kept}

-- Lists of reasons

no_parts : {A : Type 0} (part : ℕ → A → List Reason) (k : ℕ) (xs : List A) → ((i : ℕ) (x : A) → slice_get xs i ≡ Some x → part (k + i) x ≡ []) →
    numbered part k xs ≡ []
no_parts part k [] none = refl
no_parts part k (x ∷ xs) none =
    let here : k + 0 ≡ k = omega arith in
    let first : part k x ≡ [] = rw here at (none 0 x refl) in
    let rest : numbered part (suc k) xs ≡ [] = no_parts part (suc k) xs (λ i y is. let e : suc k + i ≡ k + suc i = omega arith in rw e (none (suc i) y is)) in
    rw (first, rest) refl

not_less : (a b : ℕ) → b ≤ a → nat_lt a b ≡ false
not_less a b le = grind (arith, nat_tests)

at_most : (a b : ℕ) → a ≤ b → nat_le a b ≡ true
at_most a b le = grind (arith, nat_tests)

-- Gaps

own_before_none : (f : ℕ → Bool) → own_before f 0 ≡ 0
unfolding own_before
own_before_none f = refl

few_before : (f : ℕ → Bool) (s : ℕ) → own_before f s ≤ s
few_before f zero = omega (arith, own_before_none f)
few_before f (suc s) = elim (cases_Bool (f s)) [
  | inl y ↦ omega (arith, few_before f s, own_before_own f s y)
  | inr n ↦ omega (arith, few_before f s, own_before_other f s n)
]

-- A run of k own slots takes at least k slots.
least_gap : (marks : List Bool) (k : ℕ) → 0 < per_period marks → k ≤ gap marks k
least_gap marks k pos = omega (arith, gap_law marks k (gap marks k) pos (omega arith) 0, few_before (own marks) (0 + gap marks k))

-- Work

-- The work after a period is at least the work of its packets minus the drain of its slots.
own_here : (marks : List Bool) (s : ℕ) (b : Bool) → s < length marks → get_or marks s false ≡ b → own marks s ≡ b
own_here marks s b lt is = let e : s % length marks ≡ s = mod-eq_of_lt lt in ap (λ (i : ℕ). get_or marks i false) e ∙ is

least_work : (rate drain start : ℕ) (marks : List Bool) (s : ℕ) → s ≤ length marks →
    start + own_before (own marks) s * (188 * rate) ≤ work_at rate drain start marks s + s * (188 * drain)
least_work rate drain start marks zero le = begun (own_before_none (own marks))
  where
    begun : own_before (own marks) 0 ≡ 0 → start + own_before (own marks) 0 * (188 * rate) ≤ work_at rate drain start marks 0 + 0 * (188 * drain)
    begun e = rw e (omega (arith, work_begin rate drain start marks))
least_work rate drain start marks (suc s) le =
    let before = least_work rate drain start marks s (omega (arith, le)) in
    let more = work_more rate drain start marks s (omega (arith, le)) in
    elim (cases_Bool (get_or marks s false)) [
      | inl y ↦ omega (
        arith,
        before,
        rw y at more,
        ap (λ (n : ℕ). work_at rate drain start marks n) (add-one s),
        ap (λ (n : ℕ). n * (188 * rate)) (own_before_own (own marks) s (own_here marks s true le y)),
      )
      | inr n ↦ omega (
        arith,
        before,
        rw n at more,
        ap (λ (n : ℕ). work_at rate drain start marks n) (add-one s),
        ap (λ (n : ℕ). n * (188 * rate)) (own_before_other (own marks) s (own_here marks s false le n)),
      )
    ]

-- If a period does not add to the work, the buffer drains at least as fast as packets arrive.
drains : (rate drain start : ℕ) (marks : List Bool) → work_left rate drain start marks ≤ start → per_period marks * rate ≤ length marks * drain
drains rate drain start marks le =
    let all = least_work rate drain start marks (length marks) (omega arith) in
    scaled (per_period marks) (length marks) rate drain start (work_left rate drain start marks) (rw (own_before_period marks) at all) le
  where
    scaled : (c n rate drain start left : ℕ) → start + c * (188 * rate) ≤ left + n * (188 * drain) → left ≤ start → c * rate ≤ n * drain
    scaled c n rate drain start left all le = omega (arith, all, le)

-- If own slots keep a pace and the buffer drains that pace, the pace is at most the drain.
divided : (n m c t r x : ℕ) → 1 ≤ n → m * n ≤ c * (t * r) → c * r ≤ n * x → m ≤ t * x
divided n m c t r x some rate pace = elim (cases_lt (t * x) m) [
  | inl less ↦ absurd (let a = mul-le-mul_left t pace in let b = mul-le-mul_left n less in omega (arith, rate, a, b, some))
  | inr le ↦ le
]

-- Items that recur

module _ (d : Described) (p : Planned) (k : ServingConditions d p) where
  pcr_kept : (i : ℕ) (x : DescribedProgram) → slice_get d.programs i ≡ Some x → i < length d.programs → pcr_reason d i x ≡ []
  pcr_kept i x is lt =
      let le = pcr_gap_holds d p i x k is in
      let own_marks = marks (Pcr (clock_of d i)) p.slots in
      let least : 1 ≤ gap own_marks 1 = least_gap own_marks 1 (k.shape.programs_own i lt) in
      rw (not_less (x.pcr_limit * d.rate) 1504000 (omega (arith, le, least))) refl

  table_kept : (t : ℕ) → t < table_count d → table_reason d t ≡ []
  table_kept t lt =
      let le = table_gap_holds d p t k lt in
      let least : round_packets d t ≤ gap (marks (Table t) p.slots) (round_packets d t) =
      least_gap (marks (Table t) p.slots) (round_packets d t) (k.shape.tables_own t lt) in
      rw (not_less (table_limit d t * d.rate) (round_packets d t * 1504000) (omega (arith, le, least))) refl

-- Streams

module _ (d : Described) (p : Planned) (i : ℕ) (s : DescribedStream) (holds : StreamConditions d.rate (declaration s) (claim_of p i) (marks (Stream i) p.slots))
  where
    own_marks : List Bool
    own_marks = marks (Stream i) p.slots

    some_slots : 0 < length (marks (Stream i) p.slots)
    some_slots = omega (arith, holds.owned, per_period_le (marks (Stream i) p.slots))

    -- The transport buffer drains as fast as the own slots fill it.
    pace : per_period (marks (Stream i) p.slots) * d.rate ≤ length (marks (Stream i) p.slots) * s.rx
    pace = drains d.rate s.rx (claim_of p i).start (marks (Stream i) p.slots) holds.work.carries

    -- The own slots are enough in the long run.
    enough : steady_packets s.allowance * length (marks (Stream i) p.slots) ≤ per_period (marks (Stream i) p.slots) *
        (steady_time s.allowance s.interval * d.rate)
    enough = omega (arith, holds.rate_serves)

    drain_kept : (j : ℕ) → drain_reason j s ≡ []
    drain_kept j = rw (not_less (steady_time s.allowance s.interval * s.rx) (steady_packets s.allowance)
        (divided (length (marks (Stream i) p.slots)) (steady_packets s.allowance) (per_period (marks (Stream i) p.slots)) (steady_time s.allowance s.interval)
        d.rate s.rx some_slots enough pace)) refl

    -- The multiplexing buffer drains as fast as the own slots fill it.
    leak_kept : (j : ℕ) (o : Option MultiplexingBuffer) → ((b : MultiplexingBuffer) → o ≡ Some b →
        per_period (marks (Stream i) p.slots) * d.rate ≤ length (marks (Stream i) p.slots) * b.rbx) → leak_reason j s o ≡ []
    leak_kept j None leaks = refl
    leak_kept j (Some b) leaks = rw (not_less (steady_time s.allowance s.interval * b.rbx) (steady_packets s.allowance)
        (divided (length (marks (Stream i) p.slots)) (steady_packets s.allowance) (per_period (marks (Stream i) p.slots)) (steady_time s.allowance s.interval)
        d.rate b.rbx
        some_slots enough (leaks b refl))) refl

    units_kept : (m : ℕ) → 0 < m → m ≤ allowance_rows s.allowance → units_lead d s m ≤ s.lead
    units_kept m some rows =
        let peak = least_peak d.rate s.rx (claim_of p i).start (marks (Stream i) p.slots) holds.owned in
        let needed = lead_kept (per_period (marks (Stream i) p.slots)) (length (marks (Stream i) p.slots)) d.rate s.rx (packets_in_row (declaration s) m)
        (claim_of p i).spread (claim_of p i).peak (s.lead + (m - 1) * s.interval)
        holds.owned (per_period_le (marks (Stream i) p.slots)) pace (omega (arith, peak, holds.work.peaks)) (holds.lead_serves m some rows) in
        omega (
          arith,
          ceil_at_most ((packets_in_row (declaration s) m * max d.rate s.rx + s.rx + d.rate) * slot_units_at_1bps) (d.rate * s.rx)
              (s.lead + (m - 1) * s.interval) needed,
        )

    lead_reason_kept : (j : ℕ) → lead_reason d j s ≡ []
    lead_reason_kept j =
        let most : least_lead d s ≤ s.lead =
        greatest_at_most (allowance_rows s.allowance) (λ before. units_lead d s (before + 1)) s.lead
        (λ before lt. units_kept (before + 1) (omega arith) (omega (arith, lt))) in
        rw (not_less s.lead (least_lead d s) most) refl

    main_kept : (j : ℕ) → main_reason d j s ≡ []
    main_kept j =
        let c : ℕ = per_period (marks (Stream i) p.slots) in
        let window : ℕ = waiting_slots d.rate (declaration s) - 1 in
        let few = window_kept (length (marks (Stream i) p.slots)) c (steady_packets s.allowance) (steady_time s.allowance s.interval * d.rate) window
        (window * c + (claim_of p i).spread) some_slots enough (omega arith) in
        let most : least_main d s ≤ s.main = omega (arith, few, holds.main_fits) in
        rw (not_less s.main (least_main d s) most) refl

    stream_kept_whole : (j : ℕ) → ((b : MultiplexingBuffer) → s.multiplexing ≡ Some b →
        per_period (marks (Stream i) p.slots) * d.rate ≤ length (marks (Stream i) p.slots) * b.rbx) → stream_reason d j s ≡ []
    stream_kept_whole j leaks = rw (drain_kept j, leak_kept j s.multiplexing leaks, lead_reason_kept j, main_kept j) refl

-- The multiplexing buffer of a stream leaks as fast as the stream's own slots fill it.
leak_pace : (d : Described) (p : Planned) (i : ℕ) (s : DescribedStream) → ServingConditions d p → slice_get d.streams i ≡ Some s → (b : MultiplexingBuffer) →
    s.multiplexing ≡ Some b → per_period (marks (Stream i) p.slots) * d.rate ≤ length (marks (Stream i) p.slots) * b.rbx
leak_pace d p i s k is b some =
    drains d.rate b.rbx (multiplexing_claim p i).start (marks (Stream i) p.slots) (leak_holds d p i s b k is some).carries

-- All items together

-- What is within the limit of each program that shares a clock is within the least of these limits.
each_kept : (n rate limit : ℕ) (ps : List DescribedProgram) → n ≤ limit * rate →
    ((i : ℕ) (p : DescribedProgram) → slice_get ps i ≡ Some p → p.has_clock ≡ false → n ≤ p.pcr_limit * rate) → n ≤ fold with_sharer limit ps * rate
each_kept n rate limit [] le each = le
each_kept n rate limit (p ∷ ps) le each =
    each_kept n rate (with_sharer limit p) ps (by_clock p.has_clock refl) (λ i q is shares. each (suc i) q is shares)
  where
    lesser : (a b : ℕ) → n ≤ a * rate → n ≤ b * rate → n ≤ min a b * rate
    lesser a b first second = elim (cases_lt a b) [
      | inl less ↦ let e : min a b ≡ a = omega (arith, less) in rw e first
      | inr other ↦ let e : min a b ≡ b = omega (arith, other) in rw e second
    ]

    by_clock : (b : Bool) → p.has_clock ≡ b → n ≤ with_sharer limit p * rate
    by_clock true has = rw (has, with_sharer) le
    by_clock false shares = rw (shares, with_sharer) (lesser limit p.pcr_limit le (each 0 p refl shares))

if_referenced : (b : Bool) (n x y : ℕ) → (b ≡ true → n * x ≤ y) → n * (if b then x else 0) ≤ y
if_referenced true n x y kept = kept refl
if_referenced false n x y kept = omega arith

module _ (d : Described) (p : Planned) (k : ServingConditions d p) where
  streams_share : length p.slots * streams_load d d.rate ≤ parts * owned Stream 0 d.streams p.slots
  streams_share = each_at_most (λ _ s. stream_load d.rate s) (λ i _. per_period (marks (Stream i) p.slots)) (length p.slots) parts 0 d.streams
      (λ i s is. share i s is)
    where
      share : (i : ℕ) (s : DescribedStream) → slice_get d.streams i ≡ Some s →
          length p.slots * stream_load d.rate s ≤ parts * per_period (marks (Stream (0 + i)) p.slots)
      share i s is =
          let e : 0 + i ≡ i = omega arith in
          let holds = stream_holds d p i s k is in
          let kept = stream_kept (length (marks (Stream i) p.slots)) (per_period (marks (Stream i) p.slots)) (steady_packets s.allowance)
          (steady_time s.allowance s.interval * d.rate) parts
          (some_slots d p i s holds) (enough d p i s holds) in
          rw e (rw (length_marks (Stream i) p.slots) at kept)

  recurring_share : (marks : List Bool) (limit k : ℕ) → 0 < per_period marks → gap marks k * slot_ms_at_1bps ≤ limit * d.rate →
      length marks * recurring_load d.rate limit k ≤ parts * per_period marks
  recurring_share marks limit k pos le =
      recurring_kept (length marks) (per_period marks) k (gap marks k) (limit * d.rate / slot_ms_at_1bps) parts (omega (arith, pos, per_period_le marks))
      (recurs marks k pos) (le-div (gap marks k) (limit * d.rate) slot_ms_at_1bps (omega arith) le)

  -- The slots of a clock keep the limit of each program on it.
  limit_kept : (i : ℕ) (q : DescribedProgram) → slice_get d.programs i ≡ Some q → clock_of d i ≡ i →
      gap (marks (Pcr i) p.slots) 1 * slot_ms_at_1bps ≤ clock_limit d q * d.rate
  limit_kept i q is own = by_clock q.has_clock refl
    where
      own_limit : gap (marks (Pcr i) p.slots) 1 * slot_ms_at_1bps ≤ q.pcr_limit * d.rate
      own_limit = rw own at (pcr_gap_holds d p i q k is)

      by_clock : (b : Bool) → q.has_clock ≡ b → gap (marks (Pcr i) p.slots) 1 * slot_ms_at_1bps ≤ clock_limit d q * d.rate
      by_clock true has = rw (has, clock_limit) own_limit
      by_clock false shares = rw (shares, clock_limit) (each_kept (gap (marks (Pcr i) p.slots) 1 * slot_ms_at_1bps) d.rate q.pcr_limit d.programs own_limit
          (λ j x there too. let same : clock_of d j ≡ i = one_clock d j i x q there too is shares ∙ own in rw same at (pcr_gap_holds d p j x k there)))

  pcrs_share : length p.slots * pcrs_load d d.rate ≤ parts * owned Pcr 0 d.programs p.slots
  pcrs_share = each_at_most (clock_load d d.rate) (λ i _. per_period (marks (Pcr i) p.slots)) (length p.slots) parts 0 d.programs
      (λ i q is. share i q is)
    where
      kept : (i : ℕ) (q : DescribedProgram) → slice_get d.programs i ≡ Some q → clock_of d i ≡ i →
          length p.slots * recurring_load d.rate (clock_limit d q) 1 ≤ parts * per_period (marks (Pcr i) p.slots)
      kept i q is own =
          let some : 0 < per_period (marks (Pcr i) p.slots) = rw own at (k.shape.programs_own i (slice_get_within d.programs i q is)) in
          rw (length_marks (Pcr i) p.slots) at (recurring_share (marks (Pcr i) p.slots) (clock_limit d q) 1 some (limit_kept i q is own))

      share : (i : ℕ) (q : DescribedProgram) → slice_get d.programs i ≡ Some q →
          length p.slots * clock_load d d.rate (0 + i) q ≤ parts * per_period (marks (Pcr (0 + i)) p.slots)
      share i q is = let e : 0 + i ≡ i = omega arith in
          rw e (if_referenced (has_references d i) (length p.slots) (recurring_load d.rate (clock_limit d q) 1) (parts * per_period (marks (Pcr i) p.slots))
          (λ own. kept i q is (eqb-true (clock_of d i) i own)))

  tables_share : length p.slots * tables_load d d.rate ≤ parts * owned Table 0 (table_kinds d) p.slots
  tables_share = each_at_most (λ t _. recurring_load d.rate (table_limit d t) (round_packets d t)) (λ t _. per_period (marks (Table t) p.slots))
      (length p.slots) parts 0 (table_kinds d)
      (λ t x is. share t (slice_get_within (table_kinds d) t x is))
    where
      share : (t : ℕ) → t < table_count d →
          length p.slots * recurring_load d.rate (table_limit d (0 + t)) (round_packets d (0 + t)) ≤ parts * per_period (marks (Table (0 + t)) p.slots)
      share t lt =
          let e : 0 + t ≡ t = omega arith in
          let kept = recurring_share (marks (Table t) p.slots) (table_limit d t) (round_packets d t) (k.shape.tables_own t lt) (table_gap_holds d p t k lt) in
          rw e (rw (length_marks (Table t) p.slots) at kept)

  load_kept : load_reason d ≡ []
  load_kept =
      let own = all_owned d.streams d.programs (table_kinds d) p.slots in
      let most : load d d.rate ≤ parts =
      within (length p.slots) (streams_load d d.rate) (pcrs_load d d.rate) (tables_load d d.rate) parts
      (owned Stream 0 d.streams p.slots) (owned Pcr 0 d.programs p.slots) (owned Table 0 (table_kinds d) p.slots)
      k.shape.some_slots streams_share pcrs_share tables_share own in
      rw (at_most (load d d.rate) parts most) refl
    where
      within : (n a b c w x y z : ℕ) → 1 ≤ n → n * a ≤ w * x → n * b ≤ w * y → n * c ≤ w * z → x + (y + z) ≤ n → a + (b + c) ≤ w
      within n a b c w x y z some first second third own =
          le_of_mul-le-mul_right {k = n} (omega (arith, first, second, third, mul-le-mul_left w own)) (omega (arith, some))

pub reason_law : ReasonLaw
reason_law d p serving =
    let k = serves d p serving in
    let e : (i : ℕ) → 0 + i ≡ i = λ i. omega arith in
    let pcrs : pcr_reasons d ≡ [] =
    no_parts (pcr_reason d) 0 d.programs (λ i x is. pcr_kept d p k (0 + i) x (rw (e i) is) (rw (e i) (slice_get_within d.programs i x is))) in
    let tables : table_reasons d ≡ [] =
    no_parts (λ t _. table_reason d t) 0 (table_kinds d) (λ t x is. table_kept d p k (0 + t) (rw (e t) (slice_get_within (table_kinds d) t x is))) in
    let streams : stream_reasons d ≡ [] =
    no_parts (stream_reason d) 0 d.streams (λ i s is. stream_kept_whole d p i s (stream_holds d p i s k is) (0 + i) (leak_pace d p i s k is)) in
    rw (pcrs, tables, streams, load_kept d p k) refl
