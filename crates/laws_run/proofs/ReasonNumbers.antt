-- The number of each reason, by its formula.
use Rattle.std.proofs.Common.{◌≡◌, ◌∙◌, ◌↔◌, ℕ, ◌+◌, ◌-◌, ◌*◌, ◌<◌, ◌≤◌, Bool, true, false, cond, nat_lt, [], ◌∷◌, Option, Some, None, option_map, refl}
use Rattle.std.proofs.Common.{sym, ap, subst, inl, inr, arith, mul-pos}
use Rattle.std.specs.Int.{div_ceil}
use Rattle.std.proofs.lemmas.Bool.{cases_eq}
use Rattle.clock27.specs.Units.{slot_ms_at_1bps}
use Rattle.clock27.specs.declared.rate.TheConstants.{GREATEST_RATE}
use Rattle.unit_timing.specs.Allowances.{steady_packets, steady_time}
use Rattle.unit_timing.specs.declared.allowance.Allowance.{Allowance}
use Rattle.unit_timing.specs.declared.allowance.Allowance.TheVariants.{Groups, Pace}
use Rattle.description_parts.specs.Described.{Described, DescribedStream}
use Rattle.description_parts.specs.Ranges.{IsAllowance, IsStream}
use Rattle.description_parts.specs.Tables.{greatest_unit_packets, round_packets, table_limit}
use Rattle.plan_maker.specs.declared.reason.Reason.TheVariants.{Overload, PcrLimit, ShortLead, SlowDrain, SlowLeak, SmallMain, TableLimit}
use Rattle.plan_maker.specs.FirstNumbers.{first_of}
use Rattle.plan_maker.specs.Loads.{has_slots, least_rate}
use Rattle.plan_maker.specs.Reasons.{least_drain, least_lead, least_limit, least_main}
use Rattle.laws_run.specs.ReasonNumbers.{DrainNumber, LeadNumber, LeakNumber, MainNumber, NoRate, PcrNumber, RateNumber, TableNumber}
use Rattle.laws_run.proofs.LeastNumbers.{first_is, named_by, none_from, none_if, none_passes}

turned : (a b : ℕ) → a * b ≡ b * a
turned a b = omega arith

-- 1. Limits

pcr_number : (i a b : ℕ) → PcrLimit i a ≡ PcrLimit i b → a ≡ b
pcr_number i a b e = cc

pub pcr_law : PcrNumber
pcr_law d p i least some e n =
    none_from slot_ms_at_1bps d.rate n (n * d.rate) least (PcrLimit i (least_limit d 1)) some refl
    (pcr_number i (least_limit d 1) least
    (named_by (nat_lt (p.pcr_limit * d.rate) slot_ms_at_1bps) (PcrLimit i (least_limit d 1)) (PcrLimit i least) e))

table_number : (t a b : ℕ) → TableLimit t a ≡ TableLimit t b → a ≡ b
table_number t a b e = cc

pub table_law : TableNumber
table_law d e t least some same_rate same_rounds is =
    none_from (round_packets e t * slot_ms_at_1bps) d.rate (table_limit e t) (table_limit e t * e.rate) least (TableLimit t (least_limit e (round_packets e t))) some
    (ap (λ (r : ℕ). table_limit e t * r) same_rate)
    (ap (λ (k : ℕ). div_ceil k d.rate) (turned (round_packets e t) slot_ms_at_1bps ∙ ap (λ (k : ℕ). slot_ms_at_1bps * k) same_rounds)
    ∙ table_number t (least_limit d (round_packets d t)) least
    (named_by (nat_lt (table_limit d t * d.rate) (round_packets d t * slot_ms_at_1bps)) (TableLimit t (least_limit d (round_packets d t)))
    (TableLimit t least) is))

-- 2. Streams

some_time : (n apart : ℕ) (a : Allowance) → IsAllowance n a → 1 ≤ apart → 0 < steady_time a apart
some_time n apart (Groups g most) h l =
    let some_units : 1 ≤ g = h.some_units in
    let units : 0 < g = omega (arith, some_units) in
    let time : 0 < apart = omega (arith, l) in
    mul-pos units time
some_time n apart (Pace burst pace) h l = omega arith

stream_time : (s : DescribedStream) → IsStream s → 0 < steady_time s.allowance s.interval
stream_time s h = some_time (greatest_unit_packets s) s.interval s.allowance h.allowance h.some_interval

drain_number : (i a b : ℕ) → SlowDrain i a ≡ SlowDrain i b → a ≡ b
drain_number i a b e = cc

pub drain_law : DrainNumber
drain_law s i least h e n =
    none_from (steady_packets s.allowance) (steady_time s.allowance s.interval) n (steady_time s.allowance s.interval * n) least
    (SlowDrain i (least_drain s)) (stream_time s h) (turned (steady_time s.allowance s.interval) n)
    (drain_number i (least_drain s) least
    (named_by (nat_lt (steady_time s.allowance s.interval * s.rx) (steady_packets s.allowance)) (SlowDrain i (least_drain s)) (SlowDrain i least) e))

leak_number : (i a b : ℕ) → SlowLeak i a ≡ SlowLeak i b → a ≡ b
leak_number i a b e = cc

pub leak_law : LeakNumber
leak_law s b i least h e n =
    none_from (steady_packets s.allowance) (steady_time s.allowance s.interval) n (steady_time s.allowance s.interval * n) least
    (SlowLeak i (least_drain s)) (stream_time s h) (turned (steady_time s.allowance s.interval) n)
    (leak_number i (least_drain s) least
    (named_by (nat_lt (steady_time s.allowance s.interval * b.rbx) (steady_packets s.allowance)) (SlowLeak i (least_drain s)) (SlowLeak i least) e))

lead_number : (i a b : ℕ) → ShortLead i a ≡ ShortLead i b → a ≡ b
lead_number i a b e = cc

pub lead_law : LeadNumber
lead_law d s i least e n =
    let same : least_lead d s ≡ least = lead_number i (least_lead d s) least
    (named_by (nat_lt s.lead (least_lead d s)) (ShortLead i (least_lead d s)) (ShortLead i least) e) in
    subst (λ (k : ℕ). (cond (nat_lt n (least_lead d s)) (ShortLead i (least_lead d s) ∷ []) [] ≡ []) ↔ (k ≤ n)) same
    (none_if n (least_lead d s) (ShortLead i (least_lead d s)))

main_number : (i a b : ℕ) → SmallMain i a ≡ SmallMain i b → a ≡ b
main_number i a b e = cc

pub main_law : MainNumber
main_law d s i least e n =
    let same : least_main d s ≡ least = main_number i (least_main d s) least
    (named_by (nat_lt s.main (least_main d s)) (SmallMain i (least_main d s)) (SmallMain i least) e) in
    subst (λ (k : ℕ). (cond (nat_lt n (least_main d s)) (SmallMain i (least_main d s) ∷ []) [] ≡ []) ↔ (k ≤ n)) same
    (none_if n (least_main d s) (SmallMain i (least_main d s)))

-- 3. The rate

abbrev more_slots : Described → ℕ → Bool
more_slots d more = has_slots d (d.rate + 1 + more)

overload : (t : Bool) (o q : Option ℕ) → cond t [] (Overload o ∷ []) ≡ Overload q ∷ [] → (t ≡ false) × (o ≡ q)
overload true o q e = absurd cc
overload false o q e = (refl, same o q e)
  where
    same : (o q : Option ℕ) → Overload o ∷ [] ≡ Overload q ∷ [] → o ≡ q
    same o q e = cc

found : (d : Described) (o : Option ℕ) (least : ℕ) → option_map (λ (more : ℕ). d.rate + 1 + more) o ≡ Some least →
    (more : ℕ) × (o ≡ Some more) × (d.rate + 1 + more ≡ least)
found d None least e = absurd cc
found d (Some more) least e = (more, refl, same (d.rate + 1 + more) least e)
  where
    same : (a b : ℕ) → Some a ≡ Some b → a ≡ b
    same a b e = cc

not_found : (d : Described) (o : Option ℕ) → option_map (λ (more : ℕ). d.rate + 1 + more) o ≡ None → o ≡ None
not_found d None e = refl
not_found d (Some more) e = absurd cc

-- a rate from the description's own up to another has no slots enough if none of the rates after the own has
none_below : (d : Described) (room rate : ℕ) → has_slots d d.rate ≡ false → ((j : ℕ) → j < room → more_slots d j ≡ false) → d.rate ≤ rate →
    rate < d.rate + 1 + room → has_slots d rate ≡ false
none_below d room rate own none low high = elim (cases_eq rate d.rate) [
  | inl same ↦ subst (λ (r : ℕ). has_slots d r ≡ false) (sym same) own
  | inr other ↦
      let more : rate - d.rate - 1 < room = omega arith in
      let is : d.rate + 1 + (rate - d.rate - 1) ≡ rate = omega arith in
      subst (λ (r : ℕ). has_slots d r ≡ false) is (none (rate - d.rate - 1) more)
]

pub rate_law : RateNumber
rate_law d least e =
    let o = overload (has_slots d d.rate) (least_rate d) (Some least) e in
    let f = found d (first_of (GREATEST_RATE - d.rate) (more_slots d)) least o.1 in
    let g = first_is (GREATEST_RATE - d.rate) (more_slots d) f.0 f.1 in (
      subst (λ (r : ℕ). has_slots d r ≡ true) f.2 g.0,
      λ rate low high. none_below d f.0 rate o.0 g.1 low (subst (λ (r : ℕ). rate < r) (sym f.2) high),
    )

pub none_law : NoRate
none_law d e rate low high =
    let o = overload (has_slots d d.rate) (least_rate d) None e in
    let f = not_found d (first_of (GREATEST_RATE - d.rate) (more_slots d)) o.1 in
    let below : rate < d.rate + 1 + (GREATEST_RATE - d.rate) = omega (arith, low, high) in
    none_below d (GREATEST_RATE - d.rate) rate o.0 (none_passes (GREATEST_RATE - d.rate) (more_slots d) f) low below
