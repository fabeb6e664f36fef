-- A queue takes each unit of units that keep a declaration.
use Rattle.std.proofs.Common.{◌≡◌, ◌≤◌, ◌<◌, ℕ, ◌+◌, ◌^◌, ◌==◌, ◌++◌, nat_lt, Bool, false, None, List, [], ◌∷◌, length, map, refl, sym, subst, arith, All, inl}
use Rattle.std.proofs.Common.{inr}
use Rattle.std.proofs.lemmas.Bool.{cases_Bool, le-ltb, lt-leb}
use Rattle.std.proofs.lemmas.Bool.Decides.{nat_tests}
use Rattle.std.proofs.lemmas.List.{append_assoc, append-nil, map-append}
use Rattle.std.proofs.lemmas.List.Elements.{All-nil, All-cons, All-head, All-tail}
use Rattle.clock27.specs.Release.{release}
use Rattle.own_slots.specs.Slots.{own_before}
use Rattle.pes_packet.specs.AccessUnits.{AccessUnit}
use Rattle.pes_packet.specs.Marks.{marks_size}
use Rattle.unit_timing.specs.declared.allowance.Allowance.{Allowance}
use Rattle.unit_timing.specs.declared.allowance.Allowance.TheVariants.{Groups, Pace}
use Rattle.unit_timing.specs.PesPacket.{PesPacket, Spaced, Sized, next_due}
use Rattle.unit_timing.specs.Allowances.{KeepsAllowance, allowance_rows}
use Rattle.unit_timing.specs.Levels.{is_over}
use Rattle.unit_timing.proofs.OneMoreUnit.{spaced_more_law, sized_more_law}
use Rattle.unit_timing.proofs.Levels.{allowance_more_law}
use Rattle.unit_queue.specs.OwnedStreams.{OwnedStream, timed, packet_count, end_slot}
use Rattle.unit_queue.specs.Places.{left_at, left_before}
use Rattle.unit_queue.specs.Causes.{or_cause, own_cause, time_cause, packets_cause, room_cause, is_late, is_full, over_cause, min_next_dts_of}
use Rattle.unit_queue.specs.Queues.{IsUnit, Kept, max_packets_per_unit}
use Rattle.unit_queue.specs.declared.parameters.StreamParameters.{StreamParameters}
use Rattle.es_units.specs.Laws.{TakenOneByOne}

-- 1. No cause of a refusal

pub not_none : (n : ℕ) → 1 ≤ n → (n == 0) ≡ false
not_none n le = grind (arith, nat_tests, le)

own_none : (r : StreamParameters) (earliest : ℕ) (u : AccessUnit) → IsUnit r u → earliest ≤ u.dts → own_cause r.size r.pts_limit earliest u ≡ None
unfolding own_cause
own_none r earliest u unit due =
    rw (
      not_none (length u.bytes) unit.some,
      le-ltb r.size (length u.bytes + marks_size u.marks) unit.most,
      le-ltb u.dts earliest due,
      le-ltb u.pts u.dts unit.later,
      le-ltb (u.dts + r.pts_limit) u.pts unit.soon,
    ) refl

time_none : (l : OwnedStream) (u : AccessUnit) → l.parameters.lead ≤ u.dts → u.dts ≤ 2 ^ 52 → time_cause (is_late l 0 u) u.dts ≡ None
unfolding time_cause
time_none l u due last =
    rw (le-ltb u.dts l.parameters.lead due, le-ltb (release l.parameters.rate l.parameters.lead u.dts) 0 (omega arith), le-ltb (2 ^ 52) u.dts last) refl

few_left : (l : OwnedStream) (p free number : ℕ) (us : List AccessUnit) → length (left_at l p free number us).units ≤ length us
unfolding left_at
few_left l p free number [] = omega arith
few_left l p free number (u ∷ us) = elim (cases_Bool (nat_lt p (end_slot l free u))) [
  | inl y ↦ rw y (omega arith)
  | inr n ↦ rw n (omega (arith, few_left l p (end_slot l free u) (number + packet_count l u) us))
]

packets_none : (a : Allowance) (over : Bool) → over ≡ false → packets_cause a over ≡ None
packets_none (Groups group most) over e = rw e refl
packets_none (Pace burst pace) over e = rw e refl

room_none : (l : OwnedStream) (capacity : ℕ) (us : List AccessUnit) (u : AccessUnit) → length us < capacity →
    is_over l.parameters.allowance (map (timed l) us) (timed l u) ≡ false → room_cause (is_full l 0 capacity us) (over_cause l us u) ≡ None
unfolding room_cause
room_none l capacity us u room over =
    let few : length (left_before l 0 us).units < capacity = omega (arith, few_left l (own_before l.own 0) 0 0 us, room) in
    rw (lt-leb capacity (length (left_before l 0 us).units) few)
    (packets_none l.parameters.allowance (is_over l.parameters.allowance (map (timed l) us) (timed l u)) over)

-- 2. The last unit, and the units before it

next_least : (apart from d : ℕ) (texts : List PesPacket) → next_due apart from texts ≤ d → next_due apart 0 texts ≤ d
unfolding next_due
next_least apart from d [] le = omega arith
next_least apart from d (text ∷ texts) le = le

from_next : (apart from : ℕ) (texts : List PesPacket) → Spaced apart from texts → from ≤ next_due apart from texts
unfolding Spaced next_due
from_next apart from [] spaced = omega arith
from_next apart from (text ∷ texts) spaced = omega (arith, spaced.0, from_next apart (text.dts + apart) texts spaced.1)

last_unit : (r : StreamParameters) (us : List AccessUnit) (u : AccessUnit) → All (IsUnit r) (us ++ u ∷ []) → IsUnit r u
last_unit r [] u all = All-head (IsUnit r) u [] all
last_unit r (first ∷ us) u all = last_unit r us u (All-tail (IsUnit r) first (us ++ u ∷ []) all)

units_front : (r : StreamParameters) (us : List AccessUnit) (u : AccessUnit) → All (IsUnit r) (us ++ u ∷ []) → All (IsUnit r) us
units_front r [] u all = All-nil (IsUnit r)
units_front r (first ∷ us) u all =
    All-cons (IsUnit r) first us (All-head (IsUnit r) first (us ++ u ∷ []) all) (units_front r us u (All-tail (IsUnit r) first (us ++ u ∷ []) all))

record Last (l : OwnedStream) (us : List AccessUnit) (u : AccessUnit) : Type 0 where
  pub kept : Kept l us
  pub unit : IsUnit l.parameters u
  pub due : next_due l.parameters.interval l.parameters.lead (map (timed l) us) ≤ u.dts
  pub over : is_over l.parameters.allowance (map (timed l) us) (timed l u) ≡ false

last_of : (l : OwnedStream) (us : List AccessUnit) (u : AccessUnit) → 0 < allowance_rows l.parameters.allowance → Kept l (us ++ u ∷ []) → Last l us u
last_of l us u some kept =
    let r = l.parameters in
    let texts = map (timed l) us in
    let more : map (timed l) (us ++ u ∷ []) ≡ map (timed l) us ++ timed l u ∷ [] = map-append (timed l) us (u ∷ []) in
    let spaced_on : Spaced r.interval r.lead (texts ++ timed l u ∷ []) = subst (λ (t : List PesPacket). Spaced r.interval r.lead t) more kept.spaced in
    let spaced = spaced_more_law.back r.interval r.lead texts (timed l u) spaced_on in
    let sized = sized_more_law.back (19 + r.size) texts (timed l u) (subst (λ (t : List PesPacket). Sized (19 + r.size) t) more kept.sized) in
    let allowed = allowance_more_law.back r.allowance (max_packets_per_unit r) r.interval r.lead texts (timed l u) some spaced_on
    (subst (λ (t : List PesPacket). KeepsAllowance r.allowance (max_packets_per_unit r) t) more kept.allowed) in
    record {
      kept = record { units = units_front r us u kept.units; spaced = spaced.0; sized = sized.0; allowed = allowed.0 };
      unit = last_unit r us u kept.units;
      due = spaced.1;
      over = allowed.1;
    }

-- 3. One unit after another

kept_front : (l : OwnedStream) (us more : List AccessUnit) → 0 < allowance_rows l.parameters.allowance → Kept l (us ++ more) → Kept l us
kept_front l us [] some kept = subst (λ (x : List AccessUnit). Kept l x) (append-nil us) kept
kept_front l us (u ∷ more) some kept =
    let on = kept_front l (us ++ u ∷ []) more some (subst (λ (x : List AccessUnit). Kept l x) (sym (append_assoc us (u ∷ []) more)) kept) in
    (last_of l us u some on).kept

pub taken_one_by_one : TakenOneByOne
unfolding or_cause
taken_one_by_one l capacity us u more some kept room =
    let on = kept_front l (us ++ u ∷ []) more some (subst (λ (x : List AccessUnit). Kept l x) (sym (append_assoc us (u ∷ []) more)) kept) in
    let last = last_of l us u some on in
    let lead : l.parameters.lead ≤ u.dts = omega (arith, from_next l.parameters.interval l.parameters.lead (map (timed l) us) last.kept.spaced, last.due) in
    rw (
      own_none l.parameters (min_next_dts_of l us) u last.unit (next_least l.parameters.interval l.parameters.lead u.dts (map (timed l) us) last.due),
      time_none l u lead last.unit.last,
      room_none l capacity us u room last.over,
    ) refl
