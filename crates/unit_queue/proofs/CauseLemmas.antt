-- The facts about a unit that no cause refuses.
use Rattle.std.proofs.Common.{◌≡◌, ℕ, zero, suc, ◌+◌, ◌^◌, ◌<◌, ◌≤◌, ◌==◌, ◌||◌, nat_lt, nat_le, Bool, true, false, if◌then◌else◌, Option, Some, None, List}
use Rattle.std.proofs.Common.{length, IsTrue, refl, sym, ◌∙◌, inl, inr, arith}
use Rattle.std.proofs.lemmas.Bool.{cases_Bool, cases_lt, lt-ltb, le-leb}
use Rattle.std.proofs.lemmas.List.{length-append}
use Rattle.pes_packet.specs.AccessUnits.{AccessUnit}
use Rattle.pes_packet.specs.Encoding.{pes_packet_bytes, pes_header_bytes}
use Rattle.pes_packet.specs.Marks.{field_size, marks_size}
use Rattle.pes_packet.specs.StreamIds.{is_video, greatest_size, fits_packet}
use Rattle.unit_queue.specs.declared.parameters.StreamParameters.{StreamParameters}
use Rattle.unit_queue.specs.declared.refusal.FeedError.{FeedError}
use Rattle.unit_queue.specs.declared.refusal.FeedError.TheVariants.{Empty, TooLarge, TooSoon, BadPts, Late, TooFar, Full, Group, Pace as OverPace}
use Rattle.unit_timing.specs.declared.allowance.Allowance.{Allowance}
use Rattle.unit_timing.specs.declared.allowance.Allowance.TheVariants.{Groups, Pace}
use Rattle.unit_timing.specs.PesPacket.{PesPacket}
use Rattle.unit_queue.specs.Causes.{or_cause, is_bad_pts, own_cause, time_cause, packets_cause, room_cause}
use Rattle.clock27.specs.Release.{release}
use Rattle.unit_queue.specs.Queues.{ParametersInRange, IsUnit, Queued, Queue, queued}
use Rattle.unit_queue.specs.OwnedStreams.{has_access}
use Rattle.unit_queue.specs.QueueSteps.{late_at, timed_by, is_over_for, state_cause, joined, accepted}

-- The first of several causes in order.
pub or_first : (a b c : Option FeedError) (e : FeedError) → Some e ≡ or_cause a b → Some e ≡ or_cause a (or_cause b c)
unfolding or_cause
or_first (Some x) b c e is = is
or_first None (Some x) c e is = is
or_first None None c e is = absurd (let no : ⊥ = cc in no)

pub or_rest : (a b c : Option FeedError) → None ≡ or_cause a b → or_cause a (or_cause b c) ≡ c
unfolding or_cause
or_rest (Some x) b c is = absurd (let no : ⊥ = cc in no)
or_rest None (Some x) c is = absurd (let no : ⊥ = cc in no)
or_rest None None c is = refl

pub or_none : (a b : Option FeedError) → or_cause a b ≡ None → (a ≡ None) × (b ≡ None)
unfolding or_cause
or_none (Some x) b is = absurd (let no : ⊥ = cc in no)
or_none None b is = (refl, is)

pub test_none : (b : Bool) (e : FeedError) (rest : Option FeedError) → (if b then Some e else rest) ≡ None → (b ≡ false) × (rest ≡ None)
test_none true e rest is = absurd (let no : ⊥ = cc in no)
test_none false e rest is = (refl, is)

pub not_lt : (a b : ℕ) → nat_lt a b ≡ false → b ≤ a
not_lt a b is = elim (cases_lt a b) [
  | inl lt ↦ absurd (let t = lt-ltb a b lt in let no : ⊥ = cc in no)
  | inr le ↦ le
]

some_size : (n : ℕ) → (n == 0) ≡ false → 1 ≤ n
some_size zero is = absurd (let no : ⊥ = cc in no)
some_size (suc n) is = omega arith

pub or_false : (a b : Bool) → (a || b) ≡ false → (a ≡ false) × (b ≡ false)
or_false true b is = absurd (let no : ⊥ = cc in no)
or_false false b is = (refl, is)

pub record OwnFacts (largest limit min_next_dts : ℕ) (u : AccessUnit) : Type 0 where
  pub some : 1 ≤ length u.bytes
  pub most : length u.bytes + marks_size u.marks ≤ largest
  pub spaced : min_next_dts ≤ u.dts
  pub later : u.dts ≤ u.pts
  pub soon : u.pts ≤ u.dts + limit

pub own_facts : (largest limit min_next_dts : ℕ) (u : AccessUnit) → own_cause largest limit min_next_dts u ≡ None → OwnFacts largest limit min_next_dts u
unfolding own_cause
own_facts largest limit min_next_dts u is =
    let a = test_none (length u.bytes == 0) Empty _ is in
    let b = test_none (nat_lt largest (length u.bytes + marks_size u.marks)) TooLarge _ a.1 in
    let c = test_none (nat_lt u.dts min_next_dts) TooSoon _ b.1 in
    let d = test_none (is_bad_pts limit u.dts u.pts) BadPts None c.1 in
    let e = or_false (nat_lt u.pts u.dts) (nat_lt (u.dts + limit) u.pts) d.0 in
    record {
      some = some_size (length u.bytes) a.0;
      most = not_lt largest (length u.bytes + marks_size u.marks) b.0;
      spaced = not_lt u.dts min_next_dts c.0;
      later = not_lt u.pts u.dts e.0;
      soon = not_lt (u.dts + limit) u.pts e.1;
    }

pub time_facts : (late : Bool) (dts : ℕ) → time_cause late dts ≡ None → (late ≡ false) × (dts ≤ 2 ^ 52)
unfolding time_cause
time_facts late dts is =
    let a = test_none late Late _ is in
    let b = test_none (nat_lt (2 ^ 52) dts) TooFar None a.1 in
    (a.0, not_lt (2 ^ 52) dts b.0)

packets_none : (a : Allowance) (over : Bool) → packets_cause a over ≡ None → over ≡ false
packets_none (Groups g most) over is = (test_none over Group None is).0
packets_none (Pace burst pace) over is = (test_none over OverPace None is).0

pub room_facts : (a : Allowance) (full over : Bool) → room_cause full (packets_cause a over) ≡ None → (full ≡ false) × (over ≡ false)
unfolding room_cause
room_facts a full over is = let b = test_none full Full (packets_cause a over) is in (b.0, packets_none a over b.1)

pub unit_is : (r : StreamParameters) (min_next_dts : ℕ) (late : Bool) (u : AccessUnit) →
    None ≡ or_cause (own_cause r.size r.pts_limit min_next_dts u) (time_cause late u.dts) → IsUnit r u
unit_is r min_next_dts late u is =
    let both = or_none (own_cause r.size r.pts_limit min_next_dts u) (time_cause late u.dts) (sym is) in
    let own = own_facts r.size r.pts_limit min_next_dts u both.0 in
    record { some = own.some; most = own.most; later = own.later; soon = own.soon; last = (time_facts late u.dts both.1).1 }

-- The unit fits into a PES packet of its stream.
greatest_most : (id : ℕ) → greatest_size id ≤ 4_000_000
greatest_most id = elim (cases_Bool (is_video id)) [ inl v ↦ rw v (omega arith) | inr o ↦ rw o (omega arith) ]

unit_fits : (r : StreamParameters) (u : AccessUnit) → ParametersInRange r → IsUnit r u → length u.bytes ≤ r.size →
    IsTrue (fits_packet r.stream_id (length u.bytes))
unit_fits r u rules unit most = search (rules, arith)

pub fits_unit : (r : StreamParameters) (u : AccessUnit) → ParametersInRange r → IsUnit r u → IsTrue (fits_packet r.stream_id (length u.bytes))
fits_unit r u rules unit = unit_fits r u rules unit (omega (arith, unit.most))

pub size_few : (r : StreamParameters) (u : AccessUnit) (header : ℕ) → ParametersInRange r → IsUnit r u → header ≤ 45 → 2 + (header + length u.bytes) < 2 ^ 63
size_few r u header rules unit few = omega (arith, few, unit.most, rules.size, greatest_most r.stream_id)

pub not_le : (a b : ℕ) → nat_le a b ≡ false → b < a
not_le a b is = elim (cases_lt b a) [
  | inl lt ↦ lt
  | inr le ↦ absurd (let t = le-leb a b le in let no : ⊥ = cc in no)
]

-- The queue computes the unit's DTS, its size, and the size of the field in front of it.
pub timed_is : (r s : StreamParameters) (u : AccessUnit) (d size front : ℕ) (header : List ℕ) → s ≡ r → d ≡ u.dts → front ≡ field_size (has_access u) →
    size ≡ length header + length u.bytes →
    header ≡ pes_header_bytes s.stream_id (length u.bytes) u.marks (u.pts + s.base0) (u.dts + s.base0) →
    record { dts = d; size = size; front = front } ≡ timed_by r u
unfolding pes_packet_bytes
timed_is r s u d size front header same due field parts is =
    rw (due, field, parts, is, same, length-append (pes_header_bytes r.stream_id (length u.bytes) u.marks (u.pts + r.base0) (u.dts + r.base0)) u.bytes) refl

pub room_is : (q : Queue) (slots : ℕ) (u : AccessUnit) (unit : PesPacket) (cause : Option FeedError) → unit ≡ timed_by q.parameters u →
    None ≡ or_cause (own_cause q.parameters.size q.parameters.pts_limit q.min_next_dts u) (time_cause (late_at q.parameters slots u.dts) u.dts) →
    cause ≡ room_cause (nat_le q.capacity (length q.units)) (packets_cause q.parameters.allowance (is_over_for q unit)) → cause ≡ state_cause slots q u
room_is q slots u unit cause timed none is = (rw timed at is) ∙ sym (or_rest _ _ _ none)

-- The entry that the queue keeps of an accepted unit.
pub queued_is : (r s : StreamParameters) (u : AccessUnit) (slot : ℕ) (header : List ℕ) → s ≡ r → slot ≡ release r.rate r.lead u.dts →
    header ≡ pes_header_bytes s.stream_id (length u.bytes) u.marks (u.pts + s.base0) (u.dts + s.base0) →
    record { release = slot; header = header; access = has_access u; bytes = u.bytes } ≡ queued r u
queued_is r s u slot header same a b = rw (a, b, same) refl

pub accepted_is : (q : Queue) (u : AccessUnit) (unit : PesPacket) (x : Queued) → unit ≡ timed_by q.parameters u → x ≡ queued q.parameters u →
    joined q unit x ≡ accepted q u
accepted_is q u unit x a b = rw (a, b) refl
