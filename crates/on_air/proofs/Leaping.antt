-- The run follows records that leap, by the eighth record at the latest.
use Rattle.std.proofs.Common.{◌≡◌, ℕ, ◌+◌, ◌-◌, ◌<◌, ◌≤◌, Bool, true, false, List, [], ◌∷◌, length, Option, Some, None, refl, ap, ◌∙◌, cond, arith, inl, inr}
use Rattle.std.specs.Prelude.{nat_le, nat_lt, option_map}
use Rattle.std.proofs.lemmas.Bool.{and_parts, cases_Bool, leb-false, leb-true, ltb-true, lt-ltb}
use Rattle.pes_packet.specs.AccessUnits.{AccessUnit}
use Rattle.unit_queue.specs.declared.refusal.FeedError.{FeedError}
use Rattle.on_air.specs.declared.leap.Leap.{Leap}
use Rattle.on_air.specs.declared.refusals.AirRefusal.{AirRefusal}
use Rattle.on_air.specs.declared.refusals.AirRefusal.TheVariants.{Ahead, Followed, LineUp, Texts}
use Rattle.on_air.specs.declared.refusals.LineUpRefusal.{LineUpRefusal}
use Rattle.on_air.specs.declared.refusals.TextsRefusal.{TextsRefusal}
use Rattle.on_air.specs.declared.refusals.FarRecord.{FarRecord}
use Rattle.on_air.specs.Leaps.{is_followed, is_near, leap_with, leap_records}
use Rattle.on_air.specs.Airing.{Run, Air, is_tick, is_far_from, leap_by, leap_left, unit_refusal, air_cause, greatest_by, judged_by, aired, caught_up, on_to}
use Rattle.on_air.specs.Airing.{brings_line_up, brings_texts, line_up_refusal, far_record, fed_refusal, settled_at, slots_followed, taken_cause, texts_refusal}
use Rattle.on_air.specs.Laws.{NearEach, AllFar, LeapFollowed, LeapMovesOn}

-- ---- One record that is too far ahead

-- If too few records leap with the record, the run counts it.
counted : (run : Run) (a : Air) (entry : ℕ × AccessUnit) → is_far_from run a entry ≡ true → is_followed (leap_by run a entry) ≡ false →
    (aired run a entry).leap ≡ leap_by run a entry
unfolding judged_by leap_left
counted run a entry far few =
    let cause : air_cause run a entry ≡ Some (Ahead (far_record run a entry)) = rw (far, few) refl in
    ap (λ (o : Option AirRefusal). (caught_up run (judged_by run a entry o) o).leap) cause

-- If enough records leap with the record, the run follows them.
followed : (run : Run) (a : Air) (entry : ℕ × AccessUnit) → is_far_from run a entry ≡ true → is_followed (leap_by run a entry) ≡ true →
    (aired run a entry).greatest ≡ entry.1.dts
unfolding judged_by greatest_by
followed run a entry far many =
    let cause : air_cause run a entry ≡ Some (Followed a.slots a.greatest entry.1.dts) = rw (far, many) refl in
    ap (λ (o : Option AirRefusal). (caught_up run (judged_by run a entry o) o).greatest) cause

-- A near record adds 1 to the records of a leap.
one_more : (ahead due : ℕ) (leap : Leap) → leap.records < leap_records → is_near ahead leap.due due ≡ true → (leap_with ahead leap due).records ≡ leap.records
    + 1
one_more ahead due leap few near = rw (near, lt-ltb leap.records leap_records few) refl

-- A leap has at least one record.
some_records : (ahead due : ℕ) (leap : Leap) (near more : Bool) → is_near ahead leap.due due ≡ near → nat_lt leap.records leap_records ≡ more →
    1 ≤ (leap_with ahead leap due).records
some_records ahead due leap false more near is = rw near (omega arith)
some_records ahead due leap true true near is = rw (near, is) (omega arith)
some_records ahead due leap true false near is = rw (near, is) (omega arith)

not_many : (leap : Leap) → is_followed leap ≡ false → leap.records < leap_records
not_many leap less = leb-false leap_records leap.records less

-- ---- Several records in a row

-- After the record that the run follows, a record near it is not too far ahead.
none_after : (run : Run) (b : Air) (due : ℕ) (rest : List (ℕ × AccessUnit)) → b.greatest ≡ due → NearEach run.terms.ahead due rest → AllFar run b rest →
    length rest ≡ 0
unfolding NearEach AllFar
none_after run b due [] at near all = refl
none_after run b due (entry ∷ rest) at near all =
    let parts = and_parts (nat_le (due - entry.1.dts) run.terms.ahead) (nat_le (entry.1.dts - due) run.terms.ahead) near.0 in
    let close = leb-true (entry.1.dts - due) run.terms.ahead parts.1 in
    let far = ltb-true run.terms.ahead (entry.1.dts - b.greatest) all.0 in
    absurd (omega (arith, at, close, far))

-- A leap and the records after it that are too far ahead are together at most `leap_records`.
more_records : (run : Run) (a : Air) (rest : List (ℕ × AccessUnit)) → a.leap.records < leap_records → NearEach run.terms.ahead a.leap.due rest →
    AllFar run a rest →
    a.leap.records + length rest ≤ leap_records
unfolding NearEach AllFar
more_records run a [] few near all = omega (arith, few)
more_records run a (entry ∷ rest) few near all =
    let records = one_more run.terms.ahead entry.1.dts a.leap few near.0 in
    elim (cases_Bool (is_followed (leap_by run a entry))) [
      | inl many ↦
          let none = none_after run (aired run a entry) entry.1.dts rest (followed run a entry all.0 many) near.1 all.1 in
          omega (arith, none, few)
      | inr less ↦
          let leap = counted run a entry all.0 less in
          let count = ap (λ (l : Leap). l.records) leap ∙ records in
          let due : (aired run a entry).leap.due ≡ entry.1.dts = ap (λ (l : Leap). l.due) leap in
          let below = not_many (leap_by run a entry) less in
          let fewer : (aired run a entry).leap.records < leap_records = omega (arith, below, ap (λ (l : Leap). l.records) leap) in
          let others = more_records run (aired run a entry) rest fewer (rw due near.1) all.1 in
          omega (arith, others, count)
    ]

pub leap_followed : LeapFollowed
unfolding AllFar
leap_followed run a first rest near all = elim (cases_Bool (is_followed (leap_by run a first))) [
  | inl many ↦
      let none = none_after run (aired run a first) first.1.dts rest (followed run a first all.0 many) near all.1 in
      omega (arith, none)
  | inr less ↦
      let leap = counted run a first all.0 less in
      let some = some_records run.terms.ahead first.1.dts a.leap (is_near run.terms.ahead a.leap.due first.1.dts) (nat_lt a.leap.records leap_records) refl
      refl in
      let count = ap (λ (l : Leap). l.records) leap in
      let due : (aired run a first).leap.due ≡ first.1.dts = ap (λ (l : Leap). l.due) leap in
      let below = not_many (leap_by run a first) less in
      let fewer : (aired run a first).leap.records < leap_records = omega (arith, below, count) in
      let others = more_records run (aired run a first) rest fewer (rw due near) all.1 in
      omega (arith, others, count, some)
]

-- ---- The report on a record that the run follows

pub record ReportsLeap (far many : Bool) (slots greatest due packet from to : ℕ) : Type 0 where
  pub is_far : far ≡ true
  pub is_many : many ≡ true
  pub packet_is : packet ≡ slots
  pub from_is : from ≡ greatest
  pub to_is : to ≡ due

reported_by : (far many tick : Bool) (other : FarRecord) (rest : Option AirRefusal) (slots greatest due packet from to : ℕ) →
    (rest ≡ Some (Followed packet from to) → ⊥) →
    cond far (Some (cond many (Followed slots greatest due) (Ahead other))) (cond tick None rest) ≡ Some (Followed packet from to) →
    ReportsLeap far many slots greatest due packet from to
reported_by true true tick other rest slots greatest due packet from to never e = record { is_far = refl; is_many = refl; packet_is = cc; from_is = cc; to_is = cc }
reported_by true false tick other rest slots greatest due packet from to never e = absurd cc
reported_by false many true other rest slots greatest due packet from to never e = absurd cc
reported_by false many false other rest slots greatest due packet from to never e = absurd (never e)

-- A record that is not too far ahead is never followed.
not_reported : (brings other : Bool) (texts : Option TextsRefusal) (line_up : Option LineUpRefusal) (entry : ℕ × AccessUnit) (refused : Option FeedError)
    (packet from to : ℕ) →
    cond brings (option_map Texts texts) (cond other (option_map LineUp line_up) (option_map (fed_refusal entry) refused)) ≡ Some (Followed packet from to) → ⊥
not_reported true other None line_up entry refused packet from to e = cc
not_reported true other (Some r) line_up entry refused packet from to e = cc
not_reported false true texts None entry refused packet from to e = cc
not_reported false true texts (Some r) entry refused packet from to e = cc
not_reported false false texts line_up entry None packet from to e = cc
not_reported false false texts line_up entry (Some cause) packet from to e = cc

pub leap_reported : (run : Run) (a : Air) (entry : ℕ × AccessUnit) (packet from to : ℕ) → air_cause run a entry ≡ Some (Followed packet from to) →
    ReportsLeap (is_far_from run a entry) (is_followed (leap_by run a entry)) a.slots a.greatest entry.1.dts packet from to
leap_reported run a entry packet from to e =
    reported_by (is_far_from run a entry) (is_followed (leap_by run a entry)) (is_tick entry) (far_record run a entry) (taken_cause run a entry) a.slots
    a.greatest entry.1.dts packet from to
    (not_reported (brings_texts run entry) (brings_line_up run entry) (texts_refusal run a entry) (line_up_refusal run a entry) entry (unit_refusal run a entry)
    packet from to) e

pub leap_moves_on : LeapMovesOn
unfolding judged_by greatest_by slots_followed
leap_moves_on run a entry packet from to e =
    let reported = leap_reported run a entry packet from to e in
    let greatest : (aired run a entry).greatest ≡ to = ap (λ (o : Option AirRefusal). (caught_up run (judged_by run a entry o) o).greatest) e in
    let slots : (aired run a entry).slots ≡ on_to a.slots (settled_at run to) =
    ap (λ (o : Option AirRefusal). (caught_up run (judged_by run a entry o) o).slots) e in
    record {
      packet_is = reported.packet_is;
      from_is = reported.from_is;
      to_is = reported.to_is;
      greatest = greatest ∙ reported.to_is;
      slots = slots ∙ ap (λ (n : ℕ). on_to a.slots (settled_at run n)) reported.to_is;
    }
