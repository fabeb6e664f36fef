use Rattle.std.proofs.Common.{◌≡◌, ℕ, ◌+◌, ◌-◌, ◌<◌, Bool, false, List, length, get_or, ap, sym, ◌∙◌, subst, arith}
use Rattle.own_slots.specs.Work.{work_step, work_at}
use Rattle.own_slots.proofs.WorkLemmas.{work_begin, work_more}
use Rattle.slot_plan.specs.EmptySlots.{empty_slots}
use Rattle.slot_plan.specs.declared.slot.Slot.{Slot}
use Rattle.slot_plan.specs.declared.slot.Item.{Item}
use Rattle.slot_plan.specs.Items.{marks}
use Rattle.plan_checker.specs.declared.empties.EmptyWalk.{EmptyWalk}
use Rattle.plan_checker.specs.declared.empties.EmptySlots.{EmptySlots}
use Rattle.plan_checker.specs.EmptyWalks.{round_gap}
use Rattle.plan_checker.proofs.OwnMarks.{length_marks, mark_within}
use Rattle.plan_checker.proofs.EmptyWalks.{Walks, length-empty_slots, empty_at, walk_begins, walk_on, all_counted, first_found, back_found, gap_found}
use Rattle.plan_checker.proofs.empties.empty_slots.Goals as goal

pub loop-at-init : goal.loop-at-init
loop-at-init c = record {
  now = sym (work_begin c.args.rate c.args.drain c.args.start (marks c.args.item c.args.slots.now));
  bound = omega arith;
  walks = walk_begins (empty_slots c.args.rate c.args.drain c.args.start (marks c.args.item c.args.slots.now));
}

pub loop-at-preserved : goal.loop-at-preserved
loop-at-preserved c =
    let own_marks : List Bool = marks c.args.item c.args.slots.now in
    let E : List Bool = empty_slots c.args.rate c.args.drain c.args.start own_marks in
    let at : ℕ = c.loop-at.at in
    let within : c.loop-at.at < length (marks c.args.item c.args.slots.now) = omega (arith, length_marks c.args.item c.args.slots.now, c.loop-at-test.true) in
    let inside : c.loop-at.at < length (empty_slots c.args.rate c.args.drain c.args.start (marks c.args.item c.args.slots.now)) =
    omega (arith, within, length-empty_slots c.args.rate c.args.drain c.args.start (marks c.args.item c.args.slots.now)) in
    let mark : get_or (marks c.args.item c.args.slots.now) c.loop-at.at false ≡ c.owns-owns.result =
    mark_within c.args.item c.args.slots.now c.loop-at.at _ c.loop-at-test.true ∙ sym c.owns-owns.ensures in
    record {
      now = c.next_work-work.ensures.next
          ∙ ap (λ (w : ℕ). work_step c.args.rate c.args.drain w c.owns-owns.result) c.loop-at.invariant.now
          ∙ ap (work_step c.args.rate c.args.drain (work_at c.args.rate c.args.drain c.args.start own_marks at)) (sym mark)
          ∙ sym (work_more c.args.rate c.args.drain c.args.start own_marks at within);
      bound = omega (arith, c.next_work-work.ensures.bound, c.loop-at.invariant.bound);
      walks = subst (λ (w : EmptyWalk). Walks E (at + 1) w) (sym c.passed-walk.ensures)
          (walk_on E at c.loop-at.walk c.is_emptied.result inside
          (empty_at c.args.rate c.args.drain c.args.start own_marks at c.owns-owns.result c.loop-at.work within mark c.loop-at.invariant.now
          ∙ sym c.is_emptied.ensures)
          c.loop-at.invariant.walks);
    }

-- The walk has passed the whole period.
at_end : (rate drain start : ℕ) (item : Item) (slots : List Slot) (at : ℕ) (w : EmptyWalk) → at ≡ length slots →
    Walks (empty_slots rate drain start (marks item slots)) at w →
    Walks (empty_slots rate drain start (marks item slots)) (length (empty_slots rate drain start (marks item slots))) w
at_end rate drain start item slots at w e walks =
    let all : at ≡ length (empty_slots rate drain start (marks item slots)) =
    omega (arith, e, length_marks item slots, length-empty_slots rate drain start (marks item slots)) in
    subst (λ (n : ℕ). Walks (empty_slots rate drain start (marks item slots)) n w) all walks

period : (rate drain start : ℕ) (item : Item) (slots : List Slot) → length slots ≡ length (empty_slots rate drain start (marks item slots))
period rate drain start item slots = omega (arith, length_marks item slots, length-empty_slots rate drain start (marks item slots))

pub returns-clause-count : goal.returns-clause-count
returns-clause-count c =
    let e : c.loop-at.at ≡ length c.args.slots.now = omega arith in
    ap (λ (r : EmptySlots). r.count) c.rounded.ensures
    ∙ all_counted _ c.loop-at.walk
    (at_end c.args.rate c.args.drain c.args.start c.args.item c.args.slots.now c.loop-at.at c.loop-at.walk e c.loop-at.invariant.walks)

pub returns-clause-first : goal.returns-clause-first
returns-clause-first c =
    let e : c.loop-at.at ≡ length c.args.slots.now = omega arith in
    ap (λ (r : EmptySlots). r.first) c.rounded.ensures
    ∙ first_found _ c.loop-at.walk
    (at_end c.args.rate c.args.drain c.args.start c.args.item c.args.slots.now c.loop-at.at c.loop-at.walk e c.loop-at.invariant.walks)

pub returns-clause-back : goal.returns-clause-back
returns-clause-back c =
    let e : c.loop-at.at ≡ length c.args.slots.now = omega arith in
    ap (λ (r : EmptySlots). r.back) c.rounded.ensures
    ∙ ap (λ (n : ℕ). n - c.loop-at.walk.last) (period c.args.rate c.args.drain c.args.start c.args.item c.args.slots.now)
    ∙ back_found _ c.loop-at.walk
    (at_end c.args.rate c.args.drain c.args.start c.args.item c.args.slots.now c.loop-at.at c.loop-at.walk e c.loop-at.invariant.walks)

pub returns-clause-gap : goal.returns-clause-gap
returns-clause-gap c =
    let e : c.loop-at.at ≡ length c.args.slots.now = omega arith in
    ap (λ (r : EmptySlots). r.gap) c.rounded.ensures
    ∙ ap (round_gap c.loop-at.walk) (period c.args.rate c.args.drain c.args.start c.args.item c.args.slots.now)
    ∙ gap_found _ c.loop-at.walk
    (at_end c.args.rate c.args.drain c.args.start c.args.item c.args.slots.now c.loop-at.at c.loop-at.walk e c.loop-at.invariant.walks)
