use Rattle.std.proofs.Common.{◌≡◌, ℕ, ◌+◌, ◌-◌, length, arith, ap, sym, ◌∙◌}
use Rattle.own_slots.specs.Slots.{own_before}
use Rattle.own_slots.specs.Period.{own, position}
use Rattle.own_slots.specs.Extremes.{least}
use Rattle.own_slots.proofs.Extremes.{least_none}
use Rattle.slot_plan.specs.Items.{marks}
use Rattle.slot_plan.proofs.LeastGaps.{near_ahead, near_more, near_walk_law}
use Rattle.plan_checker.proofs.section_distances.least_gap.Goals as goal
use Rattle.clock27.proofs.MinMax.{min_is}
use Rattle.plan_checker.proofs.OwnMarks.{length_marks, own_before_none, position_ahead, position_own, position_near, one_ahead}
use Rattle.plan_checker.proofs.OwnWalks.{counted_over, foreign_from, near_over}

pub walk-init : goal.walk-init
walk-init c = record {
  within = omega arith;
  found = c.position-ahead.ensures ∙ sym (least_none (position (marks c.args.item c.args.slots.now) c.args.row) (near_ahead (marks c.args.item c.args.slots.now) c.args.row));
  next = let e : c.args.row ≡ own_before (own (marks c.args.item c.args.slots.now)) 0 + c.args.row =
      omega (arith, own_before_none c.args.item c.args.slots.now) in
      c.position-ahead.ensures ∙ ap (position (marks c.args.item c.args.slots.now)) e;
}

pub overflow_sub-ahead : goal.overflow_sub-ahead
overflow_sub-ahead c = omega (
  arith,
  c.walk.invariant.next,
  position_ahead c.args.item c.args.slots.now c.walk.at c.args.row (sym c.owns.ensures ∙ c.if-owns.true) c.requires.owned,
)

pub next_own_slot-ahead-requires-clause-own : goal.next_own_slot-ahead-requires-clause-own
next_own_slot-ahead-requires-clause-own c =
    ap (own (marks c.args.item c.args.slots.now)) c.walk.invariant.next ∙ position_own c.args.item c.args.slots.now _ c.requires.owned

pub next_own_slot-ahead-requires-clause-near : goal.next_own_slot-ahead-requires-clause-near
next_own_slot-ahead-requires-clause-near c = omega (
  arith,
  c.walk.invariant.next,
  position_near c.args.item c.args.slots.now c.walk.at c.args.row c.requires.owned c.requires.short c.requires.near c.walk.invariant.within,
)

pub walk-preserved-then-owns : goal.walk-preserved-then-owns
walk-preserved-then-owns c =
    let y = sym c.owns.ensures ∙ c.if-owns.true in
    record {
      within = omega (arith, c.next-at.ensures.within);
      found = omega (
        arith,
        c.min-least.ensures,
        min_is c.walk.least (c.walk.ahead - c.walk.at),
        c.walk.invariant.found,
        c.walk.invariant.next,
        near_more (marks c.args.item c.args.slots.now) c.args.row c.walk.at y,
        near_over c.args.item c.args.slots.now c.args.row (c.walk.at + 1) c.next-at.result c.next-at.ensures,
      );
      next = c.next_own_slot-ahead.ensures ∙ one_ahead c.args.item c.args.slots.now c.walk.at c.args.row c.walk.ahead y
          c.walk.invariant.next c.requires.owned
          ∙ sym (ap (λ (v : ℕ). position (marks c.args.item c.args.slots.now) (v + c.args.row))
          (counted_over c.args.item c.args.slots.now (c.walk.at + 1) c.next-at.result c.next-at.ensures));
    }

pub walk-preserved : goal.walk-preserved
walk-preserved c =
    let n = foreign_from c.args.item c.args.slots.now c.walk.at c.next-at-else-owns.result (sym c.owns.ensures ∙ c.if-owns.false) c.next-at-else-owns.ensures in
    record {
      within = omega (arith, n.within);
      found = c.walk.invariant.found ∙ sym (near_over c.args.item c.args.slots.now c.args.row c.walk.at c.next-at-else-owns.result n);
      next = c.walk.invariant.next
          ∙ sym (ap (λ (v : ℕ). position (marks c.args.item c.args.slots.now) (v + c.args.row))
          (counted_over c.args.item c.args.slots.now c.walk.at c.next-at-else-owns.result n));
    }

pub returns : goal.returns
returns c =
    let e : c.walk.at ≡ length (marks c.args.item c.args.slots.now) = omega (arith, length_marks c.args.item c.args.slots.now) in
    c.walk.invariant.found ∙ ap (λ (n : ℕ). least (position (marks c.args.item c.args.slots.now) c.args.row) n (near_ahead (marks c.args.item c.args.slots.now) c.args.row)) e
    ∙ near_walk_law (marks c.args.item c.args.slots.now) c.args.row c.requires.owned
