use Rattle.std.proofs.Common.{◌≡◌, ℕ, ◌+◌, ◌-◌, ◌*◌, ◌<◌, ◌≤◌, length, arith, ap, sym, ◌∙◌}
use Rattle.std.proofs.lemmas.Nat.{mul-le}
use Rattle.own_slots.specs.Period.{own, per_period, position}
use Rattle.own_slots.specs.Extremes.{greatest}
use Rattle.own_slots.proofs.Extremes.{greatest_none, greatest_more}
use Rattle.slot_plan.specs.Items.{marks}
use Rattle.clock27.proofs.MinMax.{max_is}
use Rattle.plan_checker.proofs.OwnMarks.{position_own, next_position, position_small}
use Rattle.switch_checker.proofs.SwitchGaps.{gap_after, walked_forward, before_end, gap_here}
use Rattle.switch_checker.proofs.across.greatest_gap_across.Goals as goal

pub loop-step-init : goal.loop-step-init
loop-step-init c = record {
  left = let e : c.args.row * c.own_count.result - c.args.row ≡ c.args.row * per_period (marks c.args.item c.args.first.now) - c.args.row + 0 =
      ap (λ (n : ℕ). c.args.row * n - c.args.row) c.own_count.ensures.count ∙ omega arith in
      c.position-before.ensures ∙ ap (position (marks c.args.item c.args.first.now)) e;
  reached = c.position-after.ensures;
  found = sym (greatest_none (gap_after (marks c.args.item c.args.first.now) (marks c.args.item c.args.second.now) c.args.row));
}

pub overflow_sub-end : goal.overflow_sub-end
overflow_sub-end c =
    omega (arith, c.slots_in-end.ensures, c.loop-step.invariant.left, before_end c.args.item c.args.first.now c.args.row c.loop-step.step c.requires.owned c.loop-step-test.true)

pub overflow_add-after : goal.overflow_add-after
overflow_add-after c = record {
  fits = omega (
    arith,
    c.loop-step.invariant.reached,
    position_small c.args.item c.args.second.now c.loop-step.step 32768 c.requires.next_owned c.requires.next_short (omega arith),
    end_small c.args.row (length c.args.first.now) c.requires.near c.requires.short,
    c.slots_in-end.ensures,
  );
}
  where
    end_small : (k n : ℕ) → k < 32768 → n ≤ 65536 → k * n ≤ 32768 * 65536
    end_small k n near short = mul-le k n 32768 65536 (omega arith) short

pub next_own_slot-before-requires-clause-own : goal.next_own_slot-before-requires-clause-own
next_own_slot-before-requires-clause-own c =
    ap (own (marks c.args.item c.args.first.now)) c.loop-step.invariant.left ∙ position_own c.args.item c.args.first.now _ c.requires.owned

pub next_own_slot-before-requires-clause-near : goal.next_own_slot-before-requires-clause-near
next_own_slot-before-requires-clause-near c = omega (
  arith,
  c.loop-step.invariant.left,
  before_end c.args.item c.args.first.now c.args.row c.loop-step.step c.requires.owned c.loop-step-test.true,
  mul-le c.args.row (length c.args.first.now) 32768 65536 (omega arith) c.requires.short,
)

pub next_own_slot-after-requires-clause-own : goal.next_own_slot-after-requires-clause-own
next_own_slot-after-requires-clause-own c =
    ap (own (marks c.args.item c.args.second.now)) c.loop-step.invariant.reached ∙ position_own c.args.item c.args.second.now _ c.requires.next_owned

pub next_own_slot-after-requires-clause-near : goal.next_own_slot-after-requires-clause-near
next_own_slot-after-requires-clause-near c = omega (
  arith,
  c.loop-step.invariant.reached,
  position_small c.args.item c.args.second.now c.loop-step.step 32768 c.requires.next_owned c.requires.next_short (omega arith),
)

pub loop-step-preserved : goal.loop-step-preserved
loop-step-preserved c = record {
  left = let e : c.args.row * per_period (marks c.args.item c.args.first.now) - c.args.row + c.loop-step.step + 1
      ≡ c.args.row * per_period (marks c.args.item c.args.first.now) - c.args.row + (c.loop-step.step + 1) = omega arith in
      c.next_own_slot-before.ensures ∙ next_position c.args.item c.args.first.now _ c.loop-step.before c.loop-step.invariant.left c.requires.owned
      ∙ ap (position (marks c.args.item c.args.first.now)) e;
  reached = c.next_own_slot-after.ensures ∙ next_position c.args.item c.args.second.now c.loop-step.step c.loop-step.after c.loop-step.invariant.reached
      c.requires.next_owned;
  found = omega (
    arith,
    c.max-greatest.ensures,
    c.loop-step.invariant.found,
    max_is c.loop-step.greatest (c.loop-step.after + (c.slots_in-end.result - c.loop-step.before)),
    c.slots_in-end.ensures,
    gap_here c.args.item c.args.first.now c.args.second.now c.args.row c.loop-step.step c.loop-step.before c.loop-step.after
        c.loop-step.invariant.left c.loop-step.invariant.reached c.requires.owned c.loop-step-test.true,
    greatest_more c.loop-step.step (gap_after (marks c.args.item c.args.first.now) (marks c.args.item c.args.second.now) c.args.row),
  );
}

pub returns : goal.returns
returns c =
    let e : c.loop-step.step ≡ c.args.row = omega arith in
    c.loop-step.invariant.found ∙ ap (λ (n : ℕ). greatest n (gap_after (marks c.args.item c.args.first.now) (marks c.args.item c.args.second.now) c.args.row)) e
    ∙ walked_forward (marks c.args.item c.args.first.now) (marks c.args.item c.args.second.now) c.args.row
