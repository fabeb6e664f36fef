use Rattle.std.proofs.Common.{◌≡◌, ℕ, ◌+◌, ◌*◌, ◌/◌, ◌%◌, ◌<◌, List, length, ap, sym, ◌∙◌}
use Rattle.own_slots.specs.Period.{per_period, position}
use Rattle.slot_plan.specs.declared.slot.Slot.{Slot}
use Rattle.slot_plan.specs.declared.slot.Item.{Item}
use Rattle.slot_plan.specs.Items.{marks}
use Rattle.plan_checker.proofs.own_positions.position.Goals as goal
use Rattle.plan_checker.proofs.OwnMarks.{position_split}

-- The position of own slot number i is a position in the first period, plus whole periods.
split : (item : Item) (slots : List Slot) (i count first period : ℕ) → period ≡ length slots → count ≡ per_period (marks item slots) →
    0 < per_period (marks item slots) → first ≡ position (marks item slots) (i % count) → first + i / count * period ≡ position (marks item slots) i
split item slots i count first period l e pos f =
    ap (λ (n : ℕ). first + i / count * n) l
    ∙ ap (λ (n : ℕ). n + i / count * length slots) f
    ∙ ap (λ (c : ℕ). position (marks item slots) (i % c) + i / c * length slots) e
    ∙ sym (position_split item slots i pos)

pub returns : goal.returns
returns c = split c.args.item c.args.slots.now c.args.number c.own_count-count.result c.own_slot.result c.len-period.result c.len-period.ensures
    c.own_count-count.ensures.count c.requires.owned c.own_slot.ensures.slot
