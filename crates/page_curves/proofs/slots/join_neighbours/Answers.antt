use Rattle.std.proofs.Common.{◌≡◌, ℕ, ◌*◌, ◌≤◌, length, subst, arith}
use Rattle.page_curves.proofs.Neighbours.{Joins, joins_all}
use Rattle.page_curves.proofs.slots.join_neighbours.Goals as goal

pub returns-clause-joined : goal.returns-clause-joined
returns-clause-joined c = λ slot.
    let half : length c.args.slots.now.items ≤ 2 * c.div_ceil-count.result = omega (arith, c.div_ceil-count.ensures, c.len.ensures, c.args.slots.now.ok) in
    let end : c.loop-slot.slot ≡ c.div_ceil-count.result = omega (arith, c.loop-slot-test.false, c.loop-slot.auto.slot-end) in
    rw c.truncate.ensures.items (joins_all c.loop-slot.slots.items c.args.slots.now.items c.div_ceil-count.result half
    (subst (λ (n : ℕ). Joins c.loop-slot.slots.items c.args.slots.now.items n) end c.loop-slot.invariant) slot)
