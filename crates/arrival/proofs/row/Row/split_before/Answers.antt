use Rattle.std.proofs.Common.{◌+◌, ◌-◌, ◌*◌, ◌<◌, ◌≤◌, arith}
use Rattle.arrival.specs.declared.row.Row.{Row}
use Rattle.arrival.proofs.Rows.{all_before, all_after}
use Rattle.arrival.proofs.row.Row.split_before.Goals as goal

pub returns-clause-before : goal.returns-clause-before
returns-clause-before c =
    let row : Row = c.args.self.now in
    rw c.split_at.ensures.first
    (all_before c.args.moment row.from row.pace row.parts c.multiples_below.result c.requires.timed.some
    (rw (c.saturating_sub-room.ensures, c.from.ensures, c.from-2.ensures) at c.multiples_below.ensures.below))

-- If bytes remain, the first of them arrives no earlier than the moment.
reached : (c : goal.After-split_at) → c.multiples_below.result < c.args.self.now.bytes →
    c.args.moment * c.args.self.now.parts - c.args.self.now.from ≤ c.multiples_below.result * c.args.self.now.pace
reached c = rw (c.saturating_sub-room.ensures, c.from.ensures, c.from-2.ensures) at c.multiples_below.ensures.next

pub returns-clause-after : goal.returns-clause-after
returns-clause-after c =
    let row : Row = c.args.self.now in
    rw c.split_at.ensures.others
    (all_after c.args.moment (row.from + c.multiples_below.result * row.pace) row.pace row.parts (row.bytes - c.multiples_below.result) c.requires.timed.some
    (λ more. omega (arith, reached c (omega (arith, more)))))
