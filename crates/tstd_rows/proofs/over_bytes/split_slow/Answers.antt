use Rattle.std.proofs.Common.{ℕ, ◌+◌, ◌-◌, ◌*◌, ◌<◌, ◌≤◌}
use Rattle.arrival.specs.declared.row.Row.{Row}
use Rattle.tstd_rows.proofs.OverBytes.{slow_over, slow_room}
use Rattle.tstd_rows.proofs.over_bytes.split_slow.Goals as goal

over : (c : goal.After-split) → (j : ℕ) → j < c.multiples_below.result →
    j * (c.args.row.now.pace - c.args.step * c.args.row.now.parts)
    < c.args.prev * c.args.row.now.parts - (c.args.row.now.from + (c.args.size - 1) * c.args.step * c.args.row.now.parts)
over c = rw (c.saturating_sub-room.ensures, c.from-parts.ensures, c.from.ensures, c.from-2.ensures, c.from-3.ensures, c.from-4.ensures) at
    c.multiples_below.ensures.below

enough : (c : goal.After-split) → c.multiples_below.result < c.args.row.now.bytes →
    c.args.prev * c.args.row.now.parts - (c.args.row.now.from + (c.args.size - 1) * c.args.step * c.args.row.now.parts)
    ≤ c.multiples_below.result * (c.args.row.now.pace - c.args.step * c.args.row.now.parts)
enough c = rw (c.saturating_sub-room.ensures, c.from-parts.ensures, c.from.ensures, c.from-2.ensures, c.from-3.ensures, c.from-4.ensures) at
    c.multiples_below.ensures.next

pub returns-clause-first : goal.returns-clause-first
returns-clause-first c =
    let row : Row = c.args.row.now in
    rw c.split.ensures.first
    (slow_over c.args.step c.args.size c.args.prev row.from row.pace row.parts c.multiples_below.result c.requires.some c.requires.size
    c.requires.timed.some c.requires.slow (over c))

pub returns-clause-others : goal.returns-clause-others
returns-clause-others c =
    let row : Row = c.args.row.now in
    rw c.split.ensures.others
    (slow_room c.args.step c.args.size c.args.prev row.from row.pace row.parts c.multiples_below.result row.bytes c.split.result.prev
    c.requires.some c.requires.size c.requires.timed.some c.requires.slow (over c) (enough c) (rw c.split.ensures.first at c.split.ensures.last))
