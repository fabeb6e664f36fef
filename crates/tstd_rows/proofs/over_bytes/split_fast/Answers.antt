use Rattle.std.proofs.Common.{◌≡◌, ◌∙◌, ℕ, ◌+◌, ◌-◌, ◌*◌, ◌/◌, ◌<◌, ◌≤◌, max, refl, arith}
use Rattle.arrival.specs.declared.row.Row.{Row}
use Rattle.tstd_rows.proofs.OverBytes.{fast_room, fast_over}
use Rattle.tstd_rows.proofs.over_bytes.split_fast.Goals as goal

-- The first byte begins to leave at its arrival or when the byte before it has left, whichever is later.
first : (c : goal.After-split) → c.max-first.result ≡ max (c.args.row.now.from / c.args.row.now.parts) c.args.prev
first c =
    let e : c.args.row.now.from + 0 * c.args.row.now.pace ≡ c.args.row.now.from = omega arith in
    c.max-first.ensures ∙ rw (c.time.ensures.time, e) refl

room : (c : goal.After-split) → (j : ℕ) → j < c.multiples_below.result →
    j * (c.args.step * c.args.row.now.parts - c.args.row.now.pace)
    < c.args.row.now.from + (c.args.size - 1) * c.args.step * c.args.row.now.parts + 1 - c.max-first.result * c.args.row.now.parts
room c = rw (c.saturating_sub-room.ensures, c.from-parts.ensures, c.from.ensures, c.from-2.ensures, c.from-3.ensures, c.from-4.ensures) at
    c.multiples_below.ensures.below

enough : (c : goal.After-split) → c.multiples_below.result < c.args.row.now.bytes →
    c.args.row.now.from + (c.args.size - 1) * c.args.step * c.args.row.now.parts + 1 - c.max-first.result * c.args.row.now.parts
    ≤ c.multiples_below.result * (c.args.step * c.args.row.now.parts - c.args.row.now.pace)
enough c = rw (c.saturating_sub-room.ensures, c.from-parts.ensures, c.from.ensures, c.from-2.ensures, c.from-3.ensures, c.from-4.ensures) at
    c.multiples_below.ensures.next

pub returns-clause-first : goal.returns-clause-first
returns-clause-first c =
    let row : Row = c.args.row.now in
    rw c.split.ensures.first
    (fast_room c.args.step c.args.size c.args.prev row.from row.pace row.parts c.multiples_below.result c.max-first.result c.requires.some c.requires.size
    c.requires.timed.some c.requires.fast (first c) (room c))

pub returns-clause-others : goal.returns-clause-others
returns-clause-others c =
    let row : Row = c.args.row.now in
    rw c.split.ensures.others
    (fast_over c.args.step c.args.size c.args.prev row.from row.pace row.parts c.multiples_below.result row.bytes c.max-first.result c.split.result.prev
    c.requires.some c.requires.size c.requires.timed.some c.requires.fast (first c) (enough c) (rw c.split.ensures.first at c.split.ensures.last))
