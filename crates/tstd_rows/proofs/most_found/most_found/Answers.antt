use Rattle.std.proofs.Common.{◌≡◌, ◌∙◌, ◌+◌, ◌*◌, ◌/◌, ◌≤◌, max, refl, arith}
use Rattle.arrival.specs.declared.row.Row.{Row}
use Rattle.tstd_rows.proofs.MostFound.{row_most_fast, row_most_slow}
use Rattle.tstd_rows.proofs.most_found.most_found.Goals as goal

pub returns-then-from : goal.returns-then-from
returns-then-from c =
    let row : Row = c.args.row.now in
    let e : row.from + 0 * row.pace ≡ row.from = omega arith in
    let first : c.max-first.result ≡ max (row.from / row.parts) c.args.prev = c.max-first.ensures ∙ rw (c.time.ensures.time, e) refl in
    let fast : row.pace ≤ c.args.step * row.parts = rw (c.from.ensures, c.from-2.ensures, c.from-3.ensures) at c.if-from.true in
    c.found.ensures ∙ rw (c.from-then-from.ensures, c.from-then-from-2.ensures, c.time-then-from.ensures.time)
    (row_most_fast c.args.step c.args.prev row.from row.pace row.parts row.bytes c.max-first.result c.requires.some c.requires.timed.some fast c.requires.bytes
    first)

pub returns-else-from : goal.returns-else-from
returns-else-from c =
    let row : Row = c.args.row.now in
    let e : row.from + 0 * row.pace ≡ row.from = omega arith in
    let slow : c.args.step * row.parts ≤ row.pace = omega (arith, rw (c.from.ensures, c.from-2.ensures, c.from-3.ensures) at c.if-from.false) in
    c.found-else-from.ensures ∙ rw (c.time-else-from.ensures.time, e)
    (row_most_slow c.args.step c.args.prev row.from row.pace row.parts row.bytes c.requires.some c.requires.timed.some slow c.requires.bytes)
