use Rattle.std.proofs.Common.{◌≡◌, ◌∙◌, ◌+◌, ◌*◌, ◌/◌, ◌≤◌, max, refl, arith}
use Rattle.std.proofs.Math.Nat.{div-le_of_le-mul}
use Rattle.arrival.specs.declared.row.Row.{Row}
use Rattle.tstd_rows.specs.Buffers.{free_row}
use Rattle.tstd_rows.proofs.EvenRows.{no_bytes, fast_left, fast_last}
use Rattle.tstd_rows.proofs.SoonRows.{rows_soon}
use Rattle.tstd_rows.proofs.leaving.leave_fast.Goals as goal

-- The first byte begins to leave at its arrival or when the byte before it has left, whichever is later.
first : (c : goal.After-leaving_rows) → c.max-first.result ≡ max (c.args.row.now.from / c.args.row.now.parts) c.args.prev
first c =
    let e : c.args.row.now.from + 0 * c.args.row.now.pace ≡ c.args.row.now.from = omega arith in
    c.max-first.ensures ∙ rw (c.time.ensures.time, e) refl

pub returns-clause-left : goal.returns-clause-left
returns-clause-left c =
    let row : Row = c.args.row.now in
    rw (c.leaving_rows.ensures.waiting, c.leaving_rows.ensures.free)
    (fast_left c.args.step c.args.prev row.from row.pace row.parts row.bytes c.max-first.result _ c.requires.bytes c.requires.timed.some c.requires.fast
    (first c)
    (no_bytes (free_row c.args.step row row.bytes).from row.pace row.parts row.bytes))

pub returns-clause-last : goal.returns-clause-last
returns-clause-last c =
    let row : Row = c.args.row.now in
    rw (c.leaving_rows.ensures.last, c.from.ensures, c.from-2.ensures)
    (fast_last c.args.step c.args.prev row.from row.pace row.parts row.bytes c.max-first.result c.requires.bytes c.requires.timed.some c.requires.fast
    (first c))

pub returns-clause-soon : goal.returns-clause-soon
returns-clause-soon c = λ latest low early.
    let row : Row = c.args.row.now in
    let here : row.from / row.parts ≤ latest = div-le_of_le-mul row.parts (omega (arith, early)) in
    let same : row.bytes ≤ row.bytes = omega arith in
    rows_soon c.args.step c.max-first.result latest row.bytes row c.leaving_rows.result c.leaving_rows.ensures.waiting c.leaving_rows.ensures.free same
    (rw (first c) (omega (arith, here, low))) early
