use Rattle.std.proofs.Common.{◌≡◌, ◌∙◌, sym, ℕ, ◌+◌, ◌-◌, ◌*◌, ◌/◌, ◌<◌, ◌≤◌, arith}
use Rattle.std.proofs.Math.Nat.{div-eq_of_lt}
use Rattle.std.proofs.lemmas.Nat.{le-div}
use Rattle.arrival.specs.declared.row.Row.{Row}
use Rattle.clock27.specs.Peak.{found}
use Rattle.tstd_rows.proofs.EvenRows.{slow_left, slow_last}
use Rattle.tstd_rows.proofs.MostFound.{row_most_slow}
use Rattle.tstd_rows.proofs.SoonRows.{rows_soon}
use Rattle.tstd_rows.proofs.leaving.leave_at_once.Goals as goal

none_waits : (gain room : ℕ) → (j : ℕ) → j < 0 → j * gain < room
none_waits gain room j below = absurd (omega (arith, below))

-- The first byte does not wait.
no_wait : (c : goal.After-leaving_rows) → (gain : ℕ) → (c.args.prev + 1) * c.args.row.now.parts - c.args.row.now.from ≤ 0 * gain
no_wait c gain = omega (arith, c.requires.after)

pub returns-clause-left : goal.returns-clause-left
returns-clause-left c =
    let row : Row = c.args.row.now in
    let gain : ℕ = row.pace - c.args.step * row.parts in
    rw (c.leaving_rows.ensures.waiting, c.leaving_rows.ensures.free)
    (slow_left c.args.step c.args.prev row.from row.pace row.parts row.bytes 0 c.requires.timed.some c.requires.slow (omega arith)
    (none_waits gain ((c.args.prev + 1) * row.parts - row.from)) (λ some. no_wait c gain))

pub returns-clause-last : goal.returns-clause-last
returns-clause-last c =
    let row : Row = c.args.row.now in
    let gain : ℕ = row.pace - c.args.step * row.parts in
    c.leaving_rows.ensures.last ∙ rw (c.from.ensures, c.time.ensures.time)
    (slow_last c.args.step c.args.prev row.from row.pace row.parts row.bytes 0 c.requires.timed.some c.requires.slow c.requires.bytes
    (none_waits gain ((c.args.prev + 1) * row.parts - row.from)) (no_wait c gain))

pub returns-clause-soon : goal.returns-clause-soon
returns-clause-soon c = λ latest low early.
    rows_soon c.args.step c.args.prev latest 0 c.args.row.now c.leaving_rows.result c.leaving_rows.ensures.waiting c.leaving_rows.ensures.free
    (omega arith) low early

-- A byte that comes when the byte before it has left finds none.
finds_none : (step prev time : ℕ) → 0 < step → prev ≤ time → found step prev time ≡ 1
finds_none step prev time some le =
    let e : prev - time ≡ 0 = omega (arith, le) in
    let none : (0 + (step - 1)) / step ≡ 0 = div-eq_of_lt (omega (arith, some)) in
    rw e (omega (arith, none))

pub returns-clause-most : goal.returns-clause-most
returns-clause-most c =
    let row : Row = c.args.row.now in
    let after : c.args.prev * row.parts ≤ row.from = omega (arith, c.requires.after) in
    sym (row_most_slow c.args.step c.args.prev row.from row.pace row.parts row.bytes c.requires.some c.requires.timed.some c.requires.slow c.requires.bytes)
    ∙ finds_none c.args.step c.args.prev (row.from / row.parts) c.requires.some (le-div c.args.prev row.from row.parts c.requires.timed.some after)
