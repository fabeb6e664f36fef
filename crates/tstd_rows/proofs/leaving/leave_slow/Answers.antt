use Rattle.std.proofs.Common.{◌≡◌, ◌∙◌, ℕ, ◌+◌, ◌-◌, ◌*◌, ◌<◌, ◌≤◌, arith}
use Rattle.arrival.specs.declared.row.Row.{Row}
use Rattle.tstd_rows.proofs.EvenRows.{slow_left, slow_last, slow_wait_last}
use Rattle.tstd_rows.proofs.SoonRows.{rows_soon}
use Rattle.tstd_rows.proofs.leaving.leave_slow.Goals as goal
use Rattle.tstd_rows.proofs.leaving.leave_slow.Goals.{then-count-row, else-count-row}

-- The bytes that wait have not made up for the wait of the first byte.
waits : (c : goal.After-leaving_rows) → (j : ℕ) → j < c.multiples_below-count.result →
    j * (c.args.row.now.pace - c.args.step * c.args.row.now.parts) < (c.args.prev + 1) * c.args.row.now.parts - c.args.row.now.from
waits c = rw (c.saturating_sub-room.ensures, c.from.ensures, c.from-2.ensures, c.from-3.ensures, c.from-4.ensures) at c.multiples_below-count.ensures.below

-- If there are bytes that do not wait, the first has made up for the wait.
gains : (c : goal.After-leaving_rows) → c.multiples_below-count.result < c.args.row.now.bytes →
    (c.args.prev + 1) * c.args.row.now.parts - c.args.row.now.from ≤ c.multiples_below-count.result * (c.args.row.now.pace - c.args.step * c.args.row.now.parts)
gains c = rw (c.saturating_sub-room.ensures, c.from.ensures, c.from-2.ensures, c.from-3.ensures, c.from-4.ensures) at c.multiples_below-count.ensures.next

pub returns-clause-left : goal.returns-clause-left
returns-clause-left c =
    let row : Row = c.args.row.now in
    rw (c.leaving_rows.ensures.waiting, c.leaving_rows.ensures.free)
    (slow_left c.args.step c.args.prev row.from row.pace row.parts row.bytes c.multiples_below-count.result c.requires.timed.some c.requires.slow
    c.multiples_below-count.ensures.bound (waits c) (gains c))

pub returns-clause-last : goal.returns-clause-last
returns-clause-last c =
    let row : Row = c.args.row.now in
    c.leaving_rows.ensures.last ∙ elim c.if-count-row.branch [
      | then-count-row w ↦
          w.last-is ∙ rw (w.from-then-count-row.ensures, w.time.ensures.time)
          (slow_last c.args.step c.args.prev row.from row.pace row.parts row.bytes c.multiples_below-count.result c.requires.timed.some c.requires.slow
          w.if-count-row.true (waits c) (gains c w.if-count-row.true))
      | else-count-row w ↦
          let all : c.multiples_below-count.result ≡ row.bytes = omega (arith, w.if-count-row.false, c.multiples_below-count.ensures.bound) in
          w.last-is ∙ rw (w.from-else-count-row.ensures, w.from-else-count-row-2.ensures, all)
          (slow_wait_last c.args.step c.args.prev row.from row.pace row.parts row.bytes c.requires.timed.some c.requires.slow (rw all at (waits c)))
    ]

pub returns-clause-soon : goal.returns-clause-soon
returns-clause-soon c = λ latest low early.
    rows_soon c.args.step c.args.prev latest c.multiples_below-count.result c.args.row.now c.leaving_rows.result c.leaving_rows.ensures.waiting
    c.leaving_rows.ensures.free
    c.multiples_below-count.ensures.bound low early
