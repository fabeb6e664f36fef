use Rattle.std.proofs.Common.{◌+◌, ◌^◌}
use Rattle.arrival.specs.declared.row.Row.{Row}
use Rattle.tstd_rows.proofs.EvenRows.{no_row_last, last_soon}
use Rattle.tstd_rows.proofs.SoonRows.{parts_soon}
use Rattle.tstd_rows.proofs.over_bytes.split.Goals as goal

pub returns-then-count-eq0-clause-last : goal.returns-then-count-eq0-clause-last
returns-then-count-eq0-clause-last c =
    let row : Row = c.args.row.now in
    rw c.split_at.ensures.first (no_row_last c.args.step c.args.prev row.from row.pace row.parts c.args.count c.if-count-eq0.true)

pub returns-else-count-eq0-clause-soon : goal.returns-else-count-eq0-clause-soon
returns-else-count-eq0-clause-soon c =
    let first : Row = c.split_at.result.0 in
    rw c.leave.ensures.last
    (last_soon c.args.step c.args.prev first.from first.pace first.parts first.bytes (2 ^ 86 + 2 ^ 69) c.split_at.ensures.timed.0.some
    (rw c.split_at.ensures.first (parts_soon c.args.row.now c.args.count c.requires.count c.requires.soon).0))

pub leave-requires-clause-soon : goal.leave-requires-clause-soon
leave-requires-clause-soon c = rw c.split_at.ensures.first (parts_soon c.args.row.now c.args.count c.requires.count c.requires.soon).0

pub returns-then-count-eq0-clause-early : goal.returns-then-count-eq0-clause-early
returns-then-count-eq0-clause-early c =
    rw (c.split_at.ensures.first, c.split_at.ensures.others) (parts_soon c.args.row.now c.args.count c.requires.count c.requires.soon)

pub returns-else-count-eq0-clause-early : goal.returns-else-count-eq0-clause-early
returns-else-count-eq0-clause-early c =
    rw (c.split_at.ensures.first, c.split_at.ensures.others) (parts_soon c.args.row.now c.args.count c.requires.count c.requires.soon)
