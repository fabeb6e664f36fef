use Rattle.std.proofs.Common.{◌≡◌, sym, ◌+◌, ◌*◌, arith}
use Rattle.arrival.specs.declared.row.Row.{Row}
use Rattle.tstd_rows.proofs.ExcessBytes.{no_row_after, no_row_ended, over_ended, row_begins, row_grows}
use Rattle.tstd_rows.proofs.excess.ExcessWatch.grow.Goals as goal
use Rattle.tstd_rows.proofs.excess.ExcessWatch.grow.Goals.{in-None, in-Some}

pub returns-then-row-eq0-clause-ended : goal.returns-then-row-eq0-clause-ended
returns-then-row-eq0-clause-ended c =
    let row : Row = c.args.row.now in
    no_row_ended c.args.step c.args.self.now.size c.args.prev c.args.self.now.under_way row.from row.pace row.parts row.bytes c.if-row-eq0.true

pub returns-then-row-eq0-clause-under_way : goal.returns-then-row-eq0-clause-under_way
returns-then-row-eq0-clause-under_way c =
    let row : Row = c.args.row.now in
    no_row_after c.args.step c.args.self.now.size c.args.prev c.args.self.now.under_way row.from row.pace row.parts row.bytes c.if-row-eq0.true

pub returns-clause-ended : goal.returns-clause-ended
returns-clause-ended c = over_ended c.args.step c.args.self.now.size c.args.prev c.args.self.now.under_way _ c.requires.over

pub returns-clause-under_way : goal.returns-clause-under_way
returns-clause-under_way c =
    let row : Row = c.args.row.now in
    let e : row.from + 0 * row.pace ≡ row.from = omega arith in
    elim c.match-self.branch [
      | in-None w ↦
          rw (
            w.in-None.is,
            w.self-is,
            w.time.ensures.time,
            e,
            c.saturating_sub-end.ensures,
            c.from.ensures,
            c.from-2.ensures,
            c.saturating_sub.ensures,
            c.leave-last.ensures.last,
            c.most_found-most.ensures,
          )
          (sym (row_begins c.args.step c.args.self.now.size c.args.prev row.from row.pace row.parts row.bytes c.if-row-eq0.false c.requires.over))
      | in-Some w ↦
          rw (
            w.in-Some.is,
            w.self-is,
            w.max.ensures,
            c.saturating_sub-end.ensures,
            c.from.ensures,
            c.from-2.ensures,
            c.saturating_sub.ensures,
            c.leave-last.ensures.last,
            c.most_found-most.ensures,
          )
          (sym (row_grows c.args.step c.args.self.now.size c.args.prev w.in-Some.under_way row.from row.pace row.parts row.bytes c.if-row-eq0.false
          c.requires.over))
    ]
