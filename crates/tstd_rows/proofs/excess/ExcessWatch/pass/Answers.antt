use Rattle.std.proofs.Common.{◌∙◌, sym}
use Rattle.arrival.specs.declared.row.Row.{Row}
use Rattle.tstd_rows.proofs.ExcessBytes.{no_row_after, no_row_ended, room_row_after, room_row_ended}
use Rattle.tstd_rows.proofs.excess.ExcessWatch.pass.Goals as goal

pub returns-then-row-eq0-clause-ended : goal.returns-then-row-eq0-clause-ended
returns-then-row-eq0-clause-ended c =
    let row : Row = c.args.row.now in
    sym (no_row_ended c.args.step c.args.self.now.size c.args.prev c.args.self.now.under_way row.from row.pace row.parts row.bytes c.if-row-eq0.true)

pub returns-then-row-eq0-clause-under_way : goal.returns-then-row-eq0-clause-under_way
returns-then-row-eq0-clause-under_way c =
    let row : Row = c.args.row.now in
    no_row_after c.args.step c.args.self.now.size c.args.prev c.args.self.now.under_way row.from row.pace row.parts row.bytes c.if-row-eq0.true

pub returns-clause-ended : goal.returns-clause-ended
returns-clause-ended c =
    let row : Row = c.args.row.now in
    rw c.take.ensures.value
    (sym (room_row_ended c.args.step c.args.self.now.size c.args.prev c.args.self.now.under_way row.from row.pace row.parts row.bytes c.if-row-eq0.false
    c.requires.room))

pub returns-clause-under_way : goal.returns-clause-under_way
returns-clause-under_way c =
    let row : Row = c.args.row.now in
    c.take.ensures.after
    ∙ sym (room_row_after c.args.step c.args.self.now.size c.args.prev c.args.self.now.under_way row.from row.pace row.parts row.bytes c.if-row-eq0.false
    c.requires.room)
