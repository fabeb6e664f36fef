use Rattle.std.proofs.Common.{◌+◌, ◌*◌, ◌^◌, ◌≤◌, refl, arith}
use Rattle.arrival.specs.declared.row.Row.{Row}
use Rattle.tstd_rows.proofs.EvenRows.{length-row, last_soon}
use Rattle.tstd_rows.proofs.SoonRows.{raised, one_more}
use Rattle.tstd_rows.proofs.transport_buffer.TransportBuffer.enter_at_once.Goals as goal

pub returns-clause-buffer : goal.returns-clause-buffer
returns-clause-buffer c =
    let row : Row = c.args.row.now in
    rw (c.max-self.ensures, c.leave_at_once-leaving.ensures.most, c.leave_at_once-leaving.ensures.last, length-row row.from row.pace row.parts row.bytes) refl

pub returns-clause-paced : goal.returns-clause-paced
returns-clause-paced c =
    let row : Row = c.args.row.now in
    let last = last_soon c.args.self.now.step c.args.self.now.last row.from row.pace row.parts row.bytes (2 ^ 86 + 2 ^ 69) c.requires.timed.some
    c.requires.soon in
    record {
      some = c.requires.paced.some;
      slow = c.requires.paced.slow;
      few = c.requires.count;
      soon = rw c.leave_at_once-leaving.ensures.last (omega (arith, last, c.requires.paced.soon));
    }

pub returns-clause-soon : goal.returns-clause-soon
returns-clause-soon c = λ latest low early.
    let b = c.args.self.now in
    let row : Row = c.args.row.now in
    let high : row.from + row.bytes * row.pace ≤ (latest + b.bytes * b.step) * row.parts =
    raised latest (b.bytes * b.step) row.parts (row.from + row.bytes * row.pace) early in
    let last = last_soon b.step b.last row.from row.pace row.parts row.bytes (latest + b.bytes * b.step) c.requires.timed.some high in
    let rows = c.leave_at_once-leaving.ensures.soon (latest + b.bytes * b.step) low high in
    record {
      soon = rw c.leave_at_once-leaving.ensures.last (omega (arith, last, low));
      rows = record {
        waiting = one_more latest b.bytes row.bytes b.step c.leave_at_once-leaving.result.waiting.parts
            (c.leave_at_once-leaving.result.waiting.from + c.leave_at_once-leaving.result.waiting.bytes * c.leave_at_once-leaving.result.waiting.pace) rows.waiting;
        free = one_more latest b.bytes row.bytes b.step c.leave_at_once-leaving.result.free.parts
            (c.leave_at_once-leaving.result.free.from + c.leave_at_once-leaving.result.free.bytes * c.leave_at_once-leaving.result.free.pace) rows.free;
      };
    }
