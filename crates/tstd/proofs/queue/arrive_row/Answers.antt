use Rattle.std.proofs.Common.{◌≡◌, ◌∙◌, ◌+◌, ◌*◌, ◌≤◌, arith, refl}
use Rattle.tstd.proofs.ByteRows.{row_step, row_pace, row_end}
use Rattle.tstd.proofs.queue.arrive_row.Goals as goal

pub loop-byte-preserved : goal.loop-byte-preserved
loop-byte-preserved c =
    let inv = c.loop-byte.invariant in
    let time : c.from.result * c.from-in-loop-byte.result ≡ c.loop-byte.byte * c.args.drain = rw (c.from.ensures, c.from-in-loop-byte.ensures) refl in
    let short : c.loop-byte.queue.step ≤ 72057594037927936 = rw inv.step c.requires.step in
    rw (c.arrive.ensures.state, time) (record {
      step = inv.step;
      last = row_pace c.loop-byte.byte c.args.drain c.loop-byte.queue.last c.loop-byte.queue.step c.requires.drain short inv.last;
      longest_residence = omega (arith, inv.longest_residence);
      state = row_step c.loop-byte.queue c.args.drain c.loop-byte.byte (c.args.from + c.args.count) c.loop-byte-test.true ∙ inv.state;
    })

pub returns-clause-state : goal.returns-clause-state
returns-clause-state c =
    row_end c.loop-byte.queue c.args.drain c.loop-byte.byte (c.args.from + c.args.count) c.loop-byte-test.false ∙ c.loop-byte.invariant.state
