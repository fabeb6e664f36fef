use Rattle.std.proofs.Common.{◌≡◌, ◌∙◌, ◌+◌, ◌*◌, ◌/◌, ◌≤◌, max, arith}
use Rattle.arrival.specs.declared.row.Row.{Row}
use Rattle.tstd_rows.proofs.TableRows.{next_first, next_second, next_ended, next_left, end_first, end_second, end_ended, end_left}
use Rattle.tstd_rows.proofs.system_view.pass_bytes.Goals as goal

pub loop-j-preserved : goal.loop-j-preserved
loop-j-preserved c =
    let inv = c.loop-j.invariant in
    let row : Row = c.args.row.now in
    let j = c.loop-j.j in
    let time : c.time.result ≡ (row.from + j * row.pace) / row.parts = c.time.ensures.time in
    let early = c.time.ensures.bound in
    let short : c.loop-j.transport.queue.step ≤ 8589934592 = rw inv.step c.requires.in_time.slow in
    let short' : c.loop-j.system.queue.step ≤ 8589934592 = rw inv.system_step c.requires.in_time.system_slow in
    let left : c.in_ok-left.left ≡ max c.time.result c.loop-j.transport.queue.last + c.loop-j.transport.queue.step = c.in_ok-left.ensures.left in
    rw (c.in_ok-left.ensures.buffer, c.in_ok-arrive.ensures.buffer, c.in_ok-left.ensures.ended, c.in_ok-arrive.ensures.ended, left) (record {
      step = inv.step;
      system_step = inv.system_step;
      last = omega (arith, early, short, inv.last);
      left = omega (arith, early, short, short', inv.last, inv.left);
      longest_residence = omega (arith, inv.longest_residence);
      inner = omega (arith, inv.inner);
      transport = rw time (next_first c.loop-j.transport row.from row.pace row.parts row.bytes j c.loop-j-test.true) ∙ inv.transport;
      system = rw time (next_second c.loop-j.transport c.loop-j.system row.from row.pace row.parts row.bytes j c.loop-j-test.true) ∙ inv.system;
      transport_ended = rw time (next_ended c.loop-j.transport c.loop-j.ended.transport.items row.from row.pace row.parts row.bytes j c.loop-j-test.true)
          ∙ inv.transport_ended;
      system_ended =
          rw time (next_left c.loop-j.transport c.loop-j.system c.loop-j.ended.system.items row.from row.pace row.parts row.bytes j c.loop-j-test.true)
          ∙ inv.system_ended;
    })

pub returns-clause-passed : goal.returns-clause-passed
returns-clause-passed c =
    let row : Row = c.args.row.now in
    let inv = c.loop-j.invariant in
    let j = c.loop-j.j in
    let first = c.loop-j.transport in
    let second = c.loop-j.system in
    let ended = c.loop-j.ended in
    let end = c.loop-j-test.false in
    record {
      transport = end_first first row.from row.pace row.parts row.bytes j end ∙ inv.transport;
      system = end_second first second row.from row.pace row.parts row.bytes j end ∙ inv.system;
      transport_ended = end_ended first ended.transport.items row.from row.pace row.parts row.bytes j end ∙ inv.transport_ended;
      system_ended = end_left first second ended.system.items row.from row.pace row.parts row.bytes j end ∙ inv.system_ended;
    }
