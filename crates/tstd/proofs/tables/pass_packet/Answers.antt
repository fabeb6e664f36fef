use Rattle.std.proofs.Common.{◌≡◌, ◌∙◌, ◌+◌, ◌*◌, ◌≤◌, max, refl, arith}
use Rattle.tstd.proofs.ByteRows.{row_step, row_end}
use Rattle.tstd.proofs.TablePackets.{pass_step, pass_pace, pass_end}
use Rattle.tstd.proofs.tables.pass_packet.Goals as goal

pub loop-byte-preserved : goal.loop-byte-preserved
loop-byte-preserved c =
    let inv = c.loop-byte.invariant in
    let byte = c.loop-byte.byte in
    let end = c.args.from + 188 in
    let time : c.from.result * 2000000 ≡ byte * 2000000 = rw c.from.ensures refl in
    let short : c.loop-byte.transport.step ≤ 8589934592 = rw inv.step c.requires.transport in
    let short' : c.loop-byte.system.step ≤ 8589934592 = rw inv.system_step c.requires.system in
    let pace = pass_pace byte c.loop-byte.transport.last c.loop-byte.transport.step short inv.last in
    let left : c.arrive-left.result ≡ max (byte * 2000000) c.loop-byte.transport.last + c.loop-byte.transport.step = rw time at c.arrive-left.ensures.left in
    rw (c.arrive-left.ensures.state, c.arrive.ensures.state, left, time) (record {
      step = inv.step;
      system_step = inv.system_step;
      last = pace;
      left = omega (arith, pace, short', inv.left);
      longest_residence = omega (arith, inv.longest_residence);
      inner = omega (arith, inv.inner);
      transport = row_step c.loop-byte.transport 2000000 byte end c.loop-byte-test.true ∙ inv.transport;
      system = pass_step c.loop-byte.transport c.loop-byte.system byte end c.loop-byte-test.true ∙ inv.system;
    })

pub returns-clause-transport : goal.returns-clause-transport
returns-clause-transport c =
    row_end c.loop-byte.transport 2000000 c.loop-byte.byte (c.args.from + 188) c.loop-byte-test.false ∙ c.loop-byte.invariant.transport

pub returns-clause-system : goal.returns-clause-system
returns-clause-system c =
    pass_end c.loop-byte.transport c.loop-byte.system c.loop-byte.byte (c.args.from + 188) c.loop-byte-test.false ∙ c.loop-byte.invariant.system
