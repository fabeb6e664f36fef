use Rattle.tstd.proofs.PassedBytes.{byte_passes}
use Rattle.tstd.proofs.payload_bytes.pass.Goals as goal

pub returns-in-Some-clause-passed : goal.returns-in-Some-clause-passed
returns-in-Some-clause-passed c = λ times.
    byte_passes c.args.multiplexing.now c.in-Some.queue c.arrive.new.self c.args.entered c.arrive.result times c.in-Some.is c.arrive.ensures.left
    c.arrive.ensures.state
