use Rattle.monitor.proofs.TakenPackets.{takes_one}
use Rattle.monitor.proofs.monitor.Monitor.take.Goals as goal

pub returns : goal.returns
returns g c = takes_one c.take_next.result c.args.bytes.now c.args.self.now c.take_next.new.self c.take_next.ensures
