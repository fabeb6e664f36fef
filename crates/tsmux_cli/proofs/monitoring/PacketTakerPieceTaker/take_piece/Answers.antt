use Rattle.tsmux_cli.proofs.Monitored.{takes_more}
use Rattle.tsmux_cli.proofs.monitoring.PacketTakerPieceTaker.take_piece.Goals as goal

pub returns-clause-taken : goal.returns-clause-taken
returns-clause-taken c first bytes whole before =
    takes_more first.monitor c.args.self.now.monitor c.take_packets.new.monitor bytes c.args.piece.now c.take_packets.result whole before
    c.take_packets.ensures.taken
