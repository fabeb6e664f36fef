use Rattle.std.proofs.Common.{◌∙◌}
use Rattle.packet_sync.proofs.FrontBytes.{other_front}
use Rattle.packet_sync.proofs.packet_sizes.other_packets.Goals as goal

pub returns-clause-front : goal.returns-clause-front
returns-clause-front c = λ more long. c.packets_at_front.ensures ∙ other_front c.args.bytes.now more long
