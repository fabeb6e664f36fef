use Rattle.ts_packet.proofs.Answering.{found, only}
use Rattle.ts_packet.proofs.packet_reading.read_packet.Goals as goal

pub returns-clause-found : goal.returns-clause-found
returns-clause-found c = found c.args.bytes.now c.packet_at.result c.fits-bytes c.told-bytes c.packet_at.ensures

pub returns-clause-only : goal.returns-clause-only
returns-clause-only c packet is = only c.args.bytes.now c.packet_at.result packet is c.packet_at.ensures
