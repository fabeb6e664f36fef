use Rattle.packet_times.proofs.Fields.{without_field}
use Rattle.packet_times.proofs.packet_queue.reference_in.Goals as goal

pub returns-then-is_plain-clause-value : goal.returns-then-is_plain-clause-value
returns-then-is_plain-clause-value c = without_field c.args.clock c.args.index c.args.bytes.now (c.is_plain.ensures c.if-is_plain.true)
