use Rattle.std.proofs.Common.{sym, ◌∙◌}
use Rattle.dvb_tables.specs.EventInformation.{event_loop_of}
use Rattle.dvb_tables.proofs.EventLoops.{events_length}
use Rattle.dvb_tables.proofs.event_loop.EventLoop.byte_length.Goals as goal

pub returns-clause-value : goal.returns-clause-value
unfolding event_loop_of
returns-clause-value c = c.len.ensures.value ∙ sym (events_length c.args.self.now.bytes.items c.args.self.now.whole)
