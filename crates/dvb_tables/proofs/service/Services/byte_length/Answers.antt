use Rattle.std.proofs.Common.{sym}
use Rattle.dvb_tables.specs.Services.{services_of}
use Rattle.dvb_tables.proofs.ServiceLoops.{services_length}
use Rattle.dvb_tables.proofs.service.Services.byte_length.Goals as goal

pub returns : goal.returns
unfolding services_of
returns c = sym (services_length c.args.self.now.bytes.now c.args.self.now.whole)
