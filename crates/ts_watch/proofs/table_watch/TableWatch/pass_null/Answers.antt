use Rattle.std.proofs.Common.{sym}
use Rattle.ts_packet.specs.Packets.{null_packet}
use Rattle.ts_watch.specs.TableEvents.{TablesState}
use Rattle.ts_watch.proofs.TablePackets.{null_events, null_passed, taken_takes}
use Rattle.ts_watch.proofs.table_watch.TableWatch.pass_null.Goals as goal

pub invariant_of-self : goal.invariant_of-self
invariant_of-self c = rw c.skip.ensures.taken (taken_takes c.self.inside.demux null_packet c.self.invariant)

pub returns-clause-tables : goal.returns-clause-tables
returns-clause-tables c = λ options.
    let t : TablesState = record { demux = c.self.inside.demux; times = c.self.inside.times; named = c.self.inside.named } in
    rw (sym c.self.view_is) (null_passed options t c.skip.new.self c.self.invariant c.skip.ensures.taken)

pub returns-clause-found : goal.returns-clause-found
returns-clause-found c = λ options.
    let t : TablesState = record { demux = c.self.inside.demux; times = c.self.inside.times; named = c.self.inside.named } in
    rw (sym c.self.view_is) (null_events options t c.self.invariant)
