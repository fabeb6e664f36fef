use Rattle.std.proofs.Common.{◌∙◌, sym}
use Rattle.devices.specs.Devices.{Device, between}
use Rattle.es_feed.proofs.EndedStreams.{last_out}
use Rattle.es_feed.proofs.passing.pass_last.Goals as goal

pub returns : goal.returns
returns g c = λ first came before by.
    let output : Device = between (record { bytes = g.W.Write.contents c.args.output.now; failed = g.W.Sink.fault_count c.args.output.now })
    (record { bytes = g.W.Write.contents c.pass_fed.new.output; failed = g.W.Sink.fault_count c.pass_fed.new.output }) in
    let faults : Device = between (record { bytes = g.E.Write.contents c.args.faults.now; failed = g.E.Sink.fault_count c.args.faults.now })
    (record { bytes = g.E.Write.contents c.pass_fed.new.faults; failed = g.E.Sink.fault_count c.pass_fed.new.faults }) in
    last_out first c.args.lines.now came c.args.stream before c.finish.new.fed.items c.deref.result.now output faults c.finish.result c.pass_fed.result
    c.deref.ensures.value (sym c.is_err.ensures.value ∙ c.if-is_err.false) by (c.finish.ensures first came before) c.pass_fed.ensures.goes
