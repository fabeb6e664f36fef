use Rattle.std.proofs.Common.{inl, inr}
use Rattle.devices.specs.Devices.{Device, between}
use Rattle.tsview_cli.proofs.Viewed.{concluded}
use Rattle.tsview_cli.proofs.program.view_stream.Goals as goal

pub returns-in-Ok : goal.returns-in-Ok
returns-in-Ok g c =
    let input : Device = between (record { bytes = g.R.Read.remaining c.args.input.now; failed = g.R.Source.fault_count c.args.input.now })
    (record { bytes = g.R.Read.remaining c.view_input.new.input; failed = g.R.Source.fault_count c.view_input.new.input }) in
    let output : Device = between (record { bytes = g.W.Write.contents c.args.output.now; failed = g.W.Sink.fault_count c.args.output.now })
    (record { bytes = g.W.Write.contents c.view_input.new.output; failed = g.W.Sink.fault_count c.view_input.new.output }) in
    let faults : Device = between (record { bytes = g.E.Write.contents c.args.faults.now; failed = g.E.Sink.fault_count c.args.faults.now })
    (record { bytes = g.E.Write.contents c.conclude.new.faults; failed = g.E.Sink.fault_count c.conclude.new.faults }) in
    concluded c.args.request c.args.form input output faults c.in-Ok.seen _ c.in-Ok.ensures c.conclude.ensures

pub returns-in-Err : goal.returns-in-Err
returns-in-Err g c =
    inr (inl (record { halt = c.in-Err.halt; breaks = c.in-Err.ensures; reports = c.report_halt.ensures.reports; status_is = c.report_halt.ensures.status }))
