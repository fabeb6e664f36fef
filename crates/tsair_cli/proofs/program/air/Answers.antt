use Rattle.std.specs.Prelude.{option_map}
use Rattle.devices.specs.Devices.{Device, Port, between}
use Rattle.tsair_cli.specs.States.{saving_of}
use Rattle.tsair_cli.proofs.AirRuns.{end_failed, records_failed, run_ended}
use Rattle.tsair_cli.proofs.program.air.Goals as goal

pub returns-in-Err : goal.returns-in-Err
returns-in-Err g c = λ run h.
    let input : Device = between (record { bytes = g.R.Read.remaining c.args.input.now; failed = g.R.Source.fault_count c.args.input.now })
    (record { bytes = g.R.Read.remaining c.hear_all.new.input; failed = g.R.Source.fault_count c.hear_all.new.input }) in
    let begin : Port = record { bytes = g.W.Write.contents c.args.output.now; failed = g.W.Sink.fault_count c.args.output.now } in
    let mid : Port = record { bytes = g.W.Write.contents c.hear_all.new.output; failed = g.W.Sink.fault_count c.hear_all.new.output } in
    let before : Port = record { bytes = g.E.Write.contents c.args.faults.now; failed = g.E.Sink.fault_count c.args.faults.now } in
    let so_far : Port = record { bytes = g.E.Write.contents c.hear_all.new.faults; failed = g.E.Sink.fault_count c.hear_all.new.faults } in
    let after : Port = record { bytes = g.E.Write.contents c.report_halt.new.faults; failed = g.E.Sink.fault_count c.report_halt.new.faults } in
    records_failed (saving_of (g.F.OutputFiles.creates c.args.files.now) (g.F.OutputFiles.keeps c.args.files.now) (option_map (λ s. s.now) c.args.asked.state))
    c.args.asked.options run input (between begin mid) before so_far after c.in-Err.field-0.sent _ (c.in-Err.ensures run begin.bytes h)
    c.report_halt.ensures.reports
    c.report_halt.ensures.status

pub returns-in-Ok-end : goal.returns-in-Ok-end
returns-in-Ok-end g c = λ run h.
    let input : Device = between (record { bytes = g.R.Read.remaining c.args.input.now; failed = g.R.Source.fault_count c.args.input.now })
    (record { bytes = g.R.Read.remaining c.hear_all.new.input; failed = g.R.Source.fault_count c.hear_all.new.input }) in
    let begin : Port = record { bytes = g.W.Write.contents c.args.output.now; failed = g.W.Sink.fault_count c.args.output.now } in
    let mid : Port = record { bytes = g.W.Write.contents c.hear_all.new.output; failed = g.W.Sink.fault_count c.hear_all.new.output } in
    let end : Port = record { bytes = g.W.Write.contents c.end.new.to; failed = g.W.Sink.fault_count c.end.new.to } in
    let before : Port = record { bytes = g.E.Write.contents c.args.faults.now; failed = g.E.Sink.fault_count c.args.faults.now } in
    let so_far : Port = record { bytes = g.E.Write.contents c.hear_all.new.faults; failed = g.E.Sink.fault_count c.hear_all.new.faults } in
    let after : Port = record { bytes = g.E.Write.contents c.report_end.new.faults; failed = g.E.Sink.fault_count c.report_end.new.faults } in
    let e = c.in-Ok.ensures run begin.bytes h in
    run_ended (saving_of (g.F.OutputFiles.creates c.args.files.now) (g.F.OutputFiles.keeps c.args.files.now) (option_map (λ s. s.now) c.args.asked.state))
    c.args.asked.options run input begin mid end before so_far after c.in-Ok.end c.hear_all.new.on_air c.end.new.self c.records.result _ e
    (c.in-Ok-end.ensures.ok e.airs.came.run e.airs.came.air begin.bytes e.state) c.in-Ok-end.ensures.out c.in-Ok-end.ensures.clean c.records.ensures c.report_end.ensures.report
    c.report_end.ensures.status

pub returns-in-Err-end : goal.returns-in-Err-end
returns-in-Err-end g c = λ run h.
    let input : Device = between (record { bytes = g.R.Read.remaining c.args.input.now; failed = g.R.Source.fault_count c.args.input.now })
    (record { bytes = g.R.Read.remaining c.hear_all.new.input; failed = g.R.Source.fault_count c.hear_all.new.input }) in
    let begin : Port = record { bytes = g.W.Write.contents c.args.output.now; failed = g.W.Sink.fault_count c.args.output.now } in
    let mid : Port = record { bytes = g.W.Write.contents c.hear_all.new.output; failed = g.W.Sink.fault_count c.hear_all.new.output } in
    let end : Port = record { bytes = g.W.Write.contents c.end.new.to; failed = g.W.Sink.fault_count c.end.new.to } in
    let before : Port = record { bytes = g.E.Write.contents c.args.faults.now; failed = g.E.Sink.fault_count c.args.faults.now } in
    let so_far : Port = record { bytes = g.E.Write.contents c.hear_all.new.faults; failed = g.E.Sink.fault_count c.hear_all.new.faults } in
    let after : Port =
    record { bytes = g.E.Write.contents c.report_halt-in-Err-end.new.faults; failed = g.E.Sink.fault_count c.report_halt-in-Err-end.new.faults } in
    let e = c.in-Ok.ensures run begin.bytes h in
    end_failed (saving_of (g.F.OutputFiles.creates c.args.files.now) (g.F.OutputFiles.keeps c.args.files.now) (option_map (λ s. s.now) c.args.asked.state))
    c.args.asked.options run input begin mid end before so_far after c.in-Ok.end c.hear_all.new.on_air c.in-Err-end.field-0.sent _ e
    (c.in-Err-end.ensures.err e.airs.came.run e.airs.came.air begin.bytes e.state) c.in-Err-end.ensures.fault c.report_halt-in-Err-end.ensures.reports
    c.report_halt-in-Err-end.ensures.status
