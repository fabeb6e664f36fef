use Rattle.devices.specs.Devices.{Port, between}
use Rattle.tsair_cli.proofs.Unframing.{frames_done, no_piece}
use Rattle.tsair_cli.proofs.frame_passing.pass_frames.Goals as goal

pub returns-in_default : goal.returns-in_default
returns-in_default g c =
    let input : Port = record { bytes = g.R.Read.remaining c.args.input.now; failed = g.R.Source.fault_count c.args.input.now } in
    let output : Port = record { bytes = g.W.Write.contents c.args.output.now; failed = g.W.Sink.fault_count c.args.output.now } in
    let faults : Port = record { bytes = g.E.Write.contents c.args.faults.now; failed = g.E.Sink.fault_count c.args.faults.now } in
    let after : Port = record { bytes = g.E.Write.contents c.report_halt.new.faults; failed = g.E.Sink.fault_count c.report_halt.new.faults } in
    no_piece input output faults after c.report_halt.result c.report_halt.ensures.reports c.report_halt.ensures.status

pub returns : goal.returns
returns g c =
    let i0 : Port = record { bytes = g.R.Read.remaining c.args.input.now; failed = g.R.Source.fault_count c.args.input.now } in
    let i1 : Port = record { bytes = g.R.Read.remaining c.pass_pieces-passed.new.input; failed = g.R.Source.fault_count c.pass_pieces-passed.new.input } in
    let o0 : Port = record { bytes = g.W.Write.contents c.args.output.now; failed = g.W.Sink.fault_count c.args.output.now } in
    let o1 : Port = record { bytes = g.W.Write.contents c.pass_pieces-passed.new.output; failed = g.W.Sink.fault_count c.pass_pieces-passed.new.output } in
    let f0 : Port = record { bytes = g.E.Write.contents c.args.faults.now; failed = g.E.Sink.fault_count c.args.faults.now } in
    let f1 : Port = record { bytes = g.E.Write.contents c.pass_pieces-passed.new.faults; failed = g.E.Sink.fault_count c.pass_pieces-passed.new.faults } in
    let f2 : Port = record { bytes = g.E.Write.contents c.report_end-status.new.faults; failed = g.E.Sink.fault_count c.report_end-status.new.faults } in
    frames_done (between i0 i1) (between o0 o1) f0 f1 f2 c.pass_pieces-passed.new.feed c.pass_pieces-passed.result c.report_end-status.result
    c.pass_pieces-passed.ensures.passes
    c.report_end-status.ensures
