use Rattle.devices.specs.Devices.{Port, between}
use Rattle.es_feed.proofs.EndedStreams.{end_fails, no_piece, pieces_fail, stream_ends}
use Rattle.es_feed.proofs.passing.pass_all.Goals as goal

pub returns-in_default : goal.returns-in_default
returns-in_default g c =
    let input : Port = record { bytes = g.R.Read.remaining c.args.input.now; failed = g.R.Source.fault_count c.args.input.now } in
    let output : Port = record { bytes = g.W.Write.contents c.args.output.now; failed = g.W.Sink.fault_count c.args.output.now } in
    let faults : Port = record { bytes = g.E.Write.contents c.args.faults.now; failed = g.E.Sink.fault_count c.args.faults.now } in
    no_piece c.args.feed c.args.pids.now input output faults

pub returns-in-Err : goal.returns-in-Err
returns-in-Err g c =
    pieces_fail c.args.feed c.args.pids.now
    (between (record { bytes = g.R.Read.remaining c.args.input.now; failed = g.R.Source.fault_count c.args.input.now })
    (record { bytes = g.R.Read.remaining c.pass_pieces.new.input; failed = g.R.Source.fault_count c.pass_pieces.new.input }))
    (between (record { bytes = g.W.Write.contents c.args.output.now; failed = g.W.Sink.fault_count c.args.output.now })
    (record { bytes = g.W.Write.contents c.pass_pieces.new.output; failed = g.W.Sink.fault_count c.pass_pieces.new.output }))
    (between (record { bytes = g.E.Write.contents c.args.faults.now; failed = g.E.Sink.fault_count c.args.faults.now })
    (record { bytes = g.E.Write.contents c.pass_pieces.new.faults; failed = g.E.Sink.fault_count c.pass_pieces.new.faults }))
    c.pass_pieces.new.stream c.pass_pieces.new.lines c.in-Err.halt (c.in-Err.ensures c.args.feed c.args.pids.now c.new-stream.ensures c.new-lines.ensures)

pub returns-in-Ok-pass_last : goal.returns-in-Ok-pass_last
returns-in-Ok-pass_last g c =
    let pieces = c.in-Ok-pass_pieces.ensures c.args.feed c.args.pids.now c.new-stream.ensures c.new-lines.ensures in
    let m = pieces.0 in
    stream_ends c.args.feed c.args.pids.now
    (between (record { bytes = g.R.Read.remaining c.args.input.now; failed = g.R.Source.fault_count c.args.input.now })
    (record { bytes = g.R.Read.remaining c.pass_pieces.new.input; failed = g.R.Source.fault_count c.pass_pieces.new.input }))
    (record { bytes = g.W.Write.contents c.args.output.now; failed = g.W.Sink.fault_count c.args.output.now })
    (record { bytes = g.W.Write.contents c.pass_pieces.new.output; failed = g.W.Sink.fault_count c.pass_pieces.new.output })
    (record { bytes = g.W.Write.contents c.pass_last.new.output; failed = g.W.Sink.fault_count c.pass_last.new.output })
    (record { bytes = g.E.Write.contents c.args.faults.now; failed = g.E.Sink.fault_count c.args.faults.now })
    (record { bytes = g.E.Write.contents c.pass_pieces.new.faults; failed = g.E.Sink.fault_count c.pass_pieces.new.faults })
    (record { bytes = g.E.Write.contents c.pass_last.new.faults; failed = g.E.Sink.fault_count c.pass_last.new.faults })
    c.in-Ok-pass_pieces.early c.in-Ok-pass_last.late c.is_faulty_pass.result c.pass_pieces.new.stream c.pass_pieces.new.lines m pieces.1 pieces.2
    (c.in-Ok-pass_last.ensures c.args.feed m.came m.fed m.by) c.is_faulty_pass.ensures

pub returns : goal.returns
returns g c =
    let pieces = c.in-Ok-pass_pieces.ensures c.args.feed c.args.pids.now c.new-stream.ensures c.new-lines.ensures in
    let m = pieces.0 in
    end_fails c.args.feed c.args.pids.now
    (between (record { bytes = g.R.Read.remaining c.args.input.now; failed = g.R.Source.fault_count c.args.input.now })
    (record { bytes = g.R.Read.remaining c.pass_pieces.new.input; failed = g.R.Source.fault_count c.pass_pieces.new.input }))
    (record { bytes = g.W.Write.contents c.args.output.now; failed = g.W.Sink.fault_count c.args.output.now })
    (record { bytes = g.W.Write.contents c.pass_pieces.new.output; failed = g.W.Sink.fault_count c.pass_pieces.new.output })
    (record { bytes = g.W.Write.contents c.pass_last.new.output; failed = g.W.Sink.fault_count c.pass_last.new.output })
    (record { bytes = g.E.Write.contents c.args.faults.now; failed = g.E.Sink.fault_count c.args.faults.now })
    (record { bytes = g.E.Write.contents c.pass_pieces.new.faults; failed = g.E.Sink.fault_count c.pass_pieces.new.faults })
    (record { bytes = g.E.Write.contents c.pass_last.new.faults; failed = g.E.Sink.fault_count c.pass_last.new.faults })
    c.in-Ok-pass_pieces.early c.pass_pieces.new.stream c.pass_pieces.new.lines c.in-Err-pass_last.halt m pieces.2
    (c.in-Err-pass_last.ensures c.args.feed m.came m.fed m.by)
