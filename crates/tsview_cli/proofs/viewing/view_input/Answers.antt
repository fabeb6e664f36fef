use Rattle.devices.specs.Devices.{Port}
use Rattle.tsview_cli.proofs.Viewed.{none_seen}
use Rattle.tsview_cli.proofs.viewing.view_input.Goals as goal

pub returns-in-Err : goal.returns-in-Err
returns-in-Err g c =
    let input : Port = record { bytes = g.R.Read.remaining c.args.input.now; failed = g.R.Source.fault_count c.args.input.now } in
    let output : Port = record { bytes = g.W.Write.contents c.args.output.now; failed = g.W.Sink.fault_count c.args.output.now } in
    none_seen c.args.request c.args.form input output c.in-Err.halt c.in-Err.ensures.err

pub returns : goal.returns
returns g c = c.view_whole-result.ensures c.args.request c.new-stream.ensures.view c.rate_of-rate.ensures
