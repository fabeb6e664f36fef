use Rattle.std.proofs.Common.{[], refl}
use Rattle.devices.specs.Devices.{Port}
use Rattle.job_run.proofs.reading.read_stream.Goals as goal

pub take_front-requires : goal.take_front-requires
take_front-requires g c = record { first = c.new-stream.ensures [] refl }

pub returns-in-Ok : goal.returns-in-Ok
returns-in-Ok g c =
    let first : Port = record { bytes = g.R.Read.remaining c.args.input.now; failed = g.R.Source.fault_count c.args.input.now } in
    c.take_rest.ensures first c.in-Ok.ensures
