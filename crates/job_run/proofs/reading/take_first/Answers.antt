use Rattle.std.proofs.Common.{◌≡◌, [], inl, length, take, refl, sym, subst, arith}
use Rattle.devices.specs.Devices.{Port}
use Rattle.job_run.specs.Streams.{IsRead}
use Rattle.job_run.proofs.Readings.{front_taken}
use Rattle.job_run.proofs.reading.take_first.Goals as goal

pub returns-in-Ok : goal.returns-in-Ok
returns-in-Ok g c =
    let old : Port = record { bytes = g.R.Read.remaining c.args.input.now; failed = g.R.Source.fault_count c.args.input.now } in
    let new : Port = record { bytes = g.R.Read.remaining c.read_piece.new.input; failed = g.R.Source.fault_count c.read_piece.new.input } in
    let so = c.in-Ok.ensures [] (inl refl) c.requires.first in
    front_taken old new c.read_piece.new.piece c.in_ok-size.size c.take.new.self c.has_ended.result
    (omega (arith, c.read_piece.auto.piece, c.requires.room)) c.in_ok-size.ensures so (c.has_ended.ensures (take c.in_ok-size.size c.read_piece.new.piece) so)
