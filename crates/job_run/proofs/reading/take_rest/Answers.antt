use Rattle.std.proofs.Common.{ℕ, Bool, List, Ok, Result, append-nil, subst, sym}
use Rattle.devices.specs.Devices.{Port, between}
use Rattle.devices.specs.declared.halt.Halt.{Halt}
use Rattle.job_run.specs.Streams.{IsRead, ReadingView, ReadsStream, TakesFront}
use Rattle.job_run.proofs.Readings.{rest_read}
use Rattle.job_run.proofs.reading.take_rest.Goals as goal

pub returns-then-over : goal.returns-then-over
returns-then-over g c = λ first t.
    let mid : Port = record { bytes = g.R.Read.remaining c.args.input.now; failed = g.R.Source.fault_count c.args.input.now } in
    subst (λ (x : Bool). TakesFront (between first mid) c.args.stream (Ok x)) c.if-over.true t

pub take_input-read-requires-clause-start : goal.take_input-read-requires-clause-start
take_input-read-requires-clause-start g c = λ before long so. subst (λ (x : List ℕ). IsRead x c.args.stream) (sym (append-nil before)) so

pub returns : goal.returns
returns g c = λ first t.
    let mid : Port = record { bytes = g.R.Read.remaining c.args.input.now; failed = g.R.Source.fault_count c.args.input.now } in
    let new : Port = record { bytes = g.R.Read.remaining c.take_input-read.new.input; failed = g.R.Source.fault_count c.take_input-read.new.input } in
    subst (λ (x : Result ReadingView Halt). ReadsStream (between first new) x) (sym c.whole_stream.ensures)
    (rest_read first mid new c.args.stream c.take_input-read.new.taker c.take_input-read.result
    (subst (λ (x : Bool). TakesFront (between first mid) c.args.stream (Ok x)) c.if-over.false t) c.take_input-read.ensures)
