use Rattle.std.proofs.Common.{rules, ◌≡◌, ◌+◌, true, false, refl, arith, string_bytes}
use Rattle.analysis.specs.Analysis.{is_crowded}
use Rattle.devices.specs.Devices.{Port, between}
use Rattle.devices.proofs.TakenInput.{TakesFront, front_none}
use Rattle.devices.specs.declared.halt.Halt.{Halt}
use Rattle.tsview_cli.specs.Viewing.{Breaks, Seen, StopsNext}
use Rattle.tsview_cli.proofs.Pieces.{crowds, end_broken, if_ok, if_whole, is_stopped, next_stopped, not_stopped, read_end, read_more, read_stopped, seen_none, too_long}
use Rattle.tsview_cli.proofs.viewing.view_pieces.Goals as goal

pub loop-size-init : goal.loop-size-init
loop-size-init g c =
    let input : Port = record { bytes = g.R.Read.remaining c.args.input.now; failed = g.R.Source.fault_count c.args.input.now } in
    let output : Port = record { bytes = g.W.Write.contents c.args.output.now; failed = g.W.Sink.fault_count c.args.output.now } in
    record {
      room = refl;
      none = c.requires.text;
      calm = λ whole. c.requires.calm;
      front = λ s k. front_none (Seen c.args.form s (between output output) c.args.stream.now) 1 input (seen_none c.args.form s c.args.stream.now output k);
    }

pub loop-size-preserved : goal.loop-size-preserved
loop-size-preserved g c =
    let old : Port = record { bytes = g.R.Read.remaining c.args.input.now; failed = g.R.Source.fault_count c.args.input.now } in
    let mid : Port = record { bytes = g.R.Read.remaining c.loop-size.input; failed = g.R.Source.fault_count c.loop-size.input } in
    let new : Port = record { bytes = g.R.Read.remaining c.view_next.new.input; failed = g.R.Source.fault_count c.view_next.new.input } in
    let begin : Port = record { bytes = g.W.Write.contents c.args.output.now; failed = g.W.Sink.fault_count c.args.output.now } in
    let middle : Port = record { bytes = g.W.Write.contents c.loop-size.output; failed = g.W.Sink.fault_count c.loop-size.output } in
    let end : Port = record { bytes = g.W.Write.contents c.write_settled.new.output; failed = g.W.Sink.fault_count c.write_settled.new.output } in
    let goes : c.stops.result ≡ false = search rules in
    record {
      room = search rules;
      none = c.in-Ok.ensures.empty;
      calm = not_stopped (c.loop-size.size + c.in_ok-n.n) (is_crowded c.view_next.new.stream.parts.view) c.stops.result c.stops.ensures goes;
      front = λ s k. read_more c.args.form s c.loop-size.stream c.view_next.new.stream old mid new begin middle end c.loop-size.size c.in_ok-n.n _
          (string_bytes c.view_next.new.text) c.view_next.new.piece (search rules) refl c.loop-size.invariant.calm c.in_ok-n.ensures.read
          (λ bytes found so_far. c.in_ok-n.ensures.shown s bytes found so_far) (c.loop-size.invariant.front s k)
          c.in-Ok.ensures.written.0 c.in-Ok.ensures.written.1;
    }

pub returns-in-Err-clause-err : goal.returns-in-Err-clause-err
returns-in-Err-clause-err g c = λ s k.
    let old : Port = record { bytes = g.R.Read.remaining c.args.input.now; failed = g.R.Source.fault_count c.args.input.now } in
    let mid : Port = record { bytes = g.R.Read.remaining c.loop-size.input; failed = g.R.Source.fault_count c.loop-size.input } in
    let new : Port = record { bytes = g.R.Read.remaining c.view_next.new.input; failed = g.R.Source.fault_count c.view_next.new.input } in
    let begin : Port = record { bytes = g.W.Write.contents c.args.output.now; failed = g.W.Sink.fault_count c.args.output.now } in
    let middle : Port = record { bytes = g.W.Write.contents c.loop-size.output; failed = g.W.Sink.fault_count c.loop-size.output } in
    let end : Port = record { bytes = g.W.Write.contents c.write_settled.new.output; failed = g.W.Sink.fault_count c.write_settled.new.output } in
    read_stopped c.args.form s c.loop-size.stream c.view_next.new.stream old mid new begin middle end c.loop-size.size c.in_ok-n.n _
    (string_bytes c.view_next.new.text) c.view_next.new.piece (search rules) refl c.loop-size.invariant.calm c.in_ok-n.ensures.read
    (λ bytes found so_far. c.in_ok-n.ensures.shown s bytes found so_far) (c.loop-size.invariant.front s k) c.in-Err.halt c.in-Err.ensures.written

pub returns-then-n-eq0-clause-ok : goal.returns-then-n-eq0-clause-ok
returns-then-n-eq0-clause-ok g c = λ s k.
    let old : Port = record { bytes = g.R.Read.remaining c.args.input.now; failed = g.R.Source.fault_count c.args.input.now } in
    let mid : Port = record { bytes = g.R.Read.remaining c.loop-size.input; failed = g.R.Source.fault_count c.loop-size.input } in
    let new : Port = record { bytes = g.R.Read.remaining c.view_next.new.input; failed = g.R.Source.fault_count c.view_next.new.input } in
    let begin : Port = record { bytes = g.W.Write.contents c.args.output.now; failed = g.W.Sink.fault_count c.args.output.now } in
    let middle : Port = record { bytes = g.W.Write.contents c.loop-size.output; failed = g.W.Sink.fault_count c.loop-size.output } in
    let end : Port = record { bytes = g.W.Write.contents c.write_settled.new.output; failed = g.W.Sink.fault_count c.write_settled.new.output } in
    if_whole c.args.form s (between old new) (between begin end) c.view_next.new.stream c.size_within.result
    (if_ok (Seen c.args.form s (between begin end) c.view_next.new.stream) (between old new) c.size_within.result
    (read_end c.args.form s c.loop-size.stream c.view_next.new.stream old mid new begin middle end c.loop-size.size c.in_ok-n.n _
    (string_bytes c.view_next.new.text) c.view_next.new.piece (search rules) refl c.loop-size.invariant.calm c.in_ok-n.ensures.read
    (λ bytes found so_far. c.in_ok-n.ensures.shown s bytes found so_far) (c.loop-size.invariant.front s k)
    c.in-Ok.ensures.written.0 c.in-Ok.ensures.written.1 c.size_within.result (omega (arith, c.if-n-eq0.true)) c.size_within.ensures.ok c.size_within.ensures.err))

pub returns-then-stops-clause-ok : goal.returns-then-stops-clause-ok
returns-then-stops-clause-ok g c = λ s k.
    let old : Port = record { bytes = g.R.Read.remaining c.args.input.now; failed = g.R.Source.fault_count c.args.input.now } in
    let mid : Port = record { bytes = g.R.Read.remaining c.loop-size.input; failed = g.R.Source.fault_count c.loop-size.input } in
    let new : Port = record { bytes = g.R.Read.remaining c.view_next.new.input; failed = g.R.Source.fault_count c.view_next.new.input } in
    let begin : Port = record { bytes = g.W.Write.contents c.args.output.now; failed = g.W.Sink.fault_count c.args.output.now } in
    let middle : Port = record { bytes = g.W.Write.contents c.loop-size.output; failed = g.W.Sink.fault_count c.loop-size.output } in
    let end : Port = record { bytes = g.W.Write.contents c.write_settled.new.output; failed = g.W.Sink.fault_count c.write_settled.new.output } in
    let stopped : c.stops.result ≡ true = search rules in
    crowds c.args.form s c.view_next.new.stream old new (between begin end) (c.loop-size.size + c.in_ok-n.n)
    (read_more c.args.form s c.loop-size.stream c.view_next.new.stream old mid new begin middle end c.loop-size.size c.in_ok-n.n _
    (string_bytes c.view_next.new.text) c.view_next.new.piece (search rules) refl c.loop-size.invariant.calm c.in_ok-n.ensures.read
    (λ bytes found so_far. c.in_ok-n.ensures.shown s bytes found so_far) (c.loop-size.invariant.front s k)
    c.in-Ok.ensures.written.0 c.in-Ok.ensures.written.1)
    (is_stopped (c.loop-size.size + c.in_ok-n.n) (is_crowded c.view_next.new.stream.parts.view) c.stops.result c.stops.ensures stopped)

pub returns-then-n-eq0-clause-err : goal.returns-then-n-eq0-clause-err
returns-then-n-eq0-clause-err g c = λ s k.
    let old : Port = record { bytes = g.R.Read.remaining c.args.input.now; failed = g.R.Source.fault_count c.args.input.now } in
    let mid : Port = record { bytes = g.R.Read.remaining c.loop-size.input; failed = g.R.Source.fault_count c.loop-size.input } in
    let new : Port = record { bytes = g.R.Read.remaining c.view_next.new.input; failed = g.R.Source.fault_count c.view_next.new.input } in
    let begin : Port = record { bytes = g.W.Write.contents c.args.output.now; failed = g.W.Sink.fault_count c.args.output.now } in
    let middle : Port = record { bytes = g.W.Write.contents c.loop-size.output; failed = g.W.Sink.fault_count c.loop-size.output } in
    let end : Port = record { bytes = g.W.Write.contents c.write_settled.new.output; failed = g.W.Sink.fault_count c.write_settled.new.output } in
    end_broken c.args.form s c.loop-size.stream c.view_next.new.stream old mid new begin middle end c.loop-size.size c.in_ok-n.n _
    (string_bytes c.view_next.new.text) c.view_next.new.piece (search rules) refl c.loop-size.invariant.calm c.in_ok-n.ensures.read
    (λ bytes found so_far. c.in_ok-n.ensures.shown s bytes found so_far) (c.loop-size.invariant.front s k)
    c.in-Ok.ensures.written.0 c.in-Ok.ensures.written.1 c.size_within.result (omega (arith, c.if-n-eq0.true)) c.size_within.ensures.err
    (read_end c.args.form s c.loop-size.stream c.view_next.new.stream old mid new begin middle end c.loop-size.size c.in_ok-n.n _
    (string_bytes c.view_next.new.text) c.view_next.new.piece (search rules) refl c.loop-size.invariant.calm c.in_ok-n.ensures.read
    (λ bytes found so_far. c.in_ok-n.ensures.shown s bytes found so_far) (c.loop-size.invariant.front s k)
    c.in-Ok.ensures.written.0 c.in-Ok.ensures.written.1 c.size_within.result (omega (arith, c.if-n-eq0.true)) c.size_within.ensures.ok c.size_within.ensures.err)

pub returns-in_err-n-clause-err : goal.returns-in_err-n-clause-err
returns-in_err-n-clause-err g c = λ s k.
    let old : Port = record { bytes = g.R.Read.remaining c.args.input.now; failed = g.R.Source.fault_count c.args.input.now } in
    let mid : Port = record { bytes = g.R.Read.remaining c.loop-size.input; failed = g.R.Source.fault_count c.loop-size.input } in
    let new : Port = record { bytes = g.R.Read.remaining c.view_next.new.input; failed = g.R.Source.fault_count c.view_next.new.input } in
    let begin : Port = record { bytes = g.W.Write.contents c.args.output.now; failed = g.W.Sink.fault_count c.args.output.now } in
    let middle : Port = record { bytes = g.W.Write.contents c.loop-size.output; failed = g.W.Sink.fault_count c.loop-size.output } in
    let f : TakesFront (Seen c.args.form s (between begin middle) c.loop-size.stream) 1 old mid c.loop-size.size = c.loop-size.invariant.front s k in
    let stopped : (halt : Halt) → StopsNext (between mid new) halt → Breaks c.args.form s (between old new) (between begin middle) halt =
    λ halt stops. next_stopped c.args.form s c.loop-size.stream old mid new (between begin middle) c.loop-size.size halt f stops in
    search rules

pub returns-clause-err : goal.returns-clause-err
returns-clause-err g c = λ s k.
    let old : Port = record { bytes = g.R.Read.remaining c.args.input.now; failed = g.R.Source.fault_count c.args.input.now } in
    let mid : Port = record { bytes = g.R.Read.remaining c.loop-size.input; failed = g.R.Source.fault_count c.loop-size.input } in
    let begin : Port = record { bytes = g.W.Write.contents c.args.output.now; failed = g.W.Sink.fault_count c.args.output.now } in
    let middle : Port = record { bytes = g.W.Write.contents c.loop-size.output; failed = g.W.Sink.fault_count c.loop-size.output } in
    too_long c.args.form s c.loop-size.stream old mid (between begin middle) c.loop-size.size (c.loop-size.invariant.front s k)
    (omega (arith, c.loop-size-test.false))
