use Rattle.std.proofs.Common.{◌≡◌, ◌∙◌, ◌||◌, true, false, List, ap, arith, sym}
use Rattle.devices.specs.Devices.{Port, between}
use Rattle.es_feed.proofs.PassedStreams.{feed_ends, feed_fails, feeds_none, feeds_some, long_enough, long_first, long_more, long_refused, piece_fails}
use Rattle.es_feed.proofs.ReportedLines.{joined_false, joined_true}
use Rattle.fed_streams.specs.Feeding.{Fed}
use Rattle.es_feed.specs.FedLines.{have_refusal}
use Rattle.es_feed.proofs.passing.pass_pieces.Goals as goal
use Rattle.es_feed.proofs.passing.pass_pieces.Goals.{then-found, else-found}

pub loop-init : goal.loop-init
loop-init g c = record {
  out = c.new-fed.ensures.items;
  came = λ first pids is none.
      let i0 : Port = record { bytes = g.R.Read.remaining c.args.input.now; failed = g.R.Source.fault_count c.args.input.now } in
      let o0 : Port = record { bytes = g.W.Write.contents c.args.output.now; failed = g.W.Sink.fault_count c.args.output.now } in
      let f0 : Port = record { bytes = g.E.Write.contents c.args.faults.now; failed = g.E.Sink.fault_count c.args.faults.now } in
      long_first first pids i0 o0 f0 c.args.stream.now c.args.lines.now is none;
}

pub returns-in-Err : goal.returns-in-Err
returns-in-Err g c = λ first pids is none.
    let i0 : Port = record { bytes = g.R.Read.remaining c.args.input.now; failed = g.R.Source.fault_count c.args.input.now } in
    let i1 : Port = record { bytes = g.R.Read.remaining c.loop.input; failed = g.R.Source.fault_count c.loop.input } in
    let i2 : Port = record { bytes = g.R.Read.remaining c.feed_piece.new.input; failed = g.R.Source.fault_count c.feed_piece.new.input } in
    let o0 : Port = record { bytes = g.W.Write.contents c.args.output.now; failed = g.W.Sink.fault_count c.args.output.now } in
    let o1 : Port = record { bytes = g.W.Write.contents c.loop.output; failed = g.W.Sink.fault_count c.loop.output } in
    let f0 : Port = record { bytes = g.E.Write.contents c.args.faults.now; failed = g.E.Sink.fault_count c.args.faults.now } in
    let f1 : Port = record { bytes = g.E.Write.contents c.loop.faults; failed = g.E.Sink.fault_count c.loop.faults } in
    feed_fails first pids i0 i1 i2 (between o0 o1) (between f0 f1) c.loop.faulty c.loop.stream c.feed_piece.new.stream c.loop.lines
    c.feed_piece.new.fed.items
    c.in-Err.halt
    (c.loop.invariant.came first pids is none).midway (c.loop.invariant.came first pids is none).unrefused c.in-Err.ensures

pub returns-then-not-more : goal.returns-then-not-more
returns-then-not-more g c = λ first pids is none.
    let i0 : Port = record { bytes = g.R.Read.remaining c.args.input.now; failed = g.R.Source.fault_count c.args.input.now } in
    let i1 : Port = record { bytes = g.R.Read.remaining c.loop.input; failed = g.R.Source.fault_count c.loop.input } in
    let i2 : Port = record { bytes = g.R.Read.remaining c.feed_piece.new.input; failed = g.R.Source.fault_count c.feed_piece.new.input } in
    let o0 : Port = record { bytes = g.W.Write.contents c.args.output.now; failed = g.W.Sink.fault_count c.args.output.now } in
    let o1 : Port = record { bytes = g.W.Write.contents c.loop.output; failed = g.W.Sink.fault_count c.loop.output } in
    let f0 : Port = record { bytes = g.E.Write.contents c.args.faults.now; failed = g.E.Sink.fault_count c.args.faults.now } in
    let f1 : Port = record { bytes = g.E.Write.contents c.loop.faults; failed = g.E.Sink.fault_count c.loop.faults } in
    feed_ends first pids i0 i1 i2 (between o0 o1) (between f0 f1) c.loop.faulty c.loop.stream c.feed_piece.new.stream c.loop.lines
    c.feed_piece.new.fed.items
    (c.loop.invariant.came first pids is none).midway (c.loop.invariant.came first pids is none).unrefused
    (feeds_none c.loop.stream c.feed_piece.new.stream (between i1 i2) c.feed_piece.new.fed.items c.in-Ok.more c.if-not-more.true c.in-Ok.ensures)

pub returns-in-Err-let_out : goal.returns-in-Err-let_out
returns-in-Err-let_out g c = λ first pids is none.
    let i0 : Port = record { bytes = g.R.Read.remaining c.args.input.now; failed = g.R.Source.fault_count c.args.input.now } in
    let i1 : Port = record { bytes = g.R.Read.remaining c.loop.input; failed = g.R.Source.fault_count c.loop.input } in
    let i2 : Port = record { bytes = g.R.Read.remaining c.feed_piece.new.input; failed = g.R.Source.fault_count c.feed_piece.new.input } in
    let o0 : Port = record { bytes = g.W.Write.contents c.args.output.now; failed = g.W.Sink.fault_count c.args.output.now } in
    let o1 : Port = record { bytes = g.W.Write.contents c.loop.output; failed = g.W.Sink.fault_count c.loop.output } in
    let f0 : Port = record { bytes = g.E.Write.contents c.args.faults.now; failed = g.E.Sink.fault_count c.args.faults.now } in
    let f1 : Port = record { bytes = g.E.Write.contents c.loop.faults; failed = g.E.Sink.fault_count c.loop.faults } in
    let o2 : Port = record { bytes = g.W.Write.contents c.let_out.new.output; failed = g.W.Sink.fault_count c.let_out.new.output } in
    let f2 : Port = record { bytes = g.E.Write.contents c.let_out.new.faults; failed = g.E.Sink.fault_count c.let_out.new.faults } in
    piece_fails first pids i0 i1 i2 o0 o1 o2 f0 f1 f2 c.loop.faulty c.loop.stream c.feed_piece.new.stream c.loop.lines c.let_out.new.lines
    c.feed_piece.new.fed.items
    c.in-Err-let_out.halt
    (c.loop.invariant.came first pids is none).midway (c.loop.invariant.came first pids is none).unrefused
    (feeds_some c.loop.stream c.feed_piece.new.stream (between i1 i2) c.feed_piece.new.fed.items c.in-Ok.more c.if-not-more.false c.in-Ok.ensures)
    c.in-Err-let_out.ensures.goes

pub loop-preserved : goal.loop-preserved
loop-preserved g c = record {
  out = c.let_out.ensures.out;
  came = λ first pids is none.
      let i0 : Port = record { bytes = g.R.Read.remaining c.args.input.now; failed = g.R.Source.fault_count c.args.input.now } in
      let i1 : Port = record { bytes = g.R.Read.remaining c.loop.input; failed = g.R.Source.fault_count c.loop.input } in
      let i2 : Port = record { bytes = g.R.Read.remaining c.feed_piece.new.input; failed = g.R.Source.fault_count c.feed_piece.new.input } in
      let o0 : Port = record { bytes = g.W.Write.contents c.args.output.now; failed = g.W.Sink.fault_count c.args.output.now } in
      let o1 : Port = record { bytes = g.W.Write.contents c.loop.output; failed = g.W.Sink.fault_count c.loop.output } in
      let f0 : Port = record { bytes = g.E.Write.contents c.args.faults.now; failed = g.E.Sink.fault_count c.args.faults.now } in
      let f1 : Port = record { bytes = g.E.Write.contents c.loop.faults; failed = g.E.Sink.fault_count c.loop.faults } in
      let o2 : Port = record { bytes = g.W.Write.contents c.let_out.new.output; failed = g.W.Sink.fault_count c.let_out.new.output } in
      let f2 : Port = record { bytes = g.E.Write.contents c.let_out.new.faults; failed = g.E.Sink.fault_count c.let_out.new.faults } in
      let all : c.if-found.faulty ≡ (c.loop.faulty || c.in-Ok-let_out.found) = elim c.if-found.branch [
        | then-found w ↦ joined_true c.loop.faulty c.in-Ok-let_out.found c.if-found.faulty w.if-found.true w.faulty-is
        | else-found w ↦ joined_false c.loop.faulty c.in-Ok-let_out.found c.if-found.faulty w.if-found.false w.faulty-is
      ] in
      let unrefused : have_refusal c.feed_piece.new.fed.items ≡ false =
      ap (λ (fed : List Fed). have_refusal fed) (sym c.deref.ensures.value) ∙ sym c.have_refusal-refused.ensures ∙ c.if-refused.false in
      long_more first pids i0 i1 i2 o0 o1 o2 f0 f1 f2 c.loop.faulty c.in-Ok-let_out.found c.if-found.faulty c.loop.stream c.feed_piece.new.stream
      c.loop.lines c.let_out.new.lines c.feed_piece.new.fed.items c.loop.counter
      (c.loop.invariant.came first pids is none)
      (feeds_some c.loop.stream c.feed_piece.new.stream (between i1 i2) c.feed_piece.new.fed.items c.in-Ok.more c.if-not-more.false c.in-Ok.ensures)
      c.in-Ok-let_out.ensures.goes c.in-Ok-let_out.ensures.lines all unrefused;
}

pub returns-then-refused : goal.returns-then-refused
returns-then-refused g c = λ first pids is none.
    let i0 : Port = record { bytes = g.R.Read.remaining c.args.input.now; failed = g.R.Source.fault_count c.args.input.now } in
    let i1 : Port = record { bytes = g.R.Read.remaining c.loop.input; failed = g.R.Source.fault_count c.loop.input } in
    let i2 : Port = record { bytes = g.R.Read.remaining c.feed_piece.new.input; failed = g.R.Source.fault_count c.feed_piece.new.input } in
    let o0 : Port = record { bytes = g.W.Write.contents c.args.output.now; failed = g.W.Sink.fault_count c.args.output.now } in
    let o1 : Port = record { bytes = g.W.Write.contents c.loop.output; failed = g.W.Sink.fault_count c.loop.output } in
    let f0 : Port = record { bytes = g.E.Write.contents c.args.faults.now; failed = g.E.Sink.fault_count c.args.faults.now } in
    let f1 : Port = record { bytes = g.E.Write.contents c.loop.faults; failed = g.E.Sink.fault_count c.loop.faults } in
    let o2 : Port = record { bytes = g.W.Write.contents c.let_out.new.output; failed = g.W.Sink.fault_count c.let_out.new.output } in
    let f2 : Port = record { bytes = g.E.Write.contents c.let_out.new.faults; failed = g.E.Sink.fault_count c.let_out.new.faults } in
    let all : c.if-found.faulty ≡ (c.loop.faulty || c.in-Ok-let_out.found) = elim c.if-found.branch [
      | then-found w ↦ joined_true c.loop.faulty c.in-Ok-let_out.found c.if-found.faulty w.if-found.true w.faulty-is
      | else-found w ↦ joined_false c.loop.faulty c.in-Ok-let_out.found c.if-found.faulty w.if-found.false w.faulty-is
    ] in
    let refused : have_refusal c.feed_piece.new.fed.items ≡ true =
    ap (λ (fed : List Fed). have_refusal fed) (sym c.deref.ensures.value) ∙ sym c.have_refusal-refused.ensures ∙ c.if-refused.true in
    long_refused first pids i0 i1 i2 o0 o1 o2 f0 f1 f2 c.loop.faulty c.in-Ok-let_out.found c.if-found.faulty c.loop.stream c.feed_piece.new.stream
    c.loop.lines c.let_out.new.lines c.feed_piece.new.fed.items c.loop.counter
    (c.loop.invariant.came first pids is none)
    (feeds_some c.loop.stream c.feed_piece.new.stream (between i1 i2) c.feed_piece.new.fed.items c.in-Ok.more c.if-not-more.false c.in-Ok.ensures)
    c.in-Ok-let_out.ensures.goes c.in-Ok-let_out.ensures.lines all refused

pub returns : goal.returns
returns g c = λ first pids is none.
    let i0 : Port = record { bytes = g.R.Read.remaining c.args.input.now; failed = g.R.Source.fault_count c.args.input.now } in
    let i1 : Port = record { bytes = g.R.Read.remaining c.loop.input; failed = g.R.Source.fault_count c.loop.input } in
    let o0 : Port = record { bytes = g.W.Write.contents c.args.output.now; failed = g.W.Sink.fault_count c.args.output.now } in
    let o1 : Port = record { bytes = g.W.Write.contents c.loop.output; failed = g.W.Sink.fault_count c.loop.output } in
    let f0 : Port = record { bytes = g.E.Write.contents c.args.faults.now; failed = g.E.Sink.fault_count c.args.faults.now } in
    let f1 : Port = record { bytes = g.E.Write.contents c.loop.faults; failed = g.E.Sink.fault_count c.loop.faults } in
    long_enough first pids (between i0 i1) (between o0 o1) (between f0 f1) c.loop.faulty c.loop.stream c.loop.lines c.loop.counter
    (c.loop.invariant.came first pids is none) (omega (arith, c.loop-test.false))
