use Rattle.std.proofs.Common.{◌≡◌, true, refl, sym, subst, ◌∙◌, ap, arith}
use Rattle.devices.specs.Devices.{Port, between}
use Rattle.unit_records.specs.OpenRecords.{IsOpen}
use Rattle.tsair_cli.specs.declared.frame_feed.FrameFeed.{FrameFeed}
use Rattle.tsair_cli.specs.declared.frame.OpenFrame.{OpenFrame}
use Rattle.tsair_cli.proofs.Unframing.{long_enough, none_came, out_stops, piece_more, piece_stops, pieces_end, takes_none, takes_some}
use Rattle.tsair_cli.proofs.frame_passing.pass_pieces.Goals as goal

pub loop-init : goal.loop-init
loop-init g c =
    let i0 : Port = record { bytes = g.R.Read.remaining c.args.input.now; failed = g.R.Source.fault_count c.args.input.now } in
    let o0 : Port = record { bytes = g.W.Write.contents c.args.output.now; failed = g.W.Sink.fault_count c.args.output.now } in
    let f0 : Port = record { bytes = g.E.Write.contents c.args.faults.now; failed = g.E.Sink.fault_count c.args.faults.now } in
    record { opens = c.requires.opens; records = c.requires.records; drops = c.requires.drops; come = none_came i0 o0 f0 c.args.feed.now c.requires.reading }

pub returns-in-Ok-false-clause-passes : goal.returns-in-Ok-false-clause-passes
returns-in-Ok-false-clause-passes g c =
    let i0 : Port = record { bytes = g.R.Read.remaining c.args.input.now; failed = g.R.Source.fault_count c.args.input.now } in
    let i1 : Port = record { bytes = g.R.Read.remaining c.loop.input; failed = g.R.Source.fault_count c.loop.input } in
    let i2 : Port = record { bytes = g.R.Read.remaining c.take_piece.new.input; failed = g.R.Source.fault_count c.take_piece.new.input } in
    let o0 : Port = record { bytes = g.W.Write.contents c.args.output.now; failed = g.W.Sink.fault_count c.args.output.now } in
    let o1 : Port = record { bytes = g.W.Write.contents c.loop.output; failed = g.W.Sink.fault_count c.loop.output } in
    let f0 : Port = record { bytes = g.E.Write.contents c.args.faults.now; failed = g.E.Sink.fault_count c.args.faults.now } in
    let f1 : Port = record { bytes = g.E.Write.contents c.loop.faults; failed = g.E.Sink.fault_count c.loop.faults } in
    pieces_end i0 i1 i2 (between o0 o1) (between f0 f1) c.loop.feed c.take_piece.new.feed c.loop.counter c.loop.invariant.come
    (takes_none c.loop.feed c.take_piece.new.feed (between i1 i2) c.in-Ok-false.field-0 c.in-Ok-false.field-0-test c.in-Ok-false.ensures)

pub returns-in-Err-clause-passes : goal.returns-in-Err-clause-passes
returns-in-Err-clause-passes g c =
    let i0 : Port = record { bytes = g.R.Read.remaining c.args.input.now; failed = g.R.Source.fault_count c.args.input.now } in
    let i1 : Port = record { bytes = g.R.Read.remaining c.loop.input; failed = g.R.Source.fault_count c.loop.input } in
    let i2 : Port = record { bytes = g.R.Read.remaining c.take_piece.new.input; failed = g.R.Source.fault_count c.take_piece.new.input } in
    let o0 : Port = record { bytes = g.W.Write.contents c.args.output.now; failed = g.W.Sink.fault_count c.args.output.now } in
    let o1 : Port = record { bytes = g.W.Write.contents c.loop.output; failed = g.W.Sink.fault_count c.loop.output } in
    let f0 : Port = record { bytes = g.E.Write.contents c.args.faults.now; failed = g.E.Sink.fault_count c.args.faults.now } in
    let f1 : Port = record { bytes = g.E.Write.contents c.loop.faults; failed = g.E.Sink.fault_count c.loop.faults } in
    piece_stops i0 i1 i2 (between o0 o1) (between f0 f1) c.loop.feed c.take_piece.new.feed c.loop.counter c.in-Err.halt c.loop.invariant.come c.in-Err.ensures

pub returns-in-Err-let_out-clause-passes : goal.returns-in-Err-let_out-clause-passes
returns-in-Err-let_out-clause-passes g c =
    let i0 : Port = record { bytes = g.R.Read.remaining c.args.input.now; failed = g.R.Source.fault_count c.args.input.now } in
    let i1 : Port = record { bytes = g.R.Read.remaining c.loop.input; failed = g.R.Source.fault_count c.loop.input } in
    let i2 : Port = record { bytes = g.R.Read.remaining c.take_piece.new.input; failed = g.R.Source.fault_count c.take_piece.new.input } in
    let o0 : Port = record { bytes = g.W.Write.contents c.args.output.now; failed = g.W.Sink.fault_count c.args.output.now } in
    let o1 : Port = record { bytes = g.W.Write.contents c.loop.output; failed = g.W.Sink.fault_count c.loop.output } in
    let f0 : Port = record { bytes = g.E.Write.contents c.args.faults.now; failed = g.E.Sink.fault_count c.args.faults.now } in
    let f1 : Port = record { bytes = g.E.Write.contents c.loop.faults; failed = g.E.Sink.fault_count c.loop.faults } in
    let o2 : Port = record { bytes = g.W.Write.contents c.let_out.new.output; failed = g.W.Sink.fault_count c.let_out.new.output } in
    let f2 : Port = record { bytes = g.E.Write.contents c.let_out.new.faults; failed = g.E.Sink.fault_count c.let_out.new.faults } in
    out_stops i0 i1 i2 o0 o1 o2 (between f0 f1) (between f1 f2) c.loop.feed c.take_piece.new.feed c.let_out.new.feed c.loop.counter c.in-Err-let_out.halt
    c.loop.invariant.come
    c.loop.invariant.records (takes_some c.loop.feed c.take_piece.new.feed (between i1 i2) c.in-Ok-true.field-0 c.in-Ok-true.field-0-test c.in-Ok-true.ensures)
    c.in-Err-let_out.ensures.out

pub loop-preserved : goal.loop-preserved
loop-preserved g c =
    let i0 : Port = record { bytes = g.R.Read.remaining c.args.input.now; failed = g.R.Source.fault_count c.args.input.now } in
    let i1 : Port = record { bytes = g.R.Read.remaining c.loop.input; failed = g.R.Source.fault_count c.loop.input } in
    let i2 : Port = record { bytes = g.R.Read.remaining c.take_piece.new.input; failed = g.R.Source.fault_count c.take_piece.new.input } in
    let o0 : Port = record { bytes = g.W.Write.contents c.args.output.now; failed = g.W.Sink.fault_count c.args.output.now } in
    let o1 : Port = record { bytes = g.W.Write.contents c.loop.output; failed = g.W.Sink.fault_count c.loop.output } in
    let f0 : Port = record { bytes = g.E.Write.contents c.args.faults.now; failed = g.E.Sink.fault_count c.args.faults.now } in
    let f1 : Port = record { bytes = g.E.Write.contents c.loop.faults; failed = g.E.Sink.fault_count c.loop.faults } in
    let o2 : Port = record { bytes = g.W.Write.contents c.let_out.new.output; failed = g.W.Sink.fault_count c.let_out.new.output } in
    let f2 : Port = record { bytes = g.E.Write.contents c.let_out.new.faults; failed = g.E.Sink.fault_count c.let_out.new.faults } in
    let some = takes_some c.loop.feed c.take_piece.new.feed (between i1 i2) c.in-Ok-true.field-0 c.in-Ok-true.field-0-test c.in-Ok-true.ensures in
    let out = c.in-Ok.ensures.out in
    record {
      opens = subst (λ (f : OpenFrame). IsOpen f.begun) (sym out.frame) some.taken.is_open;
      records = out.records;
      drops = out.drops;
      come = piece_more i0 i1 i2 o0 o1 o2 f0 f1 f2 c.loop.feed c.take_piece.new.feed c.let_out.new.feed c.loop.counter c.loop.invariant.come
          c.loop.invariant.records c.loop.invariant.drops some out;
    }

pub returns-in-Ok-false-clause-opens : goal.returns-in-Ok-false-clause-opens
returns-in-Ok-false-clause-opens g c =
    let i1 : Port = record { bytes = g.R.Read.remaining c.loop.input; failed = g.R.Source.fault_count c.loop.input } in
    let i2 : Port = record { bytes = g.R.Read.remaining c.take_piece.new.input; failed = g.R.Source.fault_count c.take_piece.new.input } in
    let none = takes_none c.loop.feed c.take_piece.new.feed (between i1 i2) c.in-Ok-false.field-0 c.in-Ok-false.field-0-test c.in-Ok-false.ensures in
    subst (λ (f : FrameFeed). IsOpen f.frame.begun) (sym none.3) c.loop.invariant.opens

pub returns-clause-passes : goal.returns-clause-passes
returns-clause-passes g c =
    let i0 : Port = record { bytes = g.R.Read.remaining c.args.input.now; failed = g.R.Source.fault_count c.args.input.now } in
    let i1 : Port = record { bytes = g.R.Read.remaining c.loop.input; failed = g.R.Source.fault_count c.loop.input } in
    let o0 : Port = record { bytes = g.W.Write.contents c.args.output.now; failed = g.W.Sink.fault_count c.args.output.now } in
    let o1 : Port = record { bytes = g.W.Write.contents c.loop.output; failed = g.W.Sink.fault_count c.loop.output } in
    let f0 : Port = record { bytes = g.E.Write.contents c.args.faults.now; failed = g.E.Sink.fault_count c.args.faults.now } in
    let f1 : Port = record { bytes = g.E.Write.contents c.loop.faults; failed = g.E.Sink.fault_count c.loop.faults } in
    long_enough (between i0 i1) (between o0 o1) (between f0 f1) c.loop.feed c.loop.counter c.loop.invariant.come (omega (arith, c.loop-test.false))
