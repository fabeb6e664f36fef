use Rattle.std.proofs.Common.{◌≡◌, ◌%◌, ℕ, length, refl, sym, subst, arith}
use Rattle.devices.specs.Devices.{Port}
use Rattle.devices.proofs.TakenInput.{front_end, front_more, front_none}
use Rattle.devices.proofs.piece_taker.take_pieces.Goals as goal

pub loop-size-init : goal.loop-size-init
loop-size-init g c = record {
  room = refl;
  front = front_none (λ bytes. g.T.PieceTaker.has_taken c.args.taker.now bytes c.args.taker.now) g.T.PieceTaker.unit
      (record { bytes = g.R.Read.remaining c.args.input.now; failed = g.R.Source.fault_count c.args.input.now }) c.requires.start;
}

pub loop-size-preserved : goal.loop-size-preserved
loop-size-preserved g c =
    let old : Port = record { bytes = g.R.Read.remaining c.args.input.now; failed = g.R.Source.fault_count c.args.input.now } in
    let mid : Port = record { bytes = g.R.Read.remaining c.loop-size.input; failed = g.R.Source.fault_count c.loop-size.input } in
    let new : Port = record { bytes = g.R.Read.remaining c.read_piece.new.input; failed = g.R.Source.fault_count c.read_piece.new.input } in
    let room : length c.read_piece.new.piece ≡ length c.args.piece.now = omega (arith, c.read_piece.auto.piece, c.loop-size.invariant.room) in
    record {
      room = room;
      front = front_more (λ bytes. g.T.PieceTaker.has_taken c.args.taker.now bytes c.loop-size.taker)
          (λ bytes. g.T.PieceTaker.has_taken c.args.taker.now bytes c.take_piece.new.self) g.T.PieceTaker.unit old mid new
          c.loop-size.size c.in_ok-n.n c.read_piece.new.piece c.loop-size.invariant.front c.in_ok-n.ensures (c.in_ok-take_piece.ensures.taken c.args.taker.now)
          (subst (λ (n : ℕ). n % g.T.PieceTaker.unit ≡ 0) (sym room) c.requires.unit) (omega (arith, c.if-n-piece.false));
    }

pub returns-then-n-piece : goal.returns-then-n-piece
returns-then-n-piece g c =
    let old : Port = record { bytes = g.R.Read.remaining c.args.input.now; failed = g.R.Source.fault_count c.args.input.now } in
    let mid : Port = record { bytes = g.R.Read.remaining c.loop-size.input; failed = g.R.Source.fault_count c.loop-size.input } in
    let new : Port = record { bytes = g.R.Read.remaining c.read_piece.new.input; failed = g.R.Source.fault_count c.read_piece.new.input } in
    front_end (λ bytes. g.T.PieceTaker.has_taken c.args.taker.now bytes c.loop-size.taker)
    (λ bytes. g.T.PieceTaker.has_taken c.args.taker.now bytes c.take_piece.new.self) g.T.PieceTaker.unit old mid new
    c.loop-size.size c.in_ok-n.n c.read_piece.new.piece c.size_within.result c.loop-size.invariant.front c.in_ok-n.ensures
    (c.in_ok-take_piece.ensures.taken c.args.taker.now)
    (omega (arith, c.if-n-piece.true)) c.size_within.ensures.ok c.size_within.ensures.err
