use Rattle.std.proofs.Common.{◌≡◌, ◌+◌, ◌-◌, ◌^◌, length}
use Rattle.devices.proofs.TakenInput.{TakesFront}
use Rattle.devices.proofs.piece_taker.take_pieces.Given as goal

abbrev pub invariant-loop-size : goal.invariant-loop-size
invariant-loop-size g l = record {
  room : length l.piece ≡ length l.fn.piece;
  front : TakesFront (λ bytes. g.T.PieceTaker.has_taken l.fn.taker bytes l.taker) g.T.PieceTaker.unit
      (record { bytes = g.R.Read.remaining l.fn.input; failed = g.R.Source.fault_count l.fn.input })
      (record { bytes = g.R.Read.remaining l.input; failed = g.R.Source.fault_count l.input }) l.size;
}

abbrev pub decreases-loop-size : goal.decreases-loop-size
decreases-loop-size g l = 2 ^ 40 + 1 - l.size
