use Rattle.std.proofs.Common.{◌≡◌, ◌+◌, ◌-◌, ◌^◌, ◌%◌, [], false, length, string_bytes}
use Rattle.devices.specs.Devices.{between}
use Rattle.devices.proofs.TakenInput.{TakesFront}
use Rattle.analysis.specs.Analysis.{AnalysisState}
use Rattle.analysis.specs.Analysis.{is_crowded}
use Rattle.tsview_cli.specs.CapturedStreams.{IsSoFar}
use Rattle.tsview_cli.specs.Viewing.{Seen, longest_piece}
use Rattle.tsview_cli.proofs.viewing.view_pieces.Given as goal

abbrev pub invariant-loop-size : goal.invariant-loop-size
invariant-loop-size g l = record {
  room : length l.piece ≡ length l.fn.piece;
  none : string_bytes l.text ≡ [];
  calm : l.size % longest_piece ≡ 0 → is_crowded l.stream.parts.view ≡ false;
  front : (s : AnalysisState) → IsSoFar s l.fn.stream [] [] → TakesFront
      (Seen l.form s (between (record { bytes = g.W.Write.contents l.fn.output; failed = g.W.Sink.fault_count l.fn.output })
      (record { bytes = g.W.Write.contents l.output; failed = g.W.Sink.fault_count l.output })) l.stream) 1
      (record { bytes = g.R.Read.remaining l.fn.input; failed = g.R.Source.fault_count l.fn.input })
      (record { bytes = g.R.Read.remaining l.input; failed = g.R.Source.fault_count l.input }) l.size;
}

abbrev pub decreases-loop-size : goal.decreases-loop-size
decreases-loop-size g l = 2 ^ 40 + 1 - l.size
