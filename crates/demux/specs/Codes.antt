-- The numbers of refusals.
use Rattle.std.specs.Prelude.{ℕ}
use Rattle.demux.specs.declared.error.DemuxError.{DemuxError}
use Rattle.demux.specs.declared.error.DemuxError.TheVariants.{Memory, Ended}

abbrev pub code_of : DemuxError → ℕ
code_of (Memory taken) = 1
code_of Ended = 2
