use Rattle.std.proofs.Common.{◌≡◌, length}
use Rattle.std.specs.List.{slice_get}
use Rattle.stream_coding.specs.Rbsp.{rbsp_bytes}
use Rattle.stream_coding.proofs.rbsp.rbsp_byte.Given as goal

abbrev pub invariant-loop-first : goal.invariant-loop-first
invariant-loop-first l = slice_get (rbsp_bytes l.bytes) l.number ≡ slice_get (rbsp_bytes l.left) l.before

abbrev pub decreases-loop-first : goal.decreases-loop-first
decreases-loop-first l = length l.left
