use Rattle.std.proofs.Common.{◌≡◌, ◌≤◌, ◌+◌, length, take, ap₂, ◌∙◌, List, ℕ, arith}
use Rattle.demux.specs.Stream as stream
use Rattle.demux.proofs.PushedBytes.{pushed_take}
use Rattle.demux.proofs.demultiplexer.Demux.push.Goals as goal

pub loop-taken-preserved : goal.loop-taken-preserved
loop-taken-preserved g c =
    let n = c.in-Ok.n in
    let within : n ≤ length c.split_at.result.1.now = c.in-Ok.ensures.within in
    let left : length c.split_at.result.1.now + c.loop-taken.taken ≡ length c.args.piece.now = c.split_at.ensures.back_len in
    record {
      within = omega arith;
      whole = λ some more. c.in-Ok.ensures.whole (omega arith);
      state = c.in-Ok.ensures.pushed
          ∙ ap₂ (λ (s : stream.StreamState) (rest : List ℕ). stream.pushed s (take n rest)) c.loop-taken.invariant.state c.split_at.ensures.back
          ∙ pushed_take c.args.self.now c.loop-taken.taken n c.args.piece.now;
    }
