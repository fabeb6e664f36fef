use Rattle.std.proofs.Common.{◌≡◌, ◌≤◌, ◌+◌, length, take, ap₂, ◌∙◌, List, ℕ, arith}
use Rattle.stamp_repair.specs.References.{LogView, logged}
use Rattle.stamp_repair.proofs.LoggedBytes.{logged_take}
use Rattle.stamp_repair.proofs.references.ReferenceLog.push.Goals as goal

pub loop-at-preserved : goal.loop-at-preserved
loop-at-preserved c =
    let n = c.in_ok-taken.taken in
    let within : n ≤ length c.split_at.result.1.now = c.in_ok-taken.ensures.within in
    let left : length c.split_at.result.1.now + c.loop-at.at ≡ length c.args.bytes.now = c.split_at.ensures.back_len in
    record {
      within = omega arith;
      state = c.in_ok-taken.ensures.logged
          ∙ ap₂ (λ (s : LogView) (rest : List ℕ). logged s (take n rest)) c.loop-at.invariant.state c.split_at.ensures.back
          ∙ logged_take c.args.self.now c.loop-at.at n c.args.bytes.now;
    }
