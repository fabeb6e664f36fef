use Rattle.std.proofs.Common.{◌≡◌, ℕ, ◌+◌, ◌-◌, ◌≤◌, get_or, vec_len, Option, None}
use Rattle.page_curves.proofs.curve.Curve.reach.Given as goal

abbrev pub invariant-loop-self : goal.invariant-loop-self
invariant-loop-self l = record {
  some : l.self-inside.span ≡ l.fn.self.span;
  few : vec_len l.self-inside.slots ≤ 512;
  same : (i : ℕ) → get_or l.self-inside.slots.items i None ≡ get_or l.fn.self.slots i None;
}

abbrev pub decreases-loop-self : goal.decreases-loop-self
decreases-loop-self l = l.slot + 1 - vec_len l.self-inside.slots
