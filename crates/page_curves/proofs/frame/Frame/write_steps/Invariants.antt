use Rattle.std.proofs.Common.{◌≡◌, ◌++◌, drop, string_bytes}
use Rattle.std.specs.Prelude.{flat_map}
use Rattle.page_curves.specs.Frames.{step_text}
use Rattle.page_curves.proofs.frame.Frame.write_steps.Given as goal

abbrev pub invariant-loop-count : goal.invariant-loop-count
invariant-loop-count l = string_bytes l.text ++ flat_map (step_text l.self) (drop l.count-index l.counts) ≡ string_bytes l.fn.text
    ++ flat_map (step_text l.self) l.counts
