use Rattle.std.proofs.Common.{◌≡◌, ◌++◌, drop, string_bytes}
use Rattle.std.specs.Prelude.{flat_map}
use Rattle.page_curves.specs.Frames.{quarter_text}
use Rattle.page_curves.proofs.frame.Frame.write_quarters.Given as goal

abbrev pub invariant-loop-quarter : goal.invariant-loop-quarter
invariant-loop-quarter l = string_bytes l.text ++ flat_map (quarter_text l.self) (drop l.quarter-index l.quarters) ≡ string_bytes l.fn.text
    ++ flat_map (quarter_text l.self) l.quarters
