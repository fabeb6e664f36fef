use Rattle.std.proofs.Common.{◌≡◌, ◌++◌, drop, string_bytes}
use Rattle.std.specs.Prelude.{flat_map}
use Rattle.page_curves.specs.Frames.{fifth_text}
use Rattle.page_curves.proofs.frame.Frame.write_fifths.Given as goal

abbrev pub invariant-loop-fifth : goal.invariant-loop-fifth
invariant-loop-fifth l = string_bytes l.text ++ flat_map (fifth_text l.self) (drop l.fifth-index l.fifths) ≡ string_bytes l.fn.text
    ++ flat_map (fifth_text l.self) l.fifths
