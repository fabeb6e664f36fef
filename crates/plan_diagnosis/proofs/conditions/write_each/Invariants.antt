use Rattle.std.proofs.Common.{◌≡◌, ◌++◌, drop, map, string_bytes}
use Rattle.std.specs.List.{flat_map}
use Rattle.plan_checker.specs.Refusals.{entry_of}
use Rattle.plan_diagnosis.specs.ConditionLines.{condition_line}
use Rattle.plan_diagnosis.proofs.conditions.write_each.Given as goal

abbrev pub invariant-loop-refusal : goal.invariant-loop-refusal
invariant-loop-refusal l =
    string_bytes l.text ++ flat_map (condition_line l.description) (map entry_of (drop l.refusal-index l.refusals))
    ≡ string_bytes l.fn.text ++ flat_map (condition_line l.fn.description) (map entry_of l.refusals)
