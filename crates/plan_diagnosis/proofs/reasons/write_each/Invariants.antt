use Rattle.std.proofs.Common.{◌≡◌, ◌++◌, drop, string_bytes}
use Rattle.std.specs.List.{flat_map}
use Rattle.plan_diagnosis.specs.ReasonLines.{reason_line}
use Rattle.plan_diagnosis.proofs.reasons.write_each.Given as goal

abbrev pub invariant-loop-reason : goal.invariant-loop-reason
invariant-loop-reason l =
    string_bytes l.text ++ flat_map (reason_line l.description) (drop l.reason-index l.reasons) ≡ string_bytes l.fn.text
    ++ flat_map (reason_line l.fn.description) l.reasons
