use Rattle.std.proofs.Common.{◌≡◌, map, drop}
use Rattle.toml.specs.View.{view}
use Rattle.description_keys.specs.KeyRows as rows
use Rattle.description_keys.specs.Refusals.{first_fault}
use Rattle.description_keys.proofs.refusals.first_fault.Given as goal

abbrev pub invariant-loop-row : goal.invariant-loop-row
invariant-loop-row l =
    first_fault (map (λ row. rows.rule_of (rows.view row)) l.rows) (view l.document)
    ≡ first_fault (map (λ row. rows.rule_of (rows.view row)) (drop l.row-index l.rows)) (view l.document)
