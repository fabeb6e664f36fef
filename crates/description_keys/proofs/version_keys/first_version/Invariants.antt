use Rattle.std.proofs.Common.{◌≡◌, map, drop}
use Rattle.toml.specs.View.{view}
use Rattle.description_keys.specs.VersionKeys.{first_version}
use Rattle.description_keys.proofs.version_keys.first_version.Given as goal

abbrev pub invariant-loop-value : goal.invariant-loop-value
invariant-loop-value l =
    first_version l.table l.program (map view l.values) ≡ first_version l.table l.program (map view (drop l.value-index l.values))
