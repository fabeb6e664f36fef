use Rattle.std.proofs.Common.{◌≡◌, map, take}
use Rattle.toml.specs.View.{view}
use Rattle.description_parts.specs.Contents.{described_other}
use Rattle.description_parts.proofs.networks.few_streams.Given as goal

abbrev pub invariant-loop-part : goal.invariant-loop-part
invariant-loop-part l = l.streams.items ≡ map described_other (map view (take l.part-index l.parts))
