use Rattle.std.proofs.Common.{◌≡◌, ◌≤◌, drop}
use Rattle.description_keys.specs.VersionKeys.{number_after}
use Rattle.description_keys.proofs.version_keys.number_of.Given as goal

abbrev pub invariant-loop-byte : goal.invariant-loop-byte
invariant-loop-byte l = record {
  value : number_after 0 l.text ≡ number_after l.number (drop l.byte-index l.text);
  bound : l.number ≤ 65536;
}
