use Rattle.std.proofs.Common.{◌≡◌, drop}
use Rattle.es_units.specs.Marking.{type_of}
use Rattle.es_units.proofs.marking.type_of.Given as goal

abbrev pub invariant-loop-typed : goal.invariant-loop-typed
invariant-loop-typed l = type_of l.pid l.types ≡ type_of l.pid (drop l.typed-index l.types)
