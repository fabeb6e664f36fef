use Rattle.std.proofs.Common.{◌≡◌, length, map, sum_by}
use Rattle.es_moments.specs.Merging as spec
use Rattle.es_moments.proofs.merging.merged.Given as goal

abbrev pub invariant-units : goal.invariant-units
invariant-units g l = record {
  left : spec.AreLeft (map (λ s. s.items) l.initial.queues.items) (map (λ s. s.items) l.queues.items) l.units.items;
  heads : l.heads.items ≡ map (λ s. spec.head_dts s.items) l.queues.items;
}

abbrev pub decreases-units : goal.decreases-units
decreases-units g l = sum_by length (map (λ s. s.items) l.queues.items)
