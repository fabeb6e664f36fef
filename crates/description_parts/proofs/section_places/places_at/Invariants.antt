use Rattle.std.proofs.Common.{◌≡◌, ◌≤◌, ◌-◌, [], drop, length}
use Rattle.description_parts.specs.Cuts.{cut, places}
use Rattle.description_parts.proofs.section_places.places_at.Given as goal

abbrev pub invariant-loop : goal.invariant-loop
invariant-loop l = record {
  value : places 0 (cut (λ n. n) l.room l.used [] l.lengths) l.part
      ≡ places l.begin (cut (λ n. n) l.room l.before [] (drop l.begin l.lengths)) (l.part - l.counter);
  within : l.begin ≤ length l.lengths;
  bound : l.before ≤ 65535;
}
