use Rattle.std.specs.Prelude.{slice_index_or}
use Rattle.std.proofs.Common.{◌≡◌}
use Rattle.own_slots.specs.Extremes.{greatest}
use Rattle.description_parts.specs.Tables.{packets_of_section}
use Rattle.plan_checker.proofs.section_distances.most_packets.Given as goal

abbrev pub invariant-loop-j : goal.invariant-loop-j
invariant-loop-j l = l.most ≡ greatest l.j (λ j. packets_of_section (slice_index_or l.lengths j 0))
