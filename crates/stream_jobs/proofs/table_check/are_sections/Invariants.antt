use Rattle.std.proofs.Common.{◌≡◌, length, map}
use Rattle.stream_jobs.specs.Jobs.{are_sections}
use Rattle.stream_jobs.proofs.table_check.are_sections.Given as goal

abbrev pub invariant-sections : goal.invariant-sections
invariant-sections l = are_sections l.initial.ones (map (λ b. b.items) l.initial.rest) ≡ are_sections l.ones (map (λ b. b.items) l.rest)

abbrev pub decreases-sections : goal.decreases-sections
decreases-sections l = length l.ones
