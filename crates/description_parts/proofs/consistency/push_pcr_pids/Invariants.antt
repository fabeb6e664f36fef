use Rattle.std.proofs.Common.{◌≡◌, ◌≤◌, ◌+◌, ◌++◌, map, filter, drop, length}
use Rattle.description_parts.proofs.consistency.push_pcr_pids.Given as goal

abbrev pub invariant-loop-program : goal.invariant-loop-program
invariant-loop-program l = record {
  items : l.initial.pids.items ++ map (λ p. p.pcr_pid) (filter (λ p. p.has_clock) l.programs)
      ≡ l.pids.items ++ map (λ p. p.pcr_pid) (filter (λ p. p.has_clock) (drop l.program-index l.programs));
  few : length l.pids.items ≤ length l.initial.pids.items + l.program-index;
}
