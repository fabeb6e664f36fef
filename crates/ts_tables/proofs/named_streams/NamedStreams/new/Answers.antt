use Rattle.ts_tables.proofs.MappedPrograms.{at_start, unknown}
use Rattle.ts_tables.proofs.named_streams.NamedStreams.new.Goals as goal

pub invariant_of-result : goal.invariant_of-result
invariant_of-result c = unknown _ _ _ _ (rw (c.new.ensures, c.new-2.ensures) at_start)
