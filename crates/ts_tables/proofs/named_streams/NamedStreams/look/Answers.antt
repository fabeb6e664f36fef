use Rattle.std.proofs.Common.{◌∙◌, ap}
use Rattle.ts_tables.specs.NamedStreams.{NamedView}
use Rattle.ts_tables.proofs.MappedPrograms.{at_start, unknown, when_none}
use Rattle.ts_tables.proofs.named_streams.NamedStreams.look.Goals as goal

pub streams_with-known-requires : goal.streams_with-known-requires
streams_with-known-requires c =
    when_none c.self.inside.found c.self.inside.tables c.self.inside.demux.found c.self.inside.mapped c.self.invariant
    (ap (λ (s : NamedView). s.streams) c.self.view_is ∙ c.requires)

pub invariant_of-self : goal.invariant_of-self
invariant_of-self c = unknown _ _ _ _ c.in-Ok.ensures.tables

pub invariant_of-self-in-Err : goal.invariant_of-self-in-Err
invariant_of-self-in-Err c = unknown _ _ _ _ (rw (c.forget.ensures.demux, c.forget.ensures.tables) at_start)
