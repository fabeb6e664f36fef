use Rattle.std.proofs.Common.{◌∙◌, sym}
use Rattle.psi_tables.specs.ProgramMap.{streams_of}
use Rattle.fed_streams.proofs.FedMaps.{other_end, other_here, other_later}
use Rattle.fed_streams.proofs.fed_map.first_other.Goals as goal

pub returns-then-not-is_named : goal.returns-then-not-is_named
returns-then-not-is_named c =
    sym (c.loop-one.invariant ∙ other_here _ (streams_of c.args.streams) c.loop-one.one-index c.args.named.now c.loop-one-test.true
    (sym c.is_named.ensures ∙ c.if-not-is_named.true))

pub loop-one-preserved : goal.loop-one-preserved
loop-one-preserved c =
    c.loop-one.invariant ∙ other_later _ (streams_of c.args.streams) c.loop-one.one-index c.args.named.now c.loop-one-test.true
    (sym c.is_named.ensures ∙ c.if-not-is_named.false)

pub returns : goal.returns
returns c = sym (c.loop-one.invariant ∙ other_end (streams_of c.args.streams) c.loop-one.one-index c.args.named.now c.loop-one-test.false)
