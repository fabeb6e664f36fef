use Rattle.tsjob_cli.specs.StreamedUnits.{streams_from}
use Rattle.tsjob_cli.proofs.StreamedUnits.{streams_all, streams_more}
use Rattle.tsjob_cli.proofs.streaming.fed_streams.Goals as goal

pub loop-k-preserved : goal.loop-k-preserved
loop-k-preserved c =
    streams_more c.args.streams.now c.loop-k.k c.index-streams-k.result c.loop-k.fed.items c.push_stream.new.fed.items (streams_from 0 c.args.streams.now)
    c.loop-k-test.true c.index-streams-k.is c.in_ok-push_stream.ensures c.loop-k.invariant

pub returns : goal.returns
returns c = streams_all c.args.streams.now c.loop-k.k c.loop-k.fed.items (streams_from 0 c.args.streams.now) c.loop-k-test.false c.loop-k.invariant
