use Rattle.std.proofs.Common.{◌++◌, map}
use Rattle.pid_findings.specs.Shown.{finding_view}
use Rattle.fed_streams.specs.Feeding.{after_all, fed_all}
use Rattle.fed_streams.proofs.FedUnits.{after_step, after_end, fed_step, fed_end}
use Rattle.es_feed.proofs.unit_feed.UnitFeed.take_all.Goals as goal

pub loop-finding-preserved : goal.loop-finding-preserved
loop-finding-preserved c =
    let fs = c.args.findings.now in
    let i = c.loop-finding.finding-index in
    record {
      feed = after_step finding_view (after_all c.args.self.now (map finding_view fs)) c.loop-finding.self c.take.new.self i fs c.finding-item.result
          c.loop-finding-test.true c.finding-item.is c.loop-finding.invariant.feed c.in_ok-take.ensures.feed;
      fed = fed_step finding_view c.loop-finding.self c.take.new.self i fs c.finding-item.result
          (c.args.fed.now.items ++ fed_all c.args.self.now (map finding_view fs))
          c.loop-finding.fed.items c.take.new.fed.items c.loop-finding-test.true c.finding-item.is c.loop-finding.invariant.fed c.in_ok-take.ensures.feed
          c.in_ok-take.ensures.fed;
    }

pub returns-clause-feed : goal.returns-clause-feed
returns-clause-feed c =
    let fs = c.args.findings.now in
    after_end finding_view (after_all c.args.self.now (map finding_view fs)) c.loop-finding.self c.loop-finding.finding-index fs c.loop-finding-test.false
    c.loop-finding.invariant.feed

pub returns-clause-fed : goal.returns-clause-fed
returns-clause-fed c =
    let fs = c.args.findings.now in
    fed_end finding_view c.loop-finding.self c.loop-finding.finding-index fs (c.args.fed.now.items ++ fed_all c.args.self.now (map finding_view fs))
    c.loop-finding.fed.items
    c.loop-finding-test.false c.loop-finding.invariant.fed
