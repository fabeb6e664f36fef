use Rattle.std.proofs.Common.{◌++◌, map}
use Rattle.pid_findings.specs.Shown.{finding_view}
use Rattle.ts_watch.specs.TableEvents.{findings_events, with_findings}
use Rattle.ts_watch.proofs.Sections.{events_end, events_step, times_end, times_step}
use Rattle.ts_watch.proofs.table_watch.TableTimes.take_all.Goals as goal

pub loop-finding-preserved : goal.loop-finding-preserved
loop-finding-preserved c =
    let fs = c.args.findings.now in
    let options = c.args.options.now in
    let i = c.loop-finding.finding-index in
    record {
      times = times_step finding_view options (with_findings options c.args.self.now (map finding_view fs)) c.loop-finding.self c.take.new.self i fs
          c.finding-item.result
          c.loop-finding-test.true c.finding-item.is c.loop-finding.invariant.times c.in_ok-take.ensures.times;
      lines = events_step finding_view options c.loop-finding.self c.take.new.self i fs c.finding-item.result
          (c.args.events.now.items ++ findings_events options c.args.self.now (map finding_view fs)) (c.loop-finding.events.items) (c.take.new.events.items)
          c.loop-finding-test.true c.finding-item.is c.loop-finding.invariant.lines c.in_ok-take.ensures.times c.in_ok-take.ensures.found;
    }

pub returns-clause-times : goal.returns-clause-times
returns-clause-times c =
    let fs = c.args.findings.now in
    let options = c.args.options.now in
    times_end finding_view options (with_findings options c.args.self.now (map finding_view fs)) c.loop-finding.self c.loop-finding.finding-index fs
    c.loop-finding-test.false c.loop-finding.invariant.times

pub returns-clause-found : goal.returns-clause-found
returns-clause-found c =
    let fs = c.args.findings.now in
    let options = c.args.options.now in
    events_end finding_view options c.loop-finding.self c.loop-finding.finding-index fs
    (c.args.events.now.items ++ findings_events options c.args.self.now (map finding_view fs))
    (c.loop-finding.events.items) c.loop-finding-test.false c.loop-finding.invariant.lines
