use Rattle.std.proofs.Common.{rules, map, sym}
use Rattle.std.proofs.lemmas.List.Edits.{map_over_more}
use Rattle.std.proofs.lemmas.List.{take_all, drop_all}
use Rattle.pid_findings.specs.Shown.{finding_view}
use Rattle.ts_tables.specs.ServiceNames.{NameState, with_later}
use Rattle.ts_tables.proofs.service_names.take_each.Goals as goal

pub loop-at-preserved : goal.loop-at-preserved
loop-at-preserved c =
    let f = with_later (map finding_view c.args.findings.now) in
    let x : NameState = c.index-names-at.result in
    rw (c.in_ok-take.ensures, sym c.index-names-at.is)
    (map_over_more f c.args.names.now c.loop-at.names c.loop-at.at x c.loop-at-test.true c.loop-at.invariant c.index-names-at.is)

pub returns : goal.returns
returns c = search (rules, take_all, drop_all)
