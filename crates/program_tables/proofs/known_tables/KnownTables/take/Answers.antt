use Rattle.std.proofs.Common.{◌∙◌, sym, ap, map, drop}
use Rattle.pid_findings.specs.Shown.{finding_view}
use Rattle.program_tables.specs.KnownTables.{KnownView, known_from}
use Rattle.program_tables.proofs.KnownSteps.{known_more, known_end, known_on}
use Rattle.program_tables.proofs.known_tables.KnownTables.take.Goals as goal

pub loop-at-preserved : goal.loop-at-preserved
loop-at-preserved g c =
    c.loop-at.invariant
    ∙ known_more (finding_view {A = g.row.A.Denot}) c.loop-at.self c.take_one.new.self c.loop-at.at c.args.findings.now c.index-findings-at.result
    c.loop-at-test.true c.index-findings-at.is c.in_ok-take_one.ensures

pub returns : goal.returns
returns g c =
    sym (sym (known_on (finding_view {A = g.row.A.Denot}) c.args.taken c.args.findings.now c.requires.within)
    ∙ ap (λ (known : KnownView). known_from known c.args.taken (map (finding_view {A = g.row.A.Denot}) (drop c.args.taken c.args.findings.now)))
    (sym c.requires.known)
    ∙ c.loop-at.invariant ∙ known_end (finding_view {A = g.row.A.Denot}) c.loop-at.self c.loop-at.at c.args.findings.now c.loop-at-test.false)
