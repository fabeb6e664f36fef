use Rattle.std.proofs.Common.{◌≡◌, ◌∙◌, ℕ, ◌+◌, Global, Option, None, map, drop, sym, ap, rules}
use Rattle.std.specs.Option.{option_or}
use Rattle.pid_findings.specs.Shown.{finding_view}
use Rattle.service_information.specs.StreamTime.{stream_time}
use Rattle.service_information.proofs.TimeSteps.{time_more, time_end}
use Rattle.service_information.proofs.time_table.stream_time.Goals as goal

pub loop-finding-preserved : goal.loop-finding-preserved
loop-finding-preserved c =
    let i = c.loop-finding.finding-index in
    let fs = c.args.findings.now in
    let none : c.time_found.result ≡ None = search rules in
    c.loop-finding.invariant
    ∙ time_more (finding_view {A = Global}) i fs c.finding-item.result c.loop-finding-test.true c.finding-item.is
    ∙ ap (λ (o : Option ℕ). option_or o (stream_time (map (finding_view {A = Global}) (drop (i + 1) fs)))) (sym c.time_found.ensures ∙ none)

pub returns-in-Some : goal.returns-in-Some
returns-in-Some c =
    let i = c.loop-finding.finding-index in
    let fs = c.args.findings.now in
    sym (c.loop-finding.invariant
    ∙ time_more (finding_view {A = Global}) i fs c.finding-item.result c.loop-finding-test.true c.finding-item.is
    ∙ ap (λ (o : Option ℕ). option_or o (stream_time (map (finding_view {A = Global}) (drop (i + 1) fs)))) (sym c.time_found.ensures ∙ c.in-Some.is))

pub returns : goal.returns
returns c = sym (c.loop-finding.invariant ∙ time_end (finding_view {A = Global}) c.loop-finding.finding-index c.args.findings.now c.loop-finding-test.false)
