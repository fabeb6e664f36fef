use Rattle.std.proofs.Common.{◌≡◌, ◌∙◌, rules}
use Rattle.pid_findings.specs.Shown.{finding_view}
use Rattle.joined_parts.specs.Recodings.{with_codings_of}
use Rattle.joined_parts.proofs.MapLists.{codings_all, codings_next}
use Rattle.joined_parts.proofs.recodings.CodingChanges.take_all.Goals as goal

pub loop-finding-preserved : goal.loop-finding-preserved
loop-finding-preserved c =
    let x = c.finding-item.result in
    let made : c.take.new.self ≡ with_codings_of c.loop-finding.self (finding_view x) = search rules in
    c.loop-finding.invariant
    ∙ codings_next finding_view c.loop-finding.self c.take.new.self c.args.findings.now c.loop-finding.finding-index x c.loop-finding-test.true
    c.finding-item.is made

pub returns : goal.returns
returns c =
    codings_all finding_view c.loop-finding.self _ c.args.findings.now c.loop-finding.finding-index c.loop-finding-test.false c.loop-finding.invariant
