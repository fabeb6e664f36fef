use Rattle.std.proofs.Common.{◌≡◌, ◌∙◌, rules}
use Rattle.pid_findings.specs.Shown.{finding_view}
use Rattle.joined_parts.specs.UnitStamps.{stamp_of, with_stamp}
use Rattle.joined_parts.proofs.CutLists.{stamp_all, stamp_next}
use Rattle.joined_parts.proofs.stamps.stamps_in.Goals as goal

pub loop-finding-preserved : goal.loop-finding-preserved
loop-finding-preserved c =
    let x = c.finding-item.result in
    let made : c.add_stamp.new.stamps.items ≡ with_stamp c.loop-finding.stamps.items (stamp_of c.args.found.now (finding_view x)) = search rules in
    c.loop-finding.invariant
    ∙ stamp_next finding_view c.args.found.now c.loop-finding.stamps.items c.add_stamp.new.stamps.items c.args.findings.now c.loop-finding.finding-index x
    c.loop-finding-test.true c.finding-item.is made

pub returns : goal.returns
returns c =
    stamp_all finding_view c.args.found.now c.loop-finding.stamps.items _ c.args.findings.now c.loop-finding.finding-index c.loop-finding-test.false
    c.loop-finding.invariant
