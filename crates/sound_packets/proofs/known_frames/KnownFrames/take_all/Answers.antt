use Rattle.std.proofs.Common.{◌≡◌, ◌∙◌, rules}
use Rattle.pid_findings.specs.Shown.{finding_view}
use Rattle.sound_packets.specs.KnownFrames.{with_pid}
use Rattle.sound_packets.proofs.KnownSteps.{last_finding, next_finding}
use Rattle.sound_packets.proofs.known_frames.KnownFrames.take_all.Goals as goal

pub loop-finding-preserved : goal.loop-finding-preserved
loop-finding-preserved c =
    let x = c.finding-item.result in
    let made : c.take.new.self ≡ with_pid c.loop-finding.self (finding_view x).pid (finding_view x).what = search rules in
    c.loop-finding.invariant
    ∙ next_finding finding_view c.loop-finding.self c.take.new.self c.args.findings.now c.loop-finding.finding-index x c.loop-finding-test.true
    c.finding-item.is made

pub returns : goal.returns
returns c =
    last_finding finding_view c.loop-finding.self _ c.args.findings.now c.loop-finding.finding-index c.loop-finding-test.false c.loop-finding.invariant
