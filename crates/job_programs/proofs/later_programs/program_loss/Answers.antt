use Rattle.std.proofs.Common.{◌≡◌, ◌∙◌, Global, sym, true, false, rules}
use Rattle.pid_findings.specs.Shown.{finding_view}
use Rattle.service_information.proofs.FirstPackets.{packet_later, packet_here, packet_end}
use Rattle.job_programs.specs.LaterPrograms.{loses, program_loss}
use Rattle.job_programs.proofs.later_programs.program_loss.Goals as goal

pub loop-finding-preserved : goal.loop-finding-preserved
loop-finding-preserved c =
    let stays : c.loses.result ≡ false = search rules in
    c.loop-finding.invariant
    ∙ packet_later (finding_view {A = Global}) (loses c.args.options.now c.args.named.now) c.loop-finding.finding-index c.args.findings.now
    c.finding-item.result c.loop-finding-test.true c.finding-item.is (sym c.loses.ensures ∙ stays)

pub returns-then-loses : goal.returns-then-loses
unfolding program_loss
returns-then-loses c =
    let lost : c.loses.result ≡ true = search rules in
    sym (c.loop-finding.invariant
    ∙ packet_here (finding_view {A = Global}) (loses c.args.options.now c.args.named.now) c.loop-finding.finding-index c.args.findings.now
    c.finding-item.result c.loop-finding-test.true c.finding-item.is (sym c.loses.ensures ∙ lost))

pub returns : goal.returns
unfolding program_loss
returns c =
    sym (c.loop-finding.invariant ∙ packet_end (finding_view {A = Global}) (loses c.args.options.now c.args.named.now) c.loop-finding.finding-index
    c.args.findings.now c.loop-finding-test.false)
