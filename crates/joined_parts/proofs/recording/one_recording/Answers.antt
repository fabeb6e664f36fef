use Rattle.std.proofs.Common.{◌≡◌, ◌∙◌, IfOk, List, ap, map, subst}
use Rattle.pid_findings.specs.Shown.{finding_view}
use Rattle.pid_findings.specs.Views.{FindingView}
use Rattle.packet_pcr.specs.declared.pcr_reading.FoundPcr.{FoundPcr}
use Rattle.joined_parts.specs.Joined.{joined, joined_references}
use Rattle.joined_parts.specs.Recordings.{on_own_pids}
use Rattle.joined_parts.specs.WholeMaps.{one_clock, whole_maps}
use Rattle.joined_parts.proofs.recording.one_recording.Goals as goal

pub returns-clause-references : goal.returns-clause-references
returns-clause-references c =
    let all : List FindingView = on_own_pids (map finding_view c.args.findings.items) in
    let references : c.in_ok-references.references.items ≡ one_clock all c.args.references.items =
    c.in_ok-references.ensures.references ∙ ap (λ (fs : List FindingView). one_clock fs c.args.references.items) c.in_ok-findings.ensures in
    let findings : map finding_view c.in_ok-references.findings.items ≡ whole_maps all =
    c.in_ok-references.ensures.findings ∙ ap whole_maps c.in_ok-findings.ensures in
    subst (λ (fs : List FindingView). IfOk c.in_order.result (λ one. one.0.items ≡ joined_references (one_clock all c.args.references.items) fs)) findings
    (subst (λ (rs : List FoundPcr). IfOk c.in_order.result (λ one. one.0.items ≡ joined_references rs (map finding_view c.in_ok-references.findings.items)))
    references c.in_order.ensures.references)

pub returns-clause-findings : goal.returns-clause-findings
returns-clause-findings c =
    let all : List FindingView = on_own_pids (map finding_view c.args.findings.items) in
    let references : c.in_ok-references.references.items ≡ one_clock all c.args.references.items =
    c.in_ok-references.ensures.references ∙ ap (λ (fs : List FindingView). one_clock fs c.args.references.items) c.in_ok-findings.ensures in
    let findings : map finding_view c.in_ok-references.findings.items ≡ whole_maps all =
    c.in_ok-references.ensures.findings ∙ ap whole_maps c.in_ok-findings.ensures in
    subst (λ (fs : List FindingView). IfOk c.in_order.result (λ one. map finding_view one.1.items ≡ joined (one_clock all c.args.references.items) fs)) findings
    (subst (λ (rs : List FoundPcr).
    IfOk c.in_order.result (λ one. map finding_view one.1.items ≡ joined rs (map finding_view c.in_ok-references.findings.items)))
    references c.in_order.ensures.findings)
