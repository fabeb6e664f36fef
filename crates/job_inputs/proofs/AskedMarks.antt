-- Options that ask for no marks mark no finding.
use Rattle.std.proofs.Common.{◌≡◌, ◌∙◌, false, List, [], refl, ap}
use Rattle.pid_findings.specs.Views.{FindingView}
use Rattle.es_units.specs.Marking.{MarkingView, all_marked, no_marking}
use Rattle.es_units.proofs.MarkedFindings.{nothing_marked}
use Rattle.job_inputs.specs.AskedMarks.{NoneIsAsked, marking_of}
use Rattle.job_programs.specs.JobOptions.{JobOptionsView}

no_marks : (options : JobOptionsView) (findings : List FindingView) → options.mark_access ≡ false → options.aligned ≡ [] →
    marking_of options findings ≡ no_marking
unfolding marking_of
no_marks options findings access aligned = rw (access, aligned) refl

pub none_asked : NoneIsAsked
none_asked options findings access aligned =
    ap (λ (m : MarkingView). all_marked m findings) (no_marks options findings access aligned) ∙ nothing_marked findings
