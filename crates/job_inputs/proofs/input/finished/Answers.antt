use Rattle.std.proofs.Common.{◌≡◌, ◌∙◌, All, map, ap, sym, subst}
use Rattle.pid_findings.specs.Shown.{finding_view}
use Rattle.job_inputs.specs.InputDrafts.{InputDraftView}
use Rattle.job_inputs.proofs.InputStreams.{are_streams}
use Rattle.job_inputs.proofs.input.finished.Goals as goal
use Rattle.job_programs.specs.FoundUnits.{IsMoved}
use Rattle.job_units.specs.Moments.{timed_stream}

pub returns-clause-streams : goal.returns-clause-streams
returns-clause-streams c =
    let made = c.args.options.now.make_dts in
    let fs = map finding_view c.args.findings.now in
    let are : c.in_ok-streams.streams.items ≡ map (timed_stream fs) c.args.draft.streams =
    c.in_ok-streams.ensures.streams ∙ ap (λ (d : InputDraftView). map (timed_stream fs) d.streams) c.draft.view_is in
    λ all. are_streams made fs c.in_ok-streams.streams.items c.with_moved.result (subst (All (IsMoved made fs)) (sym are) all)
    c.with_moved.ensures.same c.with_moved.ensures.fits c.with_moved.ensures.stream_count
