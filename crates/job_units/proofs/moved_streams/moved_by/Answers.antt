use Rattle.std.proofs.Common.{◌≡◌, ◌∙◌, ℕ, List, None, ap, subst, map}
use Rattle.pid_findings.specs.Shown.{finding_view}
use Rattle.es_moments.specs.Stamps.{first_fault, moved}
use Rattle.es_moments.specs.UnitMoments.{moment_of}
use Rattle.job_programs.specs.declared.program_clock.ProgramClock.{ProgramClock}
use Rattle.job_programs.specs.JobPrograms.{clock_in}
use Rattle.job_programs.specs.JobStreams.{WireStreamView}
use Rattle.job_units.specs.Moments.{base_of, pts_limit_of}
use Rattle.job_units.proofs.StreamMoments.{head_of, moved_leads, moved_is}
use Rattle.job_units.proofs.moved_streams.moved_by.Goals as goal
use Rattle.job_programs.specs.Answers.{Leads}
use Rattle.es_moments.specs.WireUnits.{CarriedUnit}

pub returns-in-Ok-clause-value : goal.returns-in-Ok-clause-value
unfolding Leads
returns-in-Ok-clause-value c =
    let s = c.args.stream in
    let base = c.in_ok-base.base in
    let us : c.deref.result.now ≡ s.units = c.deref.ensures.value ∙ ap (λ (w : WireStreamView). w.units) c.stream.view_is in
    let based = c.in_ok-base.ensures.value
    ∙ ap (base_of c.args.earliest c.args.firsts.now)
    (c.clock_in-clock.ensures ∙ ap (λ (w : WireStreamView). clock_in c.args.programs.now w.program) c.stream.view_is) in
    let limit : c.stream_limit-limit.result ≡ pts_limit_of s.stream_type s.descriptors = c.stream_limit-limit.ensures in
    let sound = subst (λ (n : ℕ). first_fault n base None 0 (map (λ (u : CarriedUnit). u.unit) s.units) ≡ None) limit
    (subst (λ (l : List CarriedUnit). first_fault c.stream_limit-limit.result base None 0 (map (λ (u : CarriedUnit). u.unit) l) ≡ None) us
    (c.in-Ok.ensures.sound)) in
    let moments = c.in-Ok.ensures.moments ∙ ap (λ (l : List CarriedUnit). map moment_of (moved base None (map (λ (u : CarriedUnit). u.unit) l))) us in
    moved_leads c.args.make_dts (map finding_view c.args.findings.now) c.args.earliest base c.args.programs.now c.args.firsts.now s c.in-Ok.units.items _
    based c.requires.carried sound moments (ap (λ (w : WireStreamView). head_of w c.in-Ok.units.items) c.stream.view_is)

pub returns-in-Ok-clause-moved : goal.returns-in-Ok-clause-moved
returns-in-Ok-clause-moved c =
    let s = c.args.stream in
    let base = c.in_ok-base.base in
    let us : c.deref.result.now ≡ s.units = c.deref.ensures.value ∙ ap (λ (w : WireStreamView). w.units) c.stream.view_is in
    let limit : c.stream_limit-limit.result ≡ pts_limit_of s.stream_type s.descriptors = c.stream_limit-limit.ensures in
    let sound = subst (λ (n : ℕ). first_fault n base None 0 (map (λ (u : CarriedUnit). u.unit) s.units) ≡ None) limit
    (subst (λ (l : List CarriedUnit). first_fault c.stream_limit-limit.result base None 0 (map (λ (u : CarriedUnit). u.unit) l) ≡ None) us
    (c.in-Ok.ensures.sound)) in
    let moments = c.in-Ok.ensures.moments ∙ ap (λ (l : List CarriedUnit). map moment_of (moved base None (map (λ (u : CarriedUnit). u.unit) l))) us in
    moved_is c.args.make_dts (map finding_view c.args.findings.now) base s c.in-Ok.units.items _
    c.in_ok-base.ensures.bound c.requires.carried sound moments (ap (λ (w : WireStreamView). head_of w c.in-Ok.units.items) c.stream.view_is)
