use Rattle.std.proofs.Common.{◌≡◌, ◌++◌, ℕ, List, Option, Some, None, sym, ap, ◌∙◌}
use Rattle.description_parts.specs.Described.{Described}
use Rattle.mux_core.specs.Scheduled.{Scheduled}
use Rattle.on_air.specs.AirStates.{AirState}
use Rattle.on_air.specs.Airing.{job_of}
use Rattle.on_air.specs.LineUps.{pids_gone, returned_pid}
use Rattle.on_air.proofs.LineUpsRead.{refused_returned}
use Rattle.on_air.proofs.taking_over.OnAir.take_over.Goals as goal

pub returns-in-Some-clause-takes : goal.returns-in-Some-clause-takes
returns-in-Some-clause-takes c = λ run a entry start now h t read.
    let gone = c.deref.ensures.value ∙ ap (λ (x : AirState). x.gone) c.self.view_is ∙ h.gone in
    let pid : returned_pid a.before.gone c.args.next.plan.description ≡ Some c.in-Some.pid =
    ap (λ (l : List ℕ). returned_pid l c.args.next.plan.description) (sym gone)
    ∙ ap (λ (d : Described). returned_pid c.deref.result.now d) (sym c.requires)
    ∙ sym c.returned_pid.ensures ∙ c.in-Some.is in
    (refused_returned run.scheduled (job_of a) a.before.gone entry.1.bytes c.args.next.plan c.in-Some.pid read pid, h)

pub returns-clause-takes : goal.returns-clause-takes
returns-clause-takes c = λ run a entry start now h t read.
    let same = ap (λ (x : AirState). x.gone) c.self.view_is ∙ h.gone in
    let none : returned_pid a.before.gone c.args.next.plan.description ≡ None =
    ap (λ (l : List ℕ). returned_pid l c.args.next.plan.description) (sym (c.deref.ensures.value ∙ same))
    ∙ ap (λ (d : Described). returned_pid c.deref.result.now d) (sym c.requires)
    ∙ sym c.returned_pid.ensures ∙ c.in-None.is in
    let old = c.description.ensures ∙ ap (λ (x : AirState). x.mux.schedule.description) c.self.view_is ∙ ap (λ (d : Scheduled). d.description) h.mux.scheduled in
    let gone : c.in-Ok.gone.items ≡ a.before.gone ++ pids_gone run.scheduled.description c.args.next.plan.description =
    c.in-Ok.ensures
    ∙ ap (λ (l : List ℕ). l ++ pids_gone c.description.result.now c.args.next.texts) (c.deref-2.ensures.value ∙ same)
    ∙ ap (λ (d : Described). a.before.gone ++ pids_gone d c.args.next.texts) old
    ∙ ap (λ (d : Described). a.before.gone ++ pids_gone run.scheduled.description d) c.requires in
    c.exchange.ensures.takes run a entry start now h t read none gone
