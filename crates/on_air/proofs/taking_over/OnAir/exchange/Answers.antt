use Rattle.std.proofs.Common.{◌+◌, sym, ap, ◌∙◌, subst, refl}
use Rattle.description_parts.specs.Described.{Described}
use Rattle.description_parts.specs.Ranges.{IsInRange}
use Rattle.mux_core.specs.LineUps.{scheduled_by}
use Rattle.mux_core.specs.MuxStates.{MuxState}
use Rattle.on_air.specs.Airing.{greatest_lead, job_of}
use Rattle.on_air.specs.AirStates.{AirState, Carries, Promises}
use Rattle.on_air.specs.declared.options.Terms.{Terms}
use Rattle.on_air.proofs.LineUpsOn.{over_none, over_on, over_refused, unmoved}
use Rattle.on_air.proofs.taking_over.OnAir.exchange.Goals as goal

pub returns-in-Ok-clause-takes : goal.returns-in-Ok-clause-takes
returns-in-Ok-clause-takes c = λ run a entry start now h t read none gone.
    let carries = subst (λ (m : MuxState). Carries run (job_of a) m) (sym (ap (λ (x : AirState). x.mux) c.self.view_is)) h.mux in
    let takes = c.in-Ok.ensures.takes (job_of a) carries.represents in
    let ranges = subst (λ (d : Described). IsInRange d) c.description-2.ensures.description c.keeps_ranges.ensures in
    let promises : Promises (scheduled_by c.args.plan) =
    record { ranges = ranges; promised = c.accepted_plan.ensures c.args.plan.description c.args.plan.plan ranges c.description.ensures.serving } in
    let same = c.description.ensures.description in (
      over_none run a entry c.args.plan c.self.inside.mux _ read none carries takes,
      (
        c.now-slot.ensures (job_of a) carries.represents,
        over_on run a entry c.args.plan start now c.args.self.now _ c.self.inside.mux h t.line_up promises carries takes
            (c.in-Ok.ensures.untouched (job_of a) carries.represents) (c.in-Ok.ensures.silent (job_of a) carries.represents) none
            (ap (λ (x : AirState). x.packets) c.self.view_is) (ap (λ (x : AirState). x.terms) c.self.view_is)
            (c.numbers_of-of.ensures.rate ∙ ap (λ (d : Described). d.rate) same)
            (c.numbers_of-of.ensures.lead ∙ ap (λ (d : Described). greatest_lead d.streams + c.self.inside.terms.wait) same
            ∙ ap (λ (x : Terms). greatest_lead c.args.plan.description.streams + x.wait) (ap (λ (x : AirState). x.terms) c.self.view_is))
            (ap (λ (x : AirState). x.greatest) c.self.view_is) (ap (λ (x : AirState). x.leap) c.self.view_is)
            (ap (λ (x : AirState). x.records) c.self.view_is) (ap (λ (x : AirState). x.one_plan) c.self.view_is) gone,
      ),
    )

pub returns-in-Err-clause-takes : goal.returns-in-Err-clause-takes
returns-in-Err-clause-takes c = λ run a entry start now h t read none gone.
    let mux = ap (λ (x : AirState). x.mux) c.self.view_is in
    let carries = subst (λ (m : MuxState). Carries run (job_of a) m) (sym mux) h.mux in
    let takes = c.in-Err.ensures.takes (job_of a) carries.represents in
    let on = unmoved run a start now c.args.self.now _ h
    (record {
      terms = ap (λ (x : AirState). x.terms) c.self.view_is;
      rate = ap (λ (x : AirState). x.rate) c.self.view_is;
      lead = ap (λ (x : AirState). x.lead) c.self.view_is;
      one_plan = ap (λ (x : AirState). x.one_plan) c.self.view_is;
      gone = ap (λ (x : AirState). x.gone) c.self.view_is;
    })
    (c.in-Err.ensures.refused ∙ mux) (ap (λ (x : AirState). x.packets) c.self.view_is)
    (ap (λ (x : AirState). x.greatest) c.self.view_is) (ap (λ (x : AirState). x.leap) c.self.view_is) (ap (λ (x : AirState). x.records) c.self.view_is) in
    rw c.over_error.ensures
    (over_refused run a entry c.args.plan c.in-Err.error start now _ c.self.inside.mux _ read none carries takes on)
