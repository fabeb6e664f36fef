use Rattle.std.proofs.Common.{sym, ap, subst}
use Rattle.mux_core.specs.MuxStates.{MuxState}
use Rattle.on_air.specs.Airing.{job_of}
use Rattle.on_air.specs.AirStates.{AirState, Carries}
use Rattle.on_air.proofs.TextsOn.{none_refused, put_on}
use Rattle.on_air.proofs.texts.OnAir.put_on_air.Goals as goal

pub returns-clause-slot : goal.returns-clause-slot
returns-clause-slot c = λ run a start now h.
    let carries = subst (λ (m : MuxState). Carries run (job_of a) m) (sym (ap (λ (x : AirState). x.mux) c.self.view_is)) h.mux in
    c.now-slot.ensures (job_of a) carries.represents

pub returns-clause-changes : goal.returns-clause-changes
returns-clause-changes c = λ run a start now h none.
    let carries = subst (λ (m : MuxState). Carries run (job_of a) m) (sym (ap (λ (x : AirState). x.mux) c.self.view_is)) h.mux in
    let puts = c.change_texts.ensures.changes (job_of a) carries.represents in
    put_on run a c.args.texts _ start now c.args.self.now _ c.self.inside.mux h
    (record {
      terms = ap (λ (x : AirState). x.terms) c.self.view_is;
      rate = ap (λ (x : AirState). x.rate) c.self.view_is;
      lead = ap (λ (x : AirState). x.lead) c.self.view_is;
      one_plan = ap (λ (x : AirState). x.one_plan) c.self.view_is;
      gone = ap (λ (x : AirState). x.gone) c.self.view_is;
    }) (ap (λ (x : AirState). x.packets) c.self.view_is) (ap (λ (x : AirState). x.greatest) c.self.view_is) (ap (λ (x : AirState). x.leap) c.self.view_is)
    (ap (λ (x : AirState). x.records) c.self.view_is) carries puts (none_refused run a c.args.texts _ c.self.inside.mux _ carries puts none)
