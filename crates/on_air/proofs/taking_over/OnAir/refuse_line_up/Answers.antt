use Rattle.std.proofs.Common.{◌+◌, ap, subst}
use Rattle.on_air.specs.AirStates.{AirState}
use Rattle.on_air.specs.Hearing.{RefusesLineUp}
use Rattle.on_air.specs.declared.line_up.LineUpError.{LineUpError}
use Rattle.on_air.proofs.LineUpsOn.{line_up_refused}
use Rattle.on_air.proofs.TextsOn.{line_up_change}
use Rattle.on_air.proofs.taking_over.OnAir.refuse_line_up.Goals as goal

pub returns-in-Memory-clause-takes : goal.returns-in-Memory-clause-takes
returns-in-Memory-clause-takes c = λ run a entry start now h t refused. (line_up_change run entry t.line_up, h)

pub returns-in-Refused-clause-takes : goal.returns-in-Refused-clause-takes
returns-in-Refused-clause-takes c = λ run a entry start now h t refused.
    line_up_refused run a entry c.in-Refused.cause start now c.args.self.now _ h
    (record {
      terms = ap (λ (x : AirState). x.terms) c.self.view_is;
      rate = ap (λ (x : AirState). x.rate) c.self.view_is;
      lead = ap (λ (x : AirState). x.lead) c.self.view_is;
      one_plan = ap (λ (x : AirState). x.one_plan) c.self.view_is;
      gone = ap (λ (x : AirState). x.gone) c.self.view_is;
    }) t
    (subst (λ (e : LineUpError). RefusesLineUp run a entry e) c.in-Refused.is refused) (ap (λ (x : AirState). x.mux) c.self.view_is)
    (ap (λ (x : AirState). x.packets) c.self.view_is) (ap (λ (x : AirState). x.greatest) c.self.view_is) (ap (λ (x : AirState). x.leap) c.self.view_is)
    (ap (λ (x : AirState). x.records + 1) c.self.view_is)
