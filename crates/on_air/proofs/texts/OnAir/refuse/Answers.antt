use Rattle.std.proofs.Common.{◌+◌, Err, ap, subst}
use Rattle.on_air.specs.AirStates.{AirState}
use Rattle.on_air.specs.Hearing.{JudgesTexts}
use Rattle.on_air.specs.declared.texts.TextsError.{TextsError}
use Rattle.on_air.proofs.TextsOn.{texts_change, texts_refused}
use Rattle.on_air.proofs.texts.OnAir.refuse.Goals as goal

pub returns-in-Memory-clause-takes : goal.returns-in-Memory-clause-takes
returns-in-Memory-clause-takes c = λ run a entry start now h t judged. (texts_change run entry t.texts, h)

pub returns-in-Refused-clause-takes : goal.returns-in-Refused-clause-takes
returns-in-Refused-clause-takes c = λ run a entry start now h t judged.
    texts_refused run a entry c.in-Refused.cause start now c.args.self.now _ h
    (record {
      terms = ap (λ (x : AirState). x.terms) c.self.view_is;
      rate = ap (λ (x : AirState). x.rate) c.self.view_is;
      lead = ap (λ (x : AirState). x.lead) c.self.view_is;
      one_plan = ap (λ (x : AirState). x.one_plan) c.self.view_is;
      gone = ap (λ (x : AirState). x.gone) c.self.view_is;
    }) t
    (subst (λ (e : TextsError). JudgesTexts run a entry.1.bytes (Err e)) c.in-Refused.is judged) (ap (λ (x : AirState). x.mux) c.self.view_is)
    (ap (λ (x : AirState). x.packets) c.self.view_is) (ap (λ (x : AirState). x.greatest) c.self.view_is) (ap (λ (x : AirState). x.leap) c.self.view_is)
    (ap (λ (x : AirState). x.records + 1) c.self.view_is)
