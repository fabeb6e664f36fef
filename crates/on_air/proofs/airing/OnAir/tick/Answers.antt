use Rattle.std.proofs.Common.{◌+◌, ℕ, max, ap, ◌∙◌, subst}
use Rattle.std.specs.Prelude.{IfErr, OnOk}
use Rattle.on_air.specs.Airing.{on_to, settled_at, with_count}
use Rattle.on_air.specs.AirStates.{AirState, IsOnAir}
use Rattle.on_air.specs.Hearing.{Fails}
use Rattle.on_air.proofs.TextsOn.{noted, noted_on}
use Rattle.on_air.proofs.airing.OnAir.tick.Goals as goal

pub returns-clause-ok : goal.returns-clause-ok
returns-clause-ok g c = λ run a entry start h due.
    let greatest = c.max-greatest.ensures ∙ ap (λ (n : ℕ). max n c.args.due) (ap (λ (x : AirState). x.greatest) c.self.view_is)
    ∙ ap (λ (n : ℕ). max c.args.self.now.greatest n) due in
    let on = noted_on run a entry start _ c.args.self.now _ h
    (record {
      terms = ap (λ (x : AirState). x.terms) c.self.view_is;
      rate = ap (λ (x : AirState). x.rate) c.self.view_is;
      lead = ap (λ (x : AirState). x.lead) c.self.view_is;
      one_plan = ap (λ (x : AirState). x.one_plan) c.self.view_is;
      gone = ap (λ (x : AirState). x.gone) c.self.view_is;
    }) (ap (λ (x : AirState). x.mux) c.self.view_is) (ap (λ (x : AirState). x.packets) c.self.view_is) greatest c.none-self-inside.ensures
    (ap (λ (x : AirState). x.records + 1) c.self.view_is) in
    subst (λ (n : ℕ). OnOk c.write_until.result (IsOnAir run (with_count (noted a entry) (on_to a.slots (settled_at run n))) start
    (g.W.Write.contents c.write_until.new.to) c.write_until.new.self)) due (c.write_until.ensures.ok run (noted a entry) start on)

pub returns-clause-err : goal.returns-clause-err
returns-clause-err g c = λ run a entry start h due.
    let greatest = c.max-greatest.ensures ∙ ap (λ (n : ℕ). max n c.args.due) (ap (λ (x : AirState). x.greatest) c.self.view_is)
    ∙ ap (λ (n : ℕ). max c.args.self.now.greatest n) due in
    let on = noted_on run a entry start _ c.args.self.now _ h
    (record {
      terms = ap (λ (x : AirState). x.terms) c.self.view_is;
      rate = ap (λ (x : AirState). x.rate) c.self.view_is;
      lead = ap (λ (x : AirState). x.lead) c.self.view_is;
      one_plan = ap (λ (x : AirState). x.one_plan) c.self.view_is;
      gone = ap (λ (x : AirState). x.gone) c.self.view_is;
    }) (ap (λ (x : AirState). x.mux) c.self.view_is) (ap (λ (x : AirState). x.packets) c.self.view_is) greatest c.none-self-inside.ensures
    (ap (λ (x : AirState). x.records + 1) c.self.view_is) in
    subst (λ (n : ℕ). IfErr c.write_until.result (λ fault. Fails run (with_count (noted a entry) (on_to a.slots (settled_at run n))) start
    (g.W.Write.contents c.write_until.new.to) fault.sent)) due (c.write_until.ensures.err run (noted a entry) start on)
