use Rattle.std.proofs.Common.{sym, ap, ◌∙◌, subst}
use Rattle.std.proofs.lemmas.Result.{on_ok_weaker, IfErr-weaker}
use Rattle.mux_core.specs.Buffer.{Buffered, IsOutput}
use Rattle.on_air.specs.Airing.{air_output}
use Rattle.on_air.specs.AirStates.{AirState}
use Rattle.on_air.proofs.Aired.{flushed, not_flushed}
use Rattle.on_air.proofs.airing.OnAir.flush.Goals as goal

pub returns-clause-ok : goal.returns-clause-ok
returns-clause-ok g c = λ run a start h.
    let packets = ap (λ (x : AirState). x.packets) c.self.view_is in
    let output = subst (λ (p : Buffered). IsOutput start (g.W.Write.contents c.args.to.now) p (air_output run a)) (sym packets) h.output in
    on_ok_weaker c.flush.result
    (λ out. flushed run a start _ _ c.args.self.now _ h
    (record {
      terms = ap (λ (x : AirState). x.terms) c.self.view_is;
      rate = ap (λ (x : AirState). x.rate) c.self.view_is;
      lead = ap (λ (x : AirState). x.lead) c.self.view_is;
      one_plan = ap (λ (x : AirState). x.one_plan) c.self.view_is;
      gone = ap (λ (x : AirState). x.gone) c.self.view_is;
    })
    (ap (λ (x : AirState). x.mux) c.self.view_is) (c.flush.ensures.hex ∙ ap (λ (p : Buffered). p.hex) packets)
    (ap (λ (x : AirState). x.greatest) c.self.view_is) (ap (λ (x : AirState). x.leap) c.self.view_is) (ap (λ (x : AirState). x.records) c.self.view_is) out)
    (c.flush.ensures.ok start (air_output run a) output)

pub returns-clause-err : goal.returns-clause-err
returns-clause-err g c = λ run a start h.
    let packets = ap (λ (x : AirState). x.packets) c.self.view_is in
    let output = subst (λ (p : Buffered). IsOutput start (g.W.Write.contents c.args.to.now) p (air_output run a)) (sym packets) h.output in
    IfErr-weaker c.flush.result _ _ (λ fault took. not_flushed run a start _ _ fault.sent c.args.self.now h took)
    (c.flush.ensures.err start (air_output run a) output)
