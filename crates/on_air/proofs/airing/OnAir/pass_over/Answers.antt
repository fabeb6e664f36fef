use Rattle.std.proofs.Common.{◌≡◌, ◌+◌, true, false, refl, sym, ap, ◌∙◌, subst}
use Rattle.mux_core.specs.MuxStates.{MuxState, Represents}
use Rattle.on_air.specs.declared.leap.Leap.{Leap}
use Rattle.on_air.specs.declared.options.Terms.{Terms}
use Rattle.on_air.specs.Leaps.{is_followed}
use Rattle.on_air.specs.Airing.{job_of, leap_by}
use Rattle.on_air.specs.AirStates.{AirState}
use Rattle.on_air.proofs.Aired.{leap_same, passed_last, passed_over}
use Rattle.on_air.proofs.airing.OnAir.pass_over.Goals as goal

pub returns-then-not-is_followed-clause-passes : goal.returns-then-not-is_followed-clause-passes
returns-then-not-is_followed-clause-passes g c = λ run a entry start now h stream due far.
    let terms = ap (λ (x : AirState). x.terms) c.self.view_is in
    let leap = c.with-leap.ensures
    ∙ leap_same run a entry start now c.args.self.now c.self.inside.leap c.self.inside.terms.ahead c.args.due h (ap (λ (t : Terms). t.ahead) terms)
    (ap (λ (x : AirState). x.leap) c.self.view_is) due in
    let few : is_followed (leap_by run a entry) ≡ false = ap (λ (l : Leap). is_followed l) (sym leap) ∙ sym c.is_followed.ensures ∙ c.if-not-is_followed.true in
    passed_over run a entry c.args.stream c.self.inside.greatest c.args.due c.self.inside.terms.ahead start now c.args.self.now _ h
    (record { terms = terms; rate = ap (λ (x : AirState). x.rate) c.self.view_is; lead = ap (λ (x : AirState). x.lead) c.self.view_is; one_plan = ap (λ (x : AirState). x.one_plan) c.self.view_is; gone = ap (λ (x : AirState). x.gone) c.self.view_is }) far few
    stream (ap (λ (x : AirState). x.greatest) c.self.view_is) due (ap (λ (t : Terms). t.ahead) terms)
    (ap (λ (x : AirState). x.mux) c.self.view_is) (ap (λ (x : AirState). x.packets) c.self.view_is) (ap (λ (x : AirState). x.greatest) c.self.view_is) leap
    (ap (λ (x : AirState). x.records + 1) c.self.view_is)

pub returns-clause-passes : goal.returns-clause-passes
returns-clause-passes g c = λ run a entry start now h stream due far.
    let terms = ap (λ (x : AirState). x.terms) c.self.view_is in
    let represents = subst (λ (m : MuxState). Represents (job_of a) m) (sym (ap (λ (x : AirState). x.mux) c.self.view_is)) h.mux.represents in
    let leap = c.with-leap.ensures
    ∙ leap_same run a entry start now c.args.self.now c.self.inside.leap c.self.inside.terms.ahead c.args.due h (ap (λ (t : Terms). t.ahead) terms)
    (ap (λ (x : AirState). x.leap) c.self.view_is) due in
    let many : is_followed (leap_by run a entry) ≡ true = ap (λ (l : Leap). is_followed l) (sym leap) ∙ sym c.is_followed.ensures
    ∙ c.if-not-is_followed.false in
    passed_last run a entry c.now-packet.result c.self.inside.greatest c.args.due start now c.args.self.now _ h
    (record { terms = terms; rate = ap (λ (x : AirState). x.rate) c.self.view_is; lead = ap (λ (x : AirState). x.lead) c.self.view_is; one_plan = ap (λ (x : AirState). x.one_plan) c.self.view_is; gone = ap (λ (x : AirState). x.gone) c.self.view_is }) far many
    (c.now-packet.ensures (job_of a) represents) (ap (λ (x : AirState). x.greatest) c.self.view_is) due
    (ap (λ (x : AirState). x.mux) c.self.view_is) (ap (λ (x : AirState). x.packets) c.self.view_is) refl c.none-self-inside.ensures
    (ap (λ (x : AirState). x.records + 1) c.self.view_is)
