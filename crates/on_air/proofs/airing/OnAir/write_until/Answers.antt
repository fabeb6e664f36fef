use Rattle.std.proofs.Common.{refl, sym, ap, ◌∙◌, subst}
use Rattle.std.proofs.lemmas.Result.{on_ok_weaker, IfErr-weaker}
use Rattle.mux_core.specs.MuxStates.{MuxState}
use Rattle.on_air.specs.Airing.{content_with, job_of}
use Rattle.on_air.specs.AirStates.{AirState, Carries}
use Rattle.on_air.proofs.Aired.{count_fails, counted_on, counted_same, end_output, fails_same, settled_same}
use Rattle.on_air.proofs.Contents.{line_up_goes_on}
use Rattle.on_air.proofs.airing.OnAir.write_until.Goals as goal

pub returns-clause-ok : goal.returns-clause-ok
returns-clause-ok g c = λ run a start h.
    let carries = subst (λ (m : MuxState). Carries run (job_of a) m) (sym (ap (λ (x : AirState). x.mux) c.self.view_is)) h.mux in
    let packets = ap (λ (x : AirState). x.packets) c.self.view_is in
    let terms = ap (λ (x : AirState). x.terms) c.self.view_is in
    let rate = ap (λ (x : AirState). x.rate) c.self.view_is in
    let lead = ap (λ (x : AirState). x.lead) c.self.view_is in
    let is = c.settled-target.ensures.value
    ∙ settled_same run a start _ c.args.self.now c.self.inside.rate c.self.inside.lead c.limit-limit.result c.args.due c.args.due c.self.inside.terms h rate
    lead terms c.limit-limit.ensures.value refl in
    on_ok_weaker c.write_on.result
    (λ wrote. counted_same run a _ _ start _ _ is
    (counted_on run a c.settled-target.result c.self.inside.packets.hex start _ _ c.args.self.now _ h (record { terms = terms; rate = rate; lead = lead; one_plan = ap (λ (x : AirState). x.one_plan) c.self.view_is; gone = ap (λ (x : AirState). x.gone) c.self.view_is })
    (ap (λ (x : AirState). x.packets.hex) c.self.view_is) (ap (λ (x : AirState). x.greatest) c.self.view_is) (ap (λ (x : AirState). x.leap) c.self.view_is)
    (ap (λ (x : AirState). x.records) c.self.view_is) wrote))
    (c.write_on.ensures.ok run (job_of a) (content_with run a.before a.accepted a.changes) start carries (line_up_goes_on run a h.line_ups.begun)
    (end_output run a start _ c.args.self.now c.self.inside.packets h packets))

pub returns-clause-err : goal.returns-clause-err
returns-clause-err g c = λ run a start h.
    let carries = subst (λ (m : MuxState). Carries run (job_of a) m) (sym (ap (λ (x : AirState). x.mux) c.self.view_is)) h.mux in
    let packets = ap (λ (x : AirState). x.packets) c.self.view_is in
    let terms = ap (λ (x : AirState). x.terms) c.self.view_is in
    let rate = ap (λ (x : AirState). x.rate) c.self.view_is in
    let lead = ap (λ (x : AirState). x.lead) c.self.view_is in
    let is = c.settled-target.ensures.value
    ∙ settled_same run a start _ c.args.self.now c.self.inside.rate c.self.inside.lead c.limit-limit.result c.args.due c.args.due c.self.inside.terms h rate
    lead terms c.limit-limit.ensures.value refl in
    IfErr-weaker c.write_on.result _ _
    (λ fault took. fails_same run a _ _ fault.sent start _ is
    (count_fails run a c.settled-target.result fault.sent c.self.inside.packets.hex start _ _ c.args.self.now h
    (ap (λ (x : AirState). x.packets.hex) c.self.view_is) took))
    (c.write_on.ensures.err run (job_of a) (content_with run a.before a.accepted a.changes) start carries (line_up_goes_on run a h.line_ups.begun)
    (end_output run a start _ c.args.self.now c.self.inside.packets h packets))
