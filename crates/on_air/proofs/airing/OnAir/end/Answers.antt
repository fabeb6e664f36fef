use Rattle.std.proofs.Common.{sym, ap, ◌∙◌, subst}
use Rattle.mux_core.specs.MuxStates.{MuxState}
use Rattle.on_air.specs.Airing.{content_with, job_of, ended}
use Rattle.on_air.specs.AirStates.{AirState, Carries}
use Rattle.on_air.proofs.Aired.{count_fails, counted_on, counted_same, end_output, fails_same, last_same}
use Rattle.on_air.proofs.Contents.{line_up_goes_on}
use Rattle.on_air.proofs.airing.OnAir.end.Goals as goal

pub returns-in-Ok-clause-ok : goal.returns-in-Ok-clause-ok
returns-in-Ok-clause-ok g c = λ run a start h.
    let carries = subst (λ (m : MuxState). Carries run (job_of a) m) (sym (ap (λ (x : AirState). x.mux) c.self.view_is)) h.mux in
    let packets = ap (λ (x : AirState). x.packets) c.self.view_is in
    let terms = ap (λ (x : AirState). x.terms) c.self.view_is in
    let rate = ap (λ (x : AirState). x.rate) c.self.view_is in
    let greatest = ap (λ (x : AirState). x.greatest) c.self.view_is in
    let is = c.last_slot-target.ensures.value ∙ last_same run a start _ c.args.self.now c.self.inside.rate c.self.inside.greatest c.self.inside.terms h rate
    terms greatest in
    c.flush.ensures.ok run (ended run a) start
    (counted_same run a _ _ start _ _ is
    (counted_on run a c.last_slot-target.result c.self.inside.packets.hex start _ _ c.args.self.now _ h
    (record { terms = terms; rate = rate; lead = ap (λ (x : AirState). x.lead) c.self.view_is; one_plan = ap (λ (x : AirState). x.one_plan) c.self.view_is; gone = ap (λ (x : AirState). x.gone) c.self.view_is })
    (ap (λ (x : AirState). x.packets.hex) c.self.view_is) greatest (ap (λ (x : AirState). x.leap) c.self.view_is)
    (ap (λ (x : AirState). x.records) c.self.view_is)
    (c.in-Ok.ensures.ok run (job_of a) (content_with run a.before a.accepted a.changes) start carries (line_up_goes_on run a h.line_ups.begun)
    (end_output run a start _ c.args.self.now c.self.inside.packets h packets))))

pub returns-in-Ok-clause-err : goal.returns-in-Ok-clause-err
returns-in-Ok-clause-err g c = λ run a start h.
    let carries = subst (λ (m : MuxState). Carries run (job_of a) m) (sym (ap (λ (x : AirState). x.mux) c.self.view_is)) h.mux in
    let packets = ap (λ (x : AirState). x.packets) c.self.view_is in
    let terms = ap (λ (x : AirState). x.terms) c.self.view_is in
    let rate = ap (λ (x : AirState). x.rate) c.self.view_is in
    let greatest = ap (λ (x : AirState). x.greatest) c.self.view_is in
    let is = c.last_slot-target.ensures.value ∙ last_same run a start _ c.args.self.now c.self.inside.rate c.self.inside.greatest c.self.inside.terms h rate
    terms greatest in
    c.flush.ensures.err run (ended run a) start
    (counted_same run a _ _ start _ _ is
    (counted_on run a c.last_slot-target.result c.self.inside.packets.hex start _ _ c.args.self.now _ h
    (record { terms = terms; rate = rate; lead = ap (λ (x : AirState). x.lead) c.self.view_is; one_plan = ap (λ (x : AirState). x.one_plan) c.self.view_is; gone = ap (λ (x : AirState). x.gone) c.self.view_is })
    (ap (λ (x : AirState). x.packets.hex) c.self.view_is) greatest (ap (λ (x : AirState). x.leap) c.self.view_is)
    (ap (λ (x : AirState). x.records) c.self.view_is)
    (c.in-Ok.ensures.ok run (job_of a) (content_with run a.before a.accepted a.changes) start carries (line_up_goes_on run a h.line_ups.begun)
    (end_output run a start _ c.args.self.now c.self.inside.packets h packets))))

pub returns-in-Err-clause-err : goal.returns-in-Err-clause-err
returns-in-Err-clause-err g c = λ run a start h.
    let carries = subst (λ (m : MuxState). Carries run (job_of a) m) (sym (ap (λ (x : AirState). x.mux) c.self.view_is)) h.mux in
    let packets = ap (λ (x : AirState). x.packets) c.self.view_is in
    let terms = ap (λ (x : AirState). x.terms) c.self.view_is in
    let rate = ap (λ (x : AirState). x.rate) c.self.view_is in
    let greatest = ap (λ (x : AirState). x.greatest) c.self.view_is in
    let is = c.last_slot-target.ensures.value ∙ last_same run a start _ c.args.self.now c.self.inside.rate c.self.inside.greatest c.self.inside.terms h rate
    terms greatest in
    fails_same run a _ _ c.in-Err.fault.sent start _ is
    (count_fails run a c.last_slot-target.result c.in-Err.fault.sent c.self.inside.packets.hex start _ _ c.args.self.now h
    (ap (λ (x : AirState). x.packets.hex) c.self.view_is)
    (c.in-Err.ensures.err run (job_of a) (content_with run a.before a.accepted a.changes) start carries (line_up_goes_on run a h.line_ups.begun)
    (end_output run a start _ c.args.self.now c.self.inside.packets h packets)))
