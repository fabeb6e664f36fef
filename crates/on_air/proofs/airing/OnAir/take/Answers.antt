use Rattle.std.proofs.Common.{◌≡◌, ◌+◌, ℕ, max, true, false, refl, sym, ap, ◌∙◌, subst}
use Rattle.pes_packet.specs.AccessUnits.{AccessUnit}
use Rattle.mux_core.specs.MuxStates.{MuxState}
use Rattle.on_air.specs.declared.options.Terms.{Terms}
use Rattle.on_air.specs.Airing.{job_of, is_far_from}
use Rattle.on_air.specs.AirStates.{AirState, Carries}
use Rattle.on_air.proofs.Aired.{admitted, admitted_on, far_same, refused_on, taken_on, fails_on}
use Rattle.on_air.proofs.Courses.{alone_stays, fails_in}
use Rattle.on_air.proofs.TextsOn.{change_same, no_tick_change, unit_same}
use Rattle.on_air.proofs.airing.OnAir.take.Goals as goal

pub returns-then-is_far-clause-takes : goal.returns-then-is_far-clause-takes
returns-then-is_far-clause-takes g c = λ run a start h.
    let terms = ap (λ (x : AirState). x.terms) c.self.view_is in
    let greatest = ap (λ (x : AirState). x.greatest) c.self.view_is in
    let due = ap (λ (u : AccessUnit). u.dts) c.unit.view_is in
    let far : is_far_from run a (c.args.stream, c.args.unit) ≡ true =
    sym (far_same run a (c.args.stream, c.args.unit) start _ c.args.self.now c.self.inside.terms.ahead c.self.inside.greatest c.unit.inside.dts h
    (ap (λ (t : Terms). t.ahead) terms) greatest due)
    ∙ sym c.is_far.ensures ∙ c.if-is_far.true in
    c.pass_over.ensures.passes run a (c.args.stream, c.args.unit) start _ h refl due far

pub returns-then-changes_run-clause-takes : goal.returns-then-changes_run-clause-takes
returns-then-changes_run-clause-takes g c = λ run a start h.
    let terms = ap (λ (x : AirState). x.terms) c.self.view_is in
    let greatest = ap (λ (x : AirState). x.greatest) c.self.view_is in
    let due = ap (λ (u : AccessUnit). u.dts) c.unit.view_is in
    let near : is_far_from run a (c.args.stream, c.args.unit) ≡ false =
    sym (far_same run a (c.args.stream, c.args.unit) start _ c.args.self.now c.self.inside.terms.ahead c.self.inside.greatest c.unit.inside.dts h
    (ap (λ (t : Terms). t.ahead) terms) greatest due)
    ∙ sym c.is_far.ensures ∙ c.if-is_far.false in
    let changes = change_same run (c.args.stream, c.args.unit) c.args.self.now.one_plan h.promises.ranges h.one_plan
    (sym c.changes_run.ensures ∙ c.if-changes_run.true) in
    c.take_change.ensures.takes run a start h
    (record { changes = changes; unit = no_tick_change run (c.args.stream, c.args.unit) changes; near = near })

pub returns-in-Some-clause-takes : goal.returns-in-Some-clause-takes
returns-in-Some-clause-takes g c = λ run a start h.
    let carries = subst (λ (m : MuxState). Carries run (job_of a) m) (sym (ap (λ (x : AirState). x.mux) c.self.view_is)) h.mux in
    let packets = ap (λ (x : AirState). x.packets) c.self.view_is in
    let terms = ap (λ (x : AirState). x.terms) c.self.view_is in
    let rate = ap (λ (x : AirState). x.rate) c.self.view_is in
    let lead = ap (λ (x : AirState). x.lead) c.self.view_is in
    let greatest = ap (λ (x : AirState). x.greatest) c.self.view_is in
    let records = ap (λ (x : AirState). x.records + 1) c.self.view_is in
    let due = ap (λ (u : AccessUnit). u.dts) c.unit.view_is in
    let near : is_far_from run a (c.args.stream, c.args.unit) ≡ false =
    sym (far_same run a (c.args.stream, c.args.unit) start _ c.args.self.now c.self.inside.terms.ahead c.self.inside.greatest c.unit.inside.dts h
    (ap (λ (t : Terms). t.ahead) terms) greatest due)
    ∙ sym c.is_far.ensures ∙ c.if-is_far.false in
    let alone = unit_same run (c.args.stream, c.args.unit) c.args.self.now.one_plan h.one_plan (sym c.changes_run.ensures ∙ c.if-changes_run.false) in
    refused_on run a (c.args.stream, c.args.unit) c.in-Some.unit start _ c.args.self.now _ h (record { terms = terms; rate = rate; lead = lead; one_plan = ap (λ (x : AirState). x.one_plan) c.self.view_is; gone = ap (λ (x : AirState). x.gone) c.self.view_is }) packets
    greatest (ap (λ (x : AirState). x.leap) c.self.view_is) records
    (rw c.in-Some.is at (c.admit.ensures run a carries near alone))

pub returns-in-Ok-clause-takes : goal.returns-in-Ok-clause-takes
returns-in-Ok-clause-takes g c = λ run a start h.
    let carries = subst (λ (m : MuxState). Carries run (job_of a) m) (sym (ap (λ (x : AirState). x.mux) c.self.view_is)) h.mux in
    let packets = ap (λ (x : AirState). x.packets) c.self.view_is in
    let terms = ap (λ (x : AirState). x.terms) c.self.view_is in
    let rate = ap (λ (x : AirState). x.rate) c.self.view_is in
    let lead = ap (λ (x : AirState). x.lead) c.self.view_is in
    let greatest = ap (λ (x : AirState). x.greatest) c.self.view_is in
    let records = ap (λ (x : AirState). x.records + 1) c.self.view_is in
    let due = ap (λ (u : AccessUnit). u.dts) c.unit.view_is in
    let near : is_far_from run a (c.args.stream, c.args.unit) ≡ false =
    sym (far_same run a (c.args.stream, c.args.unit) start _ c.args.self.now c.self.inside.terms.ahead c.self.inside.greatest c.unit.inside.dts h
    (ap (λ (t : Terms). t.ahead) terms) greatest due)
    ∙ sym c.is_far.ensures ∙ c.if-is_far.false in
    let alone = unit_same run (c.args.stream, c.args.unit) c.args.self.now.one_plan h.one_plan (sym c.changes_run.ensures ∙ c.if-changes_run.false) in
    let admits = rw c.in-None.is at (c.admit.ensures run a carries near alone) in
    let last = c.max-greatest.ensures ∙ ap (λ (n : ℕ). max n c.unit.inside.dts) greatest ∙ ap (λ (n : ℕ). max c.args.self.now.greatest n) due in
    let on = admitted_on run a (c.args.stream, c.args.unit) start _ c.args.self.now _ h (record { terms = terms; rate = rate; lead = lead; one_plan = ap (λ (x : AirState). x.one_plan) c.self.view_is; gone = ap (λ (x : AirState). x.gone) c.self.view_is }) packets last
    c.none-self-inside.ensures records admits in
    taken_on run a (c.args.stream, c.args.unit) c.unit.inside.dts start _ c.admit.new.mux _ admits alone due
    (c.in-Ok.ensures.ok run (admitted a (c.args.stream, c.args.unit)) start on)

pub returns-in-Err-clause-takes : goal.returns-in-Err-clause-takes
returns-in-Err-clause-takes g c = λ run a start h.
    let carries = subst (λ (m : MuxState). Carries run (job_of a) m) (sym (ap (λ (x : AirState). x.mux) c.self.view_is)) h.mux in
    let packets = ap (λ (x : AirState). x.packets) c.self.view_is in
    let terms = ap (λ (x : AirState). x.terms) c.self.view_is in
    let rate = ap (λ (x : AirState). x.rate) c.self.view_is in
    let lead = ap (λ (x : AirState). x.lead) c.self.view_is in
    let greatest = ap (λ (x : AirState). x.greatest) c.self.view_is in
    let records = ap (λ (x : AirState). x.records + 1) c.self.view_is in
    let due = ap (λ (u : AccessUnit). u.dts) c.unit.view_is in
    let near : is_far_from run a (c.args.stream, c.args.unit) ≡ false =
    sym (far_same run a (c.args.stream, c.args.unit) start _ c.args.self.now c.self.inside.terms.ahead c.self.inside.greatest c.unit.inside.dts h
    (ap (λ (t : Terms). t.ahead) terms) greatest due)
    ∙ sym c.is_far.ensures ∙ c.if-is_far.false in
    let alone = unit_same run (c.args.stream, c.args.unit) c.args.self.now.one_plan h.one_plan (sym c.changes_run.ensures ∙ c.if-changes_run.false) in
    let admits = rw c.in-None.is at (c.admit.ensures run a carries near alone) in
    let last = c.max-greatest.ensures ∙ ap (λ (n : ℕ). max n c.unit.inside.dts) greatest ∙ ap (λ (n : ℕ). max c.args.self.now.greatest n) due in
    let on = admitted_on run a (c.args.stream, c.args.unit) start _ c.args.self.now _ h (record { terms = terms; rate = rate; lead = lead; one_plan = ap (λ (x : AirState). x.one_plan) c.self.view_is; gone = ap (λ (x : AirState). x.gone) c.self.view_is }) packets last
    c.none-self-inside.ensures records admits in
    let fails = fails_on run a (c.args.stream, c.args.unit) c.unit.inside.dts c.in-Err.fault.sent start _ c.admit.new.mux admits alone due
    (c.in-Err.ensures.err run (admitted a (c.args.stream, c.args.unit)) start on) in
    (fails.0, fails_in run a (c.args.stream, c.args.unit) start _ c.in-Err.fault.sent fails.0 (alone_stays run a (c.args.stream, c.args.unit) alone) fails.1)
