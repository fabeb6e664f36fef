use Rattle.std.proofs.Common.{◌≡◌, ◌+◌, ◌++◌, ◌∙◌, ◌||◌, sym, ap, ap₂, refl, ℕ, false, None, Option, List, map, drop, arith}
use Rattle.std.proofs.lemmas.List.{append-nil, drop-map}
use Rattle.pid_findings.specs.Shown.{finding_view}
use Rattle.es_units.specs.CarriedUnits.{RoleView}
use Rattle.es_units.specs.PidPlaces.{pids_in}
use Rattle.es_units.specs.UnitSteps.{cuts, has_cut}
use Rattle.es_units.specs.UnitWarnings.{current_after, cause_of, warning_list}
use Rattle.es_units.specs.declared.unit_warning.UnitWarningCause.{UnitWarningCause}
use Rattle.es_units.specs.declared.unit_warning.UnitWarning.{UnitWarning}
use Rattle.es_units.proofs.PidPlaces.{ComesTo, on_pid, not_back, comes_on, same_past}
use Rattle.es_units.proofs.UnitSteps.{cut_step, cut_finish, cut_past_others}
use Rattle.es_units.proofs.UnitWarnings.{left_at, left_end, left_start, none_before, same_cause_of, warnings_past_others}
use Rattle.es_units.proofs.warnings.warnings_by.Goals as goal

pub loop-at-init : goal.loop-at-init
loop-at-init g c =
    let view = finding_view {A = g.row.A.Denot} in
    let fs = c.args.findings.now in
    let pid = c.args.pid in
    let at = c.first-at.result in
    let comes : ComesTo view pid 0 at fs = c.first-at.ensures (pids_in (map view fs)) c.requires.links in
    record {
      on = comes_on view pid 0 at fs comes;
      warnings = left_start view c.args.split pid c.args.count fs c.new-out.result.items c.new-out.ensures.items
          ∙ warnings_past_others view c.args.split pid c.args.count None 0 at fs c.new-out.result.items comes;
      cut = none_before view pid fs ∙ cut_past_others view pid 0 at fs None false comes;
    }

pub cause_of-requires-clause-on : goal.cause_of-requires-clause-on
cause_of-requires-clause-on g c =
    let view = finding_view {A = g.row.A.Denot} in
    let fs = c.args.findings.now in
    let pid = c.args.pid in
    let at = c.loop-at.at in
    let inv = c.loop-at.invariant in
    let next = c.next-at.result in
    let comes : ComesTo view pid (at + 1) next fs =
    c.next-at.ensures (pids_in (map view fs)) pid c.requires.links (on_pid view pid at fs inv.on c.loop-at-test.true) in
    comes_on view pid (at + 1) next fs comes

pub loop-at-smaller : goal.loop-at-smaller
loop-at-smaller g c =
    let view = finding_view {A = g.row.A.Denot} in
    let fs = c.args.findings.now in
    let pid = c.args.pid in
    let at = c.loop-at.at in
    let inv = c.loop-at.invariant in
    let next = c.next-at.result in
    let comes : ComesTo view pid (at + 1) next fs =
    c.next-at.ensures (pids_in (map view fs)) pid c.requires.links (on_pid view pid at fs inv.on c.loop-at-test.true) in
    omega (arith, c.loop-at-test.true, not_back view pid (at + 1) next fs comes)

pub loop-at-preserved : goal.loop-at-preserved
loop-at-preserved g c =
    let view = finding_view {A = g.row.A.Denot} in
    let fs = c.args.findings.now in
    let pid = c.args.pid in
    let at = c.loop-at.at in
    let inv = c.loop-at.invariant in
    let next = c.next-at.result in
    let comes : ComesTo view pid (at + 1) next fs =
    c.next-at.ensures (pids_in (map view fs)) pid c.requires.links (on_pid view pid at fs inv.on c.loop-at-test.true) in
    let f = c.index-findings-at.result in
    let current = c.loop-at.current in
    let out = c.loop-at.out.items in
    let after = c.push_warning.new.out.items in
    let on = c.current_after-current.result in
    let later : cause_of c.args.split pid c.args.count current (view f) (drop next (map view fs)) ≡
    cause_of c.args.split pid c.args.count current (view f) (map view (drop (at + 1) fs)) =
    ap (cause_of c.args.split pid c.args.count current (view f)) (drop-map view next fs)
    ∙ sym (same_past view (cause_of c.args.split pid c.args.count current (view f)) pid (at + 1) next fs
    (same_cause_of c.args.split pid c.args.count current (view f)) comes) in
    let made = c.in_ok-push_warning.ensures ∙ ap₂ (λ (n : ℕ) (cause : Option UnitWarningCause). out ++ warning_list n cause)
    c.first_packet-packet.ensures (c.cause_of.ensures ∙ later) in
    let goes = c.current_after-current.ensures ∙ ap (λ (r : RoleView). current_after current r) c.role_of-role.ensures in
    let cut_as = c.cuts_any-cut.ensures ∙ ap (λ (r : RoleView). c.loop-at.cut || cuts current r) c.role_of-role.ensures in
    record {
      on = comes_on view pid (at + 1) next fs comes;
      warnings = inv.warnings
          ∙ left_at view c.args.split pid c.args.count at current on fs (drop (at + 1) fs)
          f out after c.loop-at-test.true c.index-findings-at.is refl made goes
          ∙ warnings_past_others view c.args.split pid c.args.count on (at + 1) next fs after comes;
      cut = cut_step view pid at fs f current on c.loop-at.cut c.cuts_any-cut.result
          (has_cut pid (map view fs)) c.loop-at-test.true c.index-findings-at.is cut_as goes inv.cut
          ∙ cut_past_others view pid (at + 1) next fs on c.cuts_any-cut.result comes;
    }

pub returns-clause-warnings : goal.returns-clause-warnings
returns-clause-warnings g c =
    let view = finding_view {A = g.row.A.Denot} in
    sym (c.loop-at.invariant.warnings
    ∙ ap (λ (out : List UnitWarning). c.loop-at.out.items ++ out)
    (left_end view c.args.split c.args.pid c.args.count c.loop-at.at c.loop-at.current c.args.findings.now c.loop-at-test.false)
    ∙ append-nil c.loop-at.out.items)

pub returns-clause-cut : goal.returns-clause-cut
returns-clause-cut g c =
    let view = finding_view {A = g.row.A.Denot} in
    cut_finish view c.args.pid c.loop-at.at c.args.findings.now c.loop-at.current c.loop-at.cut
    (has_cut c.args.pid (map view c.args.findings.now)) c.loop-at-test.false c.loop-at.invariant.cut
