use Rattle.std.proofs.Common.{◌≡◌, ◌+◌, ◌++◌, ◌∙◌, ◌||◌, ℕ, false, sym, ap, ap₂, Option, map, arith}
use Rattle.pid_findings.specs.Shown.{finding_view}
use Rattle.es_units.specs.Shown.{role_view}
use Rattle.es_units.specs.CarriedUnits.{RoleView, role_of, units_in}
use Rattle.es_units.specs.PidPlaces.{pids_in}
use Rattle.es_units.specs.UnitWarnings.{current_after}
use Rattle.es_units.specs.UnitSteps.{UnitsSoFar, cuts, goes_on_as, has_cut, made_whole, after_finding}
use Rattle.es_units.proofs.PidPlaces.{ComesTo, on_pid, not_back, comes_on}
use Rattle.es_units.proofs.UnitSteps.{units_with, units_start, units_step, units_finish, units_past_others, cut_start, cut_step, cut_finish, cut_past_others}
use Rattle.es_units.proofs.UnitSteps.{id_under_way, same_id}
use Rattle.es_units.proofs.found.units_by.Goals as goal

pub loop-at-init : goal.loop-at-init
loop-at-init g c =
    let view = finding_view {A = g.row.A.Denot} in
    let fs = c.args.findings.now in
    let pid = c.args.pid in
    let at = c.first-at.result in
    let comes : ComesTo view pid 0 at fs = c.first-at.ensures (pids_in (map view fs)) c.requires.links in
    let taker = c.new-taker.result in
    let own : taker.pid ≡ pid = ap (λ (s : UnitsSoFar). s.pid) c.new-taker.ensures in
    record {
      pid = own;
      on = comes_on view pid 0 at fs comes;
      units = units_start view c.args.split pid fs c.new-units.result.items c.new-units.ensures.items
          ∙ ap (λ (s : UnitsSoFar). c.new-units.result.items ++ units_with s.split s.pid s.unit (map view fs)) (sym c.new-taker.ensures)
          ∙ units_past_others view taker pid 0 at fs c.new-units.result.items own comes;
      cut = cut_start view pid fs taker.unit (ap (λ (s : UnitsSoFar). s.unit) c.new-taker.ensures)
          ∙ cut_past_others view pid 0 at fs (id_under_way taker.unit) false comes;
    }

pub loop-at-smaller : goal.loop-at-smaller
loop-at-smaller g c =
    let view = finding_view {A = g.row.A.Denot} in
    let fs = c.args.findings.now in
    let pid = c.args.pid in
    let at = c.loop-at.at in
    let inv = c.loop-at.invariant in
    let next = c.next-at.result in
    let comes : ComesTo view pid (at + 1) next fs =
    c.next-at.ensures (pids_in (map view fs)) pid c.requires.links (on_pid view pid at fs inv.on c.loop-at-test.true) in
    omega (arith, c.loop-at-test.true, not_back view pid (at + 1) next fs comes)

pub loop-at-preserved : goal.loop-at-preserved
loop-at-preserved g c =
    let view = finding_view {A = g.row.A.Denot} in
    let fs = c.args.findings.now in
    let pid = c.args.pid in
    let at = c.loop-at.at in
    let inv = c.loop-at.invariant in
    let next = c.next-at.result in
    let comes : ComesTo view pid (at + 1) next fs =
    c.next-at.ensures (pids_in (map view fs)) pid c.requires.links (on_pid view pid at fs inv.on c.loop-at-test.true) in
    let f = c.index-findings-at.result in
    let before = c.loop-at.taker in
    let after = c.take_role.new.self in
    let taken = c.in_ok-unit.ensures in
    let role : role_view c.role_of-role.result ≡ role_of before.pid (view f) = c.role_of-role.ensures ∙ ap (λ (p : ℕ). role_of p (view f)) (sym inv.pid) in
    let goes : after ≡ after_finding before (view f) =
    taken.kept ∙ ap (λ (r : RoleView). let s : UnitsSoFar = record before { unit = goes_on_as before.unit r } in s) role in
    let own : after.pid ≡ pid = ap (λ (s : UnitsSoFar). s.pid) goes ∙ inv.pid in
    let cut_as : c.cuts_any-cut.result ≡ (c.loop-at.cut || cuts (id_under_way before.unit) (role_of pid (view f))) =
    c.cuts_any-cut.ensures ∙ ap₂ (λ (o : Option ℕ) (r : RoleView). c.loop-at.cut || cuts o r) c.stream_id.ensures c.role_of-role.ensures in
    record {
      pid = own;
      on = comes_on view pid (at + 1) next fs comes;
      units = units_step view before after at fs f c.in_ok-unit.unit
          (units_in c.args.split pid (map view fs)) c.loop-at.units.items c.push_unit.new.units.items
          c.loop-at-test.true c.index-findings-at.is inv.units (taken.given ∙ ap (made_whole before.split before.unit) role) goes c.in_ok-push_unit.ensures
          ∙ units_past_others view after pid (at + 1) next fs c.push_unit.new.units.items own comes;
      cut = cut_step view pid at fs f (id_under_way before.unit) (id_under_way after.unit)
          c.loop-at.cut c.cuts_any-cut.result (has_cut pid (map view fs)) c.loop-at-test.true c.index-findings-at.is cut_as
          (ap (λ (s : UnitsSoFar). id_under_way s.unit) taken.kept ∙ same_id before.unit (role_view c.role_of-role.result)
          ∙ ap (current_after (id_under_way before.unit)) c.role_of-role.ensures) inv.cut
          ∙ cut_past_others view pid (at + 1) next fs (id_under_way after.unit) c.cuts_any-cut.result comes;
    }

pub returns-clause-units : goal.returns-clause-units
returns-clause-units g c =
    let view = finding_view {A = g.row.A.Denot} in
    units_finish view c.loop-at.taker c.loop-at.at c.args.findings.now c.finish.result
    (units_in c.args.split c.args.pid (map view c.args.findings.now)) c.loop-at.units.items c.push_unit-2.new.units.items
    c.loop-at-test.false c.loop-at.invariant.units c.finish.ensures c.in_ok-push_unit-2.ensures

pub returns-clause-cut : goal.returns-clause-cut
returns-clause-cut g c =
    let view = finding_view {A = g.row.A.Denot} in
    cut_finish view c.args.pid c.loop-at.at c.args.findings.now (id_under_way c.loop-at.taker.unit) c.loop-at.cut
    (has_cut c.args.pid (map view c.args.findings.now)) c.loop-at-test.false c.loop-at.invariant.cut
