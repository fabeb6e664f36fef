use Rattle.std.proofs.Common.{◌≡◌, ◌++◌, ◌∙◌, ◌+◌, ℕ, Bool, Option, None, subst, [], ◌∷◌, List, get_or, length, map, drop, set, refl, sym, ap, arith}
use Rattle.std.proofs.lemmas.List.{drop-set-lt, length-set}
use Rattle.pid_findings.specs.Shown.{finding_view}
use Rattle.es_units.specs.CarriedUnits.{carried_units, is_split, role_of}
use Rattle.es_units.specs.PidPlaces.{pids_in, place_from}
use Rattle.es_units.specs.TakenUnits.{OthersStay}
use Rattle.es_units.specs.UnitSteps.{UnitsSoFar, made_whole}
use Rattle.es_units.proofs.PidPlaces.{ComesTo, long, not_back, comes_on, pids_set}
use Rattle.es_units.proofs.TakenUnits.{stay_same, stay_at}
use Rattle.es_units.proofs.UnitSteps.{units_with, units_start, units_step, units_finish, units_past_others}
use Rattle.es_units.proofs.taken.taken_units.Goals as goal

pub findings-init : goal.findings-init
findings-init g c =
    let view = finding_view {A = g.row.A.Denot} in
    let all = c.args.findings.now in
    let pid = c.args.pid in
    let at = c.first-at.result in
    let comes : ComesTo view pid 0 at all = c.first-at.ensures (pids_in (map view all)) c.requires.links in
    let taker = c.new-taker.result in
    let own : taker.pid ≡ pid = ap (λ (s : UnitsSoFar). s.pid) c.new-taker.ensures in
    record {
      pid = own;
      on = comes_on view pid 0 at all comes;
      pids = refl;
      others = stay_same pid (map view all) (map view all) refl;
      units = units_start view (is_split pid (map view all)) pid all c.new-units.result.items c.new-units.ensures.items
          ∙ ap (λ (b : Bool). c.new-units.result.items ++ units_with b pid None (map view all)) (sym c.is_split.ensures)
          ∙ ap (λ (s : UnitsSoFar). c.new-units.result.items ++ units_with s.split s.pid s.unit (map view all)) (sym c.new-taker.ensures)
          ∙ units_past_others view taker pid 0 at all c.new-units.result.items own comes;
    }

pub findings-smaller : goal.findings-smaller
findings-smaller g c =
    let view = finding_view {A = g.row.A.Denot} in
    let all = c.args.findings.now in
    let pid = c.args.pid in
    let at = c.findings.at in
    let fs = c.findings.findings in
    let inv = c.findings.invariant in
    let next = c.next-at.result in
    let comes : ComesTo view pid (at + 1) next all =
    c.next-at.ensures (pids_in (map view all)) pid c.requires.links
    (inv.on (omega (arith, c.findings-test.true, long view fs, ap (λ (l : List (Option ℕ)). length l) inv.pids))) in
    omega (arith, c.findings-test.true, length-set fs at c.take_next.new.finding, not_back view pid (at + 1) next all comes)

pub findings-preserved : goal.findings-preserved
findings-preserved g c =
    let view = finding_view {A = g.row.A.Denot} in
    let all = c.args.findings.now in
    let pid = c.args.pid in
    let at = c.findings.at in
    let fs = c.findings.findings in
    let inv = c.findings.invariant in
    let next = c.next-at.result in
    let comes : ComesTo view pid (at + 1) next all =
    c.next-at.ensures (pids_in (map view all)) pid c.requires.links
    (inv.on (omega (arith, c.findings-test.true, long view fs, ap (λ (l : List (Option ℕ)). length l) inv.pids))) in
    let f = get_or fs at c.index-findings-at.result in
    let here : f ≡ get_or fs at f = ap (get_or fs at) c.index-findings-at.is in
    let h = c.take_next.new.finding in
    let taker = c.findings.taker in
    let after = c.take_next.new.taker in
    let units = c.take_next.new.units.items in
    let past : drop (at + 1) (set fs at h) ≡ drop (at + 1) fs = drop-set-lt (at + 1) fs at h (omega arith) in
    let kept = c.in_ok-take_next.ensures.kept in
    let own : after.pid ≡ pid = ap (λ (s : UnitsSoFar). s.pid) kept ∙ inv.pid in
    let pids : pids_in (map view (set fs at h)) ≡ pids_in (map view all) =
    pids_set view at fs f h c.findings-test.true here c.in_ok-take_next.ensures.pid ∙ inv.pids in
    let comes' : ComesTo view pid (at + 1) next (set fs at h) =
    comes ∙ ap (λ (ps : List (Option ℕ)). place_from pid (at + 1) (drop (at + 1) ps)) (sym pids) in
    record {
      pid = own;
      on = comes_on view pid (at + 1) next all comes;
      pids = pids;
      others = stay_at view pid at all fs (set fs at h) f h c.findings-test.true here refl inv.others
          (subst (λ (p : ℕ). OthersStay p (view f ∷ []) (view h ∷ [])) inv.pid c.in_ok-take_next.ensures.others);
      units = units_step view taker after at fs f (made_whole taker.split taker.unit (role_of taker.pid (view f)))
          (carried_units pid (map view all)) c.findings.units.items units
          c.findings-test.true here inv.units refl kept c.in_ok-take_next.ensures.units
          ∙ ap (λ (l : List _). units ++ units_with after.split after.pid after.unit (map view l)) (sym past)
          ∙ units_past_others view after pid (at + 1) next (set fs at h) units own comes';
    }

pub returns-clause-units : goal.returns-clause-units
returns-clause-units g c =
    let view = finding_view {A = g.row.A.Denot} in
    units_finish view c.findings.taker c.findings.at c.findings.findings c.finish.result
    (carried_units c.args.pid (map view c.args.findings.now)) c.findings.units.items c.push_unit.new.units.items
    c.findings-test.false c.findings.invariant.units c.finish.ensures c.in_ok-push_unit.ensures
