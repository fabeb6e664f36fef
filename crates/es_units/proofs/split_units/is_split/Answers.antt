use Rattle.std.proofs.Common.{◌≡◌, ◌∙◌, ◌+◌, ◌||◌, Bool, false, List, map, drop, sym, ap, arith, rules}
use Rattle.std.specs.List.{list_any}
use Rattle.pid_findings.specs.Shown.{finding_view}
use Rattle.pid_findings.specs.Views.{FindingView}
use Rattle.es_units.specs.CarriedUnits.{RoleView, is_part, role_of}
use Rattle.es_units.specs.PidPlaces.{pids_in}
use Rattle.es_units.proofs.CarriedUnits.{parts_at, same_parts}
use Rattle.es_units.proofs.PidPlaces.{ComesTo, on_pid, not_back, comes_on, same_past}
use Rattle.es_units.proofs.split_units.is_split.Goals as goal

pub loop-at-init : goal.loop-at-init
loop-at-init g c =
    let view = finding_view {A = g.row.A.Denot} in
    let fs = c.args.findings.now in
    let pid = c.args.pid in
    let at = c.first-at.result in
    let comes : ComesTo view pid 0 at fs = c.first-at.ensures (pids_in (map view fs)) c.requires.links in
    let first = c.first_id-first.result in
    let parts : List FindingView → Bool = list_any (λ x. is_part first (role_of pid x)) in
    record { on = comes_on view pid 0 at fs comes; split = same_past view parts pid 0 at fs (same_parts first pid) comes }

pub loop-at-smaller : goal.loop-at-smaller
loop-at-smaller g c =
    let view = finding_view {A = g.row.A.Denot} in
    let fs = c.args.findings.now in
    let pid = c.args.pid in
    let at = c.loop-at.at in
    let inv = c.loop-at.invariant in
    let next = c.next-at.result in
    let comes : ComesTo view pid (at + 1) next fs =
    c.next-at.ensures (pids_in (map view fs)) pid c.requires.links (on_pid view pid at fs inv.on c.loop-at-test.true) in
    omega (arith, c.loop-at-test.true, not_back view pid (at + 1) next fs comes)

pub loop-at-preserved : goal.loop-at-preserved
loop-at-preserved g c =
    let view = finding_view {A = g.row.A.Denot} in
    let fs = c.args.findings.now in
    let pid = c.args.pid in
    let at = c.loop-at.at in
    let inv = c.loop-at.invariant in
    let next = c.next-at.result in
    let comes : ComesTo view pid (at + 1) next fs =
    c.next-at.ensures (pids_in (map view fs)) pid c.requires.links (on_pid view pid at fs inv.on c.loop-at-test.true) in
    let first = c.first_id-first.result in
    let parts : List FindingView → Bool = list_any (λ x. is_part first (role_of pid x)) in
    let none : c.is_part.result ≡ false = search rules in
    record {
      on = comes_on view pid (at + 1) next fs comes;
      split = inv.split
          ∙ parts_at view first pid at fs c.index-findings-at.result c.loop-at-test.true c.index-findings-at.is
          ∙ ap (λ (b : Bool). b || parts (map view (drop (at + 1) fs)))
          (ap (λ (b : RoleView). is_part first b) (sym c.role_of.ensures) ∙ sym c.is_part.ensures ∙ none)
          ∙ same_past view parts pid (at + 1) next fs (same_parts first pid) comes;
    }
