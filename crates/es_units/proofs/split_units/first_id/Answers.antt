use Rattle.std.proofs.Common.{◌≡◌, ◌∙◌, ◌+◌, ℕ, Option, None, map, drop, sym, ap, arith, rules}
use Rattle.std.specs.Option.{option_or}
use Rattle.pid_findings.specs.Shown.{finding_view}
use Rattle.es_units.specs.CarriedUnits.{RoleView, start_id, first_id}
use Rattle.es_units.specs.PidPlaces.{pids_in}
use Rattle.es_units.proofs.CarriedUnits.{first_at, first_end, same_first}
use Rattle.es_units.proofs.PidPlaces.{ComesTo, on_pid, not_back, comes_on, same_past}
use Rattle.es_units.proofs.split_units.first_id.Goals as goal

pub loop-at-init : goal.loop-at-init
loop-at-init g c =
    let view = finding_view {A = g.row.A.Denot} in
    let fs = c.args.findings.now in
    let pid = c.args.pid in
    let at = c.first-at.result in
    let comes : ComesTo view pid 0 at fs = c.first-at.ensures (pids_in (map view fs)) c.requires.links in
    record { on = comes_on view pid 0 at fs comes; first = same_past view (first_id pid) pid 0 at fs (same_first pid) comes }

pub loop-at-smaller : goal.loop-at-smaller
loop-at-smaller g c =
    let view = finding_view {A = g.row.A.Denot} in
    let fs = c.args.findings.now in
    let pid = c.args.pid in
    let at = c.loop-at.at in
    let inv = c.loop-at.invariant in
    let next = c.next-at.result in
    let comes : ComesTo view pid (at + 1) next fs =
    c.next-at.ensures (pids_in (map view fs)) pid c.requires.links (on_pid view pid at fs inv.on c.loop-at-test.true) in
    omega (arith, c.loop-at-test.true, not_back view pid (at + 1) next fs comes)

pub loop-at-preserved : goal.loop-at-preserved
loop-at-preserved g c =
    let view = finding_view {A = g.row.A.Denot} in
    let fs = c.args.findings.now in
    let pid = c.args.pid in
    let at = c.loop-at.at in
    let inv = c.loop-at.invariant in
    let next = c.next-at.result in
    let comes : ComesTo view pid (at + 1) next fs =
    c.next-at.ensures (pids_in (map view fs)) pid c.requires.links (on_pid view pid at fs inv.on c.loop-at-test.true) in
    let none : c.start_id.result ≡ None = search rules in
    record {
      on = comes_on view pid (at + 1) next fs comes;
      first = inv.first
          ∙ first_at view pid at fs c.index-findings-at.result c.loop-at-test.true c.index-findings-at.is
          ∙ ap (λ (o : Option ℕ). option_or o (first_id pid (map view (drop (at + 1) fs))))
          (ap (λ (b : RoleView). start_id b) (sym c.role_of.ensures) ∙ sym c.start_id.ensures ∙ none)
          ∙ same_past view (first_id pid) pid (at + 1) next fs (same_first pid) comes;
    }

pub returns-in-Some : goal.returns-in-Some
returns-in-Some g c =
    let view = finding_view {A = g.row.A.Denot} in
    let fs = c.args.findings.now in
    let pid = c.args.pid in
    let at = c.loop-at.at in
    let inv = c.loop-at.invariant in
    sym (inv.first
    ∙ first_at view pid at fs c.index-findings-at.result c.loop-at-test.true c.index-findings-at.is
    ∙ ap (λ (o : Option ℕ). option_or o (first_id pid (map view (drop (at + 1) fs))))
    (ap (λ (b : RoleView). start_id b) (sym c.role_of.ensures) ∙ sym c.start_id.ensures ∙ c.in-Some.is))

pub returns : goal.returns
returns g c =
    sym (c.loop-at.invariant.first ∙ first_end (finding_view {A = g.row.A.Denot}) c.args.pid c.loop-at.at c.args.findings.now c.loop-at-test.false)
