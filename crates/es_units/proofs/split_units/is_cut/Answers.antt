use Rattle.std.proofs.Common.{◌≡◌, ◌∙◌, ◌+◌, Bool, Option, None, unwrap_or, map, drop, sym, ap, arith, rules}
use Rattle.std.proofs.lemmas.List.{drop-map}
use Rattle.pid_findings.specs.Shown.{finding_view}
use Rattle.es_units.specs.CarriedUnits.{RoleView, end_of, is_cut}
use Rattle.es_units.specs.PidPlaces.{pids_in}
use Rattle.es_units.proofs.CarriedUnits.{cut_at, cut_end, same_cut}
use Rattle.es_units.proofs.PidPlaces.{ComesTo, on_pid, not_back, comes_on, same_past}
use Rattle.es_units.proofs.split_units.is_cut.Goals as goal

pub loop-at-smaller : goal.loop-at-smaller
loop-at-smaller g c =
    let view = finding_view {A = g.row.A.Denot} in
    let fs = c.args.findings.now in
    let pid = c.args.pid in
    let at = c.loop-at.at in
    let inv = c.loop-at.invariant in
    let next = c.next-at.result in
    let comes : ComesTo view pid (at + 1) next fs =
    c.next-at.ensures (pids_in (map view fs)) pid c.requires.links (on_pid view pid at fs inv.on c.loop-at-test.true) in
    omega (arith, c.loop-at-test.true, not_back view pid (at + 1) next fs comes)

pub loop-at-preserved : goal.loop-at-preserved
loop-at-preserved g c =
    let view = finding_view {A = g.row.A.Denot} in
    let fs = c.args.findings.now in
    let pid = c.args.pid in
    let at = c.loop-at.at in
    let inv = c.loop-at.invariant in
    let next = c.next-at.result in
    let comes : ComesTo view pid (at + 1) next fs =
    c.next-at.ensures (pids_in (map view fs)) pid c.requires.links (on_pid view pid at fs inv.on c.loop-at-test.true) in
    let id = c.args.id in
    let none : c.end_of.result ≡ None = search rules in
    record {
      on = comes_on view pid (at + 1) next fs comes;
      cut = inv.cut
          ∙ cut_at view id pid at fs c.index-findings-at.result c.loop-at-test.true c.index-findings-at.is
          ∙ ap (λ (o : Option Bool). unwrap_or o (is_cut id pid (map view (drop (at + 1) fs))))
          (ap (λ (b : RoleView). end_of id b) (sym c.role_of.ensures) ∙ sym c.end_of.ensures ∙ none)
          ∙ same_past view (is_cut id pid) pid (at + 1) next fs (same_cut id pid) comes;
    }

pub returns-in-Some : goal.returns-in-Some
returns-in-Some g c =
    let view = finding_view {A = g.row.A.Denot} in
    let fs = c.args.findings.now in
    let pid = c.args.pid in
    let at = c.loop-at.at in
    let inv = c.loop-at.invariant in
    let id = c.args.id in
    sym (ap (is_cut id pid) (drop-map view c.args.from fs) ∙ inv.cut
    ∙ cut_at view id pid at fs c.index-findings-at.result c.loop-at-test.true c.index-findings-at.is
    ∙ ap (λ (o : Option Bool). unwrap_or o (is_cut id pid (map view (drop (at + 1) fs))))
    (ap (λ (b : RoleView). end_of id b) (sym c.role_of.ensures) ∙ sym c.end_of.ensures ∙ c.in-Some.is))

pub returns : goal.returns
returns g c =
    let view = finding_view {A = g.row.A.Denot} in
    let fs = c.args.findings.now in
    sym (ap (is_cut c.args.id c.args.pid) (drop-map view c.args.from fs) ∙ c.loop-at.invariant.cut
    ∙ cut_end view c.args.id c.args.pid c.loop-at.at fs c.loop-at-test.false)
