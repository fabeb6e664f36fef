use Rattle.std.proofs.Common.{◌≡◌, ◌<◌, ◌+◌, ◌==◌, ◌∙◌, sym, ap, List, ℕ, Option, None, option_map, length, map, drop, rules, arith}
use Rattle.std.proofs.lemmas.Bool.{eqb-false}
use Rattle.std.proofs.lemmas.List.{drop-map}
use Rattle.pid_findings.specs.Shown.{finding_view}
use Rattle.pid_findings.specs.Views.{FindingView}
use Rattle.es_units.specs.CarriedUnits.{continuation, continued_by}
use Rattle.es_units.specs.PidPlaces.{pids_in}
use Rattle.es_units.proofs.CarriedUnits.{continuation_at, continuation_end, same_continuation}
use Rattle.es_units.proofs.PidPlaces.{ComesTo, on_pid, not_back, comes_on, same_past}
use Rattle.es_units.proofs.UnitWarnings.{alone_more, alone_some}
use Rattle.es_units.proofs.warnings.has_no_continuation.Goals as goal

pub loop-at-smaller : goal.loop-at-smaller
loop-at-smaller g c =
    let view = finding_view {A = g.row.A.Denot} in
    let fs = c.args.findings.now in
    let pid = c.args.pid in
    let at = c.loop-at.at in
    let inv = c.loop-at.invariant in
    let next = c.next-at.result in
    let comes : ComesTo view pid (at + 1) next fs =
    c.next-at.ensures (pids_in (map view fs)) pid c.requires.links (on_pid view pid at fs inv.on c.loop-at-test.true) in
    omega (arith, c.loop-at-test.true, not_back view pid (at + 1) next fs comes)

pub returns-then-not-is_empty : goal.returns-then-not-is_empty
unfolding continued_by
returns-then-not-is_empty g c =
    let view = finding_view {A = g.row.A.Denot} in
    let fs = c.args.findings.now in
    let pid = c.args.pid in
    let at = c.loop-at.at in
    let inv = c.loop-at.invariant in
    let id = c.args.id in
    let rest = continuation id pid (map view (drop (at + 1) fs)) in
    let here = continuation_at view id pid at fs c.index-findings-at.result c.loop-at-test.true c.index-findings-at.is
    ∙ ap (λ (o : Option (List ℕ)). continued_by o rest) (sym c.more_bytes_on.ensures ∙ ap (option_map (λ bytes. bytes.now)) c.in-Some.is) in
    let some : 0 < length c.in-Some.body.now =
    omega (arith, eqb-false (length c.in-Some.body.now) 0 (sym c.is_empty.ensures ∙ c.if-not-is_empty.true)) in
    sym (ap (λ (l : List FindingView). length (continuation id pid l) == 0) (drop-map view c.args.from fs) ∙ inv.none
    ∙ ap (λ (xs : List ℕ). length xs == 0) here ∙ alone_some c.in-Some.body.now rest some)

pub loop-at-preserved : goal.loop-at-preserved
unfolding continued_by
loop-at-preserved g c =
    let view = finding_view {A = g.row.A.Denot} in
    let fs = c.args.findings.now in
    let pid = c.args.pid in
    let at = c.loop-at.at in
    let inv = c.loop-at.invariant in
    let next = c.next-at.result in
    let comes : ComesTo view pid (at + 1) next fs =
    c.next-at.ensures (pids_in (map view fs)) pid c.requires.links (on_pid view pid at fs inv.on c.loop-at-test.true) in
    let id = c.args.id in
    let rest = continuation id pid (map view (drop (at + 1) fs)) in
    let here = continuation_at view id pid at fs c.index-findings-at.result c.loop-at-test.true c.index-findings-at.is
    ∙ ap (λ (o : Option (List ℕ)). continued_by o rest) (sym c.more_bytes_on.ensures ∙ ap (option_map (λ bytes. bytes.now)) c.in-Some.is) in
    let none : length c.in-Some.body.now ≡ 0 = search (rules, arith) in
    record {
      on = comes_on view pid (at + 1) next fs comes;
      none = inv.none ∙ ap (λ (xs : List ℕ). length xs == 0) here ∙ alone_more c.in-Some.body.now rest none
          ∙ ap (λ (xs : List ℕ). length xs == 0) (same_past view (continuation id pid) pid (at + 1) next fs (same_continuation id pid) comes);
    }

pub returns-in_default : goal.returns-in_default
unfolding continued_by
returns-in_default g c =
    let view = finding_view {A = g.row.A.Denot} in
    let fs = c.args.findings.now in
    let pid = c.args.pid in
    let at = c.loop-at.at in
    let inv = c.loop-at.invariant in
    let id = c.args.id in
    let rest = continuation id pid (map view (drop (at + 1) fs)) in
    let none : c.more_bytes_on.result ≡ None = search rules in
    let here = continuation_at view id pid at fs c.index-findings-at.result c.loop-at-test.true c.index-findings-at.is
    ∙ ap (λ (o : Option (List ℕ)). continued_by o rest) (sym c.more_bytes_on.ensures ∙ ap (option_map (λ bytes. bytes.now)) none) in
    sym (ap (λ (l : List FindingView). length (continuation id pid l) == 0) (drop-map view c.args.from fs) ∙ inv.none
    ∙ ap (λ (xs : List ℕ). length xs == 0) here)

pub returns : goal.returns
returns g c =
    let view = finding_view {A = g.row.A.Denot} in
    let fs = c.args.findings.now in
    let id = c.args.id in
    let pid = c.args.pid in
    sym (ap (λ (l : List FindingView). length (continuation id pid l) == 0) (drop-map view c.args.from fs) ∙ c.loop-at.invariant.none
    ∙ ap (λ (xs : List ℕ). length xs == 0) (continuation_end view id pid c.loop-at.at fs c.loop-at-test.false))
