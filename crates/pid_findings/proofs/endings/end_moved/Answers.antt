use Rattle.std.proofs.Common.{◌≡◌, ◌∙◌, ◌++◌, [], ◌∷◌, ℕ, List, length, replicate, take, ap, sym, subst, arith, rules}
use Rattle.pid_findings.specs.OpenUnits.{whole_pes}
use Rattle.pid_findings.specs.Shown.{Finds}
use Rattle.pid_findings.specs.Views.{Found}
use Rattle.pid_findings.proofs.HeadedUnits.{endless_found}
use Rattle.pid_findings.proofs.endings.end_moved.Goals as goal

pub returns-clause-ok : goal.returns-clause-ok
returns-clause-ok g c =
    let unit = c.unit.inside in
    let header = c.in-Some-header.header in
    let zero : header.len ≡ 0 = search rules in
    let body = replicate unit.left_out 0 ++ unit.bytes.items in
    let filled : c.fill.new.bytes.items ≡ body = c.in_ok-fill.ensures.bytes in
    let size : c.len-size.result ≡ length body = omega (arith, c.len-size.ensures, ap length filled) in
    let ends = endless_found c.args.open_unit.now c.in-Some.unit unit.packet unit.kind unit.access unit.header unit.front.items body header c.len-size.result
    c.in-Some.is c.unit.view_is c.unit.invariant.0.1.1.1 c.in-Some-header.is zero size in
    subst (λ (found : List Found). Finds c.args.place c.args.found.now.items c.note_whole.new.found.items found)
    (ap (λ (xs : List ℕ). whole_pes unit.packet unit.access header (take c.len-size.result (xs ++ [])) ∷ []) filled ∙ sym ends)
    c.in_ok-note_whole.ensures.ok
