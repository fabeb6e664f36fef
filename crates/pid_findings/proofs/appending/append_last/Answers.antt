use Rattle.std.proofs.Common.{◌≡◌, ◌≢◌, ◌∙◌, ◌+◌, ◌-◌, ◌≤◌, ◌++◌, ◌∷◌, ℕ, List, length, replicate, take, ap, sym, subst, arith, rules}
use Rattle.pid_findings.specs.OpenUnits.{whole_pes}
use Rattle.pid_findings.specs.Findings.{stray_bytes}
use Rattle.pid_findings.specs.Shown.{Finds}
use Rattle.pid_findings.specs.Views.{Found}
use Rattle.pid_findings.proofs.HeadedUnits.{whole_unit, whole_unit_decided}
use Rattle.pid_findings.proofs.appending.append_last.Goals as goal

pub returns-then-end-all-clause-found : goal.returns-then-end-all-clause-found
returns-then-end-all-clause-found g c =
    let unit = c.unit.inside in
    let header = c.in-Some.header in
    let more : header.len ≢ 0 = search rules in
    let body = replicate unit.left_out 0 ++ unit.bytes.items in
    let payload = c.args.payload.now in
    let rest = c.len.result + length payload - (6 + header.len) in
    let filled : c.fill.new.bytes.items ≡ body = c.in_ok-fill.ensures.bytes in
    let enough : 6 + header.len ≤ length c.args.unit.now.bytes + length payload = omega (arith, c.if-end-all.true, c.len.ensures.len) in
    let past : rest ≡ length c.args.unit.now.bytes + length payload - (6 + header.len) = omega (arith, c.len.ensures.len) in
    let size : c.saturating_sub-size.result ≡ 6 + header.len - length unit.front.items =
    omega (arith, c.saturating_sub-size.ensures, c.len-then-end-all.ensures.value) in
    let whole = whole_unit c.args.unit.now unit.packet unit.kind unit.access unit.header unit.front.items body payload header c.saturating_sub-size.result rest
    (c.unit.view_is, c.unit.invariant.0.1.1.1, c.in-Some.is) more enough size past in
    subst (λ (found : List Found). Finds c.args.place c.args.found.now.items c.note_with_rest.new.found.items found)
    (ap (λ (xs : List ℕ). whole_pes unit.packet unit.access header (take c.saturating_sub-size.result (xs ++ payload)) ∷ stray_bytes rest) filled ∙ sym whole)
    c.in_ok-note_with_rest.ensures.ok

pub returns-then-end-all-clause-decided : goal.returns-then-end-all-clause-decided
returns-then-end-all-clause-decided g c =
    let unit = c.unit.inside in
    let header = c.in-Some.header in
    let more : header.len ≢ 0 = search rules in
    let body = replicate unit.left_out 0 ++ unit.bytes.items in
    let enough : 6 + header.len ≤ length c.args.unit.now.bytes + length c.args.payload.now = omega (arith, c.if-end-all.true, c.len.ensures.len) in
    sym (whole_unit_decided c.args.unit.now unit.packet unit.kind unit.access unit.header unit.front.items body c.args.payload.now header
    (c.unit.view_is, c.unit.invariant.0.1.1.1, c.in-Some.is) more enough)
