use Rattle.std.proofs.Common.{◌≡◌, [], ℕ, List, ap, map, subst, sym, ◌∙◌}
use Rattle.pid_findings.specs.Shown.{finding_view}
use Rattle.program_tables.specs.MapPlaces.{AreChanges, changes_from}
use Rattle.program_tables.proofs.NotedChanges.{are_changes}
use Rattle.program_tables.proofs.changed_maps.map_changes.Goals as goal

pub returns : goal.returns
returns g c =
    let all = map (finding_view {A = g.row.A.Denot}) c.args.findings.now in
    let is = c.in_ok-note_changes.ensures ∙ ap (λ (es : List (ℕ × ℕ)). changes_from c.args.part all es all) c.new-packets.ensures.empty in
    subst (λ (es : List (ℕ × ℕ)). AreChanges c.args.part all es) (sym is) (are_changes c.args.part all)
