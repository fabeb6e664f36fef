use Rattle.std.proofs.Common.{subst, Option, None}
use Rattle.pid_findings.specs.Findings as findings
use Rattle.pid_findings.specs.OpenUnits as units
use Rattle.pid_findings.specs.Views.{BreaksCounter}
use Rattle.pid_findings.specs.Shown.{Finds, role_view, given, given_view}
use Rattle.pid_findings.proofs.Lists.{kept_none, three_noted}
use Rattle.pid_findings.proofs.pid_state.on_counter_break.Goals as goal

pub returns-clause-found : goal.returns-clause-found
unfolding findings.by_break
returns-clause-found g c =
    let role = role_view c.args.role in
    let last : Finds c.args.place c.cut_short.new.found.items c.start_unit.new.found.items (findings.by_role c.args.place.packet role None) =
    subst (λ (h : Option units.OpenUnit). Finds c.args.place c.cut_short.new.found.items c.start_unit.new.found.items
    (findings.by_role c.args.place.packet role h))
    (kept_none role) c.in_ok-next.ensures.found in
    three_noted given_view (given c.args.place) _ _ _ _ _ _ (units.plain (BreaksCounter c.args.expected c.args.counter)) _ _
    c.new-new.ensures.items c.in_ok-note.ensures.ok c.in_ok-cut_short.ensures last c.in_ok-append.ensures.items
