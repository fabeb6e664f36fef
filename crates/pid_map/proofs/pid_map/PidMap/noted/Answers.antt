use Rattle.std.proofs.Common.{ℕ, Some, ap, sym, ◌∙◌}
use Rattle.pid_map.proofs.Entries.{index_there, value_there}
use Rattle.pid_map.proofs.pid_map.PidMap.noted.Goals as goal

pub returns-then-at-pid-clause-index : goal.returns-then-at-pid-clause-index
returns-then-at-pid-clause-index g c =
    let at = sym c.in-Some.ensures.entry ∙ ap (λ (pid : ℕ). Some (pid, c.in-Some.field-0-1.now)) c.if-at-pid.true in
    rw (← c.self.view_is) (index_there c.args.pid _ c.self.inside.entries.entries c.in-Some.field-0-1.now c.len.ensures.unique at)

pub returns-then-at-pid-clause-value : goal.returns-then-at-pid-clause-value
returns-then-at-pid-clause-value g c =
    let at = sym c.in-Some.ensures.entry ∙ ap (λ (pid : ℕ). Some (pid, c.in-Some.field-0-1.now)) c.if-at-pid.true in
    rw (← c.self.view_is) (value_there c.args.pid _ c.self.inside.entries.entries
    (index_there c.args.pid _ c.self.inside.entries.entries c.in-Some.field-0-1.now c.len.ensures.unique at))
