use Rattle.std.proofs.Common.{rules, ◌≡◌, ◌∙◌, List, ℕ, ◌++◌, Vec, Global, true, ap, drop, subst, Ok, Err}
use Rattle.std.specs.Prelude.{OnOk}
use Rattle.checked_jobs.specs.JobFaults.{fault_view, is_final}
use Rattle.checked_jobs.specs.Jobs.{job_of}
use Rattle.checked_jobs.specs.JobFaults.{IsJobAtFront}
use Rattle.checked_jobs.proofs.JobTaking.{fault_read, plans_read}
use Rattle.checked_jobs.proofs.job_taker.JobTaker.read_text.Goals as goal

pub returns-in-Ok-clause-taken : goal.returns-in-Ok-clause-taken
returns-in-Ok-clause-taken g c switch bytes e t =
    let after : c.split_at.result.1.now ≡ drop c.in-Ok.at c.args.self.now.text.items =
    c.split_at.ensures.back ∙ ap (drop {A = ℕ} c.in-Ok.at) (c.deref-in-Ok.ensures.value ∙ ap (λ (v : Vec ℕ Global). v.items) c.replace-text.ensures.value) in
    plans_read (g.T.RestTaker.has_taken c.args.self.now.rest) (g.T.RestTaker.has_taken c.take_rest.new.self) switch c.args.self.now.switch bytes
    c.args.self.now.text.items
    c.replace-text.new.dest.items c.args.self.now.state c.in-Ok.plans c.in-Ok.at c.take_rest.result e t
    (subst (λ (xs : List ℕ). IsJobAtFront (job_of c.args.self.now.switch xs) xs (Ok (c.in-Ok.plans, c.in-Ok.at))) c.deref.ensures.value c.in-Ok.ensures)
    (λ before k. subst (λ (xs : List ℕ). OnOk c.take_rest.result (g.T.RestTaker.has_taken c.take_rest.new.self (before ++ xs))) after
    (c.take_rest.ensures.taken before k))

pub returns-else-not-is_final-clause-taken : goal.returns-else-not-is_final-clause-taken
returns-else-not-is_final-clause-taken g c switch bytes e t =
    let final : is_final (fault_view c.in-Err-Fault.fault) ≡ true = search rules in
    fault_read (g.T.RestTaker.has_taken c.args.self.now.rest) switch c.args.self.now.switch bytes c.args.self.now.text.items c.args.self.now.state
    c.in-Err-Fault.fault e t
    (subst (λ (xs : List ℕ). Err (fault_view c.in-Err-Fault.fault) ≡ job_of c.args.self.now.switch xs) c.deref.ensures.value
    (rw c.in-Err-Fault.field-0-is at c.in-Err-Fault.ensures)) final
