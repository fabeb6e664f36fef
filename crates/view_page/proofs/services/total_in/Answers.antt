use Rattle.std.proofs.Common.{rules, arith, ◌≡◌, ℕ, List, [], ◌∷◌, Some, ap}
use Rattle.std.proofs.lemmas.Grind.{common_steps}
use Rattle.view_page.specs.Services.{plus, rate_in, total_from}
use Rattle.view_page.specs.declared.services.ProgramRate.{ProgramRate}
use Rattle.view_page.proofs.Settling.{total_end, total_more}
use Rattle.view_page.proofs.services.total_in.Goals as goal

pub loop-program-init : goal.loop-program-init
loop-program-init c =
    let all : c.into_iter-program-iterator.result ≡ c.args.programs.now.entries = search rules in
    ap (λ (es : List (ℕ × ProgramRate)). total_from c.args.number 0 es) all

pub loop-program-preserved : goal.loop-program-preserved
loop-program-preserved c =
    let e : ℕ × ProgramRate = (c.in-Some.program.now, c.in-Some.known.now) in
    let iter : c.loop-program.program-iterator ≡ e ∷ c.next.new.self = grind (arith, common_steps) in
    let sum : c.saturating_add-sum.result ≡ plus c.loop-program.sum (rate_in c.args.number (Some e.1)) = search rules in
    total_more c.args.number c.loop-program.sum c.saturating_add-sum.result c.loop-program.program-iterator c.next.new.self e
    (total_from c.args.number 0 c.args.programs.now.entries) iter sum c.loop-program.invariant

pub returns : goal.returns
returns c =
    let none : c.loop-program.program-iterator ≡ [] = grind (arith, common_steps) in
    total_end c.args.number c.loop-program.sum c.loop-program.program-iterator (total_from c.args.number 0 c.args.programs.now.entries) none
    c.loop-program.invariant
