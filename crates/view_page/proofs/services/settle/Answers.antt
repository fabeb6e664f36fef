use Rattle.std.proofs.Common.{rules, arith, ◌≡◌, ℕ, ◌-◌, [], ◌∷◌}
use Rattle.std.proofs.lemmas.Grind.{common_steps}
use Rattle.view_page.specs.Services.{settled_all}
use Rattle.view_page.specs.declared.services.ProgramRate.{ProgramRate}
use Rattle.view_page.proofs.Settling.{begun, one_taken, past}
use Rattle.view_page.proofs.services.settle.Goals as goal

pub loop-program-init : goal.loop-program-init
loop-program-init c = λ kept a.
    let all : c.into_iter-program-iterator.result ≡ c.args.programs.now.entries = search rules in
    begun c.args.curves.now c.args.number c.total_in-left.result c.into_iter-program-iterator.result c.args.programs.now.entries kept
    c.total_in-left.ensures all a

pub loop-program-preserved : goal.loop-program-preserved
loop-program-preserved c = λ kept a.
    let e : ℕ × ProgramRate = (c.in-Some.program.now, c.in-Some.known.now) in
    let iter : c.loop-program.program-iterator ≡ e ∷ c.next.new.self = grind (arith, common_steps) in
    let left : c.saturating_sub-left.result ≡ c.loop-program.left - c.rate_in-rate.result = search rules in
    one_taken c.loop-program.curves c.take.new.self c.args.number c.loop-program.left c.saturating_sub-left.result c.rate_in-rate.result
    c.loop-program.program-iterator c.next.new.self e (settled_all c.args.number c.args.programs.now.entries kept) iter c.rate_in-rate.ensures left
    c.in_ok-take.ensures (c.loop-program.invariant kept a)

pub returns : goal.returns
returns c = λ kept a.
    let none : c.loop-program.program-iterator ≡ [] = grind (arith, common_steps) in
    past c.loop-program.curves c.args.number c.loop-program.left c.loop-program.program-iterator
    (settled_all c.args.number c.args.programs.now.entries kept) none (c.loop-program.invariant kept a)
