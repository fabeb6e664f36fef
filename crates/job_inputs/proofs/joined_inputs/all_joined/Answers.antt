use Rattle.std.proofs.Common.{◌≡◌, ◌∷◌, ◌+◌, length, rules, arith}
use Rattle.std.proofs.lemmas.Result.{err_from_is_err_and}
use Rattle.job_programs.specs.Answers.{Answers}
use Rattle.job_inputs.specs.JoinedInputs.{joined_inputs}
use Rattle.job_inputs.proofs.JoinedSteps.{joins_on, joins_refused, joins_done}
use Rattle.job_inputs.proofs.joined_inputs.all_joined.Goals as goal

pub inputs-preserved : goal.inputs-preserved
unfolding Answers
inputs-preserved c =
    let later = c.pop_front.new.self.items in
    let first : c.inputs.left.items ≡ c.in-Some.input ∷ later = c.in-Some.ensures.items in
    let size : length c.inputs.left.items ≡ length later + 1 = search (rules, first, arith) in
    let next : c.saturating_add-number.result ≡ c.inputs.number + 1 = search (rules, arith, c.inputs.invariant.most, size) in
    record {
      most = omega (arith, next, size, c.inputs.invariant.most);
      same = joins_on (joined_inputs c.args.first c.args.more.items) c.inputs.number c.saturating_add-number.result c.inputs.all c.add_input.new.all
          c.inputs.left.items later c.in-Some.input
          c.inputs.invariant.same first next c.in_ok-add_input.ensures.joined;
    }

pub returns-in_err-add_input-clause-refused : goal.returns-in_err-add_input-clause-refused
unfolding Answers
returns-in_err-add_input-clause-refused c =
    let later = c.pop_front.new.self.items in
    let first : c.inputs.left.items ≡ c.in-Some.input ∷ later = c.in-Some.ensures.items in
    let size : length c.inputs.left.items ≡ length later + 1 = search (rules, first, arith) in
    let next : c.saturating_add-number.result ≡ c.inputs.number + 1 = search (rules, arith, c.inputs.invariant.most, size) in
    let refused = joins_refused (joined_inputs c.args.first c.args.more.items) c.inputs.number c.saturating_add-number.result c.inputs.all c.inputs.left.items
    later c.in-Some.input c.in_err-add_input.field-0.0
    c.inputs.invariant.same first next c.in_err-add_input.ensures.refused in
    let p = err_from_is_err_and c.from_residual-in_err-add_input.result c.from_residual-in_err-add_input.ensures.1 in
    rw (p.1, p.2) refused

pub returns-clause-joined : goal.returns-clause-joined
returns-clause-joined c =
    let none : length c.inputs.left.items ≡ 0 = search (rules, arith) in
    joins_done (joined_inputs c.args.first c.args.more.items) c.inputs.number c.inputs.all c.inputs.left.items c.inputs.invariant.same none
