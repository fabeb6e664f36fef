use Rattle.std.proofs.Common.{◌≡◌, ◌∙◌, sym, None, rules, arith}
use Rattle.es_moments.proofs.StampFaults.{last_of}
use Rattle.es_moments.proofs.unit_moments.moment.Goals as goal

pub returns-clause-bound : goal.returns-clause-bound
returns-clause-bound c =
    let none : c.unit_fault.result ≡ None = search rules in
    omega (arith, c.dts_at-moment.ensures.value, last_of c.args.limit c.args.base c.args.before c.args.dts c.args.pts (sym c.unit_fault.ensures ∙ none))
