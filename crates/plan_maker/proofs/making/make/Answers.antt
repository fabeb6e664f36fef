use Rattle.std.proofs.Common.{subst}
use Rattle.description_parts.specs.Described.{Described}
use Rattle.plan_maker.specs.Searches.{NoneServes}
use Rattle.plan_maker.proofs.TriedPlans.{if_not_found}
use Rattle.plan_maker.proofs.making.make.Goals as goal

pub returns-clause-none_apart : goal.returns-clause-none_apart
returns-clause-none_apart g c =
    if_not_found (NoneServes c.args.description 25) c.served.result
    (c.in-Err-NotFound-default.ensures.not_found c.in-Err-NotFound-default.field-0-0-is)

pub returns-clause-none_close : goal.returns-clause-none_close
returns-clause-none_close g c =
    if_not_found (NoneServes c.args.description 0) c.served.result
    (subst (λ (d : Described). NoneServes d 0) c.in-Err-NotFound-default.ensures.handed_back
    (c.in-Err-NotFound-default-searched.ensures.not_found c.in-Err-NotFound-default-searched.field-0-0-is))
