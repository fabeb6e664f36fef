use Rattle.std.proofs.Common.{ℕ, sym, ap, ◌∙◌}
use Rattle.on_air.specs.Airing.{limit_of, settled}
use Rattle.on_air.proofs.SlotsOn.{last_some, last_none}
use Rattle.on_air.proofs.slots.last_slot.Goals as goal

pub returns-in-Some-clause-value : goal.returns-in-Some-clause-value
returns-in-Some-clause-value c =
    c.limit-limit.ensures.value ∙ sym (last_some c.args.rate (limit_of c.args.terms) c.args.greatest c.in-Some.field-0 c.args.terms.slots c.in-Some.is)

pub returns-in-None-clause-value : goal.returns-in-None-clause-value
returns-in-None-clause-value c =
    c.settled.ensures.value ∙ ap (λ (n : ℕ). settled c.args.rate 0 n c.args.greatest) c.limit-limit.ensures.value
    ∙ sym (last_none c.args.rate (limit_of c.args.terms) c.args.greatest c.args.terms.slots c.in-None.is)
