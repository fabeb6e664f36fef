use Rattle.std.proofs.Common.{◌≡◌, ℕ, Bool, true, ap, sym, ◌∙◌, subst}
use Rattle.stream_choice.specs.declared.choice.Choice.{Choice}
use Rattle.stream_choice.specs.Choices.{IsChoice}
use Rattle.stream_choice.specs.Paces.{serves, greatest_pace, paced, IsPaceChoice}
use Rattle.stream_choice.proofs.Halving.{none_passes}
use Rattle.stream_choice.proofs.PaceFacts.{found}
use Rattle.stream_choice.proofs.pace_selection.choose_pace.Goals as goal

pub returns-in_err-first-clause-refused : goal.returns-in_err-first-clause-refused
returns-in_err-first-clause-refused g c = λ none n lt.
    let f : ℕ → Bool = serves c.args.needs (g.U.PacedUnits.burst c.args.units.now) c.args.delay c.args.max_lead in
    none_passes 27 f (greatest_pace c.args.needs) (sym c.in_err-first.ensures.value) n lt

pub paced-requires-clause-serves : goal.paced-requires-clause-serves
paced-requires-clause-serves g c =
    let burst : ℕ → ℕ = g.U.PacedUnits.burst c.args.units.now in
    let is = found c.args.needs burst c.args.delay c.args.max_lead c.in_ok-first.first c.requires.ranges (sym c.in_ok-first.ensures.value) in
    subst (λ (p : ℕ). serves c.args.needs burst c.args.delay c.args.max_lead p ≡ true) (sym c.halved-pace.ensures.value) is.serves_it

pub returns-clause-holds : goal.returns-clause-holds
returns-clause-holds g c =
    let burst : ℕ → ℕ = g.U.PacedUnits.burst c.args.units.now in
    let is = found c.args.needs burst c.args.delay c.args.max_lead c.in_ok-first.first c.requires.ranges (sym c.in_ok-first.ensures.value) in
    subst (λ (x : Choice). IsChoice c.args.needs c.args.max_lead x) (sym (c.paced.ensures ∙ ap (paced burst c.args.delay) c.halved-pace.ensures.value))
    is.is_choice

pub returns-clause-pace : goal.returns-clause-pace
returns-clause-pace g c =
    let burst : ℕ → ℕ = g.U.PacedUnits.burst c.args.units.now in
    let is = found c.args.needs burst c.args.delay c.args.max_lead c.in_ok-first.first c.requires.ranges (sym c.in_ok-first.ensures.value) in
    subst (λ (x : Choice). IsPaceChoice c.args.needs burst c.args.delay c.args.max_lead x)
    (sym (c.paced.ensures ∙ ap (paced burst c.args.delay) c.halved-pace.ensures.value)) is.is_paced
