-- The least rate is searched among the shares and the recurring packets of this description.
use Rattle.std.proofs.Common.{◌≡◌, List, refl, rules, subst}
use Rattle.stream_choice.specs.Rates.{IsTooMuch}
use Rattle.stream_choice.specs.declared.recurring.Recurring.{Recurring}
use Rattle.stream_jobs.specs.Rates.{IsText, greatest_rate, recurring_of, shares}
use Rattle.stream_jobs.specs.Texts.{description_text}
use Rattle.stream_jobs.proofs.rates.first_rate.Goals as goal

pub returns-clause-refused : goal.returns-clause-refused
returns-clause-refused c =
    let options = c.args.draft.now.options.now in
    let input = c.args.draft.now.input.now in
    let d = c.in_ok-description.description in
    let read : IsText d (description_text options input greatest_rate) = search rules in
    let shares_are : c.deref-3.result.now ≡ shares input = search rules in
    let recurring_are : c.deref-4.result.now ≡ recurring_of d = search rules in
    let none : IsTooMuch c.deref-3.result.now c.deref-4.result.now = c.in-None.ensures.refused refl in (
      refl,
      record {
        description = d;
        read = read;
        too_much = subst (λ (s : List _). IsTooMuch s (recurring_of d)) shares_are
            (subst (λ (r : List Recurring). IsTooMuch c.deref-3.result.now r) recurring_are none);
      },
    )
