use Rattle.std.proofs.Common.{◌∙◌, ℕ, List, ap}
use Rattle.view_page.specs.declared.services.ProgramRate.{ProgramRate}
use Rattle.view_page.specs.Services.{programs_after}
use Rattle.view_page.proofs.services.Services.add.Goals as goal

pub returns : goal.returns
returns c = λ kept a. record {
  number = c.number_of-number.ensures;
  programs = c.in_ok-take_rate.ensures ∙ ap (λ (es : List (ℕ × ProgramRate)). programs_after es c.args.window.now) a.programs;
  curves = a.curves;
}
