use Rattle.tsair_cli.proofs.Steps.{before_is_quiet, escape_is_dropped, inside_is_dropped, inside_is_quiet, skipping_is_quiet}
use Rattle.tsair_cli.proofs.frame.OpenFrame.has_begun.Goals as goal

pub returns-in-Before-clause-none : goal.returns-in-Before-clause-none
returns-in-Before-clause-none c = λ e. before_is_quiet c.args.self.now c.in-Before.is

pub returns-in-Skipping-clause-none : goal.returns-in-Skipping-clause-none
returns-in-Skipping-clause-none c = λ e. skipping_is_quiet c.args.self.now c.in-Skipping.is

pub returns-in-Inside-clause-cut : goal.returns-in-Inside-clause-cut
returns-in-Inside-clause-cut c = λ e. inside_is_dropped c.args.self.now c.in-Inside.is (c.is_begun.ensures.cut c.requires e)

pub returns-in-Inside-clause-none : goal.returns-in-Inside-clause-none
returns-in-Inside-clause-none c = λ e. inside_is_quiet c.args.self.now c.in-Inside.is (c.is_begun.ensures.none c.requires e)

pub returns-in-AfterEscape-clause-cut : goal.returns-in-AfterEscape-clause-cut
returns-in-AfterEscape-clause-cut c = λ e. escape_is_dropped c.args.self.now c.in-AfterEscape.is
