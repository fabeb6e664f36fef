use Rattle.std.proofs.Common.{ap}
use Rattle.tsjob_cli.specs.Options.{known_but_one}
use Rattle.tsjob_cli.proofs.options.known_words.Goals as goal

pub returns : goal.returns
returns c = ap known_but_one c.barred_word.ensures
