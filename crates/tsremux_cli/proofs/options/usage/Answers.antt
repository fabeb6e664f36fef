use Rattle.std.proofs.Common.{refl}
use Rattle.std.specs.Fmt.{digits}
use Rattle.tsremux_cli.proofs.options.usage.Goals as goal

pub returns : goal.returns
unfolding digits
returns c = refl
