use Rattle.std.proofs.Common.{refl, rules}
use Rattle.on_air.proofs.Aired.{begins}
use Rattle.on_air.proofs.beginning.begun.Goals as goal

pub returns-in-Ok-clause-begun : goal.returns-in-Ok-clause-begun
returns-in-Ok-clause-begun g c =
    λ d start carries promises one rate lead. begins d c.args.terms c.args.hex start _ carries promises c.in-Ok.ensures.empty c.in-Ok.ensures.sent
    c.in-Ok.ensures.hex refl rate lead refl c.none.ensures refl one (search rules)
