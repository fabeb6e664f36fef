use Rattle.std.proofs.Common.{◌∙◌, sym}
use Rattle.es_moments.proofs.ApartUnits.{same_at}
use Rattle.es_moments.proofs.apart.is_same_at.Goals as goal

pub returns-in-Some : goal.returns-in-Some
returns-in-Some g c =
    let found = c.in-Some.ensures.lookup in
    c.is_same.ensures ∙ sym (same_at c.args.at c.args.unit.now c.in-Some.next.now c.args.found.now found.3.0 found.1)
