use Rattle.std.proofs.Common.{◌≡◌, rules}
use Rattle.plan_checker.proofs.section_distances.check_distance.Goals as goal

pub returns : goal.returns
returns c =
    let rate : c.bits_per_second.result ≡ c.args.description.now.rate = search rules in
    rw c.requires.spaced (rw rate at c.at_most.ensures)
