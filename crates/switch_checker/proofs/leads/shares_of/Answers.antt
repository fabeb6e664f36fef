use Rattle.plan_checker.proofs.SpreadClaims.{claim_small}
use Rattle.switch_checker.proofs.leads.shares_of.Goals as goal

pub returns-clause-spread : goal.returns-clause-spread
returns-clause-spread g c = let pair = c.args.plans.now in
    rw c.claim_of_stream-claim.ensures.claim (claim_small pair.description.now pair.first.now c.args.i c.keeps_ranges.ensures pair.shaped c.requires pair.led)

pub returns-clause-next_spread : goal.returns-clause-next_spread
returns-clause-next_spread g c = let pair = c.args.plans.now in
    rw c.claim_of_stream-next_claim.ensures.claim
    (claim_small pair.description.now pair.second.now c.args.i c.keeps_ranges.ensures pair.next_shaped c.requires pair.next_led)
