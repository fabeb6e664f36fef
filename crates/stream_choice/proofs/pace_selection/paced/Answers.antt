use Rattle.std.proofs.Common.{arith}
use Rattle.stream_choice.proofs.PaceFacts.{serving, lead_within}
use Rattle.stream_choice.proofs.pace_selection.paced.Goals as goal

pub overflow_mul-burst : goal.overflow_mul-burst
overflow_mul-burst g c =
    let s = serving c.args.needs (g.U.PacedUnits.burst c.args.units.now) c.args.delay c.args.max_lead c.args.pace c.requires.serves in
    record { fits = omega (arith, s.most_burst, c.burst_at-burst.ensures) }

pub overflow_add-lead : goal.overflow_add-lead
overflow_add-lead g c =
    let s = serving c.args.needs (g.U.PacedUnits.burst c.args.units.now) c.args.delay c.args.max_lead c.args.pace c.requires.serves in
    let within = lead_within c.args.needs (g.U.PacedUnits.burst c.args.units.now) c.args.delay c.args.max_lead c.args.pace s in
    record {
      fits =
          omega (
            arith,
            rw c.pace_share-share.ensures.value at c.lateness.ensures.value,
            rw (c.pace_share-share.ensures.value, c.burst_at-burst.ensures) at c.div_ceil.ensures,
            within,
            c.requires.lead,
          );
    }

pub overflow_cast-result : goal.overflow_cast-result
overflow_cast-result g c =
    let s = serving c.args.needs (g.U.PacedUnits.burst c.args.units.now) c.args.delay c.args.max_lead c.args.pace c.requires.serves in
    record { fits = omega (arith, s.most_burst, c.burst_at-burst.ensures) }

pub overflow_cast-result-2 : goal.overflow_cast-result-2
overflow_cast-result-2 g c =
    let s = serving c.args.needs (g.U.PacedUnits.burst c.args.units.now) c.args.delay c.args.max_lead c.args.pace c.requires.serves in
    let within = lead_within c.args.needs (g.U.PacedUnits.burst c.args.units.now) c.args.delay c.args.max_lead c.args.pace s in
    record {
      fits =
          omega (
            arith,
            rw c.pace_share-share.ensures.value at c.lateness.ensures.value,
            rw (c.pace_share-share.ensures.value, c.burst_at-burst.ensures) at c.div_ceil.ensures,
            within,
            c.requires.lead,
          );
    }
