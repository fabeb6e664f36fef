use Rattle.std.proofs.Common.{ℕ, ◌*◌, ◌<◌, ◌≤◌, arith}
use Rattle.std.proofs.lemmas.Nat.{mul-le}
use Rattle.stream_choice.proofs.Quotients.{at_most}
use Rattle.stream_choice.proofs.leads.row_lead.Goals as goal

pub returns-clause-upper : goal.returns-clause-upper
returns-clause-upper c =
    let row : ℕ = c.packets_in_row.result in
    let interval : ℕ = c.from-interval.result in
    let short : interval ≤ 90000 = omega (arith, c.from-interval.ensures, c.requires.ranges.most_interval) in
    let time = mul-le c.args.group interval 64 90000 c.requires.group.most_units short in
    let all = mul-le row (c.args.group * interval) c.args.packets 5760000 c.packets_in_row.ensures.upper (omega (arith, time)) in
    let few : row * c.args.group * interval ≤ 5760000 * c.from.result = omega (arith, all, c.from.ensures) in
    let some : 0 < c.from.result = omega (arith, c.from.ensures, c.requires.group.some_packets) in
    omega (arith, c.saturating_sub.ensures, c.div_ceil.ensures, at_most (row * c.args.group * interval) c.from.result 5760000 some few)
