use Rattle.std.proofs.Common.{arith}
use Rattle.description.proofs.SectionCounts.{eit_count}
use Rattle.description.proofs.description.Description.event_sections.Goals as goal

pub returns : goal.returns
returns c =
    let count = c.scheduled_count.ensures.value in
    omega (arith, count, eit_count c.args.self.now)
