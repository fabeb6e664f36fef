use Rattle.tstd.proofs.EntryPeaks.{last_by_parts, first_by_parts}
use Rattle.tstd.proofs.units_in_buffer.moments_of.Goals as goal

pub returns-clause-last : goal.returns-clause-last
returns-clause-last c =
    rw (c.from.ensures, c.from-2.ensures, c.from-3.ensures, c.from-4.ensures, c.from-5.ensures)
    (last_by_parts c.args.walk.now.rate c.args.walk.now.rx c.args.walk.now.rbx c.args.due)

pub returns-clause-first : goal.returns-clause-first
returns-clause-first c =
    rw (c.div_ceil.ensures, c.from.ensures, c.from-2.ensures, c.from-3.ensures, c.from-4.ensures, c.from-5.ensures)
    (first_by_parts c.args.walk.now.rate c.args.walk.now.rx c.args.walk.now.rbx c.args.due)
