use Rattle.std.proofs.Common.{arith}
use Rattle.arrival.proofs.Lines.{row_early}
use Rattle.arrival.proofs.line.Line.row.Goals as goal

pub returns-clause-early : goal.returns-clause-early
returns-clause-early c =
    rw (c.from.ensures, c.from-2.ensures, c.from-3.ensures, c.from-4.ensures, c.from-5.ensures, c.from-6.ensures, c.from-7.ensures)
    (row_early c.args.self.now c.args.drain c.args.byte c.args.count c.requires.line c.requires.drain c.requires.end)

pub returns-clause-timed : goal.returns-clause-timed
returns-clause-timed c = record {
  some = omega (arith, c.requires.line.whole);
  few = omega (arith, c.requires.line.within);
  within = omega (arith, returns-clause-early c);
}
