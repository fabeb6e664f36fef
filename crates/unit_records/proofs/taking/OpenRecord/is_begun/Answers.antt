use Rattle.unit_records.proofs.RecordTaking.{cut_inside, none_come, some_come}
use Rattle.unit_records.proofs.taking.OpenRecord.is_begun.Goals as goal

pub returns-clause-none : goal.returns-clause-none
returns-clause-none c o e = none_come c.args.self.now.head.items c.args.self.now.unit.items c.is_empty.result c.is_empty.ensures o.head_first e

pub returns-clause-cut : goal.returns-clause-cut
returns-clause-cut c o e = cut_inside _ o.part (some_come c.args.self.now.head.items c.args.self.now.unit.items c.is_empty.result c.is_empty.ensures e)
