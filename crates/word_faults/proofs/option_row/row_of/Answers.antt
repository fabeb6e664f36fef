use Rattle.word_faults.proofs.Found.{row_seen}
use Rattle.word_faults.proofs.option_row.row_of.Goals as goal

pub returns-in-Some : goal.returns-in-Some
returns-in-Some c = row_seen c.args.options.now c.args.word.now c.in-Some.name.now c.row_named.result c.in-Some.ensures c.row_named.ensures
