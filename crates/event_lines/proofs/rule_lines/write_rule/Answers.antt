use Rattle.event_lines.specs.RuleLines.{rule_line}
use Rattle.event_lines.proofs.rule_lines.write_rule.Goals as goal

pub returns-in-ScrambledTable : goal.returns-in-ScrambledTable
unfolding rule_line
returns-in-ScrambledTable c = rw c.in-ScrambledTable.is c.write_scrambled.ensures

pub returns-in-NoCat : goal.returns-in-NoCat
unfolding rule_line
returns-in-NoCat c = rw c.in-NoCat.is c.write_scrambled-in-NoCat.ensures

pub returns-in-NoTable : goal.returns-in-NoTable
unfolding rule_line
returns-in-NoTable c = rw c.in-NoTable.is c.write_no_table.ensures

pub returns-in-NotEmpty : goal.returns-in-NotEmpty
unfolding rule_line
returns-in-NotEmpty c = rw c.in-NotEmpty.is c.write_stay.ensures

pub returns-in-Delayed : goal.returns-in-Delayed
unfolding rule_line
returns-in-Delayed c = rw c.in-Delayed.is c.write_stay-in-Delayed.ensures
