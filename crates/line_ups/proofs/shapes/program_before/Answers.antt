use Rattle.line_ups.proofs.Numbers.{program_of}
use Rattle.line_ups.proofs.shapes.program_before.Goals as goal

pub returns-in-Some-clause-value : goal.returns-in-Some-clause-value
returns-in-Some-clause-value c =
    program_of c.args.old.now c.args.new.now c.args.place c.in-Some.number c.programs.result.now c.place_of.result c.program_number.result
    c.place_of.ensures.value c.programs.ensures.value c.program_number.ensures c.in-Some.is
