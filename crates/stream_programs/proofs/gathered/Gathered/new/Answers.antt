use Rattle.stream_programs.proofs.NumberPairs.{none}
use Rattle.stream_programs.proofs.ProgramSteps.{nothing_yet}
use Rattle.stream_programs.proofs.gathered.Gathered.new.Goals as goal

pub invariant_of-result : goal.invariant_of-result
invariant_of-result g c =
    none c.new-5.result.entries c.new-6.result.entries c.new-7.result.entries c.new-2.result.items c.new.result.items c.new-5.ensures.empty
    c.new-6.ensures.empty c.new-7.ensures.empty c.new-2.ensures.items c.new.ensures.items

pub returns : goal.returns
returns g c =
    nothing_yet c.new.result.items c.new-2.result.items c.new-3.result.items c.new-4.result.items c.new.ensures.items c.new-2.ensures.items
    c.new-3.ensures.items c.new-4.ensures.items
