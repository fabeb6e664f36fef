use Rattle.std.proofs.Common.{◌≡◌, ◌∙◌, rules, get_or, sym}
use Rattle.std.proofs.lemmas.List.Edits.{map_over_more}
use Rattle.std.proofs.lemmas.List.{take_all, drop_all}
use Rattle.system_tables.specs.Programs.{ProgramState, entered, excesses_in}
use Rattle.system_tables.proofs.Elements.{not_yet, one_more}
use Rattle.system_tables.proofs.system_tables.take_each.Goals as goal

pub loop-at-preserved : goal.loop-at-preserved
loop-at-preserved c =
    let f = entered c.args.arrival.now c.args.index c.args.pid in
    let xs = c.args.programs.now in
    let x : ProgramState = c.index-programs-at.result in
    let here : x ≡ get_or xs c.loop-at.at x =
    not_yet f xs c.loop-at.programs c.loop-at.at x c.loop-at-test.true c.loop-at.invariant.programs c.index-programs-at.is in
    rw (c.in_ok-take.ensures.program, c.in_ok-take.ensures.excesses, sym c.index-programs-at.is) (record {
      programs = map_over_more f xs c.loop-at.programs c.loop-at.at x c.loop-at-test.true c.loop-at.invariant.programs c.index-programs-at.is;
      excesses = one_more (excesses_in c.args.arrival.now c.args.index c.args.pid) xs c.loop-at.at x c.loop-at.excesses.items c.loop-at-test.true here
          ∙ c.loop-at.invariant.excesses;
    })

pub returns-clause-programs : goal.returns-clause-programs
returns-clause-programs c = search (rules, take_all, drop_all)

pub returns-clause-excesses : goal.returns-clause-excesses
returns-clause-excesses c = search (rules, drop_all)
