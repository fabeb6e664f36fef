use Rattle.std.proofs.Common.{◌<◌, ◌≤◌, [], length, rules}
use Rattle.slot_plan.specs.Planned.{is_small_program}
use Rattle.plan_maker.specs.Certificates.{program_entry_of}
use Rattle.plan_maker.proofs.GrowingLists.{numbers_pushed, all_pushed, still_all}
use Rattle.plan_maker.proofs.certificates.program_entries.Goals as goal

pub loop-i-preserved : goal.loop-i-preserved
loop-i-preserved g c =
    let d = c.args.description.now in
    let i = c.loop-i.i in
    let below : i < length d.programs = search rules in
    record {
      entries = rw (c.in_ok-push.ensures.items, c.program_entry.ensures.entry)
          (numbers_pushed (program_entry_of d c.args.slots.now) d.programs [] c.loop-i.entries.items i below c.loop-i.invariant.entries);
      small = rw c.in_ok-push.ensures.items
          (still_all is_small_program c.loop-i.entries.items c.program_entry.result c.loop-i.invariant.small c.program_entry.ensures.small);
    }

pub returns-clause-entries : goal.returns-clause-entries
returns-clause-entries g c =
    let d = c.args.description.now in
    let over : length d.programs ≤ c.loop-i.i = search rules in
    all_pushed (λ i _. program_entry_of d c.args.slots.now i) d.programs [] c.loop-i.entries.items c.loop-i.i over c.loop-i.invariant.entries
