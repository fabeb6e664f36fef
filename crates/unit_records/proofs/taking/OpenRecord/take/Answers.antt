use Rattle.std.proofs.lemmas.List.{take_rest}
use Rattle.unit_records.proofs.RecordTaking.{head_refused, part_taken, whole_taken}
use Rattle.unit_records.proofs.taking.OpenRecord.take.Goals as goal

pub returns-in-Err-clause-taken : goal.returns-in-Err-clause-taken
returns-in-Err-clause-taken c o =
    head_refused c.args.self.now c.args.bytes.now c.take_head-n.new.head.items c.as_slice.result.now c.take_head-n.result c.in-Err.refusal o
    (c.as_slice.ensures.value, (c.take_head-n.ensures.items, (c.take_head-n.ensures.number, c.as_slice.ensures.fits))) c.in-Err.ensures

pub returns-in-Some-clause-taken : goal.returns-in-Some-clause-taken
returns-in-Some-clause-taken c o =
    whole_taken c.args.self.now c.close.new.self c.args.bytes.now c.take_head-n.new.head.items c.as_slice.result.now c.take_unit.new.unit.items
    c.take_head-n.result c.in-Ok.m
    c.in-Ok-Some.size c.in-Some.entry o
    (c.as_slice.ensures.value, (c.take_head-n.ensures.items, (c.take_head-n.ensures.number, c.as_slice.ensures.fits)))
    (rw c.in-Ok-Some.field-0-is at c.in-Ok-Some.ensures) (
      rw (take_rest c.args.bytes.now c.take_head-n.result) at c.in-Ok.ensures.items,
      rw (take_rest c.args.bytes.now c.take_head-n.result) at c.in-Ok.ensures.number,
    ) c.in-Some.ensures.0 c.in-Some.ensures.1.0 c.in-Some.ensures.1.1.0
    c.in-Some.ensures.1.1.1

pub returns-in-None-clause-taken : goal.returns-in-None-clause-taken
returns-in-None-clause-taken c o =
    part_taken c.args.self.now c.close.new.self c.args.bytes.now c.take_head-n.new.head.items c.as_slice.result.now c.take_unit.new.unit.items
    c.take_head-n.result c.in-Ok.m
    c.in-Ok-Some.size o
    (c.as_slice.ensures.value, (c.take_head-n.ensures.items, (c.take_head-n.ensures.number, c.as_slice.ensures.fits)))
    (rw c.in-Ok-Some.field-0-is at c.in-Ok-Some.ensures) (
      rw (take_rest c.args.bytes.now c.take_head-n.result) at c.in-Ok.ensures.items,
      rw (take_rest c.args.bytes.now c.take_head-n.result) at c.in-Ok.ensures.number,
    ) c.in-None.ensures.0 c.in-None.ensures.1.0 c.in-None.ensures.1.1
