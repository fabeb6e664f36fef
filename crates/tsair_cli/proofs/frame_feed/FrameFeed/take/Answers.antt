use Rattle.std.proofs.Common.{refl}
use Rattle.tsair_cli.specs.declared.frame_fault.FrameFault.TheVariants.{Dropped}
use Rattle.tsair_cli.proofs.Unframing.{none_taken, notes_drop, passes_on}
use Rattle.tsair_cli.proofs.frame_feed.FrameFeed.take.Goals as goal

pub returns-in-Ok-None-clause-takes : goal.returns-in-Ok-None-clause-takes
returns-in-Ok-None-clause-takes c =
    let s = rw c.in-Ok-None.field-0-is at c.in-Ok-None.ensures in
    none_taken c.args.self.now _ c.args.byte s.0 s.1 refl refl refl refl

pub returns-in-Ok-Some-clause-takes : goal.returns-in-Ok-Some-clause-takes
returns-in-Ok-Some-clause-takes c =
    let s = rw c.in-Ok-Some.field-0-is at c.in-Ok-Some.ensures in
    passes_on c.pass_on.result c.args.self.now c.pass_on.new.self c.take.new.self c.args.byte (c.in-Ok-Some.stream, c.in-Ok-Some.unit) s.0 s.1
    c.pass_on.ensures.frame c.pass_on.ensures.count c.pass_on.ensures.reported c.pass_on.ensures.records c.pass_on.ensures.drops

pub returns-in-Err-Dropped-clause-takes : goal.returns-in-Err-Dropped-clause-takes
returns-in-Err-Dropped-clause-takes c =
    let s = rw c.in-Err-Dropped.field-0-is at c.in-Err-Dropped.ensures in
    notes_drop c.note_drop.result c.args.self.now c.note_drop.new.self c.take.new.self c.args.byte Dropped s.0 s.1
    c.note_drop.ensures.frame c.note_drop.ensures.count c.note_drop.ensures.reported c.note_drop.ensures.records c.note_drop.ensures.drops
