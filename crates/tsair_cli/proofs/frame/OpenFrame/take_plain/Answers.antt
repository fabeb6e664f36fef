use Rattle.std.proofs.Common.{◌++◌, ◌∷◌, [], Err, refl, subst, sym}
use Rattle.unit_records.specs.OpenRecords.{come_of}
use Rattle.tsair_cli.specs.Frames.{with_bytes}
use Rattle.tsair_cli.specs.OpenFrames.{Steps}
use Rattle.tsair_cli.specs.declared.frame_fault.FrameFault.{FrameFault}
use Rattle.tsair_cli.specs.declared.frame.Place.TheVariants.{Before, Inside}
use Rattle.tsair_cli.proofs.Steps.{ends_here, goes_on, is_refused}
use Rattle.tsair_cli.proofs.frame.OpenFrame.take_plain.Goals as goal

pub returns-in-Ok-None : goal.returns-in-Ok-None
returns-in-Ok-None c =
    goes_on (come_of c.args.self.now.begun) c.args.byte (record { alloc = c.args.self.now.alloc; place = Inside; begun = c.take.new.self }) refl
    (rw c.in-Ok-None.field-0-is at (c.in-Ok-None.ensures.taken c.requires))

pub returns-in-Ok-Some : goal.returns-in-Ok-Some
returns-in-Ok-Some c =
    ends_here (come_of c.args.self.now.begun) c.args.byte (record { alloc = c.args.self.now.alloc; place = Before; begun = c.take.new.self }) c.in-Ok-Some.whole
    refl
    (rw c.in-Ok-Some.field-0-is at (c.in-Ok-Some.ensures.taken c.requires))

pub returns-in-Err : goal.returns-in-Err
returns-in-Err c =
    subst (λ (f : FrameFault). Steps (with_bytes (come_of c.args.self.now.begun ++ c.args.byte ∷ [])) c.restart.new.self (Err f)) (sym c.fault_of.ensures)
    (is_refused (come_of c.args.self.now.begun) c.args.byte c.restart.new.self c.in-Err.refusal c.restart.ensures.place c.restart.ensures.open_record
    (c.in-Err.ensures.taken c.requires))
