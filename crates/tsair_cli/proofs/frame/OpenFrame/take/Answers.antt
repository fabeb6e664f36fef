use Rattle.std.proofs.Common.{refl, subst, sym, ◌∙◌}
use Rattle.unit_records.specs.OpenRecords.{come_of}
use Rattle.tsair_cli.specs.Frames.{FrameAnswer, FrameState}
use Rattle.tsair_cli.specs.OpenFrames.{Steps, state_of}
use Rattle.tsair_cli.specs.declared.frame.Place.TheVariants.{AfterEscape, Inside}
use Rattle.tsair_cli.proofs.Steps.{a_mark, escape_now, lost_before, lost_still, plain_byte, step_at}
use Rattle.tsair_cli.proofs.frame.OpenFrame.take.Goals as goal

pub returns-then-byte-eq-MARK : goal.returns-then-byte-eq-MARK
returns-then-byte-eq-MARK c =
    subst (λ (t : FrameState × FrameAnswer). Steps t c.take_mark.new.self c.take_mark.result)
    (sym (a_mark (state_of c.args.self.now) c.args.byte c.if-byte-eq-MARK.true)) c.take_mark.ensures

pub returns-then-byte-eq-ESCAPE : goal.returns-then-byte-eq-ESCAPE
returns-then-byte-eq-ESCAPE c =
    escape_now c.args.self.now (record { alloc = c.args.self.now.alloc; place = AfterEscape; begun = c.args.self.now.begun }) c.args.byte
    c.if-byte-eq-MARK.false c.in-Inside.is c.if-byte-eq-ESCAPE.true refl refl c.requires

pub returns-in-Before : goal.returns-in-Before
returns-in-Before c =
    lost_before c.args.self.now c.restart.new.self c.args.byte c.if-byte-eq-MARK.false c.in-Before.is c.restart.ensures.place c.restart.ensures.open_record

pub returns-in-Skipping : goal.returns-in-Skipping
returns-in-Skipping c = lost_still c.args.self.now c.args.byte c.if-byte-eq-MARK.false c.in-Skipping.is c.requires

pub returns-in-AfterEscape : goal.returns-in-AfterEscape
returns-in-AfterEscape c =
    subst (λ (t : FrameState × FrameAnswer). Steps t c.take_escaped.new.self c.take_escaped.result)
    (sym (step_at c.args.self.now AfterEscape c.args.byte c.if-byte-eq-MARK.false c.in-AfterEscape.is)) c.take_escaped.ensures

pub returns-else-byte-eq-ESCAPE : goal.returns-else-byte-eq-ESCAPE
returns-else-byte-eq-ESCAPE c =
    subst (λ (t : FrameState × FrameAnswer). Steps t c.take_plain.new.self c.take_plain.result)
    (sym (step_at c.args.self.now Inside c.args.byte c.if-byte-eq-MARK.false c.in-Inside.is
    ∙ plain_byte (come_of c.args.self.now.begun) c.args.byte c.if-byte-eq-ESCAPE.false))
    c.take_plain.ensures
