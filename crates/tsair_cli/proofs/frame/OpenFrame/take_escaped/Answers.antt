use Rattle.std.proofs.Common.{subst, sym}
use Rattle.unit_records.specs.OpenRecords.{come_of}
use Rattle.tsair_cli.specs.Frames.{FrameAnswer, FrameState}
use Rattle.tsair_cli.specs.OpenFrames.{Steps}
use Rattle.tsair_cli.proofs.Steps.{escaped_byte, mark_byte, wrong_now}
use Rattle.tsair_cli.proofs.frame.OpenFrame.take_escaped.Goals as goal

pub returns-then-byte-eq-ESCAPED_MARK : goal.returns-then-byte-eq-ESCAPED_MARK
returns-then-byte-eq-ESCAPED_MARK c =
    subst (λ (t : FrameState × FrameAnswer). Steps t c.take_plain.new.self c.take_plain.result)
    (sym (mark_byte (come_of c.args.self.now.begun) c.args.byte c.if-byte-eq-ESCAPED_MARK.true)) c.take_plain.ensures

pub returns-then-byte-eq-ESCAPED_ESCAPE : goal.returns-then-byte-eq-ESCAPED_ESCAPE
returns-then-byte-eq-ESCAPED_ESCAPE c =
    subst (λ (t : FrameState × FrameAnswer). Steps t c.take_plain-then-byte-eq-ESCAPED_ESCAPE.new.self c.take_plain-then-byte-eq-ESCAPED_ESCAPE.result)
    (sym (escaped_byte (come_of c.args.self.now.begun) c.args.byte c.if-byte-eq-ESCAPED_MARK.false c.if-byte-eq-ESCAPED_ESCAPE.true))
    c.take_plain-then-byte-eq-ESCAPED_ESCAPE.ensures

pub returns : goal.returns
returns c =
    wrong_now (come_of c.args.self.now.begun) c.args.byte c.restart.new.self c.if-byte-eq-ESCAPED_MARK.false c.if-byte-eq-ESCAPED_ESCAPE.false
    c.restart.ensures.place c.restart.ensures.open_record
