use Rattle.tsview_cli.specs.CapturedStreams.{HasParts, after_parts}
use Rattle.tsview_cli.proofs.CapturedParts.{packets_more}
use Rattle.tsview_cli.proofs.captured.ViewedPartsPartTaker.take_packets.Goals as goal

pub returns : goal.returns
returns c = λ first parts taken s is.
    let h : HasParts first c.args.self.now s parts = taken s is in
    packets_more first c.args.self.now _ s parts c.args.packets.now h (c.in_ok-take_all.ensures.analysed (after_parts s parts) h.view)
    (c.in_ok-take_all.ensures.found (after_parts s parts) h.view)
