use Rattle.tsview_cli.specs.CapturedStreams.{HasParts, after_parts}
use Rattle.tsview_cli.proofs.CapturedParts.{stamped_more}
use Rattle.tsview_cli.proofs.captured.ViewedPartsPartTaker.take_stamped.Goals as goal

pub returns : goal.returns
returns c = λ first parts taken s is.
    let h : HasParts first c.args.self.now s parts = taken s is in
    stamped_more first c.args.self.now _ s parts c.args.head c.args.packet.now h (c.in_ok-take_stamped.ensures.analysed (after_parts s parts) h.view)
    (c.in_ok-take_stamped.ensures.found (after_parts s parts) h.view)
