use Rattle.tsmux_cli.proofs.Listing.{lists_more}
use Rattle.tsmux_cli.proofs.demultiplexing.FindingListPieceTaker.take_piece.Goals as goal

pub returns-clause-taken : goal.returns-clause-taken
returns-clause-taken c first bytes whole before =
    lists_more bytes c.args.piece.now c.args.self.now.demux c.list_piece.new.demux c.args.self.now.faulty c.in_ok-faulty.faulty
    c.args.self.now.text.items c.list_piece.new.text.items before
    c.in_ok-faulty.ensures.state c.in_ok-faulty.ensures.faults c.in_ok-faulty.ensures.lines_are
