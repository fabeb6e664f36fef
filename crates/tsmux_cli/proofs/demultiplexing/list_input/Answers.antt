use Rattle.tsmux_cli.proofs.Listing.{end_listed, lists_none}
use Rattle.tsmux_cli.proofs.demultiplexing.list_input.Goals as goal

pub take_input-requires-clause-start : goal.take_input-requires-clause-start
take_input-requires-clause-start g c = lists_none c.new-demux.result c.new-text.result.items c.new-demux.ensures c.new-text.ensures.items

pub returns-clause-ok : goal.returns-clause-ok
returns-clause-ok g c =
    end_listed _ c.in_ok-take_input.ensures.bytes c.take_input.new.taker.demux c.take_input.new.taker.faulty c.in_ok-ended.ended
    c.take_input.new.taker.text.items c.list_end.new.text.items c.in_ok-take_input.ensures.read c.in_ok-take_input.ensures.taken
    c.in_ok-ended.ensures.lines c.in_ok-ended.ensures.fault
