use Rattle.tsview_cli.proofs.Drawn.{all_drawn, takes_none}
use Rattle.tsview_cli.proofs.drawing.draw_whole.Goals as goal

pub take_input-requires-clause-start : goal.take_input-requires-clause-start
take_input-requires-clause-start g c = takes_none c.args.drawing.now

pub returns-in-Ok : goal.returns-in-Ok
returns-in-Ok g c = λ r d same.
    all_drawn r _ c.args.drawing.now c.take_input.new.taker _ c.drawn.result c.args.rate d same c.in-Ok.ensures c.drawn.ensures.ok c.drawn.ensures.err
