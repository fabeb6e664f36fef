use Rattle.tsview_cli.proofs.program.answer.Goals as goal

pub returns-in-Page : goal.returns-in-Page
returns-in-Page g c = rw c.in-Page.is c.draw_stream.ensures
