use Rattle.toml.proofs.Views.{view-Table}
use Rattle.description.proofs.description.Description.read.Goals as goal

pub returns-in-Ok : goal.returns-in-Ok
returns-in-Ok c = rw c.in-Ok.ensures.ok (rw (view-Table c.in-Ok.table) at c.read_document.ensures)
