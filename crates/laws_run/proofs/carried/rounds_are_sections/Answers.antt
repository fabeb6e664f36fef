use Rattle.laws_run.proofs.TablePieces.{rounds_are_sections}
use Rattle.laws_run.proofs.carried.rounds_are_sections.Goals as goal

pub returns : goal.returns
returns c = rounds_are_sections
