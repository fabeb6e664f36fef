use Rattle.psi_tables.specs.Laws.{PatsAreReadAgain}
use Rattle.psi_tables.proofs.PatForms.{written}
use Rattle.psi_tables.proofs.laws.pats_are_read_again.Goals as goal

again : PatsAreReadAgain
again p fits = let a = written p fits in record { writable = a.writable; table = a.table; read = a.read }

pub returns : goal.returns
returns c = again
