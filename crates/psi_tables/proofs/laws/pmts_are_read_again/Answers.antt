use Rattle.psi_tables.specs.Laws.{PmtsAreReadAgain}
use Rattle.psi_tables.proofs.PmtForms.{written}
use Rattle.psi_tables.proofs.laws.pmts_are_read_again.Goals as goal

again : PmtsAreReadAgain
again p fits = let a = written p fits in record { writable = a.writable; table = a.table; read = a.read }

pub returns : goal.returns
returns c = again
