use Rattle.tr101290.proofs.Members.{missing_law, unreferenced_law}
use Rattle.tr101290.proofs.reference_laws.members.Goals as goal

pub returns-clause-unreferenced : goal.returns-clause-unreferenced
returns-clause-unreferenced c = unreferenced_law

pub returns-clause-missing : goal.returns-clause-missing
returns-clause-missing c = missing_law
