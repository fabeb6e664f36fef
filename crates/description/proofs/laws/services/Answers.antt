use Rattle.description.proofs.Services.{services_law}
use Rattle.description.proofs.laws.services.Goals as goal

pub returns : goal.returns
returns c = services_law
