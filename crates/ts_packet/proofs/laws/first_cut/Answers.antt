use Rattle.ts_packet.proofs.Listing.{first_cut}
use Rattle.ts_packet.proofs.laws.first_cut.Goals as goal

pub returns : goal.returns
returns c = first_cut
