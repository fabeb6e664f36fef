use Rattle.ts_packet.proofs.Listing.{pieces_listed}
use Rattle.ts_packet.proofs.laws.pieces_listed.Goals as goal

pub returns : goal.returns
returns c = pieces_listed
