use Rattle.joined_parts.proofs.MovedFindings.{whole_stays}
use Rattle.joined_parts.proofs.laws.whole_recording_stays.Goals as goal

pub returns : goal.returns
returns c = whole_stays
