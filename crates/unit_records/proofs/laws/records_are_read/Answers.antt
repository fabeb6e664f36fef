use Rattle.unit_records.proofs.laws.records_are_read.Goals as goal
use Rattle.unit_records.proofs.RecordBytes.{records_are_read}

pub returns : goal.returns
returns c = records_are_read
