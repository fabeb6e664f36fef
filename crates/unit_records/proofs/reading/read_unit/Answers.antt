use Rattle.std.proofs.Common.{◌++◌}
use Rattle.unit_records.proofs.RecordFound.{found}
use Rattle.unit_records.proofs.RecordReading.{at_end, start_refused, stamps_refused, bytes_refused, whole_record}
use Rattle.unit_records.proofs.reading.read_unit.Goals as goal

pub returns-in-Ok-None-clause-known : goal.returns-in-Ok-None-clause-known
returns-in-Ok-None-clause-known g c = λ xs e. at_end xs _ (rw c.in-Ok-None.field-0-is at (c.in-Ok-None.ensures.known xs e))

pub returns-in-Err-clause-known : goal.returns-in-Err-clause-known
returns-in-Err-clause-known g c = λ xs e. start_refused xs (g.R.Read.remaining c.read_start.new.from) c.in-Err.refusal (c.in-Err.ensures.known xs e)

pub returns-in-Err-read_stamps-clause-known : goal.returns-in-Err-read_stamps-clause-known
returns-in-Err-read_stamps-clause-known g c = λ xs e.
    stamps_refused xs (g.R.Read.remaining c.read_start.new.from) (g.R.Read.remaining c.read_stamps.new.from) c.in-Ok-Some.start c.in-Err-read_stamps.refusal
    (rw c.in-Ok-Some.field-0-is at (c.in-Ok-Some.ensures.known xs e)) c.in-Err-read_stamps.ensures.known

pub returns-in-Ok-read_bytes-clause-known : goal.returns-in-Ok-read_bytes-clause-known
returns-in-Ok-read_bytes-clause-known g c = λ xs e.
    rw (c.parted-bytes.ensures.marks, c.parted-bytes.ensures.bytes)
    (whole_record xs (g.R.Read.remaining c.read_start.new.from) (g.R.Read.remaining c.read_stamps.new.from) (g.R.Read.remaining c.read_bytes.new.from)
    c.in-Ok-Some.start c.in-Ok.stamps c.in-Ok-read_bytes.bytes.items
    (rw c.in-Ok-Some.field-0-is at (c.in-Ok-Some.ensures.known xs e)) c.in-Ok.ensures.known c.in-Ok-read_bytes.ensures.known)

pub returns-in-Err-read_bytes-clause-known : goal.returns-in-Err-read_bytes-clause-known
returns-in-Err-read_bytes-clause-known g c = λ xs e.
    bytes_refused xs (g.R.Read.remaining c.read_start.new.from) (g.R.Read.remaining c.read_stamps.new.from) (g.R.Read.remaining c.read_bytes.new.from)
    c.in-Ok-Some.start c.in-Ok.stamps c.in-Err-read_bytes.refusal
    (rw c.in-Ok-Some.field-0-is at (c.in-Ok-Some.ensures.known xs e)) c.in-Ok.ensures.known c.in-Err-read_bytes.ensures.known

pub returns-in-Ok-read_bytes-clause-found : goal.returns-in-Ok-read_bytes-clause-found
returns-in-Ok-read_bytes-clause-found g c =
    let start = rw c.in-Ok-Some.field-0-is at c.in-Ok-Some.ensures.found in
    let stamps = c.in-Ok.ensures.found in (
      (start.0 ++ stamps.0) ++ c.in-Ok-read_bytes.bytes.items,
      rw (c.parted-bytes.ensures.marks, c.parted-bytes.ensures.bytes)
          (found start.0 stamps.0 c.in-Ok-read_bytes.bytes.items c.in-Ok-Some.start c.in-Ok.stamps start.1 stamps.1 c.in-Ok-read_bytes.ensures.size),
    )
