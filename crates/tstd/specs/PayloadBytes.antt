-- The remaining part of a walk over the payload bytes of a PID as they enter the buffer of their units: the main buffer, after the transport buffer, or the
-- elementary stream buffer EB, after the multiplexing buffer MB (ISO/IEC 13818-1, 2.4.2.3, the leak method if EB is never full).
use Rattle.std.specs.Prelude.{ℕ, ◌*◌, List}
use Rattle.tstd.specs.DepartureWalk.{left_ahead, walk_residence}
use Rattle.tstd.specs.MultiplexingQueue.{passed, last_in, residence_in}
use Rattle.tstd.specs.declared.payload_bytes.PayloadBytes.{PayloadBytes}

-- when the payload bytes that a walk has not yet given enter the buffer of their units
unfoldable pub bytes_ahead : PayloadBytes → List ℕ
bytes_ahead walk = passed walk.multiplexing (left_ahead walk.transport)

-- the longest residence of all bytes of the PID in the transport buffer, and of all payload bytes in MB, with the step of MB
unfoldable pub residences : PayloadBytes → ℕ × (ℕ × ℕ)
residences walk = (walk_residence walk.transport, residence_in walk.multiplexing (left_ahead walk.transport))

-- when the last byte that the walk has given entered this buffer
abbrev pub last_of : PayloadBytes → ℕ
last_of walk = last_in walk.multiplexing walk.transport.queue.last

-- the scale of time stamps: a stamp of `due` units of 90 kHz is at due * rate * drain / 720,000
abbrev pub drain_of : PayloadBytes → ℕ
drain_of walk = walk.rx * walk.rbx
