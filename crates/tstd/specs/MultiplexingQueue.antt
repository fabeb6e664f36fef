-- Bytes that pass a multiplexing buffer MB (ISO/IEC 13818-1, 2.4.2.3), if there is one: a queue like a transport buffer.
use Rattle.std.specs.Prelude.{ℕ, ◌<◌, ◌≤◌, max, List, Option, Some, None}
use Rattle.std.specs.Option.{ForSome}
use Rattle.clock27.specs.Departure.{departures}
use Rattle.tstd.specs.Queues.{greatest_residence, bytes_within}
use Rattle.tstd.specs.declared.queue.Queue.{Queue}

-- when bytes that enter MB at these times leave it; without an MB they pass at once
unfoldable pub passed : Option Queue → List ℕ → List ℕ
passed None times = times
passed (Some queue) times = departures queue.step queue.last times

-- when the last byte left MB, or, without an MB, the transport buffer, which also passes bytes that enter no other buffer
unfoldable pub last_in : Option Queue → ℕ → ℕ
last_in None transport = transport
last_in (Some queue) transport = queue.last

-- the time that a byte takes to leave MB, and the longest residence in MB, over the bytes that have left it and the bytes that enter it at these times; 0 and
-- 0 without an MB
unfoldable pub residence_in : Option Queue → List ℕ → ℕ × ℕ
residence_in None times = (0, 0)
residence_in (Some queue) times = (queue.step, max queue.longest_residence (greatest_residence queue.step queue.last times))

-- the most bytes in MB at once, 0 without an MB
unfoldable pub peak_in : Option Queue → ℕ
peak_in None = 0
peak_in (Some queue) = bytes_within queue.step queue.longest_residence

-- the bounds on MB while a walk is at a byte: no byte has left MB after `moment`, nor stayed longer than the time of the last departure
abbrev pub IsWithin : Option Queue → ℕ → Type 0
IsWithin multiplexing moment =
    ForSome multiplexing (λ queue. (0 < queue.step) × (queue.step ≤ 20000000000000000) × (queue.last ≤ moment) × (queue.longest_residence ≤ queue.last))
