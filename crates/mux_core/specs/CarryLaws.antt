-- What the laws of this crate say.
use Rattle.std.specs.Prelude.{◌≡◌, ◌<◌, ℕ, List, length}
use Rattle.std.specs.List.{concat}
use Rattle.ts_packet.specs.declared.start.Start.{Start}
use Rattle.ts_packet.specs.Packets.{packets}
use Rattle.mux_core.specs.PidPackets.{payload_packets}
use Rattle.mux_core.specs.RecordRuns.{run_from, run_of}

-- an input has no more records than bytes: a run over more records gives the same result
abbrev pub RunsAreWhole : Type 0
RunsAreWhole = (n id : ℕ) (xs : List ℕ) → length xs < n → run_from n id 0 xs ≡ run_of id xs

-- the packets of payloads, written one by one and joined, are the packets of the payloads
abbrev pub PacketsJoin : Type 0
PacketsJoin = (pid number : ℕ) (start : Start) (pieces : List (List ℕ)) → concat (payload_packets pid start number pieces) ≡ packets pid start number pieces
