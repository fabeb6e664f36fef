-- A stream whose findings are taken away as they come: the caller of `take` has them in a vector of its own, the caller of
-- `push` reads them and forgets them.
use Rattle.std.specs.Prelude.{◌≡◌, ℕ, ◌/◌, ◌-◌, ◌^◌, ◌<◌, ◌==◌, true, false, List, [], ◌∷◌, ◌++◌, length, map, All}
use Rattle.std.specs.List.{concat}
use Rattle.ts_packet.specs.PidList.{pid_list}
use Rattle.pid_findings.specs.Views.{FindingView}
use Rattle.pid_findings.specs.Findings.{findings, findings_to_end}
use Rattle.demux.specs.Stream.{StreamState, start, is_aligned, taken, found_in, pushed, finished}
use Rattle.demux.specs.Laws.{found_of, with_pid_at}

-- the same with other findings
abbrev pub with_found : List FindingView → StreamState → StreamState
with_found found s = record s { found = found }

-- after these bytes of a stream: the state, none of whose findings are left, and all that was found so far
pub record FoundSoFar (bytes : List ℕ) (s : StreamState) (found : List FindingView) : Type 0 where
  pub none : s.found ≡ []
  pub state : pushed start bytes ≡ with_found found s

-- the state after packets that are taken one after another
unfoldable pub taken_all : StreamState → List (List ℕ) → StreamState
taken_all s [] = s
taken_all s (packet ∷ packets) = taken_all (taken s packet) packets

-- the findings in these packets, one after another
unfoldable pub found_in_all : StreamState → List (List ℕ) → List FindingView
found_in_all s [] = []
found_in_all s (packet ∷ packets) = found_in s packet ++ found_in_all (taken s packet) packets

-- before the first byte nothing is found
abbrev pub NothingAtFirst : Type 0
NothingAtFirst = FoundSoFar [] start []

-- a packet that is taken adds its findings
abbrev pub PacketAdds : Type 0
PacketAdds = (bytes packet : List ℕ) (s : StreamState) (found : List FindingView) → FoundSoFar bytes s found → is_aligned s ≡ true →
    length packet ≡ 188 → FoundSoFar (bytes ++ packet) (taken s packet) (found ++ found_in s packet)

-- packets that are taken one after another add the findings in each packet
abbrev pub PacketsAdd : Type 0
PacketsAdd = (bytes : List ℕ) (packets : List (List ℕ)) (s : StreamState) (found : List FindingView) → FoundSoFar bytes s found →
    is_aligned s ≡ true → All (λ packet. length packet ≡ 188) packets →
    FoundSoFar (bytes ++ concat packets) (taken_all s packets) (found ++ found_in_all s packets)

-- a piece that is pushed adds the findings of the new state, which are then forgotten
abbrev pub PieceAdds : Type 0
PieceAdds = (bytes piece : List ℕ) (s : StreamState) (found : List FindingView) → FoundSoFar bytes s found →
    FoundSoFar (bytes ++ piece) (with_found [] (pushed s piece)) (found ++ (pushed s piece).found)

-- the findings in the bytes are the findings so far; after a further piece and the end of the stream, the findings that these give follow
abbrev pub AllAreFound : Type 0
AllAreFound = (bytes piece : List ℕ) (s : StreamState) (found : List FindingView) → FoundSoFar bytes s found →
    ((pushed start bytes).found ≡ found)
    × ((pushed start (bytes ++ piece)).found ≡ found ++ (pushed s piece).found)
    × ((finished (pushed start (bytes ++ piece))).found ≡ found ++ (finished (pushed s piece)).found)

-- the findings of a PID are the findings of its packets alone
abbrev pub PidFoundSoFar : Type 0
PidFoundSoFar = (pid : ℕ) (bytes : List ℕ) (s : StreamState) (found : List FindingView) → FoundSoFar bytes s found → (pid == 8191) ≡ false →
    length bytes / 188 < 2 ^ 64 - 1 →
    (found_of pid found ≡ map (with_pid_at pid) (findings (pid_list pid bytes)))
    × (found_of pid (found ++ (finished s).found) ≡ map (with_pid_at pid) (findings_to_end (length bytes / 188) (pid_list pid bytes)))
