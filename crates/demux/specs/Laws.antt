-- What the laws of this crate say.
use Rattle.std.specs.Prelude.{◌≡◌, ℕ, ◌/◌, ◌-◌, ◌^◌, ◌<◌, ◌==◌, Bool, true, false, List, ◌++◌, length, map, filter, Option, Some, None}
use Rattle.ts_packet.specs.PidList.{pid_list}
use Rattle.pid_findings.specs.Views.{PidFinding, FindingView}
use Rattle.pid_findings.specs.Findings.{findings, findings_to_end}
use Rattle.pid_findings.specs.Shown.{with_pid}
use Rattle.demux.specs.Stream.{StreamState, start, is_aligned, pushed, taken, found_in, finished}

-- pieces one after another are one piece
abbrev pub PiecesJoin : Type 0
PiecesJoin = (s : StreamState) (piece more : List ℕ) → pushed (pushed s piece) more ≡ pushed s (piece ++ more)

-- taking a packet is the same as pushing its bytes, if no part of a packet is held
abbrev pub TakenAsPushed : Type 0
TakenAsPushed = (s : StreamState) (bytes : List ℕ) → is_aligned s ≡ true → length bytes ≡ 188 →
    pushed s bytes ≡ record (taken s bytes) { found = s.found ++ found_in s bytes }

-- whether a finding is of a PID
abbrev pub has_pid : ℕ → Option ℕ → Bool
has_pid pid None = false
has_pid pid (Some other) = other == pid

abbrev pub found_of : ℕ → List FindingView → List FindingView
found_of pid found = filter (λ finding. has_pid pid finding.pid) found

-- a finding of a PID at a packet
abbrev pub with_pid_at : ℕ → PidFinding → FindingView
with_pid_at pid at = with_pid pid at.packet at.found

-- in a stream of fewer than 2^64 - 1 packets the findings of a PID, except the PID of null packets, are the findings of its packets alone
abbrev pub EachPidAlone : Type 0
EachPidAlone = (pid : ℕ) (bytes : List ℕ) → (pid == 8191) ≡ false → length bytes / 188 < 2 ^ 64 - 1 →
    (found_of pid (pushed start bytes).found ≡ map (with_pid_at pid) (findings (pid_list pid bytes)))
    × (found_of pid (finished (pushed start bytes)).found ≡ map (with_pid_at pid) (findings_to_end (length bytes / 188) (pid_list pid bytes)))

-- streams that agree on a PID's packets and their places, and for the end on the number of packets, agree on its findings
abbrev pub PacketsDecide : Type 0
PacketsDecide = (pid : ℕ) (bytes others : List ℕ) → (pid == 8191) ≡ false → length bytes / 188 < 2 ^ 64 - 1 → length others / 188 < 2 ^ 64 - 1 →
    pid_list pid bytes ≡ pid_list pid others →
    (found_of pid (pushed start bytes).found ≡ found_of pid (pushed start others).found)
    × (length bytes / 188 ≡ length others / 188 → found_of pid (finished (pushed start bytes)).found ≡ found_of pid (finished (pushed start others)).found)
