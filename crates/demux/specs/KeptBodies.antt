-- The state of a stream that keeps the bodies of open PES packets for some PIDs only; zeros in the same number take the place of a body of another PID.
use Rattle.std.specs.Prelude.{◌≡◌, ℕ, ◌==◌, Bool, true, if◌then◌else◌, List, map, Option, Some, None}
use Rattle.std.specs.List.{list_any}
use Rattle.pid_findings.specs.Views.{FindingView}
use Rattle.pid_findings.specs.Machine.{PidState}
use Rattle.demux.specs.Stream.{States, StreamState, finished, found_in, pushed, taken}
use Rattle.pid_findings.specs.Bodies.{finding_without_body, state_without_body}

-- the bodies of a PID are kept
abbrev pub is_kept : List ℕ → ℕ → Bool
is_kept kept pid = list_any (λ k. k == pid) kept

abbrev pub state_if : Bool → PidState → PidState
state_if keeps s = if keeps then s else state_without_body s

abbrev pub states_but : List ℕ → States → States
states_but kept states = map (λ entry. (entry.0, state_if (is_kept kept entry.0) entry.1)) states

-- a stream whose open PES packets have no bodies, except on these PIDs
abbrev pub bodies_left_out_but : List ℕ → StreamState → StreamState
bodies_left_out_but kept s = record s { states = states_but kept s.states }

-- a finding of no PID is kept
abbrev pub is_of_kept : List ℕ → Option ℕ → Bool
is_of_kept kept None = true
is_of_kept kept (Some pid) = is_kept kept pid

abbrev pub finding_but : List ℕ → FindingView → FindingView
finding_but kept finding = if is_of_kept kept finding.pid then finding else finding_without_body finding

-- the findings without the bodies of other PIDs
abbrev pub all_but : List ℕ → List FindingView → List FindingView
all_but kept found = map (finding_but kept) found

-- the bytes left out change nothing that is found or kept later, except bodies of other PIDs: by a packet, and by bytes and the end of the stream,
-- whatever bodies of other PIDs were left out before
abbrev pub OthersDecideNothing : Type 0
OthersDecideNothing = (kept : List ℕ) (s : StreamState) (bytes : List ℕ) →
    (bodies_left_out_but kept (bodies_left_out_but kept s) ≡ bodies_left_out_but kept s)
    × (bodies_left_out_but kept (taken (bodies_left_out_but kept s) bytes) ≡ bodies_left_out_but kept (taken s bytes))
    × (all_but kept (found_in (bodies_left_out_but kept s) bytes) ≡ all_but kept (found_in s bytes))
    × (all_but kept (finished (pushed (bodies_left_out_but kept s) bytes)).found ≡ all_but kept (finished (pushed s bytes)).found)
