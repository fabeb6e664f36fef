-- The state of a stream that keeps only the headers of open PES packets, and the number of bytes of each body. Zeros in the same number take the place
-- of a body.
use Rattle.std.specs.Prelude.{◌≡◌, ℕ, false, List, [], ◌++◌, map}
use Rattle.pid_findings.specs.Views.{FindingView}
use Rattle.demux.specs.Stream.{States, StreamState, start, taken, found_in, held_found, ended_found, pushed, finished}
use Rattle.demux.specs.FoundSoFar.{with_found}
use Rattle.pid_findings.specs.Bodies.{all_without_body, state_without_body}

abbrev pub states_without_bodies : States → States
states_without_bodies states = map (λ entry. (entry.0, state_without_body entry.1)) states

-- a stream whose open PES packets have no bodies
abbrev pub bodies_left_out : StreamState → StreamState
bodies_left_out s = record s { states = states_without_bodies s.states }

-- a stream without bodies, in its states and in its findings
abbrev pub without_bodies : StreamState → StreamState
without_bodies s = record s { states = states_without_bodies s.states; found = all_without_body s.found }

-- after a packet, and after a piece
abbrev pub headers_taken : StreamState → List ℕ → StreamState
headers_taken s bytes = without_bodies (taken s bytes)

abbrev pub headers_pushed : StreamState → List ℕ → StreamState
headers_pushed s bytes = without_bodies (pushed s bytes)

-- findings are followed by these, besides bodies
abbrev pub AddsHeaders : List FindingView → List FindingView → List FindingView → Type 0
AddsHeaders old new found = all_without_body new ≡ all_without_body old ++ all_without_body found

-- after these bytes of a stream whose findings are taken away as they come: the state, none of whose findings are left, and all that was found
-- so far
pub record HeadersSoFar (bytes : List ℕ) (s : StreamState) (found : List FindingView) : Type 0 where
  pub none : s.found ≡ []
  pub unended : s.ended ≡ false
  pub state : without_bodies (pushed start bytes) ≡ with_found (all_without_body found) s

-- What the laws say

-- for a stream: the same by a packet, by a piece and by the end of the stream, whatever bodies were left out before
abbrev pub HeadersAlone : Type 0
HeadersAlone = (s : StreamState) (bytes : List ℕ) →
    (without_bodies (bodies_left_out s) ≡ without_bodies s)
    × (without_bodies (taken (without_bodies s) bytes) ≡ without_bodies (taken s bytes))
    × (all_without_body (found_in (without_bodies s) bytes) ≡ all_without_body (found_in s bytes))
    × (without_bodies (pushed (without_bodies s) bytes) ≡ without_bodies (pushed s bytes))
    × (without_bodies (finished (without_bodies s)) ≡ without_bodies (finished s))

-- the findings of a stream, taken away after each piece: none before the first byte, then the findings of each piece, and of the end; together they are
-- all findings
abbrev pub HeadersAreFound : Type 0
HeadersAreFound = (bytes piece : List ℕ) (s : StreamState) (found : List FindingView) → HeadersSoFar bytes s found →
    (HeadersSoFar (bytes ++ piece) (with_found [] (headers_pushed s piece)) (found ++ (pushed s piece).found))
    × (all_without_body (finished (pushed start bytes)).found
    ≡ all_without_body (found ++ (held_found s.packets s.held ++ ended_found s.packets s.states)))

abbrev pub NoHeadersAtFirst : Type 0
NoHeadersAtFirst = HeadersSoFar [] start []
