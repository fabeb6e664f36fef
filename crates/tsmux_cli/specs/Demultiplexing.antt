-- `demux`: a line for each finding.
use Rattle.std.specs.Prelude.{◌≡◌, ℕ, ◌++◌, Bool, List, [], if◌then◌else◌, Result, Ok, Err}
use Rattle.pid_findings.specs.Views.{FindingView}
use Rattle.demux.specs.Stream.{StreamState, start, ended_found, held_found, pushed, finished}
use Rattle.demux.specs.FoundSoFar.{with_found}
use Rattle.demux.specs.StreamBodies.{HeadersSoFar, headers_pushed}
use Rattle.devices.specs.Devices.{Device}
use Rattle.devices.specs.Outcomes.{Outcome}
use Rattle.devices.specs.WholeInput.{ReadsInput}
use Rattle.devices.specs.declared.halt.Halt.{Halt}
use Rattle.devices.specs.declared.halt.Halt.TheVariants.{Memory}
use Rattle.tsmux_cli.specs.FindingLines.{finding_lines, has_fault}

-- the findings in a whole stream
abbrev pub findings_of : List ℕ → List FindingView
findings_of bytes = (finished (pushed start bytes)).found

-- a line a finding; a fault among them makes the status 1
unfoldable pub demultiplexed : List ℕ → Outcome
demultiplexed bytes = record { output = finding_lines (findings_of bytes); report = []; status = if has_fault (findings_of bytes) then 1 else 0 }

abbrev pub Demultiplexes : List ℕ → Outcome → Type 0
Demultiplexes bytes outcome = outcome ≡ demultiplexed bytes

-- after some bytes of a stream, whose findings are taken away as they come: the lines of all that is found so far. No line needs a body
pub record ListsSome (bytes : List ℕ) (demux : StreamState) (faulty : Bool) (lines : List ℕ) : Type 0 where
  pub found : List FindingView
  pub so_far : HeadersSoFar bytes demux found
  pub faults : faulty ≡ has_fault found
  pub lines_are : lines ≡ finding_lines found

-- the lines of the findings in the next piece follow the earlier lines, and no other copy of the findings is kept
pub record ListsBytes (piece : List ℕ) (before after : StreamState) (lines more : List ℕ) (faulty : Bool) : Type 0 where
  pub state : after ≡ with_found [] (headers_pushed before piece)
  pub faults : faulty ≡ has_fault (pushed before piece).found
  pub lines_are : more ≡ lines ++ finding_lines (pushed before piece).found

abbrev pub ListsPiece : List ℕ → StreamState → StreamState → List ℕ → List ℕ → Result Bool Halt → Type 0
ListsPiece piece before after lines more (Ok faulty) = ListsBytes piece before after lines more faulty
ListsPiece piece before after lines more (Err halt) = halt ≡ Memory

-- the findings at the end of a stream: for the bytes of a packet that is not whole, then for each PID
abbrev pub found_at_end : StreamState → List FindingView
found_at_end s = held_found s.packets s.held ++ ended_found s.packets s.states

-- the whole input was read, and all its findings are listed
pub record ListsWhole (input : Device) (lines : List ℕ) (faulty : Bool) : Type 0 where
  pub bytes : List ℕ
  pub read : ReadsInput input (Ok bytes)
  pub faults : faulty ≡ has_fault (findings_of bytes)
  pub lines_are : lines ≡ finding_lines (findings_of bytes)
