-- PIDs for the maps and clocks of programs, such as no stream has.
use Rattle.std.specs.Prelude.{◌≤◌, ℕ, ◌||◌, nat_eq, if◌then◌else◌, List, [], ◌∷◌, ◌++◌, map, Option, Some, option_and_then}
use Rattle.std.specs.List.{All, IsDistinct}
use Rattle.stream_programs.specs.FreePids.{is_taken, least_free}
use Rattle.stream_programs.specs.Programs.{FoundProgramsView}
use Rattle.stream_programs.specs.Streams.{is_reserved}
use Rattle.stream_programs.specs.declared.pid_assignment.ProgramPids.{ProgramPids}

-- the PIDs of streams and of sections
abbrev pub stream_pids : FoundProgramsView → List ℕ
stream_pids found = map (λ s. s.pid) found.streams ++ map (λ s. s.pid) found.tables

abbrev pub map_pids : FoundProgramsView → List ℕ
map_pids found = map (λ p. p.map_pid) found.programs

-- 1. Maps

-- the PID of a map, beside the PIDs of streams and the PIDs given before: its own, if a stream might have it and none of these has it;
-- otherwise the least free PID from 32 on
unfoldable pub assigned_map_pid : List ℕ → List ℕ → List ℕ → ℕ → Option ℕ
assigned_map_pid streams given taken pid = if is_reserved pid || (is_taken pid streams || is_taken pid given) then least_free 32 taken else Some pid

-- the PIDs given before, and the PIDs of further maps in order; taken are the PIDs of streams, of all maps, and the PIDs given before
unfoldable pub assigned_map_pids : List ℕ → List ℕ → List ℕ → List ℕ → Option (List ℕ)
assigned_map_pids streams maps given [] = Some given
assigned_map_pids streams maps given (pid ∷ pids) =
    option_and_then (λ place. assigned_map_pids streams maps (given ++ place ∷ []) pids) (assigned_map_pid streams given ((streams ++ maps) ++ given) pid)

-- 2. Clocks

-- the places given before, and for each further map the least PID from 256 on that nothing before it has
unfoldable pub with_pcr_pids : List ℕ → List ProgramPids → List ℕ → Option (List ProgramPids)
with_pcr_pids used given [] = Some given
with_pcr_pids used given (place ∷ places) =
    option_and_then (λ clock. with_pcr_pids (used ++ clock ∷ []) (given ++ record { map_pid = place; pcr_pid = clock } ∷ []) places) (least_free 256 used)

-- 3. Both, for each program

unfoldable pub assigned_pids : FoundProgramsView → Option (List ProgramPids)
assigned_pids found =
    option_and_then (λ maps. with_pcr_pids (stream_pids found ++ maps) [] maps) (assigned_map_pids (stream_pids found) (map_pids found) [] (map_pids found))

-- 4. The PIDs of all

-- the PIDs of maps, of clocks and of streams, as a description names them
abbrev pub all_pids : List ProgramPids → List ℕ → List ℕ
all_pids places streams = map (λ p. p.map_pid) places ++ map (λ p. p.pcr_pid) places ++ streams

-- neither a fixed PID of tables nor the PID of null packets
pub record IsPid (pid : ℕ) : Type 0 where
  pub low : 32 ≤ pid
  pub high : pid ≤ 8190

-- each is such a PID, and no two are equal
pub record AreDistinctPids (pids : List ℕ) : Type 0 where
  pub range : All IsPid pids
  pub apart : IsDistinct nat_eq pids
