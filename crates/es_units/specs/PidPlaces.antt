-- Where the findings of each PID are.
use Rattle.std.specs.Prelude.{◌≡◌, ◌<◌, ℕ, ◌+◌, if◌then◌else◌, Option, Some, List, [], ◌∷◌, drop, length, map, slice_get}
use Rattle.pid_findings.specs.Views.{FindingView}
use Rattle.demux.specs.Laws.{has_pid}

-- the PIDs of findings
abbrev pub pids_in : List FindingView → List (Option ℕ)
pids_in findings = map (λ (f : FindingView). f.pid) findings

-- the place of the first finding of a PID, if the first of these findings is at `at`; past them all, if none is of the PID
unfoldable pub place_from : ℕ → ℕ → List (Option ℕ) → ℕ
place_from pid at [] = at
place_from pid at (p ∷ ps) = if has_pid pid p then at else place_from pid (at + 1) ps

abbrev pub first_place : ℕ → List (Option ℕ) → ℕ
first_place pid pids = place_from pid 0 pids

-- the next place of a PID after a place
abbrev pub next_place : ℕ → ℕ → List (Option ℕ) → ℕ
next_place pid at pids = place_from pid (at + 1) (drop (at + 1) pids)

-- a place in a walk over the findings of a PID: the place of a finding of the PID, or past all findings
abbrev pub IsOnWay : ℕ → ℕ → List (Option ℕ) → Type 0
IsOnWay pid at pids = at < length pids → slice_get pids at ≡ Some (Some pid)

-- for each PID its first place, and for each place the next place of its PID
pub record LinksView : Type 0 where
  pub firsts : List ℕ
  pub nexts : List ℕ

-- the links of findings that have these PIDs
pub record AreLinks (links : LinksView) (pids : List (Option ℕ)) : Type 0 where
  pub all_pids : length links.firsts ≡ 65_536
  pub all_places : length links.nexts ≡ length pids
  pub first_is : (pid : ℕ) → pid < 65_536 → slice_get links.firsts pid ≡ Some (first_place pid pids)
  pub next_is : (at pid : ℕ) → slice_get pids at ≡ Some (Some pid) → slice_get links.nexts at ≡ Some (next_place pid at pids)
