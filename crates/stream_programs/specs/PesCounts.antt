-- The counts for each PID in a walk over the findings.
use Rattle.std.specs.Prelude.{◌≡◌, ◌<◌, ℕ, ◌+◌, if◌then◌else◌, List, length, slice_index, slice_set, Option, Some, None}
use Rattle.pid_findings.specs.Views.{FindingView}
use Rattle.stream_programs.specs.StrayPids.{is_pes, pes_count}

-- the PID of a PES packet
unfoldable pub pes_pid : FindingView → Option ℕ
pes_pid finding = if is_pes finding.what then finding.pid else None

-- for each of 65,536 numbers that a PID may have, how many PES packets it has among these
pub record AreCounts (counts : List ℕ) (findings : List FindingView) : Type 0 where
  pub size : length counts ≡ 65_536
  pub each : (pid : ℕ) → pid < 65_536 → slice_index counts pid ≡ pes_count pid findings

-- one more on a PID
unfoldable pub counted_on : List ℕ → Option ℕ → List ℕ
counted_on counts None = counts
counted_on counts (Some pid) = slice_set counts pid (slice_index counts pid + 1)

abbrev pub counted_with : List ℕ → FindingView → List ℕ
counted_with counts finding = counted_on counts (pes_pid finding)
