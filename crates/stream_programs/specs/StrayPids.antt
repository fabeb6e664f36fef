-- PIDs with PES packets that no program has.
use Rattle.std.specs.Prelude.{ℕ, ◌+◌, Bool, true, false, ◌&&◌, ◌||◌, if◌then◌else◌, List, [], ◌∷◌, ◌++◌, map, flat_map, Option, Some, None}
use Rattle.pid_findings.specs.Views.{WhatView, IsPes, FindingView}
use Rattle.demux.specs.Laws.{has_pid}
use Rattle.stream_programs.specs.FreePids.{is_taken}
use Rattle.stream_programs.specs.Programs.{FoundProgramsView}
use Rattle.stream_programs.specs.declared.omission.TableOmission.{TableOmission}
use Rattle.stream_programs.specs.declared.omission.TableOmission.TheVariants.{NoMap, ConditionalAccess, Multiplex, NoPes, Reserved, Taken, SharedOtherwise}
use Rattle.stream_programs.specs.declared.omission.TableOmission.TheVariants.{NoStream}

-- 1. The PIDs that maps name

-- the PID of a stream that is left out
unfoldable pub omitted_pid : TableOmission → List ℕ
omitted_pid (NoPes program pid stream_type) = pid ∷ []
omitted_pid (Reserved program pid) = pid ∷ []
omitted_pid (Taken program pid holder) = pid ∷ []
omitted_pid (SharedOtherwise program pid holder) = []
omitted_pid (NoMap program) = []
omitted_pid (ConditionalAccess program) = []
omitted_pid (Multiplex program) = []
omitted_pid (NoStream program) = []

abbrev pub mapped_pids : FoundProgramsView → List ℕ
mapped_pids found = map (λ s. s.pid) found.streams ++ flat_map omitted_pid found.left_out

-- 2. PIDs that no map names

unfoldable pub is_pes : WhatView → Bool
is_pes (IsPes header unended body) = true
is_pes _ = false

-- a PID, if it is neither known nor found before
unfoldable pub unknown_pid : List ℕ → List ℕ → Option ℕ → List ℕ
unknown_pid known found None = []
unknown_pid known found (Some pid) = if is_taken pid known || is_taken pid found then [] else pid ∷ []

-- the stray PID of a PES packet
unfoldable pub stray_pid : List ℕ → List ℕ → FindingView → List ℕ
stray_pid known found finding = if is_pes finding.what then unknown_pid known found finding.pid else []

-- the stray PIDs of all PES packets in order, each once
unfoldable pub stray_pids : List ℕ → List ℕ → List FindingView → List ℕ
stray_pids known found [] = found
stray_pids known found (finding ∷ findings) = stray_pids known (found ++ stray_pid known found finding) findings

-- the number of PES packets of a PID
unfoldable pub pes_number : ℕ → FindingView → ℕ
pes_number pid finding = if has_pid pid finding.pid && is_pes finding.what then 1 else 0

unfoldable pub pes_count : ℕ → List FindingView → ℕ
pes_count pid [] = 0
pes_count pid (finding ∷ findings) = pes_number pid finding + pes_count pid findings
