-- The sections of a PID in the findings of a stream.
use Rattle.std.specs.Prelude.{ℕ, if◌then◌else◌, List, Option, Some, None}
use Rattle.pid_findings.specs.Views.{WhatView, IsSection, FindingView}
use Rattle.demux.specs.Laws.{has_pid}

-- the bytes of a section
unfoldable pub section_bytes : WhatView → Option (List ℕ)
section_bytes (IsSection bytes) = Some bytes
section_bytes _ = None

-- the bytes of a section that is found on a PID
unfoldable pub section_on : ℕ → FindingView → Option (List ℕ)
section_on pid finding = if has_pid pid finding.pid then section_bytes finding.what else None
