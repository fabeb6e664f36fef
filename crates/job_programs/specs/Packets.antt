-- Whether a stream has packets of 188 bytes (ISO/IEC 13818-1, 2.4.3.2).
use Rattle.std.specs.Prelude.{ℕ, ◌/◌, nat_lt, Bool, true, false, if◌then◌else◌, List, count_by, Option, Some, None}
use Rattle.pid_findings.specs.Views.{WhatView, IsBadPacket, FindingView}
use Rattle.job_programs.specs.declared.refusal.JobRefusal.{JobRefusal}
use Rattle.job_programs.specs.declared.refusal.JobRefusal.TheVariants.{NoPackets}

-- 188 bytes that are no packet
unfoldable pub is_bad : WhatView → Bool
is_bad (IsBadPacket error) = true
is_bad _ = false

abbrev pub bad_packets : List FindingView → ℕ
bad_packets findings = count_by (λ finding. is_bad finding.what) findings

-- more than half of `count` are none
unfoldable pub no_packets : ℕ → List FindingView → Option JobRefusal
no_packets count findings = if nat_lt (count / 2) (bad_packets findings) then Some NoPackets else None
