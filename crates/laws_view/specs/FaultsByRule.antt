-- The faults of one rule in a report of the monitor.
use Rattle.std.specs.Prelude.{ℕ, ◌==◌, Bool, false, List, filter, Option, Some, None}
use Rattle.monitor.specs.declared.fault.StreamFault.{StreamFault}
use Rattle.monitor.specs.declared.fault.Rule.{Rule}
use Rattle.monitor.specs.InOrder.{rule_number}
use Rattle.monitor.specs.ReportOf.{stream_report}

abbrev pub is_by : ℕ → StreamFault → Bool
is_by number f = rule_number f.rule == number

abbrev pub faults_by : Rule → List StreamFault → List StreamFault
faults_by rule faults = filter (is_by (rule_number rule)) faults

-- what the report on a stream names by a rule, at a rate in bits a second, with a greatest gap of clock references in milliseconds
abbrev pub monitored : Rule → ℕ → ℕ → List ℕ → List StreamFault
monitored rule rate limit bytes = faults_by rule (stream_report rate limit bytes).faults

-- the faults of a PID
unfoldable pub is_pid : ℕ → Option ℕ → Bool
is_pid pid None = false
is_pid pid (Some q) = q == pid

abbrev pub is_on : ℕ → StreamFault → Bool
is_on pid f = is_pid pid f.pid

abbrev pub monitored_on : ℕ → Rule → ℕ → ℕ → List ℕ → List StreamFault
monitored_on pid rule rate limit bytes = filter (is_on pid) (monitored rule rate limit bytes)
