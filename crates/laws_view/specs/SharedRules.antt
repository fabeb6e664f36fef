-- Rules that both programs judge alike: what the report of the monitor names by one, and what the events of `tsview` are by it.
use Rattle.std.specs.Prelude.{◌≡◌, ℕ, ◌/◌, ◌-◌, ◌^◌, ◌<◌, ◌≤◌, List, length}
use Rattle.arrival.specs.declared.arrival.Arrival.TheVariants.{AtRate}
use Rattle.ts_watch.specs.Choices.{RequestView}
use Rattle.monitor.specs.declared.fault.Rule.{Rule}
use Rattle.monitor.specs.declared.fault.Rule.TheVariants as rules
use Rattle.monitor.specs.InOrder.{in_order}
use Rattle.laws_view.specs.FaultsByRule.{monitored}
use Rattle.laws_view.specs.ViewedFaults.{viewed, viewed_before_end}

-- by a rule the monitor names just what `tsview` finds, in its own order and each once, whatever rates and limits either is given
abbrev pub IsShared : Rule → Type 0
IsShared rule = (rate limit : ℕ) (request : RequestView) (bytes : List ℕ) → length bytes / 188 < 2 ^ 64 - 1 →
    monitored rule rate limit bytes ≡ in_order (viewed rule request bytes)

-- clock references are judged alike at one rate, in the first 2^40 bytes, where the monitor is given the limit of `tsview`: 100 ms (ISO/IEC
-- 13818-1, 2.7.2); at the end `tsview` finds those that have stopped too
abbrev pub PcrLaw : Type 0
PcrLaw = (rate : ℕ) (request : RequestView) (bytes : List ℕ) → request.options.arrival ≡ AtRate rate → 0 < rate → length bytes ≤ 2 ^ 40 →
    monitored rules.Pcr rate 100 bytes ≡ in_order (viewed_before_end rules.Pcr request bytes)
