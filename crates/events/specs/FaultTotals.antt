-- The totals of the faults of a kind at one place.
use Rattle.std.specs.Prelude.{ℕ, nat_lt, if◌then◌else◌, Bool, Option, Some, None}
use Rattle.events.specs.declared.check_counts.TheConstants.{NO_FAULT}
use Rattle.events.specs.declared.fault.Fault.{Fault}
use Rattle.events.specs.declared.fault.Measured.{Measured}
use Rattle.events.specs.declared.fault_kind.FaultKind.{FaultKind}
use Rattle.events.specs.declared.fault_kind.FaultKind.TheVariants as kinds
use Rattle.events.specs.declared.summary.FaultTotals.{FaultTotals}
use Rattle.events.specs.CheckCounts as counts

-- a time that is too short is worse if it is shorter, any other value if it is greater
unfoldable pub is_worse : FaultKind → ℕ → ℕ → Bool
is_worse kinds.SectionDistance value than = nat_lt value than
is_worse _ value than = nat_lt than value

-- the worse value; the first of equal values
unfoldable pub worst_of : FaultKind → Option Measured → Option Measured → Option Measured
worst_of kind None next = next
worst_of kind (Some before) None = Some before
worst_of kind (Some before) (Some next) = if is_worse kind next.value before.value then Some next else Some before

abbrev pub totals_of : Fault → FaultTotals
totals_of fault = record { kind = fault.kind; source = fault.source; count = counts.with_fault NO_FAULT fault; worst = fault.measured }

abbrev pub with_fault : FaultTotals → Fault → FaultTotals
with_fault t fault = record { kind = t.kind; source = t.source; count = counts.with_fault t.count fault; worst = worst_of t.kind t.worst fault.measured }
