-- Packets in a row that do not begin with 0x47: the second of them is a loss of synchronization (ETSI TR 101 290, 5.2.1, 1.1 TS_sync_loss).
use Rattle.std.specs.Prelude.{ℕ, ◌+◌, ◌-◌, ◌^◌, ◌==◌, ◌&&◌, min, if◌then◌else◌, Bool, true, false}
use Rattle.events.specs.declared.check_counts.CheckCounts.{CheckCounts}
use Rattle.events.specs.declared.fault.Fault.{Fault}
use Rattle.events.specs.declared.fault_kind.FaultKind.{FaultKind}
use Rattle.events.specs.declared.fault_kind.FaultKind.TheVariants as kinds
use Rattle.events.specs.CheckCounts.{with_counted}
use Rattle.fault_summary.specs.declared.sync_runs.SyncRun.{SyncRun}

unfoldable pub is_sync_byte : FaultKind → Bool
is_sync_byte kinds.SyncByte = true
is_sync_byte _ = false

abbrev pub no_run : SyncRun
no_run = record { next = 0; packets = 0 }

abbrev pub run_length : SyncRun → ℕ → ℕ
run_length run packet = if run.next == packet then min (run.packets + 1) (2 ^ 64 - 1) else 1

-- with a packet that does not begin with 0x47
abbrev pub with_packet : SyncRun → ℕ → SyncRun
with_packet run packet = record { next = min (packet + 1) (2 ^ 64 - 1); packets = run_length run packet }

abbrev pub with_fault : SyncRun → Fault → SyncRun
with_fault run fault = if is_sync_byte fault.kind then with_packet run fault.packet else run

abbrev pub is_loss : SyncRun → Fault → Bool
is_loss run fault = is_sync_byte fault.kind && (run_length run fault.packet == 2)

-- the loss fails the check that bytes in no packet fail
abbrev pub loss_of : Fault → Fault
loss_of fault = record {
  kind = kinds.Slip;
  source = fault.source;
  packet = fault.packet;
  from = fault.from;
  to = fault.to;
  measured = fault.measured;
}

abbrev pub with_loss : CheckCounts → SyncRun → Fault → CheckCounts
with_loss counts run fault = if is_loss run fault then with_counted counts (loss_of fault) else counts
