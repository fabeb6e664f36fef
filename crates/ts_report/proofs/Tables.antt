-- A packet enters the buffers of its PID, if the PID has buffers.
use Rattle.std.proofs.Common.{◌≡◌, ◌∙◌, ℕ, List, [], ◌++◌, Some, None, Result, Ok, Err, refl, ap, append_assoc, nat_eq}
use Rattle.std.specs.Prelude.{OnOk, set, slice_get}
use Rattle.std.specs.Map.{lookup}
use Rattle.ts_packet.specs.Views.{PacketView}
use Rattle.events.specs.declared.event.Event.{Event}
use Rattle.es_events.specs.declared.view_options.ViewOptions.{ViewOptions}
use Rattle.es_events.specs.Clocks.{ClockEntries, clock_of}
use Rattle.es_view.specs.Entries.{EntryState, entry_events}
use Rattle.ts_report.specs.StreamTables.{TableState, entry_taken, events_of, taken}

-- The PID has no buffers.
pub taken_none : (options : ViewOptions) (index window : ℕ) (clocks : ClockEntries) (t : TableState) (packet : PacketView) (place : ℕ) →
    lookup (nat_eq packet.header.pid) t.places ≡ Some place → slice_get t.entries place ≡ None → taken options index window clocks t packet ≡ t
unfolding Rattle.ts_report.specs.StreamTables.taken_if Rattle.ts_report.specs.StreamTables.taken_at
taken_none options index window clocks t packet place p q = rw (p, q) refl

pub events_none : (options : ViewOptions) (index : ℕ) (clocks : ClockEntries) (t : TableState) (packet : PacketView) (place : ℕ) →
    lookup (nat_eq packet.header.pid) t.places ≡ Some place → slice_get t.entries place ≡ None → events_of options index clocks t packet ≡ []
unfolding Rattle.ts_report.specs.StreamTables.events_if Rattle.ts_report.specs.StreamTables.events_in
events_none options index clocks t packet place p q = rw (p, q) refl

-- The PID has buffers.
pub taken_some : (options : ViewOptions) (index window : ℕ) (clocks : ClockEntries) (t : TableState) (packet : PacketView) (place : ℕ) (e : EntryState) →
    lookup (nat_eq packet.header.pid) t.places ≡ Some place → slice_get t.entries place ≡ Some e →
    taken options index window clocks t packet ≡ record t { entries = set t.entries place (entry_taken options index window clocks packet e) }
unfolding Rattle.ts_report.specs.StreamTables.taken_if Rattle.ts_report.specs.StreamTables.taken_at
taken_some options index window clocks t packet place e p q = rw (p, q) refl

pub events_some : (options : ViewOptions) (index : ℕ) (clocks : ClockEntries) (t : TableState) (packet : PacketView) (place : ℕ) (e : EntryState) →
    lookup (nat_eq packet.header.pid) t.places ≡ Some place → slice_get t.entries place ≡ Some e →
    events_of options index clocks t packet ≡ entry_events options index (clock_of clocks e.clock_pid) e packet
unfolding Rattle.ts_report.specs.StreamTables.events_if Rattle.ts_report.specs.StreamTables.events_in
events_some options index clocks t packet place e p q = rw (p, q) refl
