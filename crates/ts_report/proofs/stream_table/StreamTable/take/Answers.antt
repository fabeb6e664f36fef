use Rattle.std.proofs.Common.{refl, length, ◌≡◌, ◌∙◌, sym, ℕ, List, ◌++◌, Option, Some, None, ap, subst, append-nil, nat_eq}
use Rattle.std.specs.Prelude.{OnOk, set, slice_get}
use Rattle.std.specs.Map.{lookup}
use Rattle.std.proofs.lemmas.Option.{slice_get_past, slice_get_read}
use Rattle.arrival.specs.declared.clock.PcrSample.{PcrSample}
use Rattle.ts_packet.specs.Views.{packet_view}
use Rattle.events.specs.declared.event.Event.{Event}
use Rattle.es_events.specs.Clocks.{clock_of}
use Rattle.es_view.specs.Entries.{IsEntry, entry_after, entry_events}
use Rattle.ts_report.specs.StreamTables.{AreEntries, TableState}
use Rattle.ts_report.proofs.Entries.{none_at, set_at, some_at}
use Rattle.ts_report.proofs.Tables.{events_none, events_some, taken_none, taken_some}
use Rattle.es_events.proofs.Joins.{on_ok}
use Rattle.ts_report.proofs.stream_table.StreamTable.take.Goals as goal

pub returns-in_default-get_mut-clause-table : goal.returns-in_default-get_mut-clause-table
returns-in_default-get_mut-clause-table c = λ t k.
    let packet = packet_view c.args.packet.now in
    let found : lookup (nat_eq packet.header.pid) c.args.self.now.places.entries ≡ Some c.in-Some.place =
    sym c.place_of.ensures.place ∙ c.in-Some.is in
    let none : slice_get c.args.self.now.entries.items c.in-Some.place ≡ None =
    slice_get_past c.args.self.now.entries.items c.in-Some.place c.in_default-get_mut.ensures.item.3 in
    let last = taken_none c.args.options.now c.args.index c.args.window c.args.clocks.now t packet c.in-Some.place
    (ap (λ (m : List (ℕ × ℕ)). lookup (nat_eq packet.header.pid) m) (sym k.places) ∙ found)
    (none_at c.args.self.now.entries.items t.entries c.in-Some.place k.entries none) in
    record {
      choice = k.choice ∙ ap (λ (x : TableState). x.choice) (sym last);
      places = c.place_of.ensures.same ∙ k.places ∙ ap (λ (x : TableState). x.places) (sym last);
      entries = subst (λ (x : TableState). AreEntries c.args.self.now.entries.items x.entries) (sym last) k.entries;
    }

pub returns-in_default-get_mut-clause-found : goal.returns-in_default-get_mut-clause-found
returns-in_default-get_mut-clause-found c = λ t k.
    let packet = packet_view c.args.packet.now in
    let found : lookup (nat_eq packet.header.pid) c.args.self.now.places.entries ≡ Some c.in-Some.place =
    sym c.place_of.ensures.place ∙ c.in-Some.is in
    let none : slice_get c.args.self.now.entries.items c.in-Some.place ≡ None =
    slice_get_past c.args.self.now.entries.items c.in-Some.place c.in_default-get_mut.ensures.item.3 in
    sym (append-nil (c.args.events.now.items)) ∙ ap (λ (l : List Event). c.args.events.now.items ++ l)
    (sym (events_none c.args.options.now c.args.index c.args.clocks.now t packet c.in-Some.place
    (ap (λ (m : List (ℕ × ℕ)). lookup (nat_eq packet.header.pid) m) (sym k.places) ∙ found)
    (none_at c.args.self.now.entries.items t.entries c.in-Some.place k.entries none)))

pub returns-clause-table : goal.returns-clause-table
returns-clause-table c = λ t k.
    let packet = packet_view c.args.packet.now in
    let place = c.in-Some.place in
    let entry = c.in-Some-get_mut.entry.now in
    let found : lookup (nat_eq packet.header.pid) c.args.self.now.places.entries ≡ Some place =
    sym c.place_of.ensures.place ∙ c.in-Some.is in
    let at : slice_get c.args.self.now.entries.items place ≡ Some entry =
    slice_get_read c.args.self.now.entries.items (length c.args.self.now.entries.items) place entry refl c.in-Some-get_mut.ensures.item.3.0
    c.in-Some-get_mut.ensures.value in
    let s = some_at c.args.self.now.entries.items t.entries place entry k.entries at in
    let held = ap (λ (m : List (ℕ × ℕ)). lookup (nat_eq packet.header.pid) m) (sym k.places) ∙ found in
    let clock : c.last-clock.result ≡ clock_of c.args.clocks.now s.entry.clock_pid =
    c.last-clock.ensures ∙ ap (λ (p : ℕ). clock_of c.args.clocks.now p) s.is.clock_pid in
    let taken : OnOk c.take.result
    (IsEntry c.take.new.self (entry_after c.args.options.now c.args.index c.args.window (clock_of c.args.clocks.now s.entry.clock_pid) s.entry packet)) =
    subst (λ (x : Option PcrSample). OnOk c.take.result (IsEntry c.take.new.self (entry_after c.args.options.now c.args.index c.args.window x s.entry packet)))
    clock
    (c.take.ensures.entry s.entry s.is) in
    let last = taken_some c.args.options.now c.args.index c.args.window c.args.clocks.now t packet place s.entry held s.at in
    on_ok c.take.result (λ i. record {
      choice = k.choice ∙ ap (λ (x : TableState). x.choice) (sym last);
      places = c.place_of.ensures.same ∙ k.places ∙ ap (λ (x : TableState). x.places) (sym last);
      entries = subst (λ (x : TableState). AreEntries (set c.args.self.now.entries.items place c.take.new.self) x.entries) (sym last)
          (set_at c.args.self.now.entries.items t.entries place c.take.new.self _ k.entries i);
    }) taken

pub returns-clause-found : goal.returns-clause-found
returns-clause-found c = λ t k.
    let packet = packet_view c.args.packet.now in
    let place = c.in-Some.place in
    let entry = c.in-Some-get_mut.entry.now in
    let found : lookup (nat_eq packet.header.pid) c.args.self.now.places.entries ≡ Some place =
    sym c.place_of.ensures.place ∙ c.in-Some.is in
    let at : slice_get c.args.self.now.entries.items place ≡ Some entry =
    slice_get_read c.args.self.now.entries.items (length c.args.self.now.entries.items) place entry refl c.in-Some-get_mut.ensures.item.3.0
    c.in-Some-get_mut.ensures.value in
    let s = some_at c.args.self.now.entries.items t.entries place entry k.entries at in
    let held = ap (λ (m : List (ℕ × ℕ)). lookup (nat_eq packet.header.pid) m) (sym k.places) ∙ found in
    let clock : c.last-clock.result ≡ clock_of c.args.clocks.now s.entry.clock_pid =
    c.last-clock.ensures ∙ ap (λ (p : ℕ). clock_of c.args.clocks.now p) s.is.clock_pid in
    let lines = ap (λ (x : Option PcrSample). entry_events c.args.options.now c.args.index x s.entry packet) clock
    ∙ sym (events_some c.args.options.now c.args.index c.args.clocks.now t packet place s.entry held s.at) in
    on_ok c.take.result (λ e. e ∙ ap (λ (l : List Event). c.args.events.now.items ++ l) lines) (c.take.ensures.found s.entry s.is)
